use Rattle.std.proofs.Common.{arith}
use Rattle.table_image.proofs.CheckedParts.{none_size, none_value, some_size, some_value}
use Rattle.table_image.proofs.node.own_router_size.Goals as goal

pub returns-in-None-clause-size : goal.returns-in-None-clause-size
returns-in-None-clause-size c = rw c.in-None.is none_size

pub returns-in-None-clause-value : goal.returns-in-None-clause-value
returns-in-None-clause-value c = rw c.in-None.is none_value

pub returns-in-Some-clause-size : goal.returns-in-Some-clause-size
returns-in-Some-clause-size c = rw c.in-Some.is (some_size c.in-Some.address)

pub returns-in-Some-clause-value : goal.returns-in-Some-clause-value
returns-in-Some-clause-value c = rw c.in-Some.is (some_value c.in-Some.address (omega arith) (omega arith))
