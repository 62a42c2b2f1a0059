use Rattle.std.proofs.Common.{arith}
use Rattle.station.proofs.Values.{all_bytes}
use Rattle.station.proofs.laws.slices_have_bytes.Goals as goal

pub returns : goal.returns
returns c = all_bytes c.args.bytes.now (λ i. omega (arith, c.type_inv.bytes i))
