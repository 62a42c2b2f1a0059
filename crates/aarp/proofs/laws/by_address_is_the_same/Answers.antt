use Rattle.aarp.proofs.Ordered.{as_many, same_mapping}
use Rattle.aarp.proofs.laws.by_address_is_the_same.Goals as goal

pub returns : goal.returns
returns c = record { same = same_mapping; number = as_many }
