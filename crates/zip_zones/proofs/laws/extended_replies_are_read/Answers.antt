use Rattle.zip_zones.proofs.ReadBack.{extended_read}
use Rattle.zip_zones.proofs.laws.extended_replies_are_read.Goals as goal

pub returns : goal.returns
returns c = extended_read
