use Rattle.zip_zones.proofs.ReadBack.{query_read}
use Rattle.zip_zones.proofs.laws.queries_are_read.Goals as goal

pub returns : goal.returns
returns c = query_read
