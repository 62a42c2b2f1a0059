use Rattle.capture_feed.proofs.First.{comes}
use Rattle.capture_feed.proofs.laws.first_block_comes.Goals as goal

pub returns : goal.returns
returns c = λ s new bytes rest t blocks first. comes s new bytes rest t first blocks
