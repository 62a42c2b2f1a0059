use Rattle.live_cables.proofs.Played.{nothing_lost, nothing_played}
use Rattle.live_cables.proofs.laws.nothing_plays.Goals as goal

pub returns : goal.returns
returns c = λ seats losing t. (nothing_played seats losing t, nothing_lost seats losing t)
