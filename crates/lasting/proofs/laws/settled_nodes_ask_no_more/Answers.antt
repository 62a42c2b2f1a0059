use Rattle.lasting.proofs.Silence.{fall_silent}
use Rattle.lasting.proofs.laws.settled_nodes_ask_no_more.Goals as goal

pub returns : goal.returns
returns c = λ w vs run have ticks enough. fall_silent w vs run have ticks enough
