use Rattle.frozen.proofs.AtRest.{at_rest_heard, at_rest_unheld}
use Rattle.frozen.proofs.laws.every_datagram_is_heard.Goals as goal

pub returns : goal.returns
returns c = record {
  none_held = at_rest_unheld;
  heard = at_rest_heard;
}
