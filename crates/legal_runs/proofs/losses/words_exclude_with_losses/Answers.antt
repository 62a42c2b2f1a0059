use Rattle.legal_runs.proofs.losses.words_exclude_with_losses.Goals as goal
use Rattle.legal_runs.proofs.Refused.{not_asked_alone, not_dropped_too, not_elsewhere, not_from_all, not_gone, not_many_hops, not_nowhere}
use Rattle.legal_runs.proofs.Refused.{not_out_of_hops, not_passed_back, not_put_from_afar, not_reached_alone}
use Rattle.legal_runs.proofs.Refused.{not_reached_elsewhere, not_reached_from_afar}
use Rattle.legal_runs.proofs.Refused.{not_dropped_on_its_way, not_dropped_twice, not_reached_unlisted, not_same_hops, not_taken_from_afar}
use Rattle.legal_runs.proofs.Refused.{not_taken_twice}

pub returns : goal.returns
returns c = record {
  reached = not_reached_alone;
  elsewhere = not_reached_elsewhere;
  dropped = not_dropped_too;
  afar = (not_reached_from_afar, not_put_from_afar);
  taken = not_taken_twice;
  taken_afar = not_taken_from_afar;
  heard = not_from_all;
  handed = not_passed_back;
  hops = (not_same_hops, not_many_hops);
  unlisted = (not_gone, not_reached_unlisted, not_out_of_hops);
  unlisted_twice = (not_dropped_twice, not_dropped_on_its_way);
  looked = not_elsewhere;
  not_looked = not_nowhere;
  asked = not_asked_alone;
}
