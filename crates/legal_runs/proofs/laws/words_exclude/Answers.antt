use Rattle.legal_runs.proofs.laws.words_exclude.Goals as goal
use Rattle.legal_runs.proofs.Refused.{not_asked_alone, not_dropped_too, not_elsewhere, not_from_all, not_gone, not_many_hops, not_nowhere}
use Rattle.legal_runs.proofs.Refused.{not_out_of_hops, not_passed_back, not_put_from_afar, not_reached_alone}
use Rattle.legal_runs.proofs.Refused.{not_reached_elsewhere, not_reached_from_afar}
use Rattle.legal_runs.proofs.Refused.{not_dropped_on_its_way, not_dropped_twice, not_reached_unlisted, not_same_hops, not_taken_from_afar}
use Rattle.legal_runs.proofs.Refused.{not_taken_twice}
use Rattle.legal_runs.proofs.Refused.{without}
use Rattle.legal_runs.specs.Illegal.{asked_alone, dropped_on_its_way, dropped_too, dropped_twice, gone, looked_elsewhere, looked_nowhere}
use Rattle.legal_runs.specs.Illegal.{many_hops, out_of_hops, passed_back, passed_from_all, put_from_afar, reached_alone, reached_elsewhere}
use Rattle.legal_runs.specs.Illegal.{reached_from_afar, reached_unlisted, same_hops, taken_from_afar, taken_twice}

pub returns : goal.returns
returns c = record {
  reached = without reached_alone not_reached_alone;
  elsewhere = without reached_elsewhere not_reached_elsewhere;
  dropped = without dropped_too not_dropped_too;
  afar = (without reached_from_afar not_reached_from_afar, without put_from_afar not_put_from_afar);
  taken = without taken_twice not_taken_twice;
  taken_afar = without taken_from_afar not_taken_from_afar;
  heard = without passed_from_all not_from_all;
  handed = without passed_back not_passed_back;
  hops = (without same_hops not_same_hops, without many_hops not_many_hops);
  unlisted = (without gone not_gone, without (reached_unlisted 0) not_reached_unlisted, without out_of_hops not_out_of_hops);
  unlisted_twice = (without dropped_twice not_dropped_twice, without dropped_on_its_way not_dropped_on_its_way);
  looked = without looked_elsewhere not_elsewhere;
  not_looked = without looked_nowhere not_nowhere;
  asked = without asked_alone not_asked_alone;
}
