use Rattle.std.proofs.Common.{refl}
use Rattle.legal_runs.proofs.laws.laws_exclude.Goals as goal
use Rattle.legal_runs.proofs.Excluded.{at_most_fifteen, out_of_many_hops, plain_alone, plain_asked_alone, plain_dropped_on_its_way, plain_dropped_too, plain_dropped_twice}
use Rattle.legal_runs.proofs.Excluded.{plain_elsewhere, plain_forward_elsewhere, plain_from_all, plain_gone, plain_looked_elsewhere, plain_looked_nowhere, plain_out_of_hops}
use Rattle.legal_runs.proofs.Excluded.{plain_taken_twice, plain_unlisted, uncarried_from_afar, uncarried_hops, unhanded, unput_from_afar}
use Rattle.legal_runs.proofs.Excluded.{untaken_from_afar, untaken_unput}

pub returns : goal.returns
returns c = record {
  counted = (plain_alone, plain_taken_twice, plain_from_all);
  elsewhere = plain_elsewhere;
  kept = plain_dropped_too;
  unlisted = (plain_gone, plain_unlisted 0 refl, plain_unlisted 2 refl, plain_out_of_hops);
  unlisted_twice = (plain_dropped_twice, plain_dropped_on_its_way);
  hops = out_of_many_hops;
  carried = (uncarried_from_afar, unput_from_afar, uncarried_hops);
  fifteen = at_most_fifteen;
  taken = (untaken_from_afar, untaken_unput);
  handed = unhanded;
  asked = plain_asked_alone;
  looked = (plain_looked_elsewhere, plain_forward_elsewhere, plain_looked_nowhere);
}
