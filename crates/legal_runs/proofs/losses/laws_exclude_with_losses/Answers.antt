use Rattle.std.proofs.Common.{refl}
use Rattle.legal_runs.proofs.losses.laws_exclude_with_losses.Goals as goal
use Rattle.legal_runs.proofs.Excluded.{lossy_alone, lossy_asked_alone, lossy_dropped_on_its_way, lossy_dropped_too, lossy_dropped_twice, lossy_elsewhere}
use Rattle.legal_runs.proofs.Excluded.{lossy_forward_elsewhere, lossy_forward_lost_elsewhere}
use Rattle.legal_runs.proofs.Excluded.{lossy_from_all, lossy_gone, lossy_looked_elsewhere, lossy_looked_nowhere, lossy_out_of_hops, lossy_taken_twice}
use Rattle.legal_runs.proofs.Excluded.{lossy_unlisted}

pub returns : goal.returns
returns c = record {
  counted = (lossy_alone, lossy_taken_twice, lossy_from_all);
  elsewhere = lossy_elsewhere;
  kept = lossy_dropped_too;
  unlisted = (lossy_gone, lossy_unlisted 0 refl, lossy_unlisted 2 refl, lossy_out_of_hops);
  unlisted_twice = (lossy_dropped_twice, lossy_dropped_on_its_way);
  asked = lossy_asked_alone;
  looked = (lossy_looked_elsewhere, lossy_forward_elsewhere, lossy_forward_lost_elsewhere, lossy_looked_nowhere);
}
