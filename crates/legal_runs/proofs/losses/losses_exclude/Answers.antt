use Rattle.legal_runs.proofs.losses.losses_exclude.Goals as goal
use Rattle.legal_runs.proofs.RefusedLosses.{not_falling, not_lost_after, not_lost_twice, not_same_stamp, not_taken_after, not_unknown}

pub returns : goal.returns
returns c = record {
  twice = not_lost_twice;
  after = not_lost_after;
  unknown = not_unknown;
  taken = not_taken_after;
  same = not_same_stamp;
  falls = not_falling;
}
