use Rattle.resolved_runs.proofs.laws.words_exclude_with_resolution.Goals as goal
use Rattle.resolved_runs.proofs.Refused.{not_answered_for_another, not_asked_again, not_asked_for_each, not_given_up_put}
use Rattle.resolved_runs.proofs.Refused.{not_held_though_mapped, not_learnt_from_request, not_new_stamp, not_one_released}
use Rattle.resolved_runs.proofs.Refused.{not_put_twice, not_put_unmapped, not_reached_again, not_second_given_up}

pub returns : goal.returns
returns c = record {
  released = (not_reached_again, not_one_released, not_new_stamp, not_put_twice);
  asked = (not_asked_for_each, not_asked_again);
  answered = not_answered_for_another;
  known = (not_held_though_mapped, not_put_unmapped, not_learnt_from_request);
  shed = (not_given_up_put, not_second_given_up);
}
