use Rattle.std.proofs.Common.{refl}
use Rattle.resolved_runs.proofs.laws.laws_exclude_with_resolution.Goals as goal
use Rattle.resolved_runs.proofs.Excluded.{no_body_given_up, no_forward_given_up, no_request_given_up}
use Rattle.resolved_runs.proofs.Excluded.{never_forwarded, not_another_told, not_asked, not_asked_from_afar, not_at_rest, not_by_another}
use Rattle.resolved_runs.proofs.Excluded.{not_forward_elsewhere, not_forward_given_up_elsewhere, not_looked_elsewhere}
use Rattle.resolved_runs.proofs.Excluded.{not_given_up_for_nobody, not_heard_as_packet, not_heard_by_another, not_held_for_nobody}
use Rattle.resolved_runs.proofs.Excluded.{not_on_its_way_as_packet, not_on_its_way_to_all}
use Rattle.resolved_runs.proofs.Excluded.{not_for_another, not_forward_held_and_put, not_forward_held_elsewhere, not_given_up_and_held}
use Rattle.resolved_runs.proofs.Excluded.{not_given_up_and_reached, not_heard_and_held, not_heard_by_all, not_held_and_dropped}
use Rattle.resolved_runs.proofs.Excluded.{not_held_and_elsewhere, not_held_and_put, not_held_back, not_held_with_hops}
use Rattle.resolved_runs.proofs.Excluded.{not_in_a_datagram, not_many_hops, not_once, not_out_of_hops, not_released_from_afar}
use Rattle.resolved_runs.proofs.Excluded.{not_released_twice, not_released_with_hops, not_request_held_and_put, not_taken_from_afar, not_twice}
use Rattle.resolved_runs.proofs.Excluded.{not_elsewhere, not_nothing, not_told_by_another, not_unlisted_and_dropped}
use Rattle.resolved_runs.proofs.Excluded.{not_unlisted_and_reached, not_vanished}
use Rattle.resolved_runs.proofs.RingsExclude.{not_at_once, not_held_there_twice, not_later, not_newest, not_second}

pub returns : goal.returns
returns c = record {
  counted = (not_vanished, not_held_and_put, not_given_up_and_held, not_given_up_and_reached);
  elsewhere = not_held_and_elsewhere;
  kept = not_held_and_dropped;
  unlisted = (not_unlisted_and_dropped, not_unlisted_and_reached 0 refl, not_unlisted_and_reached 2 refl, not_out_of_hops);
  hops = (not_many_hops, not_held_with_hops);
  carried = (not_released_from_afar, not_asked_from_afar, not_released_with_hops);
  taken = not_taken_from_afar;
  handed = not_held_back;
  requested = not_request_held_and_put;
  looked = (never_forwarded, not_forward_held_and_put, not_looked_elsewhere, not_forward_elsewhere, not_forward_held_elsewhere, not_forward_given_up_elsewhere);
  once = (not_once, not_twice);
  put_once = not_released_twice;
  reached = not_held_there_twice;
  shed = (not_at_once, not_newest, not_second, not_later);
  asked = (not_asked, not_for_another, not_by_another, not_in_a_datagram, not_another_told, not_told_by_another, not_elsewhere);
  given_up = (not_nothing, no_request_given_up, no_forward_given_up, no_body_given_up);
  heard = (
    not_heard_and_held,
    not_heard_by_all,
    not_on_its_way_to_all,
    not_heard_as_packet,
    not_on_its_way_as_packet,
    not_held_for_nobody,
    not_given_up_for_nobody,
  );
  at_rest = (not_at_rest, not_heard_by_another);
}
