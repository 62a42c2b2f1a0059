use Rattle.std.proofs.Common.{◌≡◌, ◌+◌, ◌*◌, ◌≤◌, ◌⊎◌, [], length, vec_len}
use Rattle.cable_model.proofs.Outs.{SoFar}
use Rattle.cable_model.specs.Books.{HasHeldRoom, HasRoom, IsBook}
use Rattle.cable_model.specs.Outgoing.{IsAnswering}
use Rattle.cable_model.specs.Ways.{all_lines, all_spare}
use Rattle.cable_model.proofs.outcome.add_all.Given as goal
use Rattle.cable_model.specs.Places.{widest}

abbrev pub invariant-loop-output : goal.invariant-loop-output
invariant-loop-output g l = record {
  book : IsBook l.seats l.log;
  idle : l.log.waiting.items ≡ [];
  room : HasRoom l.log (all_lines l.outputs.items) (length l.outputs.items) (length l.outputs.items)
      (length l.outputs.items * widest l.seats);
  more : IsAnswering (record { finds = g.R.Resolve.finds l.resolver; lists = g.R.Resolve.lists l.resolver })
      ⊎ HasHeldRoom l.log l.outputs.items (widest l.seats);
  so_far : SoFar (λ r. record { finds = g.R.Resolve.finds r; lists = g.R.Resolve.lists r }) g.R.Resolve.holds l.seats l.station
      l.fn.log l.log l.fn.outputs.items l.outputs.items l.fn.resolver l.resolver;
  few : vec_len l.log.lines + (all_lines l.outputs.items + 2 * length l.outputs.items)
      ≤ vec_len l.fn.log.lines + (all_lines l.fn.outputs.items + 2 * length l.fn.outputs.items);
  known : IsAnswering (record { finds = g.R.Resolve.finds l.fn.resolver; lists = g.R.Resolve.lists l.fn.resolver })
      → (l.resolver ≡ l.fn.resolver)
      × (vec_len l.log.lines + all_lines l.outputs.items ≤ vec_len l.fn.log.lines + all_lines l.fn.outputs.items);
  named : length l.log.kept.items + vec_len l.fn.log.lines + all_spare l.outputs.items
      ≤ length l.fn.log.kept.items + vec_len l.log.lines + all_spare l.fn.outputs.items;
  steady : l.log.next_stamp + vec_len l.fn.log.lines ≤ l.fn.log.next_stamp + vec_len l.log.lines;
  unchanged : l.fn.outputs.items ≡ [] → (l.log ≡ l.fn.log) × (l.outputs.items ≡ []);
}

abbrev pub decreases-loop-output : goal.decreases-loop-output
decreases-loop-output g l = length l.outputs.items
