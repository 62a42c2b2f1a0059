-- The room that is left after a step.
use Rattle.std.proofs.Common.{◌≡◌, ℕ, ◌+◌, ◌*◌, ◌≤◌, suc, ap, arith, ◌∙◌}
use Rattle.std.proofs.Math.Nat.{add-mul}
use Rattle.cable_model.specs.Books.{HasRoom, Uses}
use Rattle.cable_model.specs.declared.log.Log.{Log}

pub room_for : (log : Log) (l k w d l' k' w' d' : ℕ) → HasRoom log l k w d → l' ≤ l → k' ≤ k → w' ≤ w → d' ≤ d → HasRoom log l' k' w' d'
room_for log l k w d l' k' w' d' r a b e f = record {
  lines = omega (arith, r.lines);
  kept = omega (arith, r.kept);
  waiting = omega (arith, r.waiting);
  due = omega (arith, r.due);
  line_numbers = omega (arith, r.line_numbers);
  byte_numbers = omega (arith, r.byte_numbers);
  stamps = omega (arith, r.stamps);
}

pub room_left : (log new : Log) (l k w d l' k' w' d' : ℕ) → HasRoom log (l + l') (k + k') (w + w') (d + d') → Uses log new l k w d
    → HasRoom new l' k' w' d'
room_left log new l k w d l' k' w' d' r u = record {
  lines = omega (arith, r.lines, u.lines, u.lines_room);
  kept = omega (arith, r.kept, u.kept, u.kept_room);
  waiting = omega (arith, r.waiting, u.waiting, u.waiting_room);
  due = omega (arith, r.due, u.due, u.due_room);
  line_numbers = omega (arith, r.line_numbers, u.lines);
  byte_numbers = omega (arith, r.byte_numbers, u.kept);
  stamps = omega (arith, r.stamps, u.next_stamp);
}

pub product : (n s : ℕ) → suc n * s ≡ s + n * s
product n s =
    let next : suc n ≡ 1 + n = omega arith in
    let once : 1 * s ≡ s = omega arith in
    ap (λ k. k * s) next ∙ (add-mul 1 n s ∙ ap (λ k. k + n * s) once)
