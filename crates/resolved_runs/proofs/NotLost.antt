-- Where nothing was lost, nothing was given up.
use Rattle.std.proofs.Common.{◌≡◌, ℕ, Bool, false, ◌&&◌, List, [], ◌∷◌, refl, arith}
use Rattle.std.specs.List.{list_any}
use Rattle.table_image.specs.Internet.{Internet}
use Rattle.cable_model.specs.Holdings.{holds}
use Rattle.cable_model.specs.Transcript.{Entry, Holding, Sent, Put, Took, Reached, Dropped, Lost, Hold, count}
use Rattle.legal_runs.specs.LossCounts.{is_lost}
use Rattle.resolved_runs.specs.AskedFor.{is_kept_for_one}
use Rattle.resolved_runs.specs.HeldCounts.{holds_copy, holds_forward, holds_request, was_given_up}
use Rattle.resolved_runs.specs.Lossless.{IsNothingGivenUp, is_loss}

-- No stamp was lost.
none_lost : (n : ℕ) (t : List Entry) → count is_loss t ≡ 0 → list_any (is_lost n) t ≡ false
none_lost n [] none = refl
none_lost n (Sent s b ∷ es) none = none_lost n es (omega (arith, none))
none_lost n (Put f ∷ es) none = none_lost n es (omega (arith, none))
none_lost n (Took k s ∷ es) none = none_lost n es (omega (arith, none))
none_lost n (Reached c s h b ∷ es) none = none_lost n es (omega (arith, none))
none_lost n (Dropped r c b ∷ es) none = none_lost n es (omega (arith, none))
none_lost n (Hold h ∷ es) none = none_lost n es (omega (arith, none))
none_lost n (Lost k ∷ es) none = absurd (omega (arith, none))

-- None of the datagrams that were held was given up.
none_counted : (t : List Entry) (f : Holding → Bool) (hs : List Holding) → count is_loss t ≡ 0
    → count (λ h. was_given_up t h && f h) hs ≡ 0
none_counted t f [] none = refl
none_counted t f (h ∷ hs) none =
    let rest = none_counted t f hs none in
    rw (none_lost h.stamp t none) (omega (arith, rest))

pub nothing_given_up : (i : Internet) (t : List Entry) → count is_loss t ≡ 0 → IsNothingGivenUp i t
nothing_given_up i t none = record {
  copies = λ b. none_counted t (holds_copy i b) (holds t) none;
  requests = λ k. none_counted t (holds_request i k) (holds t) none;
  forwards = λ k c. none_counted t (holds_forward i k c) (holds t) none;
  bodies = λ b. none_counted t (is_kept_for_one i b) (holds t) none;
}
