-- Ticks one after the other, in which no cable loses frames.
use Rattle.std.proofs.Common.{◌+◌, ◌∙◌, refl}
use Rattle.std.proofs.Common.{◌≡◌, inl, inr, ℕ, ◌%◌, ◌==◌, List, [], ◌∷◌, sym, ap, subst, arith, false}
use Rattle.std.proofs.Math.Nat.{mod-add-mod}
use Rattle.std.proofs.lemmas.Bool.{cases_eq}
use Rattle.internet_file.specs.Files.{Planned}
use Rattle.lasting.proofs.Again.{AreFresh, fresh_between, rests_again}
use Rattle.lasting.proofs.Between.{all_clean, kept_same, last_rests, others_at, others_later, same_self, same_then}
use Rattle.lasting.proofs.Counted.{tick_counts}
use Rattle.lasting.proofs.Numbered.{still_counted}
use Rattle.lasting.proofs.Refreshed.{refreshed}
use Rattle.lasting.proofs.Rested.{IsResting, at_rest}
use Rattle.lasting.proofs.Ticking.{stays}
use Rattle.lasting.specs.Begun.{IsNextTick}
use Rattle.lasting.specs.Resting.{AreOtherAfter, AreTicks, HasSameDistances, IsAtRest, IsNumbered, LosesNothingAfter, last_of}
use Rattle.lasting.specs.Settled.{AreCleanTicks, IsCleanTick, LosesNothingWhereRowsAge}
use Rattle.live_router.specs.Ticking.{phase_after}
use Rattle.table_image.specs.declared.version.Version.TheVariants.{V1}
use Rattle.world.specs.Frozen.{frozen_as}
use Rattle.world.specs.Losing.{loses_at}
use Rattle.world.specs.Ticking.{IsTick}
use Rattle.world.specs.Worlds.{Worldly}

-- a tick keeps frames numbered
pub numbered_on : (old new : Worldly) → IsNumbered old → IsTick old new → IsNumbered new
numbered_on old new h tick =
    let c = still_counted old.wires.cabling new.wires.cabling (record { once = h.once; below = h.below }) (tick_counts old new tick) in
    record { once = c.once; below = c.below }

-- a tick in which no frame is lost if rows age
one_on : (w v : Worldly) (phase : ℕ) → IsResting phase w → AreOtherAfter w.plan w.now
    → (phase_after phase ≡ 0 → (cable : ℕ) → loses_at w.plan v.now cable ≡ false) → IsCleanTick w v
    → IsNumbered w → IsNumbered v → IsResting (phase_after phase) v × HasSameDistances (frozen_as V1 w) (frozen_as V1 v)
one_on w v phase rest others lossless t before after =
    let here = others_at w v t.next others in
    let fresh : AreFresh v.stations =
    elim (cases_eq (phase_after phase) 0) [
      | inl e ↦ refreshed w v phase rest here t.next.tick (lossless e) (ap (λ n. n % 50 == 0) e) before after t.pending
      | inr other ↦ fresh_between w v phase rest here t.next.tick ⊥ (λ no. absurd no) other
    ] in
    let s = stays w v phase rest here t.next.tick ⊥ (λ no. absurd no) t.next.plan in (
      rests_again w v phase rest here t.next.tick ⊥ (λ no. absurd no) t.next.plan t.pending (λ seat k h le e over. t.spared seat k h e over) fresh,
      kept_same (frozen_as V1 w) (frozen_as V1 v) s.keeps,
    )

-- `Safe` is a fact of a world in a phase that a tick keeps, and by which no frame is lost where rows age.
module _ (Safe : ℕ → Worldly → Type 0)
    (keeps : (phase : ℕ) (w v : Worldly) → Safe phase w → IsNextTick w v → Safe (phase_after phase) v)
    (lossless : (phase : ℕ) (w v : Worldly) → Safe phase w → IsNextTick w v → phase_after phase ≡ 0 → (cable : ℕ)
    → loses_at w.plan v.now cable ≡ false) where
  on_and_on : (w : Worldly) (phase : ℕ) (vs : List Worldly) → IsResting phase w → AreOtherAfter w.plan w.now → Safe phase w
      → AreCleanTicks w vs → IsNumbered w
      → (q : ℕ) × IsResting q (last_of w vs) × HasSameDistances (frozen_as V1 w) (frozen_as V1 (last_of w vs))
  on_and_on w phase [] rest others safe ticks numbered = (phase, rest, same_self (frozen_as V1 w))
  on_and_on w phase (v ∷ vs) rest others safe (t, ticks) numbered =
      let after = numbered_on w v numbered t.next.tick in
      let one = one_on w v phase rest others (lossless phase w v safe t.next) t numbered after in
      let on = on_and_on v (phase_after phase) vs one.0 (others_later w v t.next others) (keeps phase w v safe t.next) ticks after in
      (on.0, on.1, same_then (frozen_as V1 w) (frozen_as V1 v) (frozen_as V1 (last_of v vs)) one.1 on.2)

-- a world in whose later ticks no frame is lost where rows age
abbrev IsSafe : ℕ → Worldly → Type 0
IsSafe phase w = (phase ≡ w.now % 100) × LosesNothingWhereRowsAge w.plan w.now

next_phase : (phase : ℕ) (w v : Worldly) → phase ≡ w.now % 100 → IsNextTick w v → phase_after phase ≡ v.now % 100
next_phase phase w v is t =
    ap (λ n. (n + 1) % 100) is ∙ (mod-add-mod w.now 100 1 ∙ ap (λ n. n % 100) (sym t.now))

still_safe : (phase : ℕ) (w v : Worldly) → IsSafe phase w → IsNextTick w v → IsSafe (phase_after phase) v
still_safe phase w v safe t = (
  next_phase phase w v safe.0 t,
  λ tick cable lt ages.
      let now = t.now in
      subst (λ (p : Planned). loses_at p tick cable ≡ false) (sym t.plan) (safe.1 tick cable (omega (arith, now, lt)) ages),
)

pub always_resting : (w : Worldly) (vs : List Worldly) → IsResting (w.now % 100) w → AreOtherAfter w.plan w.now
    → LosesNothingWhereRowsAge w.plan w.now → AreCleanTicks w vs → IsNumbered w
    → (q : ℕ) × IsResting q (last_of w vs) × HasSameDistances (frozen_as V1 w) (frozen_as V1 (last_of w vs))
always_resting w vs rest others lossless ticks numbered =
    on_and_on IsSafe still_safe
    (λ phase w v safe t zero cable.
    let now = t.now in
    safe.1 v.now cable (omega (arith, now)) (sym (next_phase phase w v safe.0 t) ∙ zero)) w (w.now % 100) vs rest others (refl, lossless) ticks
    numbered

pub always : (w : Worldly) (phase : ℕ) (vs : List Worldly) → IsAtRest phase w → AreOtherAfter w.plan w.now → LosesNothingAfter w.plan w.now
    → AreTicks w vs → IsNumbered w
    → (q : ℕ) × IsAtRest q (last_of w vs) × HasSameDistances (frozen_as V1 w) (frozen_as V1 (last_of w vs))
always w phase vs rest others lossless ticks numbered =
    let h =
    on_and_on (λ phase w. LosesNothingAfter w.plan w.now) later
    (λ phase w v safe t zero cable. let now = t.now in safe v.now cable (omega (arith, now))) w phase vs (at_rest phase w rest) others lossless
    (all_clean w vs ticks) numbered in
    (h.0, last_rests phase h.0 w vs rest ticks h.1, h.2)
  where
    later : (phase : ℕ) (w v : Worldly) → LosesNothingAfter w.plan w.now → IsNextTick w v → LosesNothingAfter v.plan v.now
    later phase w v lossless t tick cable lt =
        let now = t.now in
        subst (λ (p : Planned). loses_at p tick cable ≡ false) (sym t.plan) (lossless tick cable (omega (arith, now, lt)))
