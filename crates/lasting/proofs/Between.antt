-- Ticks one after the other, in none of which rows age.
use Rattle.std.proofs.Common.{◌≡◌, ℕ, suc, ◌+◌, ◌<◌, List, [], ◌∷◌, Some, refl, sym, ◌∙◌, subst, slice_get, length, arith}
use Rattle.std.proofs.Math.Nat.{mod-eq_of_lt}
use Rattle.audit.proofs.WalkLists.{at_below, at_within}
use Rattle.internet_file.specs.Files.{Planned}
use Rattle.lasting.proofs.Again.{fresh_between, rests_again}
use Rattle.lasting.proofs.Rested.{IsResting, at_rest, idle_spared}
use Rattle.lasting.proofs.Ticking.{stays}
use Rattle.lasting.specs.Begun.{IsNextTick}
use Rattle.lasting.specs.Resting.{AreOther, AreOtherAfter, AreTicks, HasSameDistances, HasSameRows, IsAsFar, IsAtRest, IsStill, IsTickOn, KeepsDistances, last_of}
use Rattle.lasting.specs.Settled.{AreCleanTicks, IsCleanTick}
use Rattle.live_router.specs.Ticking.{phase_after}
use Rattle.table_image.specs.Internet.{Internet}
use Rattle.table_image.specs.declared.version.Version.TheVariants.{V1}
use Rattle.world.specs.Frozen.{frozen_as}
use Rattle.world.specs.Worlds.{IsWorld, Worldly}
use Rattle.audit.proofs.WalkLists.{at_one}

-- ---- Distances

pub kept_same : (i j : Internet) → KeepsDistances i j → HasSameDistances i j
kept_same i j k = record {
  cables = sym k.routers.cables;
  as_many = sym k.routers.count;
  each = λ n a b ea eb.
      let m = k.routers.each n a b ea eb in
      record {
        ports = sym m.ports;
        as_many = sym m.count;
        each = λ l x y ex ey.
            let w = m.rows l x y ex ey in
            record { start = sym w.start; end = sym w.end; distance = sym w.distance };
      };
}

pub same_self : (i : Internet) → HasSameDistances i i
same_self i = record {
  cables = refl;
  as_many = refl;
  each = λ n a b ea eb.
      let is : a ≡ b = at_one i.routers n a b ea eb in
      subst (HasSameRows a) is (record {
        ports = refl;
        as_many = refl;
        each = λ l x y ex ey.
            let same : x ≡ y = at_one a.rows l x y ex ey in
            subst (IsAsFar x) same (record { start = refl; end = refl; distance = refl });
      });
}

pub same_then : (i j k : Internet) → HasSameDistances i j → HasSameDistances j k → HasSameDistances i k
same_then i j k x y = record {
  cables = y.cables ∙ x.cables;
  as_many = y.as_many ∙ x.as_many;
  each = λ n a c ea ec.
      let low = at_within i.routers n a ea in
      let many = x.as_many in
      let b = at_below j.routers n (omega (arith, low, many)) in
      let p = x.each n a b.0 ea b.1 in
      let q = y.each n b.0 c b.1 ec in
      record {
        ports = q.ports ∙ p.ports;
        as_many = q.as_many ∙ p.as_many;
        each = λ l r t er et.
            let less = at_within a.rows l r er in
            let rows = p.as_many in
            let s = at_below b.0.rows l (omega (arith, less, rows)) in
            let v = p.each l r s.0 er s.1 in
            let w = q.each l s.0 t s.1 et in
            record { start = w.start ∙ v.start; end = w.end ∙ v.end; distance = w.distance ∙ v.distance };
      };
}

-- ---- Ticks

pub others_at : (old new : Worldly) → IsNextTick old new → AreOtherAfter old.plan old.now → AreOther old.plan new.now
others_at old new t others index a e at = let now = t.now in others index a e (omega (arith, now, at))

pub others_later : (old new : Worldly) → IsNextTick old new → AreOtherAfter old.plan old.now → AreOtherAfter new.plan new.now
others_later old new t others index a e lt =
    let now = t.now in
    others index a (subst (λ (p : Planned). slice_get p.actions index ≡ Some a) t.plan e) (omega (arith, now, lt))

-- where nothing is held, nothing is given up
pub clean : (old new : Worldly) → IsTickOn old new → IsCleanTick old new
clean old new t = record {
  next = record { plan = t.plan; now = t.now; tick = t.tick };
  pending = t.still.pending;
  spared = λ seat k h e over. idle_spared new t.still seat k h (omega arith) e over;
}

pub all_clean : (w : Worldly) (vs : List Worldly) → AreTicks w vs → AreCleanTicks w vs
all_clean w [] ticks = tt
all_clean w (v ∷ vs) (t, ticks) = (clean w v t, all_clean v vs ticks)

-- the last world is at rest as it has settled
pub last_rests : (phase q : ℕ) (w : Worldly) (vs : List Worldly) → IsAtRest phase w → AreTicks w vs → IsResting q (last_of w vs)
    → IsAtRest q (last_of w vs)
last_rests phase q w vs rest ticks h =
    let last = on w vs (rest.world, rest.still) ticks in
    record {
      world = last.0;
      still = last.1;
      standing = h.standing;
      passes = h.passes;
      settled = h.settled;
      bounded = h.bounded;
    }
  where
    on : (w : Worldly) (vs : List Worldly) → IsWorld w × IsStill w → AreTicks w vs → IsWorld (last_of w vs) × IsStill (last_of w vs)
    on w [] here ticks = here
    on w (v ∷ vs) here (t, ticks) = on v vs (t.world, t.still) ticks

resting : (w : Worldly) (phase : ℕ) (vs : List Worldly) → IsResting phase w → AreOtherAfter w.plan w.now → AreCleanTicks w vs
    → phase + length vs < 100
    → IsResting (phase + length vs) (last_of w vs) × HasSameDistances (frozen_as V1 w) (frozen_as V1 (last_of w vs))
resting w phase [] rest others ticks few =
    let same : phase + 0 ≡ phase = omega arith in
    (subst (λ n. IsResting n w) (sym same) rest, same_self (frozen_as V1 w))
resting w phase (v ∷ vs) rest others (t, ticks) few =
    let next : phase_after phase ≡ phase + 1 = mod-eq_of_lt (omega (arith, few)) in
    let here = others_at w v t.next others in
    let fresh = fresh_between w v phase rest here t.next.tick ⊥ (λ no. absurd no) (λ e. absurd (let is = sym next ∙ e in omega (arith, is))) in
    let again = rests_again w v phase rest here t.next.tick ⊥ (λ no. absurd no) t.next.plan t.pending (λ seat k h le e over. t.spared seat k h e over) fresh in
    let s = stays w v phase rest here t.next.tick ⊥ (λ no. absurd no) t.next.plan in
    let on =
    resting v (phase + 1) vs (subst (λ n. IsResting n v) next again) (others_later w v t.next others) ticks (omega (arith, few)) in
    let sum : (phase + 1) + length vs ≡ phase + suc (length vs) = omega arith in (
      subst (λ n. IsResting n (last_of v vs)) sum on.0,
      same_then (frozen_as V1 w) (frozen_as V1 v) (frozen_as V1 (last_of v vs)) (kept_same (frozen_as V1 w) (frozen_as V1 v) s.keeps) on.1,
    )

pub between : (w : Worldly) (phase : ℕ) (vs : List Worldly) → IsAtRest phase w → AreOtherAfter w.plan w.now → AreTicks w vs
    → phase + length vs < 100
    → IsAtRest (phase + length vs) (last_of w vs) × HasSameDistances (frozen_as V1 w) (frozen_as V1 (last_of w vs))
between w phase vs rest others ticks few =
    let h = resting w phase vs (at_rest phase w rest) others (all_clean w vs ticks) few in
    (last_rests phase (phase + length vs) w vs rest ticks h.0, h.1)
