-- In a world that has run each seat knows each address once, and at most 512 mappings.
use Rattle.std.proofs.Common.{◌≡◌, ◌⊎◌, inl, inr, ℕ, zero, suc, ◌≤◌, Bool, true, false, not, List, [], ◌∷◌, Some}
use Rattle.std.proofs.Common.{refl, sym, subst, map, length, take, filter, arith}
use Rattle.std.specs.Prelude.{if◌then◌else◌}
use Rattle.std.specs.List.{AllByRecursion as Each}
use Rattle.aarp.specs.Mapping.{learnt}
use Rattle.at_base.specs.Address.{same_address}
use Rattle.at_base.specs.Limits.{max_mappings}
use Rattle.at_base.specs.declared.address.Addr.{Addr}
use Rattle.at_base.specs.declared.address.Hw.{Hw}
use Rattle.audit.proofs.WalkLists.{At}
use Rattle.cable_model.specs.declared.seat.Seat.{Seat}
use Rattle.lasting.proofs.Carrying as carrying
use Rattle.lasting.proofs.Learning.{gives_known, known_of, passes_known, takes_known}
use Rattle.lasting.specs.Begun.{AreNextTicks, HasRun}
use Rattle.lasting.specs.Resting.{last_of}
use Rattle.live_cables.specs.Finding.{seat_by}
use Rattle.live_cables.specs.Living.{TakesIn, Wires}
use Rattle.live_cables.specs.declared.answer.Answer.{Answer}
use Rattle.live_node.specs.Living.{LivingNode, LiveHears as NodeHears}
use Rattle.live_router.specs.Living.{Living, LiveHears as RouterHears}
use Rattle.planned_stations.specs.Planning.{ports_of}
use Rattle.planned_stations.specs.Seating.{plan_seats}
use Rattle.station.specs.Members.{EitherHears}
use Rattle.station.specs.declared.member.Member.{Member}
use Rattle.world.specs.Ticking.{IsTick}
use Rattle.world.specs.Worlds.{Worldly}

-- no mapping of the list is for this address
abbrev pub HasNone : Addr → List (Addr × Hw) → Type 0
HasNone a known = Each (λ (m : Addr × Hw). same_address a m.0 ≡ false) known

-- no two mappings are for one address
abbrev pub AreApart : List (Addr × Hw) → Type 0
AreApart [] = Unit {0}
AreApart (m ∷ known) = HasNone m.0 known × AreApart known

-- so it is of the first of them
none_taken : (a : Addr) (n : ℕ) (known : List (Addr × Hw)) → HasNone a known → HasNone a (take n known)
none_taken a zero [] h = tt
none_taken a zero (m ∷ known) h = tt
none_taken a (suc n) [] h = tt
none_taken a (suc n) (m ∷ known) h = (h.0, none_taken a n known h.1)

-- no two of the first of them are for one address
apart_taken : (n : ℕ) (known : List (Addr × Hw)) → AreApart known → AreApart (take n known)
apart_taken zero [] h = tt
apart_taken zero (m ∷ known) h = tt
apart_taken (suc n) [] h = tt
apart_taken (suc n) (m ∷ known) h = (none_taken m.0 n known h.0, apart_taken n known h.1)

-- and of those that pass a test
none_kept : (t : Addr × Hw → Bool) (a : Addr) (known : List (Addr × Hw)) → HasNone a known → HasNone a (filter t known)
none_kept t a [] h = tt
none_kept t a (m ∷ known) h = by (t m) (none_kept t a known h.1)
  where
    by : (b : Bool) → HasNone a (filter t known) → HasNone a (if b then m ∷ filter t known else filter t known)
    by true rest = (h.0, rest)
    by false rest = rest

-- and no two of those that pass a test
apart_kept : (t : Addr × Hw → Bool) (known : List (Addr × Hw)) → AreApart known → AreApart (filter t known)
apart_kept t [] h = tt
apart_kept t (m ∷ known) h = by (t m) (apart_kept t known h.1)
  where
    by : (b : Bool) → AreApart (filter t known) → AreApart (if b then m ∷ filter t known else filter t known)
    by true rest = (none_kept t m.0 known h.0, rest)
    by false rest = rest

-- those that aren't for an address
none_left : (a : Addr) (known : List (Addr × Hw)) → HasNone a (filter (λ m. not (same_address a m.0)) known)
none_left a [] = tt
none_left a (m ∷ known) = by (same_address a m.0) refl (none_left a known)
  where
    by : (b : Bool) → same_address a m.0 ≡ b → HasNone a (filter (λ m. not (same_address a m.0)) known)
        → HasNone a (if not b then m ∷ filter (λ m. not (same_address a m.0)) known else filter (λ m. not (same_address a m.0)) known)
    by true e rest = rest
    by false e rest = (e, rest)

-- after a mapping was learnt it is so
apart_learnt : (a : Addr) (hw : Hw) (known : List (Addr × Hw)) → AreApart known → AreApart (learnt a hw known)
apart_learnt a hw known h =
    apart_taken max_mappings ((a, hw) ∷ filter (λ m. not (same_address a m.0)) known)
    (none_left a known, apart_kept (λ m. not (same_address a m.0)) known h)

-- of the first n there are no more than n
taken_few : (n : ℕ) (known : List (Addr × Hw)) → length (take n known) ≤ n
taken_few zero [] = omega arith
taken_few zero (m ∷ known) = omega arith
taken_few (suc n) [] = omega arith
taken_few (suc n) (m ∷ known) = let h = taken_few n known in omega (arith, h)

-- each seat knows each address once, and few mappings
abbrev pub AreEachApart : List (List (Addr × Hw)) → Type 0
AreEachApart ks = (j : ℕ) (l : List (Addr × Hw)) → At ks j l → AreApart l × (length l ≤ max_mappings)

-- ---- A tick

-- nothing is asked of the stations
abbrev anything : ℕ → Member Living LivingNode → Type 0
anything k m = Unit {0}

-- what holds of the cables
abbrev Inv : ℕ → Wires → Type 0
Inv n w = AreEachApart (known_of w.maps)

-- a frame that is taken leaves it so
takes_apart : (stamp k n : ℕ) (m after : Member Living LivingNode) (old new : Wires) → anything k m
    → TakesIn stamp k (ports_of m) (λ heard added. EitherHears RouterHears NodeHears m heard added after) old new → Inv n old
    → Inv n new × anything k after
takes_apart stamp k n m after old new any h inv = (each, tt)
  where
    each : AreEachApart (known_of new.maps)
    each j l at = let w = takes_known stamp k (ports_of m) _ old new h j l at in by w.before w.there w.is
      where
        by : (before : List (Addr × Hw)) → At (known_of old.maps) j before
            → (l ≡ before)
            ⊎ ((a : Answer) × (h.2.answer ≡ Some a) × (seat_by old.cabling.seats k a.port ≡ Some j)
            × (l ≡ learnt a.source a.source_hw before))
            → AreApart l × (length l ≤ max_mappings)
        by before there (inl is) = subst (λ z. AreApart z × (length z ≤ max_mappings)) (sym is) (inv j before there)
        by before there (inr (a, said, at, is)) =
            subst (λ z. AreApart z × (length z ≤ max_mappings)) (sym is) (
              apart_learnt a.source a.source_hw before (inv j before there).0,
              taken_few max_mappings ((a.source, a.source_hw) ∷ filter (λ m. not (same_address a.source m.0)) before),
            )

-- a tick leaves it so
tick_apart : (old new : Worldly) → IsTick old new → AreEachApart (known_of old.wires.maps) → AreEachApart (known_of new.wires.maps)
tick_apart old new t start =
    (carrying.ticked anything Inv (λ k. 0) 0 refl (λ k m is lt. absurd (omega (arith, lt))) (λ n w own inv. inv) (λ k m a is. tt)
    (λ seat v w h inv. subst AreEachApart (sym (passes_known seat v w h)) inv)
    (λ k n m after os v w is h out inv. (subst AreEachApart (sym (gives_known k os v w out)) inv, tt))
    (λ k n m action os v w is made out inv. subst AreEachApart (sym (gives_known k os v w out)) inv) takes_apart old new t (λ k m e. tt) start).1

-- ---- From the beginning on

-- seats that know nothing are so
nothing_known : (ss : List Seat) → AreEachApart (known_of (map (λ (s : Seat). record { known = []; held = [] }) ss))
nothing_known [] j l e = absurd (let f = e in cc)
nothing_known (s ∷ ss) zero l e = let is : [] ≡ l = cc in subst (λ z. AreApart z × (length z ≤ max_mappings)) is (tt, omega arith)
nothing_known (s ∷ ss) (suc j) l e = nothing_known ss j l e

-- so it is after ticks, one after the other
all_apart : (w : Worldly) (vs : List Worldly) → AreEachApart (known_of w.wires.maps) → AreNextTicks w vs
    → AreEachApart (known_of (last_of w vs).wires.maps)
all_apart w [] h ticks = h
all_apart w (v ∷ vs) h (t, ticks) = all_apart v vs (tick_apart w v t.tick h) ticks

-- in each world that has run it is so
pub run_apart : (w : Worldly) → HasRun w → AreEachApart (known_of w.wires.maps)
run_apart w run =
    subst (λ (v : Worldly). AreEachApart (known_of v.wires.maps)) (sym run.last)
    (all_apart run.first run.ticks
    (subst (λ (v : Wires). AreEachApart (known_of v.maps)) (sym run.begun.wires) (nothing_known (plan_seats run.first.plan))) run.passed)
