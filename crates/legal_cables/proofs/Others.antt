-- What is left of the datagrams that a station holds on a cable when one holding ends.
use Rattle.std.proofs.Common.{◌≡◌, ℕ, zero, suc, ◌≤◌, Bool, true, false, not, ◌&&◌, ◌==◌, cond, List, [], ◌∷◌, ◌++◌}
use Rattle.std.proofs.Common.{refl, sym, ap, ◌∙◌, arith, filter, eq-eqb, true≢false}
use Rattle.std.proofs.lemmas.Bool.{false_from_ne_true}
use Rattle.cable_model.specs.Holdings.{holds, holds_of, releases, still_held, was_released}
use Rattle.cable_model.specs.Transcript.{Entry, Holding, count, one}
use Rattle.cable_model.proofs.Counting.{count-filter, count_at, count_le}
use Rattle.cable_model.proofs.Left.{filter_all}
use Rattle.resolved_runs.specs.Resolved.{held_at}
use Rattle.resolved_runs.proofs.Elements.{In, each_in, kept_in}
use Rattle.legal_cables.proofs.Effects.{numbered, still_after}

-- Two elements that pass a test are one, where at most one does.
pub one_only : {X : Type 0} (key : X → Bool) (xs : List X) (x y : X) → count key xs ≤ 1 → In xs x → In xs y
    → key x ≡ true → key y ≡ true → x ≡ y
one_only key [] x y few (j, ex) (k, ey) px py = cc
one_only key (z ∷ xs) x y few (zero, ex) (zero, ey) px py = cc
one_only key (z ∷ xs) x y few (zero, ex) (suc k, ey) px py =
    let same : z ≡ x = cc in
    let here = ap one (ap key same ∙ px) in
    let there = count_at key xs k y ey py in
    absurd (omega (arith, few, here, there))
one_only key (z ∷ xs) x y few (suc j, ex) (zero, ey) px py =
    let same : z ≡ y = cc in
    let here = ap one (ap key same ∙ py) in
    let there = count_at key xs j x ex px in
    absurd (omega (arith, few, here, there))
one_only key (z ∷ xs) x y few (suc j, ex) (suc k, ey) px py =
    one_only key xs x y (omega (arith, few)) (j, ex) (k, ey) px py

-- Two filters in either order.
filter_turn : {X : Type 0} (t u : X → Bool) (xs : List X) → filter t (filter u xs) ≡ filter u (filter t xs)
filter_turn t u [] = refl
filter_turn t u (x ∷ xs) = by (t x) (u x) refl refl (filter_turn t u xs)
  where
    by : (a b : Bool) → t x ≡ a → u x ≡ b → filter t (filter u xs) ≡ filter u (filter t xs)
        → filter t (cond (u x) (x ∷ filter u xs) (filter u xs)) ≡ filter u (cond (t x) (x ∷ filter t xs) (filter t xs))
    by true true ea eb rest = rw (ea, eb) (rw ea (ap (λ l. x ∷ l) rest))
    by true false ea eb rest = rw (ea, eb) rest
    by false true ea eb rest = rw (ea, eb) (rw ea rest)
    by false false ea eb rest = rw (ea, eb) rest

-- The station holds the datagram on the cable.
abbrev pub is_mine : ℕ → ℕ → Holding → Bool
is_mine s c h = h.station == s && h.cable == c

-- The entry ends the holding with this stamp, and none with another.
abbrev pub Ends : ℕ → Entry → Type 0
Ends n e = (m : ℕ) → releases m e ≡ (m == n)

module _ (t : List Entry) (e : Entry) (n : ℕ) (none : holds_of e ≡ []) (ends : Ends n e) where
  same_tests : (xs : List Holding) → filter (λ h. not (releases h.stamp e)) xs ≡ filter (λ h. not (numbered n h)) xs
  same_tests [] = refl
  same_tests (x ∷ xs) =
      ap (λ b. cond (not b) (x ∷ filter (λ h. not (releases h.stamp e)) xs) (filter (λ h. not (releases h.stamp e)) xs)) (ends x.stamp)
      ∙ ap (λ l. cond (not (numbered n x)) (x ∷ l) l) (same_tests xs)

  pub still_ended : still_held (t ++ e ∷ []) ≡ filter (λ h. not (numbered n h)) (still_held t)
  still_ended = still_after t e none ∙ same_tests (still_held t)

  -- What a station still holds.
  pub held_ended : (s c : ℕ) → held_at (t ++ e ∷ []) s c ≡ filter (λ h. not (numbered n h)) (held_at t s c)
  held_ended s c = ap (filter (is_mine s c)) still_ended ∙ filter_turn (is_mine s c) (λ h. not (numbered n h)) (still_held t)

-- At most one datagram that is still held has a stamp.
pub few_held : (t : List Entry) (n : ℕ) → count (numbered n) (holds t) ≤ 1 → count (numbered n) (still_held t) ≤ 1
few_held t n few =
    let less = count-filter (numbered n) (λ h. not (was_released t h)) (holds t) in
    let le = count_le (λ h. not (was_released t h) && numbered n h) (numbered n) (holds t) (λ h p. second (not (was_released t h)) (numbered n h) p) in
    omega (arith, less, le, few)
  where
    second : (a b : Bool) → (a && b) ≡ true → b ≡ true
    second true b h = h
    second false b h = cc

module _ (t : List Entry) (g : Holding) (few : count (numbered g.stamp) (holds t) ≤ 1) (there : In (still_held t) g) where
  -- The holding of others isn't that one.
  pub not_others : (s c : ℕ) → is_mine s c g ≡ false → (h : Holding) → In (held_at t s c) h → numbered g.stamp h ≡ false
  not_others s c other h mine = false_from_ne_true (numbered g.stamp h) (λ p.
      let w = kept_in (is_mine s c) (still_held t) h mine in
      let same = one_only (numbered g.stamp) (still_held t) g h (few_held t g.stamp few) there w.0 (eq-eqb g.stamp g.stamp refl) p in
      true≢false (sym w.1 ∙ (ap (is_mine s c) (sym same) ∙ other)))

  pub others_stay : (s c : ℕ) → is_mine s c g ≡ false → filter (λ h. not (numbered g.stamp h)) (held_at t s c) ≡ held_at t s c
  others_stay s c other =
      filter_all (λ h. not (numbered g.stamp h)) (held_at t s c)
      (each_in (λ h. not (numbered g.stamp h) ≡ true) (held_at t s c) (λ h mine. ap not (not_others s c other h mine)))

-- Without the first one.
pub first_gone : (n : ℕ) (g : Holding) (hs : List Holding) → count (numbered n) (g ∷ hs) ≤ 1 → numbered n g ≡ true
    → filter (λ h. not (numbered n h)) (g ∷ hs) ≡ hs
first_gone n g hs few is =
    ap (λ b. cond (not b) (g ∷ filter (λ h. not (numbered n h)) hs) (filter (λ h. not (numbered n h)) hs)) is
    ∙ filter_all (λ h. not (numbered n h)) hs
    (each_in (λ h. not (numbered n h) ≡ true) hs (λ h there. ap not (false_from_ne_true (numbered n h) (λ p.
    let here = ap one is in
    let more = count_at (numbered n) hs there.0 h there.1 p in
    absurd (omega (arith, few, here, more))))))
