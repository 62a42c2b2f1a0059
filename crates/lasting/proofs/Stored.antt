-- What is held at a seat after a datagram was held there, after a response was learnt, and after a tick.
use Rattle.std.proofs.Common.{◌≡◌, ◌⊎◌, inl, inr, ℕ, zero, suc, ◌==◌, Bool, true, false, not, cond, List, [], ◌∷◌, ◌++◌, Option, Some, None}
use Rattle.std.proofs.Common.{refl, sym, ap, ◌∙◌, subst, slice_get, length, filter, map, nat_lt, eqb-true, eq-eqb}
use Rattle.std.specs.Prelude.{position, slice_set, if◌then◌else◌}
use Rattle.std.specs.List.{list_any, position_or_len}
use Rattle.std.proofs.lemmas.Bool.{and_parts, and_from, cases_eq, ltb-true}
use Rattle.aarp.specs.Mapping.{Mappings, asked_for, asked_once_more, each_once, holding, is_asked_again, is_for, learnt, to_ask, waited}
use Rattle.aarp.specs.declared.held.Held.{Held}
use Rattle.at_base.specs.Address.{same_address}
use Rattle.at_base.specs.Limits.{max_held}
use Rattle.at_base.specs.declared.address.Addr.{Addr}
use Rattle.audit.proofs.WalkLists.{At, at_below, at_map}
use Rattle.cable_model.proofs.Counting.{filter_at}
use Rattle.cable_model.specs.declared.seat.Seat.{Seat}
use Rattle.lasting.proofs.Given.{first_passes}
use Rattle.lasting.proofs.Idling.{get_set, get_set_other}
use Rattle.live_cables.proofs.Pending.{Has, any_has, has_kept, has_one_of}
use Rattle.live_cables.specs.Finding.{held_at, is_first_for}
use Rattle.live_cables.specs.Holding.{datagram, with_held, with_known, with_learnt, with_tick, without_held}
use Rattle.live_cables.specs.declared.answer.Answer.{Answer}

-- ---- Addresses

-- addresses that are alike are one
pub same_is : (a b : Addr) → same_address a b ≡ true → a ≡ b
same_is a b e =
    let parts = and_parts (a.net == b.net) (a.node == b.node) e in
    let first : ℕ → Addr = λ n. record { net = n; node = a.node } in
    let second : ℕ → Addr = λ n. record { net = b.net; node = n } in
    ap first (eqb-true a.net b.net parts.0) ∙ ap second (eqb-true a.node b.node parts.1)

-- and an address is like itself
pub same_self : (a : Addr) → same_address a a ≡ true
same_self a = and_from (a.net == a.net) (a.node == a.node) (eq-eqb a.net a.net refl) (eq-eqb a.node a.node refl)

-- the element at the place that was found passes
pub position_at : (p : Seat → Bool) (xs : List Seat) (i : ℕ) → position p xs ≡ Some i → (s : Seat) × At xs i s × (p s ≡ true)
position_at p xs i e = by (nat_lt (position_or_len p xs) (length xs)) refl e
  where
    by : (b : Bool) → nat_lt (position_or_len p xs) (length xs) ≡ b → cond b (Some (position_or_len p xs)) None ≡ Some i
        → (s : Seat) × At xs i s × (p s ≡ true)
    by false f g = cc
    by true f g =
        let is : position_or_len p xs ≡ i = cc in
        let w = at_below xs (position_or_len p xs) (ltb-true _ _ f) in
        (w.0, subst (λ n. At xs n w.0) is w.1, first_passes p xs w.0 w.1)

-- ---- A datagram more

-- what is left where the first one may be dropped was there
one_less : (b : Bool) (y : Held) (rest : List Held) (x : Held) → Has (if b then y ∷ rest else rest) x → Has (y ∷ rest) x
one_less true y rest x h = h
one_less false y rest x h = (suc h.0, h.1)

-- what is held then is this datagram, or was held before
held_then : (h : Held) (held : List Held) (x : Held) → Has (holding h held) x → (x.next ≡ h.next) ⊎ Has held x
held_then h [] x g =
    let is : record h { asked = 1 } ≡ x = only g in
    inl (ap (λ (z : Held). z.next) (sym is))
  where
    only : Has (holding h []) x → record h { asked = 1 } ≡ x
    only (zero, e) = cc
    only (suc k, e) = absurd (let f = e in cc)
held_then h (y ∷ ys) x g =
    let last = record h { asked = asked_for h.next (y ∷ ys) } in
    by (has_one_of (y ∷ ys) (last ∷ []) x (one_less (nat_lt (length (ys ++ last ∷ [])) max_held) y (ys ++ last ∷ []) x g))
  where
    only : (z : Held) → z.next ≡ h.next → Has (z ∷ []) x → x.next ≡ h.next
    only z same (zero, e) = let is : z ≡ x = cc in ap (λ (w : Held). w.next) (sym is) ∙ same
    only z same (suc k, e) = absurd (let f = e in cc)

    by : Has (y ∷ ys) x ⊎ Has (record h { asked = asked_for h.next (y ∷ ys) } ∷ []) x
        → (x.next ≡ h.next) ⊎ Has (y ∷ ys) x
    by (inl w) = inr w
    by (inr w) = inl (only _ refl w)

-- where a datagram is held at a seat, each that is held there was held before, or is for the same address
pub held_after : (maps : List Mappings) (i : ℕ) (a : Addr) (stamp j : ℕ) (x : Held) → Has (held_at (with_held maps i a stamp) j) x
    → Has (held_at maps j) x ⊎ ((j ≡ i) × (x.next ≡ a) × ((m : Mappings) × (slice_get maps i ≡ Some m)))
held_after maps i a stamp j x g = by (slice_get maps i) refl
  where
    by : (o : Option Mappings) → slice_get maps i ≡ o
        → Has (held_at maps j) x ⊎ ((j ≡ i) × (x.next ≡ a) × ((m : Mappings) × (slice_get maps i ≡ Some m)))
    by None e = inl (rw e at g)
    by (Some m) e =
        let m1 : Mappings = record m { held = holding (datagram a stamp) m.held } in
        let g1 : Has (held_at (slice_set maps i m1) j) x = rw e at g in
        elim (cases_eq j i) [
          | inl same ↦
              let there : slice_get (slice_set maps i m1) j ≡ Some m1 = ap (slice_get (slice_set maps i m1)) same ∙ get_set maps i m1 m e in
              let g2 : Has m1.held x = rw there at g1 in
              of same (held_then (datagram a stamp) m.held x g2)
          | inr other ↦
              let there : slice_get (slice_set maps i m1) j ≡ slice_get maps j = get_set_other maps i j m1 (λ s. absurd (other s)) in
              inl (rw there at g1)
        ]
      where
        of : j ≡ i → (x.next ≡ a) ⊎ Has m.held x
            → Has (held_at maps j) x ⊎ ((j ≡ i) × (x.next ≡ a) × ((m : Mappings) × (slice_get maps i ≡ Some m)))
        of same (inl w) = inr (same, w, (m, e))
        of same (inr w) =
            let here : slice_get maps j ≡ Some m = ap (slice_get maps) same ∙ e in
            inl (rw here w)

-- where a request for an address wouldn't be the first one at a seat, a datagram is held there for it
pub asked_before : (maps : List Mappings) (i : ℕ) (a : Addr) (m : Mappings) → slice_get maps i ≡ Some m → is_first_for maps i a ≡ false
    → (x : Held) × Has (held_at maps i) x × (x.next ≡ a)
asked_before maps i a m e off =
    let off1 : not (list_any (is_for a) m.held) ≡ false = rw e at off in
    let on : list_any (is_for a) m.held ≡ true = by (list_any (is_for a) m.held) off1 in
    let w = any_has (is_for a) m.held on in
    (w.0, rw e w.1, same_is w.0.next a w.2)
  where
    by : (b : Bool) → not b ≡ false → b ≡ true
    by true f = refl
    by false f = cc

-- ---- A response

-- where a response is learnt at a seat, each datagram that is held was held before, and there is for another address
pub learnt_after : (maps : List Mappings) (i : ℕ) (answer : Answer) (j : ℕ) (x : Held) → Has (held_at (with_learnt maps i answer) j) x
    → Has (held_at maps j) x × (j ≡ i → same_address x.next answer.source ≡ false)
learnt_after maps i answer j x g = by (slice_get maps i) refl
  where
    by : (o : Option Mappings) → slice_get maps i ≡ o → Has (held_at maps j) x × (j ≡ i → same_address x.next answer.source ≡ false)
    by None e =
        let g1 : Has (held_at (without_held maps i answer.source) j) x = rw e at g in
        let g2 : Has (held_at maps j) x = rw e at g1 in (
          g2,
          λ same.
              let none : slice_get maps j ≡ None = ap (slice_get maps) same ∙ e in
              let bad : Has {X = Held} [] x = rw none at g2 in
              absurd (let b = bad.1 in cc),
        )
    by (Some m) e =
        let m1 : Mappings = record m { known = learnt answer.source answer.source_hw m.known } in
        let once : with_known maps i (learnt answer.source answer.source_hw) ≡ slice_set maps i m1 = rw e refl in
        let at_i : slice_get (slice_set maps i m1) i ≡ Some m1 = get_set maps i m1 m e in
        let m2 : Mappings = record m1 { held = filter (λ h. not (is_for answer.source h)) m.held } in
        let twice : without_held (slice_set maps i m1) i answer.source ≡ slice_set (slice_set maps i m1) i m2 = rw at_i refl in
        let all : with_learnt maps i answer ≡ slice_set (slice_set maps i m1) i m2 = ap (λ l. without_held l i answer.source) once ∙ twice in
        let g1 : Has (held_at (slice_set (slice_set maps i m1) i m2) j) x = subst (λ l. Has (held_at l j) x) all g in
        elim (cases_eq j i) [
          | inl same ↦
              let there : slice_get (slice_set (slice_set maps i m1) i m2) j ≡ Some m2 =
              ap (slice_get (slice_set (slice_set maps i m1) i m2)) same ∙ get_set (slice_set maps i m1) i m2 m1 at_i in
              let was : slice_get maps j ≡ Some m = ap (slice_get maps) same ∙ e in
              let g2 : Has (filter (λ h. not (is_for answer.source h)) m.held) x = rw there at g1 in
              let w = filter_at (λ h. not (is_for answer.source h)) m.held g2.0 x g2.1 in
              let old : Has m.held x = (w.0, w.1) in
              (rw was old, λ s. not_on (is_for answer.source x) w.2)
          | inr other ↦
              let there : slice_get (slice_set (slice_set maps i m1) i m2) j ≡ slice_get maps j =
              get_set_other (slice_set maps i m1) i j m2 (λ s. absurd (other s)) ∙ get_set_other maps i j m1 (λ s. absurd (other s)) in
              (rw there at g1, λ s. absurd (other s))
        ]
      where
        not_on : (b : Bool) → not b ≡ true → b ≡ false
        not_on true h = cc
        not_on false h = refl

-- ---- A tick

-- an address of the list is in it once
once_has : (a : Addr) (addrs : List Addr) → Has addrs a → Has (each_once addrs) a
once_has a [] h = let g = h.1 in absurd cc
once_has a (b ∷ rest) h = of h (λ g. once_has a rest g)
  where
    of : Has (b ∷ rest) a → (Has rest a → Has (each_once rest) a) → Has (each_once (b ∷ rest)) a
    of (zero, e) again = (zero, e)
    of (suc k, e) again = by (same_address b a) refl (again (k, e))
      where
        by : (s : Bool) → same_address b a ≡ s → Has (each_once rest) a → Has (each_once (b ∷ rest)) a
        by true same w = (zero, ap (λ z. Some z) (same_is b a same))
        by false off w =
            let g = has_kept (λ c. not (same_address b c)) (each_once rest) a w (ap not off) in
            (suc g.0, g.1)

-- an element of a list is mapped to one of the mapped list
mapped_has : {X Y : Type 0} (f : X → Y) (xs : List X) (x : X) → Has xs x → Has (map f xs) (f x)
mapped_has f [] x h = let g = h.1 in absurd cc
mapped_has f (y ∷ xs) x (zero, e) = let is : y ≡ x = cc in (zero, ap (λ z. Some (f z)) is)
mapped_has f (y ∷ xs) x (suc k, e) = let w = mapped_has f xs x (k, e) in (suc w.0, w.1)

-- what is held at a seat after its tick is for an address that is asked for in it
pub ticked_after : (maps : List Mappings) (seat : ℕ) (x : Held) → Has (held_at (with_tick maps seat) seat) x → Has (to_ask (held_at maps seat)) x.next
ticked_after maps seat x g = by (slice_get maps seat) refl
  where
    by : (o : Option Mappings) → slice_get maps seat ≡ o → Has (to_ask (held_at maps seat)) x.next
    by None e =
        let g1 : Has (held_at maps seat) x = rw e at g in
        let bad : Has {X = Held} [] x = rw e at g1 in
        absurd (let b = bad.1 in cc)
    by (Some m) e =
        let m1 : Mappings = record m { held = waited m.held } in
        let g1 : Has (held_at (slice_set maps seat m1) seat) x = rw e at g in
        let there : slice_get (slice_set maps seat m1) seat ≡ Some m1 = get_set maps seat m1 m e in
        let g2 : Has (waited m.held) x = rw there at g1 in
        let w = at_map asked_once_more (filter is_asked_again m.held) g2.0 x g2.1 in
        let same : x.next ≡ w.0.next = ap (λ (h : Held). h.next) w.2 in
        let all : Has (map (λ (h : Held). h.next) (filter is_asked_again m.held)) w.0.next =
        mapped_has (λ (h : Held). h.next) (filter is_asked_again m.held) w.0 (g2.0, w.1) in
        rw e (subst (λ a. Has (each_once (map (λ (h : Held). h.next) (filter is_asked_again m.held))) a) (sym same)
        (once_has w.0.next (map (λ (h : Held). h.next) (filter is_asked_again m.held)) all))

-- what is held at another seat stays
pub ticked_other : (maps : List Mappings) (seat j : ℕ) → (j ≡ seat → ⊥) → held_at (with_tick maps seat) j ≡ held_at maps j
ticked_other maps seat j other = by (slice_get maps seat) refl
  where
    by : (o : Option Mappings) → slice_get maps seat ≡ o → held_at (with_tick maps seat) j ≡ held_at maps j
    by None e = rw e refl
    by (Some m) e =
        let stays = get_set_other maps seat j (record m { held = waited m.held }) other in
        rw (e, stays) refl

-- what is held at a seat after a tick was held there for the same address
pub ticked_was : (maps : List Mappings) (seat j : ℕ) (x : Held) → Has (held_at (with_tick maps seat) j) x
    → (y : Held) × Has (held_at maps j) y × (x.next ≡ y.next)
ticked_was maps seat j x g = by (slice_get maps seat) refl
  where
    by : (o : Option Mappings) → slice_get maps seat ≡ o → (y : Held) × Has (held_at maps j) y × (x.next ≡ y.next)
    by None e = (x, rw e at g, refl)
    by (Some m) e =
        let m1 : Mappings = record m { held = waited m.held } in
        let g1 : Has (held_at (slice_set maps seat m1) j) x = rw e at g in
        elim (cases_eq j seat) [
          | inl same ↦
              let there : slice_get (slice_set maps seat m1) j ≡ Some m1 = ap (slice_get (slice_set maps seat m1)) same ∙ get_set maps seat m1 m e in
              let was : slice_get maps j ≡ Some m = ap (slice_get maps) same ∙ e in
              let g2 : Has (waited m.held) x = rw there at g1 in
              let w = at_map asked_once_more (filter is_asked_again m.held) g2.0 x g2.1 in
              let v = filter_at is_asked_again m.held g2.0 w.0 w.1 in
              let old : Has m.held w.0 = (v.0, v.1) in
              (w.0, rw was old, ap (λ (h : Held). h.next) w.2)
          | inr other ↦
              let there : slice_get (slice_set maps seat m1) j ≡ slice_get maps j = get_set_other maps seat j m1 (λ s. absurd (other s)) in
              (x, rw there at g1, refl)
        ]
