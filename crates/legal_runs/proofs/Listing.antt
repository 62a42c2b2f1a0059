-- Kinds of requests, and the cables that list a zone.
use Rattle.std.proofs.Common.{◌≡◌, ℕ, suc, ◌<◌, Bool, true, false, not, ◌&&◌, ◌||◌, ◌==◌, cond, List, [], ◌∷◌, Option, Some, None}
use Rattle.std.proofs.Common.{refl, sym, ap, ◌∙◌, subst, arith, eq-eqb, inl, inr}
use Rattle.std.specs.List.{list_any}
use Rattle.std.proofs.lemmas.Bool.{and_left, cases_eq, ne_eqb}
use Rattle.at_base.specs.Text.{is_name, same_name}
use Rattle.table_image.specs.Internet.{Internet}
use Rattle.table_image.specs.declared.cable.Cable.{Cable}
use Rattle.nbp.specs.declared.packet.Function.{Function}
use Rattle.nbp.specs.declared.packet.Function.TheVariants.{BroadcastRequest, Lookup, Reply, ForwardRequest}
use Rattle.nbp.specs.Packets.{NbpPacket}
use Rattle.audit.specs.Walks.{AreDifferent, NotAmong}
use Rattle.cable_model.specs.Transcript.{count, one}
use Rattle.legal_runs.specs.Answers.{is_other}
use Rattle.legal_runs.specs.Requests.{has_zone, is_among, is_broadcast, is_forward, is_lookup, listing, listing_from, request}

-- ---- A packet is of one kind

pub broadcast_alone : (o : Option NbpPacket) → is_broadcast o ≡ true → (is_forward o ≡ false) × (is_lookup o ≡ false)
broadcast_alone None e = cc
broadcast_alone (Some p) e = by p.function e
  where
    by : (f : Function) → is_broadcast (Some (record p { function = f })) ≡ true
        → (is_forward (Some (record p { function = f })) ≡ false) × (is_lookup (Some (record p { function = f })) ≡ false)
    by BroadcastRequest e = (refl, refl)
    by Lookup e = cc
    by Reply e = cc
    by ForwardRequest e = cc

pub forward_alone : (o : Option NbpPacket) → is_forward o ≡ true → (is_broadcast o ≡ false) × (is_lookup o ≡ false)
forward_alone None e = cc
forward_alone (Some p) e = by p.function e
  where
    by : (f : Function) → is_forward (Some (record p { function = f })) ≡ true
        → (is_broadcast (Some (record p { function = f })) ≡ false) × (is_lookup (Some (record p { function = f })) ≡ false)
    by BroadcastRequest e = cc
    by Lookup e = cc
    by Reply e = cc
    by ForwardRequest e = (refl, refl)

pub lookup_alone : (o : Option NbpPacket) → is_lookup o ≡ true → (is_broadcast o ≡ false) × (is_forward o ≡ false)
lookup_alone None e = cc
lookup_alone (Some p) e = by p.function e
  where
    by : (f : Function) → is_lookup (Some (record p { function = f })) ≡ true
        → (is_broadcast (Some (record p { function = f })) ≡ false) × (is_forward (Some (record p { function = f })) ≡ false)
    by BroadcastRequest e = cc
    by Lookup e = (refl, refl)
    by Reply e = cc
    by ForwardRequest e = cc

pub other_alone : (b : List ℕ) → is_other b ≡ true
    → (is_broadcast (request b) ≡ false) × (is_forward (request b) ≡ false) × (is_lookup (request b) ≡ false)
other_alone b e = none (is_broadcast (request b)) (is_forward (request b)) (is_lookup (request b)) e
  where
    none : (x y z : Bool) → not (x || y || z) ≡ true → (x ≡ false) × (y ≡ false) × (z ≡ false)
    none false false false e = (refl, refl, refl)
    none true y z e = cc
    none false true z e = cc
    none false false true e = cc

-- ---- No cable is listed twice

not_among : (z : List ℕ) (c k : ℕ) (cs : List Cable) → c < k → NotAmong c (listing_from k z cs)
not_among z c k [] lt = tt
not_among z c k (d ∷ ds) lt = by (has_zone z d.zones) (not_among z c (suc k) ds (omega arith))
  where
    by : (b : Bool) → NotAmong c (listing_from (suc k) z ds) → NotAmong c
        (cond b (k ∷ listing_from (suc k) z ds) (listing_from (suc k) z ds))
    by true others = ((λ same. omega arith), others)
    by false others = others

differ_from : (z : List ℕ) (k : ℕ) (cs : List Cable) → AreDifferent (listing_from k z cs)
differ_from z k [] = tt
differ_from z k (d ∷ ds) = by (has_zone z d.zones) (differ_from z (suc k) ds)
  where
    by : (b : Bool) → AreDifferent (listing_from (suc k) z ds) → AreDifferent
        (cond b (k ∷ listing_from (suc k) z ds) (listing_from (suc k) z ds))
    by true others = (not_among z k (suc k) ds (omega arith), others)
    by false others = others

pub listed_once : (i : Internet) (z : List ℕ) → AreDifferent (listing i z)
listed_once i z = differ_from z 0 i.cables

-- No cable lists bytes that are not a valid name.
none_listed : (z : List ℕ) (k : ℕ) (cs : List Cable) → is_name z ≡ false → listing_from k z cs ≡ []
none_listed z k [] e = refl
none_listed z k (c ∷ cs) e =
    ap (λ b. cond (b && list_any (same_name z) c.zones) (k ∷ listing_from (suc k) z cs) (listing_from (suc k) z cs)) e
    ∙ none_listed z (suc k) cs e

pub no_name_listed : (i : Internet) (z : List ℕ) (c : ℕ) → is_name z ≡ false → is_among c (listing i z) ≡ false
no_name_listed i z c e = ap (is_among c) (none_listed z 0 i.cables e)

-- ---- How often a cable is in the list

not_in_none : (c : ℕ) (b : Bool) (cs : List ℕ) → NotAmong c cs → count (λ d. d == c && b) cs ≡ 0
not_in_none c b [] h = refl
not_in_none c b (d ∷ cs) h =
    let rest = not_in_none c b cs h.1 in
    let e = ap one (and_left (d == c) b (ne_eqb _ _ (λ x. h.0 (sym x)))) in
    omega (arith, rest, e)

pub count_listing : (c : ℕ) (b : Bool) (cs : List ℕ) → AreDifferent cs → count (λ d. d == c && b) cs ≡ one (is_among c cs && b)
count_listing c b [] h = refl
count_listing c b (d ∷ cs) h =
    elim (cases_eq d c) as (λ _. count (λ d. d == c && b) (d ∷ cs) ≡ one (is_among c (d ∷ cs) && b)) [
      | inl e ↦
          let here = eq-eqb _ _ e in
          let gone : NotAmong c cs = subst (λ x. NotAmong x cs) e h.0 in
          let x = ap (λ y. one (y && b)) here in
          let z = not_in_none c b cs gone in
          let w = ap (λ y. one ((y || is_among c cs) && b)) here in
          omega (arith, x, z, w)
      | inr ne ↦
          let there = ne_eqb _ _ ne in
          let x = ap (λ y. one (y && b)) there in
          let rest = count_listing c b cs h.1 in
          let w = ap (λ y. one ((y || is_among c cs) && b)) there in
          omega (arith, x, rest, w)
    ]
