-- The effect of a tick on waiting datagrams, one datagram after another.
use Rattle.std.proofs.Common.{◌≡◌, ℕ, suc, ◌+◌, ◌<◌, ◌≤◌, Bool, true, false, not, cond, List, [], ◌∷◌, ◌++◌, length, map, filter, take}
use Rattle.std.proofs.Common.{drop, get_or, slice_get, Some, None, refl, ap, ◌∙◌, arith, append_assoc, append-nil, length-append}
use Rattle.std.proofs.Common.{length-drop, length-take}
use Rattle.std.proofs.lemmas.List.{drop_more, take_more, map-append}
use Rattle.std.proofs.lemmas.List.Elements.{filter-append}
use Rattle.std.proofs.lemmas.Grind.{flat_map-append}
use Rattle.std.specs.List.{flat_map, list_any}
use Rattle.at_base.specs.declared.address.Addr.{Addr}
use Rattle.at_base.specs.Address.{same_address}
use Rattle.aarp.specs.declared.held.Held.{Held}
use Rattle.aarp.specs.Mapping.{each_once, noted, is_asked_again, asked_once_more, waited, to_ask, given_up, shed, stamp_of}

-- ---- addresses, each once

same_self : (a : Addr) → same_address a a ≡ true
same_self a = grind arith

same_is : (a b : Addr) → same_address a b ≡ true → a ≡ b
same_is a b h = grind arith

-- the addresses that differ from one
abbrev others : Addr → List Addr → List Addr
others x xs = filter (λ b. not (same_address x b)) xs

others_more : (x b : Addr) (xs : List Addr) → same_address x b ≡ false → others x (xs ++ b ∷ []) ≡ others x xs ++ b ∷ []
others_more x b xs h = filter-append (λ c. not (same_address x c)) xs (b ∷ []) ∙ rw h refl

others_same : (x b : Addr) (xs : List Addr) → same_address x b ≡ true → others x (xs ++ b ∷ []) ≡ others x xs
others_same x b xs h = filter-append (λ c. not (same_address x c)) xs (b ∷ []) ∙ rw h (append-nil (others x xs))

apart : (x b y : Addr) → same_address b x ≡ false → same_address x y ≡ true → same_address b y ≡ false
apart x b y h e = grind arith

-- another address is in the list exactly if it is in the list without x
any_others : (x b : Addr) (xs : List Addr) → same_address b x ≡ false → list_any (same_address b) (others x xs)
    ≡ list_any (same_address b) xs
any_others x b [] h = refl
any_others x b (y ∷ xs) h = (elim (same_address x y) as (λ t. same_address x y ≡ t
    → list_any (same_address b) (cond (not t) (y ∷ others x xs) (others x xs)) ≡ list_any (same_address b) (y ∷ xs)) [
      | true ↦ λ e. rw (apart x b y h e) (any_others x b xs h)
      | false ↦ λ e. rw (any_others x b xs h) refl
    ]) refl

other_way : (x b : Addr) → same_address b x ≡ true → same_address x b ≡ true
other_way x b h = grind arith

not_other_way : (x b : Addr) → same_address b x ≡ false → same_address x b ≡ false
not_other_way x b h = grind arith

-- noting an address among others
noted_others : (x b : Addr) (xs : List Addr) → x ∷ others x (noted b xs) ≡ noted b (x ∷ others x xs)
noted_others x b xs = by_case (same_address b x) (list_any (same_address b) xs) refl refl
  where
    by_case : (t u : Bool) → same_address b x ≡ t → list_any (same_address b) xs ≡ u → x ∷ others x (noted b xs)
        ≡ noted b (x ∷ others x xs)
    by_case true true e f = rw (f, e) refl
    by_case true false e f = rw (f, e) (ap (λ (l : List Addr). x ∷ l) (others_same x b xs (other_way x b e)))
    by_case false true e f = let a = any_others x b xs e ∙ f in rw (f, e, a) refl
    by_case false false e f = let a = any_others x b xs e
        ∙ f in rw (f, e, a) (ap (λ (l : List Addr). x ∷ l) (others_more x b xs (not_other_way x b e)))

-- one more address is noted
each_once_more : (xs : List Addr) (b : Addr) → each_once (xs ++ b ∷ []) ≡ noted b (each_once xs)
each_once_more [] b = refl
each_once_more (x ∷ xs) b = ap (λ (l : List Addr). x ∷ others x l) (each_once_more xs b) ∙ noted_others x b (each_once xs)

-- ---- one more datagram

waited_more : (xs : List Held) (h : Held) → waited (xs ++ h ∷ []) ≡ waited xs ++ waited (h ∷ [])
waited_more xs h = ap (map asked_once_more) (filter-append is_asked_again xs (h ∷ []))
    ∙ map-append asked_once_more (filter is_asked_again xs) (filter is_asked_again (h ∷ []))

-- the next addresses of the datagrams that pass a test
abbrev nexts : (Held → Bool) → List Held → List Addr
nexts p xs = map (λ h. h.next) (filter p xs)

nexts_more : (p : Held → Bool) (xs : List Held) (h : Held) → each_once (nexts p (xs ++ h ∷ []))
    ≡ cond (p h) (noted h.next (each_once (nexts p xs))) (each_once (nexts p xs))
nexts_more p xs h =
    let parts : nexts p (xs ++ h ∷ [])
    ≡ nexts p xs ++ nexts p (h ∷ []) = ap (map (λ (g : Held). g.next)) (filter-append p xs (h ∷ []))
    ∙ map-append (λ (g : Held). g.next) (filter p xs) (filter p (h ∷ [])) in
    by_case (p h) refl parts
  where
    by_case : (t : Bool) → p h ≡ t → nexts p (xs ++ h ∷ []) ≡ nexts p xs ++ nexts p (h ∷ []) → each_once (nexts p (xs ++ h ∷ []))
        ≡ cond t (noted h.next (each_once (nexts p xs))) (each_once (nexts p xs))
    by_case true e parts = ap each_once (rw e at parts) ∙ each_once_more (nexts p xs) h.next
    by_case false e parts = ap each_once (rw e at parts) ∙ ap each_once (append-nil (nexts p xs))

shed_more : (xs : List Held) (h : Held) → shed (xs ++ h ∷ []) ≡ shed xs ++ cond (is_asked_again h) [] (stamp_of h)
shed_more xs h =
    let gone : Held → Bool = λ g. not (is_asked_again g) in
    ap (flat_map stamp_of) (filter-append gone xs (h ∷ []))
    ∙ (flat_map-append stamp_of (filter gone xs) (filter gone (h ∷ [])) ∙ ap (λ l. shed xs ++ l) (last (is_asked_again h)))
  where
    last : (b : Bool) → flat_map stamp_of (cond (not b) (h ∷ []) []) ≡ cond b [] (stamp_of h)
    last true = refl
    last false = append-nil (stamp_of h)

length-waited : (xs : List Held) → length (waited xs) ≤ length xs
length-waited [] = omega arith
length-waited (h ∷ xs) = elim (is_asked_again h) as (λ t. length (map asked_once_more (cond t (h ∷ filter is_asked_again xs) (filter
    is_asked_again xs))) ≤ suc (length xs)) [
      | true ↦ (let l = length-waited xs in omega arith)
      | false ↦ (let l = length-waited xs in omega arith)
    ]

-- a queue whose first i datagrams were handled by the tick, and the next one, h
pub record Next (old : List Held) (i : ℕ) (h : Held) : Type 0 where
  pub items : drop 1 (drop i old ++ waited (take i old)) ++ waited (h ∷ []) ≡ drop (i + 1) old ++ waited (take (i + 1) old)
  pub ask : to_ask (take (i + 1) old) ≡ cond (is_asked_again h) (noted h.next (to_ask (take i old))) (to_ask (take i old))
  pub given_up : given_up (take (i + 1) old) ≡ cond (is_asked_again h) (given_up (take i old)) (noted h.next (given_up (take i old)))
  pub shed : shed (take (i + 1) old) ≡ shed (take i old) ++ cond (is_asked_again h) [] (stamp_of h)
  pub room : length (drop 1 (drop i old ++ waited (take i old))) < length old

pub next : (old : List Held) (i : ℕ) (h : Held) → i < length old → slice_get (drop i old ++ waited (take i old)) 0 ≡ Some h
    → Next old i h
next old i h lt first =
    let rest = drop_more old i h lt in
    let taken = take_more old i h lt in
    let is : get_or old i h ≡ h = (let f = rw rest at first in cc) in
    let rest_is : drop i old ≡ h ∷ drop (i + 1) old = rw is at rest in
    let taken_is : take (i + 1) old ≡ take i old ++ h ∷ [] = rw is at taken in
    record {
      items = rw (rest_is, taken_is, waited_more (take i old) h) (append_assoc (drop (i + 1) old) (waited (take i old)) (waited (h ∷
          [])));
      ask = rw taken_is (nexts_more is_asked_again (take i old) h);
      given_up = rw taken_is (nexts_more (λ g. not (is_asked_again g)) (take i old) h ∙ turned (is_asked_again h) _ _);
      shed = rw taken_is (shed_more (take i old) h);
      room = rw rest_is (let l = length-waited (take i old) in omega (
        arith,
        length-append (drop (i + 1) old) (waited (take i old)),
        length-drop (i + 1) old,
        length-take i old,
      ));
    }
  where
    turned : (t : Bool) (xs ys : List Addr) → cond (not t) xs ys ≡ cond t ys xs
    turned true xs ys = refl
    turned false xs ys = refl

-- a queue of which not all datagrams were handled has a next one
pub has_next : (old : List Held) (i : ℕ) → i < length old → slice_get (drop i old ++ waited (take i old)) 0 ≡ None → ⊥
has_next [] i lt none = absurd (omega arith)
has_next (x ∷ old) i lt none = let n = rw (drop_more (x ∷ old) i x lt) at none in cc
