-- The address of each waiting datagram was requested from one to ten times.
use Rattle.std.proofs.Common.{◌≡◌, ℕ, zero, suc, ◌-◌, Bool, true, false, ◌&&◌, cond, IsTrue, List, [], ◌∷◌, ◌++◌, length, map, filter, take}
use Rattle.std.proofs.Common.{drop, remove, find, position, Option, Some, None, refl, ◌∙◌, arith}
use Rattle.std.specs.List.{list_all}
use Rattle.std.specs.Option.{option_map_or}
use Rattle.std.proofs.lemmas.List.Folds.{list_all-append}
use Rattle.at_base.proofs.Cases.{by_test}
use Rattle.at_base.specs.declared.address.Addr.{Addr}
use Rattle.aarp.specs.declared.held.Held.{Held}
use Rattle.aarp.specs.Mapping.{is_counted, is_for, counted, is_asked_again, asked_once_more, waited, without_oldest}
use Rattle.circular_buffer.specs.Buffer.{keep_last}

both : (a b : Bool) → (a && b) ≡ true → (a ≡ true) × (b ≡ true)
both true b h = (refl, h)
both false b h = absurd cc

all_take : (n : ℕ) (xs : List Held) → list_all is_counted xs ≡ true → list_all is_counted (take n xs) ≡ true
all_take zero xs h = refl
all_take (suc n) [] h = refl
all_take (suc n) (x ∷ xs) h =
    let b = both (is_counted x) (list_all is_counted xs) h in
    rw b.0 (all_take n xs b.1)

all_drop : (n : ℕ) (xs : List Held) → list_all is_counted xs ≡ true → list_all is_counted (drop n xs) ≡ true
all_drop zero xs h = h
all_drop (suc n) [] h = refl
all_drop (suc n) (x ∷ xs) h = all_drop n xs (both (is_counted x) (list_all is_counted xs) h).1

all_append : (xs ys : List Held) → list_all is_counted xs ≡ true → list_all is_counted ys ≡ true → list_all is_counted (xs ++ ys) ≡ true
all_append xs ys h k = list_all-append is_counted xs ys ∙ rw (h, k) refl

-- a datagram that was found in the list passes the test of all
all_found : (p : Held → Bool) (xs : List Held) (h : Held) → list_all is_counted xs ≡ true → find p xs ≡ Some h → is_counted h ≡ true
all_found p [] h all e = absurd cc
all_found p (x ∷ xs) h all e =
    let b = both (is_counted x) (list_all is_counted xs) all in
    by_test (p x)
    (λ t. (let f = rw t at e in let same : x ≡ h = cc in rw same at b.0))
    (λ t. all_found p xs h b.1 (rw t at e))

counted_is : (h : Held) (xs : List Held) → list_all is_counted xs ≡ true → is_counted (counted h xs) ≡ true
counted_is h xs all = by_case (find (is_for h.next) xs) refl
  where
    by_case : (o : Option Held) → find (is_for h.next) xs ≡ o → is_counted (counted h xs) ≡ true
    by_case None e = rw e refl
    by_case (Some g) e = rw e (all_found (is_for h.next) xs g all e)

-- the counts are valid after one more datagram is held
pub held_counted : (h : Held) (xs : List Held) → IsTrue (list_all is_counted xs)
    → IsTrue (list_all is_counted (keep_last 16 (xs ++ counted h xs ∷ [])))
held_counted h xs all =
    let last : list_all is_counted (counted h xs ∷ []) ≡ true = rw (counted_is h xs all) refl in
    all_drop (length (xs ++ counted h xs ∷ []) - 16) (xs ++ counted h xs ∷ []) (all_append xs (counted h xs ∷ []) all last)

-- the counts are valid after a datagram is released
pub left_counted : (a : Addr) (xs : List Held) → IsTrue (list_all is_counted xs) → IsTrue (list_all is_counted (without_oldest a xs))
left_counted a xs all = by_case (position (is_for a) xs)
  where
    by_case : (o : Option ℕ) → IsTrue (list_all is_counted (option_map_or (remove xs) o xs))
    by_case None = all
    by_case (Some i) = all_append (take i xs) (drop (suc i) xs) (all_take i xs all) (all_drop (suc i) xs all)

more_counted : (h : Held) → is_counted h ≡ true → is_asked_again h ≡ true → is_counted (asked_once_more h) ≡ true
more_counted h c again = grind arith

-- the counts are valid after a tick
pub waited_counted : (xs : List Held) → IsTrue (list_all is_counted xs) → IsTrue (list_all is_counted (waited xs))
waited_counted [] all = refl
waited_counted (h ∷ xs) all =
    let b = both (is_counted h) (list_all is_counted xs) all in
    let rest = waited_counted xs b.1 in
    (elim (is_asked_again h) as (λ t. is_asked_again h ≡ t
    → list_all is_counted (map asked_once_more (cond t (h ∷ filter is_asked_again xs) (filter is_asked_again xs))) ≡ true) [
      | true ↦ λ t. rw (more_counted h b.0 t) rest
      | false ↦ λ t. rest
    ]) refl
