-- The zones of a cable that were found among the names of a list, and the comparison of both.
use Rattle.std.proofs.Common.{◌≡◌, ◌≢◌, ℕ, zero, suc, ◌<◌, ◌≤◌, Bool, true, false, cond, not, ◌&&◌, ◌||◌, List, [], ◌∷◌, ◌++◌}
use Rattle.std.proofs.Common.{Option, Some, None, length, take, slice_get, option_map, refl, sym, ap, ◌∙◌, arith, fold}
use Rattle.std.specs.Prelude.{slice_index_or}
use Rattle.std.specs.List.{list_any, list_all}
use Rattle.std.proofs.lemmas.List.Folds.{list_any-append, list_all-append}
use Rattle.std.proofs.lemmas.Bool.{or_parts, false_from_ne_true}
use Rattle.at_base.specs.Text.{same_name}
use Rattle.at_base.proofs.Texts.{same_name_symm, same_name_congr, is_same_name}
use Rattle.audit.specs.Places.{index_of}
use Rattle.audit.specs.ZoneLists.{has_double, are_among}
use Rattle.audit.proofs.Finding.{first_index, any_from}

-- ---- names of a cable, none of them twice

-- at most one element equals a name, ignoring case
pub only_name : (zones : List (List ℕ)) → has_double zones ≡ false → (x : List ℕ) (j k : ℕ) (y z : List ℕ)
    → slice_get zones j ≡ Some y → slice_get zones k ≡ Some z → same_name x y ≡ true → same_name x z ≡ true → j ≡ k
only_name [] once x j k y z at_j at_k e f = cc
only_name (w ∷ zones) once x zero zero y z at_j at_k e f = refl
only_name (w ∷ zones) once x zero (suc k) y z at_j at_k e f =
    let is : w ≡ y = cc in
    let same : same_name w z ≡ true = ap (λ n. same_name n z) is ∙ (sym (same_name_congr x y z e) ∙ f) in
    let any = any_from (same_name w) zones k z at_k same in
    let none = (or_parts (list_any (same_name w) zones) (has_double zones) once).0 in
    cc
only_name (w ∷ zones) once x (suc j) zero y z at_j at_k e f =
    let is : w ≡ z = cc in
    let same : same_name w y ≡ true = ap (λ n. same_name n y) is ∙ (sym (same_name_congr x z y f) ∙ e) in
    let any = any_from (same_name w) zones j y at_j same in
    let none = (or_parts (list_any (same_name w) zones) (has_double zones) once).0 in
    cc
only_name (w ∷ zones) once x (suc j) (suc k) y z at_j at_k e f =
    ap suc (only_name zones (or_parts (list_any (same_name w) zones) (has_double zones) once).1 x j k y z at_j at_k e f)

-- the element that was found is the first one
pub found_first : (zones : List (List ℕ)) → has_double zones ≡ false → (x : List ℕ) (k : ℕ) (z : List ℕ) → slice_get zones k ≡ Some z
    → same_name x z ≡ true → Some k ≡ index_of (same_name x) zones
found_first zones once x k z at same = sym (first_index (same_name x) zones k z at same before)
  where
    before : (j : ℕ) (y : List ℕ) → j < k → slice_get zones j ≡ Some y → same_name x y ≡ false
    before j y lt at_j =
        false_from_ne_true (same_name x y) (λ t. let is = only_name zones once x j k y z at_j at t same in omega (arith, lt, is))

-- ---- the first index

pub index_none : {X : Type 0} (test : X → Bool) (xs : List X) → index_of test xs ≡ None → list_any test xs ≡ false
index_none test [] e = refl
index_none test (x ∷ xs) e =
    elim (test x) as (λ b. cond b (Some zero) (option_map suc (index_of test xs)) ≡ None → (b || list_any test xs) ≡ false) [
      | true ↦ λ e. cc
      | false ↦ λ e. index_none test xs (inner (index_of test xs) e)
    ] e
  where
    inner : (o : Option ℕ) → option_map suc o ≡ None → o ≡ None
    inner None e = refl
    inner (Some j) e = cc

later_at : {X : Type 0} (test : X → Bool) (x : X) (xs : List X) (k : ℕ) (o : Option ℕ)
    → ((j : ℕ) → o ≡ Some j → (y : X) × (slice_get xs j ≡ Some y) × (test y ≡ true)) → option_map suc o ≡ Some k
    → (y : X) × (slice_get (x ∷ xs) k ≡ Some y) × (test y ≡ true)
later_at test x xs k None within e = cc
later_at test x xs k (Some j) within e =
    let is : suc j ≡ k = cc in
    let h = within j refl in
    (h.0, ap (slice_get (x ∷ xs)) (sym is) ∙ h.1, h.2)

pub index_at : {X : Type 0} (test : X → Bool) (xs : List X) (k : ℕ) → index_of test xs ≡ Some k
    → (x : X) × (slice_get xs k ≡ Some x) × (test x ≡ true)
index_at test [] k e = cc
index_at {X} test (x ∷ xs) k e =
    elim (test x) as (λ b. test x ≡ b → cond b (Some zero) (option_map suc (index_of test xs)) ≡ Some k
    → (y : X) × (slice_get (x ∷ xs) k ≡ Some y) × (test y ≡ true)) [
      | true ↦ λ t e. (let is : zero ≡ k = cc in (x, ap (slice_get (x ∷ xs)) (sym is), t))
      | false ↦ λ t e. later_at test x xs k (index_of test xs) (λ j f. index_at test xs j f) e
    ] refl e

-- ---- lists with one more name

four : (a b d e : Bool) → ((a || (b || false)) || (d || e)) ≡ ((a || d) || (b || e))
four true b d e = refl
four false true true e = refl
four false true false e = refl
four false false d e = refl

double_last : (xs : List (List ℕ)) (x : List ℕ) → has_double (xs ++ x ∷ []) ≡ (has_double xs || list_any (same_name x) xs)
double_last [] x = refl
double_last (y ∷ ys) x =
    let any = list_any-append (same_name y) ys (x ∷ []) in
    let turned = same_name_symm y x in
    ap (λ b. b || has_double (ys ++ x ∷ [])) any
    ∙ (ap (λ b. (list_any (same_name y) ys || (same_name y x || false)) || b) (double_last ys x)
    ∙ (ap (λ b. (list_any (same_name y) ys || (b || false)) || (has_double ys || list_any (same_name x) ys)) turned
    ∙ four (list_any (same_name y) ys) (same_name x y) (has_double ys) (list_any (same_name x) ys)))

or_left : (a b : Bool) → a ≡ true → (a || b) ≡ true
or_left true b e = refl
or_left false b e = cc

or_right : (a b : Bool) → b ≡ true → (a || b) ≡ true
or_right true b e = refl
or_right false b e = e

-- if a front has a name twice, the list has
double_front : (xs ys : List (List ℕ)) → has_double xs ≡ true → has_double (xs ++ ys) ≡ true
double_front [] ys e = cc
double_front (x ∷ xs) ys e =
    elim (list_any (same_name x) xs) as (λ b. list_any (same_name x) xs ≡ b → (b || has_double xs) ≡ true
    → (list_any (same_name x) (xs ++ ys) || has_double (xs ++ ys)) ≡ true) [
      | true ↦ λ t e. or_left _ _ (list_any-append (same_name x) xs ys ∙ or_left _ _ t)
      | false ↦ λ t e. or_right _ _ (double_front xs ys e)
    ] refl e

-- ---- the zones found

-- The zones of a cable that are among the names are marked; each of the names is a zone of the cable, and none is
-- twice.
pub record Matches (zones names : List (List ℕ)) (mark : ℕ → Bool) : Type 0 where
  pub among : are_among names zones ≡ true
  pub once : has_double names ≡ false
  pub marks : (k : ℕ) (z : List ℕ) → slice_get zones k ≡ Some z → mark k ≡ list_any (same_name z) names

both : (a b : Bool) → a ≡ true → b ≡ true → (a && (b && true)) ≡ true
both true true e f = refl
both true false e f = f
both false b e f = e

-- the zone of a name is marked exactly if the name is among those before it
mark_of : (zones names : List (List ℕ)) (mark : ℕ → Bool) (x : List ℕ) (k : ℕ) → Matches zones names mark
    → index_of (same_name x) zones ≡ Some k → mark k ≡ list_any (same_name x) names
mark_of zones names mark x k m at =
    let found = index_at (same_name x) zones k at in
    m.marks k found.0 found.1 ∙ sym (alike names found.0 found.2)
  where
    alike : (names : List (List ℕ)) (z : List ℕ) → same_name x z ≡ true → list_any (same_name x) names ≡ list_any (same_name z) names
    alike [] z e = refl
    alike (n ∷ names) z e = ap (λ b. b || list_any (same_name x) names) (same_name_congr x z n e) ∙ ap (λ b. same_name z n || b)
        (alike names z e)

last : (a b : Bool) → b ≡ false → (a || (b || false)) ≡ a
last true b e = refl
last false true e = e
last false false e = refl

-- after one more name, that of zone k, a zone is marked exactly if it is among the names
marks_on : (zones names : List (List ℕ)) (mark more : ℕ → Bool) (x : List ℕ) (k : ℕ) (y : List ℕ) → has_double zones ≡ false
    → Matches zones names mark → slice_get zones k ≡ Some y → same_name x y ≡ true → more k ≡ true
    → ((j : ℕ) → j ≢ k → more j ≡ mark j) → (j : ℕ) (z : List ℕ) → slice_get zones j ≡ Some z
    → more j ≡ list_any (same_name z) (names ++ x ∷ [])
marks_on zones names mark more x k y once m at same marked others j z at_j =
    elim (same_name z x) as (λ b. same_name z x ≡ b → more j ≡ list_any (same_name z) (names ++ x ∷ [])) [
      | true ↦ λ t. (
          let is = only_name zones once x j k z y at_j at (same_name_symm x z ∙ t) same in
          ap more is ∙ (marked ∙ sym (list_any-append (same_name z) names (x ∷ [])
          ∙ or_right (list_any (same_name z) names) (same_name z x || false) (or_left (same_name z x) false t))))
      | false ↦ λ f. (
          let apart : j ≢ k = λ is. (
          let here : slice_get zones k ≡ Some z = ap (slice_get zones) (sym is) ∙ at_j in
          let e : z ≡ y = cc in
          let t : same_name x z ≡ true = ap (same_name x) e ∙ same in
          let turned = same_name_symm x z in
          cc) in
          others j apart ∙ (m.marks j z at_j ∙ sym (list_any-append (same_name z) names (x ∷ [])
          ∙ last (list_any (same_name z) names) (same_name z x) f)))
    ] refl

-- one more name, that of a zone that isn't marked
pub one_more : (zones names : List (List ℕ)) (mark more : ℕ → Bool) (x : List ℕ) (k : ℕ) → has_double zones ≡ false
    → Matches zones names mark → index_of (same_name x) zones ≡ Some k → mark k ≡ false → more k ≡ true
    → ((j : ℕ) → j ≢ k → more j ≡ mark j) → Matches zones (names ++ x ∷ []) more
one_more zones names mark more x k once m at unmarked marked others =
    let found = index_at (same_name x) zones k at in
    record {
      among =
          list_all-append (λ name. list_any (same_name name) zones) names (x ∷ [])
          ∙ both (are_among names zones) (list_any (same_name x) zones) m.among (any_from (same_name x) zones k found.0 found.1 found.2);
      once =
          double_last names x
          ∙ (ap (λ b. b || list_any (same_name x) names) m.once ∙ (sym (mark_of zones names mark x k m at) ∙ unmarked));
      marks = marks_on zones names mark more x k found.0 once m found.1 found.2 marked others;
    }

-- ---- the result

-- the test of a list: its names are the zones, each once
abbrev pub AreZones : List (List ℕ) → List (List ℕ) → Bool
AreZones zones names = not (has_double names) && (are_among names zones && are_among zones names)

not_all : (d a b : Bool) → a ≡ false → (not d && (a && b)) ≡ false
not_all true a b e = refl
not_all false a b e = ap (λ t. t && b) e

not_once : (d a : Bool) → d ≡ true → (not d && a) ≡ false
not_once true a e = refl
not_once false a e = cc

second : (a b : Bool) → b ≡ false → (a && b) ≡ false
second true b e = e
second false b e = refl

-- if a name isn't that of a zone, the test fails
pub not_among : (zones names : List (List ℕ)) (m : ℕ) (x : List ℕ) → slice_get names m ≡ Some x → index_of (same_name x) zones ≡ None
    → false ≡ AreZones zones names
not_among zones names m x at none =
    sym (not_all (has_double names) (are_among names zones) (are_among zones names) (fails names m at))
  where
    fails : (names : List (List ℕ)) (m : ℕ) → slice_get names m ≡ Some x → are_among names zones ≡ false
    fails [] m e = cc
    fails (n ∷ names) zero e =
        let is : n ≡ x = cc in
        ap (λ n. list_any (same_name n) zones && are_among names zones) is ∙ ap (λ b. b && are_among names zones)
        (index_none (same_name x) zones none)
    fails (n ∷ names) (suc m) e = second (list_any (same_name n) zones) (are_among names zones) (fails names m e)

-- if the zone of a name is marked already, the test fails
pub found_twice : (zones names rest : List (List ℕ)) (all : List (List ℕ)) (mark : ℕ → Bool) (x : List ℕ) (k : ℕ)
    → Matches zones names mark → index_of (same_name x) zones ≡ Some k → mark k ≡ true → (names ++ x ∷ []) ++ rest ≡ all
    → false ≡ AreZones zones all
found_twice zones names rest all mark x k m at marked is =
    let any : list_any (same_name x) names ≡ true = sym (mark_of zones names mark x k m at) ∙ marked in
    let front : has_double (names ++ x ∷ []) ≡ true = double_last names x ∙ or_right (has_double names) _ any in
    let double : has_double all ≡ true = ap has_double (sym is) ∙ double_front (names ++ x ∷ []) rest front in
    sym (not_once (has_double all) (are_among all zones && are_among zones all) double)

-- at the end, the marks say whether each zone is among the names
pub at_end : (zones names : List (List ℕ)) (marks : List Bool) → length zones ≤ length marks
    → Matches zones names (λ k. slice_index_or marks k false)
    → list_all (λ b. b) (take (length zones) marks) ≡ AreZones zones names
at_end zones names marks long m =
    all zones marks long m.marks ∙ sym (ap (λ d. not d && (are_among names zones && are_among zones names)) m.once
    ∙ ap (λ a. a && are_among zones names) m.among)
  where
    all : (zones : List (List ℕ)) (marks : List Bool) → length zones ≤ length marks
        → ((k : ℕ) (z : List ℕ) → slice_get zones k ≡ Some z → slice_index_or marks k false ≡ list_any (same_name z) names)
        → list_all (λ b. b) (take (length zones) marks) ≡ are_among zones names
    all [] marks long each = refl
    all (z ∷ zones) [] long each = absurd (omega (arith, long))
    all (z ∷ zones) (b ∷ marks) long each =
        ap (λ a. a && list_all (λ b. b) (take (length zones) marks)) (each zero z refl)
        ∙ ap (λ r. list_any (same_name z) names && r) (all zones marks (omega (arith, long)) (λ k y e. each (suc k) y e))

-- the zones themselves pass the test
pub the_zones : (zones : List (List ℕ)) → has_double zones ≡ false → true ≡ AreZones zones zones
the_zones zones once = sym (ap (λ d. not d && (are_among zones zones && are_among zones zones)) once
    ∙ (ap (λ a. a && a) (each zones (λ k z at. any_from (same_name z) zones k z at (is_same_name z z refl)))))
  where
    each : (front : List (List ℕ)) → ((k : ℕ) (z : List ℕ) → slice_get front k ≡ Some z → list_any (same_name z) zones ≡ true)
        → are_among front zones ≡ true
    each [] all = refl
    each (z ∷ front) all = ap (λ b. b && are_among front zones) (all zero z refl) ∙ each front (λ k y at. all (suc k) y at)

-- ---- loops

-- a front and the element after it
pub grown : {X : Type 0} (xs : List X) (m : ℕ) (x : X) → slice_get xs m ≡ Some x → take (suc m) xs ≡ take m xs ++ x ∷ []
grown [] m x at = cc
grown (y ∷ xs) zero x at = let is : y ≡ x = cc in ap (λ y. y ∷ []) is
grown (y ∷ xs) (suc m) x at = ap (λ l. y ∷ l) (grown xs m x at)

pub whole : {X : Type 0} (xs : List X) (n : ℕ) → length xs ≤ n → take n xs ≡ xs
whole [] zero past = refl
whole [] (suc n) past = refl
whole (x ∷ xs) zero past = absurd (omega (arith, past))
whole (x ∷ xs) (suc n) past = ap (λ l. x ∷ l) (whole xs n (omega (arith, past)))

fold_from : (b : Bool) (xs : List Bool) → fold (λ all b. all && b) b xs ≡ (b && list_all (λ b. b) xs)
fold_from true [] = refl
fold_from false [] = refl
fold_from true (x ∷ xs) = fold_from x xs
fold_from false (x ∷ xs) = fold_from false xs

pub fold_all : (xs : List Bool) → fold (λ all b. all && b) true xs ≡ list_all (λ b. b) xs
fold_all xs = fold_from true xs
