-- What entries begin and no later entry ends, as it is stored by the indices of entries.
use Rattle.std.proofs.Common.{◌≡◌, ℕ, Bool, true, false, not, cond, ◌||◌, ◌&&◌, List, [], ◌∷◌, ◌++◌, refl, sym, ap, ◌∙◌, subst}
use Rattle.std.proofs.Common.{append-nil, filter, map}
use Rattle.std.specs.List.{list_any, AllByRecursion as Each}
use Rattle.std.proofs.lemmas.List.Elements.{filter-append}
use Rattle.cable_model.proofs.Counting.{any-append, each_all, each_more}
use Rattle.cable_model.proofs.Order.{all_placed-append, each_all_placed, in_order-filter, map_all_placed}
use Rattle.cable_model.specs.Order.{all_placed, in_order}
use Rattle.cable_model.specs.Transcript.{Entry}
use Rattle.cable_model.specs.Waits.{due_key}
use Rattle.cable_model.specs.declared.due.Due.{Due}

-- ---- filters

filter_agree : {X : Type 0} (t u : X → Bool) (xs : List X) → Each (λ x. t x ≡ u x) xs → filter t xs ≡ filter u xs
filter_agree t u [] h = refl
filter_agree t u (x ∷ xs) h =
    ap (λ b. cond b (x ∷ filter t xs) (filter t xs)) h.0 ∙ ap (λ l. cond (u x) (x ∷ l) l) (filter_agree t u xs h.1)

filter_twice : {X : Type 0} (t u : X → Bool) (xs : List X) → filter t (filter u xs) ≡ filter (λ x. u x && t x) xs
filter_twice t u [] = refl
filter_twice t u (x ∷ xs) =
    first t u x (filter u xs) (u x) ∙ ap (λ l. cond (u x && t x) (x ∷ l) l) (filter_twice t u xs)
  where
    first : {X : Type 0} (t u : X → Bool) (x : X) (l : List X) (b : Bool)
        → filter t (cond b (x ∷ l) l) ≡ cond (b && t x) (x ∷ filter t l) (filter t l)
    first t u x l true = refl
    first t u x l false = refl

pub filter_all : {X : Type 0} (t : X → Bool) (xs : List X) → Each (λ x. t x ≡ true) xs → filter t xs ≡ xs
filter_all t [] h = refl
filter_all t (x ∷ xs) h = ap (λ b. cond b (x ∷ filter t xs) (filter t xs)) h.0 ∙ ap (λ l. x ∷ l) (filter_all t xs h.1)

pub each_filter : {X : Type 0} (P : X → Type 0) (t : X → Bool) (xs : List X) → Each P xs → Each P (filter t xs)
each_filter P t [] h = tt
each_filter P t (x ∷ xs) h = one_more P x (t x) (filter t xs) h.0 (each_filter P t xs h.1)
  where
    one_more : {X : Type 0} (P : X → Type 0) (x : X) (b : Bool) (l : List X) → P x → Each P l → Each P (cond b (x ∷ l) l)
    one_more P x true l h g = (h, g)
    one_more P x false l h g = g

-- the images of what a filter leaves
map_left : {X Y : Type 0} (f : X → Y) (P : X → Type 0) (test : X → Bool) (u : Y → Bool) (xs : List X)
    → ((x : X) → P x → test x ≡ u (f x)) → Each P xs
    → map f (filter (λ x. not (test x)) xs) ≡ filter (λ y. not (u y)) (map f xs)
map_left f P test u [] agree h = refl
map_left f P test u (x ∷ xs) agree h =
    by f test u x xs (test x) (map_left f P test u xs agree h.1)
    ∙ ap (λ b. cond (not b) (f x ∷ filter (λ y. not (u y)) (map f xs)) (filter (λ y. not (u y)) (map f xs))) (agree x h.0)
  where
    by : {X Y : Type 0} (f : X → Y) (test : X → Bool) (u : Y → Bool) (x : X) (xs : List X) (b : Bool)
        → map f (filter (λ x. not (test x)) xs) ≡ filter (λ y. not (u y)) (map f xs)
        → map f (cond (not b) (x ∷ filter (λ x. not (test x)) xs) (filter (λ x. not (test x)) xs))
        ≡ cond (not b) (f x ∷ filter (λ y. not (u y)) (map f xs)) (filter (λ y. not (u y)) (map f xs))
    by f test u x xs true h = h
    by f test u x xs false h = ap (λ l. f x ∷ l) h

-- ---- what is left, after one more entry

-- No entry so far, and not the new one, ends it.
abbrev pub IsNew : {P : Type 0} → (P → Entry → Bool) → List Entry → Entry → P → Type 0
IsNew ends t e q = (list_any (ends q) t ≡ false) × (ends q e ≡ false)

pub left_step : {P : Type 0} (ends : P → Entry → Bool) (all new : List P) (t : List Entry) (e : Entry) → Each (IsNew ends t e) new
    → filter (λ q. not (list_any (ends q) (t ++ e ∷ []))) (all ++ new)
    ≡ filter (λ q. not (ends q e)) (filter (λ q. not (list_any (ends q) t)) all) ++ new
left_step {P} ends all new t e h =
    let test : P → Bool = λ q. not (list_any (ends q) t) && not (ends q e) in
    filter_agree (λ q. not (list_any (ends q) (t ++ e ∷ []))) test (all ++ new)
    (each_all _ _ (λ q. ap not (any-append (ends q) t (e ∷ [])) ∙ shuffle (list_any (ends q) t) (ends q e)))
    ∙ (filter-append test all new
    ∙ (ap (λ l. l ++ filter test new) (sym (filter_twice (λ q. not (ends q e)) (λ q. not (list_any (ends q) t)) all))
    ∙ ap (λ l. filter (λ q. not (ends q e)) (filter (λ q. not (list_any (ends q) t)) all) ++ l)
    (filter_all test new
    (each_more (IsNew ends t e) (λ q. test q ≡ true) new (λ q g. ap (λ b. not b && not (ends q e)) g.0 ∙ ap not g.1) h))))
  where
    shuffle : (a b : Bool) → not (a || (b || false)) ≡ (not a && not b)
    shuffle true b = refl
    shuffle false true = refl
    shuffle false false = refl

-- What is stored is what is left: all that is stored is well stored, and its meaning is what is left, in order.
pub record IsStoredAll {P : Type 0} (key : P → ℕ × ℕ) (at : Due → P) (IsAt : Due → Type 0) (ds : List Due) (left : List P) : Type 0 where
  pub each : Each IsAt ds
  pub all : map at ds ≡ in_order key left

module _ {P : Type 0} (ends : P → Entry → Bool) (key : P → ℕ × ℕ) (at : List Entry → Due → P) (IsAt : List Entry → Due → Type 0)
    (t : List Entry) (e : Entry)
    (at_more : (d : Due) → IsAt t d → IsAt (t ++ e ∷ []) d) (at_same : (d : Due) → IsAt t d → at (t ++ e ∷ []) d ≡ at t d)
    (all new : List P) where
  same_map : (ds : List Due) → Each (IsAt t) ds → map (at (t ++ e ∷ [])) ds ≡ map (at t) ds
  same_map [] h = refl
  same_map (d ∷ ds) h = let a = at_same d h.0 in let b = same_map ds h.1 in cc

  -- an entry that begins nothing and ends what passes the test
  pub stored_left : (test : Due → Bool) (ds es : List Due)
      → IsStoredAll key (at t) (IsAt t) ds (filter (λ q. not (list_any (ends q) t)) all)
      → ((d : Due) → IsAt t d → test d ≡ ends (at t d) e) → es ≡ filter (λ d. not (test d)) ds → new ≡ []
      → IsStoredAll key (at (t ++ e ∷ [])) (IsAt (t ++ e ∷ [])) es (filter (λ q. not (list_any (ends q) (t ++ e ∷ []))) (all ++ new))
  stored_left test ds es old agree is none =
      let few : Each (IsAt t) es = subst (λ ds. Each (IsAt t) ds) (sym is) (each_filter (IsAt t) (λ d. not (test d)) ds old.each) in
      let none' : Each (IsNew ends t e) new = subst (λ l. Each (IsNew ends t e) l) (sym none) tt in
      let gone : filter (λ q. not (list_any (ends q) (t ++ e ∷ []))) (all ++ new)
      ≡ filter (λ q. not (ends q e)) (filter (λ q. not (list_any (ends q) t)) all) =
      left_step ends all new t e none'
      ∙ (ap (λ l. filter (λ q. not (ends q e)) (filter (λ q. not (list_any (ends q) t)) all) ++ l) none ∙ append-nil _) in
      record {
        each = each_more (IsAt t) (IsAt (t ++ e ∷ [])) es at_more few;
        all =
            same_map es few
            ∙ (ap (map (at t)) is
            ∙ (map_left (at t) (IsAt t) test (λ q. ends q e) ds agree old.each
            ∙ (ap (filter (λ q. not (ends q e))) old.all
            ∙ (in_order-filter key (λ q. not (ends q e)) (filter (λ q. not (list_any (ends q) t)) all)
            ∙ ap (in_order key) (sym gone)))));
      }

  -- an entry that begins something and ends nothing
  pub stored_more : (ds more es : List Due) → IsStoredAll key (at t) (IsAt t) ds (filter (λ q. not (list_any (ends q) t)) all)
      → ((q : P) → ends q e ≡ false) → ((d : Due) → IsAt (t ++ e ∷ []) d → key (at (t ++ e ∷ []) d) ≡ due_key d)
      → es ≡ all_placed due_key ds more → Each (IsAt (t ++ e ∷ [])) more → map (at (t ++ e ∷ [])) more ≡ new → Each (IsNew ends t e) new
      → IsStoredAll key (at (t ++ e ∷ [])) (IsAt (t ++ e ∷ [])) es (filter (λ q. not (list_any (ends q) (t ++ e ∷ []))) (all ++ new))
  stored_more ds more es old none keys is later named fresh =
      let left : List P = filter (λ q. not (list_any (ends q) t)) all in
      let earlier = each_more (IsAt t) (IsAt (t ++ e ∷ [])) ds at_more old.each in
      let grown : filter (λ q. not (list_any (ends q) (t ++ e ∷ []))) (all ++ new) ≡ left ++ new =
      left_step ends all new t e fresh
      ∙ ap (λ l. l ++ new) (filter_all (λ q. not (ends q e)) left (each_all _ _ (λ q. ap not (none q)))) in
      record {
        each =
            subst (λ l. Each (IsAt (t ++ e ∷ [])) l) (sym is)
            (each_all_placed due_key (IsAt (t ++ e ∷ [])) ds more earlier later);
        all =
            ap (map (at (t ++ e ∷ []))) is
            ∙ (map_all_placed due_key key (at (t ++ e ∷ [])) ds more
            (each_more _ _ ds keys earlier) (each_more _ _ more keys later)
            ∙ (ap (λ l. all_placed key l (map (at (t ++ e ∷ [])) more)) (same_map ds old.each ∙ old.all)
            ∙ (ap (all_placed key (in_order key left)) named
            ∙ sym (ap (in_order key) grown ∙ all_placed-append key [] left new))));
      }
