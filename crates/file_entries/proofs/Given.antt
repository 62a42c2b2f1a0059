-- Consequences of values that exist.
use Rattle.std.proofs.Common.{◌≡◌, ℕ, zero, suc, ◌+◌, ◌≤◌, Bool, true, false, ◌&&◌, cond, List, [], ◌∷◌, length, refl}
use Rattle.std.proofs.Common.{sym, ap, subst, arith, take}
use Rattle.std.specs.Prelude.{Option, Some, None, Result, Ok, Err, nat_le}
use Rattle.std.specs.List.{AllByRecursion as Each, list_all}
use Rattle.std.proofs.lemmas.Bool.{leb-true}
use Rattle.std.specs.Option.{unwrap_or}
use Rattle.std.specs.Result.{result_ok}
use Rattle.toml.specs.Data.{Data, Members}
use Rattle.at_base.specs.declared.error.Part.{Part}
use Rattle.text.specs.Words.{given}
use Rattle.at_base.specs.declared.error.Error.TheVariants.{BadFile}
use Rattle.file_entries.specs.Entries.{after, all_numbered, before, each, each_from, few, few_at, list_at, numbered, part, part_up_to}

-- Equal options have equal values.
pub some_is : {X : Type 0} {a b : X} → Some a ≡ Some b → a ≡ b
some_is {X} {a} {b} e = ap (λ o. unwrap_or o a) e

-- A result that exists was made from a value that exists.
pub given_is : {T U : Type 0} (x : Option T) (f : T → Option U) (y : U) → given x f ≡ Some y
    → (v : T) × (x ≡ Some v) × (f v ≡ Some y)
given_is None f y e = absurd cc
given_is (Some v) f y e = (v, refl, e)

-- A conditional value that exists.
pub cond_is : {T : Type 0} (b : Bool) (x y : T) → cond b (Some x) None ≡ Some y → (b ≡ true) × (x ≡ y)
cond_is true x y e = (refl, some_is e)
cond_is false x y e = absurd cc

-- Entries that were read: the first one, then the others.
before_is : {T : Type 0} (got : Option T) (rest : Result (List T) ℕ) (xs : List T) → before got rest ≡ Ok xs
    → (x : T) × (ys : List T) × (got ≡ Some x) × (rest ≡ Ok ys) × (xs ≡ x ∷ ys)
before_is None rest xs e = absurd cc
before_is (Some x) (Ok ys) xs e = (x, ys, refl, refl, sym (some_is (ap result_ok e)))
before_is (Some x) (Err k) xs e = absurd cc

-- The list is as long as the list of values, and each of its elements passes the test.
Passing : {T : Type 0} → (T → Bool) → List Data → List T → Type 0
Passing test ds xs = (list_all test xs ≡ true) × (length xs ≡ length ds)

-- Two tests that pass.
pub joined : (a b : Bool) → a ≡ true → b ≡ true → (a && b) ≡ true
joined true true e f = refl
joined true false e f = f
joined false b e f = e

-- Each entry that was read passes the test that every read entry passes, and there are as many as values.
pub each_all : {T : Type 0} (k : ℕ) (f : ℕ → Data → Option T) (test : T → Bool)
    → ((n : ℕ) (d : Data) (x : T) → f n d ≡ Some x → test x ≡ true)
    → (ds : List Data) (xs : List T) → each_from k f ds ≡ Ok xs → (list_all test xs ≡ true) × (length xs ≡ length ds)
each_all k f test h [] [] e = (refl, refl)
each_all k f test h [] (x ∷ xs) e = absurd cc
each_all {T} k f test h (d ∷ ds) xs e =
    let b = before_is (f k d) (each_from (suc k) f ds) xs e in
    let others = each_all (suc k) f test h ds b.1 b.3 in
    subst (λ (all : List T). (list_all test all ≡ true) × (length all ≡ suc (length ds))) (sym b.4)
    (joined (test b.0) (list_all test b.1) (h k d b.0 b.2) others.0, ap suc others.1)

-- If all entries have a meaning, `each` has the same.
pub all_is : {T : Type 0} (f : ℕ → Data → Option T) (ds : List Data) (xs : List T) → all_numbered f ds ≡ Some xs → each f ds ≡ Ok xs
all_is f ds xs e = of (each f ds) e
  where
    of : {T : Type 0} (r : Result (List T) ℕ) {xs : List T} → result_ok r ≡ Some xs → r ≡ Ok xs
    of (Ok ys) h = ap Ok (some_is h)
    of (Err k) h = absurd cc

numbered_is : {T : Type 0} (p : Part) (r : Result (List T) ℕ) (xs : List T) → numbered p r ≡ Ok xs → r ≡ Ok xs
numbered_is p (Ok ys) xs e = ap Ok (some_is (ap result_ok e))
numbered_is p (Err k) xs e = absurd cc

-- If `part` has a result, `each` has the same.
pub part_is : {T : Type 0} (p : Part) (f : ℕ → Data → Option T) (ds : List Data) (xs : List T) → part p f ds ≡ Ok xs
    → each f ds ≡ Ok xs
part_is p f ds xs e = numbered_is p (each f ds) xs e

-- A result of `after` was made from a first result.
pub after_is : {T U E : Type 0} (r : Result T E) (f : T → Result U E) (y : U) → after r f ≡ Ok y
    → (v : T) × (r ≡ Ok v) × (f v ≡ Ok y)
after_is (Ok v) f y e = (v, refl, e)
after_is (Err k) f y e = absurd cc

-- A conditional result.
ok_on : {T E : Type 0} (b : Bool) (x y : T) (stop : E) → cond b (Ok x) (Err stop) ≡ Ok y → x ≡ y
ok_on true x y stop e = some_is (ap result_ok e)
ok_on false x y stop e = absurd cc

-- The first n elements of a list are at most n.
front_few : {T : Type 0} (n : ℕ) (xs : List T) → length (take n xs) ≤ n
front_few zero xs = omega arith
front_few (suc n) [] = omega arith
front_few (suc n) (x ∷ xs) = let rest = front_few n xs in omega (arith, rest)

-- Each entry of a part with a limit passes the test that every read entry passes, and they are within the limit.
pub part_all : {T : Type 0} (limit : ℕ) (p : Part) (f : ℕ → Data → Option T) (test : T → Bool)
    → ((n : ℕ) (d : Data) (x : T) → f n d ≡ Some x → test x ≡ true)
    → (ds : List Data) (xs : List T) → part_up_to limit p f ds ≡ Ok xs → (list_all test xs ≡ true) × (length xs ≤ limit)
part_all {T} limit p f test h ds xs e =
    let a = after_is (part p f (take limit ds)) (λ ys. cond (nat_le (length ds) limit) (Ok ys) (Err (BadFile p (limit + 1)))) xs e in
    let same = ok_on (nat_le (length ds) limit) a.0 xs (BadFile p (limit + 1)) a.2 in
    let read = each_all 1 f test h (take limit ds) a.0 (part_is p f (take limit ds) a.0 a.1) in
    let few = front_few limit ds in
    subst (λ (all : List T). (list_all test all ≡ true) × (length all ≤ limit)) same
    (read.0, subst (λ n. n ≤ limit) (sym read.1) few)

-- ---- What holds of each entry

-- A conditional optional value that exists.
pub cond_some : {T : Type 0} (b : Bool) (x : Option T) (y : T) → cond b x None ≡ Some y → (b ≡ true) × (x ≡ Some y)
cond_some true x y e = (refl, e)
cond_some false x y e = absurd cc

-- What holds of each value that exists holds of each entry that was read, and there are as many as values.
pub each_holds : {T : Type 0} (k : ℕ) (f : ℕ → Data → Option T) (P : T → Type 0)
    → ((n : ℕ) (d : Data) (x : T) → f n d ≡ Some x → P x)
    → (ds : List Data) (xs : List T) → each_from k f ds ≡ Ok xs → Each P xs × (length xs ≡ length ds)
each_holds k f P h [] [] e = (tt, refl)
each_holds k f P h [] (x ∷ xs) e = absurd cc
each_holds {T} k f P h (d ∷ ds) xs e =
    let b = before_is (f k d) (each_from (suc k) f ds) xs e in
    let others = each_holds (suc k) f P h ds b.1 b.3 in
    subst (λ (all : List T). Each P all × (length all ≡ suc (length ds))) (sym b.4)
    ((h k d b.0 b.2, others.0), ap suc others.1)

-- The same of the values of a list with a limit.
pub few_hold : {T : Type 0} (limit : ℕ) (f : ℕ → Data → Option T) (P : T → Type 0)
    → ((n : ℕ) (d : Data) (x : T) → f n d ≡ Some x → P x)
    → (ds : List Data) (xs : List T) → few limit f ds ≡ Some xs → Each P xs × (length xs ≤ limit)
few_hold limit f P h ds xs e =
    let c = cond_some (nat_le (length ds) limit) (all_numbered f ds) xs e in
    let read = each_holds 1 f P h ds xs (all_is f ds xs c.1) in
    (read.0, subst (λ n. n ≤ limit) (sym read.1) (leb-true (length ds) limit c.0))

-- The same of the values of a list with a limit, at a key.
pub few_at_hold : {T : Type 0} (limit : ℕ) (key : List ℕ) (f : ℕ → Data → Option T) (P : T → Type 0)
    → ((n : ℕ) (d : Data) (x : T) → f n d ≡ Some x → P x)
    → (ms : Members) (xs : List T) → few_at limit key f ms ≡ Some xs → Each P xs × (length xs ≤ limit)
few_at_hold limit key f P h ms xs e =
    let g = given_is (list_at key ms) (few limit f) xs e in few_hold limit f P h g.0 xs g.2

-- The same of the entries of a part with a limit.
pub part_holds : {T : Type 0} (limit : ℕ) (p : Part) (f : ℕ → Data → Option T) (P : T → Type 0)
    → ((n : ℕ) (d : Data) (x : T) → f n d ≡ Some x → P x)
    → (ds : List Data) (xs : List T) → part_up_to limit p f ds ≡ Ok xs → Each P xs × (length xs ≤ limit)
part_holds {T} limit p f P h ds xs e =
    let a = after_is (part p f (take limit ds)) (λ ys. cond (nat_le (length ds) limit) (Ok ys) (Err (BadFile p (limit + 1)))) xs e in
    let same = ok_on (nat_le (length ds) limit) a.0 xs (BadFile p (limit + 1)) a.2 in
    let read = each_holds 1 f P h (take limit ds) a.0 (part_is p f (take limit ds) a.0 a.1) in
    let limited = front_few limit ds in
    subst (λ (all : List T). Each P all × (length all ≤ limit)) same
    (read.0, subst (λ n. n ≤ limit) (sym read.1) limited)
