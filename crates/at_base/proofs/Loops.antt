-- Reading items up to the end of the input in a loop: the items read so far, and the result of reading the rest.
use Rattle.std.proofs.Common.{◌≡◌, ℕ, zero, suc, ◌-◌, ◌+◌, ◌≤◌, ◌<◌, List, [], ◌∷◌, ◌++◌, length, true, Result, Ok, Err, refl, ap}
use Rattle.std.proofs.Common.{◌∙◌, append_assoc, arith}
use Rattle.std.proofs.lemmas.List.{append-nil, length-append}
use Rattle.at_base.specs.Grammar.{Grammar, Refusals}
use Rattle.at_base.specs.Spelling.{bytes_of}
use Rattle.at_base.specs.InPlace.{AreItems, IsFound, found}
use Rattle.at_base.specs.Reading.{◌>>=◌, Gives, list_at, many_at, read}
use Rattle.at_base.proofs.Fields.{IsBytes, ok}
use Rattle.at_base.proofs.Items.{many_turn}
use Rattle.at_base.proofs.Laws.{read_takes}

-- reads one item, given the number that the one before it leaves
abbrev Reader : Type 0 → Type 0 → Type 0
Reader E A = ℕ → List ℕ → Result (A × List ℕ) E

-- ---- a given number of items

pub one_more : {E A X : Type 0} (item : Reader E A) (next : A → ℕ) (view : X → List ℕ) (low count : ℕ) (bytes : List ℕ) (y : A)
    (after : List ℕ) (result : Result X E)
    → 1 ≤ count → item low bytes ≡ Ok (y, after)
    → Gives (λ r. (found (list_at item next (next y) (count - 1) after), view r)) result (list_at item next (next y) (count - 1) after)
    → Gives (λ r. (found (list_at item next low count bytes), view r)) result (list_at item next low count bytes)
one_more item next view low zero bytes y after result some h others = absurd (omega arith)
one_more item next view low (suc n) bytes y after (Ok r) some h others =
    let m : suc n - 1 ≡ n = omega arith in
    rw (h, rw m at others) refl
one_more item next view low (suc n) bytes y after (Err e) some h others =
    let m : suc n - 1 ≡ n = omega arith in
    rw (h, rw m at others) refl

pub refused : {E A : Type 0} (item : Reader E A) (next : A → ℕ) (low count : ℕ) (bytes : List ℕ) (e : E)
    → 1 ≤ count → item low bytes ≡ Err e → list_at item next low count bytes ≡ Err e
refused item next low zero bytes e some h = absurd (omega arith)
refused item next low (suc n) bytes e some h = rw h refl

-- ---- items up to the end of the input

-- adds the items read before to the result of reading the rest
abbrev with_front : {E A : Type 0} → List A → Result (List A × List ℕ) E → Result (List A × List ℕ) E
with_front front reading = reading >>= λ x. Ok (front ++ x.0, x.1)

abbrev with_all : {E A : Type 0} → List A → Result (List A) E → Result (List A) E
with_all front reading = reading >>= λ xs. Ok (front ++ xs)

regroup : {E A : Type 0} (front : List A) (y : A) (reading : Result (List A × List ℕ) E)
    → with_front front (reading >>= λ x. Ok (y ∷ x.0, x.1)) ≡ with_front (front ++ y ∷ []) reading
regroup {E} {A} front y (Ok x) = ap (λ (ys : List A). ok {E = E} (ys, x.1)) (simp append_assoc)
regroup front y (Err f) = refl

regroup_all : {E A : Type 0} (front : List A) (y : A) (reading : Result (List A) E)
    → with_all front (reading >>= λ xs. Ok (y ∷ xs)) ≡ with_all (front ++ y ∷ []) reading
regroup_all {E} front y (Ok xs) = ap (ok {E = E}) (simp append_assoc)
regroup_all front y (Err f) = refl

-- The loop has read some items; reading more of them, or all, goes on with the rest of the bytes.
pub record Stands {E A : Type 0} (item : Reader E A) (next : A → ℕ) (bytes : List ℕ) (low left : ℕ) (rest : List ℕ) : Type 0 where
  pub front : List A
  pub some : (n : ℕ) → list_at item next 0 (left + n) bytes ≡ with_front front (list_at item next low n rest)
  pub all : (n : ℕ) → many_at item next 0 (left + n) bytes ≡ with_all front (many_at item next low n rest)

pub starts : {E A : Type 0} (item : Reader E A) (next : A → ℕ) (bytes : List ℕ) → Stands item next bytes 0 0 bytes
starts item next bytes = record {
  front = [];
  some = λ n. let z : 0 + n ≡ n = omega arith in rw z (same (list_at item next 0 n bytes));
  all = λ n. let z : 0 + n ≡ n = omega arith in rw z (same_all (many_at item next 0 n bytes));
}
  where
    same : {E A : Type 0} (r : Result (List A × List ℕ) E) → r ≡ with_front [] r
    same (Ok x) = refl
    same (Err e) = refl

    same_all : {E A : Type 0} (r : Result (List A) E) → r ≡ with_all [] r
    same_all (Ok x) = refl
    same_all (Err e) = refl

pub goes_on : {E A : Type 0} (item : Reader E A) (next : A → ℕ) (bytes : List ℕ) (low left : ℕ) (rest : List ℕ) (y : A) (after : List ℕ)
    → 1 ≤ length rest → item low rest ≡ Ok (y, after) → Stands item next bytes low left rest
    → Stands item next bytes (next y) (left + 1) after
goes_on item next bytes low left rest y after there h so_far =
    let n : (n : ℕ) → left + 1 + n ≡ left + suc n = λ n. omega arith in record {
      front = so_far.front ++ y ∷ [];
      some = λ m. rw (n m, so_far.some (suc m), h) (regroup so_far.front y (list_at item next (next y) m after));
      all = λ m. rw (n m, so_far.all (suc m), many_turn item next low m rest there, h)
          (regroup_all so_far.front y (many_at item next (next y) m after));
    }

pub stops : {E A : Type 0} (item : Reader E A) (next : A → ℕ) (e : E) (bytes : List ℕ) (low left : ℕ) (rest : List ℕ)
    → 1 ≤ length rest → left + length rest ≤ length bytes → item low rest ≡ Err e → Stands item next bytes low left rest
    → many_at item next 0 (length bytes) bytes ≡ Err e
stops item next e bytes low left rest there few h so_far =
    let n : length bytes ≡ left + suc (length bytes - left - 1) = omega arith in
    ap (λ (k : ℕ). many_at item next 0 k bytes) n
    ∙ rw (so_far.all (suc (length bytes - left - 1)), many_turn item next low (length bytes - left - 1) rest there, h) refl

-- at the end of the input, both readings have given the same items
pub record Ends {E A : Type 0} (item : Reader E A) (next : A → ℕ) (left : ℕ) (bytes : List ℕ) : Type 0 where
  pub some : IsFound (list_at item next 0 left bytes)
  pub all : many_at item next 0 (length bytes) bytes ≡ Ok (found (list_at item next 0 left bytes))

pub ends : {E A : Type 0} (item : Reader E A) (next : A → ℕ) (bytes : List ℕ) (low left : ℕ) (rest : List ℕ)
    → length rest ≡ 0 → left ≤ length bytes → Stands item next bytes low left rest → Ends item next left bytes
ends {E} {A} item next bytes low left [] none few so_far =
    let n : left ≡ left + 0 = omega arith in
    let m : length bytes ≡ left + (length bytes - left) = omega arith in
    let front : so_far.front ++ [] ≡ so_far.front = append-nil so_far.front in
    let some : list_at item next 0 left bytes ≡ Ok (so_far.front, []) =
    ap (λ (k : ℕ). list_at item next 0 k bytes) n ∙ rw (so_far.some 0, front) refl in record {
      some = ([], rw some refl);
      all = ap (λ (k : ℕ). many_at item next 0 k bytes) m ∙ so_far.all (length bytes - left)
          ∙ rw (no_more (length bytes - left), front, some) refl;
    }
  where
    no_more : (n : ℕ) → many_at item next low n [] ≡ ok {E = E} []
    no_more zero = refl
    no_more (suc n) = refl
ends item next bytes low left (b ∷ rest) none few so_far = absurd (omega arith)

-- after an item that is read, less input is left, and it is bytes
pub shrinks : {W E A : Type 0} (r : Refusals W E) (g : ℕ → Grammar W true A) → AreItems g → (low : ℕ) (bytes : List ℕ) (x : A)
    (after : List ℕ) → IsBytes bytes → read r (g low) bytes ≡ Ok (x, after) → (length after < length bytes) × IsBytes after
shrinks r g items low bytes x after fits e =
    let t = read_takes r (g low) (items.0 low) bytes (x, after) fits e in
    let l = items.1 low x t.1 in
    let len : length bytes ≡ length (bytes_of (g low) x ++ after) = ap (λ (b : List ℕ). length b) t.0.parts in
    (omega (arith, length-append (bytes_of (g low) x) after), t.0.rest_fits)
