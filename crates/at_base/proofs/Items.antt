-- Lists of items, one after the other: reading, reading back what was written, and the first fault, from the same facts
-- about one item.
use Rattle.std.proofs.Common.{◌≡◌, ℕ, zero, suc, ◌≤◌, List, [], ◌∷◌, ◌++◌, length, Result, Ok, Err, refl, sym, ap, subst, ◌∙◌}
use Rattle.std.proofs.Common.{append_assoc, inl, inr, arith}
use Rattle.std.proofs.lemmas.List.{length-append}
use Rattle.at_base.specs.Spelling.{list_bytes, ListPasses}
use Rattle.at_base.specs.FirstFault.{ListFault, low_after}
use Rattle.at_base.specs.Reading.{◌>>=◌, list_at, many_at}
use Rattle.at_base.proofs.Fields.{IsBytes, ok, ok_is, bind_ok, bind_err, Took}

pub Took-then : (a x b y c : List ℕ) → Took a x b → Took b y c → Took a (x ++ y) c
Took-then a x b y c p q = record {
  parts = p.parts ∙ ap (λ (t : List ℕ). x ++ t) q.parts
      ∙ sym (append_assoc x y c);
  rest_fits = q.rest_fits;
}

-- ---- lists, by facts about their items

-- an item that is read has these bytes and passes
abbrev pub Takes : {E B : Type 0} → (ℕ → List ℕ → Result (B × List ℕ) E) → (ℕ → B → List ℕ) → (ℕ → B → Type 0) → Type 0
Takes {B = B} item spell passes = (low : ℕ) (bytes : List ℕ) (x : B × List ℕ) → IsBytes bytes → item low bytes ≡ Ok x → Took bytes
    (spell low x.0) x.1 × passes low x.0

abbrev pub Again : {E B : Type 0} → (ℕ → List ℕ → Result (B × List ℕ) E) → (ℕ → B → List ℕ) → (ℕ → B → Type 0) → Type 0
Again {B = B} item spell passes = (low : ℕ) (x : B) (rest : List ℕ) → passes low x → item low (spell low x ++ rest) ≡ Ok (x, rest)

pub list_takes : {E B : Type 0} (item : ℕ → List ℕ → Result (B × List ℕ) E) (spell : ℕ → B → List ℕ) (passes : ℕ → B → Type 0)
    (next : B → ℕ)
    → Takes item spell passes
    → (low n : ℕ) (bytes : List ℕ) (x : List B × List ℕ) → IsBytes bytes → list_at item next low n bytes ≡ Ok x
    → Took bytes (list_bytes spell next low x.0) x.1 × ListPasses passes next low x.0 × (length x.0 ≡ n)
list_takes {E} {B} item spell passes next one low zero bytes x fits e =
    subst (λ (y : List B × List ℕ). Took bytes (list_bytes spell next low y.0) y.1 × ListPasses passes next low y.0 × (length y.0 ≡ 0))
    (ok_is {E = E} ([], bytes) x e) (record { parts = refl; rest_fits = fits }, tt, refl)
list_takes {E} {B} item spell passes next one low (suc n) bytes x fits e =
    let a = bind_ok (item low bytes) (λ y. list_at item next (next y.0) n y.1 >>= λ ys. Ok (y.0 ∷ ys.0, ys.1)) x e in
    let b = bind_ok (list_at item next (next a.0.0) n a.0.1) (λ ys. Ok (a.0.0 ∷ ys.0, ys.1)) x a.2 in
    let first = one low bytes a.0 fits a.1 in
    let others = list_takes item spell passes next one (next a.0.0) n a.0.1 b.0 first.0.rest_fits b.1 in
    subst (λ (y : List B × List ℕ). Took bytes (list_bytes spell next low y.0) y.1 × ListPasses passes next low y.0 ×
    (length y.0 ≡ suc n)) (ok_is {E = E} (a.0.0 ∷ b.0.0, b.0.1) x b.2) (
      Took-then bytes (spell low a.0.0) a.0.1 (list_bytes spell next (next a.0.0) b.0.0) b.0.1 first.0 others.0,
      (first.1, others.1),
      ap suc others.2,
    )

pub list_again : {E B : Type 0} (item : ℕ → List ℕ → Result (B × List ℕ) E) (spell : ℕ → B → List ℕ) (passes : ℕ → B → Type 0)
    (next : B → ℕ)
    → Again item spell passes
    → (low : ℕ) (xs : List B) (rest : List ℕ) → ListPasses passes next low xs
    → list_at item next low (length xs) (list_bytes spell next low xs ++ rest) ≡ Ok (xs, rest)
list_again item spell passes next one low [] rest h = refl
list_again item spell passes next one low (x ∷ xs) rest h =
    ap (list_at item next low (suc (length xs))) (append_assoc (spell low x) (list_bytes spell next (next x) xs) rest)
    ∙ rw (one low x (list_bytes spell next (next x) xs ++ rest) h.0, list_again item spell passes next one (next x) xs rest h.1) refl

pub list_fault : {E B : Type 0} (item : ℕ → List ℕ → Result (B × List ℕ) E) (faulty : ℕ → List ℕ → E → Type 0) (spell : ℕ → B → List ℕ)
    (passes : ℕ → B → Type 0) (next : B → ℕ)
    → Takes item spell passes
    → ((low : ℕ) (bytes : List ℕ) (f : E) → IsBytes bytes → item low bytes ≡ Err f → faulty low bytes f)
    → (low n : ℕ) (bytes : List ℕ) (f : E) → IsBytes bytes → list_at item next low n bytes ≡ Err f
    → ListFault faulty spell passes next low n bytes f
list_fault item faulty spell passes next one bad low zero bytes f fits e = absurd cc
list_fault {E} {B} item faulty spell passes next one bad low (suc n) bytes f fits e =
    elim (bind_err (item low bytes) (λ y. list_at item next (next y.0) n y.1 >>= λ ys. Ok (y.0 ∷ ys.0, ys.1)) f e) [
      | inl p ↦ inl (bad low bytes f fits p)
      | inr a ↦
          let first = one low bytes a.0 fits a.1 in
          elim (bind_err (list_at item next (next a.0.0) n a.0.1) (λ ys. Ok (a.0.0 ∷ ys.0, ys.1)) f a.2) [
            | inl q ↦ inr (
              a.0.0,
              a.0.1,
              first.0.parts,
              first.1,
              list_fault item faulty spell passes next one bad
                  (next a.0.0) n a.0.1 f first.0.rest_fits q,
            )
            | inr b ↦ absurd (let impossible : ok {E = E} (a.0.0 ∷ b.0.0, b.0.1) ≡ Err f = b.2 in cc)
          ]
    ]

-- ---- values to the end of the input

abbrev pub IsLong : {B : Type 0} → (ℕ → B → List ℕ) → (ℕ → B → Type 0) → Type 0
IsLong {B} spell passes = (low : ℕ) (x : B) → passes low x → 1 ≤ length (spell low x)

shorter : (bytes front rest : List ℕ) (most : ℕ) → bytes ≡ front ++ rest → 1 ≤ length front → length bytes ≤ suc most → length rest ≤ most
shorter bytes front rest most parts long le =
    let len : length bytes ≡ length (front ++ rest) = ap (λ (l : List ℕ). length l) parts in
    omega (arith, length-append front rest)

pub many_takes : {E B : Type 0} (item : ℕ → List ℕ → Result (B × List ℕ) E) (spell : ℕ → B → List ℕ) (passes : ℕ → B → Type 0)
    (next : B → ℕ)
    → Takes item spell passes → IsLong spell passes
    → (low most : ℕ) (bytes : List ℕ) (xs : List B) → IsBytes bytes → length bytes ≤ most → many_at item next low most bytes ≡ Ok xs
    → (bytes ≡ list_bytes spell next low xs) × ListPasses passes next low xs
many_takes {E} {B} item spell passes next one long low zero [] xs fits le e =
    subst (λ (ys : List B). ([] ≡ list_bytes spell next low ys) × ListPasses passes next low ys) (ok_is {E = E} [] xs e) (refl, tt)
many_takes item spell passes next one long low zero (b ∷ bytes) xs fits le e = absurd (omega arith)
many_takes {E} {B} item spell passes next one long low (suc most) [] xs fits le e =
    subst (λ (ys : List B). ([] ≡ list_bytes spell next low ys) × ListPasses passes next low ys) (ok_is {E = E} [] xs e) (refl, tt)
many_takes {E} {B} item spell passes next one long low (suc most) (byte ∷ bytes) xs fits le e =
    let a = bind_ok (item low (byte ∷ bytes)) (λ y. many_at item next (next y.0) most y.1 >>= λ ys. Ok (y.0 ∷ ys)) xs e in
    let b = bind_ok (many_at item next (next a.0.0) most a.0.1) (λ ys. Ok (a.0.0 ∷ ys)) xs a.2 in
    let first = one low (byte ∷ bytes) a.0 fits a.1 in
    let others = many_takes item spell passes next one long (next a.0.0) most a.0.1 b.0 first.0.rest_fits
    (shorter (byte ∷ bytes) (spell low a.0.0) a.0.1 most first.0.parts (long low a.0.0 first.1) le) b.1 in
    subst (λ (ys : List B). (byte ∷ bytes ≡ list_bytes spell next low ys) × ListPasses passes next low ys)
    (ok_is {E = E} (a.0.0 ∷ b.0) xs b.2)
    (first.0.parts ∙ ap (λ (l : List ℕ). spell low a.0.0 ++ l) others.0, (first.1, others.1))

-- one step, where the input has a byte
pub many_turn : {E B : Type 0} (item : ℕ → List ℕ → Result (B × List ℕ) E) (next : B → ℕ) (low most : ℕ) (bytes : List ℕ) → 1 ≤ length bytes
    → many_at item next low (suc most) bytes ≡ (item low bytes >>= λ x. many_at item next (next x.0) most x.1 >>= λ xs. Ok (x.0 ∷ xs))
many_turn item next low most [] le = absurd (omega arith)
many_turn item next low most (b ∷ bytes) le = refl

pub many_again : {E B : Type 0} (item : ℕ → List ℕ → Result (B × List ℕ) E) (spell : ℕ → B → List ℕ) (passes : ℕ → B → Type 0)
    (next : B → ℕ)
    → Again item spell passes → IsLong spell passes
    → (low most : ℕ) (xs : List B) → ListPasses passes next low xs → length (list_bytes spell next low xs) ≤ most
    → many_at item next low most (list_bytes spell next low xs) ≡ Ok xs
many_again item spell passes next one long low zero [] h le = refl
many_again item spell passes next one long low (suc most) [] h le = refl
many_again item spell passes next one long low zero (x ∷ xs) h le =
    absurd (let l = long low x h.0 in omega (arith, length-append (spell low x) (list_bytes spell next (next x) xs)))
many_again item spell passes next one long low (suc most) (x ∷ xs) h le =
    let l = long low x h.0 in
    let some : 1 ≤ length (spell low x ++ list_bytes spell next (next x) xs) = omega
    (arith, length-append (spell low x) (list_bytes spell next (next x) xs)) in
    let fewer : length (list_bytes spell next (next x) xs) ≤ most = omega
    (arith, length-append (spell low x) (list_bytes spell next (next x) xs)) in
    many_turn item next low most (spell low x ++ list_bytes spell next (next x) xs) some
    ∙ rw (one low x (list_bytes spell next (next x) xs) h.0, many_again item spell passes next one long (next x) most xs h.1 fewer) refl

-- the first fault of items that go on to the end of the input
abbrev pub ManyFault : {E B : Type 0} → (ℕ → List ℕ → E → Type 0) → (ℕ → B → List ℕ) → (ℕ → B → Type 0) → (B → ℕ) → ℕ → List ℕ → E → Type 0
ManyFault {B = B} faulty spell passes next low bytes f =
    (v : List B) × (rest : List ℕ) × (bytes ≡ list_bytes spell next low v ++ rest) × ListPasses passes next low v ×
    (1 ≤ length rest) × faulty (low_after next low v) rest f

pub many_fault : {E B : Type 0} (item : ℕ → List ℕ → Result (B × List ℕ) E) (faulty : ℕ → List ℕ → E → Type 0) (spell : ℕ → B → List ℕ)
    (passes : ℕ → B → Type 0) (next : B → ℕ)
    → Takes item spell passes
    → ((low : ℕ) (bytes : List ℕ) (f : E) → IsBytes bytes → item low bytes ≡ Err f → faulty low bytes f)
    → (low most : ℕ) (bytes : List ℕ) (f : E) → IsBytes bytes → many_at item next low most bytes ≡ Err f
    → ManyFault faulty spell passes next low bytes f
many_fault item faulty spell passes next one bad low zero bytes f fits e = absurd cc
many_fault item faulty spell passes next one bad low (suc most) [] f fits e = absurd cc
many_fault {E} item faulty spell passes next one bad low (suc most) (byte ∷ bytes) f fits e =
    elim (bind_err (item low (byte ∷ bytes)) (λ y. many_at item next (next y.0) most y.1 >>= λ ys. Ok (y.0 ∷ ys)) f e) [
      | inl p ↦ ([], byte ∷ bytes, refl, tt, omega arith, bad low (byte ∷ bytes) f fits p)
      | inr a ↦
          let first = one low (byte ∷ bytes) a.0 fits a.1 in
          elim (bind_err (many_at item next (next a.0.0) most a.0.1) (λ ys. Ok (a.0.0 ∷ ys)) f a.2) [
            | inl q ↦
                let r = many_fault item faulty spell passes next one bad (next a.0.0) most a.0.1 f first.0.rest_fits q in (
                  a.0.0 ∷ r.0,
                  r.1,
                  first.0.parts ∙ ap (λ (l : List ℕ). spell low a.0.0 ++ l) r.2 ∙ sym
                      (append_assoc (spell low a.0.0) (list_bytes spell next (next a.0.0) r.0) r.1),
                  (first.1, r.3),
                  r.4,
                  r.5,
                )
            | inr b ↦ absurd (let impossible : ok {E = E} (a.0.0 ∷ b.0) ≡ Err f = b.2 in cc)
          ]
    ]

-- where an item is at fault, reading the list returns that fault
pub list_refused : {E B : Type 0} (item : ℕ → List ℕ → Result (B × List ℕ) E) (faulty : ℕ → List ℕ → E → Type 0)
    (spell : ℕ → B → List ℕ) (passes : ℕ → B → Type 0) (next : B → ℕ)
    → Again item spell passes
    → ((low : ℕ) (bytes : List ℕ) (f : E) → faulty low bytes f → item low bytes ≡ Err f)
    → (low n : ℕ) (bytes : List ℕ) (f : E) → ListFault faulty spell passes next low n bytes f → list_at item next low n bytes ≡ Err f
list_refused item faulty spell passes next one bad low zero bytes f h = absurd h
list_refused item faulty spell passes next one bad low (suc n) bytes f (inl h) = rw (bad low bytes f h) refl
list_refused item faulty spell passes next one bad low (suc n) bytes f (inr (x, rest, parts, p, h)) =
    let first : item low bytes ≡ Ok (x, rest) = rw parts (one low x rest p) in
    rw (first, list_refused item faulty spell passes next one bad (next x) n rest f h) refl

-- where an item is at fault after some that pass, reading items up to the end of the input returns that fault
pub many_refused : {E B : Type 0} (item : ℕ → List ℕ → Result (B × List ℕ) E) (spell : ℕ → B → List ℕ) (passes : ℕ → B → Type 0)
    (next : B → ℕ)
    → Again item spell passes → IsLong spell passes
    → (low most : ℕ) (xs : List B) (rest : List ℕ) (f : E) → ListPasses passes next low xs → 1 ≤ length rest
    → length (list_bytes spell next low xs ++ rest) ≤ most
    → item (low_after next low xs) rest ≡ Err f → many_at item next low most (list_bytes spell next low xs ++ rest) ≡ Err f
many_refused item spell passes next one long low zero [] rest f h some le e = absurd (omega arith)
many_refused item spell passes next one long low (suc most) [] rest f h some le e = many_turn item next low most rest some ∙ rw e refl
many_refused item spell passes next one long low zero (x ∷ xs) rest f h some le e =
    absurd (let l = long low x h.0 in omega (
      arith,
      length-append (spell low x ++ list_bytes spell next (next x) xs) rest,
      length-append
          (spell low x) (list_bytes spell next (next x) xs),
    ))
many_refused item spell passes next one long low (suc most) (x ∷ xs) rest f h some le e =
    let l = long low x h.0 in
    let others = list_bytes spell next (next x) xs ++ rest in
    let same : (spell low x ++ list_bytes spell next (next x) xs) ++ rest ≡ spell low x ++ others = append_assoc (spell low x)
    (list_bytes spell next (next x) xs) rest in
    let there : 1 ≤ length (spell low x ++ others) = omega (arith, length-append (spell low x) others) in
    let fewer : length others ≤ most = omega (arith, length-append (spell low x) others, ap (λ (b : List ℕ). length b) same) in
    ap (many_at item next low (suc most)) same ∙ (many_turn item next low most (spell low x ++ others) there
    ∙ rw (one low x others h.0, many_refused item spell passes next one long (next x) most xs rest f h.1 some fewer e) refl)
