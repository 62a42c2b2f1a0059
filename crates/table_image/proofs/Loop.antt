-- Reading items in a loop.
use Rattle.std.proofs.Common.{◌≡◌, ℕ, suc, ◌-◌, ◌+◌, ◌≤◌, ◌<◌, List, [], ◌∷◌, ◌++◌, length, Result, Ok, Err, refl, sym, ap}
use Rattle.std.proofs.Common.{◌∙◌, append_assoc, arith}
use Rattle.std.proofs.lemmas.List.{append-nil, length-append}
use Rattle.at_base.specs.Reading.{◌>>=◌, list_at}
use Rattle.table_image.specs.declared.flaw.Fault.{Fault}

-- reads one item, given the number that the one before it passes on
abbrev pub Reader : Type 0 → Type 0
Reader A = ℕ → List ℕ → Result (A × List ℕ) Fault

-- adds the items read before to the result of reading the rest
abbrev pub with_front : {A : Type 0} → List A → Result (List A × List ℕ) Fault → Result (List A × List ℕ) Fault
with_front front reading = reading >>= λ x. Ok (front ++ x.0, x.1)

pub regroup : {A : Type 0} (front : List A) (y : A) (reading : Result (List A × List ℕ) Fault)
    → with_front front (reading >>= λ x. Ok (y ∷ x.0, x.1)) ≡ with_front (front ++ y ∷ []) reading
regroup {A} front y (Ok x) = ap (λ (ys : List A). Ok (ys, x.1)) (simp append_assoc)
regroup front y (Err f) = refl

-- one more item was read
pub goes_on : {A : Type 0} (item : Reader A) (next : A
    → ℕ) (front : List A) (low count i : ℕ) (bytes : List ℕ) (y : A) (after : List ℕ) (total : Result (List A × List ℕ) Fault)
    → i < count → item low bytes ≡ Ok (y, after)
    → with_front front (list_at item next low (count - i) bytes) ≡ total
    → with_front (front ++ y ∷ []) (list_at item next (next y) (count - (i + 1)) after) ≡ total
goes_on item next front low count i bytes y after total lt h so_far =
    let k : count - i ≡ suc (count - (i + 1)) = omega arith in
    let one : with_front front (list_at item next low (count - i) bytes) ≡ with_front (front ++ y ∷ []) (list_at item next (next y) (count -
    (i + 1)) after) =
    rw (k, h) (regroup front y (list_at item next (next y) (count - (i + 1)) after)) in
    sym one ∙ so_far

-- an item has a fault
pub refuses : {A : Type 0} (item : Reader A) (next : A
    → ℕ) (f : Fault) (front : List A) (low count i : ℕ) (bytes : List ℕ) (total : Result (List A × List ℕ) Fault)
    → i < count → item low bytes ≡ Err f
    → with_front front (list_at item next low (count - i) bytes) ≡ total → total ≡ Err f
refuses {A} item next f front low count i bytes total lt h so_far =
    let k : count - i ≡ suc (count - (i + 1)) = omega arith in
    let one : with_front front (list_at item next low (count - i) bytes) ≡ Err f = rw (k, h) refl in
    sym so_far ∙ one

-- all items were read
pub is_done : {A : Type 0} (item : Reader A) (next : A
    → ℕ) (front : List A) (low count i : ℕ) (bytes : List ℕ) (total : Result (List A × List ℕ) Fault)
    → count ≤ i → with_front front (list_at item next low (count - i) bytes) ≡ total → total ≡ Ok (front, bytes)
is_done {A} item next front low count i bytes total le so_far =
    let k : count - i ≡ 0 = omega arith in
    let one : with_front front (list_at item next low (count - i) bytes) ≡ Ok (front, bytes) =
    rw k (ap (λ (ys : List A). Ok (ys, bytes)) (append-nil front)) in
    sym so_far ∙ one

-- ---- reading past items without storing them

-- the items read so far are as many as the turns of the loop
abbrev pub Passed : {A : Type 0} → Reader A → (A → ℕ) → ℕ → ℕ → ℕ → List ℕ → Result (List A × List ℕ) Fault → Type 0
Passed {A =
    A} item next low count i bytes total = (front : List A) × (length front ≡ i) × (with_front front (list_at item next low
    (count - i) bytes) ≡ total)

pub passes_more : {A : Type 0} (item : Reader A) (next : A
    → ℕ) (low count i : ℕ) (bytes : List ℕ) (y : A) (after : List ℕ) (total : Result (List A × List ℕ) Fault)
    → i < count → item low bytes ≡ Ok (y, after) → Passed item next low count i bytes total → Passed item next (next y) count
    (i + 1) after total
passes_more item next low count i bytes y after total lt h (front, len, so_far) =
    (front ++ y ∷ [], omega (arith, length-append front (y ∷ [])), goes_on item next front low count i bytes y after total lt h so_far)
