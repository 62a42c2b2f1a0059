-- The first flaw of a value is the first fault of its bytes, whatever follows them.
use Rattle.std.proofs.Common.{◌≡◌, ℕ, suc, ◌+◌, true, List, [], ◌∷◌, ◌++◌, length, refl, sym, ap, subst, ◌∙◌, append_assoc, arith, inl, inr}
use Rattle.std.proofs.lemmas.List.{length-append}
use Rattle.at_base.specs.Grammar.{Grammar, done, field, part, list, room}
use Rattle.at_base.specs.Spelling.{field_bytes, list_bytes, bytes_of, IsValue}
use Rattle.at_base.specs.FirstFault.{field_len, ListFault, FirstFault}
use Rattle.at_base.proofs.Fields.{length-field_bytes}
use Rattle.table_image.specs.Flaws.{Wrong, fault_of, faults}
use Rattle.table_image.specs.Checking.{ListFlawAt, FlawAt}
use Rattle.table_image.specs.declared.flaw.Fault.{Fault}

-- the bytes have this fault, at a field at the offset q, where the value is at the offset at
pub record Flawed (faulty : List ℕ → Fault → Type 0) (bytes : List ℕ) (at q : ℕ) (w : Wrong) : Type 0 where
  pub gone : ℕ
  pub left : ℕ
  pub is_at : q ≡ at + gone
  pub all : length bytes ≡ gone + left
  pub first : faulty bytes (fault_of left w)

-- the fault is the same after some more bytes
later : (faulty further : List ℕ → Fault → Type 0) (front rest bytes : List ℕ) (at n q : ℕ) (w : Wrong) → length front ≡ n
    → bytes ≡ front ++ rest
    → ((f : Fault) → faulty rest f → further bytes f) → Flawed faulty rest (at + n) q w → Flawed further bytes at q w
later faulty further front rest bytes at n q w len parts goes f =
    let is = f.is_at in
    let long = f.all in
    let whole : length bytes ≡ length front + length rest = ap (λ (b : List ℕ). length b) parts ∙ length-append front rest in
    record { gone = n + f.gone; left = f.left; is_at = omega arith; all = omega arith; first = goes (fault_of f.left w) f.first }

-- a fault that implies another one of the same bytes
same : (faulty further : List ℕ → Fault → Type 0) (bytes : List ℕ) (at q : ℕ) (w : Wrong) → ((f : Fault) → faulty bytes f → further bytes f)
    → Flawed faulty bytes at q w → Flawed further bytes at q w
same faulty further bytes at q w goes f =
    record { gone = f.gone; left = f.left; is_at = f.is_at; all = f.all; first = goes (fault_of f.left w) f.first }

moved : (faulty : List ℕ → Fault → Type 0) (a b : List ℕ) (at q : ℕ) (w : Wrong) → a ≡ b → Flawed faulty a at q w → Flawed faulty b at q w
moved faulty a b at q w e = subst (λ (x : List ℕ). Flawed faulty x at q w) e

list_flawed : {B : Type 0} (flawed : ℕ → B → ℕ → ℕ → Wrong → Type 0) (faulty : ℕ → List ℕ → Fault → Type 0) (spell : ℕ → B
    → List ℕ) (passes : ℕ → B → Type 0) (next : B → ℕ)
    → ((low : ℕ) (x : B) (at q : ℕ) (w : Wrong) (rest : List ℕ) → flawed low x at q w → Flawed (faulty low) (spell low x ++ rest) at q w)
    → (low : ℕ) (xs : List B) (at q : ℕ) (w : Wrong) (rest : List ℕ) → ListFlawAt flawed spell passes next low xs at q w
    → Flawed (ListFault faulty spell passes next low (length xs)) (list_bytes spell next low xs ++ rest) at q w
list_flawed flawed faulty spell passes next one low [] at q w rest h = absurd h
list_flawed flawed faulty spell passes next one low (x ∷ xs) at q w rest (inl h) =
    moved (ListFault faulty spell passes next low (suc (length xs))) (spell low x ++ (list_bytes spell next (next x) xs ++ rest))
    ((spell low x ++ list_bytes spell next (next x) xs) ++ rest) at q w
    (sym (append_assoc (spell low x) (list_bytes spell next (next x) xs) rest))
    (same (faulty low) (ListFault faulty spell passes next low (suc (length xs))) (spell low x ++ (list_bytes spell next
    (next x) xs ++ rest)) at q w (λ f g. inl g) (one low x at q w (list_bytes spell next (next x) xs ++ rest) h))
list_flawed flawed faulty spell passes next one low (x ∷ xs) at q w rest (inr h) =
    let others = list_bytes spell next (next x) xs ++ rest in
    let parts : (spell low x ++ list_bytes spell next (next x) xs) ++ rest ≡ spell low x ++ others =
    append_assoc (spell low x) (list_bytes spell next (next x) xs) rest in
    later (ListFault faulty spell passes next (next x) (length xs)) (ListFault faulty spell passes next low (suc (length xs)))
    (spell low x) others ((spell low x ++ list_bytes spell next (next x) xs) ++ rest) at (length (spell low x)) q w refl parts
    (λ f g. inr (x, others, parts, h.0, g))
    (list_flawed flawed faulty spell passes next one (next x) xs (at + length (spell low x)) q w rest h.1)

pub flawed_first : {A : Type 0} (g : Grammar Wrong true A) (y : A) (at q : ℕ) (w : Wrong) (rest : List ℕ) → FlawAt g y at q w
    → Flawed (FirstFault faults g) (bytes_of g y ++ rest) at q w
flawed_first (done x) y at q w rest h = absurd h
flawed_first (field fd get after) y at q w rest (inl h) =
    let parts : (field_bytes fd (get y) ++ bytes_of (after (get y)) y) ++ rest ≡ field_bytes fd (get y) ++ (bytes_of (after
    (get y)) y ++ rest) = append_assoc (field_bytes fd (get y)) (bytes_of (after (get y)) y) rest in
    let here = h.2 in
    record {
      gone = 0;
      left = length ((field_bytes fd (get y) ++ bytes_of (after (get y)) y) ++ rest);
      is_at = omega arith;
      all = omega arith;
      first = inl (inr (get y, bytes_of (after (get y)) y ++ rest, w, parts, h.0, h.1, refl));
    }
flawed_first (field fd get after) y at q w rest (inr h) =
    let others = bytes_of (after (get y)) y ++ rest in
    let parts : (field_bytes fd (get y) ++ bytes_of (after (get y)) y) ++ rest ≡ field_bytes fd (get y) ++ others =
    append_assoc (field_bytes fd (get y)) (bytes_of (after (get y)) y) rest in
    later (FirstFault faults (after (get y))) (FirstFault faults (field fd get after)) (field_bytes fd (get y)) others ((field_bytes fd
    (get y) ++ bytes_of (after (get y)) y) ++ rest) at (field_len fd) q w
    (length-field_bytes fd (get y) h.0.0) parts (λ f k. inr (get y, others, parts, h.0, k)) (flawed_first (after (get y)) y
    (at + field_len fd) q w rest h.1)
flawed_first (part g get after) y at q w rest (inl h) =
    moved (FirstFault faults (part g get after)) (bytes_of g (get y) ++ (bytes_of (after (get y)) y ++ rest)) ((bytes_of g
    (get y) ++ bytes_of (after (get y)) y) ++ rest) at q w
    (sym (append_assoc (bytes_of g (get y)) (bytes_of (after (get y)) y) rest))
    (same (FirstFault faults g) (FirstFault faults (part g get after)) (bytes_of g (get y) ++ (bytes_of (after (get y)) y ++ rest)) at q w
    (λ f k. inl k) (flawed_first g (get y) at q w (bytes_of (after (get y)) y ++ rest) h))
flawed_first (part g get after) y at q w rest (inr h) =
    let others = bytes_of (after (get y)) y ++ rest in
    let parts : (bytes_of g (get y) ++ bytes_of (after (get y)) y) ++ rest ≡ bytes_of g (get y) ++ others =
    append_assoc (bytes_of g (get y)) (bytes_of (after (get y)) y) rest in
    later (FirstFault faults (after (get y))) (FirstFault faults (part g get after)) (bytes_of g (get y)) others ((bytes_of g
    (get y) ++ bytes_of (after (get y)) y) ++ rest) at (length (bytes_of g (get y))) q w
    refl parts (λ f k. inr (get y, others, parts, h.0, k)) (flawed_first (after (get y)) y (at + length (bytes_of g (get y))) q w rest h.1)
flawed_first (list {B = B} item next n get after) y at q w rest h =
    let spelled = list_bytes (λ low. bytes_of (item low)) next 0 (get y) in
    let others = bytes_of (after (get y)) y ++ rest in
    let parts : (spelled ++ bytes_of (after (get y)) y) ++ rest ≡ spelled ++ others =
    append_assoc spelled (bytes_of (after (get y)) y) rest in
    elim h.1 [
      | inl k ↦
          moved (FirstFault faults (list item next n get after)) (spelled ++ others) ((spelled ++ bytes_of (after (get y)) y) ++ rest) at q w
          (sym parts)
          (same (ListFault (λ low. FirstFault faults (item low)) (λ low. bytes_of (item low)) (λ low. IsValue (item low)) next 0 (length
          (get y))) (FirstFault faults (list item next n get after)) (spelled ++ others) at q w
          (λ f j. inl (subst (λ (m : ℕ). ListFault (λ low. FirstFault faults (item low)) (λ low. bytes_of (item low)) (λ low. IsValue
          (item low)) next 0 m (spelled ++ others) f) h.0 j))
          (list_flawed (λ low. FlawAt (item low)) (λ low. FirstFault faults (item low)) (λ low. bytes_of (item low)) (λ low. IsValue
          (item low)) next (λ low x at q w rest m. flawed_first (item low) x at q w rest m) 0 (get y) at q w others k))
      | inr k ↦
          later (FirstFault faults (after (get y))) (FirstFault faults (list item next n get after)) spelled others ((spelled ++ bytes_of
          (after (get y)) y) ++ rest) at (length spelled) q w
          refl parts (λ f j. inr (get y, others, parts, h.0, k.0, j)) (flawed_first (after (get y)) y (at + length spelled) q w rest k.1)
    ]
flawed_first (room n g) y at q w rest h =
    same (FirstFault faults g) (FirstFault faults (room n g)) (bytes_of g y ++ rest) at q w (λ f k. inr (
      omega (
        arith,
        h.0,
        length-append
            (bytes_of g y) rest,
      ),
      k,
    )) (flawed_first g y at q w rest h.1)
