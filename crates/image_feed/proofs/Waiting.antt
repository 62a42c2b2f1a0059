-- Bytes that end within a name.
use Rattle.std.proofs.Common.{◌≡◌, ◌∙◌, ℕ, suc, ◌+◌, List, [], ◌∷◌, ◌++◌, length, true, false, Option, Some, None, Result, Ok, Err}
use Rattle.std.proofs.Common.{nat_lt, refl, sym, ap, arith}
use Rattle.std.proofs.lemmas.Bool.{le-ltb, lt-ltb}
use Rattle.std.specs.Prelude.{if◌then◌else◌, is_some, slice_get}
use Rattle.std.specs.Int.{w8, from_be_bytes}
use Rattle.at_base.specs.declared.error.Cause.TheVariants.{Name}
use Rattle.at_base.specs.Grammar.{Grammar, run}
use Rattle.at_base.specs.Text.{is_name}
use Rattle.at_base.specs.Reading.{◌>>=◌, checked, field_at, read}
use Rattle.at_base.proofs.Fields.{err, err_is}
use Rattle.table_image.specs.Flaws.{Wrong, Before, Here, fault_of, faults}
use Rattle.table_image.specs.Limits.{max_text}
use Rattle.table_image.specs.Spelling.{zone_spelling, text_spelling}
use Rattle.table_image.specs.Tests.{within}
use Rattle.table_image.specs.declared.flaw.Fault.{Fault}
use Rattle.image_feed.specs.Growing.{IsCut, Wants, head_on}
use Rattle.image_feed.proofs.Leading.{some_of}

-- what comes after a part
pub wants_bind : {A B : Type 0} (k : A → Result B Fault) (reads : List ℕ → Result A Fault) (bytes : List ℕ) (n : ℕ) → Wants reads bytes n
    → Wants (λ b. reads b >>= k) bytes n
wants_bind {A = A} k reads bytes n h = λ more few. ap (λ (m : Result A Fault). m >>= k) (h more few)

-- the text of a name
abbrev text_at : ℕ × List ℕ → Result (List ℕ × List ℕ) Fault
text_at len = field_at faults (run len.0 (λ s. if is_name s then None else Some (Before 1 Name))) len.1 >>= λ s. Ok (s.0, s.1)

name_read : (n : ℕ) (rest : List ℕ)
    → read faults zone_spelling (n ∷ rest) ≡ (checked faults (n ∷ rest) (within 1 max_text Name n) (n, rest) >>= text_at)
unfolding text_spelling
name_read n rest =
    let same : from_be_bytes w8 (n ∷ []) ≡ n = omega arith in
    let there : nat_lt (length (n ∷ rest)) 1 ≡ false = le-ltb (length (n ∷ rest)) 1 (omega arith) in
    rw there (rw same refl)

-- a wrong first byte isn't reported as bytes that end too early
placed : (rest : List ℕ) (n : ℕ) (w : Wrong) → err {A = List ℕ × List ℕ} (fault_of (length (n ∷ rest)) w) ≡ Err faults.cut → ⊥
placed rest n (Here cause) e =
    let left : suc (length rest) ≡ 0 = ap (λ (f : Fault). f.left) (err_is _ _ e) in omega (arith, left)
placed rest n (Before k cause) e =
    let left : k + suc (length rest) ≡ 0 = ap (λ (f : Fault). f.left) (err_is _ _ e) in omega (arith, left)

-- a name's first byte says how many more it has
pub wants_name : (n : ℕ) (rest : List ℕ) → IsCut (read faults zone_spelling) (n ∷ rest) → Wants (read faults zone_spelling) (n ∷ rest) (n + 1)
wants_name n rest cut = by (within 1 max_text Name n) refl
  where
    by : (o : Option Wrong) → within 1 max_text Name n ≡ o → Wants (read faults zone_spelling) (n ∷ rest) (n + 1)
    by (Some w) is = λ more few. absurd (placed rest n w (rw is at (sym (name_read n rest) ∙ cut)))
    by None is = λ more few.
        let short : nat_lt (length (rest ++ more)) n ≡ true = lt-ltb _ _ (omega (arith, few)) in
        name_read n (rest ++ more) ∙ rw (is, short) refl

-- so does the first of some bytes
pub wants_first : (bytes : List ℕ) (n : ℕ) → Some n ≡ slice_get bytes 0 → IsCut (read faults zone_spelling) bytes
    → Wants (read faults zone_spelling) bytes (n + 1)
wants_first [] n first cut = cc
wants_first (m ∷ rest) n first cut = let same : n ≡ m = cc in rw same (wants_name m rest cut)

-- a part of which the head was read
pub wants_head : {H B : Type 0} (g : Grammar Wrong true H) (head : Option H) (reads : H → List ℕ → Result B Fault) (bytes : List ℕ) (k : ℕ)
    → is_some head ≡ true → ((h : H) → Wants (reads h) bytes k) → Wants (λ b. head_on g head b >>= λ h. reads h.0 h.1) bytes k
wants_head g head reads bytes k is h = λ more few. let s = some_of head is in rw s.1 (h s.0 more few)
