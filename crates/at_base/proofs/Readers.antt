-- Contracts of whole readers, from the result of reading.
use Rattle.std.proofs.Common.{◌≡◌, ℕ, Bool, true, List, ◌++◌, Option, Some, None, option_map, Result, Ok, Err, refl, sym, ap, ◌∙◌}
use Rattle.std.specs.Result.{result_ok}
use Rattle.at_base.specs.Grammar.{Grammar, Refusals}
use Rattle.at_base.specs.Spelling.{Spells, Begins}
use Rattle.at_base.specs.Reading.{read, Reads, value_of}
use Rattle.at_base.specs.Lawful.{IsLawful}
use Rattle.at_base.proofs.Fields.{IsBytes, ok, ok_is}
use Rattle.at_base.proofs.Laws.{read_takes, read_again, read_follows, read_refused, follows_all, read_fault, one_fault}

-- an input that begins with a value reads as it
pub begins_read : {W E : Type 0} {s : Bool} {A : Type 0} (r : Refusals W E) (g : Grammar W s A) → IsLawful g → (bytes : List ℕ) (z : A)
    → (b : Begins g bytes z) → read r g bytes ≡ Ok (z, b.0)
begins_read r g lawful bytes z (rest, parts, h, f) = rw parts (read_again r g lawful z rest h f)

-- an input begins with at most one value
pub begins_one : {W E : Type 0} {s : Bool} {A : Type 0} (r : Refusals W E) (g : Grammar W s A) → IsLawful g → (bytes : List ℕ) (y z : A)
    → Begins g bytes y → Begins g bytes z → z ≡ y
begins_one {E = E} {A = A} r g lawful bytes y z b c =
    ap (λ (p : A × List ℕ). p.0) (ok_is {E = E} (z, c.0) (y, b.0)
    (sym (begins_read r g lawful bytes z c) ∙ begins_read r g lawful bytes y b))

-- the bytes of a value begin with it, whatever follows them, where the format knows its own end
pub spelled_begins : {W A : Type 0} (g : Grammar W true A) (bytes rest : List ℕ) (y : A) → Spells g bytes y → Begins g (bytes ++ rest) y
spelled_begins g bytes rest y (h, parts) = (rest, ap (λ (b : List ℕ). b ++ rest) parts, h, follows_all g y rest)

pub reads_ok : {W E : Type 0} {s : Bool} {A V X : Type 0} (r : Refusals W E) (g : Grammar W s A) (keep : A → V) (view : X → V)
    → IsLawful g → (bytes : List ℕ) (x : X) (y : A) (rest : List ℕ) → IsBytes bytes
    → read r g bytes ≡ Ok (y, rest) → keep y ≡ view x → Reads r g keep view bytes (Ok x)
reads_ok {W = W} {E = E} {s = s} {A = A} r g keep view lawful bytes x y rest fits e kept =
    let t = read_takes r g lawful bytes (y, rest) fits e in
    let b : Begins g bytes y = (rest, t.0.parts, t.1, read_follows r g lawful bytes (y, rest) fits e) in
    (y, b, kept, λ z c. begins_one r g lawful bytes y z b c)

pub reads_err : {W E : Type 0} {s : Bool} {A V X : Type 0} (r : Refusals W E) (g : Grammar W s A) (keep : A → V) (view : X → V)
    → IsLawful g → (bytes : List ℕ) (e : E) → IsBytes bytes
    → read r g bytes ≡ Err e → Reads r g keep view bytes (Err e)
reads_err {E = E} {A = A} r g keep view lawful bytes e fits is =
    let f = read_fault r g lawful bytes e fits is in (
      f,
      λ d h. one_fault r g lawful bytes e d f h,
      λ z b.
          (let same : ok {E = E} (z, b.0) ≡ Err e = sym (begins_read r g lawful bytes z b) ∙ is in absurd cc),
    )

-- the value that a reader returned, if it returned one
abbrev pub found : {E X Y : Type 0} → (X → Y) → Result X E → Option Y
found view (Ok x) = Some (view x)
found view (Err e) = None

-- a reader returns the result of reading
pub reads_value : {W E : Type 0} {s : Bool} {A X : Type 0} (r : Refusals W E) (g : Grammar W s A) → IsLawful g → (view : X → A)
    → (bytes : List ℕ) (result : Result X E) → Reads r g (λ d. d) view bytes result → value_of (read r g bytes) ≡ found view result
reads_value r g lawful view bytes (Ok x) (y, b, same, one) =
    rw (begins_read r g lawful bytes y b) (ap Some same)
reads_value r g lawful view bytes (Err e) (f, one, none) = rw (read_refused r g lawful bytes e f) refl

-- a reader that keeps a part of the value returns that part
pub reads_kept : {W E : Type 0} {s : Bool} {A V X : Type 0} (r : Refusals W E) (g : Grammar W s A) → IsLawful g
    → (keep : A → V) (view : X → V) (bytes : List ℕ) (result : Result X E) → Reads r g keep view bytes result
    → option_map keep (value_of (read r g bytes)) ≡ found view result
reads_kept r g lawful keep view bytes (Ok x) (y, b, same, one) = rw (begins_read r g lawful bytes y b) (ap Some same)
reads_kept r g lawful keep view bytes (Err e) (f, one, none) = rw (read_refused r g lawful bytes e f) refl

-- what a reader returned, without its refusals
pub value_ok : {W E : Type 0} {s : Bool} {A : Type 0} (r : Refusals W E) (g : Grammar W s A) → IsLawful g → (bytes : List ℕ)
    (result : Result A E) → Reads r g (λ d. d) (λ x. x) bytes result → result_ok result ≡ value_of (read r g bytes)
value_ok r g lawful bytes (Ok x) reads = sym (reads_value r g lawful (λ x. x) bytes (Ok x) reads)
value_ok r g lawful bytes (Err e) reads = sym (reads_value r g lawful (λ x. x) bytes (Err e) reads)

-- the same, of a reader whose values stand for those of the format
pub seen_ok : {W E : Type 0} {s : Bool} {A X : Type 0} (r : Refusals W E) (g : Grammar W s A) → IsLawful g → (view : X → A)
    → (bytes : List ℕ) (result : Result X E) → Reads r g (λ d. d) view bytes result
    → option_map view (result_ok result) ≡ value_of (read r g bytes)
seen_ok r g lawful view bytes (Ok x) reads = sym (reads_value r g lawful view bytes (Ok x) reads)
seen_ok r g lawful view bytes (Err e) reads = sym (reads_value r g lawful view bytes (Err e) reads)
