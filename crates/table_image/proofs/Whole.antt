-- Whole images: reading, accepting and refusing, and the offsets of flaws.
use Rattle.std.proofs.Common.{◌≡◌, ℕ, ◌+◌, ◌^◌, ◌≤◌, ◌<◌, Bool, true, false, cond, eqb, List, [], ◌++◌, length, Ok, Err, refl, sym, ap}
use Rattle.std.proofs.Common.{subst, ◌∙◌, inl, inr, arith}
use Rattle.std.specs.Prelude.{◌≢◌}
use Rattle.std.proofs.lemmas.Bool.{eqb-true}
use Rattle.std.proofs.lemmas.List.{append-nil, nil_from_length}
use Rattle.at_base.specs.declared.error.Cause.TheVariants.{Trailing}
use Rattle.at_base.specs.declared.error.Error.{Error}
use Rattle.at_base.specs.declared.error.Error.TheVariants.{Memory}
use Rattle.at_base.specs.Spelling.{bytes_of, Spells}
use Rattle.at_base.specs.Reading.{read}
use Rattle.at_base.proofs.Fields.{IsBytes, err_is, bind_ok, bind_err, pass_ok, pass_err}
use Rattle.at_base.proofs.Laws.{read_takes, read_again, read_fault, read_refused, follows_all}
use Rattle.table_image.specs.Internet.{Internet}
use Rattle.table_image.specs.Flaws.{Here, fault_of, faults, flaw_after}
use Rattle.table_image.specs.Spelling.{image_spelling}
use Rattle.table_image.specs.Reading.{image_at, IsFirstFault, IsFirstFlaw, Refuses}
use Rattle.table_image.specs.declared.flaw.Fault.{Fault}
use Rattle.table_image.specs.declared.flaw.Flaw.{Flaw}
use Rattle.table_image.proofs.Shape.{image_lawful}
use Rattle.table_image.specs.Sizes.{image_size}
use Rattle.table_image.proofs.Extents.{image_reaches}

-- the bytes spell the image that is read from them
pub all_takes : (bytes : List ℕ) (x : Internet) → IsBytes bytes → image_at bytes ≡ Ok x → Spells image_spelling bytes x
unfolding image_at
all_takes bytes x fits e =
    let a =
    bind_ok (read faults image_spelling bytes) (λ y. cond (eqb (length y.1) 0) (Ok y.0) (Err (fault_of (length y.1) (Here Trailing)))) x e in
    let p = pass_ok (eqb (length a.0.1) 0) (fault_of (length a.0.1) (Here Trailing)) a.0.0 x a.2 in
    let nothing : a.0.1 ≡ [] = nil_from_length a.0.1 (eqb-true _ _ p.0) in
    let t = read_takes faults image_spelling image_lawful bytes a.0 fits a.1 in
    let whole : bytes ≡ bytes_of image_spelling a.0.0 =
    t.0.parts ∙ ap (λ (r : List ℕ). bytes_of image_spelling a.0.0 ++ r) nothing ∙ append-nil (bytes_of image_spelling a.0.0) in
    subst (λ (y : Internet). Spells image_spelling bytes y) p.1 (t.1, whole)

-- an image is read from the bytes that spell it
pub all_again : (bytes : List ℕ) (x : Internet) → Spells image_spelling bytes x → image_at bytes ≡ Ok x
unfolding image_at
all_again bytes x s =
    let whole : bytes ≡ bytes_of image_spelling x ++ [] = s.1 ∙ sym (append-nil (bytes_of image_spelling x)) in
    rw (whole, read_again faults image_spelling image_lawful x [] s.0 (follows_all image_spelling x [])) refl

-- a refusal is the first fault
pub all_refuses : (bytes : List ℕ) (f : Fault) → IsBytes bytes → image_at bytes ≡ Err f → IsFirstFault bytes f
unfolding image_at
all_refuses bytes f fits e =
    elim (bind_err (read faults image_spelling bytes) (λ y. cond (eqb (length y.1) 0) (Ok y.0) (Err (fault_of (length y.1)
    (Here Trailing)))) f e) [
      | inl p ↦ inl (read_fault faults image_spelling image_lawful bytes f fits p)
      | inr a ↦
          let p = pass_err (eqb (length a.0.1) 0) (fault_of (length a.0.1) (Here Trailing)) f a.0.0 a.2 in
          let t = read_takes faults image_spelling image_lawful bytes a.0 fits a.1 in
          let some : a.0.1 ≢ [] = λ nil. (let no : eqb (length a.0.1) 0 ≡ true = ap (λ (r : List ℕ). eqb (length r) 0) nil in cc) in
          inr (a.0.0, a.0.1, t.0.parts, t.1, some, p.1)
    ]

trailing : (x : Internet) (rest : List ℕ) (f : Fault) → rest ≢ [] → f ≡ fault_of (length rest) (Here Trailing)
    → cond (eqb (length rest) 0) (Ok x) (Err (fault_of (length rest) (Here Trailing))) ≡ Err f
trailing x rest f some is = go (eqb (length rest) 0) refl
  where
    go : (b : Bool) → eqb (length rest) 0 ≡ b → cond b (Ok x) (Err (fault_of (length rest) (Here Trailing))) ≡ Err f
    go true e = absurd (some (nil_from_length rest (eqb-true _ _ e)))
    go false e = ap (λ (g : Fault). Err g) (sym is)

-- where the bytes have a first fault, reading returns it
pub all_refused : (bytes : List ℕ) (f : Fault) → IsFirstFault bytes f → image_at bytes ≡ Err f
unfolding image_at
all_refused bytes f (inl h) = rw (read_refused faults image_spelling image_lawful bytes f h) refl
all_refused bytes f (inr (x, rest, parts, value, some, is)) =
    let taken : read faults image_spelling bytes ≡ Ok (x, rest) =
    rw parts (read_again faults image_spelling image_lawful x rest value (follows_all image_spelling x rest)) in
    rw taken (trailing x rest f some is)

-- an image spelled by the bytes is the one read from them
pub one_reading : (bytes : List ℕ) (x y : Internet) → image_at bytes ≡ Ok x → Spells image_spelling bytes y → x ≡ y
one_reading bytes x y e s = let f : image_at bytes ≡ Ok y = all_again bytes y s in cc

-- bytes that spell an image have no fault
pub no_fault : (bytes : List ℕ) (x : Internet) (f : Fault) → Spells image_spelling bytes x → image_at bytes ≡ Err f → ⊥
no_fault bytes x f s e = let g : image_at bytes ≡ Ok x = all_again bytes x s in cc

-- a fault is reported at most image_size bytes from the start
pub reported_early : (bytes : List ℕ) (f : Fault) → IsBytes bytes → image_at bytes ≡ Err f → length bytes ≤ f.left + image_size
unfolding image_at
reported_early bytes f fits e =
    elim (bind_err (read faults image_spelling bytes) (λ y. cond (eqb (length y.1) 0) (Ok y.0) (Err (fault_of (length y.1)
    (Here Trailing)))) f e) [
      | inl p ↦ image_reaches.within_it.err_within bytes f fits p
      | inr a ↦
          let p = pass_err (eqb (length a.0.1) 0) (fault_of (length a.0.1) (Here Trailing)) f a.0.0 a.2 in
          let reported = ap (λ (g : Fault). g.left) p.1 in
          let taken = (image_reaches.within_it.ok_within bytes a.0 fits a.1).0 in
          omega (arith, reported, taken)
    ]

-- the offset of a fault fits into 32 bits
pub place_fits : (bytes : List ℕ) (f : Fault) → IsBytes bytes → image_at bytes ≡ Err f → length bytes < f.left + 2 ^ 32
place_fits bytes f fits e = let early = reported_early bytes f fits e in omega (arith, early)

-- bytes have at most one first fault
pub one_fault : (bytes : List ℕ) (f g : Fault) → image_at bytes ≡ Err f → IsFirstFault bytes g → f ≡ g
one_fault bytes f g e h = err_is {A = Internet} f g (sym e ∙ all_refused bytes g h)

-- ---- flaws, which are faults with their offsets

-- a refusal is the first flaw
pub refuses_first : (bytes : List ℕ) (f : Fault) → IsBytes bytes → image_at bytes ≡ Err f → IsFirstFlaw bytes (flaw_after (length bytes) f)
unfolding IsFirstFlaw
refuses_first bytes f fits e = (f, all_refuses bytes f fits e, refl)

-- the fault that reading finds is the first flaw
pub one_flaw : (bytes : List ℕ) (f : Fault) (g : Flaw) → image_at bytes ≡ Err f → IsFirstFlaw bytes g
    → flaw_after (length bytes) f ≡ g
unfolding IsFirstFlaw
one_flaw bytes f g e (found, h, is) = ap (flaw_after (length bytes)) (one_fault bytes f found e h) ∙ sym is

-- bytes have at most one first flaw
pub same_flaw : (bytes : List ℕ) (f g : Flaw) → IsFirstFlaw bytes f → IsFirstFlaw bytes g → f ≡ g
unfolding IsFirstFlaw
same_flaw bytes f g (found, h, is) k = is ∙ one_flaw bytes found g (all_refused bytes found h) k

-- bytes from which an image is read have no flaw
pub read_no_flaw : (bytes : List ℕ) (x : Internet) (f : Flaw) → image_at bytes ≡ Ok x → IsFirstFlaw bytes f → ⊥
unfolding IsFirstFlaw
read_no_flaw bytes x f e (found, h, is) = let g : image_at bytes ≡ Err found = all_refused bytes found h in cc

-- bytes that spell an image have no flaw
pub no_flaw : (bytes : List ℕ) (x : Internet) (f : Flaw) → Spells image_spelling bytes x → IsFirstFlaw bytes f → ⊥
no_flaw bytes x f s h = read_no_flaw bytes x f (all_again bytes x s) h

-- if bytes spell an image, the only error is a failed allocation
pub only_memory : (bytes : List ℕ) (x : Internet) (e : Error) → Spells image_spelling bytes x → Refuses bytes e → e ≡ Memory
only_memory bytes x e s (inl h) = h.0
only_memory bytes x e s (inr (f, h, is)) = absurd (no_flaw bytes x f s h)
