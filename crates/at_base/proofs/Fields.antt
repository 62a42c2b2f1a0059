-- Fields: a value that is read has these bytes, a value that was written is read back, and a refusal is a fault of the
-- field.
use Rattle.std.proofs.Common.{◌≡◌, ℕ, ◌+◌, ◌*◌, ◌^◌, ◌<◌, ◌≤◌, ◌%◌, ◌⊎◌, Bool, true, false, cond, ltb, List, [], ◌∷◌, ◌++◌, length}
use Rattle.std.proofs.Common.{get_or, take, drop, Option, Some, None, Result, Ok, Err, refl, sym, ap, subst, ◌∙◌, arith, inl, inr}
use Rattle.std.specs.Int.{Width, w8, byte_len, from_be_bytes, to_be_bytes}
use Rattle.std.proofs.lemmas.Bool.{cases_lt, ltb-true, ltb-false, lt-ltb, le-ltb}
use Rattle.std.proofs.lemmas.List.{take_at, drop_at, take-append-drop, length-append, length-take, get_or-drop, get_or-take, get_or_past}
use Rattle.std.proofs.lemmas.Nat.{be_bytes_2, from_be_bytes-to_be_bytes_2}
use Rattle.at_base.specs.Grammar.{Size, one, two, width, Field, number, run, Refusals}
use Rattle.at_base.specs.Spelling.{field_bytes, Fits, Passes}
use Rattle.at_base.specs.FirstFault.{field_len, FieldFault}
use Rattle.at_base.specs.Reading.{field_at, bytes_at, checked, ◌>>=◌}

-- each element is a byte
abbrev pub IsBytes : List ℕ → Type 0
IsBytes bytes = (i : ℕ) → get_or bytes i 0 < 256

IsBytes-drop : (n : ℕ) (bytes : List ℕ) → IsBytes bytes → IsBytes (drop n bytes)
IsBytes-drop n bytes h i = rw get_or-drop (h (n + i))

pub IsBytes-take : (n : ℕ) (bytes : List ℕ) → IsBytes bytes → IsBytes (take n bytes)
IsBytes-take n bytes h i =
    elim (cases_lt i n) [
      | inl lt ↦ rw (get_or-take n bytes i 0 lt) (h i)
      | inr le ↦ rw (get_or_past (take n bytes) i 0 (omega (arith, length-take n bytes))) (omega arith)
    ]

-- ---- tests that find nothing wrong

pub not_wrong : {W : Type 0} (b : Bool) (w : W) (o : Option W) → cond b (Some w) o ≡ None → (b ≡ false) × (o ≡ None)
not_wrong true w o e = absurd cc
not_wrong false w o e = (refl, e)

pub is_right : {W : Type 0} (b : Bool) (w : W) → cond b None (Some w) ≡ None → b ≡ true
is_right true w e = refl
is_right false w e = absurd cc

-- ---- steps that may be refused

abbrev pub ok : {E A : Type 0} → A → Result A E
ok x = Ok x

abbrev pub err : {E A : Type 0} → E → Result A E
err f = Err f

pub ok_is : {E A : Type 0} (x y : A) → ok {E = E} x ≡ ok y → x ≡ y
ok_is x y e = cc

pub err_is : {E A : Type 0} (x y : E) → err {A = A} x ≡ err {A = A} y → x ≡ y
err_is x y e = cc

pub bind_ok : {E A B : Type 0} (r : Result A E) (f : A → Result B E) (y : B) → (r >>= f) ≡ Ok y → (x : A) × (r ≡ Ok x) × (f x ≡ Ok y)
bind_ok (Ok x) f y e = (x, refl, e)
bind_ok (Err d) f y e = absurd cc

pub bind_err : {E A B : Type 0} (r : Result A E) (f : A → Result B E) (d : E) → (r >>= f) ≡ Err d
    → (r ≡ Err d) ⊎ ((x : A) × (r ≡ Ok x) × (f x ≡ Err d))
bind_err (Ok x) f d e = inr (x, refl, e)
bind_err {E = E} {A = A} {B = B} (Err c) f d e = inl (ap (λ (x : E). err {A = A} x) (err_is {A = B} c d e))

pub checked_ok : {W E A : Type 0} (r : Refusals W E) (bytes : List ℕ) (o : Option W) (x y : A) → checked r bytes o x ≡ Ok y
    → (o ≡ None) × (x ≡ y)
checked_ok {E = E} r bytes None x y e = (refl, ok_is {E = E} x y e)
checked_ok r bytes (Some c) x y e = absurd cc

pub checked_err : {W E A : Type 0} (r : Refusals W E) (bytes : List ℕ) (o : Option W) (x : A) (f : E) → checked r bytes o x ≡ Err f
    → (w : W) × (o ≡ Some w) × (f ≡ r.placed (length bytes) w)
checked_err r bytes None x f e = absurd cc
checked_err {A = A} r bytes (Some c) x f e = (c, refl, sym (err_is {A = A} (r.placed (length bytes) c) f e))

pub guard_ok : {E A : Type 0} (b : Bool) (d : E) (r : Result A E) (y : A) → cond b (Err d) r ≡ Ok y → (b ≡ false) × (r ≡ Ok y)
guard_ok true d r y e = absurd cc
guard_ok false d r y e = (refl, e)

pub guard_err : {E A : Type 0} (b : Bool) (d : E) (r : Result A E) (f : E) → cond b (Err d) r ≡ Err f
    → ((b ≡ true) × (f ≡ d)) ⊎ ((b ≡ false) × (r ≡ Err f))
guard_err {A = A} true d r f e = inl (refl, sym (err_is {A = A} d f e))
guard_err false d r f e = inr (refl, e)

pub pass_ok : {E A : Type 0} (b : Bool) (d : E) (x y : A) → cond b (Ok x) (Err d) ≡ Ok y → (b ≡ true) × (x ≡ y)
pass_ok {E = E} true d x y e = (refl, ok_is {E = E} x y e)
pass_ok false d x y e = absurd cc

pub pass_err : {E A : Type 0} (b : Bool) (d f : E) (x : A) → cond b (Ok x) (Err d) ≡ err {A = A} f → (b ≡ false) × (f ≡ d)
pass_err true d f x e = absurd cc
pass_err {A = A} false d f x e = (refl, sym (err_is {A = A} d f e))

-- ---- a given number of bytes

pub bytes_take : {E : Type 0} (len : ℕ) (cut : E) (bytes : List ℕ) (x : List ℕ × List ℕ) → bytes_at cut len bytes ≡ Ok x
    → (bytes ≡ x.0 ++ x.1) × (length x.0 ≡ len) × (x ≡ (take len bytes, drop len bytes))
bytes_take {E} len cut bytes x e =
    let g = guard_ok (ltb (length bytes) len) cut (Ok (take len bytes, drop len bytes)) x e in
    let long : len ≤ length bytes = ltb-false _ _ g.0 in
    let made : (bytes ≡ take len bytes ++ drop len bytes) × (length (take len bytes) ≡ len) =
    (sym (take-append-drop len bytes), omega (arith, length-take len bytes)) in
    let same : (take len bytes, drop len bytes) ≡ x = ok_is {E = E} (take len bytes, drop len bytes) x g.1 in
    let both = subst (λ (y : List ℕ × List ℕ). (bytes ≡ y.0 ++ y.1) × (length y.0 ≡ len)) same made in
    (both.0, both.1, sym same)

pub bytes_again : {E : Type 0} (len : ℕ) (cut : E) (s rest : List ℕ) → length s ≡ len → bytes_at cut len (s ++ rest) ≡ Ok (s, rest)
bytes_again len cut s rest h =
    let long : ltb (length (s ++ rest)) len ≡ false = le-ltb _ _ (omega (arith, length-append s rest)) in
    rw (long, take_at s rest len h, drop_at s rest len h) refl

pub bytes_short : {E : Type 0} (len : ℕ) (cut : E) (bytes : List ℕ) (f : E) → bytes_at cut len bytes ≡ Err f
    → (length bytes < len) × (f ≡ cut)
bytes_short {E} len cut bytes f e =
    elim (guard_err (ltb (length bytes) len) cut (Ok (take len bytes, drop len bytes)) f e) [
      | inl p ↦ (ltb-true _ _ p.0, p.1)
      | inr p ↦ absurd (let impossible : ok {E = E} (take len bytes, drop len bytes) ≡ Err f = p.1 in cc)
    ]

pub bytes_cut : {E : Type 0} (len : ℕ) (cut : E) (bytes : List ℕ) → length bytes < len → bytes_at cut len bytes ≡ Err cut
bytes_cut len cut bytes lt = let short : ltb (length bytes) len ≡ true = lt-ltb _ _ lt in rw short refl

-- ---- numbers

record IsWide (w : Width) : Type 0 where
  len : (n : ℕ) → length (to_be_bytes w n) ≡ byte_len w
  back : (bytes : List ℕ) → length bytes ≡ byte_len w → IsBytes bytes → to_be_bytes w (from_be_bytes w bytes) ≡ bytes
  again : (n : ℕ) → n < 2 ^ (8 * byte_len w) → from_be_bytes w (to_be_bytes w n) ≡ n
  below : (bytes : List ℕ) → IsBytes bytes → from_be_bytes w bytes < 2 ^ (8 * byte_len w)

back_one : (bytes : List ℕ) → length bytes ≡ 1 → IsBytes bytes → to_be_bytes w8 (from_be_bytes w8 bytes) ≡ bytes
back_one [] h fits = absurd (omega arith)
back_one (b ∷ []) h fits =
    let small : b < 256 = fits 0 in let same : from_be_bytes w8 (b ∷ []) % 256 ≡ b = omega arith in ap (λ (x : ℕ). x ∷ []) same
back_one (b ∷ c ∷ bs) h fits = absurd (omega arith)

wide : (size : Size) → IsWide (width size)
wide one = record { len = λ n. refl; back = back_one; again = λ n lt. omega arith; below = λ bytes fits. omega (arith, fits 0) }
wide two = record {
  len = λ n. refl;
  back = λ bytes len fits. be_bytes_2 bytes _ len fits refl;
  again = λ n lt. from_be_bytes-to_be_bytes_2 n lt;
  below = λ bytes fits. omega (arith, fits 0, fits 1);
}

-- ---- fields

-- the bytes are a front and the rest, and both are bytes
pub record Took (bytes front rest : List ℕ) : Type 0 where
  pub parts : bytes ≡ front ++ rest
  pub rest_fits : IsBytes rest

take_then : (bytes front rest : List ℕ) → IsBytes bytes → bytes ≡ front ++ rest → Took bytes front rest
take_then bytes front rest fits parts =
    let moved : drop (length front) bytes ≡ rest = ap (drop (length front)) parts ∙ drop_at front rest (length front) refl in
    record { parts = parts; rest_fits = rw (← moved) (IsBytes-drop (length front) bytes fits) }

pub length-field_bytes : {W V : Type 0} (fd : Field W V) (v : V) → Fits fd v → length (field_bytes fd v) ≡ field_len fd
length-field_bytes (number size wrong) v h = (wide size).len v
length-field_bytes (run len wrong) v h = h

pub field_takes : {W E V : Type 0} (r : Refusals W E) (fd : Field W V) (bytes : List ℕ) (x : V × List ℕ) → IsBytes bytes
    → field_at r fd bytes ≡ Ok x → Took bytes (field_bytes fd x.0) x.1 × Passes fd x.0
field_takes r (number size wrong) bytes x fits e =
    let w = width size in
    let a = bind_ok (bytes_at r.cut (byte_len w) bytes)
    (λ y. checked r bytes (wrong (from_be_bytes w y.0)) (from_be_bytes w y.0, y.1)) x e in
    let t = bytes_take (byte_len w) r.cut bytes a.0 a.1 in
    let c = checked_ok r bytes (wrong (from_be_bytes w a.0.0)) (from_be_bytes w a.0.0, a.0.1) x a.2 in
    let s_fits : IsBytes a.0.0 = rw (ap (λ (y : List ℕ × List ℕ). y.0) t.2) (IsBytes-take (byte_len w) bytes fits) in
    let back = (wide size).back a.0.0 t.1 s_fits in
    let parts : bytes ≡ to_be_bytes w (from_be_bytes w a.0.0) ++ a.0.1 = rw back t.0 in
    subst (λ (y : ℕ × List ℕ). Took bytes (to_be_bytes w y.0) y.1 × ((y.0 < 2 ^ (8 * byte_len w)) × (wrong y.0 ≡ None))) c.1
    (take_then bytes (to_be_bytes w (from_be_bytes w a.0.0)) a.0.1 fits parts, ((wide size).below a.0.0 s_fits, c.0))
field_takes r (run len wrong) bytes x fits e =
    let a = bind_ok (bytes_at r.cut len bytes) (λ y. checked r bytes (wrong y.0) y) x e in
    let t = bytes_take len r.cut bytes a.0 a.1 in
    let c = checked_ok r bytes (wrong a.0.0) a.0 x a.2 in
    subst (λ (y : List ℕ × List ℕ). Took bytes y.0 y.1 × ((length y.0 ≡ len) × (wrong y.0 ≡ None))) c.1
    (take_then bytes a.0.0 a.0.1 fits t.0, (t.1, c.0))

pub field_again : {W E V : Type 0} (r : Refusals W E) (fd : Field W V) (v : V) (rest : List ℕ) → Passes fd v
    → field_at r fd (field_bytes fd v ++ rest) ≡ Ok (v, rest)
field_again r (number size wrong) v rest h =
    rw (bytes_again (byte_len (width size)) r.cut (to_be_bytes (width size) v) rest ((wide size).len v), (wide size).again v h.0, h.1) refl
field_again r (run len wrong) v rest h = rw (bytes_again len r.cut v rest h.0, h.1) refl

pub field_fault : {W E V : Type 0} (r : Refusals W E) (fd : Field W V) (bytes : List ℕ) (f : E) → IsBytes bytes
    → field_at r fd bytes ≡ Err f → FieldFault r fd bytes f
field_fault r (number size wrong) bytes f fits e =
    let w = width size in
    elim (bind_err (bytes_at r.cut (byte_len w) bytes)
    (λ y. checked r bytes (wrong (from_be_bytes w y.0)) (from_be_bytes w y.0, y.1)) f e) [
      | inl short ↦ inl (bytes_short (byte_len w) r.cut bytes f short)
      | inr a ↦
          let t = bytes_take (byte_len w) r.cut bytes a.0 a.1 in
          let c = checked_err r bytes (wrong (from_be_bytes w a.0.0)) (from_be_bytes w a.0.0, a.0.1) f a.2 in
          let s_fits : IsBytes a.0.0 = rw (ap (λ (y : List ℕ × List ℕ). y.0) t.2) (IsBytes-take (byte_len w) bytes fits) in
          inr (from_be_bytes w a.0.0, a.0.1, c.0, rw ((wide size).back a.0.0 t.1 s_fits) t.0, (wide size).below a.0.0 s_fits, c.1, c.2)
    ]
field_fault r (run len wrong) bytes f fits e =
    elim (bind_err (bytes_at r.cut len bytes) (λ y. checked r bytes (wrong y.0) y) f e) [
      | inl short ↦ inl (bytes_short len r.cut bytes f short)
      | inr a ↦
          let t = bytes_take len r.cut bytes a.0 a.1 in
          let c = checked_err r bytes (wrong a.0.0) a.0 f a.2 in
          inr (a.0.0, a.0.1, c.0, t.0, t.1, c.1, c.2)
    ]

-- where the field is at fault, reading returns that fault
pub field_refused : {W E V : Type 0} (r : Refusals W E) (fd : Field W V) (bytes : List ℕ) (f : E) → FieldFault r fd bytes f
    → field_at r fd bytes ≡ Err f
field_refused {V = V} r (number size wrong) bytes f (inl h) = rw (bytes_cut (byte_len (width size)) r.cut bytes h.0, h.1) refl
field_refused r (number size wrong) bytes f (inr (v, rest, w, parts, fits, bad, is)) =
    let taken : bytes_at r.cut (byte_len (width size)) bytes ≡ Ok (to_be_bytes (width size) v, rest) = rw parts
    (bytes_again (byte_len (width size)) r.cut (to_be_bytes (width size) v) rest ((wide size).len v)) in
    rw (taken, (wide size).again v fits, bad, is) refl
field_refused r (run len wrong) bytes f (inl h) = rw (bytes_cut len r.cut bytes h.0, h.1) refl
field_refused r (run len wrong) bytes f (inr (v, rest, w, parts, fits, bad, is)) =
    let taken : bytes_at r.cut len bytes ≡ Ok (v, rest) = rw parts (bytes_again len r.cut v rest fits) in
    rw (taken, bad, is) refl
