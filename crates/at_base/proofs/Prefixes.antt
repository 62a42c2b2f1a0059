-- Reading the front of an input: what is read there is read of the whole input too, and so is a refusal, unless the front
-- is cut. A format that knows its own end doesn't look at what comes after it.
use Rattle.std.proofs.Common.{◌≡◌, ℕ, zero, suc, ◌+◌, ◌⊎◌, inl, inr, true, false, ltb, List, [], ◌∷◌, ◌++◌, length, Result, Ok, Err}
use Rattle.std.proofs.Common.{Option, Some, None, refl, sym, ap, subst, ◌∙◌, append_assoc, arith}
use Rattle.std.specs.Int.{byte_len, from_be_bytes}
use Rattle.std.proofs.lemmas.Bool.{ltb-false, le-ltb}
use Rattle.std.proofs.lemmas.List.{length-append}
use Rattle.at_base.specs.Grammar.{width, Field, number, run, Grammar, done, field, part, list, room, Refusals}
use Rattle.at_base.specs.Reading.{◌>>=◌, bytes_at, checked, field_at, list_at, read}
use Rattle.at_base.proofs.Fields.{ok_is, bind_ok, bind_err, checked_ok, err_is, guard_ok, guard_err, bytes_take, bytes_again, bytes_short}

-- the refusal is that of an input that is cut, or with n more bytes the result is the same one, as much further from the end
abbrev pub Stays : {W E X : Type 0} → Refusals W E → ℕ → E → Result X E → Type 0
Stays {W} r n f whole = (f ≡ r.cut) ⊎ ((left : ℕ) × (w : W) × (f ≡ r.placed left w) × (whole ≡ Err (r.placed (left + n) w)))

pub stays_then : {W E X Y : Type 0} (r : Refusals W E) (n : ℕ) (f : E) (whole : Result X E) (then : X → Result Y E)
    → Stays r n f whole → Stays r n f (whole >>= then)
stays_then r n f whole then (inl cut) = inl cut
stays_then r n f whole then (inr (left, w, e, h)) = inr (left, w, e, rw h refl)

bytes_more : {E : Type 0} (len : ℕ) (cut : E) (front more : List ℕ) (x : List ℕ × List ℕ) → bytes_at cut len front ≡ Ok x
    → bytes_at cut len (front ++ more) ≡ Ok (x.0, x.1 ++ more)
bytes_more len cut front more x e =
    let t = bytes_take len cut front x e in
    ap (bytes_at cut len) (ap (λ (b : List ℕ). b ++ more) t.0 ∙ append_assoc x.0 x.1 more)
    ∙ bytes_again len cut x.0 (x.1 ++ more) t.1

-- ---- fields

pub field_more : {W E V : Type 0} (r : Refusals W E) (fd : Field W V) (front more : List ℕ) (x : V × List ℕ)
    → field_at r fd front ≡ Ok x → field_at r fd (front ++ more) ≡ Ok (x.0, x.1 ++ more)
field_more r (number size wrong) front more x e =
    let value : List ℕ → ℕ = λ bytes. from_be_bytes (width size) bytes in
    let a = bind_ok (bytes_at r.cut (byte_len (width size)) front) (λ y. checked r front (wrong (value y.0)) (value y.0, y.1)) x e in
    let c = checked_ok r front (wrong (value a.0.0)) (value a.0.0, a.0.1) x a.2 in
    subst (λ (z : ℕ × List ℕ). field_at r (number size wrong) (front ++ more) ≡ Ok (z.0, z.1 ++ more)) c.1
    (rw (bytes_more (byte_len (width size)) r.cut front more a.0 a.1, c.0) refl)
field_more r (run len wrong) front more x e =
    let a = bind_ok (bytes_at r.cut len front) (λ y. checked r front (wrong y.0) y) x e in
    let c = checked_ok r front (wrong a.0.0) a.0 x a.2 in
    subst (λ (z : List ℕ × List ℕ). field_at r (run len wrong) (front ++ more) ≡ Ok (z.0, z.1 ++ more)) c.1
    (rw (bytes_more len r.cut front more a.0 a.1, c.0) refl)

checked_stays : {W E A : Type 0} (r : Refusals W E) (front more : List ℕ) (o : Option W) (x y : A) (f : E)
    → checked r front o x ≡ Err f → Stays r (length more) f (checked r (front ++ more) o y)
checked_stays r front more None x y f e = absurd cc
checked_stays {A = A} r front more (Some w) x y f e =
    inr (length front, w, sym (err_is {A = A} (r.placed (length front) w) f e), rw (length-append front more) refl)

pub field_stays : {W E V : Type 0} (r : Refusals W E) (fd : Field W V) (front more : List ℕ) (f : E)
    → field_at r fd front ≡ Err f → Stays r (length more) f (field_at r fd (front ++ more))
field_stays r (number size wrong) front more f e =
    let value : List ℕ → ℕ = λ bytes. from_be_bytes (width size) bytes in
    elim (bind_err (bytes_at r.cut (byte_len (width size)) front) (λ y. checked r front (wrong (value y.0)) (value y.0, y.1)) f e) [
      | inl p ↦ inl (bytes_short (byte_len (width size)) r.cut front f p).1
      | inr a ↦ rw (bytes_more (byte_len (width size)) r.cut front more a.0 a.1)
          (checked_stays r front more (wrong (value a.0.0)) (value a.0.0, a.0.1) (value a.0.0, a.0.1 ++ more) f a.2)
    ]
field_stays r (run len wrong) front more f e =
    elim (bind_err (bytes_at r.cut len front) (λ y. checked r front (wrong y.0) y) f e) [
      | inl p ↦ inl (bytes_short len r.cut front f p).1
      | inr a ↦ rw (bytes_more len r.cut front more a.0 a.1)
          (checked_stays r front more (wrong a.0.0) a.0 (a.0.0, a.0.1 ++ more) f a.2)
    ]

-- ---- items

module _ {E B : Type 0} (item : ℕ → List ℕ → Result (B × List ℕ) E) (next : B → ℕ) (more : List ℕ)
    (reads : (low : ℕ) (front : List ℕ) (x : B × List ℕ) → item low front ≡ Ok x → item low (front ++ more) ≡ Ok (x.0, x.1 ++ more))
  where
    abbrev rest_of : ℕ → B × List ℕ → Result (List B × List ℕ) E
    rest_of n y = list_at item next (next y.0) n y.1 >>= λ ys. Ok (y.0 ∷ ys.0, ys.1)

    pub list_more : (low n : ℕ) (front : List ℕ) (x : List B × List ℕ) → list_at item next low n front ≡ Ok x
        → list_at item next low n (front ++ more) ≡ Ok (x.0, x.1 ++ more)
    list_more low zero front x e =
        subst (λ (z : List B × List ℕ). list_at item next low zero (front ++ more) ≡ Ok (z.0, z.1 ++ more))
        (ok_is {E = E} ([], front) x e) refl
    list_more low (suc n) front x e =
        let a = bind_ok (item low front) (rest_of n) x e in
        let b = bind_ok (list_at item next (next a.0.0) n a.0.1) (λ ys. Ok (a.0.0 ∷ ys.0, ys.1)) x a.2 in
        subst (λ (z : List B × List ℕ). list_at item next low (suc n) (front ++ more) ≡ Ok (z.0, z.1 ++ more))
        (ok_is {E = E} (a.0.0 ∷ b.0.0, b.0.1) x b.2)
        (rw (reads low front a.0 a.1, list_more (next a.0.0) n a.0.1 b.0 b.1) refl)

    pub list_stays : {W : Type 0} (r : Refusals W E)
        → ((low : ℕ) (front : List ℕ) (f : E) → item low front ≡ Err f → Stays r (length more) f (item low (front ++ more)))
        → (low n : ℕ) (front : List ℕ) (f : E) → list_at item next low n front ≡ Err f
        → Stays r (length more) f (list_at item next low n (front ++ more))
    list_stays r refuses low zero front f e = absurd cc
    list_stays r refuses low (suc n) front f e =
        elim (bind_err (item low front) (rest_of n) f e) [
          | inl p ↦ stays_then r (length more) f (item low (front ++ more)) (rest_of n) (refuses low front f p)
          | inr a ↦ elim (bind_err (list_at item next (next a.0.0) n a.0.1) (λ ys. Ok (a.0.0 ∷ ys.0, ys.1)) f a.2) [
            | inl q ↦ rw (reads low front a.0 a.1)
                (stays_then r (length more) f (list_at item next (next a.0.0) n (a.0.1 ++ more)) (λ ys. Ok (a.0.0 ∷ ys.0, ys.1))
                (list_stays r refuses (next a.0.0) n a.0.1 f q))
            | inr b ↦ absurd (let bad = b.2 in cc)
          ]
        ]

-- ---- formats

still_enough : (n : ℕ) (front more : List ℕ) → ltb (length front) n ≡ false → ltb (length (front ++ more)) n ≡ false
still_enough n front more e = le-ltb _ _ (omega (arith, ltb-false _ _ e, length-append front more))

-- what is read of the front of an input is read of the whole, and more is left
pub read_more : {W E A : Type 0} (r : Refusals W E) (g : Grammar W true A) (front more : List ℕ) (x : A × List ℕ)
    → read r g front ≡ Ok x → read r g (front ++ more) ≡ Ok (x.0, x.1 ++ more)
read_more {E = E} {A = A} r (done y) front more x e =
    subst (λ (z : A × List ℕ). read {s = true} r (done y) (front ++ more) ≡ Ok (z.0, z.1 ++ more)) (ok_is {E = E} (y, front) x e) refl
read_more r (field fd get after) front more x e =
    let a = bind_ok (field_at r fd front) (λ y. read r (after y.0) y.1) x e in
    rw (field_more r fd front more a.0 a.1) (read_more r (after a.0.0) a.0.1 more x a.2)
read_more r (part g get after) front more x e =
    let a = bind_ok (read r g front) (λ y. read r (after y.0) y.1) x e in
    rw (read_more r g front more a.0 a.1) (read_more r (after a.0.0) a.0.1 more x a.2)
read_more r (list item next n get after) front more x e =
    let a = bind_ok (list_at (λ low. read r (item low)) next 0 n front) (λ y. read r (after y.0) y.1) x e in
    rw (list_more (λ low. read r (item low)) next more (λ low b y. read_more r (item low) b more y) 0 n front a.0 a.1)
    (read_more r (after a.0.0) a.0.1 more x a.2)
read_more r (room n g) front more x e =
    let p = guard_ok (ltb (length front) n) r.cut (read r g front) x e in
    rw (still_enough n front more p.0) (read_more r g front more x p.1)

-- a refusal of the front is that of the whole, unless the front is cut
pub read_stays : {W E A : Type 0} (r : Refusals W E) (g : Grammar W true A) (front more : List ℕ) (f : E)
    → read r g front ≡ Err f → Stays r (length more) f (read r g (front ++ more))
read_stays r (done y) front more f e = absurd cc
read_stays r (field fd get after) front more f e =
    elim (bind_err (field_at r fd front) (λ y. read r (after y.0) y.1) f e) [
      | inl p ↦ stays_then r (length more) f (field_at r fd (front ++ more)) (λ y. read r (after y.0) y.1) (field_stays r fd front more f p)
      | inr a ↦ rw (field_more r fd front more a.0 a.1) (read_stays r (after a.0.0) a.0.1 more f a.2)
    ]
read_stays r (part g get after) front more f e =
    elim (bind_err (read r g front) (λ y. read r (after y.0) y.1) f e) [
      | inl p ↦ stays_then r (length more) f (read r g (front ++ more)) (λ y. read r (after y.0) y.1) (read_stays r g front more f p)
      | inr a ↦ rw (read_more r g front more a.0 a.1) (read_stays r (after a.0.0) a.0.1 more f a.2)
    ]
read_stays r (list item next n get after) front more f e =
    elim (bind_err (list_at (λ low. read r (item low)) next 0 n front) (λ y. read r (after y.0) y.1) f e) [
      | inl p ↦ stays_then r (length more) f (list_at (λ low. read r (item low)) next 0 n (front ++ more)) (λ y. read r (after y.0) y.1)
          (list_stays (λ low. read r (item low)) next more (λ low b y. read_more r (item low) b more y) r
          (λ low b f. read_stays r (item low) b more f) 0 n front f p)
      | inr a ↦ rw (list_more (λ low. read r (item low)) next more (λ low b y. read_more r (item low) b more y) 0 n front a.0 a.1)
          (read_stays r (after a.0.0) a.0.1 more f a.2)
    ]
read_stays r (room n g) front more f e =
    elim (guard_err (ltb (length front) n) r.cut (read r g front) f e) [
      | inl p ↦ inl p.1
      | inr p ↦ rw (still_enough n front more p.0) (read_stays r g front more f p.1)
    ]
