-- Texts that are written one after the other.
use Rattle.std.proofs.Common.{◌≡◌, ◌≤◌, ◌-◌, ℕ, List, [], ◌∷◌, ◌++◌, Option, Some, None, Result, Ok, Err, OnOk, ap, arith, drop}
use Rattle.std.proofs.Common.{length, slice_index_or, subst, sym, take, ◌∙◌}
use Rattle.std.proofs.lemmas.List.{append_assoc, append-nil, take_rest}
use Rattle.std.specs.List.{flat_map}
use Rattle.std.specs.Io.KnownBytes.{Appends}
use Rattle.text.specs.Going.{Goes}

-- a fact about a success, weakened
pub on_ok : {A E : Type 0} {P Q : Type 0} (r : Result A E) → OnOk r P → (P → Q) → OnOk r Q
on_ok (Ok a) p f = f p
on_ok (Err e) p f = tt

pub appends_then : (u v w : Option (List ℕ)) (a b : List ℕ) → Appends u v a → Appends v w b → Appends u w (a ++ b)
appends_then None v w a b x y = tt
appends_then (Some xs) None w a b x y = absurd x
appends_then (Some xs) (Some ys) None a b x y = y
appends_then (Some xs) (Some ys) (Some zs) a b x y = y ∙ ap (λ (t : List ℕ). t ++ b) x ∙ append_assoc xs a b

pub appends_none : (u : Option (List ℕ)) → Appends u u []
appends_none None = tt
appends_none (Some xs) = sym (append-nil xs)

-- nothing was added or written
pub goes_none : (u : Option (List ℕ)) (t : List ℕ) → Goes u t [] u t
goes_none u t = record { gone = []; went = appends_none u; rest = sym (append-nil t) }

-- one text after another was added
pub goes_then : (u v w : Option (List ℕ)) (t s r a b : List ℕ) → Goes u t a v s → Goes v s b w r → Goes u t (a ++ b) w r
goes_then u v w t s r a b x y = record {
  gone = x.gone ++ y.gone;
  went = appends_then u v w x.gone y.gone x.went y.went;
  rest =
      append_assoc x.gone y.gone r ∙ ap (λ (z : List ℕ). x.gone ++ z) y.rest ∙ sym (append_assoc x.gone s b)
      ∙ ap (λ (z : List ℕ). z ++ b) x.rest ∙ append_assoc t a b;
}

-- text was appended to the buffer, and then a front of the buffer was written
pub goes_put : (u v : Option (List ℕ)) (t s r a : List ℕ) → s ≡ t ++ a → Goes u s [] v r → Goes u t a v r
goes_put u v t s r a e x = record { gone = x.gone; went = x.went; rest = x.rest ∙ append-nil s ∙ e }

-- a fact that follows from two facts about a success
pub on_both : {A E : Type 0} {P Q R : Type 0} (r : Result A E) → OnOk r P → OnOk r Q → (P → Q → R) → OnOk r R
on_both (Ok a) p q f = f p q
on_both (Err e) p q f = tt

-- ---- Texts in parts

-- a list is its first element and the others
pub first_and_others : {X : Type 0} (xs : List X) (x : X) → 1 ≤ length xs → x ≡ slice_index_or xs 0 x
    → xs ≡ x ∷ take (length xs - 1) (drop 1 xs)
first_and_others [] x some is = absurd (omega (arith, some))
first_and_others (y ∷ ys) x some is = ap (λ h. h ∷ ys) (sym is) ∙ ap (λ t. x ∷ t) (sym (take_rest (y ∷ ys) 1))

-- the text of the first of several items was added, and then those of the others
pub goes_each : {X : Type 0} (f : X → List ℕ) (xs : List X) (x : X) (u v w : Option (List ℕ)) (t s r : List ℕ)
    → 1 ≤ length xs → x ≡ slice_index_or xs 0 x → Goes u t (f x) v s → Goes v s (flat_map f (take (length xs - 1) (drop 1 xs))) w r
    → Goes u t (flat_map f xs) w r
goes_each f xs x u v w t s r some is one others =
    subst (λ ys. Goes u t (flat_map f ys) w r) (sym (first_and_others xs x some is)) (goes_then u v w t s r _ _ one others)

-- a text that is equal to the one that was added
pub goes_as : {u v : Option (List ℕ)} {t s a b : List ℕ} → a ≡ b → Goes u t a v s → Goes u t b v s
goes_as {u} {v} {t} {s} same x = subst (λ c. Goes u t c v s) same x

-- a text was added, and then another
pub goes_on : {u v w : Option (List ℕ)} {t s r a b : List ℕ} → Goes u t a v s → Goes v s b w r → Goes u t (a ++ b) w r
goes_on {u} {v} {w} {t} {s} {r} {a} {b} x y = goes_then u v w t s r a b x y

-- a text was appended, and then another
pub put_then : (t : List ℕ) {r s : List ℕ} (a b : List ℕ) → r ≡ t ++ a → s ≡ r ++ b → s ≡ t ++ (a ++ b)
put_then t {r} {s} a b x y = y ∙ ap (λ l. l ++ b) x ∙ append_assoc t a b
