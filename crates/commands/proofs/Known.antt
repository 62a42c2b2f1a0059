-- Facts about inputs whose bytes are known, and of calls that stop.
use Rattle.std.proofs.Common.{◌≡◌, ◌≢◌, ◌⊎◌, ◌∙◌, ◌++◌, ℕ, List, [], Option, Some, None, Result, Ok, Err, IfErr, IfOk, IfSome, OnOk, sym, subst, take, append-nil, inl, inr}
use Rattle.std.proofs.KnownBytes.{Consumes-trans}
use Rattle.std.specs.Io.KnownBytes.{Consumes, IsAtEnd}
use Rattle.at_base.specs.declared.error.Error.{Error}
use Rattle.at_base.specs.declared.error.Error.TheVariants.{Memory, ReadFault, WriteFault}
use Rattle.commands.specs.declared.refused.Refused.{Refused}

-- A consequence for a reader whose bytes are known.
pub map_some : {X : Type 0} (P Q : X → Type 0) (told : Option X) → IfSome told P → ((x : X) → P x → Q x) → IfSome told Q
map_some P Q None p f = tt
map_some P Q (Some x) p f = f x p

-- A fact that holds for any bytes.
pub any_some : {X : Type 0} (Q : X → Type 0) (told : Option X) → ((x : X) → Q x) → IfSome told Q
any_some Q None f = tt
any_some Q (Some x) f = f x

-- The result of a call that stops.
abbrev pub stop : (A : Type 0) → Refused → Result A Refused
stop A r = Err r

-- A read that found the end took nothing more.
pub taken_at_end : (a b c : Option (List ℕ)) (all buffer : List ℕ) (n : ℕ) → n ≡ 0 → Consumes a b all
    → Consumes b c (take n buffer) → Consumes a c all
taken_at_end a b c all buffer n none before last =
    let whole : Consumes a c (all ++ take n buffer) = Consumes-trans a b c _ _ before last in
    subst (Consumes a c) (append-nil all) (rw none at whole)

-- What was taken of a reader that is at its end are all its bytes.
pub all_taken : (P : List ℕ → Type 0) (a c : Option (List ℕ)) (all : List ℕ) → Consumes a c all → IsAtEnd c → P all → IfSome a P
all_taken P None c all taken end p = tt
all_taken P (Some x) None all taken end p = absurd taken
all_taken P (Some x) (Some y) all taken end p =
    let whole : x ≡ all = taken ∙ rw end (append-nil all) in subst P (sym whole) p

-- A fact about what was taken, and about all that may follow, is one of the reader's bytes.
pub front_taken : (P : List ℕ → Type 0) (a c : Option (List ℕ)) (all : List ℕ) → Consumes a c all
    → ((more : List ℕ) → P (all ++ more)) → IfSome a P
front_taken P None c all taken p = tt
front_taken P (Some x) None all taken p = absurd taken
front_taken P (Some x) (Some y) all taken p = subst P (sym taken) (p y)

-- Printing has no error but these.
pub printed_only : {A : Type 0} (X : Type 0) (r : Result A Error) → IfErr r (λ e. (e ≡ Memory) ⊎ ((e ≡ WriteFault) × X))
    → IfErr r (λ e. (e ≡ Memory) ⊎ (e ≡ WriteFault))
printed_only X (Ok a) h = tt
printed_only X (Err e) (inl memory) = inl memory
printed_only X (Err e) (inr write) = inr write.0
