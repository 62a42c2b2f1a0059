-- Lists are written part by part, and the bytes of a part don't depend on the parts around it.
use Rattle.std.proofs.Common.{◌≡◌, ℕ, true, List, [], ◌∷◌, ◌++◌, length, refl, ap, sym, ◌∙◌, append_assoc}
use Rattle.std.specs.List.{flat_map}
use Rattle.std.proofs.lemmas.List.Concat.{flat_map-cons}
use Rattle.std.proofs.lemmas.List.{append-nil}
use Rattle.std.specs.Int.{to_be_bytes}
use Rattle.at_base.specs.Grammar.{Grammar, Size, width}
use Rattle.at_base.specs.Spelling.{bytes_of, list_bytes}
use Rattle.table_image.specs.Contexts.{nothing}
use Rattle.table_image.specs.Flaws.{Wrong}
use Rattle.table_image.specs.Spelling.{counted}
use Rattle.table_image.specs.declared.context.Context.{Context}

pub list_same : {B : Type 0} (item : Context → ℕ → Grammar Wrong true B) (next : B → ℕ) → ((context : Context) (low : ℕ) (x : B)
    → bytes_of (item context low) x ≡ bytes_of (item (nothing context.version) 0) x)
    → (context : Context) (low : ℕ) (xs : List B)
    → list_bytes (λ n. bytes_of (item context n)) next low xs ≡ flat_map (bytes_of (item (nothing context.version) 0)) xs
list_same item next same context low [] = refl
list_same item next same context low (x ∷ xs) = rw (same context low x, list_same item next same context (next x) xs, flat_map-cons) refl

pub counted_written : {B : Type 0} (item : Context → ℕ → Grammar Wrong true B) (next : B → ℕ) → ((context : Context) (low : ℕ) (x : B)
    → bytes_of (item context low) x ≡ bytes_of (item (nothing context.version) 0) x)
    → (size : Size) (limit : ℕ) (context : Context) (xs : List B) (old middle new : List ℕ)
    → middle ≡ old ++ to_be_bytes (width size) (length xs)
    → new ≡ middle ++ flat_map (bytes_of (item (nothing context.version) 0)) xs
    → new ≡ old ++ bytes_of (counted size limit (item context) next) xs
unfolding counted
counted_written {B} item next same size limit context xs old middle new first second =
    let written = flat_map (bytes_of (item (nothing context.version) 0)) xs in
    let others : list_bytes (λ n. bytes_of (item context n)) next 0 xs ++ [] ≡ written =
    append-nil (list_bytes (λ n. bytes_of (item context n)) next 0 xs) ∙ list_same item next same context 0 xs in
    second ∙ ap (λ (m : List ℕ). m ++ written) first ∙ append_assoc old (to_be_bytes (width size) (length xs)) written
    ∙ ap (λ (r : List ℕ). old ++ (to_be_bytes (width size) (length xs) ++ r)) (sym others)
