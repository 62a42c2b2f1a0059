-- Lists of values and tables of members, as the TOML library sees them.
use Rattle.std.proofs.Common.{◌≡◌, ℕ, Bool, ◌&&◌, List, [], ◌∷◌, refl, ap, String, Global, string_bytes}
use Rattle.std.specs.List.{list_all}
use Rattle.std.specs.Map.{keys_of}
use Rattle.toml.specs.declared.value.Value.{Value}
use Rattle.toml.specs.Data.{Data}
use Rattle.toml.specs.View.{items_of, members_view}
use Rattle.file_entries.specs.Entries.{keys}
use Rattle.file_entries.specs.Values.{values}

-- The items that were made from a list are the list.
pub values_of_items : (ds : List Data) → values (items_of ds) ≡ ds
values_of_items [] = refl
values_of_items (d ∷ ds) = ap (λ l. d ∷ l) (values_of_items ds)

-- A test of all keys of a map is a test of all keys of its members.
pub all_keys : (test : List ℕ → Bool) (es : List (String Global × Value))
    → list_all (λ k. test (string_bytes k)) (keys_of es) ≡ list_all test (keys (members_view es))
all_keys test [] = refl
all_keys test (e ∷ es) = ap (λ b. test (string_bytes e.0) && b) (all_keys test es)
