-- The entries of a file in TOML: tables with exact keys, and lists of them.
use Rattle.std.specs.Prelude.{ℕ, suc, ◌+◌, Bool, cond, List, [], ◌∷◌, Option, Some, None, Result, Ok, Err, bytes_eq, length, min}
use Rattle.std.specs.Prelude.{is_some, nat_le, take, unwrap_or}
use Rattle.std.specs.List.{list_all, list_any}
use Rattle.std.specs.Result.{result_ok}
use Rattle.toml.specs.Data.{Data, Members, no_members, member, as_table, get_member}
use Rattle.at_base.specs.declared.error.Error.{Error}
use Rattle.at_base.specs.declared.error.Error.TheVariants.{BadFile}
use Rattle.at_base.specs.declared.error.Part.{Part}
use Rattle.text.specs.Words.{given}
use Rattle.file_entries.specs.Values.{list}

-- The keys of a table.
abbrev pub keys : Members → List (List ℕ)
keys no_members = []
keys (member k d ms) = k ∷ keys ms

-- The table has only these keys.
abbrev pub has_only : List (List ℕ) → Members → Bool
has_only named ms = list_all (λ k. list_any (bytes_eq k) named) (keys ms)

-- The members of a table that has only these keys.
abbrev pub entry : List (List ℕ) → Data → Option Members
entry named d = given (as_table d) (λ ms. cond (has_only named ms) (Some ms) None)

-- The meaning of the value at a key, if the table has the key.
abbrev pub at : {T : Type 0} → List ℕ → (Data → Option T) → Members → Option T
at key f ms = given (get_member key ms) f

-- The meaning of a value, or another one where there is no value.
abbrev pub or_else : {T : Type 0} → T → (Data → Option T) → Option Data → Option T
or_else other f None = Some other
or_else other f (Some d) = f d

-- The meaning of the value at a key, or another one where the table doesn't have the key.
abbrev pub at_or : {T : Type 0} → T → List ℕ → (Data → Option T) → Members → Option T
at_or other key f ms = or_else other f (get_member key ms)

-- The values of the list at a key; an absent key is an empty list.
abbrev pub list_at : List ℕ → Members → Option (List Data)
list_at key ms = of (get_member key ms)
  where
    of : Option Data → Option (List Data)
    of None = Some []
    of (Some d) = list d

-- The meanings of a value and of those after it, or the index of the first invalid one.
abbrev pub before : {T : Type 0} → Option T → Result (List T) ℕ → Result (List T) ℕ
before None _ = Err 0
before (Some x) (Ok xs) = Ok (x ∷ xs)
before (Some x) (Err k) = Err (suc k)

-- The meaning of each of the values, which are numbered from this number on, or the index of the first invalid one.
abbrev pub each_from : {T : Type 0} → ℕ → (ℕ → Data → Option T) → List Data → Result (List T) ℕ
each_from k f [] = Ok []
each_from k f (d ∷ ds) = before (f k d) (each_from (suc k) f ds)

-- The meaning of each of the values, which are numbered from 1, or the index of the first invalid one.
abbrev pub each : {T : Type 0} → (ℕ → Data → Option T) → List Data → Result (List T) ℕ
each f ds = each_from 1 f ds

-- The meaning of each of the values, which are numbered from 1, if none is invalid.
abbrev pub all_numbered : {T : Type 0} → (ℕ → Data → Option T) → List Data → Option (List T)
all_numbered f ds = result_ok (each f ds)

-- The meaning of each of the values, if none is invalid.
abbrev pub all : {T : Type 0} → (Data → Option T) → List Data → Option (List T)
all f ds = all_numbered (λ k. f) ds

-- The meanings of the values of a list, of which there are at most `limit`.
abbrev pub few : {T : Type 0} → ℕ → (ℕ → Data → Option T) → List Data → Option (List T)
few limit f ds = cond (nat_le (length ds) limit) (all_numbered f ds) None

-- The meanings of the values of the list at a key, of which there are at most `limit`; an absent key is an empty list.
abbrev pub few_at : {T : Type 0} → ℕ → List ℕ → (ℕ → Data → Option T) → Members → Option (List T)
few_at limit key f ms = given (list_at key ms) (few limit f)

-- The next result, or the error of the first.
abbrev pub after : {T U E : Type 0} → Result T E → (T → Result U E) → Result U E
after (Ok x) next = next x
after (Err e) next = Err e

-- The error of an invalid entry: its part, and its number from 1, at most 4294967295.
abbrev pub numbered : {T : Type 0} → Part → Result (List T) ℕ → Result (List T) Error
numbered p (Ok xs) = Ok xs
numbered p (Err k) = Err (BadFile p (min (k + 1) 4294967295))

-- The meanings of a part's entries, which are numbered from 1, or the error of the first invalid one.
abbrev pub part : {T : Type 0} → Part → (ℕ → Data → Option T) → List Data → Result (List T) Error
part p f ds = numbered p (each f ds)

-- The meanings of the entries of a part with a limit, or the error of the first invalid one; the entry after the limit
-- is invalid whatever it is.
abbrev pub part_up_to : {T : Type 0} → ℕ → Part → (ℕ → Data → Option T) → List Data → Result (List T) Error
part_up_to limit p f ds =
    after (part p f (take limit ds)) (λ xs. cond (nat_le (length ds) limit) (Ok xs) (Err (BadFile p (limit + 1))))

-- The value at a key of the top level is a list, or the key is absent.
abbrev pub is_listed : List ℕ → Members → Bool
is_listed key ms = is_some (list_at key ms)

-- The entries at a key of the top level.
abbrev pub entries_at : List ℕ → Members → List Data
entries_at key ms = unwrap_or (list_at key ms) []
