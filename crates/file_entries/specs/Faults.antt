-- The first fault of a file, and what notes change.
use Rattle.std.specs.Prelude.{◌≡◌, ℕ, ◌+◌, Bool, true, false, List, Option, Some, None, Result, Ok, Err, min}
use Rattle.at_base.specs.declared.error.Error.{Error}
use Rattle.at_base.specs.declared.error.Error.TheVariants.{BadFile}
use Rattle.at_base.specs.declared.error.Part.{Part}
use Rattle.at_base.specs.declared.error.Part.TheVariants.{Text}
use Rattle.file_entries.specs.declared.place.Items.{Items}
use Rattle.file_entries.specs.declared.place.Items.TheVariants.{Entries, Tables, Values}
use Rattle.file_entries.specs.declared.place.Place.{Place}

-- The part and the number of the entry that a place is in.
abbrev pub spot : Place → Part × ℕ
spot p = (p.part, p.entry)

-- The entry that the item with this index is in: of a part the item itself.
abbrev pub spot_of : Items → Place → ℕ → Part × ℕ
spot_of Entries p k = (p.part, min (k + 1) 4294967295)
spot_of Tables p k = spot p
spot_of Values p k = spot p

-- The entry of the first fault, after something in this entry was read that is valid or not.
abbrev pub noted : Part × ℕ → Bool → Option (Part × ℕ) → Option (Part × ℕ)
noted s true first = first
noted s false None = Some s
noted s false (Some t) = Some t

-- The same after a list was read, whose first invalid item has this index, if there is one.
abbrev pub noted_in : (ℕ → Part × ℕ) → Option ℕ → Option (Part × ℕ) → Option (Part × ℕ)
noted_in spots None first = first
noted_in spots (Some k) first = noted (spots k) false first

-- The same after a part was read, whose first invalid entry has this number, if there is one.
abbrev pub blamed : Part → Option ℕ → Option (Part × ℕ) → Option (Part × ℕ)
blamed p None first = first
blamed p (Some k) first = noted (p, k) false first

-- The items of a list, or the index of its first invalid one.
abbrev pub outcome : {T : Type 0} → Option ℕ → List T → Result (List T) ℕ
outcome None xs = Ok xs
outcome (Some k) xs = Err k

-- The entries of a part, or the error of its first invalid one, which has this number.
abbrev pub part_outcome : {T : Type 0} → Part → Option ℕ → List T → Result (List T) Error
part_outcome p None xs = Ok xs
part_outcome p (Some k) xs = Err (BadFile p k)

-- The first fault is in the entry that this error names, unless the error is that of a text that isn't TOML.
abbrev pub IsTold : Option (Part × ℕ) → Error → Type 0
IsTold first (BadFile Text k) = Unit {0}
IsTold first (BadFile p k) = first ≡ Some (p, k)
IsTold first _ = Unit {0}
