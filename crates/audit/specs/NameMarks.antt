-- The names that a filter has marked.
use Rattle.std.specs.Prelude.{◌≡◌, ℕ, ◌+◌, ◌*◌, ◌%◌, ◌^◌, List, Some, fold, slice_get, slice_index_or}
use Rattle.std.specs.Char.{to_ascii_lowercase}
use Rattle.audit.specs.declared.name_marks.NameMarks.{NameMarks}

-- a sum of the bytes of a name, ignoring case
abbrev pub name_sum : List ℕ → ℕ
name_sum name = fold (λ sum b. (((sum * 31) % 2 ^ 32) + to_ascii_lowercase b) % 2 ^ 32) 0 name

-- the index of the mark of a name
abbrev pub name_slot : List ℕ → ℕ
name_slot name = name_sum name % 16384

-- the mark with an index
abbrev pub mark_at : NameMarks → ℕ → ℕ
mark_at marks slot = slice_index_or marks.cables slot 0

-- each name has the mark of the cable
abbrev pub AreMarked : NameMarks → ℕ → List (List ℕ) → Type 0
AreMarked marks cable names = (k : ℕ) (name : List ℕ) → slice_get names k ≡ Some name → mark_at marks (name_slot name) ≡ cable

-- what had the mark of the cable still has it
abbrev pub KeepsMarks : ℕ → NameMarks → NameMarks → Type 0
KeepsMarks cable old new = (slot : ℕ) → mark_at old slot ≡ cable → mark_at new slot ≡ cable
