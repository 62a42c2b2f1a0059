-- Formats as data. A format is a tree of fields, each with its test; the fields after a field may depend on its value.
-- Other modules say once, for every format, which bytes a value has (Spelling), which fault comes first (FirstFault)
-- and what reading gives (Reading).
use Rattle.std.specs.Prelude.{ℕ, Bool, true, false, List, Option}
use Rattle.std.specs.Int.{Width, w8, w16}

-- the size of a number, in bytes
pub data Size : Type 0 where
  one : Size
  two : Size

-- the width of the numbers of a size
abbrev pub width : Size → Width
width one = w8
width two = w16

-- a field, which is a big-endian number or a run of a given number of bytes, with a test that gives what is wrong with
-- its value, if anything is
pub data Field (W : Type 0) : Type 0 → Type 1 where
  number : Size → (ℕ → Option W) → Field W ℕ
  run : ℕ → (List ℕ → Option W) → Field W (List ℕ)

-- A format of the values of A, where each part comes with the projection that gets it from the value; its Bool is true
-- if the format knows its own end, and false if it may go on to the end of the input; W describes what is wrong with a
-- field.
pub data Grammar (W : Type 0) : Bool → Type 0 → Type 1 where
  -- the end of the format, with its value
  done : {s : Bool} {A : Type 0} → A → Grammar W s A
  -- a field, and the format after it
  field : {s : Bool} {A V : Type 0} → Field W V → (A → V) → (V → Grammar W s A) → Grammar W s A
  -- a whole format, and the format after it
  part : {s : Bool} {A B : Type 0} → Grammar W true B → (A → B) → (B → Grammar W s A) → Grammar W s A
  -- a given number of items, each of which may depend on a number that the one before it gives, and the format after
  -- them
  list : {s : Bool} {A B : Type 0} → (ℕ → Grammar W true B) → (B → ℕ) → ℕ → (A → List B) → (List B → Grammar W s A) → Grammar W s A
  -- a format that needs at least this many bytes of input at its start
  room : {s : Bool} {A : Type 0} → ℕ → Grammar W s A → Grammar W s A
  -- a format that allows at most this many bytes of input at its start; with more, this is wrong
  limit : {A : Type 0} → ℕ → W → Grammar W false A → Grammar W false A
  -- items up to the end of the input, a test of all of them together, and the value made of them
  many : {A B : Type 0} → (ℕ → Grammar W true B) → (B → ℕ) → (List B → Option W) → (A → List B) → (List B → A) → Grammar W false A

-- The refusals of a reader: `cut` where the input ends within a field, and `placed` for a wrong field, given the number
-- of input bytes left from the field's first byte on.
pub record Refusals (W E : Type 0) : Type 0 where
  pub cut : E
  pub placed : ℕ → W → E
