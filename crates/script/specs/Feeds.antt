-- Scripts that come in pieces: what a feed has read of the text that was fed.
use Rattle.std.specs.Prelude.{◌≡◌, ◌⊎◌, ℕ, ◌+◌, Bool, true, false, not, ◌||◌, ◌==◌, List, [], ◌∷◌, ◌++◌}
use Rattle.std.specs.Prelude.{Option, Some, None, codes, filter, length, map, min}
use Rattle.std.specs.List.{All, starts_with}
use Rattle.at_base.specs.declared.error.Error.{Error}
use Rattle.at_base.specs.declared.error.Error.TheVariants.{BadScript, Memory}
use Rattle.script.specs.Lines.{is_skipped, step}
use Rattle.script.specs.Scripts.{IsBadAt, is_bad, lines}
use Rattle.script.specs.declared.open_line.OpenLine.{OpenLine}
use Rattle.script.specs.declared.reader.Reader.{Reader}

-- One of the texts begins with the other.
abbrev pub agree : List ℕ → List ℕ → Bool
agree a b = starts_with (λ x y. x == y) a b || starts_with (λ x y. x == y) b a

-- A line that begins so may have a step: its first word is a command, or may become one.
abbrev pub may_tell : List ℕ → Bool
may_tell line = agree line (codes "send ") || agree line (codes "request ") || agree line (codes "take ") || agree line (codes "drain ")

-- The line is a comment.
abbrev pub is_comment : List ℕ → Bool
is_comment [] = false
is_comment (b ∷ bs) = b == 35

-- n is the number of the first bad line, whatever follows the text.
abbrev pub IsBadFrom : List ℕ → ℕ → Type 0
IsBadFrom text n = (rest : List ℕ) → IsBadAt (text ++ rest) n

-- The text is refused for its first bad line, whatever follows it, or for want of memory.
abbrev pub IsRefused : Error → List ℕ → Type 0
IsRefused e text = ((n : ℕ) × (e ≡ BadScript n) × IsBadFrom text n) ⊎ (e ≡ Memory)

-- The number of the line after those that were read.
abbrev pub next_number : Reader → ℕ
next_number r = min (r.lines + 1) 4294967295

-- A reader that has read these lines: it has their steps and their number, and none of them is bad.
pub record HasLines (r : Reader) (done : List (List ℕ)) : Type 0 where
  pub said : map step (filter (λ line. not (is_skipped line)) done) ≡ map Some r.steps.items
  pub fine : All (λ line. is_bad line ≡ false) done
  pub counted : r.lines ≡ min (length done) 4294967295

-- What is kept of a line that hasn't ended: nothing of a comment; else the whole, which may have a step.
abbrev pub IsKept : Bool → List ℕ → List ℕ → Type 0
IsKept true kept line = (kept ≡ []) × (is_comment line ≡ true)
IsKept false kept line = (kept ≡ line) × (may_tell line ≡ true)

-- The line that hasn't ended begins so.
abbrev pub IsOpen : OpenLine → List ℕ → Type 0
IsOpen open_line line = IsKept open_line.comment open_line.kept.items line

-- Reading goes on: the lines that ended were read, and the last one is open.
pub record GoesOn (r : Reader) (open_line : OpenLine) (text : List ℕ) : Type 0 where
  pub done : List (List ℕ)
  pub last : List ℕ
  pub whole : lines text ≡ done ++ last ∷ []
  pub read : HasLines r done
  pub kept : IsOpen open_line last

-- A feed: the lines that ended, the line that hasn't, and the refusal.
pub record Fed : Type 0 where
  pub reader : Reader
  pub open_line : OpenLine
  pub refused : Option Error

-- what a feed with this refusal has to do with the text that was fed
abbrev pub Stands : Option Error → Fed → List ℕ → Type 0
Stands None feed text = GoesOn feed.reader feed.open_line text
Stands (Some e) feed text = IsRefused e text

-- All that was fed is this text.
abbrev pub HasRead : Fed → List ℕ → Type 0
HasRead feed text = Stands feed.refused feed text
