-- Scripts: one step in each line.
use Rattle.std.specs.Prelude.{◌≡◌, ℕ, ◌+◌, Bool, false, not, ◌&&◌, ◌==◌, List, ◌∷◌, ◌++◌, Some, IsSome, filter, map, min, is_none, position}
use Rattle.std.specs.List.{All, slice_split}
use Rattle.script.specs.Lines.{is_skipped, step}
use Rattle.script.specs.declared.step.Step.{Step}

-- The lines of a text, each of which ends with a line feed; the last may lack it.
abbrev pub lines : List ℕ → List (List ℕ)
lines text = slice_split (λ b. b == 10) text

-- The line is bad: it isn't skipped and has no valid step.
abbrev pub is_bad : List ℕ → Bool
is_bad line = not (is_skipped line) && is_none (step line)

-- The lines that aren't skipped.
abbrev pub telling : List ℕ → List (List ℕ)
telling text = filter (λ line. not (is_skipped line)) (lines text)

-- The text is a script with these steps: they are the steps of the lines that aren't skipped, in order.
abbrev pub IsScript : List ℕ → List Step → Type 0
IsScript text steps = map step (telling text) ≡ map Some steps

-- n is the number of the first bad line, from 1, at most 2^32 - 1.
abbrev pub IsBadAt : List ℕ → ℕ → Type 0
IsBadAt text n = (k : ℕ) × (position is_bad (lines text) ≡ Some k) × (n ≡ min (k + 1) 4294967295)

-- One of the lines has a step, and no line before it is bad.
pub record ReachesStep (text : List ℕ) : Type 0 where
  pub before : List (List ℕ)
  pub line : List ℕ
  pub after : List (List ℕ)
  pub whole : lines text ≡ before ++ line ∷ after
  pub good : All (λ l. is_bad l ≡ false) before
  pub told : is_skipped line ≡ false
  pub has : IsSome (step line)
