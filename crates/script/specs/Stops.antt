-- Where reading lines goes to, and where it stops.
use Rattle.std.specs.Prelude.{◌≡◌, ◌⊎◌, ℕ, ◌+◌, Bool, true, false, List, [], ◌∷◌, ◌++◌, IsSome, length, min}
use Rattle.std.specs.List.{All}
use Rattle.at_base.specs.declared.error.Error.{Error}
use Rattle.at_base.specs.declared.error.Error.TheVariants.{BadScript, Memory}
use Rattle.script.specs.Lines.{is_skipped, step}
use Rattle.script.specs.Scripts.{is_bad, lines}
use Rattle.script.specs.Feeds.{HasLines, IsOpen, may_tell}
use Rattle.script.specs.declared.open_line.OpenLine.{OpenLine}
use Rattle.script.specs.declared.reader.Reader.{Reader}

-- Reading stops at the line after these: it has a step and there is no memory, or it is bad.
abbrev pub StopsAt : List (List ℕ) → List ℕ → Error → Type 0
StopsAt done line e =
    ((e ≡ Memory) × (is_skipped line ≡ false) × IsSome (step line))
    ⊎ ((e ≡ BadScript (min (length done + 1) 4294967295)) × (is_bad line ≡ true))

-- After these lines, those that end in the text were read, and the last one is open.
pub record ReadsTo (r : Reader) (done : List (List ℕ)) (text last : List ℕ) : Type 0 where
  pub more : List (List ℕ)
  pub whole : lines text ≡ more ++ last ∷ []
  pub read : HasLines r (done ++ more)

-- After these lines, reading stops at one that ends in the text.
pub record StopsIn (done : List (List ℕ)) (text : List ℕ) (e : Error) : Type 0 where
  pub before : List (List ℕ)
  pub line : List ℕ
  pub next : List ℕ
  pub after : List (List ℕ)
  pub whole : lines text ≡ before ++ line ∷ next ∷ after
  pub fine : All (λ l. is_bad l ≡ false) (done ++ before)
  pub stops : StopsAt (done ++ before) line e

-- A line that begins so is bad, whatever follows.
pub record IsHopeless (line : List ℕ) : Type 0 where
  pub told : is_skipped line ≡ false
  pub none : may_tell line ≡ false

-- What an open line is after more bytes: open, or bad whatever follows.
abbrev pub Extends : Bool → OpenLine → List ℕ → Type 0
Extends true open_line line = IsOpen open_line line
Extends false open_line line = IsHopeless line
