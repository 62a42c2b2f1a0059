-- What a trace of a script over an image wrote.
use Rattle.std.specs.Prelude.{◌≡◌, ◌++◌, ℕ, List, Option, IfSome}
use Rattle.std.specs.Io.KnownBytes.{Appends}
use Rattle.at_base.specs.Spelling.{Spells}
use Rattle.frozen.specs.Runs.{Running}
use Rattle.frozen_trace.specs.Captured.{HasTraced}
use Rattle.frozen_trace.specs.declared.trace.Traced.{Traced}
use Rattle.script.specs.Scripts.{IsScript}
use Rattle.script.specs.declared.step.Step.{Step}
use Rattle.table_image.specs.Internet.{Internet}
use Rattle.table_image.specs.Spelling.{image_spelling}

-- The bytes of the image and the text of the script, where they are known, spell an internet and steps; the text that these
-- steps leave over it was written, after the text that was left, and this is what they leave.
abbrev pub IsTraceOf : Option (List ℕ) → Option (List ℕ) → Traced Running → Option (List ℕ) → List ℕ → Option (List ℕ) → Type 0
IsTraceOf image script traced before left after =
    (i : Internet) × (steps : List Step) × (lines : List ℕ) × IfSome image (λ bytes. Spells image_spelling bytes i)
    × IfSome script (λ text. IsScript text steps) × HasTraced i steps lines traced × Appends before after (left ++ lines)
