-- Whole images: the bytes that spell one, and the first flaw of other bytes.
use Rattle.std.specs.Prelude.{◌≡◌, ◌≢◌, ℕ, ◌⊎◌, List, [], ◌++◌, length, Result, Ok, Err, ◌==◌, if◌then◌else◌}
use Rattle.at_base.specs.declared.error.Cause.TheVariants.{Trailing}
use Rattle.at_base.specs.declared.error.Error.{Error}
use Rattle.at_base.specs.declared.error.Error.TheVariants.{BadImage, Memory}
use Rattle.at_base.specs.Spelling.{bytes_of, IsValue, Spells}
use Rattle.at_base.specs.FirstFault.{FirstFault}
use Rattle.at_base.specs.Reading.{◌>>=◌, read}
use Rattle.table_image.specs.Internet.{Internet}
use Rattle.table_image.specs.Flaws.{Here, fault_of, faults, flaw_after}
use Rattle.table_image.specs.Spelling.{image_spelling}
use Rattle.table_image.specs.declared.flaw.Fault.{Fault}
use Rattle.table_image.specs.declared.flaw.Flaw.{Flaw}

-- the result of reading an image that goes up to the end of the bytes
unfoldable pub image_at : List ℕ → Result Internet Fault
image_at bytes = read faults image_spelling bytes >>= λ x. if length x.1 == 0 then Ok x.0 else Err (fault_of (length x.1) (Here Trailing))

-- f is the first fault of the bytes: one of a field, or bytes after a whole image
abbrev pub IsFirstFault : List ℕ → Fault → Type 0
IsFirstFault bytes f =
    FirstFault faults image_spelling bytes f
    ⊎ ((x : Internet) × (rest : List ℕ) × (bytes ≡ bytes_of image_spelling x ++ rest) × IsValue image_spelling x × (rest ≢ []) × (f
    ≡ fault_of (length rest) (Here Trailing)))

-- f is the first flaw of the bytes: their first fault, with its offset from the first byte
unfoldable pub IsFirstFlaw : List ℕ → Flaw → Type 0
IsFirstFlaw bytes f = (found : Fault) × IsFirstFault bytes found × (f ≡ flaw_after (length bytes) found)

-- the error that reports a flaw
abbrev pub refusal : Flaw → Error
refusal f = BadImage f.place f.cause

-- the error reports the first flaw of the bytes
abbrev pub RefusesFirst : List ℕ → Error → Type 0
RefusesFirst bytes e = (f : Flaw) × IsFirstFlaw bytes f × (e ≡ refusal f)

-- the error reports a failed allocation, where the bytes spell an image, or else their first flaw
abbrev pub Refuses : List ℕ → Error → Type 0
Refuses bytes e = ((e ≡ Memory) × (x : Internet) × Spells image_spelling bytes x) ⊎ RefusesFirst bytes e
