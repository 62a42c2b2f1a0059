-- Texts of files in TOML, and what is read from them.
use Rattle.std.specs.Prelude.{◌≡◌, ◌⊎◌, List, Some, Result, Ok, Err, IsTrue, IsUtf8, ℕ}
use Rattle.toml.specs.Data.{Members}
use Rattle.toml.specs.Parse.{parse_document}
use Rattle.at_base.specs.declared.error.Error.{Error}
use Rattle.at_base.specs.declared.error.Error.TheVariants.{BadFile, Memory}
use Rattle.at_base.specs.declared.error.Part.TheVariants.{Text}
use Rattle.file_entries.specs.Texts.{may_begin}

-- The text is the TOML document with these members, and each of its bytes is one that a text in TOML has.
abbrev pub IsDocument : List ℕ → Members → Type 0
IsDocument text ms = IsTrue (may_begin text) × IsUtf8 text × (parse_document text ≡ Some ms)

-- The text is a document in which this is found.
abbrev pub IsRead : {T : Type 0} → (Members → Result T Error) → List ℕ → T → Type 0
IsRead found text x = (ms : Members) × IsDocument text ms × (found ms ≡ Ok x)

-- The error is that of a text that isn't TOML, or Memory.
abbrev pub IsNoText : List ℕ → Error → Type 0
IsNoText text e = ((e ≡ BadFile Text 0) × ((ms : Members) → IsDocument text ms → ⊥)) ⊎ (e ≡ Memory)

-- The error is that of a text that isn't TOML, or that of the document's first fault, or Memory.
abbrev pub IsRefused : {T : Type 0} → (Members → Result T Error) → List ℕ → Error → Type 0
IsRefused found text e =
    ((e ≡ BadFile Text 0) × ((ms : Members) → IsDocument text ms → ⊥))
    ⊎ ((ms : Members) × IsDocument text ms × (found ms ≡ Err e))
    ⊎ (e ≡ Memory)
