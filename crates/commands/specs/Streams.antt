-- What a call read of its inputs, and why it has no answer. Of an input `before` and `after` are the bytes that are left of
-- it, where they are known, before and after the call.
use Rattle.std.specs.Prelude.{◌≡◌, ◌≢◌, ◌⊎◌, ◌++◌, ◌≤◌, false, ℕ, List, Option, Result, IfErr, IfSome, IsErrAnd, IsSome, IsSomeAnd, OnOk, length}
use Rattle.std.specs.Io.KnownBytes.{Consumes, IsAtEnd}
use Rattle.at_base.specs.Spelling.{Spells}
use Rattle.at_base.specs.declared.error.Error.{Error}
use Rattle.at_base.specs.declared.error.Error.TheVariants.{BadFile, BadScript, Full, Memory, ReadFault, WriteFault}
use Rattle.at_base.specs.declared.error.Part.TheVariants.{Text}
use Rattle.at_base.specs.declared.error.Part.{Part}
use Rattle.commands.specs.declared.refused.Origin.TheVariants as origin
use Rattle.commands.specs.declared.refused.Refused.{Refused}
use Rattle.file_entries.specs.Texts.{may_begin}
use Rattle.image_feed.specs.Feeds.{cut_at}
use Rattle.image_feed.specs.declared.feed.TheConstants.{MAX_PIECE}
use Rattle.internet_file.specs.Files.{IsFile, IsFileRefused, Planned}
use Rattle.playing.specs.Lives.{Fills, Outgrows}
use Rattle.script.specs.Scripts.{IsBadAt, IsScript}
use Rattle.script.specs.declared.step.Step.{Step}
use Rattle.table_image.specs.Internet.{Internet}
use Rattle.table_image.specs.Reading.{IsFirstFlaw, RefusesFirst, refusal}
use Rattle.table_image.specs.Spelling.{image_spelling}
use Rattle.table_image.specs.declared.flaw.Flaw.{Flaw}
use Rattle.table_image.specs.declared.version.Version.{Version}
use Rattle.tables_file.specs.Files.{AreRefused, AreTables}

-- the greatest number of reads of one input
abbrev pub most_reads : ℕ
most_reads = 16777216

-- What a refusal tells of the reads of an input: ReadFault has the reason of a read that failed, or the input didn't end in so
-- many reads; and no other error has a reason.
pub record IsTold (most : ℕ) (r : Refused) : Type 0 where
  pub why : r.error ≡ ReadFault → IsSome r.reason ⊎ (r.reads ≡ most)
  pub only : IsSome r.reason → r.error ≡ ReadFault

-- The text is what was left of the input, where that is known.
abbrev pub IsTextOf : Option (List ℕ) → List ℕ → Type 0
IsTextOf before text = IfSome before (λ bytes. bytes ≡ text)

-- A text that is refused as a file is this one.
abbrev pub Has : List ℕ → Refused → Type 0
Has text r = (part : Part) (n : ℕ) → r.error ≡ BadFile part n → IsSomeAnd r.file (λ f. f.text.items ≡ text)

-- A text that is refused as a file comes back, as far as it was read.
abbrev pub IsBack : Option (List ℕ) → Option (List ℕ) → Refused → Type 0
IsBack before after r = (part : Part) (n : ℕ) → r.error ≡ BadFile part n → IsSomeAnd r.file (λ f. Consumes before after f.text.items)

-- A text can't be read to its end: a read failed, memory ran out, or no text in TOML begins as it does.
abbrev pub IsUnread : ℕ → Option (List ℕ) → Option (List ℕ) → Refused → Type 0
IsUnread most before after r =
    IsTold most r × IsBack before after r × ((r.error ≡ ReadFault) ⊎ (r.error ≡ Memory) ⊎ ((text : List ℕ) × IsTextOf before text
    × ((r.error ≡ BadFile Text 0) × (may_begin text ≡ false))))

-- ---- Images

-- The bytes have no flaw, except that they may end too early.
abbrev pub IsUnflawed : List ℕ → Type 0
IsUnflawed bytes = (f : Flaw) → IsFirstFlaw bytes f → f ≡ cut_at (length bytes)

-- What reading an image may be refused for: a failed read, no memory, or the first flaw of some bytes.
abbrev pub IsImageRefused : Error → Type 0
IsImageRefused e = (e ≡ ReadFault) ⊎ (e ≡ Memory) ⊎ ((bytes : List ℕ) × RefusesFirst bytes e)

-- Bytes that spell no image have the error of their first flaw, and bytes that spell one have none of its kind. After Ok the
-- image was read to its end. A failed read is told, and is the error only where what was read before has no flaw; no more is
-- read than the piece that has the first flaw.
pub record ReadsImage {A : Type 0} (before after : Option (List ℕ)) (result : Result A Refused) : Type 0 where
  pub end : OnOk result (IsAtEnd after)
  pub flaw : IfSome before (λ bytes. (f : Flaw) → IsFirstFlaw bytes f → IsErrAnd result (λ r.
      (r.error ≡ refusal f) ⊎ (r.error ≡ ReadFault) ⊎ (r.error ≡ Memory)))
  pub spelled : IfSome before (λ bytes. (i : Internet) → Spells image_spelling bytes i → IfErr result (λ r.
      (f : Flaw) → r.error ≢ refusal f))
  pub told : IfErr result (IsTold most_reads)
  pub unflawed : IfErr result (λ r. r.error ≡ ReadFault → r.origin ≡ origin.Input
      → (got : List ℕ) × IsUnflawed got × Consumes before after got)
  pub no_more : (got piece : List ℕ) × IsUnflawed got × (length piece ≤ MAX_PIECE) × Consumes before after (got ++ piece)

-- ---- Scripts

-- What reading a script may be refused for: a failed read, no memory, or the first bad line of some text.
abbrev pub IsScriptRefused : Error → Type 0
IsScriptRefused e = (e ≡ ReadFault) ⊎ (e ≡ Memory) ⊎ ((text : List ℕ) × (n : ℕ) × (e ≡ BadScript n) × IsBadAt text n)

-- If the image's bytes spell one, a script with a bad line has the error of its first bad line, and a script without has
-- none of its kind. After Ok it was read to its end. It isn't touched before the image was read to its end, nor unless its
-- bytes spell one, so that the first flaw of an image comes first.
pub record ReadsScript {A : Type 0} (image image_after script script_after : Option (List ℕ)) (Untouched : Type 0)
    (result : Result A Refused) : Type 0 where
  pub end : OnOk result (IsAtEnd script_after)
  pub bad_line : IfSome image (λ bytes. IfSome script (λ text. (i : Internet) (n : ℕ) → Spells image_spelling bytes i
      → IsBadAt text n → IsErrAnd result (λ r. (r.error ≡ BadScript n) ⊎ (r.error ≡ ReadFault) ⊎ (r.error ≡ Memory))))
  pub good : IfSome image (λ bytes. IfSome script (λ text. (i : Internet) (steps : List Step) → Spells image_spelling bytes i
      → IsScript text steps → IfErr result (λ r. (r.error ≡ Memory) ⊎ (r.error ≡ ReadFault) ⊎ (r.error ≡ WriteFault))))
  pub in_order : Untouched ⊎ (IsAtEnd image_after × IfSome image (λ bytes. (i : Internet) × Spells image_spelling bytes i))
  pub image_first : IfSome image (λ bytes. (f : Flaw) → IsFirstFlaw bytes f → Untouched)
  pub of_script : IfErr result (λ r. r.origin ≡ origin.Script
      → IsAtEnd image_after × IfSome image (λ bytes. (i : Internet) × Spells image_spelling bytes i))

-- ---- Files

-- Why an internet file isn't played: it can't be read; its text is no file, with its first fault; or the play of its plan
-- has no room or no memory, or can't be written.
abbrev pub IsUnplayed : Option (List ℕ) → Option (List ℕ) → Refused → Type 0
IsUnplayed before after r =
    IsTold most_reads r × IsBack before after r × ((r.error ≡ ReadFault) ⊎ (r.error ≡ Memory) ⊎ ((text : List ℕ) × IsTextOf before text
    × (IsFileRefused text r.error
    ⊎ (((plan : Planned) × IsFile text plan) × ((r.error ≡ Full) ⊎ (r.error ≡ Memory) ⊎ (r.error ≡ WriteFault))))))

-- A play is full: one of the plan's ticks has no room, or version 1 is asked for and the tables need version 2.
abbrev pub IsFull : Option Version → Option (List ℕ) → Type 0
IsFull version before =
    (text : List ℕ) × IsTextOf before text × ((plan : Planned) × IsFile text plan × (Fills plan ⊎ Outgrows version plan))

-- Why no image is made of a tables file: it can't be read, its text is none, with its first fault, or the image of its
-- tables can't be written.
abbrev pub IsUnmade : Option (List ℕ) → Option (List ℕ) → Refused → Type 0
IsUnmade before after r =
    IsTold most_reads r × IsBack before after r × ((r.error ≡ ReadFault) ⊎ (r.error ≡ Memory) ⊎ ((text : List ℕ) × IsTextOf before text
    × (AreRefused text r.error ⊎ (((i : Internet) × AreTables text i) × (r.error ≡ WriteFault)))))
