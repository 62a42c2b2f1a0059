-- Images that come in pieces: what a feed has read of the bytes that were fed.
use Rattle.std.specs.Prelude.{◌≡◌, ◌⊎◌, ℕ, ◌<◌, List, [], ◌++◌, slice_index_or, true, length, Option, Some, None}
use Rattle.at_base.specs.declared.error.Cause.TheVariants.{Cut}
use Rattle.at_base.specs.declared.error.Error.{Error}
use Rattle.at_base.specs.declared.error.Error.TheVariants.{Memory}
use Rattle.at_base.specs.Spelling.{Spells}
use Rattle.table_image.specs.Internet.{Internet}
use Rattle.table_image.specs.Reading.{image_at, IsFirstFlaw, refusal, RefusesFirst}
use Rattle.table_image.specs.Spelling.{image_spelling}
use Rattle.table_image.specs.declared.flaw.Flaw.{Flaw}
use Rattle.image_feed.specs.declared.tables.Tables.{Tables}
use Rattle.image_feed.specs.Growing.{IsCut, Leads}
use Rattle.image_feed.specs.Tables.{is_whole, tables_on}

-- A feed: the tables that were read, the bytes that were kept, the number of bytes that were fed, and the refusal.
pub record Fed : Type 0 where
  pub tables : Tables
  pub kept : List ℕ
  pub fed : ℕ
  pub refused : Option Error

-- each is a byte
abbrev pub AreBytes : List ℕ → Type 0
AreBytes all = (i : ℕ) → slice_index_or all i 0 < 256

-- the flaw of bytes that end within a field, so many in all
abbrev pub cut_at : ℕ → Flaw
cut_at n = record { place = n; cause = Cut }

-- Either all tables were read, and nothing was kept, or what was kept ends within a field.
abbrev pub Waits : Tables → List ℕ → Type 0
Waits tables kept = ((is_whole tables ≡ true) × (kept ≡ [])) ⊎ IsCut (tables_on tables) kept

-- Reading goes on: whatever follows the bytes, reading them gives what the tables that were read, and the bytes that were
-- kept, give of it.
pub record GoesOn (feed : Fed) (all : List ℕ) : Type 0 where
  pub fed : feed.fed ≡ length all
  pub leads : Leads image_at all (tables_on feed.tables) feed.kept
  pub waits : Waits feed.tables feed.kept

-- The bytes spell no image, and the error is the refusal of their first flaw.
pub record IsFlawed (e : Error) (bytes : List ℕ) : Type 0 where
  pub first : (f : Flaw) → IsFirstFlaw bytes f → e ≡ refusal f
  pub none : (i : Internet) → Spells image_spelling bytes i → ⊥

-- The refusal is want of memory, or that of the first flaw of the bytes, whatever follows them.
pub record Refuses (e : Error) (all : List ℕ) : Type 0 where
  pub found : (more : List ℕ) → AreBytes more → RefusesFirst (all ++ more) e
  pub flawed : (more : List ℕ) → IsFlawed e (all ++ more)

-- A feed to which all these bytes were fed has this refusal: want of memory, or that of their first flaw.
abbrev pub IsRefused : Error → List ℕ → Type 0
IsRefused e all = (e ≡ Memory) ⊎ Refuses e all

-- what a feed with this refusal has to do with the bytes that were fed
abbrev pub Stands : Option Error → Fed → List ℕ → Type 0
Stands None feed all = GoesOn feed all
Stands (Some e) feed all = IsRefused e all

-- All that was fed are these bytes.
pub record HasRead (feed : Fed) (all : List ℕ) : Type 0 where
  pub bytes : AreBytes all
  pub stands : Stands feed.refused feed all
