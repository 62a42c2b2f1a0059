-- What a step of reading gives, and who is told.
use Rattle.std.specs.Prelude.{◌≡◌, ◌<◌, ◌≤◌, ℕ, List, [], ◌++◌, Option, Some, None, Result, Ok, Err, length}
use Rattle.std.specs.Borrow.{Bor}
use Rattle.pcapng.specs.Reads.{told}
use Rattle.pcapng.specs.Heads.{max_block}
use Rattle.pcapng.specs.Sections.{Section, Told}
use Rattle.pcapng.specs.declared.fault.Fault.{Fault}
use Rattle.capture_feed.specs.Stages.{Next, Stage, block_next, refuses, tells, waits}
use Rattle.capture_feed.specs.declared.passing.Passing.{Passing}
use Rattle.capture_feed.specs.declared.reading.Read.{Read}
use Rattle.capture_feed.specs.declared.taking.Taken.{Taken}

-- At least its last four bytes are left of a block that is passed over.
abbrev pub HasLast : Option Passing → Type 0
HasLast None = Unit {0}
HasLast (Some p) = 4 ≤ p.left

-- The block that was read, if one was, is what comes next; else the section is as before.
abbrev pub IsNext : Result (Option Read) Fault → Section → Section → Next → Type 0
IsNext (Ok (Some r)) s new n = (n ≡ tells (told r.block) (record { section = new; passing = r.passing }) r.rest.now) × HasLast r.passing
IsNext (Ok None) s new n = (n ≡ waits) × (new ≡ s)
IsNext (Err f) s new n = (n ≡ refuses f) × (new ≡ s)

-- Of all these bytes, k are kept, which reach no further than what is looked at of their block, and r are left, none where
-- k end within it.
pub record IsFilled (s : Section) (k r all : List ℕ) : Type 0 where
  pub same : k ++ r ≡ all
  pub told : (t : Told) (stage : Stage) (rest : List ℕ) → block_next s k ≡ tells t stage rest → rest ≡ []
  pub waits : block_next s k ≡ waits → r ≡ []

-- A block was told and the piece's rest is left, whatever follows the bytes; or they are kept, since they end within a
-- block; or what comes next is refused.
abbrev pub IsTaken : {L : Type 0} → (L → Told → L → Type 0) → Section → List ℕ → L → Result (Option (Option Passing × List ℕ)) Fault → Section → List ℕ
    → L → Type 0
IsTaken heard s bytes listener (Ok (Some r)) new kept after =
    (kept ≡ []) × HasLast r.0
    × ((t : Told) × ((more : List ℕ) → block_next s (bytes ++ more) ≡ tells t (record { section = new; passing = r.0 }) (r.1 ++ more)) × heard listener t after)
IsTaken heard s bytes listener (Ok None) new kept after =
    (new ≡ s) × (kept ≡ bytes) × (block_next s bytes ≡ waits) × (length kept < max_block) × (after ≡ listener)
IsTaken heard s bytes listener (Err f) new kept after =
    ((more : List ℕ) → block_next s (bytes ++ more) ≡ refuses f) × (after ≡ listener)

-- what was taken, seen as values
abbrev pub seen : Result (Option Taken) Fault → Result (Option (Option Passing × List ℕ)) Fault
seen (Ok (Some t)) = Ok (Some (t.passing, t.rest.now))
seen (Ok None) = Ok None
seen (Err f) = Err f

-- what is left of a piece, seen as its bytes
abbrev pub left_of : {E : Type 0} → Result (Option (Bor (List ℕ))) E → Result (Option (List ℕ)) E
left_of (Ok (Some rest)) = Ok (Some rest.now)
left_of (Ok None) = Ok None
left_of (Err e) = Err e
