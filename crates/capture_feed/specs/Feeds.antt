-- Captures that come in pieces.
use Rattle.std.specs.Prelude.{◌≡◌, ℕ, List, [], ◌∷◌, ◌++◌, Option, Some, None, Result, Ok, Err}
use Rattle.at_base.specs.declared.error.Error.{Error}
use Rattle.at_base.specs.declared.error.Error.TheVariants.{BadCapture}
use Rattle.pcapng.specs.Sections.{Section, Told}
use Rattle.pcapng.specs.declared.fault.Fault.{Fault}
use Rattle.capture_feed.specs.Skipping.{KeepsLast}
use Rattle.capture_feed.specs.Stages.{Standing, block_next, coming, past, pending, refused, told, waits}
use Rattle.capture_feed.specs.declared.passing.Passing.{Passing}

-- A feed: where it stands, the bytes that were kept of what isn't whole, and the block that was refused, if one was.
pub record Fed : Type 0 where
  pub at : Standing
  pub kept : List ℕ
  pub refused : Option (ℕ × Fault)

-- What was kept ends within a block; of one that is passed over nothing is kept but of its last four bytes.
abbrev pub Keeps : Option Passing → Section → List ℕ → Type 0
Keeps None s kept = block_next s kept ≡ waits
Keeps (Some p) s kept = KeepsLast p kept

-- ---- a step

-- What is left of a long block was passed over, and this is left of the piece; or the bytes end within it; or its second
-- length is another.
abbrev pub IsPassed : Option Passing → List ℕ → Result (Option (List ℕ)) Fault → Option Passing → List ℕ → Type 0
IsPassed p bytes (Ok (Some rest)) new kept =
    (new ≡ None) × (kept ≡ [])
    × ((s : Section) (blocks : ℕ) (more : List ℕ) → past p s blocks (bytes ++ more) ≡ past None s blocks (rest ++ more))
IsPassed p bytes (Ok None) new kept =
    ((s : Section) (blocks : ℕ) (more : List ℕ) → past p s blocks (bytes ++ more) ≡ past new s blocks (kept ++ more))
    × ((s : Section) → Keeps new s kept) × ((s : Section) (blocks : ℕ) → past new s blocks kept ≡ pending)
IsPassed p bytes (Err f) new kept = (s : Section) (blocks : ℕ) (more : List ℕ) → past p s blocks (bytes ++ more) ≡ refused blocks f

-- The same of a feed: the capture goes on with what is left.
abbrev pub HasPassed : Standing → List ℕ → Result (Option (List ℕ)) (ℕ × Fault) → Standing → List ℕ → Type 0
HasPassed at bytes (Ok (Some rest)) new kept =
    (new.stage.passing ≡ None) × ((more : List ℕ) → coming at (bytes ++ more) ≡ coming new ((kept ++ rest) ++ more))
HasPassed at bytes (Ok None) new kept =
    ((more : List ℕ) → coming at (bytes ++ more) ≡ coming new (kept ++ more)) × (coming new kept ≡ pending)
HasPassed at bytes (Err f) new kept = (more : List ℕ) → coming at (bytes ++ more) ≡ refused f.0 f.1

-- A block was told, and this is left of the piece; or the bytes end within a block, and are kept; or a block is refused:
-- whatever follows the bytes.
abbrev pub IsStep : {L : Type 0} → (L → Told → L → Type 0) → Standing → List ℕ → L → Result (Option (List ℕ)) (ℕ × Fault) → Standing → List ℕ → L
    → Type 0
IsStep heard at bytes listener (Ok (Some rest)) new kept after =
    (kept ≡ []) × ((t : Told) × ((more : List ℕ) → coming at (bytes ++ more) ≡ told t new (rest ++ more)) × heard listener t after)
IsStep heard at bytes listener (Ok None) new kept after =
    ((more : List ℕ) → coming at (bytes ++ more) ≡ coming new (kept ++ more)) × (coming new kept ≡ pending) × (after ≡ listener)
IsStep heard at bytes listener (Err f) new kept after =
    ((more : List ℕ) → coming at (bytes ++ more) ≡ refused f.0 f.1) × (after ≡ listener)

-- ---- all of a piece

-- Whatever follows the bytes, reading them tells these blocks, one after the other, and goes on from there with what is
-- left.
abbrev pub Leads : Standing → List ℕ → List Told → Standing → List ℕ → Type 0
Leads at bytes [] new rest = (more : List ℕ) → coming at (bytes ++ more) ≡ coming new (rest ++ more)
Leads at bytes (t ∷ ts) new rest =
    (mid : Standing) × (left : List ℕ) × ((more : List ℕ) → coming at (bytes ++ more) ≡ told t mid (left ++ more)) × Leads mid left ts new rest

-- The listener heard these, one after the other.
abbrev pub HeardAll : {L : Type 0} → (L → Told → L → Type 0) → L → List Told → L → Type 0
HeardAll heard listener [] after = after ≡ listener
HeardAll {L} heard listener (t ∷ ts) after = (mid : L) × heard listener t mid × HeardAll heard mid ts after

-- The listener was told what the bytes tell, and the feed goes on with what is kept of them, which ends within a block; or
-- the block after that is refused, whatever follows.
abbrev pub IsFed : {L : Type 0} → (L → Told → L → Type 0) → Standing → List ℕ → L → Option (ℕ × Fault) → Standing → List ℕ → L → Type 0
IsFed heard at bytes listener None new kept after =
    ((ts : List Told) × Leads at bytes ts new kept × HeardAll heard listener ts after) × (coming new kept ≡ pending)
IsFed heard at bytes listener (Some f) new kept after =
    (ts : List Told) × (last : Standing) × (rest : List ℕ) × Leads at bytes ts last rest × HeardAll heard listener ts after
    × ((more : List ℕ) → coming last (rest ++ more) ≡ refused f.0 f.1)

-- the answer of a feed with this refusal
abbrev pub answer : Option (ℕ × Fault) → Result (Unit {0}) Error
answer None = Ok tt
answer (Some f) = Err (BadCapture f.0)
