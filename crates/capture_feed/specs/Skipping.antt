-- What is skipped of a long block.
use Rattle.std.specs.Prelude.{◌≡◌, ◌<◌, ◌≤◌, ℕ, ◌+◌, List, [], ◌++◌, length}
use Rattle.capture_feed.specs.declared.passing.Passing.{Passing}

-- Of a block that is passed over nothing is kept but of its last four bytes.
pub record KeepsLast (p : Passing) (kept : List ℕ) : Type 0 where
  pub least : 4 ≤ p.left
  pub few : length kept < 4
  pub none : 4 < p.left → kept ≡ []

-- Some bytes of the piece were skipped, which come before the last four of the block: all, or all up to it.
pub record IsSkipped (before : Passing) (piece : List ℕ) (after : Passing) (rest : List ℕ) : Type 0 where
  pub skipped : List ℕ
  pub all : skipped ++ rest ≡ piece
  pub fewer : before.left ≡ after.left + length skipped
  pub least : 4 ≤ after.left
  pub same : before.last ≡ after.last
  pub goes : 4 < after.left → rest ≡ []
