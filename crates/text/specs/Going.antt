-- Text that is buffered and then written.
use Rattle.std.specs.Prelude.{◌≡◌, ℕ, List, ◌++◌, Option}
use Rattle.std.specs.Io.KnownBytes.{Appends}

-- Text was added to a buffer: a front of the old and the added text was written, and the rest of it is still buffered.
pub record Goes (old : Option (List ℕ)) (left : List ℕ) (more : List ℕ) (new : Option (List ℕ)) (kept : List ℕ) : Type 0 where
  pub gone : List ℕ
  pub went : Appends old new gone
  pub rest : gone ++ kept ≡ left ++ more
