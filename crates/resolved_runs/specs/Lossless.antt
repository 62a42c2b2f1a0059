-- What the counts of held datagrams are where nothing was lost.
use Rattle.std.specs.Prelude.{◌≡◌, ℕ, Bool, true, false, List}
use Rattle.table_image.specs.Internet.{Internet}
use Rattle.cable_model.specs.Transcript.{Entry, Lost}
use Rattle.resolved_runs.specs.AskedFor.{let_down}
use Rattle.resolved_runs.specs.HeldCounts.{given_up, given_up_forwards, given_up_requests}

-- The entry is a loss.
abbrev pub is_loss : Entry → Bool
is_loss (Lost stamp) = true
is_loss _ = false

-- Nothing was given up.
pub record IsNothingGivenUp (i : Internet) (t : List Entry) : Type 0 where
  pub copies : (b : List ℕ) → given_up i b t ≡ 0
  pub requests : (k : List ℕ) → given_up_requests i k t ≡ 0
  pub forwards : (k : List ℕ) (c : ℕ) → given_up_forwards i k c t ≡ 0
  pub bodies : (b : List ℕ) → let_down i b t ≡ 0
