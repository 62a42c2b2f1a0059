-- The words of what a yes promises of a run, over an image of either version.
use Rattle.std.specs.Prelude.{◌≡◌, ◌≢◌, ℕ, cond, List}
use Rattle.cable_model.specs.Transcript.{count}
use Rattle.frozen.specs.Runs.{Running, transcript}
use Rattle.legal_runs.specs.Counts.{reached, sent}
use Rattle.legal_runs.specs.Lookups.{asked, lookups}
use Rattle.legal_runs.specs.Requests.{is_among, listing, zone_of}
use Rattle.resolved_runs.specs.AskedFor.{heard}
use Rattle.resolved_runs.specs.Lossless.{is_loss}

-- Nothing was lost: the transcript has no Lost entry.
abbrev pub IsLossless : Running → Type 0
IsLossless r = count is_loss (transcript r) ≡ 0

-- The datagram reached this cable as often as it was sent, and no other.
pub record HasReached (r : Running) (b : List ℕ) (cable : ℕ) : Type 0 where
  pub there : reached b cable (transcript r) ≡ sent b (transcript r)
  pub nowhere_else : (other : ℕ) → other ≢ cable → reached b other (transcript r) ≡ 0

-- The station took the datagram, in a frame to it alone, as often as it was sent.
abbrev pub WasHeardBy : Running → ℕ → List ℕ → Type 0
WasHeardBy r station b = heard r.internet station b (transcript r) ≡ sent b (transcript r)

-- Each broadcast request with this key that was sent has made one lookup on each cable that lists its zone, and none on any
-- other.
abbrev pub HasBeenLookedUp : Running → List ℕ → Type 0
HasBeenLookedUp r k =
    (cable : ℕ) → lookups r.internet k cable (transcript r)
    ≡ cond (is_among cable (listing r.internet (zone_of k))) (asked r.internet k (transcript r)) 0
