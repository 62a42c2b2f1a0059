-- How often a datagram is under way, waiting or lost where stations hold datagrams.
use Rattle.std.specs.Prelude.{ℕ, ◌+◌, Bool, not, ◌&&◌, List, is_some}
use Rattle.std.specs.List.{list_any}
use Rattle.at_base.specs.Address.{same_address}
use Rattle.at_base.specs.Text.{same_bytes}
use Rattle.ddp.specs.Bodies.{body, target}
use Rattle.table_image.specs.Internet.{Internet}
use Rattle.table_image.specs.Seats.{seat_at}
use Rattle.audit.specs.Routing.{owner}
use Rattle.cable_model.specs.Holdings.{holds, still_held}
use Rattle.cable_model.specs.Transcript.{Entry, Holding, count}
use Rattle.legal_runs.specs.Counts.{under_way}
use Rattle.legal_runs.specs.LossCounts.{is_lost}
use Rattle.legal_runs.specs.Lookups.{asks, forwards, seeks, waiting}

-- The datagram is held for a router that it isn't addressed to.
abbrev pub is_held_copy : Internet → Holding → Bool
is_held_copy i h = is_some (owner i h.cable h.next) && not (same_address h.next (target h.bytes))

-- A copy of this body is held for a router.
abbrev pub holds_copy : Internet → List ℕ → Holding → Bool
holds_copy i b h = is_held_copy i h && same_bytes b (body h.bytes)

-- How many copies of the body are under way: in frames, or held for a router.
abbrev pub under_way_or_held : Internet → List ℕ → List Entry → ℕ
under_way_or_held i b t = under_way i b t + count (holds_copy i b) (still_held t)

-- A forward request with this key to the cable is held for a router.
abbrev pub holds_forward : Internet → List ℕ → ℕ → Holding → Bool
holds_forward i k c h = is_held_copy i h && seeks i k c (body h.bytes)

-- How many forward requests with this key are under way to the cable: in frames, or held for a router.
abbrev pub forwards_or_held : Internet → List ℕ → ℕ → List Entry → ℕ
forwards_or_held i k c t = forwards i k c t + count (holds_forward i k c) (still_held t)

-- A broadcast request with this key is held for a station.
abbrev pub holds_request : Internet → List ℕ → Holding → Bool
holds_request i k h = is_some (seat_at i h.cable h.next) && asks i k (body h.bytes)

-- How many broadcast requests with this key are in pending frames, or held for a station.
abbrev pub waiting_or_held : Internet → List ℕ → List Entry → ℕ
waiting_or_held i k t = waiting i k t + count (holds_request i k) (still_held t)

-- The held datagram was given up.
abbrev pub was_given_up : List Entry → Holding → Bool
was_given_up t h = list_any (is_lost h.stamp) t

-- How many copies of the body were given up while they were held for a router.
abbrev pub given_up : Internet → List ℕ → List Entry → ℕ
given_up i b t = count (λ h. was_given_up t h && holds_copy i b h) (holds t)

-- How many broadcast requests with this key were given up while they were held for a station.
abbrev pub given_up_requests : Internet → List ℕ → List Entry → ℕ
given_up_requests i k t = count (λ h. was_given_up t h && holds_request i k h) (holds t)

-- How many forward requests with this key to the cable were given up while they were held for a router.
abbrev pub given_up_forwards : Internet → List ℕ → ℕ → List Entry → ℕ
given_up_forwards i k c t = count (λ h. was_given_up t h && holds_forward i k c h) (holds t)
