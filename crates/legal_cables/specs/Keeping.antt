-- What live cables keep for the stations of an image: each seat knows the hardware addresses, and holds the datagrams, that its
-- station knows and holds on its cable after a transcript.
use Rattle.std.specs.Prelude.{◌≡◌, ◌≤◌, ◌∷◌, ℕ, List, Some, None, map, slice_get}
use Rattle.std.specs.Option.{option_or}
use Rattle.aarp.specs.Mapping.{Mappings, mapping_of}
use Rattle.at_base.specs.Address.{same_address}
use Rattle.at_base.specs.declared.address.Addr.{Addr}
use Rattle.table_image.specs.Internet.{Internet}
use Rattle.table_image.specs.Seats.{Seat as PlaceOf, seats}
use Rattle.cable_model.specs.Logs.{Adds}
use Rattle.cable_model.specs.Transcript.{Entry, Holding, Took, count}
use Rattle.legal_runs.specs.Stations.{cable_seats}
use Rattle.live_cables.specs.Finding.{Knowing}
use Rattle.live_cables.specs.Holding.{datagram}
use Rattle.live_cables.specs.Living.{Wires, happened, knowing}
use Rattle.resolved_runs.specs.Mapped.{given, learnt_in, mapping_in, own_hardware}
use Rattle.resolved_runs.specs.Resolved.{held_at}
use Rattle.resolved_runs.specs.ResolvedRuns.{ResolvedBlock}
use Rattle.image_cables.specs.Settled.{cable_ranges, seat_addresses}

-- The mappings of a station's seat on a cable: they map each address as the station does after the transcript, but for its own
-- there, which needs none; no address is mapped twice; and they hold what the station holds on the cable.
pub record IsKept (i : Internet) (t : List Entry) (station cable : ℕ) (m : Mappings) : Type 0 where
  pub known : (a : Addr) → own_hardware i station cable a ≡ None
      → mapping_of a m.known ≡ option_or (mapping_in a (given i station cable)) (learnt_in t station cable a t)
  pub once : (a : Addr) → count (λ p. same_address a p.0) m.known ≤ 1
  pub held : m.held ≡ map (λ (h : Holding). datagram h.next h.stamp) (held_at t station cable)

-- The seats, their addresses and the ranges are the image's, and the mappings of each seat are those after the transcript.
pub record Keeps (i : Internet) (k : Knowing) (t : List Entry) : Type 0 where
  pub seats_are : k.seats ≡ cable_seats i
  pub own : k.own ≡ seat_addresses i
  pub ranges : k.ranges ≡ cable_ranges i
  pub each : (n : ℕ) (s : PlaceOf) → slice_get (seats i) n ≡ Some s
      → (m : Mappings) × (slice_get k.maps n ≡ Some m) × IsKept i t s.station s.cable m

-- Live cables keep what their transcript says.
abbrev pub AreKept : Internet → Wires → Type 0
AreKept i w = Keeps i (knowing w 0) (happened w)

-- The entries that were added are a block of a transcript with resolution, and the cables keep what their transcript says then.
pub record Resolves (i : Internet) (old new : Wires) : Type 0 where
  pub block : List Entry
  pub legal : ResolvedBlock i (happened old) block
  pub adds : Adds old.cabling new.cabling block
  pub keeps : AreKept i new

-- The entries that were added are such a block, and the first of them is the taking of this frame by this station.
pub record ResolvesTake (i : Internet) (old new : Wires) (stamp station : ℕ) : Type 0 where
  pub all : Resolves i old new
  pub rest : List Entry
  pub first : all.block ≡ Took stamp station ∷ rest
