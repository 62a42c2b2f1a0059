-- Broadcast requests and the lookups that were made from them, counted by their key.
use Rattle.std.specs.Prelude.{◌≡◌, ℕ, ◌+◌, Bool, true, false, not, ◌&&◌, ◌||◌, ◌==◌, List, Option, Some, None, is_some}
use Rattle.std.specs.List.{list_any}
use Rattle.at_base.specs.Address.{same_address}
use Rattle.at_base.specs.Text.{same_bytes}
use Rattle.at_base.specs.declared.address.Addr.{Addr}
use Rattle.ddp.specs.Bodies.{body, target}
use Rattle.table_image.specs.Internet.{Internet}
use Rattle.audit.specs.Routing.{home}
use Rattle.table_image.specs.Seats.{seats}
use Rattle.cable_model.specs.Pending.{Pair, pairs, pending}
use Rattle.cable_model.specs.Transcript.{Entry, Sent, Put, Took, count}
use Rattle.legal_runs.specs.Answers.{ends_at}
use Rattle.legal_runs.specs.Legs.{is_copy, is_unicast}
use Rattle.legal_runs.specs.Requests.{request, is_broadcast, is_forward, is_lookup, key_in, listing, is_among, zone_of}
use Rattle.legal_runs.specs.Stations.{cable_seats, is_router}

-- The address is a router's.
abbrev pub is_routers : Internet → Addr → Bool
is_routers i a = list_any (λ s. is_router i s.station && same_address a s.address) (seats i)

-- The datagram is a broadcast request to a router's address, or to any router of a listed network.
abbrev pub is_request : Internet → List ℕ → Bool
is_request i b =
    is_broadcast (request b) && (is_routers i (target b) || ((target b).node == 0 && is_some (home i (target b).net)))

-- The datagram is a broadcast request to a router with this key.
abbrev pub asks : Internet → List ℕ → List ℕ → Bool
asks i k b = is_request i b && same_bytes k (key_in (request b))

-- The entry says that a broadcast request with this key was sent.
abbrev pub is_asked : Internet → List ℕ → Entry → Bool
is_asked i k (Sent station b) = asks i k b
is_asked i k _ = false

-- The pair is a frame to one station with a broadcast request that has this key.
abbrev pub waits : Internet → List ℕ → Pair → Bool
waits i k p = is_unicast p.frame.to && asks i k (body p.frame.bytes)

-- The pair holds a broadcast request with this key that ends at the station that takes it.
abbrev pub ends_so : Internet → List ℕ → Pair → Bool
ends_so i k p = waits i k p && ends_at i p

-- The entry is a router's lookup with this key on the cable.
abbrev pub looks : Internet → List ℕ → ℕ → Entry → Bool
looks i k c (Put f) =
    f.cable == c && (is_router i f.sender && (is_lookup (request (body f.bytes)) && same_bytes k (key_in (request (body f.bytes)))))
looks i k c _ = false

-- The home is this cable.
abbrev pub is_home : Option ℕ → ℕ → Bool
is_home None c = false
is_home (Some d) c = d == c

-- The datagram is a forward request with this key to a network on the cable.
abbrev pub seeks : Internet → List ℕ → ℕ → List ℕ → Bool
seeks i k c b = is_forward (request b) && (same_bytes k (key_in (request b)) && is_home (home i (target b).net) c)

-- The pair is a copy of a forward request with this key to a network on the cable.
abbrev pub forwarded : Internet → List ℕ → ℕ → Pair → Bool
forwarded i k c p = is_copy i p && seeks i k c (body p.frame.bytes)

-- The entry says that a node sent a forward request or a lookup.
abbrev pub is_unasked : Internet → Entry → Bool
is_unasked i (Sent station b) = not (is_router i station) && (is_forward (request b) || is_lookup (request b))
is_unasked i _ = false

-- No node sends a forward request or a lookup: only routers do, in answer to requests.
abbrev pub NodesOnlyAsk : Internet → List Entry → Type 0
NodesOnlyAsk i t = count (is_unasked i) t ≡ 0

-- How many broadcast requests with this key were sent.
abbrev pub asked : Internet → List ℕ → List Entry → ℕ
asked i k t = count (is_asked i k) t

-- How many broadcast requests with this key are in pending frames.
abbrev pub waiting : Internet → List ℕ → List Entry → ℕ
waiting i k t = count (waits i k) (pending (cable_seats i) t)

-- The entry says that this station took the frame with this stamp.
abbrev pub is_taken : ℕ → ℕ → Entry → Bool
is_taken stamp station (Took taken by) = taken == stamp && by == station
is_taken stamp station _ = false

-- One of the entries says that the pair's station took the pair's frame.
abbrev pub was_taken : List Entry → Pair → Bool
was_taken t p = list_any (is_taken p.frame.stamp p.seat.station) t

-- How many broadcast requests with this key were taken by the router at which they end.
abbrev pub taken : Internet → List ℕ → List Entry → ℕ
taken i k t = count (λ p. was_taken t p && ends_so i k p) (pairs (cable_seats i) t)

-- How many lookups with this key were put on the cable.
abbrev pub lookups : Internet → List ℕ → ℕ → List Entry → ℕ
lookups i k c t = count (looks i k c) t

-- How many forward requests with this key are under way to the cable.
abbrev pub forwards : Internet → List ℕ → ℕ → List Entry → ℕ
forwards i k c t = count (forwarded i k c) (pending (cable_seats i) t)

-- Each cable that lists the key's zone has had one lookup, or has a forward request under way, for each request that
-- was taken; other cables have neither; and each request that was sent was taken or is pending.
pub record IsLookedUp (i : Internet) (t : List Entry) (k : List ℕ) : Type 0 where
  pub asked_is : asked i k t ≡ taken i k t + waiting i k t
  pub listed : (c : ℕ) → is_among c (listing i (zone_of k)) ≡ true → lookups i k c t + forwards i k c t ≡ taken i k t
  pub others : (c : ℕ) → is_among c (listing i (zone_of k)) ≡ false → lookups i k c t + forwards i k c t ≡ 0
