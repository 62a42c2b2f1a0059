-- How often a datagram was lost, and what conservation and lookups say where frames are lost.
use Rattle.std.specs.Prelude.{◌≡◌, ◌≢◌, ℕ, ◌+◌, Bool, true, false, ◌&&◌, ◌==◌, List, Some, None}
use Rattle.std.specs.List.{list_any}
use Rattle.ddp.specs.Bodies.{target}
use Rattle.table_image.specs.Internet.{Internet}
use Rattle.audit.specs.Routing.{home}
use Rattle.cable_model.specs.Pending.{Pair, pairs}
use Rattle.cable_model.specs.Transcript.{Entry, Lost, count}
use Rattle.legal_runs.specs.Counts.{carries, dropped, is_hop_limit, reached, sent, under_way}
use Rattle.legal_runs.specs.Lookups.{asked, forwarded, forwards, lookups, taken, waiting, waits}
use Rattle.legal_runs.specs.Requests.{is_among, listing, zone_of}
use Rattle.legal_runs.specs.Stations.{cable_seats}

-- The entry says that the frame with this stamp was lost.
abbrev pub is_lost : ℕ → Entry → Bool
is_lost stamp (Lost lost) = lost == stamp
is_lost stamp _ = false

-- One of the entries says that the pair's frame was lost.
abbrev pub was_lost : List Entry → Pair → Bool
was_lost t p = list_any (is_lost p.frame.stamp) t

-- How many copies of the body were lost.
abbrev pub lost : Internet → List ℕ → List Entry → ℕ
lost i b t = count (λ p. was_lost t p && carries i b p) (pairs (cable_seats i) t)

-- For a body to a network on cable c: each time that it was sent, it is under way once, has reached c once or was lost
-- once; it reached no other cable and wasn't dropped.
pub record IsDeliveredOrLost (i : Internet) (t : List Entry) (b : List ℕ) (c : ℕ) : Type 0 where
  pub counted : sent b t ≡ reached b c t + under_way i b t + lost i b t
  pub elsewhere : (d : ℕ) → d ≢ c → reached b d t ≡ 0
  pub kept : dropped b t ≡ 0

-- For a body to a network that is neither listed nor 0: each time that it was sent, it is under way once, was dropped
-- once or was lost once; it reached no cable.
pub record IsDiscardedOrLost (i : Internet) (t : List Entry) (b : List ℕ) : Type 0 where
  pub counted : sent b t ≡ dropped b t + under_way i b t + lost i b t
  pub nowhere : (c : ℕ) → reached b c t ≡ 0

-- Conservation with losses: every body to a listed network is delivered or lost, every body to an unlisted network
-- other than 0 is discarded or lost, and none is dropped because of its hop count.
pub record IsConservedWithLosses (i : Internet) (t : List Entry) : Type 0 where
  pub listed : (b : List ℕ) (c : ℕ) → home i (target b).net ≡ Some c → IsDeliveredOrLost i t b c
  pub unlisted : (b : List ℕ) → home i (target b).net ≡ None → (target b).net ≢ 0 → IsDiscardedOrLost i t b
  pub no_hop_limit : count is_hop_limit t ≡ 0

-- ---- Requests and lookups

-- How many broadcast requests with this key were lost.
abbrev pub lost_requests : Internet → List ℕ → List Entry → ℕ
lost_requests i k t = count (λ p. was_lost t p && waits i k p) (pairs (cable_seats i) t)

-- How many forward requests with this key to the cable were lost.
abbrev pub lost_forwards : Internet → List ℕ → ℕ → List Entry → ℕ
lost_forwards i k c t = count (λ p. was_lost t p && forwarded i k c p) (pairs (cable_seats i) t)

-- Each cable that lists the key's zone has had one lookup, has a forward request under way, or lost one, for each
-- request that was taken; other cables have none of these; and each request that was sent was taken, is pending or was
-- lost.
pub record IsLookedUpWithLosses (i : Internet) (t : List Entry) (k : List ℕ) : Type 0 where
  pub asked_is : asked i k t ≡ taken i k t + waiting i k t + lost_requests i k t
  pub listed : (c : ℕ) → is_among c (listing i (zone_of k)) ≡ true
      → lookups i k c t + forwards i k c t + lost_forwards i k c t ≡ taken i k t
  pub others : (c : ℕ) → is_among c (listing i (zone_of k)) ≡ false
      → lookups i k c t + forwards i k c t + lost_forwards i k c t ≡ 0
