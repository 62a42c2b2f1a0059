-- What conservation, hops left and lookups say where stations hold datagrams, and may give them up.
use Rattle.std.specs.Prelude.{◌≡◌, ◌≢◌, ◌≤◌, ℕ, ◌+◌, true, false, List, Some, None, Contains}
use Rattle.ddp.specs.Bodies.{hops, target}
use Rattle.table_image.specs.Internet.{Internet}
use Rattle.audit.specs.Routing.{distance, home, owner}
use Rattle.cable_model.specs.Holdings.{still_held}
use Rattle.cable_model.specs.Transcript.{Entry, Holding, count}
use Rattle.legal_runs.specs.Counts.{HasHopsLeft, dropped, is_hop_limit, reached, sent}
use Rattle.legal_runs.specs.Lookups.{asked, lookups, taken}
use Rattle.legal_runs.specs.Requests.{is_among, listing, zone_of}
use Rattle.resolved_runs.specs.HeldCounts.{forwards_or_held, given_up, given_up_forwards, given_up_requests, is_held_copy}
use Rattle.resolved_runs.specs.HeldCounts.{under_way_or_held, waiting_or_held}

-- For a body to a network on cable c: each time that it was sent, it is under way or held for a router once, has reached
-- c once, or was given up once; it reached no other cable and wasn't dropped.
pub record IsDeliveredOrHeld (i : Internet) (t : List Entry) (b : List ℕ) (c : ℕ) : Type 0 where
  pub counted : sent b t ≡ reached b c t + under_way_or_held i b t + given_up i b t
  pub elsewhere : (d : ℕ) → d ≢ c → reached b d t ≡ 0
  pub kept : dropped b t ≡ 0

-- For a body to a network that is neither listed nor 0: each time that it was sent, it is under way or held for a router
-- once, was dropped once or was given up once; it reached no cable.
pub record IsDiscardedOrHeld (i : Internet) (t : List Entry) (b : List ℕ) : Type 0 where
  pub counted : sent b t ≡ dropped b t + under_way_or_held i b t + given_up i b t
  pub nowhere : (c : ℕ) → reached b c t ≡ 0

-- Conservation: every body to a listed network is delivered, held or given up, every body to an unlisted network other
-- than 0 is discarded, held or given up, and none is dropped because of its hop count.
pub record IsConservedResolved (i : Internet) (t : List Entry) : Type 0 where
  pub listed : (b : List ℕ) (c : ℕ) → home i (target b).net ≡ Some c → IsDeliveredOrHeld i t b c
  pub unlisted : (b : List ℕ) → home i (target b).net ≡ None → (target b).net ≢ 0 → IsDiscardedOrHeld i t b
  pub no_hop_limit : count is_hop_limit t ≡ 0

-- Hops left: a datagram that is under way to a listed network, or held for the next router, can still pass all routers
-- that remain on its path.
pub record HasHopsLeftResolved (i : Internet) (t : List Entry) : Type 0 where
  pub frames : HasHopsLeft i t
  pub held : (h : Holding) (r c : ℕ) → Contains (still_held t) h → is_held_copy i h ≡ true → owner i h.cable h.next ≡ Some r
      → home i (target h.bytes).net ≡ Some c → hops h.bytes + distance i r (target h.bytes).net ≤ 14

-- Each cable that lists the key's zone has had one lookup, or has a forward request under way, held or given up, for each
-- request that was taken; other cables have none of these; and each request that was sent was taken, is pending, is held
-- or was given up.
pub record IsLookedUpResolved (i : Internet) (t : List Entry) (k : List ℕ) : Type 0 where
  pub asked_is : asked i k t ≡ taken i k t + waiting_or_held i k t + given_up_requests i k t
  pub listed : (c : ℕ) → is_among c (listing i (zone_of k)) ≡ true
      → lookups i k c t + forwards_or_held i k c t + given_up_forwards i k c t ≡ taken i k t
  pub others : (c : ℕ) → is_among c (listing i (zone_of k)) ≡ false
      → lookups i k c t + forwards_or_held i k c t + given_up_forwards i k c t ≡ 0
