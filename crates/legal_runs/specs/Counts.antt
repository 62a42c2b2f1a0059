-- How often a datagram was sent, reached a cable, was dropped, and is under way.
use Rattle.std.specs.Prelude.{◌≡◌, ◌≢◌, ℕ, ◌+◌, ◌≤◌, Bool, true, false, ◌&&◌, ◌==◌, List, Some, None, Contains}
use Rattle.at_base.specs.Text.{same_bytes}
use Rattle.ddp.specs.Bodies.{body, hops, target}
use Rattle.table_image.specs.Internet.{Internet}
use Rattle.audit.specs.Routing.{distance, home}
use Rattle.station.specs.declared.output.DropCause.TheVariants.{HopLimit}
use Rattle.cable_model.specs.Pending.{Pair, pending}
use Rattle.cable_model.specs.Transcript.{Entry, Sent, Reached, Dropped, count}
use Rattle.legal_runs.specs.Legs.{is_copy}
use Rattle.legal_runs.specs.Stations.{cable_seats}

-- The entry says that this body was sent.
abbrev pub is_sent : List ℕ → Entry → Bool
is_sent b (Sent station c) = same_bytes b c
is_sent b _ = false

-- The entry says that this body reached the cable.
abbrev pub is_reached : List ℕ → ℕ → Entry → Bool
is_reached b cable (Reached c station how d) = c == cable && same_bytes b d
is_reached b cable _ = false

-- The entry says that this body was dropped.
abbrev pub is_dropped : List ℕ → Entry → Bool
is_dropped b (Dropped router cause c) = same_bytes b c
is_dropped b _ = false

-- The entry says that a datagram was dropped because its hop count was at the limit.
abbrev pub is_hop_limit : Entry → Bool
is_hop_limit (Dropped router HopLimit c) = true
is_hop_limit _ = false

-- The pair is a copy of this body.
abbrev pub carries : Internet → List ℕ → Pair → Bool
carries i b p = is_copy i p && same_bytes b (body p.frame.bytes)

-- How often the body was sent.
abbrev pub sent : List ℕ → List Entry → ℕ
sent b t = count (is_sent b) t

-- How often the body reached the cable.
abbrev pub reached : List ℕ → ℕ → List Entry → ℕ
reached b cable t = count (is_reached b cable) t

-- How often the body was dropped.
abbrev pub dropped : List ℕ → List Entry → ℕ
dropped b t = count (is_dropped b) t

-- How many copies of the body are under way.
abbrev pub under_way : Internet → List ℕ → List Entry → ℕ
under_way i b t = count (carries i b) (pending (cable_seats i) t)

-- For a body to a network on cable c: each time that it was sent, it is under way once or has reached c once; it
-- reached no other cable and wasn't dropped.
pub record IsDelivered (i : Internet) (t : List Entry) (b : List ℕ) (c : ℕ) : Type 0 where
  pub counted : sent b t ≡ reached b c t + under_way i b t
  pub elsewhere : (d : ℕ) → d ≢ c → reached b d t ≡ 0
  pub kept : dropped b t ≡ 0

-- For a body to a network that is neither listed nor 0: each time that it was sent, it is under way once or was dropped
-- once; it reached no cable.
pub record IsDiscarded (i : Internet) (t : List Entry) (b : List ℕ) : Type 0 where
  pub counted : sent b t ≡ dropped b t + under_way i b t
  pub nowhere : (c : ℕ) → reached b c t ≡ 0

-- Conservation: every body to a listed network is delivered, every body to an unlisted network other than 0 is
-- discarded, and none is dropped because of its hop count.
pub record IsConserved (i : Internet) (t : List Entry) : Type 0 where
  pub listed : (b : List ℕ) (c : ℕ) → home i (target b).net ≡ Some c → IsDelivered i t b c
  pub unlisted : (b : List ℕ) → home i (target b).net ≡ None → (target b).net ≢ 0 → IsDiscarded i t b
  pub no_hop_limit : count is_hop_limit t ≡ 0

-- Hops left: a datagram that is under way to a listed network can still pass all routers that remain on its path.
abbrev pub HasHopsLeft : Internet → List Entry → Type 0
HasHopsLeft i t =
    (p : Pair) (c : ℕ) → Contains (pending (cable_seats i) t) p → is_copy i p ≡ true → home i (target p.frame.bytes).net ≡ Some c
    → hops p.frame.bytes + distance i p.seat.station (target p.frame.bytes).net ≤ 14
