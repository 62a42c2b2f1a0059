-- A station that runs over a capture: what it has written after some blocks, and how it is then.
use Rattle.std.specs.Prelude.{◌≡◌, ◌⊎◌, ℕ, ◌+◌, ◌-◌, ◌^◌, Bool, true, false, List, [], ◌∷◌, ◌++◌, Option, None, Result, Ok, Err, min}
use Rattle.std.specs.Io.KnownBytes.{Appends, Consumes, IsAtEnd}
use Rattle.at_base.specs.declared.error.Error.{Error}
use Rattle.at_base.specs.declared.error.Error.TheVariants.{BadCapture, ReadFault}
use Rattle.cabled.specs.Acting.{Acting, Event}
use Rattle.capture_feed.specs.Clocks.{unset}
use Rattle.capture_feed.specs.Feeds.{Fed, Leads}
use Rattle.capture_feed.specs.Stages.{Standing, coming, pending, refused, start}
use Rattle.capture_feed.specs.declared.clock.Clock.{Clock}
use Rattle.pcapng.specs.Sections.{Told}
use Rattle.pcapng.specs.declared.fault.Fault.{Fault}
use Rattle.pcapng.specs.declared.form.Forms.TheVariants.{Pcapng}
use Rattle.routing.specs.Events.{clock_after, events_of, ports_after}
use Rattle.routing.specs.Streams.{answer_bytes, event_bytes, time_of}
use Rattle.routing.specs.declared.called.Called.{Called}
use Rattle.text.specs.Going.{Goes}

-- A station over a capture: what the cables of its ports are called, the ports of the section's interfaces, the clock, the
-- station itself, and how many events were dropped.
pub record Routed (S : Type 0) : Type 0 where
  pub calls : List Called
  pub ports : List (Option ℕ)
  pub clock : Clock
  pub station : S
  pub dropped : ℕ

-- a station over a capture of which nothing was read
abbrev pub at_first : {S : Type 0} → List Called → S → Routed S
at_first calls s = record { calls = calls; ports = []; clock = unset; station = s; dropped = 0 }

-- one event more was dropped; the count ends at the greatest number
abbrev pub one_more : ℕ → ℕ
one_more dropped = min (dropped + 1) (2 ^ 64 - 1)

-- Some events came to a station at a time, one after the other. For each it wrote what it puts, and then it was as after that
-- step; or it had no memory for it, and the event was dropped: nothing was written, nothing changed, and it was counted.
abbrev pub Came : {S : Type 0} → Acting S → ℕ → S → List Event → ℕ → List ℕ → S → ℕ → Type 0
Came acts time r [] dropped bytes after dropped_after = (bytes ≡ []) × (after ≡ r) × (dropped_after ≡ dropped)
Came acts time r (e ∷ es) dropped bytes after dropped_after =
    ((rest : List ℕ) × (bytes ≡ event_bytes acts time r e ++ rest) × Came acts time (acts.step r e).1 es dropped rest after dropped_after)
    ⊎ Came acts time r es (one_more dropped) bytes after dropped_after

-- A station over a capture heard a block: its events came, and a heartbeat was answered after them.
pub record HasHeard {S : Type 0} (acts : Acting S) (m : Routed S) (t : Told) (bytes : List ℕ) (after : Routed S) : Type 0 where
  pub calls : after.calls ≡ m.calls
  pub ports : after.ports ≡ ports_after m.calls m.ports t
  pub clock : after.clock ≡ clock_after m.clock t
  pub put : List ℕ
  pub came : Came acts (time_of t) m.station (events_of m.ports m.clock t) m.dropped put after.station after.dropped
  pub all : bytes ≡ put ++ answer_bytes t

-- It heard some blocks, one after the other.
abbrev pub HaveHeard : {S : Type 0} → Acting S → Routed S → List Told → List ℕ → Routed S → Type 0
HaveHeard acts m [] bytes after = (bytes ≡ []) × (after ≡ m)
HaveHeard {S} acts m (t ∷ ts) bytes after =
    (mid : Routed S) × (first : List ℕ) × (rest : List ℕ) × HasHeard acts m t first mid × HaveHeard acts mid ts rest after × (bytes ≡ first ++ rest)

-- A station, and how many events it dropped.
pub record Counted (S : Type 0) : Type 0 where
  pub station : S
  pub dropped : ℕ

-- Some events came to a station at a time, and what it wrote for them went to the output.
abbrev pub Happened : {S : Type 0} → Acting S → ℕ → Counted S → List Event → Counted S → Option (List ℕ) → List ℕ → Option (List ℕ) → List ℕ → Type 0
Happened acts time c es after before text writer left =
    (bytes : List ℕ) × Came acts time c.station es c.dropped bytes after.station after.dropped × Goes before text bytes writer left

-- the station of one over a capture, with how many events it dropped
abbrev pub counted_in : {S : Type 0} → Routed S → Counted S
counted_in m = record { station = m.station; dropped = m.dropped }

-- A station over a capture heard a block, and what it wrote for it went to the output.
abbrev pub Wrote : {S : Type 0} → Acting S → Routed S → Told → Routed S → Option (List ℕ) → List ℕ → Option (List ℕ) → List ℕ → Type 0
Wrote acts m t after before text writer left = (bytes : List ℕ) × HasHeard acts m t bytes after × Goes before text bytes writer left

-- ---- A run

-- How a run ended, of which the last blocks are still to come at a place with these bytes: within a block, at the end of
-- the input or where a read failed; or at a block that is refused, whatever follows.
abbrev pub Ends : Result (Unit {0}) Error → Standing → List ℕ → Type 0
Ends (Ok u) last kept = coming last kept ≡ pending
Ends (Err e) last kept =
    ((e ≡ ReadFault) × (coming last kept ≡ pending))
    ⊎ ((n : ℕ) × (f : Fault) × (e ≡ BadCapture n) × ((more : List ℕ) → coming last (kept ++ more) ≡ refused n f))

-- What was done of a capture of which these bytes were read: the blocks that they tell were heard, one after the other, and
-- what was due for them was written, neither more nor less; the capture goes on at a place with the bytes that are kept.
-- `writer` and `written` are what the output held before and holds now, where that is known.
pub record SoFar {S : Type 0} (acts : Acting S) (m : Routed S) (writer : Option (List ℕ)) (bytes : List ℕ) (now : Routed S)
    (written : Option (List ℕ)) (last : Standing) (kept : List ℕ) : Type 0 where
  pub blocks : List Told
  pub leads : Leads (start Pcapng) bytes blocks last kept
  pub due : List ℕ
  pub heard : HaveHeard acts m blocks due now
  pub wrote : Appends writer written due

-- A station heard a block, unless writing had failed or failed then.
pub record Hears {S : Type 0} (acts : Acting S) (failed : Option Error) (m : Routed S) (t : Told) (after : Routed S) (before : Option (List ℕ))
    (text : List ℕ) (writer : Option (List ℕ)) (left : List ℕ) : Type 0 where
  pub sound : failed ≡ None
  pub wrote : Wrote acts m t after before text writer left

-- Between two reads: nothing failed, nothing waits in the output, and what is kept of the capture ends within a block.
pub record Stands {S : Type 0} (acts : Acting S) (m : Routed S) (writer : Option (List ℕ)) (bytes : List ℕ) (failed : Option Error) (text : List ℕ)
    (now : Routed S) (written : Option (List ℕ)) (feed : Fed) : Type 0 where
  pub sound : failed ≡ None
  pub empty : text ≡ []
  pub good : feed.refused ≡ None
  pub done : SoFar acts m writer bytes now written feed.at feed.kept
  pub within : coming feed.at feed.kept ≡ pending

-- A block is refused: what was due before it is written.
pub record IsStopped {S : Type 0} (acts : Acting S) (m : Routed S) (writer : Option (List ℕ)) (bytes : List ℕ) (now : Routed S) (written : Option (List ℕ))
    (e : Error) : Type 0 where
  pub last : Standing
  pub kept : List ℕ
  pub done : SoFar acts m writer bytes now written last kept
  pub ends : Ends (Err e) last kept

-- The input was read to its end, unless the station is done.
abbrev pub IsThrough : Bool → Option (List ℕ) → Type 0
IsThrough true left = Unit {0}
IsThrough false left = IsAtEnd left

-- A station ran over a capture. `before` and `after` are the bytes that the input has left, where they are known.
pub record HasRun {S : Type 0} (acts : Acting S) (before after : Option (List ℕ)) (m : Routed S) (writer written : Option (List ℕ)) (m_after : Routed S)
    (result : Result (Unit {0}) Error) : Type 0 where
  pub bytes : List ℕ
  pub read : Consumes before after bytes
  pub last : Standing
  pub kept : List ℕ
  pub done : SoFar acts m writer bytes m_after written last kept
  pub ends : Ends result last kept
