-- The datagrams that a router has to put, puts and holds, each by its bytes, and those that events bring it.
use Rattle.std.specs.Prelude.{◌≡◌, ◌⊎◌, ℕ, List, [], ◌∷◌, ◌++◌, map, Option, Some, None, option_to_list}
use Rattle.std.specs.List.{flat_map}
use Rattle.cabled.specs.Putting.{Put}
use Rattle.cabled.specs.Acting.{Acting, Event, Tick, Heard}
use Rattle.cabled.specs.Steps.{Running, hearing_at, outputs_for, router_acts, step}
use Rattle.cabled.specs.declared.peers.Peers.{Peers}
use Rattle.capture_feed.specs.declared.clock.Clock.{Clock}
use Rattle.live_router.specs.Living.{Living}
use Rattle.live_router.specs.Ticking.{ticked_live}
use Rattle.pcapng.specs.Sections.{Told}
use Rattle.port.specs.Ports.{Ported}
use Rattle.router.specs.Forwarding.{onward}
use Rattle.routing.specs.Events.{clock_after, events_of, ports_after}
use Rattle.routing.specs.Run.{Routed}
use Rattle.routing.specs.Streams.{answer_bytes, event_bytes, time_of}
use Rattle.routing.specs.declared.called.Called.{Called}
use Rattle.station.specs.Hearing.{Hearing}
use Rattle.station.specs.Values.{datagram_at}
use Rattle.station.specs.declared.heard.Kind.{Kind}
use Rattle.station.specs.declared.heard.Kind.TheVariants.{Ddp, Aarp}
use Rattle.station.specs.declared.output.Output.{Output}
use Rattle.station.specs.declared.output.Output.TheVariants.{Made, Passed, Kept, Dropped, Wire}

-- ---- What is put, and what waits

-- the bytes of a packet of this kind, if it is a datagram
abbrev pub if_datagram : Kind → List ℕ → List (List ℕ)
if_datagram Ddp bytes = bytes ∷ []
if_datagram Aarp bytes = []

-- the datagram that is put, if a packet is one
abbrev pub datagram_in : Put → List (List ℕ)
datagram_in p = if_datagram p.kind p.bytes

-- the datagrams among packets that are put, in order
abbrev pub datagrams_in : List Put → List (List ℕ)
datagrams_in puts = flat_map datagram_in puts

-- the datagrams that wait at a port, oldest first
abbrev pub waiting_at : Ported → List (List ℕ)
waiting_at p = map (λ h. h.bytes) p.maps.held

-- the datagrams that wait at some ports
abbrev pub waiting_in : List Ported → List (List ℕ)
waiting_in ports = flat_map waiting_at ports

-- ---- What a router has to put

-- the datagram in an output, if the router made it itself
abbrev pub made_in : Output → List (List ℕ)
made_in (Made k next bytes) = bytes ∷ []
made_in (Passed k next bytes) = []
made_in (Kept k bytes) = []
made_in (Dropped cause bytes) = []
made_in (Wire k to bytes) = []

-- the datagram in an output, if the router passes it on
abbrev pub passed_in : Output → List (List ℕ)
passed_in (Made k next bytes) = []
passed_in (Passed k next bytes) = bytes ∷ []
passed_in (Kept k bytes) = []
passed_in (Dropped cause bytes) = []
passed_in (Wire k to bytes) = []

-- the outputs of the router for what a port hears, if one does
abbrev pub outputs_heard : Peers → Living → Option Hearing → List Output
outputs_heard peers l None = []
outputs_heard peers l (Some x) = outputs_for peers l x

-- the outputs of the router for an event
abbrev pub outputs_of : Running → Event → List Output
outputs_of r Tick = (ticked_live r.living).0
outputs_of r (Heard k f) = outputs_heard r.peers r.living (hearing_at r.peers r.ports k f)

-- the datagrams that the router makes for an event
abbrev pub made_for : Running → Event → List (List ℕ)
made_for r e = flat_map made_in (outputs_of r e)

-- the datagrams that it passes on for an event
abbrev pub passed_for : Running → Event → List (List ℕ)
passed_for r e = flat_map passed_in (outputs_of r e)

-- the datagram in a frame of this kind, if there is one, with one hop more
abbrev pub one_hop_more : Kind → List ℕ → List (List ℕ)
one_hop_more Ddp bytes = map onward (option_to_list (datagram_at bytes))
one_hop_more Aarp bytes = []

-- the datagram that an event brings, if it brings one, with one hop more
abbrev pub brought_by : Event → List (List ℕ)
brought_by Tick = []
brought_by (Heard k f) = one_hop_more f.kind f.packet

-- ---- Some events, one after the other

-- a station after some events
abbrev pub after_all : {S : Type 0} → Acting S → S → List Event → S
after_all acts s [] = s
after_all acts s (e ∷ es) = after_all acts (acts.step s e).1 es

-- the datagrams that are put for some events
abbrev pub all_put : Running → List Event → List (List ℕ)
all_put r [] = []
all_put r (e ∷ es) = datagrams_in (step r e).0 ++ all_put (step r e).1 es

-- the datagrams that the router makes for some events
abbrev pub all_made : Running → List Event → List (List ℕ)
all_made r [] = []
all_made r (e ∷ es) = made_for r e ++ all_made (step r e).1 es

-- the datagrams that some events bring, with one hop more
abbrev pub all_brought : List Event → List (List ℕ)
all_brought es = flat_map brought_by es

-- the blocks of what is put for some events at a time
abbrev pub all_bytes : {S : Type 0} → Acting S → ℕ → S → List Event → List ℕ
all_bytes acts time s [] = []
all_bytes acts time s (e ∷ es) = event_bytes acts time s e ++ all_bytes acts time (acts.step s e).1 es

-- These events are some of those, in order.
abbrev pub AreSome : List Event → List Event → Type 0
AreSome fs [] = fs ≡ []
AreSome fs (e ∷ es) = AreSome fs es ⊎ ((rest : List Event) × (fs ≡ e ∷ rest) × AreSome rest es)

-- ---- A run over a capture

-- the events that blocks bring a router whose cables are called so, while these are the ports of the section's interfaces
abbrev pub events_in : List Called → List (Option ℕ) → Clock → List Told → List Event
events_in calls ports clock [] = []
events_in calls ports clock (t ∷ ts) =
    events_of ports clock t ++ events_in calls (ports_after calls ports t) (clock_after clock t) ts

-- what is written for some blocks, each with those of its events that weren't dropped
abbrev pub run_bytes : Running → List (Told × List Event) → List ℕ
run_bytes r [] = []
run_bytes r (b ∷ bs) = all_bytes router_acts (time_of b.0) r b.1 ++ answer_bytes b.0 ++ run_bytes (after_all router_acts r b.1) bs

-- the events of some blocks that weren't dropped, in order
abbrev pub kept_in : List (Told × List Event) → List Event
kept_in bs = flat_map (λ b. b.1) bs

-- A router ran over some blocks, and wrote these bytes: of the events that they bring it dropped some, and what is written is
-- what it puts for the others.
pub record HasKept (m after : Routed Running) (ts : List Told) (bytes : List ℕ) : Type 0 where
  pub blocks : List (Told × List Event)
  pub all : map (λ b. b.0) blocks ≡ ts
  pub some : AreSome (kept_in blocks) (events_in m.calls m.ports m.clock ts)
  pub written : bytes ≡ run_bytes m.station blocks
  pub router : after.station ≡ after_all router_acts m.station (kept_in blocks)
