-- The cables of a run, where every hardware address is known, or where stations ask for it.
use Rattle.std.specs.Prelude.{◌≡◌, ℕ, List, []}
use Rattle.cable_model.specs.Logs.{Adds, Cabling, pending_on, transcript}
use Rattle.cable_model.specs.Outcomes.{Places, sent_entries}
use Rattle.cable_model.specs.Outgoing.{IsTakenAtOnce}
use Rattle.cable_model.specs.Pending.{Pair}
use Rattle.cable_model.specs.Rooms.{held_rooms, known_rooms, sent_lines, take_lines}
use Rattle.cable_model.specs.Transcript.{Entry}
use Rattle.image_cables.specs.Settled.{cable_ranges, seat_addresses, seat_maps}
use Rattle.legal_runs.specs.Stations.{cable_seats}
use Rattle.live_cables.specs.Living.{IsSentOver, TakesStill}
use Rattle.resolved_runs.specs.Fitting.{SeatsFit}
use Rattle.run_cables.specs.declared.wiring.Wiring.{Wiring}
use Rattle.run_cables.specs.declared.wiring.Wiring.TheVariants.{Known, Asking}
use Rattle.station.specs.Hearing.{Hearing}
use Rattle.station.specs.declared.output.Next.{Next}
use Rattle.station.specs.declared.output.Output.{Output}
use Rattle.table_image.specs.Internet.{Internet}
use Rattle.table_image.specs.declared.version.Version.TheVariants.{V1, V2}

-- The cables and their transcript.
abbrev pub cabling_of : Wiring → Cabling
cabling_of (Known c) = c
cabling_of (Asking w) = w.cabling

-- What happened on them, in order.
abbrev pub happened : Wiring → List Entry
happened w = transcript (cabling_of w)

-- What is pending on them.
abbrev pub pending_for : Wiring → List Pair
pending_for w = pending_on (cabling_of w)

-- The entries for which a take needs room.
abbrev pub take_room : Wiring → ℕ
take_room (Known c) = take_lines 0
take_room (Asking w) = take_lines 2

-- The entries for which a sending needs room.
abbrev pub send_room : Wiring → ℕ
send_room (Known c) = sent_lines 0
send_room (Asking w) = sent_lines 2

-- The cables have the room of their kind, and lose no frames.
abbrev pub AreStill : Wiring → Type 0
AreStill (Known c) = c.rooms ≡ known_rooms
AreStill (Asking w) = w.losing ≡ []

-- The cables of an internet before anything happens: of an image of version 1 every hardware address is known, and of one of
-- version 2 stations ask for it, and know the image's mappings.
abbrev pub AreFresh : Internet → ℕ → Wiring → Type 0
AreFresh i limit (Known c) =
    (i.version ≡ V1)
    × (c ≡ record { seats = cable_seats i; limit = limit; rooms = known_rooms; lines = []; kept = []; spare = 0 })
AreFresh i limit (Asking w) =
    (i.version ≡ V2) × SeatsFit i
    × (w ≡ record {
      cabling = record { seats = cable_seats i; limit = limit; rooms = held_rooms; lines = []; kept = []; spare = 0 };
      own = seat_addresses i;
      maps = seat_maps i;
      ranges = cable_ranges i;
      losing = [];
    })

-- A station sent a datagram that it made over a cable.
abbrev pub IsSentOn : Places → ℕ → ℕ → Next → List ℕ → Wiring → Wiring → Type 0
IsSentOn places station cable next bytes (Known old) (Known new) =
    Adds old new (sent_entries places old cable station next bytes)
IsSentOn places station cable next bytes (Asking old) (Asking new) = IsSentOver station cable next bytes old new
IsSentOn places station cable next bytes (Known old) (Asking new) = ⊥
IsSentOn places station cable next bytes (Asking old) (Known new) = ⊥

-- A station with this many ports took a frame, and its outputs were sent.
abbrev pub IsTakenOn : Places → ℕ → ℕ → ℕ → (Hearing → List Output → Type 0) → Wiring → Wiring → Type 0
IsTakenOn places stamp station ports Hears (Known old) (Known new) = IsTakenAtOnce places ports old new stamp station Hears
IsTakenOn places stamp station ports Hears (Asking old) (Asking new) = TakesStill stamp station ports Hears old new
IsTakenOn places stamp station ports Hears (Known old) (Asking new) = ⊥
IsTakenOn places stamp station ports Hears (Asking old) (Known new) = ⊥
