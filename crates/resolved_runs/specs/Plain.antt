-- The transcript of the same datagrams where the hardware address of every station is known from the beginning: each frame
-- stands where its datagram was held, and no AARP frames are left.
use Rattle.std.specs.Prelude.{ℕ, cond, List, [], ◌∷◌, ◌++◌, Option, Some, None, find, is_some}
use Rattle.ddp.specs.Bodies.{target}
use Rattle.table_image.specs.Internet.{Internet}
use Rattle.table_image.specs.Seats.{Seat, seat_at}
use Rattle.station.specs.declared.heard.Kind.{Kind}
use Rattle.station.specs.declared.heard.Kind.TheVariants.{Aarp, Ddp}
use Rattle.cable_model.specs.Holdings.{has_number, holds, released_frame}
use Rattle.cable_model.specs.Transcript.{Entry, Frame, Holding, Sent, Put, Took, Reached, Dropped, Lost, Hold}
use Rattle.cable_model.specs.declared.entry.How.{How}
use Rattle.cable_model.specs.declared.entry.How.TheVariants.{Absent, All, Held, Own, Station}
use Rattle.resolved_runs.specs.Mapped.{frame_of}

-- The held datagram with this stamp.
abbrev pub hold_of : ℕ → List Entry → Option Holding
hold_of stamp t = find (has_number stamp) (holds t)

-- The frame of a held datagram, to the station that has its next address; none if no station has it.
abbrev pub plain_hold : Holding → Option Seat → List Entry
plain_hold h None = []
plain_hold h (Some s) = Put (released_frame h s.hardware) ∷ []

-- The frame, unless it is one of AARP or of a datagram that was held.
abbrev pub plain_put : List Entry → Frame → Kind → List Entry
plain_put t f Aarp = []
plain_put t f Ddp = cond (is_some (hold_of f.stamp t)) [] (Put f ∷ [])

-- The taking of a frame, unless it is one of AARP.
abbrev pub plain_took : ℕ → ℕ → Option Frame → List Entry
plain_took stamp station None = Took stamp station ∷ []
plain_took stamp station (Some f) = by f.kind
  where
    by : Kind → List Entry
    by Aarp = []
    by Ddp = Took stamp station ∷ []

-- How a datagram that was held reached its cable: it was sent to the station with its address, if there is one.
abbrev pub plain_how : How → Option Seat → How
plain_how Held None = Absent
plain_how Held (Some s) = Station
plain_how Station s = Station
plain_how All s = All
plain_how Own s = Own
plain_how Absent s = Absent

-- The loss of a frame; of a held datagram only if a station has its next address.
abbrev pub plain_lost : Internet → ℕ → Option Holding → List Entry
plain_lost i stamp None = Lost stamp ∷ []
plain_lost i stamp (Some h) = cond (is_some (seat_at i h.cable h.next)) (Lost stamp ∷ []) []

-- The entries for one entry that follows a transcript.
abbrev pub plain_entry : Internet → List Entry → Entry → List Entry
plain_entry i t (Hold h) = plain_hold h (seat_at i h.cable h.next)
plain_entry i t (Put f) = plain_put t f f.kind
plain_entry i t (Took stamp station) = plain_took stamp station (frame_of stamp t)
plain_entry i t (Reached cable station how b) = Reached cable station (plain_how how (seat_at i cable (target b))) b ∷ []
plain_entry i t (Lost stamp) = plain_lost i stamp (hold_of stamp t)
plain_entry i t (Sent station b) = Sent station b ∷ []
plain_entry i t (Dropped router cause b) = Dropped router cause b ∷ []

-- The entries for those that follow a transcript.
abbrev pub plain_after : Internet → List Entry → List Entry → List Entry
plain_after i t [] = []
plain_after i t (e ∷ es) = plain_entry i t e ++ plain_after i (t ++ e ∷ []) es

-- The plain transcript of a transcript in which addresses are resolved.
abbrev pub plain : Internet → List Entry → List Entry
plain i t = plain_after i [] t
