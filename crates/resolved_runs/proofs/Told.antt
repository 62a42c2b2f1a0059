-- What is known of each entry of a transcript that is legal with resolution, by the entries before it.
use Rattle.std.proofs.Common.{◌≡◌, ◌≤◌, ◌<◌, ℕ, length, true, List, [], ◌∷◌, ◌++◌, Some, Contains, append_assoc, append-nil, subst, sym}
use Rattle.at_base.specs.declared.address.Addr.{Addr}
use Rattle.at_base.specs.declared.address.Hw.{Hw}
use Rattle.aarp.specs.declared.packet.Function.TheVariants.{Response}
use Rattle.aarp.specs.declared.packet.Packet.{Packet}
use Rattle.table_image.specs.Internet.{Internet}
use Rattle.table_image.specs.Seats.{Seat, seat_at, seats}
use Rattle.station.specs.Resolution.{packet_at}
use Rattle.station.specs.declared.heard.Kind.TheVariants.{Aarp, Ddp}
use Rattle.station.specs.declared.output.DropCause.{DropCause}
use Rattle.cable_model.specs.declared.entry.How.{How}
use Rattle.cable_model.specs.Holdings.{released_frame, still_held}
use Rattle.cable_model.specs.Pending.{Pair, pending}
use Rattle.cable_model.specs.Transcript.{Entry, Frame, Holding, Sent, Put, Took, Reached, Dropped, Lost, Hold, next_stamp}
use Rattle.legal_runs.specs.Stations.{cable_seats, is_on}
use Rattle.resolved_runs.proofs.Elements.{In}

-- The seat with the address on the cable has this hardware address.
pub record IsSeated (i : Internet) (cable : ℕ) (a : Addr) (hw : Hw) : Type 0 where
  pub seat : Seat
  pub found : seat_at i cable a ≡ Some seat
  pub hardware : hw ≡ seat.hardware

-- The numbers of a packet fit their fields.
pub record Fitting (p : Packet) : Type 0 where
  pub source_hw : length p.source_hw.0 ≡ 6
  pub source_net : p.source.net < 65536
  pub source_node : p.source.node < 256
  pub target_hw : length p.target_hw.0 ≡ 6
  pub target_net : p.target.net < 65536
  pub target_node : p.target.node < 256

-- The packet in the frame has the addresses of a seat of its sender, on its cable.
pub record IsFrom (i : Internet) (f : Frame) (sent : Packet) : Type 0 where
  pub seat : Seat
  pub there : In (seats i) seat
  pub station : seat.station ≡ f.sender
  pub cable : seat.cable ≡ f.cable
  pub address : sent.source ≡ seat.address
  pub hardware : sent.source_hw ≡ seat.hardware

-- The frame's bytes are those of an AARP packet, its sender is on its cable, and a response tells the truth about its
-- source.
pub record IsPacket (i : Internet) (f : Frame) : Type 0 where
  pub sent : Packet
  pub read : packet_at f.bytes ≡ Some sent
  pub fits : Fitting sent
  pub by : IsFrom i f sent
  pub on : is_on i f.sender f.cable ≡ true
  pub answers : sent.function ≡ Response → IsSeated i f.cable sent.source sent.source_hw
  pub rest : List ℕ
  pub begins : f.bytes ≡ 0 ∷ 1 ∷ rest

-- An entry after these: a frame is new, or it ends a holding; what is lost is held, and what is taken is pending.
pub data Fact (i : Internet) (t : List Entry) : Entry → Type 0 where
  IsSent : (station : ℕ) (b : List ℕ) → Fact i t (Sent station b)
  IsReached : (cable station : ℕ) (how : How) (b : List ℕ) → Fact i t (Reached cable station how b)
  IsDropped : (router : ℕ) (cause : DropCause) (b : List ℕ) → Fact i t (Dropped router cause b)
  IsNew : (f : Frame) → f.kind ≡ Ddp → next_stamp t ≤ f.stamp → Fact i t (Put f)
  IsAarp : (f : Frame) → f.kind ≡ Aarp → next_stamp t ≤ f.stamp → IsPacket i f → Fact i t (Put f)
  IsReleased : (h : Holding) (s : Seat) → Contains (still_held t) h → seat_at i h.cable h.next ≡ Some s
      → Fact i t (Put (released_frame h s.hardware))
  IsHeld : (h : Holding) → next_stamp t ≤ h.stamp → Fact i t (Hold h)
  IsLost : (h : Holding) → Contains (still_held t) h → Fact i t (Lost h.stamp)
  IsTook : (p : Pair) → Contains (pending (cable_seats i) t) p → Fact i t (Took p.frame.stamp p.seat.station)

-- Each entry is so after those before it.
pub data IsTold (i : Internet) : List Entry → Type 0 where
  Nothing : IsTold i []
  More : (t : List Entry) (e : Entry) → IsTold i t → Fact i t e → IsTold i (t ++ e ∷ [])

-- These entries are so, after those before them.
abbrev pub AreFacts : Internet → List Entry → List Entry → Type 0
AreFacts i t [] = Unit {0}
AreFacts i t (e ∷ es) = Fact i t e × AreFacts i (t ++ e ∷ []) es

pub told_more : (i : Internet) (t es : List Entry) → IsTold i t → AreFacts i t es → IsTold i (t ++ es)
told_more i t [] told h = subst (IsTold i) (sym (append-nil t)) told
told_more i t (e ∷ es) told h =
    subst (IsTold i) (append_assoc t (e ∷ []) es) (told_more i (t ++ e ∷ []) es (More t e told h.0) h.1)

pub facts-append : (i : Internet) (t es fs : List Entry) → AreFacts i t es → AreFacts i (t ++ es) fs → AreFacts i t (es ++ fs)
facts-append i t [] fs h g = subst (λ u. AreFacts i u fs) (append-nil t) g
facts-append i t (e ∷ es) fs h g =
    (h.0, facts-append i (t ++ e ∷ []) es fs h.1 (subst (λ u. AreFacts i u fs) (sym (append_assoc t (e ∷ []) es)) g))
