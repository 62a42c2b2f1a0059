-- An Ethernet frame with a length and a SNAP header, which holds a datagram or an AARP packet. (Inside AppleTalk, the
-- chapter on EtherTalk)
use Rattle.std.specs.Prelude.{◌≡◌, ◌≤◌, ℕ, ◌+◌, ◌-◌, true, List, [], ◌∷◌, length, Option, Some, None, nat_lt, if◌then◌else◌}
use Rattle.at_base.specs.declared.address.Hw.{Hw}
use Rattle.at_base.specs.Grammar.{Grammar, Refusals, done, field, number, run, two}
use Rattle.at_base.specs.Text.{same_bytes}
use Rattle.ethertalk.specs.declared.fault.Fault.{Fault}
use Rattle.ethertalk.specs.declared.fault.Fault.TheVariants.{Cut, Length, Header, Protocol}
use Rattle.ethertalk.specs.declared.frame.Frame.{Frame}
use Rattle.station.specs.declared.heard.Kind.{Kind}
use Rattle.station.specs.declared.heard.Kind.TheVariants.{Aarp, Ddp}

-- a frame: who gets and who sends it, and the packet in it
pub record Framed : Type 0 where
  pub to : Hw
  pub from : Hw
  pub kind : Kind
  pub packet : List ℕ

-- what a borrowed frame holds
abbrev pub framed : Frame → Framed
framed f = record { to = f.to; from = f.from; kind = f.kind; packet = f.packet.now }

-- the most bytes of a packet in a frame
abbrev pub max_bytes : ℕ
max_bytes = 1492

-- the refusals of a reader of frames: the fault itself, wherever it is
abbrev pub faults : Refusals Fault Fault
faults = record { cut = Cut; placed = λ left fault. fault }

-- the test that any bytes pass
abbrev pub any : List ℕ → Option Fault
any bytes = None

-- the test of a frame's length: at least the headers, and at most 1,500
abbrev pub wrong_length : ℕ → Option Fault
wrong_length n = if nat_lt n 8 then Some Length else if nat_lt (8 + max_bytes) n then Some Length else None

-- the bytes of the LLC header: SNAP as both access points, unnumbered information
abbrev pub llc : List ℕ
llc = 0xAA ∷ 0xAA ∷ 3 ∷ []

-- the test of the LLC header
abbrev pub wrong_header : List ℕ → Option Fault
wrong_header bytes = if same_bytes bytes llc then None else Some Header

-- the SNAP protocol of a kind of packets: 08 00 07 80 9B for datagrams, and 00 00 00 80 F3 for AARP
abbrev pub protocol_of : Kind → List ℕ
protocol_of Ddp = 8 ∷ 0 ∷ 7 ∷ 0x80 ∷ 0x9B ∷ []
protocol_of Aarp = 0 ∷ 0 ∷ 0 ∷ 0x80 ∷ 0xF3 ∷ []

-- the test of a SNAP protocol
abbrev pub wrong_protocol : List ℕ → Option Fault
wrong_protocol bytes =
    if same_bytes bytes (protocol_of Ddp) then None else if same_bytes bytes (protocol_of Aarp) then None else Some Protocol

-- the kind of packets with such a SNAP protocol
abbrev pub kind_of : List ℕ → Kind
kind_of bytes = if same_bytes bytes (protocol_of Ddp) then Ddp else Aarp

-- the format of a frame: target, source, the length of all that follows it, the LLC header, the SNAP protocol, the
-- packet; what follows that is padding
unfoldable pub frame : Grammar Fault true Framed
frame =
    field (run 6 any) (λ f. f.to.0) (λ to.
    field (run 6 any) (λ f. f.from.0) (λ from.
    field (number two wrong_length) (λ f. 8 + length f.packet) (λ len.
    field (run 3 wrong_header) (λ f. llc) (λ header.
    field (run 5 wrong_protocol) (λ f. protocol_of f.kind) (λ protocol.
    field (run (len - 8) any) (λ f. f.packet) (λ packet.
    done (record { to = record { 0 = to }; from = record { 0 = from }; kind = kind_of protocol; packet = packet })))))))

-- a frame that can be written: each address has six bytes, and the packet isn't too long
pub record FitsFrame (f : Framed) : Type 0 where
  pub to : length f.to.0 ≡ 6
  pub from : length f.from.0 ≡ 6
  pub packet : length f.packet ≤ max_bytes
