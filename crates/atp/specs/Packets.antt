-- ATP packets: requests, responses and releases. (Inside AppleTalk, the chapter on ATP)
use Rattle.std.specs.Prelude.{◌≡◌, ℕ, ◌*◌, ◌/◌, ◌%◌, ◌^◌, ◌<◌, ◌≤◌, Bool, true, false, ◌&&◌, ◌==◌, IsTrue, List, length, slice_index}
use Rattle.std.specs.Prelude.{Option, Some, None, min, nat_lt, if◌then◌else◌}
use Rattle.at_base.specs.declared.error.Field.TheVariants.{Control, Sequence}
use Rattle.at_base.specs.declared.error.Error.{Error}
use Rattle.at_base.specs.declared.error.Error.TheVariants.{BadLength, BadField}
use Rattle.at_base.specs.Packets.{any}
use Rattle.at_base.specs.Grammar.{Grammar, done, field, room, limit, many, number, run, one, two}
use Rattle.at_base.specs.Limits.{max_data}

-- a packet: its control byte, the bitmap of a request or the part number of a response, the transaction's ID, user
-- bytes and data
pub record AtpPacket : Type 0 where
  pub control : ℕ
  pub part : ℕ
  pub id : ℕ
  pub user : List ℕ
  pub payload : List ℕ

-- the test that the top two bits of the control byte aren't both 0
abbrev pub wrong_control : ℕ → Option Error
wrong_control control = if control / 64 == 0 then Some (BadField Control) else None

-- the test that the part number of a response is at most 7
abbrev pub wrong_part : ℕ → ℕ → Option Error
wrong_part control part = if control / 64 == 2 && nat_lt 7 part then Some (BadField Sequence) else None

-- the format of one byte of data
abbrev pub data_byte : ℕ → Grammar Error true ℕ
data_byte low = field (number one any) (λ b. b) (λ b. done b)

-- the format of a packet: at least 8 and at most 586 bytes; control, bitmap or part number, transaction ID, user bytes,
-- and data up to the end
unfoldable pub packet : Grammar Error false AtpPacket
packet =
    room 8 (limit max_data BadLength (
    field (number one wrong_control) (λ p. p.control) (λ control.
    field (number one (wrong_part control)) (λ p. p.part) (λ part.
    field (number two any) (λ p. p.id) (λ id.
    field (run 4 any) (λ p. p.user) (λ user.
    many data_byte (λ b. 0) (λ bytes. None) (λ p. p.payload) (λ payload. record {
      control = control;
      part = part;
      id = id;
      user = user;
      payload = payload;
    })))))))

-- ---- the control byte

-- the packet is a request
abbrev pub is_request : ℕ → Bool
is_request control = control / 64 == 1

-- the packet is a part of a response
abbrev pub is_response : ℕ → Bool
is_response control = control / 64 == 2

-- the packet is a release, which says that the requester has the whole response
abbrev pub is_release : ℕ → Bool
is_release control = control / 64 == 3

-- the responder is to handle the request exactly once
abbrev pub is_exactly_once : ℕ → Bool
is_exactly_once control = control / 32 % 2 == 1

-- the packet is the last part of a response
abbrev pub is_end : ℕ → Bool
is_end control = control / 16 % 2 == 1

-- the responder asks for the request again at once, to learn which parts are missing
abbrev pub wants_status : ℕ → Bool
wants_status control = control / 8 % 2 == 1

-- the release time of a request in ticks of a fifth of a second: 30 seconds, or 1, 2, 4 or 8 minutes
abbrev pub release_ticks : ℕ → ℕ
release_ticks control = 150 * 2 ^ min 4 (control % 8)

-- ---- packets that may be written

-- A packet that a reader accepts: its numbers fit their fields, its top bits aren't both 0, the part number of a
-- response is at most 7, and it has at most 578 bytes of data.
pub record IsPacket (p : AtpPacket) : Type 0 where
  pub control : p.control < 256
  pub some : 64 ≤ p.control
  pub part : p.part < 256
  pub in_response : IsTrue (is_response p.control) → p.part ≤ 7
  pub id : p.id < 65536
  pub user : length p.user ≡ 4
  pub payload : (i : ℕ) → slice_index p.payload i < 256
  pub few : length p.payload ≤ 578
