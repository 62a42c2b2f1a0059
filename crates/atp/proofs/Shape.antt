-- The format of a packet: each projection gives its part; and the bytes of a packet.
use Rattle.std.proofs.Common.{◌≡◌, ℕ, suc, ◌≤◌, ◌<◌, ◌/◌, ◌&&◌, Bool, true, false, IsTrue, eqb, ltb, List, [], ◌∷◌, ◌++◌, length, None}
use Rattle.std.proofs.Common.{Result, Ok, Err, refl, sym, arith}
use Rattle.std.specs.Int.{byte_at}
use Rattle.std.proofs.lemmas.List.{append-nil, length-append}
use Rattle.at_base.specs.declared.error.Error.{Error}
use Rattle.at_base.specs.Packets.{packets}
use Rattle.at_base.specs.Reading.{read, Gives, Reads}
use Rattle.at_base.specs.Spelling.{IsValue, ListPasses, Begins, bytes_of}
use Rattle.at_base.specs.Lawful.{IsLawful}
use Rattle.at_base.proofs.Fields.{IsBytes}
use Rattle.at_base.proofs.Readers.{reads_ok, reads_err, begins_one}
use Rattle.atp.specs.declared.packet.Packet.{Packet}
use Rattle.atp.specs.Packets.{AtpPacket, IsPacket, packet, data_byte, wrong_control}
use Rattle.atp.specs.InPlace.{packet_value}
use Rattle.atp.proofs.Payload.{payload_bytes}

pub packet_lawful : IsLawful packet
unfolding packet
packet_lawful = (
  λ y h. omega (arith, length-append {A = ℕ}, h.1.1.1.0.0),
  λ control p. (
    λ part q id r user s bs. refl,
    λ part q. (
      λ id r user s bs. refl,
      λ id r. (
        λ user s bs. refl,
        λ user s. (λ bs. refl, ((λ low. (λ n p. (refl, tt))), (λ low x h. omega arith), λ bs. refl)),
      ),
    ),
  ),
)

-- the contract of the reader, from the result of reading
pub reads_of : (bytes : List ℕ) → IsBytes bytes → (r : Result Packet Error)
    → Gives (λ p. (packet_value p, [])) r (read packets packet bytes) → Reads packets packet (λ d. d) packet_value bytes r
reads_of bytes fits (Ok p) h = reads_ok packets packet (λ d. d) packet_value packet_lawful bytes p (packet_value p) [] fits h refl
reads_of bytes fits (Err e) h = reads_err {X = Packet} packets packet (λ d. d) packet_value packet_lawful bytes e fits h

-- the bytes of a packet, one by one
pub bytes_laid : (p : AtpPacket) → IsBytes p.payload
    → bytes_of packet p ≡ byte_at 0 p.control ∷ byte_at 0 p.part ∷ byte_at 1 p.id ∷ byte_at 0 p.id ∷ (p.user ++ p.payload)
unfolding packet
bytes_laid p fits = rw (payload_bytes 0 p.payload fits) refl

-- the bytes of a packet, as they are written
pub written : (p : AtpPacket) → p.control < 256 → p.part < 256 → IsBytes p.payload
    → (p.control ∷ p.part ∷ byte_at 1 p.id ∷ byte_at 0 p.id ∷ []) ++ p.user ++ p.payload ≡ bytes_of packet p
written p control part fits =
    let a : byte_at 0 p.control ≡ p.control = omega arith in
    let b : byte_at 0 p.part ≡ p.part = omega arith in
    rw (bytes_laid p fits, a, b) refl

-- ---- reading back what was written

all_pass : (low : ℕ) (bytes : List ℕ) → IsBytes bytes → ListPasses (λ low. IsValue (data_byte low)) (λ b. 0) low bytes
all_pass low [] fits = tt
all_pass low (b ∷ bytes) fits = (((fits 0, refl), refl), all_pass 0 bytes (λ i. fits (suc i)))

right_control : (n : ℕ) → 64 ≤ n → wrong_control n ≡ None
right_control n some = let e : eqb (n / 64) 0 ≡ false = grind arith in rw e refl

right_part : (b : Bool) (n : ℕ) → (IsTrue b → n ≤ 7) → b && ltb 7 n ≡ false
right_part false n few = refl
right_part true n few = let le = few refl in grind arith

pub value : (p : AtpPacket) → IsPacket p → IsValue packet p
unfolding packet
value p h =
    let e = right_part (eqb (p.control / 64) 2) p.part h.in_response in (
      (h.control, right_control p.control h.some),
      ((h.part, rw e refl), ((h.id, refl), ((h.user, refl), (all_pass 0 p.payload h.payload, refl, refl)))),
    )

few_bytes : (p : AtpPacket) → IsPacket p → length (bytes_of packet p ++ []) ≤ 586
few_bytes p h =
    let few = h.few in
    let four = h.user in
    rw (append-nil (bytes_of packet p), bytes_laid p h.payload) (omega (arith, length-append p.user p.payload))

pub begins : (p : AtpPacket) → IsPacket p → Begins packet (bytes_of packet p) p
unfolding packet
begins p h = ([], sym (append-nil (bytes_of packet p)), value p h, (refl, few_bytes p h))

pub read_back : (p : AtpPacket) → IsPacket p
    → Begins packet (bytes_of packet p) p × ((d : AtpPacket) → Begins packet (bytes_of packet p) d → d ≡ p)
read_back p h = (begins p h, λ d b. begins_one packets packet packet_lawful (bytes_of packet p) p d (begins p h) b)
