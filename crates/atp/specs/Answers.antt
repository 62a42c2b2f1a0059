-- The parts of an answer, and their packets. (Inside AppleTalk, the chapter on ATP)
use Rattle.std.specs.Prelude.{ℕ, ◌≤◌, suc, Bool, ◌&&◌, ◌==◌, List, [], ◌∷◌, length, map, nat_le, if◌then◌else◌}
use Rattle.std.specs.List.{All, list_all}
use Rattle.at_base.specs.Spelling.{bytes_of}
use Rattle.atp.specs.declared.ask.AnswerPart.{AnswerPart}
use Rattle.atp.specs.Bitmaps.{asks_for}
use Rattle.atp.specs.Packets.{AtpPacket, packet}
use Rattle.at_base.specs.Limits.{max_data}

-- a valid answer: at most 8 parts of at most 578 bytes of data
abbrev pub is_answer : List AnswerPart → Bool
is_answer parts = nat_le (length parts) 8 && list_all (λ (part : AnswerPart). nat_le (length part.payload) 578) parts

-- the packet of part i of an answer of count parts; the last one is marked as the end
abbrev pub response_of : ℕ → ℕ → ℕ → AnswerPart → AtpPacket
response_of id count i part = record {
  control = if suc i == count then 0x90 else 0x80;
  part = i;
  id = id;
  user = part.user;
  payload = part.payload;
}

-- the packets of the parts, numbered from i on, that a bitmap asks for
abbrev pub responses : ℕ → ℕ → ℕ → ℕ → List AnswerPart → List AtpPacket
responses id asked count i [] = []
responses id asked count i (part ∷ parts) =
    if asks_for asked i then response_of id count i part ∷ responses id asked count (suc i) parts
    else responses id asked count (suc i) parts

-- the packets of the parts of an answer that a bitmap asks for
abbrev pub answer_packets : ℕ → ℕ → List AnswerPart → List AtpPacket
answer_packets id asked parts = responses id asked (length parts) 0 parts

-- the bytes of each of the packets
abbrev pub bytes_of_all : List AtpPacket → List (List ℕ)
bytes_of_all ps = map (bytes_of packet) ps

-- each payload fits into the 586 bytes of a datagram's data
abbrev pub AreShort : List (List ℕ) → Type 0
AreShort payloads = All (λ payload. length payload ≤ max_data) payloads
