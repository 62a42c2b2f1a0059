-- The datagram with a long header: its fields in order, and its data. (Inside AppleTalk, the chapter on DDP)
use Rattle.std.specs.Prelude.{ℕ, ◌+◌, ◌-◌, ◌*◌, ◌/◌, ◌%◌, true, List, drop, length, Option, Some, None, nat_lt, if◌then◌else◌}
use Rattle.at_base.specs.declared.address.Addr.{Addr}
use Rattle.at_base.specs.declared.error.Error.{Error}
use Rattle.at_base.specs.declared.error.Error.TheVariants.{BadLength}
use Rattle.at_base.specs.Checksum.{sum_of}
use Rattle.at_base.specs.Grammar.{Grammar, done, field, room, number, run, one, two}
use Rattle.at_base.specs.Packets.{any}
use Rattle.at_base.specs.Spelling.{bytes_of}
use Rattle.ddp.specs.declared.header.Header.{Header}

-- the fields of a datagram; reserved are the top two bits, which are written as 0 and ignored when read
pub record Datagram : Type 0 where
  pub reserved : ℕ
  pub hops : ℕ
  pub checksum : ℕ
  pub target : Addr
  pub source : Addr
  pub target_socket : ℕ
  pub source_socket : ℕ
  pub kind : ℕ
  pub payload : List ℕ

-- the length of header and data, in bytes
abbrev pub length_of : Datagram → ℕ
length_of d = 13 + length d.payload

-- the first two bytes of a datagram: the reserved bits, four bits of hop count and ten of length
abbrev pub first_word : Datagram → ℕ
first_word d = d.reserved * 16384 + d.hops * 1024 + length_of d

-- the test that the length in a first word is 13 to 599
abbrev pub wrong_word : ℕ → Option Error
wrong_word w = if nat_lt (w % 1024) 13 then Some BadLength else if nat_lt 599 (w % 1024) then Some BadLength else None

-- the format of a datagram: 13 bytes at least; the first word, with a length of 13 to 599; as many bytes as that
-- length; and the other fields
unfoldable pub datagram : Grammar Error true Datagram
datagram =
    room 13 (field (number two wrong_word) first_word (λ w.
    room (w % 1024 - 2) (
    field (number two any) (λ d. d.checksum) (λ checksum.
    field (number two any) (λ d. d.target.net) (λ target_net.
    field (number two any) (λ d. d.source.net) (λ source_net.
    field (number one any) (λ d. d.target.node) (λ target_node.
    field (number one any) (λ d. d.source.node) (λ source_node.
    field (number one any) (λ d. d.target_socket) (λ target_socket.
    field (number one any) (λ d. d.source_socket) (λ source_socket.
    field (number one any) (λ d. d.kind) (λ kind.
    field (run (w % 1024 - 13) any) (λ d. d.payload) (λ payload.
    done (record {
      reserved = w / 16384;
      hops = w / 1024 % 16;
      checksum = checksum;
      target = record { net = target_net; node = target_node };
      source = record { net = source_net; node = source_node };
      target_socket = target_socket;
      source_socket = source_socket;
      kind = kind;
      payload = payload;
    })))))))))))))

-- the sum of all bytes after the checksum field
abbrev pub checksum_of : Datagram → ℕ
checksum_of d = sum_of (drop 4 (bytes_of datagram d))

-- the datagram with this header and data, without a checksum
abbrev pub unsummed : Header → List ℕ → Datagram
unsummed h payload = record {
  reserved = 0;
  hops = 0;
  checksum = 0;
  target = h.target;
  source = h.source;
  target_socket = h.target_socket;
  source_socket = h.source_socket;
  kind = h.kind;
  payload = payload;
}

-- the datagram with this header and data, with its sum exactly if the header asks for it
abbrev pub datagram_of : Header → List ℕ → Datagram
datagram_of h payload = record (unsummed h payload) { checksum = if h.summed then checksum_of (unsummed h payload) else 0 }
