-- NBP packets: requests for names, lookups and replies. (Inside AppleTalk, the chapter on NBP)
use Rattle.std.specs.Prelude.{ℕ, ◌*◌, ◌+◌, ◌/◌, ◌%◌, ◌<◌, ◌≤◌, Bool, true, ◌&&◌, ◌||◌, ◌==◌, List, [], ◌∷◌, drop, length, Option, Some}
use Rattle.std.specs.Prelude.{None, Result, nat_le, if◌then◌else◌}
use Rattle.std.specs.Int.{byte_at}
use Rattle.at_base.specs.declared.address.Addr.{Addr}
use Rattle.at_base.specs.declared.error.Error.{Error}
use Rattle.at_base.specs.declared.error.Error.TheVariants.{BadField}
use Rattle.at_base.specs.declared.error.Field.TheVariants.{Function as FunctionField, Count}
use Rattle.at_base.specs.Grammar.{Grammar, done, field, part, list, room, number, one}
use Rattle.at_base.specs.Packets.{packets, any, address, text}
use Rattle.at_base.specs.Reading.{list_at, read, value_of}
use Rattle.at_base.specs.Spelling.{bytes_of}
use Rattle.nbp.specs.declared.tuple.Tuple.{Tuple}
use Rattle.nbp.specs.declared.packet.Function.{Function}
use Rattle.nbp.specs.declared.packet.Function.TheVariants.{BroadcastRequest, Lookup, Reply, ForwardRequest}

-- a packet: its function, the ID by which a node matches replies with its request, and its tuples
pub record NbpPacket : Type 0 where
  pub function : Function
  pub id : ℕ
  pub tuples : List Tuple

-- the format of a tuple: the node that has the name or asks for it, and the name's object, type and zone
unfoldable pub tuple : Grammar Error true Tuple
tuple =
    part address (λ t. t.at) (λ at.
    field (number one any) (λ t. t.socket) (λ socket.
    field (number one any) (λ t. t.enumerator) (λ enumerator.
    part (text 1 any) (λ t. t.object) (λ object.
    part (text 1 any) (λ t. t.kind) (λ kind.
    part (text 0 any) (λ t. t.zone) (λ zone.
    done (record { at = at; socket = socket; enumerator = enumerator; object = object; kind = kind; zone = zone })))))))

-- the number of a function
abbrev pub number_of : Function → ℕ
number_of BroadcastRequest = 1
number_of Lookup = 2
number_of Reply = 3
number_of ForwardRequest = 4

-- the function with a number from 1 to 4
abbrev pub function_of : ℕ → Function
function_of n = if n == 1 then BroadcastRequest else if n == 2 then Lookup else if n == 3 then Reply else ForwardRequest

-- a function has this number
abbrev pub is_function : ℕ → Bool
is_function f = nat_le 1 f && nat_le f 4

-- a packet with function number f may have n tuples: 1, or in a reply 1 to 15
abbrev pub is_count : ℕ → ℕ → Bool
is_count f n = n == 1 || (f == 3 && nat_le 1 n)

-- the test of the first byte: its function exists, and may have its number of tuples
abbrev pub wrong_head : ℕ → Option Error
wrong_head b =
    if is_function (b / 16) then (if is_count (b / 16) (b % 16) then None else Some (BadField Count))
    else Some (BadField FunctionField)

-- the first byte of a packet: the function and the number of the tuples, four bits each
abbrev pub head : NbpPacket → ℕ
head p = number_of p.function * 16 + length p.tuples

-- the format of a packet: two bytes at least; function and count, ID, and as many tuples as the count
unfoldable pub packet : Grammar Error true NbpPacket
packet =
    room 2 (field (number one wrong_head) head (λ h.
    field (number one any) (λ p. p.id) (λ id.
    list (λ low. tuple) (λ t. 0) (h % 16) (λ p. p.tuples) (λ tuples.
    done (record { function = function_of (h / 16); id = id; tuples = tuples })))))

-- the packet at the front of the bytes, if any
unfoldable pub names_in : List ℕ → Option NbpPacket
names_in payload = value_of (read packets packet payload)

-- the result of reading count tuples at the front of the bytes
abbrev pub tuples_read : ℕ → List ℕ → Result (List Tuple × List ℕ) Error
tuples_read count bytes = list_at (λ low. read packets tuple) (λ t. 0) 0 count bytes

-- ---- packets with one tuple

-- a packet with one tuple
abbrev pub packet_of : Function → ℕ → Tuple → NbpPacket
packet_of f id t = record { function = f; id = id; tuples = t ∷ [] }

-- the bytes of a packet with one tuple, before its texts
abbrev pub front_bytes : Function → ℕ → Addr → ℕ → ℕ → List ℕ
front_bytes f id at socket enumerator =
    (number_of f * 16 + 1) ∷ id ∷ byte_at 1 at.net ∷ byte_at 0 at.net ∷ at.node ∷ socket ∷ enumerator ∷ []

-- the part of a request that routers don't change: the ID and the bytes of its tuples
abbrev pub key : NbpPacket → List ℕ
key p = drop 1 (bytes_of packet p)

-- A tuple that a packet may have: its numbers fit their fields, its object and its type have 1 to 32 bytes, and its
-- zone has at most 32.
pub record IsTuple (t : Tuple) : Type 0 where
  pub at_net : t.at.net < 65536
  pub at_node : t.at.node < 256
  pub socket : t.socket < 256
  pub enumerator : t.enumerator < 256
  pub object_some : 1 ≤ length t.object
  pub object_few : length t.object ≤ 32
  pub kind_some : 1 ≤ length t.kind
  pub kind_few : length t.kind ≤ 32
  pub zone_few : length t.zone ≤ 32
