-- The packets that a router sends of its tables fit into datagrams.
use Rattle.std.proofs.Common.{◌≡◌, ℕ, ◌+◌, ◌≤◌, Bool, true, false, cond, ◌||◌, ◌==◌, List, [], ◌∷◌, length, map, take, drop}
use Rattle.std.proofs.Common.{Option, Some, None, IfSome, refl, arith, length-append}
use Rattle.std.specs.Prelude.{◌*◌, nat_le, nat_lt}
use Rattle.std.proofs.lemmas.Bool.{le-leb}
use Rattle.std.proofs.lemmas.List.{length-map, length-take}
use Rattle.at_base.specs.Range.{Span}
use Rattle.at_base.specs.Spelling.{bytes_of, list_bytes}
use Rattle.at_base.specs.declared.address.Addr.{Addr}
use Rattle.rtmp.specs.Data.{RoutingData, data_of, routing_data, written_of, written_tuple}
use Rattle.rtmp.specs.Sending.{IsPacket, own_tuple, packet_numbered, response_of, rows_sent, sent_tuple}
use Rattle.rtmp.specs.declared.request.Horizon.{Horizon}
use Rattle.rtmp.specs.declared.row.Row.{Row}
use Rattle.rtmp.specs.declared.tuple.Tuple.{Tuple}
use Rattle.zip_zones.specs.Formats.{body, packet as zip_packet}
use Rattle.zip_zones.specs.Packets.{network}
use Rattle.zip_zones.specs.declared.packet.Packet.TheVariants.{Query}

-- ---- Routing data

tuple_len : (low : ℕ) (t : Tuple) → length (bytes_of (written_tuple low) (written_of t)) ≡ 6
unfolding written_tuple
tuple_len low t =
    let extended : nat_le 128 (128 + t.distance) ≡ true = le-leb _ _ (omega arith) in
    rw extended refl

tuples_len : (low : ℕ) (ts : List Tuple)
    → length (list_bytes (λ l. bytes_of (written_tuple l)) (λ w. 1) low (map written_of ts)) ≡ 6 * length ts
tuples_len low [] = refl
tuples_len low (t ∷ ts) =
    let others = tuples_len 1 ts in
    let first = tuple_len low t in
    omega (
      arith,
      first,
      others,
      length-append (bytes_of (written_tuple low) (written_of t))
          (list_bytes (λ l. bytes_of (written_tuple l)) (λ w. 1) 1 (map written_of ts)),
    )

data_len : (me : Addr) (ts : List Tuple) → length (bytes_of routing_data (data_of me ts)) ≡ 4 + 6 * length ts
unfolding routing_data
data_len me ts = let tuples = tuples_len 0 ts in omega (arith, tuples)

sent_len : (h : Horizon) (k : ℕ) (range : Span) (me : Addr) (n : ℕ) (rows : List Row)
    → length (bytes_of routing_data (data_of me (own_tuple range
    ∷ map sent_tuple (take 96 (drop (n * 96) (rows_sent h k rows)))))) ≤ 586
sent_len h k range me n rows =
    let window = take 96 (drop (n * 96) (rows_sent h k rows)) in
    let len = data_len me (own_tuple range ∷ map sent_tuple window) in
    let few : length window ≤ 96 = omega (arith, length-take 96 (drop (n * 96) (rows_sent h k rows))) in
    let same = length-map window sent_tuple in
    omega (arith, len, few, same)

-- a packet of routing data fits into a datagram
pub packet_short : (h : Horizon) (k : ℕ) (range : Span) (me : Addr) (n : ℕ) (rows : List Row) (bytes : Option (List ℕ))
    → IsPacket (packet_numbered h k range me n rows) bytes → IfSome bytes (λ b. length b ≤ 586)
packet_short h k range me n rows bytes is = by (n == 0 || nat_lt (n * 96) (length (rows_sent h k rows))) bytes is
  where
    packet : RoutingData
    packet = data_of me (own_tuple range ∷ map sent_tuple (take 96 (drop (n * 96) (rows_sent h k rows))))

    by : (b : Bool) (o : Option (List ℕ)) → IsPacket (cond b (Some packet) None) o → IfSome o (λ x. length x ≤ 586)
    by true None g = absurd g
    by true (Some x) g = rw g.1 (sent_len h k range me n rows)
    by false None g = tt
    by false (Some x) g = absurd cc

-- the response to a request for the router of a cable fits into a datagram
pub response_short : (me : Addr) (own : Span) → length (bytes_of routing_data (response_of me own)) ≤ 586
response_short me own = let len = data_len me (own_tuple own ∷ []) in omega (arith, len)

-- ---- Queries

pub query_len : (start : ℕ) → length (bytes_of zip_packet (Query (start ∷ []))) ≡ 4
unfolding zip_packet body network
query_len start = refl
