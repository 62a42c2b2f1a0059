-- A node's replies to lookups are no requests.
use Rattle.std.proofs.Common.{◌≡◌, ℕ, zero, suc, ◌/◌, ◌<◌, Bool, true, false, ◌&&◌, ◌==◌, cond, IsTrue, List, [], ◌∷◌, ◌++◌, Option, Some}
use Rattle.std.proofs.Common.{Err, None, Ok, Result, ap, arith, ltb-true, map, refl, slice_index, sym, ◌∙◌}
use Rattle.std.specs.Int.{byte_at}
use Rattle.std.specs.List.{AllByRecursion as Each}
use Rattle.std.proofs.lemmas.Bool.{and_parts}
use Rattle.at_base.specs.Packets.{packets}
use Rattle.at_base.specs.Reading.{read, value_of}
use Rattle.at_base.specs.Spelling.{IsValue, bytes_of}
use Rattle.at_base.specs.declared.address.Addr.{Addr}
use Rattle.at_base.specs.declared.error.Error.{Error}
use Rattle.at_base.proofs.Fields.{IsBytes}
use Rattle.at_base.proofs.Laws.{read_takes}
use Rattle.ddp.specs.Datagram.{datagram, datagram_of}
use Rattle.ddp.proofs.Shape.{bytes_laid}
use Rattle.end_node.specs.Lookups.{reply_of}
use Rattle.nbp.specs.Packets.{NbpPacket, function_of, head, packet, packet_of, names_in}
use Rattle.nbp.specs.declared.packet.Function.TheVariants.{Reply}
use Rattle.nbp.specs.declared.tuple.Tuple.{Tuple}
use Rattle.nbp.proofs.Shape.{packet_lawful}
use Rattle.station.specs.Lawful.{IsGood, are_bytes}
use Rattle.station.specs.Ways.{replying}
use Rattle.station.specs.declared.way.Way.{Way}
use Rattle.legal_stations.proofs.Datagrams.{data_bytes}
use Rattle.legal_stations.proofs.Leaving.{IsQuiet, is_quiet}

bytes_fit : (bytes : List ℕ) → IsTrue (are_bytes bytes) → IsBytes bytes
bytes_fit [] h i = omega arith
bytes_fit (b ∷ bytes) h zero = ltb-true _ _ (and_parts _ _ h).0
bytes_fit (b ∷ bytes) h (suc i) = bytes_fit bytes (and_parts _ _ h).1 i

-- A packet that begins with the bytes of a reply is a reply.
reply_is : (id : ℕ) (t : Tuple) (q : NbpPacket) (rest : List ℕ) → IsValue packet q
    → bytes_of packet (packet_of Reply id t) ≡ bytes_of packet q ++ rest
    → q.function ≡ Reply
unfolding packet
reply_is id t q rest (h, (id_good, (len, each, whole))) e =
    let first : byte_at 0 49 ≡ byte_at 0 (head q) = ap (λ (b : List ℕ). slice_index b 0) e in
    let small : head q < 256 = h.0 in
    let same : head q ≡ 49 = omega (arith, first, small) in
    sym (ap (λ (z : NbpPacket). z.function) whole) ∙ ap (λ n. function_of (n / 16)) same

-- A reply is no request.
quiet_reply : (q : NbpPacket) → q.function ≡ Reply → is_quiet (Some q) ≡ true
quiet_reply q e = ap (λ f. is_quiet (Some (record q { function = f }))) e

-- The bytes of a reply are read as a reply, or can't be read.
quiet_bytes : (own : Addr) (zone : List ℕ) (id : ℕ) (t : Tuple) → IsTrue (are_bytes (reply_of own zone id t))
    → is_quiet (names_in (reply_of own zone id t)) ≡ true
unfolding names_in
quiet_bytes own zone id t bytes = by (read packets packet (reply_of own zone id t)) refl
  where
    by : (x : Result (NbpPacket × List ℕ) Error) → read packets packet (reply_of own zone id t) ≡ x → is_quiet (value_of x) ≡ true
    by (Err e) is = refl
    by (Ok x) is =
        let took = read_takes packets packet packet_lawful (reply_of own zone id t) x (bytes_fit (reply_of own zone id t) bytes) is in
        quiet_reply x.0 (reply_is id (record t { at = own; zone = zone }) x.0 x.1 took.1 took.0.parts)

-- The replies to a lookup are no requests.
pub quiet_replies : (n : ℕ) (own : Addr) (zone : List ℕ) (id : ℕ) (o : Option Way) (ts : List Tuple)
    → Each (IsGood n) (replying o (map (reply_of own zone id) ts)) → Each (IsQuiet o) (map (reply_of own zone id) ts)
quiet_replies n own zone id o [] good = tt
quiet_replies n own zone id None (t ∷ ts) good = (tt, quiet_replies n own zone id None ts good)
quiet_replies n own zone id (Some w) (t ∷ ts) good =
    let payload = reply_of own zone id t in
    let d = datagram_of w.header payload in
    let bytes = data_bytes d (bytes_of datagram d) (bytes_laid d) good.0.2.each in (
      by payload (quiet_bytes own zone id t bytes) (w.header.kind == 2 && w.header.target_socket == 2),
      quiet_replies n own zone id
          (Some w) ts good.1,
    )
  where
    by : (payload : List ℕ) → is_quiet (names_in payload) ≡ true → (b : Bool) → is_quiet (cond b (names_in payload) None) ≡ true
    by payload e true = e
    by payload e false = refl
