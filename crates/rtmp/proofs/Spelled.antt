-- The bytes of a packet that is sent spell it, and are read back.
use Rattle.std.proofs.Common.{◌≡◌, ℕ, ◌+◌, ◌<◌, ◌≤◌, ◌%◌, Bool, true, ◌&&◌, List, [], ◌∷◌, ◌++◌, map, refl, sym, ◌∙◌, arith}
use Rattle.std.specs.Prelude.{nat_le}
use Rattle.std.specs.List.{list_all}
use Rattle.std.proofs.lemmas.Bool.{and_parts, leb-true, le-leb}
use Rattle.std.proofs.lemmas.List.{append-nil}
use Rattle.at_base.specs.declared.address.Addr.{Addr}
use Rattle.at_base.specs.Packets.{packets}
use Rattle.at_base.specs.Range.{Span, is_range}
use Rattle.at_base.specs.Spelling.{IsValue, bytes_of, list_bytes, ListPasses, Spells, Begins}
use Rattle.at_base.proofs.Ranges.{ends_of}
use Rattle.at_base.proofs.Readers.{begins_one}
use Rattle.rtmp.specs.declared.tuple.Tuple.{Tuple}
use Rattle.rtmp.specs.declared.written.Written.{Written}
use Rattle.rtmp.specs.Bytes.{head_bytes, tuple_bytes, tuples_bytes}
use Rattle.rtmp.specs.Data.{RoutingData, data_of, routing_data, written_of, written_tuple}
use Rattle.rtmp.specs.Sending.{own_tuple}
use Rattle.rtmp.proofs.Shape.{data_lawful}

-- the tuple can be written: its range is valid, and its distance is at most 31
abbrev pub is_tuple : Tuple → Bool
is_tuple t = is_range t.range.start t.range.end && nat_le t.distance 31

-- ---- one tuple

-- the ends of a valid range fit two bytes
range_fits : (start end : ℕ) → is_range start end ≡ true → (start < 65536) × (end < 65536)
range_fits start end h = let e = ends_of start end h in (omega (arith, e), omega (arith, e))

first_value : (own : Span) → is_range own.start own.end ≡ true → IsValue (written_tuple 0) (written_of (own_tuple own))
unfolding written_tuple
first_value own h =
    let f = range_fits own.start own.end h in ((f.0, refl), ((omega arith, refl), (((f.1, refl), ((omega arith, rw h refl), refl)), refl)))

later_value : (t : Tuple) → is_tuple t ≡ true → IsValue (written_tuple 1) (written_of t)
unfolding written_tuple
later_value t h =
    let p = and_parts (is_range t.range.start t.range.end) (nat_le t.distance 31) h in
    let f = range_fits t.range.start t.range.end p.0 in
    let near : t.distance ≤ 31 = leb-true _ _ p.1 in
    let extended : nat_le 128 (128 + t.distance) ≡ true = le-leb _ _ (omega arith) in
    ((f.0, refl), ((omega arith, refl), (rw extended ((f.1, refl), ((omega arith, rw p.0 refl), refl)), refl)))

written_bytes : (low : ℕ) (t : Tuple) → t.distance ≤ 31 → bytes_of (written_tuple low) (written_of t) ≡ tuple_bytes t
unfolding written_tuple
written_bytes low t near =
    let extended : nat_le 128 (128 + t.distance) ≡ true = le-leb _ _ (omega arith) in
    let third : (128 + t.distance) % 256 ≡ 128 + t.distance = omega arith in
    rw (extended, third) refl

-- ---- all tuples

later_values : (ts : List Tuple) → list_all is_tuple ts ≡ true
    → ListPasses (λ low. IsValue (written_tuple low)) (λ (w : Written). 1) 1 (map written_of ts)
later_values [] h = tt
later_values (t ∷ ts) h = let p = and_parts (is_tuple t) (list_all is_tuple ts) h in (later_value t p.0, later_values ts p.1)

later_bytes : (ts : List Tuple) → list_all is_tuple ts ≡ true
    → list_bytes (λ low. bytes_of (written_tuple low)) (λ (w : Written). 1) 1 (map written_of ts) ≡ tuples_bytes ts
later_bytes [] h = refl
later_bytes (t ∷ ts) h =
    let p = and_parts (is_tuple t) (list_all is_tuple ts) h in
    let near : t.distance ≤ 31 = leb-true _ _ (and_parts (is_range t.range.start t.range.end) (nat_le t.distance 31) p.0).1 in
    rw (written_bytes 1 t near, later_bytes ts p.1) refl

-- ---- the packet

pub data_spelled : (me : Addr) (own : Span) (ts : List Tuple) → me.net < 65536 → me.node < 256 → is_range own.start own.end ≡ true
    → list_all is_tuple ts ≡ true
    → Spells routing_data (head_bytes me ++ tuples_bytes (own_tuple own ∷ ts)) (data_of me (own_tuple own ∷ ts))
unfolding routing_data
data_spelled me own ts net node valid h =
    let third : me.node % 256 ≡ me.node = omega arith in (
      ((net, refl), ((omega arith, refl), ((node, refl), ((first_value own valid, later_values ts h), refl, refl)))),
      rw (third, written_bytes 0 (own_tuple own) (omega arith), later_bytes ts h) refl,
    )

-- ---- a written packet is read back

spelled_begins : (p : RoutingData) (bytes : List ℕ) → Spells routing_data bytes p → Begins routing_data bytes p
unfolding routing_data
spelled_begins p bytes (h, parts) = ([], parts ∙ sym (append-nil _), h, refl)

pub read_back : (p : RoutingData) (bytes : List ℕ) → Spells routing_data bytes p
    → Begins routing_data bytes p × ((q : RoutingData) → Begins routing_data bytes q → q ≡ p)
read_back p bytes s = let b = spelled_begins p bytes s in (b, λ q c. begins_one packets routing_data data_lawful bytes p q b c)
