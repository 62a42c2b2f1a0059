-- The rows that a router sends on a port, one by one, as a loop over the table's indexes finds them.
use Rattle.std.proofs.Common.{◌≡◌, ℕ, zero, suc, ◌+◌, ◌-◌, ◌<◌, ◌≤◌, Bool, true, false, ◌==◌, List, [], ◌∷◌, ◌++◌, length, map, take, drop}
use Rattle.std.proofs.Common.{Some, None, refl, sym, ap, ◌∙◌, arith, append_assoc}
use Rattle.std.specs.Prelude.{nat_le, nat_lt, slice_get, ◌*◌, ◌||◌}
use Rattle.std.specs.List.{list_all}
use Rattle.std.proofs.lemmas.Bool.{and_parts, leb-true, le-leb, lt-ltb}
use Rattle.at_base.proofs.Cases.{by_test}
use Rattle.at_base.specs.declared.address.Addr.{Addr}
use Rattle.at_base.specs.Range.{Span, is_range}
use Rattle.rtmp.specs.declared.row.Row.{Row}
use Rattle.rtmp.specs.Bytes.{head_bytes, tuple_bytes, tuples_bytes}
use Rattle.rtmp.specs.Routes.{IsRouteMap, is_row}
use Rattle.at_base.specs.Spelling.{Spells}
use Rattle.rtmp.specs.Data.{routing_data}
use Rattle.rtmp.specs.Sending.{IsPacket, is_sent, own_tuple, packet_numbered, response_of, rows_sent, sent_tuple}
use Rattle.rtmp.specs.declared.request.Horizon.{Horizon}
use Rattle.rtmp.specs.States.{is_usable}
use Rattle.at_base.proofs.Lists.{all_filter}
use Rattle.rtmp.proofs.Spelled.{is_tuple, data_spelled}

-- ---- a row at an index

pub row_next : (rows : List Row) (i : ℕ) (r : Row) → slice_get rows i ≡ Some r → drop i rows ≡ r ∷ drop (i + 1) rows
row_next [] i r h = absurd cc
row_next (a ∷ rows) zero r h = let same : a ≡ r = cc in ap (λ (x : Row). x ∷ rows) same
row_next (a ∷ rows) (suc i) r h = let n : suc i + 1 ≡ suc (i + 1) = omega arith in rw n (row_next rows i r h)

pub none_next : (rows : List Row) (i : ℕ) → slice_get rows i ≡ None → i < length rows → ⊥
none_next [] i h lt = omega arith
none_next (a ∷ rows) zero h lt = cc
none_next (a ∷ rows) (suc i) h lt = none_next rows i h (omega arith)

row_good : (rows : List Row) (i : ℕ) (r : Row) → list_all is_row rows ≡ true → slice_get rows i ≡ Some r → is_row r ≡ true
row_good [] i r each h = absurd cc
row_good (a ∷ rows) zero r each h = let same : a ≡ r = cc in rw (← same) (and_parts (is_row a) (list_all is_row rows) each).0
row_good (a ∷ rows) (suc i) r each h = row_good rows i r (and_parts (is_row a) (list_all is_row rows) each).1 h

-- the distance sent for a row fits its byte
pub sent_near : (r : Row) → is_row r ≡ true → (sent_tuple r).distance ≤ 31
sent_near r h =
    let near : r.distance ≤ 31 = leb-true _ _ (and_parts (is_range r.range.start r.range.end) (nat_le r.distance 31) h).1 in
    by_test (is_usable r.state)
    (λ t. rw t near)
    (λ t. rw t (omega arith))

pub sent_at : (rows : List Row) (i : ℕ) (r : Row) → list_all is_row rows ≡ true → slice_get rows i ≡ Some r → (sent_tuple r).distance ≤ 31
sent_at rows i r each h = sent_near r (row_good rows i r each h)

-- ---- rows that are sent

pub sent_skip : (h : Horizon) (port : ℕ) (r : Row) (rows : List Row) → is_sent h port r ≡ false
    → rows_sent h port (r ∷ rows) ≡ rows_sent h port rows
sent_skip h port r rows t = rw t refl

pub sent_take : (h : Horizon) (port : ℕ) (r : Row) (rows : List Row) → is_sent h port r ≡ true
    → rows_sent h port (r ∷ rows) ≡ r ∷ rows_sent h port rows
sent_take h port r rows t = rw t refl

-- the bytes of up to count rows that are sent, after the first left_out of them
abbrev pub window : Horizon → ℕ → ℕ → ℕ → List Row → List ℕ
window h port left_out count rows = tuples_bytes (map sent_tuple (take count (drop left_out (rows_sent h port rows))))

pub window_skip : (h : Horizon) (port left_out count : ℕ) (r : Row) (rows : List Row) → is_sent h port r ≡ false
    → window h port left_out count (r ∷ rows) ≡ window h port left_out count rows
window_skip h port left_out count r rows t = rw (sent_skip h port r rows t) refl

pub window_later : (h : Horizon) (port left_out count : ℕ) (r : Row) (rows : List Row) → is_sent h port r ≡ true → 0 < left_out
    → window h port left_out count (r ∷ rows) ≡ window h port (left_out - 1) count rows
window_later h port left_out count r rows t some =
    let n : left_out ≡ suc (left_out - 1) = omega arith in
    let e : drop left_out (r ∷ rows_sent h port rows) ≡ drop (left_out - 1) (rows_sent h port rows) =
    ap (λ (k : ℕ). drop k (r ∷ rows_sent h port rows)) n in
    rw (sent_take h port r rows t, e) refl

pub window_sent : (h : Horizon) (port count : ℕ) (r : Row) (rows : List Row) → is_sent h port r ≡ true → 0 < count
    → window h port 0 count (r ∷ rows) ≡ tuple_bytes (sent_tuple r) ++ window h port 0 (count - 1) rows
window_sent h port count r rows t some =
    let n : count ≡ suc (count - 1) = omega arith in
    let e : take count (r ∷ rows_sent h port rows) ≡ r ∷ take (count - 1) (rows_sent h port rows) =
    ap (λ (k : ℕ). take k (r ∷ rows_sent h port rows)) n in
    rw (sent_take h port r rows t, e) refl

-- ---- the invariant of the loop: the bytes written and those still to be written are all bytes

-- a row is written
pub goes_on_written : (h : Horizon) (port left_out count : ℕ) (r : Row) (rest : List Row) (items written total : List ℕ)
    → items ++ window h port left_out count (r ∷ rest) ≡ total → is_sent h port r ≡ true → left_out ≤ 0 → 0 < count
    → written ≡ items ++ tuple_bytes (sent_tuple r) → written ++ window h port left_out (count - 1) rest ≡ total
goes_on_written h port left_out count r rest items written total so_far other none some is =
    let z : left_out ≡ 0 = omega arith in
    let step : window h port left_out count (r ∷ rest) ≡ tuple_bytes (sent_tuple r) ++ window h port left_out (count - 1) rest =
    rw z (window_sent h port count r rest other some) in
    let bytes : written ++ window h port left_out (count - 1) rest ≡ items ++ window h port left_out count (r ∷ rest) =
    rw (is, step) (simp append_assoc) in
    bytes ∙ so_far

-- enough rows were written
pub goes_on_full : (h : Horizon) (port left_out count : ℕ) (rows rest : List Row) (items total : List ℕ)
    → items ++ window h port left_out count rows ≡ total → count ≤ 0 → items ++ window h port left_out count rest ≡ total
goes_on_full h port left_out count rows rest items total so_far none =
    let z : count ≡ 0 = omega arith in
    let a : window h port left_out count rows ≡ [] = rw z refl in
    let b : window h port left_out count rest ≡ [] = rw z refl in
    ap (λ (l : List ℕ). items ++ l) (b ∙ sym a) ∙ so_far

-- ---- every row that is sent can be written

all_take : (n : ℕ) (rows : List Row) → list_all is_row rows ≡ true → list_all is_row (take n rows) ≡ true
all_take zero rows h = refl
all_take (suc n) [] h = refl
all_take (suc n) (r ∷ rows) h = let p = and_parts (is_row r) (list_all is_row rows) h in rw (p.0, all_take n rows p.1) refl

all_drop : (n : ℕ) (rows : List Row) → list_all is_row rows ≡ true → list_all is_row (drop n rows) ≡ true
all_drop zero rows h = h
all_drop (suc n) [] h = refl
all_drop (suc n) (r ∷ rows) h = all_drop n rows (and_parts (is_row r) (list_all is_row rows) h).1

all_sent : (rows : List Row) → list_all is_row rows ≡ true → list_all is_tuple (map sent_tuple rows) ≡ true
all_sent [] h = refl
all_sent (r ∷ rows) h =
    let p = and_parts (is_row r) (list_all is_row rows) h in
    let valid : is_range r.range.start r.range.end ≡ true = (and_parts (is_range r.range.start r.range.end) (nat_le r.distance 31) p.0).0 in
    let near : nat_le (sent_tuple r).distance 31 ≡ true = le-leb _ _ (sent_near r p.0) in
    rw (valid, near, all_sent rows p.1) refl

pub window_good : (h : Horizon) (port left_out : ℕ) (rows : List Row) → list_all is_row rows ≡ true
    → list_all is_tuple (map sent_tuple (take 96 (drop left_out (rows_sent h port rows)))) ≡ true
window_good h port left_out rows good =
    let sent = rows_sent h port rows in
    all_sent (take 96 (drop left_out sent))
    (all_take 96 (drop left_out sent) (all_drop left_out sent (all_filter is_row (λ r. is_sent h port r) rows good)))

-- ---- the packet with a number

pub numbered : (h : Horizon) (port : ℕ) (own : Span) (me : Addr) (n : ℕ) (rows : List Row) (bytes : List ℕ)
    → (n == 0 || nat_lt (n * 96) (length (rows_sent h port rows))) ≡ true
    → IsRouteMap rows → me.net < 65536 → me.node < 256 → is_range own.start own.end ≡ true
    → bytes ≡ head_bytes me ++ tuple_bytes (own_tuple own) ++ window h port (n * 96) 96 rows
    → IsPacket (packet_numbered h port own me n rows) (Some bytes)
numbered h port own me n rows bytes there good net node valid is =
    rw (there, is) (data_spelled me own (map sent_tuple (take 96 (drop (n * 96) (rows_sent h port rows)))) net node valid
    (window_good h port (n * 96) rows good.each))

-- the parts of a packet, written one after the other
pub laid : (me : Addr) (own : Span) (rest a b d : List ℕ) → a ≡ [] → b ≡ a ++ head_bytes me ++ tuple_bytes (own_tuple own) → d ≡ b ++ rest
    → d ≡ head_bytes me ++ tuple_bytes (own_tuple own) ++ rest
laid me own rest a b d pa pb pd = rw (pd, pb, pa) refl

-- the packet with a number is sent: it is the first one, or rows are left for it
pub there_first : (n len : ℕ) → n ≤ 0 → (n == 0 || nat_lt (n * 96) len) ≡ true
there_first n len h = let z : n ≡ 0 = omega arith in rw z refl

or_true : (b : Bool) → (b || true) ≡ true
or_true true = refl
or_true false = refl

pub there_later : (n len : ℕ) → n * 96 < len → (n == 0 || nat_lt (n * 96) len) ≡ true
there_later n len h = rw (lt-ltb (n * 96) len h) (or_true (n == 0))

-- ---- the response to a request for a router

pub answered : (me : Addr) (own : Span) (bytes a b : List ℕ) → me.net < 65536 → me.node < 256 → is_range own.start own.end ≡ true
    → a ≡ [] → b ≡ a ++ head_bytes me ++ tuple_bytes (own_tuple own) → bytes ≡ b → Spells routing_data bytes (response_of me own)
answered me own bytes a b net node valid pa pb is = rw (is, pb, pa) (data_spelled me own [] net node valid refl)
