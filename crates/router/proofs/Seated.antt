-- The ports of rows stay below a bound when routing data are heard.
use Rattle.std.proofs.Common.{◌≡◌, ℕ, ◌+◌, Bool, true, false, cond, not, ◌&&◌, ◌||◌, ◌==◌, List, [], ◌∷◌}
use Rattle.std.proofs.Common.{Option, Some, None, refl}
use Rattle.std.specs.Prelude.{nat_le, nat_lt, OnErr, OnOk, Result, Ok, Err}
use Rattle.at_base.specs.declared.error.Error.{Error}
use Rattle.std.specs.List.{list_all}
use Rattle.at_base.specs.Address.{same_address}
use Rattle.at_base.proofs.Lists.{found_all}
use Rattle.at_base.proofs.Spans.{all_with}
use Rattle.at_base.specs.Range.{Span, same_range}
use Rattle.at_base.specs.declared.address.Addr.{Addr}
use Rattle.learning.specs.Heard.{is_from_neighbour, routes_after}
use Rattle.rtmp.specs.declared.tuple.Nonextended.{Nonextended}
use Rattle.rtmp.specs.Data.{RoutingData, tuples_heard}
use Rattle.rtmp.specs.Routes.{after_hearing, heard, heard_packet, heard_row, heard_within, is_direct, is_new, row_at}
use Rattle.rtmp.specs.States.{is_usable}
use Rattle.rtmp.specs.declared.row.Row.{Row}
use Rattle.rtmp.specs.declared.state.State.TheVariants.{Bad}
use Rattle.rtmp.specs.declared.table.Change.{Change}
use Rattle.rtmp.specs.declared.table.Change.TheVariants.{Ignored, Changed}
use Rattle.rtmp.specs.declared.tuple.Tuple.{Tuple}

-- the row's port is below n
abbrev pub is_seated : ℕ → Row → Bool
is_seated n r = nat_lt r.port n

-- the port of each row is below n
abbrev pub Seated : ℕ → List Row → Type 0
Seated n rows = list_all (λ r. nat_lt r.port n) rows ≡ true

hearing_seated : (n : ℕ) (row : Row) (t : ℕ) (s : Addr) (port : ℕ) → is_seated n row ≡ true → nat_lt port n ≡ true
    → is_seated n (after_hearing row t s port).0 ≡ true
hearing_seated n row t s port old new =
    by (is_direct row) (nat_le t 14 && (not (is_usable row.state) || nat_le (t + 1) row.distance))
    (same_address row.next s && row.port == port) (nat_le t 14)
  where
    by : (direct nearer next near : Bool)
        → is_seated n (cond {A = Row × Change} direct (row, Ignored) (cond nearer (heard_row row.range t s port, Changed)
        (cond next (cond near (heard_row row.range t s port) (record row { state = Bad }), Changed) (row, Ignored)))).0 ≡ true
    by true nearer next near = old
    by false true next near = new
    by false false true true = new
    by false false true false = old
    by false false false near = old

heard_seated : (n : ℕ) (range : Span) (t : ℕ) (s : Addr) (port : ℕ) (rows : List Row) → nat_lt port n ≡ true → Seated n rows
    → Seated n (heard range t s port rows).0
heard_seated n range t s port rows new h = by (row_at range rows) refl
  where
    by_new : (b : Bool) → is_new range t rows ≡ b → row_at range rows ≡ None → Seated n (heard range t s port rows).0
    by_new true u e = rw (e, u) (all_with (λ r. r.range) (is_seated n) (heard_row range t s port) rows new h)
    by_new false u e = rw (e, u) h

    by : (o : Option Row) → row_at range rows ≡ o → Seated n (heard range t s port rows).0
    by (Some row) e =
        let old = found_all (is_seated n) (λ r. same_range r.range range) rows row h e in
        rw e (all_with (λ r. r.range) (is_seated n) (after_hearing row t s port).0 rows (hearing_seated n row t s port old new) h)
    by None e = by_new (is_new range t rows) refl e

within_seated : (n : ℕ) (range : Span) (t : ℕ) (s : Addr) (port : ℕ) (rows : List Row) → nat_lt port n ≡ true → Seated n rows
    → Seated n (heard_within range t s port rows)
within_seated n range t s port rows new h = by _
  where
    by : (full : Bool) → Seated n (cond full rows (heard range t s port rows).0)
    by true = h
    by false = heard_seated n range t s port rows new h

packet_seated : (n : ℕ) (s : Addr) (port : ℕ) (tuples : List Tuple) (rows : List Row) → nat_lt port n ≡ true → Seated n rows
    → Seated n (heard_packet s port tuples rows)
packet_seated n s port [] rows new h = h
packet_seated n s port (t ∷ tuples) rows new h =
    packet_seated n s port tuples (heard_within t.range t.distance s port rows) new
    (within_seated n t.range t.distance s port rows new h)

-- after a packet of routing data that was received on one of the ports, the port of each row is below n
pub after_seated : (n : ℕ) (kind : Nonextended) (range : Span) (port : ℕ) (p : RoutingData) (rows : List Row) → nat_lt port n ≡ true → Seated n rows
    → Seated n (routes_after kind range port p rows)
after_seated n kind range port p rows new h = by (is_from_neighbour range p)
  where
    by : (b : Bool) → Seated n (cond b (heard_packet p.router port (tuples_heard kind p.written) rows) rows)
    by true = packet_seated n p.router port (tuples_heard kind p.written) rows new h
    by false = h

-- after a call that hears such a packet or changes nothing, the port of each row is below n
pub learnt_seated : (n : ℕ) (kind : Nonextended) (range : Span) (port : ℕ) (p : RoutingData) (old new : List Row) (r : Result (Unit {0}) Error)
    → nat_lt port n ≡ true → Seated n old → OnOk r (new ≡ routes_after kind range port p old) → OnErr r (new ≡ old) → Seated n new
learnt_seated n kind range port p old new (Ok u) lt h ok err = rw ok (after_seated n kind range port p old lt h)
learnt_seated n kind range port p old new (Err e) lt h ok err = rw err h
