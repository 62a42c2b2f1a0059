-- Ranges that aren't new: they stay so, whatever is heard.
use Rattle.std.proofs.Common.{◌≡◌, ℕ, ◌+◌, Bool, true, false, cond, not, ◌&&◌, ◌||◌, ◌==◌, List, [], ◌∷◌}
use Rattle.std.proofs.Common.{Option, Some, None, refl, nat_le, subst}
use Rattle.std.specs.List.{list_any}
use Rattle.std.proofs.lemmas.Bool.{or_parts}
use Rattle.at_base.specs.Address.{same_address}
use Rattle.at_base.specs.declared.address.Addr.{Addr}
use Rattle.at_base.specs.Range.{Span, overlaps}
use Rattle.at_base.proofs.Ranges.{one_range}
use Rattle.at_base.proofs.Spans.{put_cases}
use Rattle.rtmp.specs.States.{is_usable}
use Rattle.rtmp.specs.declared.row.Row.{Row}
use Rattle.rtmp.specs.declared.state.State.TheVariants.{Bad}
use Rattle.rtmp.specs.declared.table.Change.{Change}
use Rattle.rtmp.specs.declared.table.Change.TheVariants.{Ignored, Changed, Added}
use Rattle.rtmp.specs.declared.tuple.Tuple.{Tuple}
use Rattle.rtmp.specs.Routes.{after_hearing, brings_new, heard, heard_row, heard_within, is_direct, is_new, row_at, with_row}

-- a row overlaps the range
abbrev is_met : Span → List Row → Bool
is_met range rows = list_any (λ r. overlaps r.range range) rows

met_with : (q : Span) (row : Row) (rows : List Row) → is_met q rows ≡ true → is_met q (with_row row rows) ≡ true
met_with q row [] met = cc
met_with q row (r ∷ rows) met =
    put_cases (λ r. r.range) (λ l. is_met q l ≡ true) row r rows (λ t. later (overlaps r.range q) met (met_with q row rows))
    (λ s. subst (λ (own : Span). (overlaps own q || is_met q rows) ≡ true) (one_range r.range row.range s) met)
    (λ t s. next (overlaps row.range q))
  where
    later : (b : Bool) → (b || is_met q rows) ≡ true → (is_met q rows ≡ true → is_met q (with_row row rows) ≡ true)
        → (b || is_met q (with_row row rows)) ≡ true
    later true h rest = refl
    later false h rest = rest h

    next : (b : Bool) → (b || (overlaps r.range q || is_met q rows)) ≡ true
    next true = refl
    next false = met

met_heard : (q range : Span) (t : ℕ) (s : Addr) (port : ℕ) (rows : List Row) → is_met q rows ≡ true
    → is_met q (heard range t s port rows).0 ≡ true
met_heard q range t s port rows met = by (row_at range rows) refl
  where
    by_new : (b : Bool) → is_new range t rows ≡ b → row_at range rows ≡ None → is_met q (heard range t s port rows).0 ≡ true
    by_new true u e = rw (e, u) (met_with q (heard_row range t s port) rows met)
    by_new false u e = rw (e, u) met

    by : (o : Option Row) → row_at range rows ≡ o → is_met q (heard range t s port rows).0 ≡ true
    by (Some row) e = rw e (met_with q (after_hearing row t s port).0 rows met)
    by None e = by_new (is_new range t rows) refl e

met_within : (q range : Span) (t : ℕ) (s : Addr) (port : ℕ) (rows : List Row) → is_met q rows ≡ true
    → is_met q (heard_within range t s port rows) ≡ true
met_within q range t s port rows met = by _
  where
    by : (full : Bool) → is_met q (cond full rows (heard range t s port rows).0) ≡ true
    by true = met
    by false = met_heard q range t s port rows met

old_within : (u : Tuple) (range : Span) (t : ℕ) (s : Addr) (port : ℕ) (rows : List Row) → is_new u.range u.distance rows ≡ false
    → is_new u.range u.distance (heard_within range t s port rows) ≡ false
old_within u range t s port rows = by (nat_le u.distance 14) (is_met u.range rows) refl
  where
    by : (near met : Bool) → is_met u.range rows ≡ met → (near && not met) ≡ false
        → (near && not (is_met u.range (heard_within range t s port rows))) ≡ false
    by false met e old = refl
    by true true e old = rw (met_within u.range range t s port rows e) refl
    by true false e old = cc

-- after a tuple was heard none of these brings a new range, if none did before
pub none_brought : (tuples : List Tuple) (range : Span) (t : ℕ) (s : Addr) (port : ℕ) (rows : List Row) → brings_new tuples rows ≡ false
    → brings_new tuples (heard_within range t s port rows) ≡ false
none_brought [] range t s port rows none = refl
none_brought (u ∷ tuples) range t s port rows none =
    let parts = or_parts (is_new u.range u.distance rows) (brings_new tuples rows) none in
    rw (old_within u range t s port rows parts.0, none_brought tuples range t s port rows parts.1) refl

-- a row that is there is never added
never_added : (row : Row) (t : ℕ) (s : Addr) (port : ℕ) → (after_hearing row t s port).1 ≡ Added → ⊥
never_added row t s port =
    by (is_direct row) (nat_le t 14 && (not (is_usable row.state) || nat_le (t + 1) row.distance))
    (same_address row.next s && row.port == port) (nat_le t 14)
  where
    by : (direct nearer next near : Bool)
        → (cond {A = Row × Change} direct (row, Ignored) (cond nearer (heard_row row.range t s port, Changed)
        (cond next (cond near (heard_row row.range t s port) (record row { state = Bad }), Changed) (row, Ignored)))).1 ≡ Added → ⊥
    by true nearer next near = λ e. cc
    by false true next near = λ e. cc
    by false false true near = λ e. cc
    by false false false near = λ e. cc

-- a range that isn't new isn't added
pub not_added : (range : Span) (t : ℕ) (s : Addr) (port : ℕ) (rows : List Row) → is_new range t rows ≡ false
    → (heard range t s port rows).1 ≡ Added → ⊥
not_added range t s port rows old = by (row_at range rows) refl
  where
    by : (o : Option Row) → row_at range rows ≡ o → (heard range t s port rows).1 ≡ Added → ⊥
    by (Some row) e = rw e (never_added row t s port)
    by None e = rw (e, old) (λ h. cc)
