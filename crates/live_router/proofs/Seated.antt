-- The ports of rows stay below a bound when rows are added or aged.
use Rattle.std.proofs.Common.{◌≡◌, ℕ, ◌+◌, ◌≤◌, Bool, true, false, cond, not, ◌==◌, List, [], ◌∷◌, length, map, filter, refl, arith}
use Rattle.std.specs.Prelude.{nat_lt}
use Rattle.std.specs.List.{list_all}
use Rattle.std.proofs.lemmas.Bool.{and_parts, lt-ltb}
use Rattle.aarp.specs.Choosing.{Choice}
use Rattle.at_base.proofs.Lists.{all_filter}
use Rattle.at_base.proofs.Spans.{all_with}
use Rattle.at_base.specs.Range.{Span, overlaps}
use Rattle.live_router.specs.Ticking.{all_joined, joined, routes_aged, settles}
use Rattle.router.proofs.Seated.{Seated, is_seated}
use Rattle.rtmp.specs.Routes.{aged, aged_row, beside, direct_row, directed, is_direct, is_over, older}
use Rattle.rtmp.specs.declared.row.Row.{Row}

-- ---- Lists of rows

-- if a function keeps the ports of rows below n, so does mapping it over rows
map_seated : (n : ℕ) (f : Row → Row) → ((r : Row) → is_seated n r ≡ true → is_seated n (f r) ≡ true) → (rows : List Row)
    → Seated n rows → Seated n (map f rows)
map_seated n f keeps [] h = refl
map_seated n f keeps (r ∷ rows) h =
    let p = and_parts (is_seated n r) (list_all (λ x. nat_lt x.port n) rows) h in
    rw (keeps r p.0, map_seated n f keeps rows p.1) refl

-- ---- Ticks

joined_seated : (n : ℕ) (range : Span) (k : ℕ) (rows : List Row) → nat_lt k n ≡ true → Seated n rows → Seated n (joined range k rows)
joined_seated n range k rows new h = by (nat_lt (length (beside range rows)) 200)
  where
    by : (b : Bool) → Seated n (cond b (directed range k rows) rows)
    by true =
        all_with (λ r. r.range) (is_seated n) (direct_row range k) (beside range rows) new
        (all_filter (is_seated n) (λ r. not (overlaps r.range range)) rows h)
    by false = h

-- after some of the ports, which are numbered from k, settled, the port of each row is below n
pub all_joined_seated : (n k : ℕ) (ports : List Choice) (rows : List Row) → k + length ports ≤ n → Seated n rows
    → Seated n (all_joined k ports rows)
all_joined_seated n k [] rows few h = h
all_joined_seated n k (c ∷ cs) rows few h =
    all_joined_seated n (k + 1) cs (cond (settles c) (joined c.range k rows) rows) (omega arith) (by (settles c))
  where
    by : (b : Bool) → Seated n (cond b (joined c.range k rows) rows)
    by true = joined_seated n c.range k rows (lt-ltb k n (omega arith)) h
    by false = h

aged_seated : (n : ℕ) (rows : List Row) → Seated n rows → Seated n (aged rows)
aged_seated n rows h =
    map_seated n aged_row (λ r old. by r (is_direct r) old) (filter (λ r. not (is_over r)) rows)
    (all_filter (is_seated n) (λ r. not (is_over r)) rows h)
  where
    by : (r : Row) (b : Bool) → is_seated n r ≡ true → is_seated n (cond b r (record r { state = older r.state })) ≡ true
    by r true old = old
    by r false old = old

-- after a tick in which rows may age, the port of each row is below n
pub routes_aged_seated : (n phase : ℕ) (rows : List Row) → Seated n rows → Seated n (routes_aged phase rows)
routes_aged_seated n phase rows h = by (phase == 0)
  where
    by : (b : Bool) → Seated n (cond b (aged rows) rows)
    by true = aged_seated n rows h
    by false = h
