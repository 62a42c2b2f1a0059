-- Rows of a router that lead by their ports: a direct row has the range of its port's cable, and any other one's next router is
-- in that range.
use Rattle.std.proofs.Common.{◌≡◌, ◌⊎◌, inl, inr, ℕ, zero, suc, ◌+◌, ◌≤◌, ◌==◌, ◌&&◌, ◌||◌, Bool, true, false, not, cond, List, [], ◌∷◌, Option, Some, None}
use Rattle.std.proofs.Common.{refl, sym, ◌∙◌, subst, length, filter, nat_lt, if◌then◌else◌, arith, eqb-true, true≢false}
use Rattle.std.specs.Prelude.{nat_le}
use Rattle.std.specs.List.{AllByRecursion as Each}
use Rattle.std.proofs.lemmas.Bool.{and_parts, leb-true}
use Rattle.aarp.specs.Choosing.{Choice}
use Rattle.at_base.specs.Address.{same_address}
use Rattle.at_base.specs.Range.{Span, is_between, overlaps, same_range}
use Rattle.at_base.specs.declared.address.Addr.{Addr}
use Rattle.audit.proofs.WalkLists.{At, find_at}
use Rattle.cable_model.proofs.Counting.{each_at, each_map, each_more}
use Rattle.lasting.proofs.Idling.{each_kept}
use Rattle.learning.specs.Heard.{is_from_neighbour}
use Rattle.live_router.specs.Living.{routes_taught}
use Rattle.live_router.specs.Ticking.{all_joined, joined, routes_aged, settles}
use Rattle.router.specs.Holding.{hand, hand_by}
use Rattle.router.specs.declared.hand.Hand.{Hand}
use Rattle.router.specs.declared.hand.Hand.TheVariants.{Here, On, Nowhere}
use Rattle.rtmp.specs.Data.{RoutingData, own_range, tuples_heard}
use Rattle.rtmp.specs.Routes.{after_hearing, aged, aged_row, beside, direct_row, directed, heard, heard_packet, heard_row, heard_within, is_direct, is_new, is_over}
use Rattle.rtmp.specs.Routes.{older, poisoned, poisoned_row, row_at, row_for, with_row}
use Rattle.rtmp.specs.States.{is_usable}
use Rattle.rtmp.specs.declared.row.Row.{Row}
use Rattle.rtmp.specs.declared.state.State.TheVariants.{Bad}
use Rattle.rtmp.specs.declared.table.Change.{Change}
use Rattle.rtmp.specs.declared.table.Change.TheVariants.{Ignored, Changed, Added}
use Rattle.rtmp.specs.declared.tuple.Nonextended.TheVariants.{Skipped}
use Rattle.rtmp.specs.declared.tuple.Tuple.{Tuple}

-- the network is in the range
abbrev pub IsIn : Span → ℕ → Type 0
IsIn range net = is_between range.start range.end net ≡ true

-- the row is direct, with the range, or its next router is in it
abbrev pub LeadsIn : Span → Row → Type 0
LeadsIn range r = ((r.range ≡ range) × (is_direct r ≡ true)) ⊎ IsIn range r.next.net

-- the row leads in the range of its port, if this is one of the ports' ranges
abbrev pub LeadsRightly : List Span → Row → Type 0
LeadsRightly ranges r = (range : Span) → At ranges r.port range → LeadsIn range r

-- so do all of these rows
abbrev pub AreRight : List Span → List Row → Type 0
AreRight ranges rows = Each (LeadsRightly ranges) rows

module _ (ranges : List Span) where
  -- ---- Changes of rows

  -- rows with one more, or with one instead
  with_each : (P : Row → Type 0) (row : Row) (rows : List Row) → P row → Each P rows → Each P (with_row row rows)
  with_each P row [] p h = (p, tt)
  with_each P row (x ∷ rows) p h =
      by (nat_lt x.range.start row.range.start) (same_range x.range row.range) (with_each P row rows p h.1)
    where
      by : (b s : Bool) → Each P (with_row row rows)
          → Each P (if b then x ∷ with_row row rows else if s then row ∷ rows else row ∷ x ∷ rows)
      by true s rest = (h.0, rest)
      by false true rest = (p, h.1)
      by false false rest = (p, h)

  -- a row after ageing leads as before
  aged_one : (r : Row) → LeadsRightly ranges r → LeadsRightly ranges (aged_row r)
  aged_one r h = by (is_direct r)
    where
      by : (d : Bool) → LeadsRightly ranges (cond d r (record r { state = older r.state }))
      by true = h
      by false = h

  -- rows that age lead as before
  pub aged_right : (rows : List Row) → AreRight ranges rows → AreRight ranges (aged rows)
  aged_right rows h =
      each_map (LeadsRightly ranges) aged_row (filter (λ r. not (is_over r)) rows)
      (each_more (LeadsRightly ranges) (λ r. LeadsRightly ranges (aged_row r)) (filter (λ r. not (is_over r)) rows) aged_one
      (each_kept (LeadsRightly ranges) (λ r. not (is_over r)) rows h))

  -- and in a tick, whether or not they age
  pub routes_aged_right : (phase : ℕ) (rows : List Row) → AreRight ranges rows → AreRight ranges (routes_aged phase rows)
  routes_aged_right phase rows h = by (phase == 0)
    where
      by : (b : Bool) → AreRight ranges (if b then aged rows else rows)
      by true = aged_right rows h
      by false = h

  -- and where some of them become bad
  pub poisoned_right : (a : Addr) (rows : List Row) → AreRight ranges rows → AreRight ranges (poisoned a rows)
  poisoned_right a rows h =
      each_map (LeadsRightly ranges) (poisoned_row a) rows
      (each_more (LeadsRightly ranges) (λ r. LeadsRightly ranges (poisoned_row a r)) rows one h)
    where
      one : (r : Row) → LeadsRightly ranges r → LeadsRightly ranges (poisoned_row a r)
      one r g = by (not (is_direct r) && same_address r.next a)
        where
          by : (b : Bool) → LeadsRightly ranges (if b then record r { state = Bad } else r)
          by true = g
          by false = g

  -- ---- Ports that settle

  -- rows with a direct one of a port's range lead by their ports
  joined_right : (range : Span) (k : ℕ) (rows : List Row) → ((other : Span) → At ranges k other → range ≡ other) → AreRight ranges rows
      → AreRight ranges (joined range k rows)
  joined_right range k rows is h = by (nat_lt (length (beside range rows)) 200)
    where
      by : (b : Bool) → AreRight ranges (if b then directed range k rows else rows)
      by true =
          with_each (LeadsRightly ranges) (direct_row range k) (beside range rows) (λ other e. inl (is other e, refl))
          (each_kept (LeadsRightly ranges) (λ r. not (overlaps r.range range)) rows h)
      by false = h

  -- and with those of all ports that settle
  pub all_joined_right : (k : ℕ) (ports : List Choice) (rows : List Row)
      → ((j : ℕ) (c : Choice) (other : Span) → At ports j c → At ranges (k + j) other → c.range ≡ other) → AreRight ranges rows
      → AreRight ranges (all_joined k ports rows)
  all_joined_right k [] rows is h = h
  all_joined_right k (c ∷ cs) rows is h =
      all_joined_right (k + 1) cs (if settles c then joined c.range k rows else rows)
      (λ j d other ed eo.
      let same : (k + 1) + j ≡ k + suc j = omega arith in
      is (suc j) d other ed (subst (λ n. At ranges n other) same eo)) (by (settles c))
    where
      by : (b : Bool) → AreRight ranges (if b then joined c.range k rows else rows)
      by true =
          joined_right c.range k rows
          (λ other e. let none : k ≡ k + 0 = omega arith in is zero c other refl (subst (λ n. At ranges n other) none e)) h
      by false = h

  -- ---- Routing data

  module _ (s : Addr) (port : ℕ) (from : (range : Span) → At ranges port range → IsIn range s.net) where
    -- a row that is heard leads to the router that told it
    heard_one : (range : Span) (t : ℕ) → LeadsRightly ranges (heard_row range t s port)
    heard_one range t r e = inr (from r e)

    -- a row after hearing of its range leads so
    after_one : (row : Row) (t : ℕ) → LeadsRightly ranges row → LeadsRightly ranges (after_hearing row t s port).0
    after_one row t h =
        by (is_direct row) (nat_le t 14 && (not (is_usable row.state) || nat_le (t + 1) row.distance))
        (same_address row.next s && row.port == port) (nat_le t 14)
      where
        by : (d n o l : Bool)
            → LeadsRightly ranges (cond {A = Row × Change} d (row, Ignored)
            (cond n (heard_row row.range t s port, Changed)
            (cond o (if l then heard_row row.range t s port else record row { state = Bad }, Changed) (row, Ignored)))).0
        by true n o l = h
        by false true o l = heard_one row.range t
        by false false true true = heard_one row.range t
        by false false true false = h
        by false false false l = h

    -- rows after one report
    heard_right : (range : Span) (t : ℕ) (rows : List Row) → AreRight ranges rows → AreRight ranges (heard range t s port rows).0
    heard_right range t rows h = by (row_at range rows) refl
      where
        new : (b : Bool) → AreRight ranges (cond {A = List Row × Change} b (with_row (heard_row range t s port) rows, Added) (rows, Ignored)).0
        new true = with_each (LeadsRightly ranges) (heard_row range t s port) rows (heard_one range t) h
        new false = h

        by : (o : Option Row) → row_at range rows ≡ o → AreRight ranges (heard range t s port rows).0
        by (Some row) e =
            let at = find_at (λ (a : Row). same_range a.range range) rows row e in
            let old = each_at (LeadsRightly ranges) rows at.0 row at.1 h in
            rw e (with_each (LeadsRightly ranges) (after_hearing row t s port).0 rows (after_one row t old) h)
        by None e = rw e (new (is_new range t rows))

    -- and if the table has room for no more
    within_right : (t : Tuple) (rows : List Row) → AreRight ranges rows → AreRight ranges (heard_within t.range t.distance s port rows)
    within_right t rows h = by _
      where
        by : (b : Bool) → AreRight ranges (if b then rows else (heard t.range t.distance s port rows).0)
        by true = h
        by false = heard_right t.range t.distance rows h

    -- rows after all reports of a packet
    packet_right : (tuples : List Tuple) (rows : List Row) → AreRight ranges rows → AreRight ranges (heard_packet s port tuples rows)
    packet_right [] rows h = h
    packet_right (t ∷ tuples) rows h = packet_right tuples (heard_within t.range t.distance s port rows) (within_right t rows h)

  -- rows after routing data that was heard by a port, of a cable with this range
  pub taught_right : (port : ℕ) (rows : List Row) (o : Option Choice) (heard_data : Option RoutingData)
      → ((c : Choice) (range : Span) → o ≡ Some c → At ranges port range → c.range ≡ range) → AreRight ranges rows
      → AreRight ranges (routes_taught port rows o heard_data)
  taught_right port rows None heard_data is h = h
  taught_right port rows (Some c) None is h = h
  taught_right port rows (Some c) (Some packet) is h = by (is_from_neighbour c.range packet) refl
    where
      by : (b : Bool) → is_from_neighbour c.range packet ≡ b
          → AreRight ranges (if b then heard_packet packet.router port (tuples_heard Skipped packet.written) rows else rows)
      by true e =
          let parts = and_parts (is_between c.range.start c.range.end packet.router.net) (same_range (own_range packet) c.range) e in
          packet_right packet.router port
          (λ range at. subst (λ (z : Span). IsIn z packet.router.net) (is c range refl at) parts.0) (tuples_heard Skipped packet.written) rows h
      by false e = h

  -- ---- Where datagrams go

  -- the hand for a network leads in the range of its port, if it is one of the ports' ranges
  abbrev pub HandsRightly : ℕ → Hand → Type 0
  HandsRightly net Nowhere = Unit {0}
  HandsRightly net (Here q) = (range : Span) → At ranges q range → IsIn range net
  HandsRightly net (On q a) = (range : Span) → At ranges q range → IsIn range a.net

  -- the hand for each network leads so
  pub hand_right : (rows : List Row) (net : ℕ) → ((q : ℕ) (range : Span) → At ranges q range → 1 ≤ range.start) → AreRight ranges rows
      → HandsRightly net (hand rows net)
  hand_right rows net valid h = of (row_for net rows) refl
    where
      none_zero : (r : Row) → is_direct r ≡ true → r.next.net ≡ 0
      none_zero r e = eqb-true r.next.net 0 (and_parts (r.next.net == 0) (r.next.node == 0) e).0

      of_row : (r : Row) → LeadsRightly ranges r → IsIn r.range net → (d : Bool) → is_direct r ≡ d
          → HandsRightly net (cond d (Here r.port) (On r.port r.next))
      of_row r g within true e = λ range at. by range (g range at) (valid r.port range at)
        where
          by : (range : Span) → LeadsIn range r → 1 ≤ range.start → IsIn range net
          by range (inl w) low = subst (λ (z : Span). IsIn z net) w.0 within
          by range (inr w) low =
              let zero_next = none_zero r e in
              let le = leb-true _ _ (and_parts (nat_le range.start r.next.net) (nat_le r.next.net range.end) w).0 in
              absurd (omega (arith, zero_next, low, le))
      of_row r g within false e = λ range at. by range (g range at)
        where
          by : (range : Span) → LeadsIn range r → IsIn range r.next.net
          by range (inl w) = absurd (true≢false (sym w.1 ∙ e))
          by range (inr w) = w

      of : (o : Option Row) → row_for net rows ≡ o → HandsRightly net (hand_by o)
      of None e = tt
      of (Some r) e =
          let at = find_at (λ (r : Row). is_usable r.state && is_between r.range.start r.range.end net) rows r e in
          let g = each_at (LeadsRightly ranges) rows at.0 r at.1 h in
          of_row r g (and_parts (is_usable r.state) (is_between r.range.start r.range.end net) at.2).1 (is_direct r) refl
