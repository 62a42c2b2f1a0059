-- A packet of routing data of a neighbour leaves rows fresh that are, and makes those fresh that it tells of.
use Rattle.std.proofs.Common.{◌≡◌, ℕ, zero, suc, ◌+◌, ◌*◌, ◌≤◌, ◌%◌, ◌==◌, Bool, true, false, not, ◌||◌, cond, if◌then◌else◌}
use Rattle.std.proofs.Common.{List, [], ◌∷◌, Some, None, refl, sym, ap, ◌∙◌, subst, slice_get, length, map, take, drop, arith, nat_lt, eqb-true, eq-eqb}
use Rattle.std.specs.List.{AllByRecursion as Each}
use Rattle.std.proofs.lemmas.Bool.{and_from, and_parts, not-false, or_parts}
use Rattle.std.proofs.Math.Nat.{add-mul-mod_self_left, mod-eq_of_lt}
use Rattle.at_base.specs.Range.{Span, is_between}
use Rattle.at_base.specs.declared.error.Place.TheVariants as place
use Rattle.audit.proofs.CableOrder.{only_cable}
use Rattle.audit.proofs.WalkLists.{At, at_below, at_within, index_found}
use Rattle.audit.specs.Places.{on}
use Rattle.audit.specs.Rules.{Passes, bad_address, bad_direct, bad_port}
use Rattle.cable_model.proofs.Counting.{filter_at}
use Rattle.lasting.proofs.Images.{dropped}
use Rattle.lasting.proofs.Refreshing.{IsFreshAt, ends_for, keeps_all, makes_all, near_row, row_for_cable}
use Rattle.learning.specs.Heard.{is_from_neighbour, routes_after}
use Rattle.rtmp.specs.Data.{RoutingData, data_of, tuples_of, written_of}
use Rattle.rtmp.specs.Routes.{heard_packet}
use Rattle.rtmp.specs.Sending.{own_tuple, packet_numbered, rows_sent, sent_tuple}
use Rattle.rtmp.specs.declared.request.Horizon.TheVariants.{Split}
use Rattle.rtmp.specs.declared.row.Row.{Row as RouteRow}
use Rattle.rtmp.specs.declared.tuple.Nonextended.TheVariants.{Skipped}
use Rattle.rtmp.specs.declared.tuple.Tuple.{Tuple}
use Rattle.settled.proofs.Exchange.{IsTupleOf}
use Rattle.settled.proofs.Next.{direct_good}
use Rattle.settled.specs.Exchange.{AreMovedRows, AreNeighbours}
use Rattle.settled.specs.Settling.{IsSettled}
use Rattle.table_image.specs.Bounds.{IsBounded}
use Rattle.table_image.specs.Internet.{Internet}
use Rattle.table_image.specs.declared.port.Port.{Port}
use Rattle.table_image.specs.declared.row.Row.{Row}

each_of : {X : Type 0} (P : X → Type 0) (xs : List X) → ((k : ℕ) (x : X) → At xs k x → P x) → Each P xs
each_of P [] h = tt
each_of P (x ∷ xs) h = (h zero x refl, each_of P xs (λ k y e. h (suc k) y e))

each_mapped : (P : RouteRow → Type 0) (Q : Tuple → Type 0) (f : RouteRow → Tuple) → ((x : RouteRow) → P x → Q (f x)) → (xs : List RouteRow)
    → Each P xs → Each Q (map f xs)
each_mapped P Q f h [] e = tt
each_mapped P Q f h (x ∷ xs) e = (h x e.0, each_mapped P Q f h xs e.1)

taken_at : {X : Type 0} (n : ℕ) (xs : List X) (k : ℕ) (x : X) → At (take n xs) k x → At xs k x
taken_at zero [] k x e = e
taken_at zero (y ∷ xs) k x e = cc
taken_at (suc n) [] k x e = e
taken_at (suc n) (y ∷ xs) zero x e = e
taken_at (suc n) (y ∷ xs) (suc k) x e = taken_at n xs k x e

-- a row in a window of those that are sent is one of the table
pub window_at : (q m : ℕ) (rows : List RouteRow) (j : ℕ) (c : RouteRow) → At (take 96 (drop (m * 96) (rows_sent Split q rows))) j c
    → (l : ℕ) × At rows l c
window_at q m rows j c e =
    let there = taken_at 96 (drop (m * 96) (rows_sent Split q rows)) j c e in
    let w = filter_at (λ (r : RouteRow). not (r.port == q)) rows (m * 96 + j) c (sym (dropped (m * 96) (rows_sent Split q rows) j) ∙ there) in
    (w.0, w.1)

mapped_at : (f : RouteRow → Tuple) (xs : List RouteRow) (k : ℕ) (x : RouteRow) → At xs k x → At (map f xs) k (f x)
mapped_at f [] k x e = cc
mapped_at f (y ∷ xs) zero x e = let is : y ≡ x = cc in ap (λ z. Some (f z)) is
mapped_at f (y ∷ xs) (suc k) x e = mapped_at f xs k x e

module _ (i : Internet) (ok : Passes i) (settled : IsSettled i) (bounded : IsBounded i) (r n s q : ℕ) (range : Span)
    (w : AreNeighbours i r n s q range) (theirs : List RouteRow) (from : AreMovedRows i s w.their theirs) where
  -- what a router sends of one of its rows, and first of the cable
  sent_told : (k : ℕ) (c : RouteRow) → At theirs k c → IsTupleOf i ok settled bounded s w.their (sent_tuple c)
  sent_told k c ec =
      let low = at_within theirs k c ec in
      let same = from.count in
      let before = at_below w.their.rows k (omega (arith, low, same)) in
      let moved = from.each k before.0 c before.1 ec in
      let span : ℕ → ℕ → Span = λ start end. record { start = start; end = end } in
      record {
        place = k;
        row = before.0;
        row_at = before.1;
        range = ap (λ n. span n c.range.end) (sym moved.start) ∙ ap (span before.0.start) (sym moved.end);
        far = ap (λ u. if u then c.distance else 31) moved.usable ∙ sym moved.distance;
      }

  own_told : IsTupleOf i ok settled bounded s w.their (own_tuple range)
  own_told =
      let at = w.cable_at in
      let mine = row_for_cable i ok settled bounded s w.their w.port.cable w.cable w.their_at at in
      let ends = ends_for i ok settled bounded mine.1 w.cable mine.3 in
      let of = sym (only_cable i mine.1 w.port.cable w.cable (ok 1) at mine.3) in
      let here = index_found (λ (z : Port). z.cable == w.port.cable) w.their.ports q w.their_port w.their_port_at (eq-eqb w.their_port.cable w.port.cable w.shared) in
      let good : bad_direct mine.1 (Some here.0) ≡ false =
      ap (bad_direct mine.1) (sym here.1) ∙ direct_good i ok s mine.0 w.their mine.1 w.port.cable w.their_at mine.2 of in
      let zero_far = (and_parts _ _ (and_parts _ _ (not-false _ good)).0).0 in
      let span : ℕ → ℕ → Span = λ start end. record { start = start; end = end } in
      record {
        place = mine.0;
        row = mine.1;
        row_at = mine.2;
        range = w.spans ∙ (ap (λ n. span n w.cable.end) (sym ends.0) ∙ ap (span mine.1.start) (sym ends.1));
        far = sym (eqb-true mine.1.distance 0 zero_far);
      }

  -- a packet's tuples are those that were written
  tuples_back : (ts : List Tuple) → Each (IsTupleOf i ok settled bounded s w.their) ts → tuples_of (map written_of ts) ≡ ts
  tuples_back [] told = refl
  tuples_back (t ∷ ts) told =
      let tuple : ℕ → Tuple = λ far. record { range = t.range; distance = far } in
      ap (λ far. tuple far ∷ tuples_of (map written_of ts)) far_back ∙ ap (λ l. t ∷ l) (tuples_back ts told.1)
    where
      low : t.distance ≤ 14
      low = let row = near_row i ok settled bounded s told.0.place w.their told.0.row w.their_at told.0.row_at in
          let far = told.0.far in omega (arith, row, far)

      far_back : (128 + t.distance) % 32 ≡ t.distance
      far_back =
          let sum : 128 + t.distance ≡ t.distance + 32 * 4 = omega arith in
          ap (λ m. m % 32) sum ∙ (add-mul-mod_self_left t.distance 32 4 ∙ mod-eq_of_lt (let l = low in omega (arith, l)))

  module _ (m : ℕ) (packet : RoutingData) (e : packet_numbered Split q range w.their_port.address m theirs ≡ Some packet) where
    abbrev window : List RouteRow
    window = take 96 (drop (m * 96) (rows_sent Split q theirs))

    abbrev sent : List Tuple
    sent = own_tuple range ∷ map sent_tuple window

    each_told : Each (IsTupleOf i ok settled bounded s w.their) sent
    each_told = (
      own_told,
      each_mapped (λ (c : RouteRow). IsTupleOf i ok settled bounded s w.their (sent_tuple c)) (IsTupleOf i ok settled bounded s w.their) sent_tuple (λ c t. t)
          window (each_of _ window (λ k c ec. let at = window_at q m theirs k c ec in sent_told at.0 c at.1)),
    )

    data_is : packet ≡ data_of w.their_port.address sent
    data_is = by_room (m == 0 || nat_lt (m * 96) (length (rows_sent Split q theirs))) e
      where
        by_room : (b : Bool) → cond b (Some (data_of w.their_port.address sent)) None ≡ Some packet → packet ≡ data_of w.their_port.address sent
        by_room true f = cc
        by_room false f = cc

    heard_is : (mine : List RouteRow) → heard_packet packet.router n (tuples_of packet.written) mine ≡ heard_packet w.their_port.address n sent mine
    heard_is mine =
        ap (λ (d : RoutingData). heard_packet d.router n (tuples_of d.written) mine) data_is
        ∙ ap (λ ts. heard_packet w.their_port.address n ts mine) (tuples_back sent each_told)

    -- rows that are fresh stay so
    pub data_keeps : (mine : List RouteRow) → AreMovedRows i r w.router mine → (l : ℕ) → IsFreshAt l mine → IsFreshAt l (routes_after Skipped range n packet mine)
    data_keeps mine moved l fresh = by (is_from_neighbour range packet)
      where
        by : (b : Bool) → IsFreshAt l (cond b (heard_packet packet.router n (tuples_of packet.written) mine) mine)
        by true =
            subst (IsFreshAt l) (sym (heard_is mine))
            (keeps_all i ok settled bounded r n s q range w sent each_told mine moved l fresh)
        by false = fresh

    near_address : is_between range.start range.end w.their_port.address.net ≡ true
    near_address =
        let bad : bad_port i s q w.their w.their_port ≡ false =
        sym (ap (λ o. on o (λ router. on (slice_get router.ports q) (bad_port i s q router))) w.their_at ∙ ap (λ o. on o (bad_port i s q w.their)) w.their_port_at)
        ∙ ok 2 (place.Port (suc s) (suc q)) in
        let address : bad_address i w.their_port.cable w.their_port.address w.their_port.hardware ≡ false = (or_parts _ _ (or_parts _ _ bad).0).0 in
        let here : on (slice_get i.cables w.their_port.cable) (λ c. is_between c.start c.end w.their_port.address.net) ≡ true =
        not-false _ (or_parts _ _ (or_parts _ _ (or_parts _ _ address).0).0).0 in
        let cable : slice_get i.cables w.their_port.cable ≡ Some w.cable = ap (slice_get i.cables) w.shared ∙ w.cable_at in
        ap (λ (z : Span). is_between z.start z.end w.their_port.address.net) w.spans
        ∙ (sym (ap (λ o. on o (λ c. is_between c.start c.end w.their_port.address.net)) cable) ∙ here)

    neighbour : is_from_neighbour range packet ≡ true
    neighbour =
        ap (is_from_neighbour range) data_is
        ∙ and_from (is_between range.start range.end w.their_port.address.net) _ near_address
        (and_from _ _ (eq-eqb range.start range.start refl) (eq-eqb range.end range.end refl))

    -- a row becomes fresh if the packet has a row of its range, one nearer
    pub data_makes : (mine : List RouteRow) → AreMovedRows i r w.router mine → (l : ℕ) (a : Row) → At w.router.rows l a
        → (j : ℕ) (c : RouteRow) → At (take 96 (drop (m * 96) (rows_sent Split q theirs))) j c → c.range.start ≡ a.start → c.distance + 1 ≡ a.distance
        → IsFreshAt l (routes_after Skipped range n packet mine)
    data_makes mine moved l a ea j c ec start far =
        let at = window_at q m theirs j c ec in
        let low = at_within theirs at.0 c at.1 in
        let same = from.count in
        let before = at_below w.their.rows at.0 (omega (arith, low, same)) in
        let usable = (from.each at.0 before.0 c before.1 at.1).usable in
        let tuple : (sent_tuple c).distance + 1 ≡ a.distance = ap (λ u. (if u then c.distance else 31) + 1) usable ∙ far in
        let fresh =
        makes_all i ok settled bounded r n s q range w sent each_told mine moved l a ea (suc j) (sent_tuple c) (mapped_at sent_tuple window j c ec) start tuple in
        subst (IsFreshAt l) (sym (ap (λ b. cond b (heard_packet packet.router n (tuples_of packet.written) mine) mine) neighbour))
        (subst (IsFreshAt l) (sym (heard_is mine)) fresh)
