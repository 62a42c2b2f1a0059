-- Properties of every frame of a legal transcript, and of the stations that hear it.
use Rattle.std.proofs.Common.{◌≡◌, ◌≢◌, ℕ, suc, ◌+◌, ◌<◌, ◌≤◌, inl, inr, Bool, true, false, not, ◌&&◌, ◌||◌, ◌==◌, cond, List, [], ◌∷◌}
use Rattle.std.proofs.Common.{Option, Some, None, is_some, filter, refl, sym, ap, ◌∙◌, subst, arith, true≢false, lt-ltb}
use Rattle.std.specs.List.{AllByRecursion as Each}
use Rattle.std.proofs.lemmas.Bool.{eqb-false}
use Rattle.at_base.specs.Address.{same_address}
use Rattle.at_base.specs.declared.address.Addr.{Addr}
use Rattle.at_base.specs.declared.address.Hw.{Hw}
use Rattle.audit.specs.Routing.{Hand, Here, On, Nowhere, hand, home}
use Rattle.audit.specs.Rules.{Passes}
use Rattle.table_image.specs.Seats.{Seat as PlaceOf, seat_at, seats}
use Rattle.audit.proofs.WalkLists.{at_append, at_map}
use Rattle.cable_model.specs.Outcomes.{framed, leg as leg_on, to_other, to_target}
use Rattle.cable_model.specs.Pending.{Pair, is_heard, pairs, pairs_of, pending, was_ended}
use Rattle.at_base.specs.Multicast.{all_hw, group_hw, is_all}
use Rattle.cable_model.specs.Transcript.{Entry, Dropped, Frame, Hold, Lost, Put, Reached, Sent, Took, next_stamp, stamps}
use Rattle.cable_model.specs.declared.entry.How.TheVariants as how
use Rattle.cable_model.specs.declared.seat.Seat.{Seat}
use Rattle.cable_model.proofs.Counting.{At, contained_at, each-append, each_at, filter_at}
use Rattle.ddp.specs.Bodies.{body, hops, target}
use Rattle.legal_runs.specs.Answers.{ByRouter, MayLeave, IsBody, IsMade, OnCable, Straight, ToThem, ToThese}
use Rattle.legal_runs.specs.Legal.{IsLegal}
use Rattle.legal_runs.specs.Losses.{Another, Nothing as NoneSaid, Said}
use Rattle.legal_runs.specs.Legs.{Leg, fate, fate_by, final, found_at, is_copy, is_unicast, leg, leg_bytes, passed, places_of, sender}
use Rattle.legal_runs.specs.Stations.{cable_seat, cable_seats, has_address}
use Rattle.legal_runs.proofs.Frames.{Framed, body_stays, hops_are, target_inside, target_stays, whole}
use Rattle.legal_runs.proofs.Passing.{copy_parts}
use Rattle.legal_runs.proofs.Lossy.{lossy_pending, whole_is}
use Rattle.legal_runs.proofs.Rising.{GoesOn, IsRising, RisingBlock, SendsOne, Starts, TakesOne, legal_rises}
use Rattle.legal_runs.proofs.Runs.{rising_run}
use Rattle.legal_runs.proofs.Seated.{home_is, listed_some}
use Rattle.std.specs.Prelude.{Contains}
use Rattle.station.specs.declared.heard.Kind.TheVariants.{Ddp}
use Rattle.station.specs.declared.output.DropCause.TheVariants.{HopLimit}
use Rattle.station.specs.declared.output.Next.{Next}
use Rattle.station.specs.declared.output.Next.TheVariants as next
use Rattle.table_image.specs.Internet.{Internet}
use Rattle.resolved_runs.specs.Fitting.{SeatsFit}
use Rattle.resolved_runs.specs.Plain.{plain}
use Rattle.resolved_runs.specs.ResolvedRuns.{IsLegalResolved}
use Rattle.resolved_runs.proofs.Erased.{erases}
use Rattle.resolved_runs.proofs.Standing.{pending_plain}

-- The frame has a datagram with a whole body; a datagram in a frame to one station isn't for network 0.
pub record IsFine (f : Frame) : Type 0 where
  pub kind : f.kind ≡ Ddp
  pub is_body : IsBody (body f.bytes)
  pub some : is_unicast f.to ≡ true → (target f.bytes).net ≢ 0

-- A frame that is put satisfies `IsFine`.
abbrev AreFine : Entry → Type 0
AreFine (Put f) = IsFine f
AreFine _ = Unit {0}

-- ---- Pairs come from frames and seats

pair_from : (seats : List Seat) (es : List Entry) (k : ℕ) (p : Pair) → At (pairs seats es) k p
    → ((m : ℕ) × At es m (Put p.frame)) × ((j : ℕ) × At seats j p.seat)
pair_from seats [] k p e = cc
pair_from seats (Put f ∷ es) k p e =
    elim (at_append (pairs_of seats (Put f)) (pairs seats es) k p e) as
    (λ _. ((m : ℕ) × At (Put f ∷ es) m (Put p.frame)) × ((j : ℕ) × At seats j p.seat)) [
      | inl h ↦
          let w = at_map (λ (s : Seat). record { frame = f; seat = s }) (filter (is_heard f) seats) k p h in
          let g = filter_at (is_heard f) seats k w.0 w.1 in
          ((0, ap (λ (x : Pair). Some (Put x.frame)) (sym w.2)), (g.0, g.1 ∙ ap (λ (x : Pair). Some x.seat) (sym w.2)))
      | inr w ↦ let h = pair_from seats es w.0 p w.2 in ((suc h.0.0, h.0.1), h.1)
    ]
pair_from seats (Sent s b ∷ es) k p e = let h = pair_from seats es k p e in ((suc h.0.0, h.0.1), h.1)
pair_from seats (Took t s ∷ es) k p e = let h = pair_from seats es k p e in ((suc h.0.0, h.0.1), h.1)
pair_from seats (Reached c s w b ∷ es) k p e = let h = pair_from seats es k p e in ((suc h.0.0, h.0.1), h.1)
pair_from seats (Dropped r c b ∷ es) k p e = let h = pair_from seats es k p e in ((suc h.0.0, h.0.1), h.1)
pair_from seats (Lost t ∷ es) k p e = let h = pair_from seats es k p e in ((suc h.0.0, h.0.1), h.1)
pair_from seats (Hold d ∷ es) k p e = let h = pair_from seats es k p e in ((suc h.0.0, h.0.1), h.1)

-- ---- Frames of legs

-- The next receiver of a leg to this network: a station if the network isn't 0, all stations, or a valid group.
abbrev IsNextOf : ℕ → Next → Type 0
IsNextOf net (next.Station a) = net ≢ 0
IsNextOf net next.All = Unit {0}
IsNextOf net (next.Group g) = g < 253

group_is : (g : ℕ) → g < 253 → is_unicast (group_hw g) ≡ false
group_is g lt = ap (λ b. not (is_all (group_hw g)) && not (true && b)) (lt-ltb g 253 lt) ∙ last (is_all (group_hw g))
  where
    last : (b : Bool) → (not b && not (true && true)) ≡ false
    last true = refl
    last false = refl

module _ (i : Internet) (ok : Passes i) where
  goes_next : (l : Leg) → MayLeave i l → IsNextOf (target l.body).net l.next
  goes_next l (Straight e on single one) =
      subst (IsNextOf (target l.body).net) (sym e)
      (λ z. (let low = listed_some i ok (target l.body).net l.cable (home_is i ok (target l.body).net l.cable on) in absurd (omega
      (arith, low, z))))
  goes_next l (ByRouter a r e own some) = subst (IsNextOf (target l.body).net) (sym e) some
  goes_next l (ToThem e on all) = subst (IsNextOf (target l.body).net) (sym e) tt
  goes_next l (OnCable e none all) = subst (IsNextOf (target l.body).net) (sym e) tt
  goes_next l (ToThese g lt e none all) = subst (IsNextOf (target l.body).net) (sym e) lt

  module _ (stamp : ℕ) (l : Leg) (is : IsBody l.body) (few : l.hops ≤ 15) where
    put_fine : (to : Hw) → (is_unicast to ≡ true → (target l.body).net ≢ 0)
        → AreFine (framed (sender stamp l) to Ddp (leg_bytes l))
    put_fine to some = record {
      kind = refl;
      is_body = subst IsBody (sym (body_stays l.hops few l.body ∙ (whole l.body is).same)) is;
      some = λ u z. some u (sym (ap (λ (a : Addr). a.net) (target_stays l.hops few l.body)) ∙ z);
    }

    target_fine : (o : Option PlaceOf) → (target l.body).net ≢ 0
        → Each AreFine (to_target (sender stamp l) (leg_bytes l) (found_at o))
    target_fine None some = (tt, tt)
    target_fine (Some s) some = (tt, (put_fine s.hardware (λ u. some), tt))

    other_fine : (o : Option PlaceOf) → (target l.body).net ≢ 0
        → Each AreFine (to_other (sender stamp l) (leg_bytes l) (found_at o))
    other_fine None some = tt
    other_fine (Some s) some = (put_fine s.hardware (λ u. some), tt)

    leg_fine : (n : Next) → IsNextOf (target l.body).net n
        → Each AreFine (leg_on (places_of i) (sender stamp l) n (leg_bytes l))
    leg_fine (next.Station a) some =
        let found = found_at (seat_at i l.cable a) in
        elim (same_address (target (leg_bytes l)) a) as (λ b. Each AreFine (cond b
        (to_target (sender stamp l) (leg_bytes l) found)
        (to_other (sender stamp l) (leg_bytes l) found))) [
          | true ↦ target_fine (seat_at i l.cable a) some
          | false ↦ other_fine (seat_at i l.cable a) some
        ]
    leg_fine next.All some =
        let all = put_fine all_hw (λ u. absurd (true≢false (sym u))) in
        let frame = framed (sender stamp l) all_hw Ddp (leg_bytes l) in
        elim (is_some (home i (target (leg_bytes l)).net)) as (λ b. Each AreFine (cond b
        (Reached l.cable l.station how.All (body (leg_bytes l)) ∷ frame ∷ []) (frame ∷ []))) [
          | true ↦ (tt, (all, tt))
          | false ↦ (all, tt)
        ]
    leg_fine (next.Group g) lt = (put_fine (group_hw g) (λ u. absurd (true≢false (sym u ∙ group_is g lt))), tt)

  said_fine : (n : ℕ) (ls : List Leg) (es : List Entry) → Said i n ls es → Each (IsMade i) ls → Each AreFine es
  said_fine n ls es (NoneSaid m) made = tt
  said_fine n ls es (Another m stamp l more fs le rest) made =
      let fresh = made.0.fresh in (
        tt,
        each-append AreFine (leg i stamp l) fs
            (leg_fine stamp l made.0.whole (omega (arith, fresh)) l.next (goes_next l made.0.goes))
            (said_fine (stamp + stamps (leg i stamp l)) more fs rest made.1),
      )

  -- ---- Frames of fates

  module _ (stamp : ℕ) (p : Pair) (f : Framed p.frame.bytes) (is : IsBody (body p.frame.bytes)) where
    few_hops : hops p.frame.bytes ≤ 15
    few_hops =
        let e : hops p.frame.bytes ≡ f.count = ap hops f.is ∙ hops_are f.count f.few f.inside f.whole.long in
        let few = f.few in
        omega (arith, e, few)

    on_fine : (r c : ℕ) (whom : Next) → IsNextOf (target (body p.frame.bytes)).net whom
        → Each AreFine (cond (hops p.frame.bytes == 15) (Dropped r HopLimit (body p.frame.bytes) ∷ []) (leg i stamp (passed r p c whom)))
    on_fine r c whom fine = by (hops p.frame.bytes == 15) refl
      where
        by : (b : Bool) → (hops p.frame.bytes == 15) ≡ b
            → Each AreFine (cond b (Dropped r HopLimit (body p.frame.bytes) ∷ []) (leg i stamp (passed r p c whom)))
        by true e = (tt, tt)
        by false e =
            let few = few_hops in
            let apart = eqb-false (hops p.frame.bytes) 15 e in
            leg_fine stamp (passed r p c whom) is (omega (arith, few, apart)) whom fine

    by_hand : (target (body p.frame.bytes)).net ≢ 0 → (r : ℕ) (h : Hand) → Each AreFine (fate_by i stamp r p h)
    by_hand some r Nowhere = (tt, tt)
    by_hand some r (Here c) =
        elim ((target p.frame.bytes).node == 0 || has_address i r c (target p.frame.bytes)) as
        (λ b. Each AreFine (cond b (Reached c r how.Own (body p.frame.bytes) ∷ [])
        (cond (hops p.frame.bytes == 15) (Dropped r HopLimit (body p.frame.bytes) ∷ [])
        (leg i stamp (passed r p c (final (target p.frame.bytes))))))) [
          | true ↦ (tt, tt)
          | false ↦ on_fine r c (final (target p.frame.bytes)) (by_node ((target p.frame.bytes).node == 255))
        ]
      where
        by_node : (b : Bool) → IsNextOf (target (body p.frame.bytes)).net (cond b next.All (next.Station (target p.frame.bytes)))
        by_node true = tt
        by_node false = some
    by_hand some r (On s c a) = on_fine r c (next.Station a) some

    fate_fine : Each AreFine (fate i stamp p)
    fate_fine = by (is_copy i p) refl
      where
        by : (b : Bool) → is_copy i p ≡ b
            → Each AreFine (cond b (fate_by i stamp p.seat.station p (hand i p.seat.station (target p.frame.bytes).net)) [])
        by true e =
            by_hand (λ z. (copy_parts i p e).some (sym (ap (λ (a : Addr). a.net) (target_inside p.frame.bytes f)) ∙ z)) p.seat.station
            (hand i p.seat.station (target p.frame.bytes).net)
        by false e = tt

  -- ---- Transcripts

  -- The properties of a pair that a station takes: its frame has a body with a hop count, and its seat is one of the
  -- internet's.
  pub record Arrives (p : Pair) : Type 0 where
    pub fine : IsFine p.frame
    pub framed : Framed p.frame.bytes
    pub place : ℕ
    pub seat : PlaceOf
    pub at : At (seats i) place seat
    pub seat_is : p.seat ≡ cable_seat i seat

  arrives_by : (t : List Entry) (p : Pair) → IsRising i t → Each AreFine t → Contains (pending (cable_seats i) t) p → Arrives p
  arrives_by t p rising fine there =
      let k = contained_at (pending (cable_seats i) t) p there in
      let w = filter_at (λ q. not (was_ended t q)) (pairs (cable_seats i) t) k.0 p k.1 in
      let framed = each_at (λ q. Framed q.frame.bytes) (pairs (cable_seats i) t) w.0 p w.1 (rising_run i ok t rising).framed in
      let from = pair_from (cable_seats i) t w.0 p w.1 in
      let mine = each_at AreFine t from.0.0 (Put p.frame) from.0.1 fine in
      let s = at_map (cable_seat i) (seats i) from.1.0 p.seat from.1.1 in
      record {
        fine = mine;
        framed = framed;
        place = from.1.0;
        seat = s.0;
        at = s.1;
        seat_is = s.2;
      }

  all_fine : (t : List Entry) → IsRising i t → Each AreFine t
  all_fine t Starts = tt
  all_fine t (GoesOn front block rising b) = let before = all_fine front rising in each-append AreFine front block before (by before b)
    where
      by : {es : List Entry} → Each AreFine front → RisingBlock i front es → Each AreFine es
      by before (SendsOne l es made own said) = said_fine (next_stamp front) (l ∷ []) es said (made, tt)
      by before (TakesOne p ls es there made its answers handled) =
          let a = arrives_by front p rising before there in (
            tt,
            subst (Each AreFine) (sym handled.whole)
                (each-append AreFine (fate i handled.stamp p) handled.rest (fate_fine handled.stamp p a.framed a.fine.is_body)
                (said_fine (handled.stamp + stamps (fate i handled.stamp p)) ls handled.rest handled.said made)),
          )

  arrives_rising : (t : List Entry) (p : Pair) → IsRising i t → Contains (pending (cable_seats i) t) p → Arrives p
  arrives_rising t p rising there = arrives_by t p rising (all_fine t rising) there

  pub arrives : (t : List Entry) (p : Pair) → IsLegal i t → Contains (pending (cable_seats i) t) p → Arrives p
  arrives t p legal there = arrives_rising t p (legal_rises i t legal) there

  -- The same where addresses are resolved.
  pub arrives_resolved : (t : List Entry) (p : Pair) → SeatsFit i → IsLegalResolved i t → Contains (pending (cable_seats i) t) p
      → p.frame.kind ≡ Ddp → Arrives p
  arrives_resolved t p fit legal there kind =
      let e = erases i ok fit t legal in
      let w = whole_is i (plain i t) e.legal in
      arrives_rising w.entries p w.rising
      (lossy_pending (cable_seats i) w.entries (plain i t) p w.lossy (pending_plain i t p e.told there kind))
