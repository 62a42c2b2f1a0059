-- What the entries of a leg or of a fate add to the frames with a body that is to a station's address: a leg adds one, to
-- the station or to a router; a router that isn't the station passes it on, and the station doesn't.
use Rattle.std.proofs.Common.{◌≡◌, ◌≢◌, ℕ, ◌+◌, ◌<◌, ◌≤◌, Bool, true, false, cond, not, ◌||◌, ◌&&◌, ◌==◌, List, [], ◌∷◌, ◌++◌, Some, length}
use Rattle.std.proofs.Common.{append-nil, ap, arith, eq-eqb, eqb-true, lt-ltb, refl, subst, sym, ◌∙◌, true≢false}
use Rattle.std.specs.List.{AllByRecursion as Each}
use Rattle.std.proofs.lemmas.Bool.{and_right, false_from_ne_true, ne_eqb}
use Rattle.at_base.proofs.Texts.{same_bytes_is}
use Rattle.at_base.specs.Address.{same_address}
use Rattle.at_base.specs.Multicast.{is_all, is_group}
use Rattle.at_base.specs.Text.{same_bytes}
use Rattle.at_base.specs.declared.address.Addr.{Addr}
use Rattle.ddp.specs.Bodies.{body, hops, target}
use Rattle.table_image.specs.Internet.{Internet}
use Rattle.table_image.specs.Seats.{Seat as PlaceOf, seat_at, seats}
use Rattle.audit.specs.Routing.{Here, hand, home}
use Rattle.audit.specs.Rules.{Passes}
use Rattle.audit.specs.Walks.{Stops, StepsTo as GoesBy}
use Rattle.audit.proofs.Finding.{any_at}
use Rattle.audit.proofs.SeatUnique.{addressed, unique}
use Rattle.audit.proofs.WalkFacts.{owner_is}
use Rattle.audit.proofs.WalkLists.{at_one}
use Rattle.audit.proofs.WalkSteps.{steps}
use Rattle.station.specs.declared.heard.Kind.TheVariants.{Ddp}
use Rattle.station.specs.declared.output.DropCause.TheVariants.{HopLimit}
use Rattle.station.specs.declared.output.Next.TheVariants as next
use Rattle.cable_model.specs.declared.entry.How.TheVariants as how
use Rattle.cable_model.specs.Outcomes.{to_other, to_target}
use Rattle.cable_model.specs.Pending.{Pair, pairs, pairs_of}
use Rattle.cable_model.specs.Transcript.{Entry, Frame, Put, Reached, Dropped, count, one}
use Rattle.cable_model.proofs.Counting.{At, each_more}
use Rattle.legal_runs.specs.Answers.{ByRouter, MayLeave, IsMade, OnCable, Straight, ToThem, ToThese}
use Rattle.legal_runs.specs.Legs.{Leg, fate, fate_by, final, found_at, is_copy, is_datagram, is_unicast, leg, leg_bytes, passed, sender}
use Rattle.legal_runs.specs.Stations.{cable_seat, cable_seats, has_address}
use Rattle.legal_runs.proofs.Does.{HopsFine, IsOf}
use Rattle.legal_runs.proofs.Frames.{Framed, Whole, body_stays, target_inside, target_stays, whole, whole_inside}
use Rattle.legal_runs.proofs.Legs.{SeatThere, has_no_other, has_own, same_address_is, same_address_self, seat_there, to_station}
use Rattle.legal_runs.proofs.Passing.{copy_parts, copy_when, fate_of}
use Rattle.legal_runs.proofs.Requested.{kept_none, of_bodies, of_none}
use Rattle.legal_runs.proofs.Runs.{any}
use Rattle.legal_runs.proofs.Seated.{heard_alone, home_is, listed_some, not_all, not_group}
use Rattle.legal_runs.proofs.Tallies.{leg_of}
use Rattle.legal_runs.proofs.Tests.{all_three}
use Rattle.resolved_runs.specs.AskedFor.{bears, brings}
use Rattle.resolved_runs.proofs.OwnCables.{own_cable, seat_port}

-- The pair is such a frame to another station, which has to pass it on.
abbrev pub brings_on : ℕ → List ℕ → Pair → Bool
brings_on station b p =
    is_datagram p.frame.kind && (is_unicast p.frame.to && (not (p.seat.station == station) && same_bytes b (body p.frame.bytes)))

-- A frame that bears the body is to the station, or to another one.
pub bears_either : (station : ℕ) (b : List ℕ) (p : Pair) → one (bears b p) ≡ one (brings station b p) + one (brings_on station b p)
bears_either station b p =
    bits (is_datagram p.frame.kind) (is_unicast p.frame.to) (p.seat.station == station) (same_bytes b (body p.frame.bytes))
  where
    bits : (d u s e : Bool) → one (d && (u && e)) ≡ one (d && (u && (s && e))) + one (d && (u && (not s && e)))
    bits false u s e = refl
    bits true false s e = refl
    bits true true true true = refl
    bits true true true false = refl
    bits true true false true = refl
    bits true true false false = refl

pub bears_parts : (b : List ℕ) (p : Pair) → bears b p ≡ true
    → (is_datagram p.frame.kind ≡ true) × (is_unicast p.frame.to ≡ true) × (same_bytes b (body p.frame.bytes) ≡ true)
bears_parts b p e = all_of (is_datagram p.frame.kind) (is_unicast p.frame.to) (same_bytes b (body p.frame.bytes)) e
  where
    all_of : (d u s : Bool) → (d && (u && s)) ≡ true → (d ≡ true) × (u ≡ true) × (s ≡ true)
    all_of true true true e = (refl, refl, refl)
    all_of true true false e = cc
    all_of true false s e = cc
    all_of false u s e = cc

-- A frame that bears the body goes to the station, or is a copy for a router.
abbrev pub IsGood : Internet → ℕ → List ℕ → Pair → Type 0
IsGood i station b p = bears b p ≡ true → (p.seat.station == station) ≡ false → is_copy i p ≡ true

-- The entries have n frames that bear the body.
pub record Bears (i : Internet) (station : ℕ) (b : List ℕ) (n : ℕ) (es : List Entry) : Type 0 where
  pub counted : count (bears b) (pairs (cable_seats i) es) ≡ n
  pub good : Each (IsGood i station b) (pairs (cable_seats i) es)

module _ (i : Internet) (ok : Passes i) (b : List ℕ) (c : ℕ) (s : PlaceOf) (listed : home i (target b).net ≡ Some c)
    (found : seat_at i c (target b) ≡ Some s) where
  there : SeatThere i c (target b) s
  there = seat_there i c (target b) s found

  -- A seat with the target's address is the station's.
  only_seat : (k : ℕ) (x : PlaceOf) → At (seats i) k x → x.address ≡ target b → x ≡ s
  only_seat k x at e =
      let alike : same_address x.address s.address ≡ true =
      ap (same_address x.address) (there.address ∙ sym e) ∙ same_address_self x.address in
      let same : k ≡ there.place = (unique i ok).by_address k there.place x s at there.at alike in
      at_one (seats i) there.place x s (subst (λ n. At (seats i) n x) same at) there.at

  -- The target is one station.
  one_node : (d : List ℕ) → same_bytes b d ≡ true → (1 ≤ (target d).node) × ((target d).node ≤ 253)
  one_node d e =
      let a = addressed i ok there.place s there.at in
      let low = a.low in
      let high = a.high in
      let node : s.address.node ≡ (target d).node = ap (λ (x : Addr). x.node) (there.address ∙ ap target (same_bytes_is b d e)) in
      (omega (arith, low, node), omega (arith, high, node))

  target_some : (target b).net ≢ 0
  target_some z = let low = listed_some i ok (target b).net c listed in absurd (omega (arith, low, z))

  -- ---- Entries of other datagrams

  of_others : (d : List ℕ) (hop : ℕ) (es : List Entry) → Each (IsOf i any d hop) es → same_bytes b d ≡ false → Bears i s.station b 0 es
  of_others d hop es of apart = record {
    counted = of_none i any d hop (bears b) es of (λ p e. never p (ap (same_bytes b) e ∙ apart));
    good =
        each_more (λ p. body p.frame.bytes ≡ d) (IsGood i s.station b) (pairs (cable_seats i) es)
        (λ p e bearing. absurd (true≢false (sym bearing ∙ never p (ap (same_bytes b) e ∙ apart)))) (of_bodies i any d hop es of);
  }
    where
      never : (p : Pair) → same_bytes b (body p.frame.bytes) ≡ false → bears b p ≡ false
      never p e = and_right (is_datagram p.frame.kind) _ (and_right (is_unicast p.frame.to) _ e)

  none_bear : (es : List Entry) → pairs (cable_seats i) es ≡ [] → Bears i s.station b 0 es
  none_bear es none = record { counted = ap (count (bears b)) none; good = subst (Each (IsGood i s.station b)) (sym none) tt }

  -- ---- Legs

  module _ (stamp : ℕ) (l : Leg) (whole : Whole l.body) (few : l.hops ≤ 15) (same : same_bytes b l.body ≡ true) where
    target_same : target (leg_bytes l) ≡ target b
    target_same = target_stays l.hops few l.body ∙ ap target (sym (same_bytes_is b l.body same))

    -- A leg to a seat that exists.
    to_seat : (a : Addr) (x : PlaceOf) → l.next ≡ next.Station a → seat_at i l.cable a ≡ Some x
        → ((x.station == s.station) ≡ false → x.station < length i.routers) → Bears i s.station b 1 (leg i stamp l)
    to_seat a x goes at_seat router = record {
      counted = ap (count (bears b)) only ∙ (let v = ap one bearing in omega (arith, v));
      good = subst (Each (IsGood i s.station b)) (sym only) ((λ e apart. copy apart), tt);
    }
      where
        w : SeatThere i l.cable a x
        w = seat_there i l.cable a x at_seat

        f : Frame
        f = record {
          stamp = stamp;
          cable = l.cable;
          sender = l.station;
          to = x.hardware;
          kind = Ddp;
          bytes = leg_bytes l;
        }

        pair : Pair
        pair = record { frame = f; seat = cable_seat i x }

        either : (b : Bool)
            → pairs (cable_seats i) (cond b (to_target (sender stamp l) (leg_bytes l) (found_at (Some x)))
            (to_other (sender stamp l) (leg_bytes l) (found_at (Some x))))
            ≡ pairs_of (cable_seats i) (Put f) ++ []
        either true = refl
        either false = refl

        only : pairs (cable_seats i) (leg i stamp l) ≡ pair ∷ []
        only =
            ap (pairs (cable_seats i)) (to_station i stamp l few a goes)
            ∙ (ap (λ o. pairs (cable_seats i) (cond (same_address (target l.body) a)
            (to_target (sender stamp l) (leg_bytes l) (found_at o))
            (to_other (sender stamp l) (leg_bytes l) (found_at o)))) at_seat
            ∙ (either (same_address (target l.body) a)
            ∙ (append-nil (pairs_of (cable_seats i) (Put f)) ∙ heard_alone i ok f w.place x w.at w.cable_is refl)))

        both : (a b : Bool) → a ≡ false → b ≡ false → (not a && not b) ≡ true
        both false false ea eb = refl
        both true b ea eb = cc
        both false true ea eb = cc

        single : is_unicast x.hardware ≡ true
        single =
            let one = (addressed i ok w.place x w.at).single in
            both (is_all x.hardware) (is_group x.hardware) (not_all i ok x.hardware one) (not_group i ok x.hardware one)

        bearing : bears b pair ≡ true
        bearing =
            ap (λ u. u && same_bytes b (body (leg_bytes l))) single
            ∙ (ap (same_bytes b) (body_stays l.hops few l.body ∙ whole.same) ∙ same)

        copy : (x.station == s.station) ≡ false → is_copy i pair ≡ true
        copy apart =
            copy_when i pair refl single (lt-ltb _ _ (router apart))
            (λ z. target_some (ap (λ (a : Addr). a.net) (sym target_same) ∙ z))
            (has_no_other i ok x w.place (target (leg_bytes l)) w.at
            (false_from_ne_true (same_address (target (leg_bytes l)) x.address) (λ e.
            let mine : x ≡ s = only_seat w.place x w.at (sym (same_address_is (target (leg_bytes l)) x.address e) ∙ target_same) in
            true≢false (sym (eq-eqb _ _ (ap (λ (x : PlaceOf). x.station) mine)) ∙ apart))))

    -- A leg to the station itself.
    to_it : l.next ≡ next.Station (target l.body) → l.cable ≡ c → Bears i s.station b 1 (leg i stamp l)
    to_it goes here =
        to_seat (target l.body) s goes
        (ap (λ x. seat_at i x (target l.body)) here ∙ (ap (λ d. seat_at i c (target d)) (sym (same_bytes_is b l.body same)) ∙ found))
        (λ apart. absurd (true≢false (sym (eq-eqb s.station _ refl) ∙ apart)))

    cable_same : home i (target l.body).net ≡ Some l.cable → l.cable ≡ c
    cable_same e = both l.cable c (sym e ∙ (ap (λ d. home i (target d).net) (sym (same_bytes_is b l.body same)) ∙ listed))
      where
        both : (x y : ℕ) → Some x ≡ Some y → x ≡ y
        both x y e = cc

    no_all : (target l.body).node ≡ 255 → ⊥
    no_all e = let high = (one_node l.body same).1 in absurd (omega (arith, e, high))

    goes_once : MayLeave i l → Bears i s.station b 1 (leg i stamp l)
    goes_once (Straight goes on single other) = to_it goes (cable_same (home_is i ok (target l.body).net l.cable on))
    goes_once (ByRouter a r goes own some) =
        let w = owner_is i l.cable a r own in
        to_seat a w.0.0 goes w.0.1 (λ apart. subst (λ n. n < length i.routers) (sym w.0.2) w.1)
    goes_once (ToThem goes on all) = absurd (no_all all)
    goes_once (OnCable goes none all) = absurd (no_all all)
    goes_once (ToThese g lt goes none all) = absurd (no_all all)

  -- A datagram that a station made bears the body once, if it is its body.
  pub leg_bears : (stamp : ℕ) (l : Leg) → IsMade i l → Bears i s.station b (one (same_bytes b l.body)) (leg i stamp l)
  leg_bears stamp l made = by (same_bytes b l.body) refl
    where
      by : (x : Bool) → same_bytes b l.body ≡ x → Bears i s.station b (one x) (leg i stamp l)
      by true e = let fresh = made.fresh in goes_once stamp l (whole l.body made.whole) (omega (arith, fresh)) e made.goes
      by false e = of_others l.body l.hops (leg i stamp l) (leg_of i ok stamp l made) e

  -- ---- Fates

  module _ (stamp : ℕ) (p : Pair) (f : Framed p.frame.bytes) (fine : HopsFine i p) where
    module _ (same : same_bytes b (body p.frame.bytes) ≡ true) where
      target_is : target p.frame.bytes ≡ target b
      target_is = sym (target_inside p.frame.bytes f) ∙ ap target (sym (same_bytes_is b (body p.frame.bytes) same))

      listed_is : home i (target p.frame.bytes).net ≡ Some c
      listed_is = ap (λ (a : Addr). home i a.net) target_is ∙ listed

      -- The station keeps it.
      kept : p.seat.station ≡ s.station → is_copy i p ≡ true
          → pairs (cable_seats i) (fate_by i stamp p.seat.station p (hand i p.seat.station (target p.frame.bytes).net)) ≡ []
      kept mine copy =
          let r = p.seat.station in
          let within : s.station < length i.routers = subst (λ n. n < length i.routers) mine (copy_parts i p copy).router in
          let port = seat_port i there.place s there.at within in
          let here : hand i s.station (target p.frame.bytes).net ≡ Here s.cable =
          own_cable i ok s.station (target p.frame.bytes).net s.cable within port (listed_is ∙ ap Some (sym there.cable_is)) in
          let own : has_address i s.station s.cable (target p.frame.bytes) ≡ true =
          ap (has_address i s.station s.cable) (target_is ∙ sym there.address) ∙ has_own i ok s there.place there.at in
          ap (λ h. pairs (cable_seats i) (fate_by i stamp r p h))
          (ap (λ n. hand i n (target p.frame.bytes).net) mine ∙ here)
          ∙ kept_none i ok stamp r p (Here s.cable)
          (ap (λ n. (target p.frame.bytes).node == 0 || has_address i n s.cable (target p.frame.bytes)) mine
          ∙ or_true ((target p.frame.bytes).node == 0) _ own)
        where
          or_true : (a b : Bool) → b ≡ true → (a || b) ≡ true
          or_true true b e = refl
          or_true false b e = e

      -- Another router on its cable puts it there.
      arrives : (r : ℕ) → (r == s.station) ≡ false → hops p.frame.bytes ≤ 14 → Bears i s.station b 1 (fate_by i stamp r p (Here c))
      arrives r apart few =
          let node = one_node (body p.frame.bytes) same in
          let as_sent = ap (λ (a : Addr). a.node) (target_inside p.frame.bytes f) in
          let some : ((target p.frame.bytes).node == 0) ≡ false = ne_eqb _ _ (λ e. absurd (omega (arith, e, node, as_sent))) in
          let not_all : ((target p.frame.bytes).node == 255) ≡ false = ne_eqb _ _ (λ e. absurd (omega (arith, e, node, as_sent))) in
          let whom : final (target p.frame.bytes) ≡ next.Station (target (body p.frame.bytes)) =
          ap (λ b. cond b next.All (next.Station (target p.frame.bytes))) not_all
          ∙ ap next.Station (sym (target_inside p.frame.bytes f)) in
          subst (λ x. Bears i s.station b 1 (cond (x || has_address i r c (target p.frame.bytes))
          (Reached c r how.Own (body p.frame.bytes) ∷ [])
          (cond (hops p.frame.bytes == 15) (Dropped r HopLimit (body p.frame.bytes) ∷ [])
          (leg i stamp (passed r p c (final (target p.frame.bytes))))))) (sym some)
          (subst (λ x. Bears i s.station b 1 (cond x (Reached c r how.Own (body p.frame.bytes) ∷ [])
          (cond (hops p.frame.bytes == 15) (Dropped r HopLimit (body p.frame.bytes) ∷ [])
          (leg i stamp (passed r p c (final (target p.frame.bytes))))))) (sym not_own)
          (subst (λ x. Bears i s.station b 1 (cond x (Dropped r HopLimit (body p.frame.bytes) ∷ [])
          (leg i stamp (passed r p c (final (target p.frame.bytes)))))) (sym (ne_eqb (hops p.frame.bytes) 15 (λ e. absurd (omega (arith, e, few)))))
          (to_it stamp (passed r p c (final (target p.frame.bytes))) (whole_inside p.frame.bytes f) (omega (arith, few)) same whom refl)))
        where
          not_own : has_address i r c (target p.frame.bytes) ≡ false
          not_own =
              false_from_ne_true (has_address i r c (target p.frame.bytes)) (λ e.
              let w = any_at (λ (t : PlaceOf). t.station == r && t.cable == c && same_address (target p.frame.bytes) t.address) (seats i) e in
              let h = all_three (w.1.station == r) (w.1.cable == c) (same_address (target p.frame.bytes) w.1.address) w.3 in
              let mine : w.1 ≡ s =
              only_seat w.0 w.1 w.2 (sym (same_address_is (target p.frame.bytes) w.1.address h.2) ∙ target_is) in
              let station : r ≡ s.station = sym (eqb-true _ _ h.0) ∙ ap (λ (x : PlaceOf). x.station) mine in
              true≢false (sym (eq-eqb _ _ station) ∙ apart))

      -- Another router passes it on.
      passed_on : (p.seat.station == s.station) ≡ false → is_copy i p ≡ true
          → Bears i s.station b 1 (fate_by i stamp p.seat.station p (hand i p.seat.station (target p.frame.bytes).net))
      passed_on apart copy =
          let r = p.seat.station in
          let few = fine c copy listed_is in
          elim (steps i ok r (target p.frame.bytes).net c (copy_parts i p copy).router listed_is) as (λ _.
          Bears i s.station b 1 (fate_by i stamp r p (hand i r (target p.frame.bytes).net))) [
            | Stops here none port ↦
                subst (λ h. Bears i s.station b 1 (fate_by i stamp r p h)) (sym here) (arrives r apart (omega (arith, few)))
            | GoesBy q d a on own less nearer port its other ↦
                let w = owner_is i d a q own in
                subst (λ h. Bears i s.station b 1 (fate_by i stamp r p h)) (sym on)
                (subst (λ x. Bears i s.station b 1 (cond x (Dropped r HopLimit (body p.frame.bytes) ∷ [])
                (leg i stamp (passed r p d (next.Station a)))))
                (sym (ne_eqb (hops p.frame.bytes) 15 (λ e. absurd (omega (arith, e, few)))))
                (to_seat stamp (passed r p d (next.Station a)) (whole_inside p.frame.bytes f) (omega (arith, few, nearer)) same a w.0.0 refl
                w.0.1 (λ apart. subst (λ n. n < length i.routers) (sym w.0.2) less)))
          ]

    -- A frame that another router takes is passed on.
    pub fate_bears : IsGood i s.station b p → Bears i s.station b (one (brings_on s.station b p)) (fate i stamp p)
    fate_bears good = by_body (same_bytes b (body p.frame.bytes)) refl
      where
        datagram : (k u r z h : Bool) → (k && u && r && not z && not h) ≡ true → k ≡ true
        datagram true u r z h e = refl
        datagram false u r z h e = cc

        all_of : (k u x e : Bool) → k ≡ true → u ≡ true → e ≡ true → (k && (u && (x && e))) ≡ x
        all_of true true true true ek eu ee = refl
        all_of true true false true ek eu ee = refl
        all_of false u x e ek eu ee = cc
        all_of true false x e ek eu ee = cc
        all_of true true x false ek eu ee = cc

        parts : (k u x e : Bool) → (k && (u && (not x && e))) ≡ true → ((k && (u && e)) ≡ true) × (x ≡ false)
        parts true true false true h = (refl, refl)
        parts true true false false h = cc
        parts true true true e h = cc
        parts true false x e h = cc
        parts false u x e h = cc

        by_station : (x : Bool) → (p.seat.station == s.station) ≡ x → is_copy i p ≡ true → same_bytes b (body p.frame.bytes) ≡ true
            → Bears i s.station b (one (not x)) (fate_by i stamp p.seat.station p (hand i p.seat.station (target p.frame.bytes).net))
        by_station true mine copy same =
            none_bear (fate_by i stamp p.seat.station p (hand i p.seat.station (target p.frame.bytes).net))
            (kept same (eqb-true _ _ mine) copy)
        by_station false other copy same = passed_on same other copy

        by_copy : (x : Bool) → is_copy i p ≡ x → same_bytes b (body p.frame.bytes) ≡ true → Bears i s.station b (one (brings_on s.station b p))
            (cond x (fate_by i stamp p.seat.station p (hand i p.seat.station (target p.frame.bytes).net)) [])
        by_copy true copy same =
            let all = all_of (is_datagram p.frame.kind) (is_unicast p.frame.to) (not (p.seat.station == s.station))
            (same_bytes b (body p.frame.bytes)) (datagram _ _ _ _ _ copy) (copy_parts i p copy).unicast same in
            subst (λ x. Bears i s.station b (one x) (fate_by i stamp p.seat.station p
            (hand i p.seat.station (target p.frame.bytes).net))) (sym all) (by_station (p.seat.station == s.station) refl copy same)
        by_copy false none same =
            let no : brings_on s.station b p ≡ false =
            false_from_ne_true (brings_on s.station b p) (λ e.
            let h = parts (is_datagram p.frame.kind) (is_unicast p.frame.to) (p.seat.station == s.station)
            (same_bytes b (body p.frame.bytes)) e in
            true≢false (sym (good h.0 h.1) ∙ none)) in
            subst (λ x. Bears i s.station b (one x) []) (sym no) (none_bear [] refl)

        by_body : (x : Bool) → same_bytes b (body p.frame.bytes) ≡ x → Bears i s.station b (one (brings_on s.station b p)) (fate i stamp p)
        by_body true same = by_copy (is_copy i p) refl same
        by_body false apart =
            let no : brings_on s.station b p ≡ false =
            and_right (is_datagram p.frame.kind) _ (and_right (is_unicast p.frame.to) _
            (and_right (not (p.seat.station == s.station)) _ apart)) in
            subst (λ x. Bears i s.station b (one x) (fate i stamp p)) (sym no)
            (of_others (body p.frame.bytes) (hops p.frame.bytes + 1) (fate i stamp p) (fate_of i ok stamp p f fine) apart)
