-- Which pairs a leg makes, and which it doesn't because they are of another datagram.
use Rattle.std.proofs.Common.{◌≡◌, ℕ, zero, suc, ◌<◌, ◌≤◌, Bool, true, false, not, ◌&&◌, ◌==◌, cond, List, [], ◌∷◌, ◌++◌}
use Rattle.std.proofs.Common.{Some, length, filter, map, refl, sym, ap, ◌∙◌, subst, arith, append-nil}
use Rattle.std.specs.List.{AllByRecursion as Each}
use Rattle.std.proofs.lemmas.Bool.{and_left, and_right}
use Rattle.at_base.specs.Address.{same_address}
use Rattle.at_base.specs.declared.address.Addr.{Addr}
use Rattle.ddp.specs.Bodies.{body, hops, target}
use Rattle.table_image.specs.Internet.{Internet}
use Rattle.audit.specs.Routing.{Hand, Here, On, Nowhere, owner}
use Rattle.audit.specs.Rules.{Passes}
use Rattle.table_image.specs.Seats.{Seat as PlaceOf, seat_at, seats}
use Rattle.audit.proofs.SeatUnique.{addressed}
use Rattle.audit.proofs.WalkFacts.{owner_is}
use Rattle.station.specs.declared.output.DropCause.TheVariants.{HopLimit}
use Rattle.cable_model.specs.declared.entry.How.TheVariants as how
use Rattle.station.specs.declared.heard.Kind.TheVariants.{Ddp}
use Rattle.cable_model.specs.declared.seat.Seat.{Seat}
use Rattle.cable_model.specs.Outcomes.{to_other, to_target}
use Rattle.cable_model.specs.Pending.{Pair, is_heard, pairs, pairs_of}
use Rattle.at_base.specs.Multicast.{is_all, is_group}
use Rattle.cable_model.specs.Transcript.{Entry, Frame, Sent, Put, Took, Reached, Dropped, Lost, Hold, count, one}
use Rattle.cable_model.proofs.Counting.{At, count_none, each-append, each_all, each_map, each_more}
use Rattle.legal_runs.specs.Answers.{keeps_by}
use Rattle.legal_runs.specs.Legs.{Leg, fate_by, final, found_at, is_unicast, leg, leg_bytes, passed, sender}
use Rattle.legal_runs.specs.Lookups.{is_asked, looks}
use Rattle.legal_runs.specs.Requests.{request, is_lookup}
use Rattle.legal_runs.specs.Stations.{cable_seat, cable_seats, is_router}
use Rattle.legal_runs.proofs.Does.{IsOf}
use Rattle.legal_runs.proofs.Frames.{Whole, body_stays, target_stays}
use Rattle.legal_runs.proofs.Legs.{SeatThere, seat_there, to_station}
use Rattle.legal_runs.proofs.Seated.{heard_alone, not_all, not_group}
use Rattle.station.specs.declared.output.Next.TheVariants as next

module _ (i : Internet) where
  -- The pair's seat is a seat of the internet.
  abbrev pub HasPlace : Pair → Type 0
  HasPlace p = (k : ℕ) × (s : PlaceOf) × At (seats i) k s × (p.seat ≡ cable_seat i s)

  each_filter : {X : Type 0} (P : X → Type 0) (t : X → Bool) (xs : List X) → Each P xs → Each P (filter t xs)
  each_filter P t [] h = tt
  each_filter P t (x ∷ xs) h =
      elim (t x) as (λ b. Each P (cond b (x ∷ filter t xs) (filter t xs))) [
        | true ↦ (h.0, each_filter P t xs h.1)
        | false ↦ each_filter P t xs h.1
      ]

  -- Each seat in the list is a seat of the internet.
  seats_from : (xs : List PlaceOf) → ((k : ℕ) (s : PlaceOf) → At xs k s → (j : ℕ) × At (seats i) j s)
      → Each (λ x. (k : ℕ) × (s : PlaceOf) × At (seats i) k s × (x ≡ cable_seat i s)) (map (cable_seat i) xs)
  seats_from [] f = tt
  seats_from (s ∷ xs) f = let w = f zero s refl in ((w.0, s, w.1, refl), seats_from xs (λ k t e. f (suc k) t e))

  pub placed : (t : List Entry) → Each HasPlace (pairs (cable_seats i) t)
  placed [] = tt
  placed (Put f ∷ t) =
      each-append HasPlace (pairs_of (cable_seats i) (Put f)) (pairs (cable_seats i) t)
      (each_map HasPlace (λ (s : Seat). record { frame = f; seat = s }) _
      (each_filter (λ x. (k : ℕ) × (s : PlaceOf) × At (seats i) k s × (x ≡ cable_seat i s)) (is_heard f) (cable_seats i)
      (seats_from (seats i) (λ k s e. (k, e))))) (placed t)
  placed (Sent s b ∷ t) = placed t
  placed (Took q s ∷ t) = placed t
  placed (Reached c s w b ∷ t) = placed t
  placed (Dropped r c b ∷ t) = placed t
  placed (Lost q ∷ t) = placed t
  placed (Hold held ∷ t) = placed t

  -- ---- Entries of one datagram

  module _ (A : ℕ → Type 0) (d : List ℕ) (hop : ℕ) where
    -- The pairs are of the datagram's frames.
    pub of_bodies : (es : List Entry) → Each (IsOf i A d hop) es → Each (λ p. body p.frame.bytes ≡ d) (pairs (cable_seats i) es)
    of_bodies [] h = tt
    of_bodies (Put f ∷ es) h =
        each-append (λ p. body p.frame.bytes ≡ d) (pairs_of (cable_seats i) (Put f)) (pairs (cable_seats i) es)
        (each_map (λ p. body p.frame.bytes ≡ d) (λ (s : Seat). record { frame = f; seat = s }) _ (each_all _ _ (λ s. h.0.1)))
        (of_bodies es h.1)
    of_bodies (Reached c s w b ∷ es) h = of_bodies es h.1
    of_bodies (Dropped r c b ∷ es) h = of_bodies es h.1
    of_bodies (Sent s b ∷ es) h = absurd h.0
    of_bodies (Took p s ∷ es) h = absurd h.0
    of_bodies (Lost p ∷ es) h = absurd h.0
    of_bodies (Hold held ∷ es) h = absurd h.0

    -- The pairs hold datagrams.
    pub of_kinds : (es : List Entry) → Each (IsOf i A d hop) es → Each (λ p. p.frame.kind ≡ Ddp) (pairs (cable_seats i) es)
    of_kinds [] h = tt
    of_kinds (Put f ∷ es) h =
        each-append (λ p. p.frame.kind ≡ Ddp) (pairs_of (cable_seats i) (Put f)) (pairs (cable_seats i) es)
        (each_map (λ p. p.frame.kind ≡ Ddp) (λ (s : Seat). record { frame = f; seat = s }) _ (each_all _ _ (λ s. h.0.2))) (of_kinds es h.1)
    of_kinds (Reached c s w b ∷ es) h = of_kinds es h.1
    of_kinds (Dropped r c b ∷ es) h = of_kinds es h.1
    of_kinds (Sent s b ∷ es) h = absurd h.0
    of_kinds (Took p s ∷ es) h = absurd h.0
    of_kinds (Lost p ∷ es) h = absurd h.0
    of_kinds (Hold held ∷ es) h = absurd h.0

    -- The pairs have hop count `hop`.
    pub of_hops : (es : List Entry) → Each (IsOf i A d hop) es → Each (λ p. hops p.frame.bytes ≡ hop) (pairs (cable_seats i) es)
    of_hops [] h = tt
    of_hops (Put f ∷ es) h =
        each-append (λ p. hops p.frame.bytes ≡ hop) (pairs_of (cable_seats i) (Put f)) (pairs (cable_seats i) es)
        (each_map (λ p. hops p.frame.bytes ≡ hop) (λ (s : Seat). record { frame = f; seat = s }) _ (each_all _ _ (λ s. h.0.3)))
        (of_hops es h.1)
    of_hops (Reached c s w b ∷ es) h = of_hops es h.1
    of_hops (Dropped r c b ∷ es) h = of_hops es h.1
    of_hops (Sent s b ∷ es) h = absurd h.0
    of_hops (Took p s ∷ es) h = absurd h.0
    of_hops (Lost p ∷ es) h = absurd h.0
    of_hops (Hold held ∷ es) h = absurd h.0

    -- A test that no frame of the datagram passes counts 0.
    pub of_none : (f : Pair → Bool) (es : List Entry) → Each (IsOf i A d hop) es → ((p : Pair) → body p.frame.bytes ≡ d → f p ≡ false)
        → count f (pairs (cable_seats i) es) ≡ 0
    of_none f es h never =
        count_none f (pairs (cable_seats i) es) (each_more (λ p. body p.frame.bytes ≡ d) (λ p. f p ≡ false)
        (pairs (cable_seats i) es) never (of_bodies es h))

    pub of_unasked : (k : List ℕ) (es : List Entry) → Each (IsOf i A d hop) es → count (is_asked i k) es ≡ 0
    of_unasked k [] h = refl
    of_unasked k (Put f ∷ es) h = let rest = of_unasked k es h.1 in omega (arith, rest)
    of_unasked k (Reached c s w b ∷ es) h = let rest = of_unasked k es h.1 in omega (arith, rest)
    of_unasked k (Dropped r c b ∷ es) h = let rest = of_unasked k es h.1 in omega (arith, rest)
    of_unasked k (Sent s b ∷ es) h = absurd h.0
    of_unasked k (Took p s ∷ es) h = absurd h.0
    of_unasked k (Lost p ∷ es) h = absurd h.0
    of_unasked k (Hold held ∷ es) h = absurd h.0

    -- A datagram that is no lookup makes no lookup.
    pub of_no_lookup : (k : List ℕ) (c : ℕ) (es : List Entry) → is_lookup (request d) ≡ false → Each (IsOf i A d hop) es → count
        (looks i k c) es ≡ 0
    of_no_lookup k c [] e h = refl
    of_no_lookup k c (Put f ∷ es) e h =
        let rest = of_no_lookup k c es e h.1 in
        let none : looks i k c (Put f) ≡ false =
        and_right (f.cable == c) _ (and_right (is_router i f.sender) _
        (and_left (is_lookup (request (body f.bytes))) _ (ap (λ b. is_lookup (request b)) h.0.1 ∙ e))) in
        let value = ap one none in
        omega (arith, rest, value)
    of_no_lookup k c (Reached a s w b ∷ es) e h = let rest = of_no_lookup k c es e h.1 in omega (arith, rest)
    of_no_lookup k c (Dropped r a b ∷ es) e h = let rest = of_no_lookup k c es e h.1 in omega (arith, rest)
    of_no_lookup k c (Sent s b ∷ es) e h = absurd h.0
    of_no_lookup k c (Took p s ∷ es) e h = absurd h.0
    of_no_lookup k c (Lost p ∷ es) e h = absurd h.0
    of_no_lookup k c (Hold held ∷ es) e h = absurd h.0

  -- ---- One frame to a router

  -- Entries with exactly one pair, which is a frame to a router's seat.
  pub record OnePair (d : List ℕ) (es : List Entry) : Type 0 where
    pub frame : Frame
    pub place : ℕ
    pub seat : PlaceOf
    pub at : At (seats i) place seat
    pub only : pairs (cable_seats i) es ≡ record { frame = frame; seat = cable_seat i seat } ∷ []
    pub same : body frame.bytes ≡ d
    pub to_same : target frame.bytes ≡ target d
    pub datagram : frame.kind ≡ Ddp
    pub unicast : is_unicast frame.to ≡ true
    pub router : seat.station < length i.routers

  module _ (ok : Passes i) where
    -- A leg to a seat that exists.
    pub to_seat : (stamp : ℕ) (l : Leg) (a : Addr) (s : PlaceOf) → Whole l.body → l.hops ≤ 15 → l.next ≡ next.Station a
        → seat_at i l.cable a ≡ Some s
        → s.station < length i.routers → OnePair l.body (leg i stamp l)
    to_seat stamp l a s whole few next e router = record {
      frame = f;
      place = w.place;
      seat = s;
      at = w.at;
      only =
          ap (pairs (cable_seats i)) (to_station i stamp l few a next)
          ∙ (ap (λ o. pairs (cable_seats i) (cond (same_address (target l.body) a)
          (to_target (sender stamp l) (leg_bytes l) (found_at o))
          (to_other (sender stamp l) (leg_bytes l) (found_at o)))) e
          ∙ (either (same_address (target l.body) a)
          ∙ (append-nil (pairs_of (cable_seats i) (Put f)) ∙ heard_alone i ok f w.place s w.at w.cable_is refl)));
      same = body_stays l.hops few l.body ∙ whole.same;
      to_same = target_stays l.hops few l.body;
      datagram = refl;
      unicast =
          both (is_all s.hardware) (is_group s.hardware) (not_all i ok s.hardware (addressed i ok w.place s w.at).single)
          (not_group i ok s.hardware (addressed i ok w.place s w.at).single);
      router = router;
    }
      where
        w : SeatThere i l.cable a s
        w = seat_there i l.cable a s e

        f : Frame
        f = record {
          stamp = stamp;
          cable = l.cable;
          sender = l.station;
          to = s.hardware;
          kind = Ddp;
          bytes = leg_bytes l;
        }

        either : (b : Bool)
            → pairs (cable_seats i) (cond b (to_target (sender stamp l) (leg_bytes l) (found_at (Some s)))
            (to_other (sender stamp l) (leg_bytes l) (found_at (Some s))))
            ≡ pairs_of (cable_seats i) (Put f) ++ []
        either true = refl
        either false = refl

        both : (a b : Bool) → a ≡ false → b ≡ false → (not a && not b) ≡ true
        both false false ea eb = refl
        both true b ea eb = cc
        both false true ea eb = cc

    pub via_one : (stamp : ℕ) (l : Leg) (a : Addr) (r : ℕ) → Whole l.body → l.hops ≤ 15 → l.next ≡ next.Station a
        → owner i l.cable a ≡ Some r
        → OnePair l.body (leg i stamp l)
    via_one stamp l a r whole few next own =
        let w = owner_is i l.cable a r own in
        to_seat stamp l a w.0.0 whole few next w.0.1 (subst (λ n. n < length i.routers) (sym w.0.2) w.1)

    -- A datagram that a router keeps makes no frame.
    pub kept_none : (stamp r : ℕ) (p : Pair) (h : Hand) → keeps_by i r (target p.frame.bytes) h ≡ true
        → pairs (cable_seats i) (fate_by i stamp r p h) ≡ []
    kept_none stamp r p Nowhere e = cc
    kept_none stamp r p (On s c a) e = cc
    kept_none stamp r p (Here c) e =
        ap (λ b. pairs (cable_seats i) (cond b (Reached c r how.Own (body p.frame.bytes) ∷ [])
        (cond (hops p.frame.bytes == 15) (Dropped r HopLimit (body p.frame.bytes) ∷ [])
        (leg i stamp (passed r p c (final (target p.frame.bytes))))))) e
