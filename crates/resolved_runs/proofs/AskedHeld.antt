-- A datagram that is held for a station is asked for, and those that were held before still are.
use Rattle.std.proofs.Common.{◌≡◌, ◌≢◌, ◌⊎◌, inl, inr, ◌≤◌, ◌<◌, ℕ, zero, suc, Bool, true, false, not, if◌then◌else◌}
use Rattle.std.proofs.Common.{◌||◌, ◌&&◌, ◌==◌, List, [], ◌∷◌, ◌++◌, Option, Some, None, Contains, refl, sym, ap, ◌∙◌, subst, arith}
use Rattle.std.proofs.Common.{filter, eqb-true, eq-eqb, ne_eqb, true≢false}
use Rattle.std.specs.List.{list_any}
use Rattle.std.proofs.lemmas.Bool.{and_parts}
use Rattle.aarp.specs.Packets.{packet, written}
use Rattle.at_base.specs.Address.{same_address}
use Rattle.at_base.specs.Multicast.{all_hw}
use Rattle.at_base.specs.Spelling.{bytes_of}
use Rattle.at_base.specs.declared.address.Hw.{Hw}
use Rattle.table_image.specs.Internet.{Internet}
use Rattle.table_image.specs.Seats.{Seat as PlaceOf, seat_at, seats}
use Rattle.audit.specs.Rules.{Passes}
use Rattle.audit.proofs.Finding.{any_at, any_from}
use Rattle.audit.proofs.WalkLists.{find_found}
use Rattle.station.specs.declared.heard.Kind.TheVariants.{Aarp}
use Rattle.cable_model.specs.Holdings.{holds, still_held}
use Rattle.cable_model.specs.Outcomes.{Held}
use Rattle.cable_model.specs.Outgoing.{asked, held_entries, let_go}
use Rattle.cable_model.specs.Pending.{Pair, ends, is_heard, pairs_of, was_ended}
use Rattle.cable_model.specs.Transcript.{Entry, Frame, Holding, Put, Lost, Hold, has_put, next_stamp}
use Rattle.cable_model.specs.declared.seat.Seat.{Seat}
use Rattle.cable_model.proofs.Counting.{any-append, each_at}
use Rattle.cable_model.proofs.Stamps.{held_below, holds-append}
use Rattle.legal_runs.specs.Stations.{cable_seat, cable_seats, is_on}
use Rattle.legal_runs.proofs.Legs.{same_address_is, same_address_self, seat_there}
use Rattle.resolved_runs.specs.AskedFor.{Answered, AreAskedFor, Asks, IsAskedFor, Requested}
use Rattle.resolved_runs.specs.Mapped.{hardware_of, own_hardware}
use Rattle.resolved_runs.specs.Resolved.{held_at, held_by_port, request_by, request_bytes, request_of}
use Rattle.resolved_runs.specs.Resolved.{shed_of, station_seats}
use Rattle.resolved_runs.proofs.Elements.{In, any_in, contained, in_kept, in_map, in_one, in_right, kept_in}
use Rattle.resolved_runs.specs.Fitting.{SeatsFit}
use Rattle.resolved_runs.proofs.Fits.{Fits, packet_is, request_fits}
use Rattle.resolved_runs.proofs.ResolvedLegs.{shed_is}
use Rattle.resolved_runs.proofs.Standing.{put_releases, held_in, is_pending, pair_put, pending_in, put_pair}
use Rattle.resolved_runs.proofs.Told.{IsTold}
use Rattle.resolved_runs.proofs.Asked.{held_parts, not_ended, stays}

module _ (i : Internet) where
  -- The frame of a pair isn't that of a datagram that is still held.
  apart_from_held : (u : List Entry) (p : Pair) (h : Holding) → In u (Put p.frame) → Contains (still_held u) h → h.stamp ≢ p.frame.stamp
  apart_from_held u p h put held same =
      let put_it : list_any (has_put h.stamp) u ≡ true = any_in (has_put h.stamp) u (Put p.frame) put (eq-eqb h.stamp p.frame.stamp same) in
      absurd (true≢false (sym (put_releases h.stamp u put_it) ∙ (held_in u h held).1))

  -- What is let go ends no frame that was put.
  shed_ends_none : (u xs : List Entry) (p : Pair) → In u (Put p.frame)
      → (xs ≡ []) ⊎ ((h : Holding) × Contains (still_held u) h × (xs ≡ Lost h.stamp ∷ [])) → was_ended xs p ≡ false
  shed_ends_none u xs p put (inl none) = ap (λ es. was_ended es p) none
  shed_ends_none u xs p put (inr (h, held, same)) =
      ap (λ es. was_ended es p) same ∙ ap (λ b. b || false) (ne_eqb h.stamp p.frame.stamp (apart_from_held u p h put held))

  -- Nor one with a new stamp.
  shed_ends_no_new : (u xs : List Entry) (p : Pair) → next_stamp u ≤ p.frame.stamp
      → (xs ≡ []) ⊎ ((h : Holding) × Contains (still_held u) h × (xs ≡ Lost h.stamp ∷ [])) → was_ended xs p ≡ false
  shed_ends_no_new u xs p new (inl none) = ap (λ es. was_ended es p) none
  shed_ends_no_new u xs p new (inr (h, held, same)) =
      let w = (held_in u h held).0 in
      let low = each_at (λ (d : Holding). d.stamp < next_stamp u) (holds u) w.0 h w.1 (held_below u) in
      ap (λ es. was_ended es p) same ∙ ap (λ b. b || false) (ne_eqb h.stamp p.frame.stamp (λ e. absurd (omega (arith, low, new, e))))

  shed_holds_none : (u xs : List Entry)
      → (xs ≡ []) ⊎ ((h : Holding) × Contains (still_held u) h × (xs ≡ Lost h.stamp ∷ [])) → holds xs ≡ []
  shed_holds_none u xs (inl none) = ap holds none
  shed_holds_none u xs (inr (h, held, same)) = ap holds same

  -- The same frames ask for a datagram with the same holder and next address.
  asks_too : (u : List Entry) (g h : Holding) (s : PlaceOf) → h.cable ≡ g.cable → h.station ≡ g.station → h.next ≡ g.next
      → IsAskedFor i u g s → IsAskedFor i u h s
  asks_too u g h s cable station next q = record {
    pair = q.pair;
    there = q.there;
    kind = q.kind;
    cable = q.cable ∙ sym cable;
    asks = by q.asks;
  }
    where
      by : Asks g s q.pair → Asks h s q.pair
      by (Requested sent read function target sender seat) =
          Requested sent read function (target ∙ sym next) (sender ∙ sym station) seat
      by (Answered sent read function source sender seat) =
          Answered sent read function (source ∙ sym next) sender (seat ∙ sym station)

  module _ (ok : Passes i) (fit : SeatsFit i) (u : List Entry) (station : ℕ) (w : Held) (told : IsTold i u) (asks : AreAskedFor i u)
      (unknown : own_hardware i station w.cable w.next ≡ None) (seated : is_on i station w.cable ≡ true) (next : Fits w.next) where
    -- The datagram that is held.
    abbrev new : Holding
    new = record { stamp = next_stamp u; cable = w.cable; station = station; next = w.next; bytes = w.bytes }

    abbrev lost : List Entry
    lost = let_go u (shed_of (held_at u station w.cable))

    shed : (lost ≡ []) ⊎ ((h : Holding) × Contains (still_held u) h × (lost ≡ Lost h.stamp ∷ []))
    shed =
        shed_is i ok fit u (held_at u station w.cable)
        (λ g there. contained (still_held u) g
        (kept_in (λ (d : Holding). d.station == station && d.cable == w.cable) (still_held u) g there).0)

    abbrev asking : Option (List ℕ) → List Entry
    asking ask = asked (record { stamp = suc (next_stamp u); cable = w.cable; station = station }) ask

    -- All that follows when the datagram is held, by the request that goes out.
    abbrev group : Option (List ℕ) → List Entry
    group ask = Hold new ∷ (lost ++ asking ask)

    asking_ends_none : (ask : Option (List ℕ)) (p : Pair) → was_ended (asking ask) p ≡ false
    asking_ends_none None p = refl
    asking_ends_none (Some bytes) p = refl

    asking_holds_none : (ask : Option (List ℕ)) → holds (asking ask) ≡ []
    asking_holds_none None = refl
    asking_holds_none (Some bytes) = refl

    group_ends_none : (ask : Option (List ℕ)) (p : Pair) → was_ended lost p ≡ false → was_ended (group ask) p ≡ false
    group_ends_none ask p none =
        any-append (ends p) lost (asking ask) ∙ (ap (λ b. b || was_ended (asking ask) p) none ∙ asking_ends_none ask p)

    -- What was held already is asked for as before.
    as_before : (ask : Option (List ℕ)) (h : Holding) (s : PlaceOf) → IsAskedFor i u h s → IsAskedFor i (u ++ group ask) h s
    as_before ask h s q =
        let put = (pair_put (cable_seats i) u q.pair (pending_in i (cable_seats i) u q.pair q.there).0).0 in
        record {
          pair = q.pair;
          there = stays i u (group ask) q.pair q.there (group_ends_none ask q.pair (shed_ends_none u lost q.pair put shed));
          kind = q.kind;
          cable = q.cable;
          asks = q.asks;
        }

    -- Another datagram for the same address is held already.
    asked_already : (s : PlaceOf) → seat_at i w.cable w.next ≡ Some s
        → list_any (λ (h : Holding). same_address w.next h.next) (held_at u station w.cable) ≡ true → IsAskedFor i u new s
    asked_already s found some =
        let g = any_at (λ (h : Holding). same_address w.next h.next) (held_at u station w.cable) some in
        let k = kept_in (λ (d : Holding). d.station == station && d.cable == w.cable) (still_held u) g.1 (g.0, g.2) in
        let both = and_parts (g.1.station == station) (g.1.cable == w.cable) k.1 in
        let on : g.1.cable ≡ w.cable = eqb-true g.1.cable w.cable both.1 in
        let same : w.next ≡ g.1.next = same_address_is w.next g.1.next g.3 in
        asks_too u g.1 new s (sym on) (sym (eqb-true g.1.station station both.0)) same
        (asks g.1 s (contained (still_held u) g.1 k.0)
        (subst (λ a. seat_at i g.1.cable a ≡ Some s) same (subst (λ c. seat_at i c w.next ≡ Some s) (sym on) found)))

    -- The station that has the address isn't the holder.
    other_station : (s : PlaceOf) → seat_at i w.cable w.next ≡ Some s → s.station ≢ station
    other_station s found same =
        let at = seat_there i w.cable w.next s found in
        let passes : (s.station == station && s.cable == w.cable && same_address w.next s.address) ≡ true =
        three (s.station == station) (s.cable == w.cable) (same_address w.next s.address) (eq-eqb s.station station same)
        (eq-eqb s.cable w.cable at.cable_is) (ap (same_address w.next) at.address ∙ same_address_self w.next) in
        let o = find_found (λ (x : PlaceOf). x.station == station && x.cable == w.cable && same_address w.next x.address) (seats i)
        (any_from (λ (x : PlaceOf). x.station == station && x.cable == w.cable && same_address w.next x.address) (seats i) at.place s
        at.at passes) in
        never o.0.hardware (ap hardware_of o.1)
      where
        three : (a b c : Bool) → a ≡ true → b ≡ true → c ≡ true → (a && b && c) ≡ true
        three true true true x y z = refl
        three false b c x y z = cc
        three true false c x y z = cc
        three true true false x y z = cc

        never : (hw : Hw) → own_hardware i station w.cable w.next ≡ Some hw → ⊥
        never hw own =
            let no : Some hw ≡ None = sym own ∙ unknown in
            cc

    -- A request goes out, and is pending for the station.
    requested : (x : PlaceOf) → In (station_seats i station w.cable) x → (s : PlaceOf) → seat_at i w.cable w.next ≡ Some s
        → IsAskedFor i (u ++ group (Some (bytes_of packet (written (request_by x w.next))))) new s
    requested x there s found =
        let bytes : List ℕ = bytes_of packet (written (request_by x w.next)) in
        let es : List Entry = group (Some bytes) in
        let f : Frame = record {
          stamp = suc (next_stamp u);
          cable = w.cable;
          sender = station;
          to = all_hw;
          kind = Aarp;
          bytes = bytes;
        } in
        let p : Pair = record { frame = f; seat = cable_seat i s } in
        let seat = kept_in (λ (x : PlaceOf). x.station == station && x.cable == w.cable) (seats i) x there in
        let good = request_fits i ok fit seat.0.0 x w.next seat.0.1 next in
        let at = seat_there i w.cable w.next s found in
        let put : In (u ++ es) (Put f) = in_right u es (Put f) (in_right (Hold new ∷ lost) (Put f ∷ []) (Put f) (zero, refl)) in
        let heard : is_heard f (cable_seat i s) ≡ true =
        ap (λ b. b && not (s.station == station)) (eq-eqb s.cable w.cable at.cable_is)
        ∙ ap not (ne_eqb s.station station (other_station s found)) in
        let is_pair : In (pairs_of (cable_seats i) (Put f)) p =
        in_map (λ (c : Seat). record { frame = f; seat = c }) (filter (is_heard f) (cable_seats i)) (cable_seat i s)
        (in_kept (is_heard f) (cable_seats i) (cable_seat i s) (in_map (cable_seat i) (seats i) s (at.place, at.at)) heard) in
        let still : was_ended (u ++ es) p ≡ false =
        any-append (ends p) u es
        ∙ (ap (λ b. b || was_ended es p) (not_ended i u p told (omega arith))
        ∙ group_ends_none (Some bytes) p (shed_ends_no_new u lost p (omega arith) shed)) in
        record {
          pair = p;
          there = is_pending i (cable_seats i) (u ++ es) p (put_pair (cable_seats i) (u ++ es) f p put is_pair) still;
          kind = refl;
          cable = refl;
          asks = Requested (request_by x w.next) (packet_is (request_by x w.next) good) refl refl refl refl;
        }

    -- The new datagram is asked for.
    new_asked : (s : PlaceOf) → seat_at i w.cable w.next ≡ Some s
        → IsAskedFor i (u ++ group (request_of i station w.cable w.next (held_at u station w.cable))) new s
    new_asked s found = by (list_any (λ (h : Holding). same_address w.next h.next) (held_at u station w.cable)) refl
      where
        by_seats : (ss : List PlaceOf) → station_seats i station w.cable ≡ ss → IsAskedFor i (u ++ group (request_bytes ss w.next)) new s
        by_seats [] e =
            let g = any_at (λ (x : PlaceOf). x.station == station && x.cable == w.cable) (seats i) seated in
            let k = in_kept (λ (x : PlaceOf). x.station == station && x.cable == w.cable) (seats i) g.1 (g.0, g.2) g.3 in
            absurd (nowhere g.1 (subst (λ ss. In ss g.1) e k))
          where
            nowhere : (x : PlaceOf) → In [] x → ⊥
            nowhere x (k, e) = cc
        by_seats (x ∷ ss) e = requested x (subst (λ ss. In ss x) (sym e) (zero, refl)) s found

        by : (b : Bool) → list_any (λ (h : Holding). same_address w.next h.next) (held_at u station w.cable) ≡ b
            → IsAskedFor i (u ++ group (if b then None else request_bytes (station_seats i station w.cable) w.next)) new s
        by true e = as_before None new s (asked_already s found e)
        by false e = by_seats (station_seats i station w.cable) refl

    pub held_asked : AreAskedFor i (u ++ held_entries u station w (held_by_port i u station w))
    held_asked h s there found =
        let ask : Option (List ℕ) = request_of i station w.cable w.next (held_at u station w.cable) in
        let parts = held_parts i u (group ask) h there in
        let none : holds (lost ++ asking ask) ≡ [] =
        holds-append lost (asking ask) ∙ (ap (λ l. l ++ holds (asking ask)) (shed_holds_none u lost shed) ∙ asking_holds_none ask) in
        elim parts.0 as (λ _. IsAskedFor i (u ++ group ask) h s) [
          | inl before ↦ as_before ask h s (asks h s before found)
          | inr this ↦
              let one : new ≡ h = in_one new h (subst (λ hs. In (new ∷ hs) h) none this) in
              subst (λ x. IsAskedFor i (u ++ group ask) x s) one
              (new_asked s (subst (λ (x : Holding). seat_at i x.cable x.next ≡ Some s) (sym one) found))
        ]
