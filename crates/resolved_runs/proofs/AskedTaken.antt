-- After an AARP frame was taken, what is still held for stations is asked for.
use Rattle.std.proofs.Common.{◌≡◌, inl, inr, ◌≤◌, ◌<◌, ℕ, zero, Bool, true, false}
use Rattle.std.proofs.Common.{◌||◌, ◌&&◌, ◌==◌, List, [], ◌∷◌, ◌++◌, Option, Some, None, Contains, refl, sym, ap, ◌∙◌, subst, arith}
use Rattle.std.proofs.Common.{filter, map, eqb-true, eq-eqb, ne_eqb, true≢false}
use Rattle.std.specs.List.{list_any, AllByRecursion as Each}
use Rattle.std.proofs.lemmas.Bool.{and_parts}
use Rattle.aarp.specs.Packets.{packet, written}
use Rattle.aarp.specs.declared.packet.Function.{Function}
use Rattle.aarp.specs.declared.packet.Function.TheVariants.{Probe, Request, Response}
use Rattle.aarp.specs.declared.packet.Packet.{Packet}
use Rattle.at_base.specs.Address.{same_address}
use Rattle.at_base.specs.Spelling.{bytes_of}
use Rattle.at_base.specs.declared.address.Hw.{Hw}
use Rattle.table_image.specs.Internet.{Internet}
use Rattle.table_image.specs.Seats.{Seat as PlaceOf, seat_at, seats}
use Rattle.audit.specs.Rules.{Passes}
use Rattle.station.specs.Resolution.{packet_at}
use Rattle.station.specs.declared.heard.Kind.TheVariants.{Aarp}
use Rattle.cable_model.specs.Holdings.{holds, released_frame, releases, still_held}
use Rattle.cable_model.specs.Pending.{Pair, ends, pairs, pending, was_ended}
use Rattle.cable_model.specs.Transcript.{Entry, Frame, Holding, Sent, Put, Took, Reached, Dropped, Lost, Hold, has_put, is_put, next_stamp}
use Rattle.cable_model.proofs.Counting.{any-append}
use Rattle.cable_model.proofs.Stamps.{next_after, put_below}
use Rattle.legal_runs.specs.Stations.{cable_seat, cable_seats}
use Rattle.legal_runs.proofs.Legs.{same_address_is, same_address_self, seat_there}
use Rattle.legal_runs.proofs.Seated.{heard_alone}
use Rattle.resolved_runs.specs.AskedFor.{Answered, AreAskedFor, Asks, IsAskedFor, Requested}
use Rattle.resolved_runs.specs.Mapped.{frame_of}
use Rattle.resolved_runs.specs.Resolved.{answer_entries, held_at, released, resolving, resolving_by, resolving_of}
use Rattle.resolved_runs.specs.Resolved.{response_by, station_seats}
use Rattle.resolved_runs.specs.ResolvedRuns.{taking}
use Rattle.resolved_runs.proofs.Elements.{In, any_in, in_kept, in_list, in_map, in_right, kept_in}
use Rattle.resolved_runs.specs.Fitting.{SeatsFit}
use Rattle.resolved_runs.proofs.Fits.{packet_is, response_fits}
use Rattle.resolved_runs.proofs.Standing.{is_pending, pair_put, pending_in, put_pair}
use Rattle.resolved_runs.proofs.Stamped.{frame_is}
use Rattle.resolved_runs.proofs.Steps.{still_more}
use Rattle.resolved_runs.proofs.Told.{Fitting, IsPacket, IsTold}
use Rattle.resolved_runs.proofs.Asked.{held_parts, not_ended, stays}

module _ (i : Internet) where
  -- What follows puts frames alone.
  abbrev ArePuts : List Entry → Type 0
  ArePuts es = Each (λ e. is_put e ≡ true) es

  puts_end_none : (es : List Entry) (p : Pair) → ArePuts es → was_ended es p ≡ false
  puts_end_none [] p h = refl
  puts_end_none (Put f ∷ es) p h = puts_end_none es p h.1
  puts_end_none (Sent s b ∷ es) p h = cc
  puts_end_none (Took n s ∷ es) p h = cc
  puts_end_none (Reached c s how b ∷ es) p h = cc
  puts_end_none (Dropped r cause b ∷ es) p h = cc
  puts_end_none (Lost n ∷ es) p h = cc
  puts_end_none (Hold d ∷ es) p h = cc

  puts_hold_none : (es : List Entry) → ArePuts es → holds es ≡ []
  puts_hold_none [] h = refl
  puts_hold_none (Put f ∷ es) h = puts_hold_none es h.1
  puts_hold_none (Sent s b ∷ es) h = cc
  puts_hold_none (Took n s ∷ es) h = cc
  puts_hold_none (Reached c s how b ∷ es) h = cc
  puts_hold_none (Dropped r cause b ∷ es) h = cc
  puts_hold_none (Lost n ∷ es) h = cc
  puts_hold_none (Hold d ∷ es) h = cc

  resolving_puts : (t : List Entry) (p : Pair) → ArePuts (resolving i t p)
  resolving_puts t p = by (packet_at p.frame.bytes)
    where
      answers : (sent : Packet) (ss : List PlaceOf) → ArePuts (answer_entries t p.frame.cable sent ss)
      answers sent [] = tt
      answers sent (s ∷ ss) = (refl, tt)

      releases_all : (hw : Hw) (hs : List Holding) → ArePuts (map (λ h. Put (released_frame h hw)) hs)
      releases_all hw [] = tt
      releases_all hw (h ∷ hs) = (refl, releases_all hw hs)

      functions : (sent : Packet) (f : Function) → ArePuts (resolving_by i t p.seat.station p.frame.cable sent f)
      functions sent Request =
          answers sent (filter (λ (s : PlaceOf). same_address sent.target s.address) (station_seats i p.seat.station p.frame.cable))
      functions sent Response =
          releases_all sent.source_hw (filter (λ (h : Holding). same_address sent.source h.next) (held_at t p.seat.station p.frame.cable))
      functions sent Probe =
          answers sent (filter (λ (s : PlaceOf). same_address sent.target s.address) (station_seats i p.seat.station p.frame.cable))

      by : (o : Option Packet) → ArePuts (resolving_of i t p o)
      by None = tt
      by (Some sent) = functions sent sent.function

  module _ (ok : Passes i) (fit : SeatsFit i) (t : List Entry) (p : Pair) (told : IsTold i t) (asks : AreAskedFor i t)
      (there : Contains (pending (cable_seats i) t) p) (k : IsPacket i p.frame) where
    abbrev after : List Entry
    after = t ++ taking p ∷ []

    abbrev added : List Entry
    added = taking p ∷ resolving i after p

    put_there : In t (Put p.frame)
    put_there = (pair_put (cable_seats i) t p (pending_in i (cable_seats i) t p there).0).0

    taken_below : p.frame.stamp < next_stamp t
    taken_below =
        put_below t p.frame.stamp (any_in (has_put p.frame.stamp) t (Put p.frame) put_there (eq-eqb p.frame.stamp p.frame.stamp refl))

    same_sent : (sent : Packet) → packet_at p.frame.bytes ≡ Some sent → k.sent ≡ sent
    same_sent sent read = some_same k.sent sent (sym k.read ∙ read)
      where
        some_same : (a b : Packet) → Some a ≡ Some b → a ≡ b
        some_same a b e = cc

    -- The request that was taken is answered.
    answered : (h : Holding) (s x : PlaceOf) (xs : List PlaceOf) (sent : Packet) → packet_at p.frame.bytes ≡ Some sent
        → sent.target ≡ h.next → p.frame.sender ≡ h.station → p.frame.cable ≡ h.cable → p.seat.station ≡ s.station
        → filter (λ (x : PlaceOf). same_address sent.target x.address) (station_seats i p.seat.station p.frame.cable) ≡ x ∷ xs
        → resolving i after p ≡ answer_entries after p.frame.cable sent (x ∷ xs) → IsAskedFor i (t ++ added) h s
    answered h s x xs sent read target sender cable seat e is =
        let a = kept_in (λ (x : PlaceOf). same_address sent.target x.address) (station_seats i p.seat.station p.frame.cable) x
        (subst (λ ss. In ss x) (sym e) (zero, refl)) in
        let b = kept_in (λ (x : PlaceOf). x.station == p.seat.station && x.cable == p.frame.cable) (seats i) x a.0 in
        let both = and_parts (x.station == p.seat.station) (x.cable == p.frame.cable) b.1 in
        let f : Frame = record {
          stamp = next_stamp after;
          cable = p.frame.cable;
          sender = x.station;
          to = sent.source_hw;
          kind = Aarp;
          bytes = bytes_of packet (written (response_by x sent));
        } in
        let hs : PlaceOf = k.by.seat in
        let hw : hs.hardware.0 ≡ sent.source_hw.0 =
        ap (λ (y : Hw). y.0) (sym k.by.hardware ∙ ap (λ (y : Packet). y.source_hw) (same_sent sent read)) in
        let q : Pair = record { frame = f; seat = cable_seat i hs } in
        let alone = heard_alone i ok f k.by.there.0 hs k.by.there.1 k.by.cable hw in
        let good = response_fits i ok fit b.0.0 x sent b.0.1 (subst Fitting (same_sent sent read) k.fits) in
        let in_added : In added (Put f) =
        in_right (taking p ∷ []) (resolving i after p) (Put f) (subst (λ es. In es (Put f)) (sym is) (zero, refl)) in
        let put : In (t ++ added) (Put f) = in_right t added (Put f) in_added in
        let pair_there : In (pairs (cable_seats i) (t ++ added)) q =
        put_pair (cable_seats i) (t ++ added) f q put (subst (λ ps. In ps q) (sym alone) (zero, refl)) in
        let low = taken_below in
        let n = next_after t (taking p) in
        let fresh : next_stamp t ≤ next_stamp after = omega (arith, n) in
        let still : was_ended (t ++ added) q ≡ false =
        any-append (ends q) t added
        ∙ (ap (λ b. b || was_ended added q) (not_ended i t q told fresh)
        ∙ (ap (λ b. (b && p.seat.station == hs.station) || was_ended (resolving i after p) q)
        (ne_eqb p.frame.stamp (next_stamp after) (λ same. absurd (omega (arith, same, low, fresh))))
        ∙ puts_end_none (resolving i after p) q (resolving_puts after p))) in
        record {
          pair = q;
          there = is_pending i (cable_seats i) (t ++ added) q pair_there still;
          kind = refl;
          cable = cable;
          asks =
              Answered (response_by x sent) (packet_is (response_by x sent) good) refl
              (sym (same_address_is sent.target x.address a.1) ∙ target) (eqb-true x.station p.seat.station both.0 ∙ seat)
              (k.by.station ∙ sender);
        }

    request_taken : (h : Holding) (s : PlaceOf) (sent : Packet) → seat_at i h.cable h.next ≡ Some s → packet_at p.frame.bytes ≡ Some sent
        → sent.function ≡ Request → sent.target ≡ h.next → p.frame.sender ≡ h.station → p.frame.cable ≡ h.cable
        → p.seat.station ≡ s.station → IsAskedFor i (t ++ added) h s
    request_taken h s sent found read function target sender cable seat =
        by (filter (λ (x : PlaceOf). same_address sent.target x.address) (station_seats i p.seat.station p.frame.cable)) refl
      where
        is : resolving i after p ≡ answer_entries after p.frame.cable sent
            (filter (λ (x : PlaceOf). same_address sent.target x.address) (station_seats i p.seat.station p.frame.cable))
        is = ap (resolving_of i after p) read ∙ ap (resolving_by i after p.seat.station p.frame.cable sent) function

        nowhere : In [] s → ⊥
        nowhere (k, e) = cc

        by : (ss : List PlaceOf)
            → filter (λ (x : PlaceOf). same_address sent.target x.address) (station_seats i p.seat.station p.frame.cable) ≡ ss
            → IsAskedFor i (t ++ added) h s
        by (x ∷ xs) e = answered h s x xs sent read target sender cable seat e (is ∙ ap (answer_entries after p.frame.cable sent) e)
        by [] e =
            let at = seat_there i h.cable h.next s found in
            let passes : (s.station == p.seat.station && s.cable == p.frame.cable) ≡ true =
            ap (λ b. b && s.cable == p.frame.cable) (eq-eqb s.station p.seat.station (sym seat))
            ∙ eq-eqb s.cable p.frame.cable (at.cable_is ∙ sym cable) in
            let a = in_kept (λ (x : PlaceOf). x.station == p.seat.station && x.cable == p.frame.cable) (seats i) s (at.place, at.at) passes in
            let b = in_kept (λ (x : PlaceOf). same_address sent.target x.address) (station_seats i p.seat.station p.frame.cable) s a
            (ap (same_address sent.target) (at.address ∙ sym target) ∙ same_address_self sent.target) in
            absurd (nowhere (subst (λ ss. In ss s) e b))

    -- The response that was taken releases the datagram.
    response_taken : (h : Holding) (sent : Packet) → Contains (still_held t) h → packet_at p.frame.bytes ≡ Some sent
        → sent.function ≡ Response → sent.source ≡ h.next → p.frame.cable ≡ h.cable → p.seat.station ≡ h.station
        → list_any (releases h.stamp) added ≡ true
    response_taken h sent held read function source cable seat =
        let is : resolving i after p ≡ released after p.seat.station p.frame.cable sent =
        ap (resolving_of i after p) read ∙ ap (resolving_by i after p.seat.station p.frame.cable sent) function in
        let later = in_list (still_held after) h (still_more i t (taking p) h held refl) in
        let passes : (h.station == p.seat.station && h.cable == p.frame.cable) ≡ true =
        ap (λ b. b && h.cable == p.frame.cable) (eq-eqb h.station p.seat.station (sym seat)) ∙ eq-eqb h.cable p.frame.cable (sym cable) in
        let a = in_kept (λ (d : Holding). d.station == p.seat.station && d.cable == p.frame.cable) (still_held after) h later passes in
        let b = in_kept (λ (d : Holding). same_address sent.source d.next) (held_at after p.seat.station p.frame.cable) h a
        (ap (λ x. same_address x h.next) source ∙ same_address_self h.next) in
        let c = in_map (λ (d : Holding). Put (released_frame d sent.source_hw))
        (filter (λ (d : Holding). same_address sent.source d.next) (held_at after p.seat.station p.frame.cable)) h b in
        any_in (releases h.stamp) added (Put (released_frame h sent.source_hw))
        (in_right (taking p ∷ []) (resolving i after p) _ (subst (λ es. In es (Put (released_frame h sent.source_hw))) (sym is) c))
        (eq-eqb h.stamp h.stamp refl)

    pub taken_asked : AreAskedFor i (t ++ added)
    taken_asked h s held found =
        let parts = held_parts i t added h held in
        elim parts.0 as (λ _. IsAskedFor i (t ++ added) h s) [
          | inl before ↦ on before (asks h s before found) parts.1
          | inr this ↦ absurd (nowhere (subst (λ hs. In hs h) (puts_hold_none (resolving i after p) (resolving_puts after p)) this))
        ]
      where
        nowhere : In [] h → ⊥
        nowhere (k, e) = cc

        frame_same : (q : Pair) → Contains (pending (cable_seats i) t) q → q.frame.stamp ≡ p.frame.stamp → q.frame ≡ p.frame
        frame_same q there_q same =
            let put_q = (pair_put (cable_seats i) t q (pending_in i (cable_seats i) t q there_q).0).0 in
            let a = frame_is i t q.frame told put_q in
            let b = frame_is i t p.frame told put_there in
            some_same q.frame p.frame (sym a ∙ (ap (λ n. frame_of n t) same ∙ b))
          where
            some_same : (x y : Frame) → Some x ≡ Some y → x ≡ y
            some_same x y e = cc

        replaced : Contains (still_held t) h → list_any (releases h.stamp) added ≡ false → (f : Frame) (station : ℕ) → f ≡ p.frame
            → station ≡ p.seat.station → f.cable ≡ h.cable → (q : Pair) → q.frame ≡ f → q.seat.station ≡ station → Asks h s q
            → IsAskedFor i (t ++ added) h s
        replaced before none f station ef es cable q eq_f eq_s (Requested sent read function target sender seat) =
            let same : q.frame ≡ p.frame = eq_f ∙ ef in
            request_taken h s sent found (ap (λ (x : Frame). packet_at x.bytes) (sym same) ∙ read) function target
            (ap (λ (x : Frame). x.sender) (sym same) ∙ sender) (ap (λ (x : Frame). x.cable) (sym ef) ∙ cable) (sym es ∙ (sym eq_s ∙ seat))
        replaced before none f station ef es cable q eq_f eq_s (Answered sent read function source sender seat) =
            let same : q.frame ≡ p.frame = eq_f ∙ ef in
            absurd (true≢false (sym (response_taken h sent before (ap (λ (x : Frame). packet_at x.bytes) (sym same) ∙ read) function source
            (ap (λ (x : Frame). x.cable) (sym ef) ∙ cable) (sym es ∙ (sym eq_s ∙ seat))) ∙ none))

        on : Contains (still_held t) h → (q : IsAskedFor i t h s) → list_any (releases h.stamp) added ≡ false
            → IsAskedFor i (t ++ added) h s
        on before q none = by (p.frame.stamp == q.pair.frame.stamp && p.seat.station == q.pair.seat.station) refl
          where
            by : (b : Bool) → (p.frame.stamp == q.pair.frame.stamp && p.seat.station == q.pair.seat.station) ≡ b
                → IsAskedFor i (t ++ added) h s
            by true e =
                let both = and_parts (p.frame.stamp == q.pair.frame.stamp) (p.seat.station == q.pair.seat.station) e in
                let same = frame_same q.pair q.there (sym (eqb-true p.frame.stamp q.pair.frame.stamp both.0)) in
                replaced before none q.pair.frame q.pair.seat.station same
                (sym (eqb-true p.seat.station q.pair.seat.station both.1)) q.cable q.pair refl refl q.asks
            by false e = record {
              pair = q.pair;
              there =
                  stays i t added q.pair q.there
                  (ap (λ b. b || was_ended (resolving i after p) q.pair) e
                  ∙ puts_end_none (resolving i after p) q.pair (resolving_puts after p));
              kind = q.kind;
              cable = q.cable;
              asks = q.asks;
            }
