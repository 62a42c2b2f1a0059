-- What follows an AARP frame that was taken stands for nothing.
use Rattle.std.proofs.Common.{◌≡◌, zero, not, ◌&&◌, ◌==◌, List, [], ◌∷◌}
use Rattle.std.proofs.Common.{Some, refl, sym, ap, ◌∙◌, subst, arith, filter, eqb-true, eq-eqb}
use Rattle.std.specs.List.{AllByRecursion as Each}
use Rattle.std.proofs.lemmas.Bool.{and_parts}
use Rattle.aarp.specs.Packets.{packet, written}
use Rattle.aarp.specs.declared.packet.Function.{Function}
use Rattle.aarp.specs.declared.packet.Function.TheVariants.{Probe, Request, Response}
use Rattle.aarp.specs.declared.packet.Packet.{Packet}
use Rattle.at_base.specs.Address.{same_address}
use Rattle.at_base.specs.Spelling.{bytes_of}
use Rattle.table_image.specs.Internet.{Internet}
use Rattle.table_image.specs.Seats.{Seat, seat_at, seats}
use Rattle.audit.specs.Rules.{Passes}
use Rattle.station.specs.declared.heard.Kind.TheVariants.{Aarp}
use Rattle.cable_model.specs.Holdings.{holds, still_held, was_released}
use Rattle.cable_model.specs.Pending.{Pair}
use Rattle.cable_model.specs.Transcript.{Entry, Holding, Hold, next_stamp}
use Rattle.cable_model.proofs.Counting.{each_at}
use Rattle.legal_runs.proofs.Legs.{same_address_is}
use Rattle.resolved_runs.specs.Fitting.{SeatsFit}
use Rattle.resolved_runs.specs.Resolved.{answered as station_answers, answer_entries, held_at, resolving, resolving_by, resolving_of, response_by}
use Rattle.resolved_runs.specs.Resolved.{station_seats}
use Rattle.resolved_runs.proofs.Elements.{In, any_in, contained, each_in, kept_in}
use Rattle.resolved_runs.proofs.Fits.{EntryFits, packet_begins, packet_is, response_fits}
use Rattle.resolved_runs.proofs.Stamped.{hold_entry}
use Rattle.resolved_runs.proofs.Standing.{held_in}
use Rattle.resolved_runs.proofs.Steps.{Done, IsFor, all_released, done_none, holds_rising, one_aarp, rising_kept}
use Rattle.resolved_runs.proofs.Told.{Fitting, IsPacket, IsTold}
use Rattle.resolved_runs.proofs.Truths.{seat_is}

module _ (i : Internet) (ok : Passes i) (fit : SeatsFit i) where
  module _ (u : List Entry) (p : Pair) (told : IsTold i u) (fits : Each EntryFits u) (packet_is_told : IsPacket i p.frame) where
    answered : (asked : Packet) (ss : List Seat) → asked ≡ packet_is_told.sent
        → ((s : Seat) → In ss s → In (station_seats i p.seat.station p.frame.cable) s)
        → Done i u (answer_entries u p.frame.cable asked ss) []
    answered asked [] same there = done_none i u
    answered asked (s ∷ ss) same there =
        let w = kept_in (λ (x : Seat). x.station == p.seat.station && x.cable == p.frame.cable) (seats i) s (there s (zero, refl)) in
        let on : s.cable ≡ p.frame.cable =
        eqb-true s.cable p.frame.cable (and_parts (s.station == p.seat.station) (s.cable == p.frame.cable) w.1).1 in
        let good = response_fits i ok fit w.0.0 s asked w.0.1 (subst Fitting (sym same) packet_is_told.fits) in
        let start = packet_begins (response_by s asked) in
        one_aarp i u
        (record {
          stamp = next_stamp u;
          cable = p.frame.cable;
          sender = s.station;
          to = asked.source_hw;
          kind = Aarp;
          bytes = bytes_of packet (written (response_by s asked));
        }) refl (omega arith)
        (record {
          sent = response_by s asked;
          read = packet_is (response_by s asked) good;
          fits = good;
          by = record { seat = s; there = w.0; station = refl; cable = on; address = refl; hardware = refl };
          on =
              any_in (λ (x : Seat). x.station == s.station && x.cable == p.frame.cable) (seats i) s w.0
              (ap (λ b. b && s.cable == p.frame.cable) (eq-eqb s.station s.station refl) ∙ eq-eqb s.cable p.frame.cable on);
          answers = λ e.
              record { seat = s; found = seat_is i ok p.frame.cable s.address w.0.0 s w.0.1 on refl; hardware = refl };
          rest = start.0;
          begins = start.1;
        })

    is_for : (answer : Packet) → answer ≡ packet_is_told.sent → answer.function ≡ Response → (h : Holding)
        → In (filter (λ (h : Holding). same_address answer.source h.next) (held_at u p.seat.station p.frame.cable)) h
        → IsFor i u answer.source_hw h
    is_for answer same response h there =
        let a = kept_in (λ (h : Holding). same_address answer.source h.next) (held_at u p.seat.station p.frame.cable) h there in
        let b = kept_in (λ (h : Holding). h.station == p.seat.station && h.cable == p.frame.cable) (still_held u) h a.0 in
        let on : h.cable ≡ p.frame.cable =
        eqb-true h.cable p.frame.cable (and_parts (h.station == p.seat.station) (h.cable == p.frame.cable) b.1).1 in
        let s = packet_is_told.answers (ap (λ (x : Packet). x.function) (sym same) ∙ response) in
        let next : packet_is_told.sent.source ≡ h.next =
        ap (λ (x : Packet). x.source) (sym same) ∙ same_address_is answer.source h.next a.1 in
        let at = hold_entry i u h (held_in u h (contained (still_held u) h b.0)).0 in
        record {
          there = contained (still_held u) h b.0;
          seat = s.seat;
          found =
              subst (λ x. seat_at i h.cable x ≡ Some s.seat) next
              (subst (λ c. seat_at i c packet_is_told.sent.source ≡ Some s.seat) (sym on) s.found);
          hardware = ap (λ (x : Packet). x.source_hw) same ∙ s.hardware;
          fits = (each_at EntryFits u at.0 (Hold h) at.1 fits).1;
        }

    answers_done : (sent : Packet) → sent ≡ packet_is_told.sent → Done i u (station_answers i u p.seat.station p.frame.cable sent) []
    answers_done sent same =
        answered sent (filter (λ (s : Seat). same_address sent.target s.address) (station_seats i p.seat.station p.frame.cable)) same
        (λ s there. (kept_in (λ (s : Seat). same_address sent.target s.address) (station_seats i p.seat.station p.frame.cable) s there).0)

    by_function : (sent : Packet) (g : Function) → sent ≡ packet_is_told.sent → sent.function ≡ g
        → Done i u (resolving_by i u p.seat.station p.frame.cable sent g) []
    by_function sent Request same e = answers_done sent same
    by_function sent Probe same e = answers_done sent same
    by_function sent Response same e =
        let hs : List Holding = filter (λ (h : Holding). same_address sent.source h.next) (held_at u p.seat.station p.frame.cable) in
        all_released i u sent.source_hw hs told (each_in (IsFor i u sent.source_hw) hs (is_for sent same e))
        (rising_kept (λ (h : Holding). same_address sent.source h.next) (held_at u p.seat.station p.frame.cable)
        (rising_kept (λ (h : Holding). h.station == p.seat.station && h.cable == p.frame.cable) (still_held u)
        (rising_kept (λ d. not (was_released u d)) (holds u) (holds_rising i u told))))

    pub resolving_done : Done i u (resolving i u p) []
    resolving_done =
        subst (λ o. Done i u (resolving_of i u p o) []) (sym packet_is_told.read)
        (by_function packet_is_told.sent packet_is_told.sent.function refl refl)
