-- Transcripts that aren't legal where addresses are resolved: each has an entry that doesn't follow.
use Rattle.std.proofs.Common.{◌≡◌, ℕ, Bool, [], ◌∷◌, ap, refl, sym, take, true, false, true≢false}
use Rattle.at_base.specs.Packets.{address}
use Rattle.aarp.specs.Packets.{packet}
use Rattle.ddp.specs.Datagram.{datagram}
use Rattle.audit.specs.Example.{addr, hardware}
use Rattle.station.specs.Resolution.{packet_at}
use Rattle.cable_model.specs.Transcript.{Entry, Hold, Lost, Sent, Took, Reached}
use Rattle.cable_model.specs.declared.entry.How.TheVariants as how
use Rattle.legal_runs.proofs.ByHand.{frame}
use Rattle.legal_runs.specs.Example.{echo_reply, echo_request, framed, plain}
use Rattle.legal_runs.specs.Requests.{request}
use Rattle.resolved_runs.specs.Example.{asking, full_ring, held, mapped, resolved_echo, ring_released, telling, unmapped}
use Rattle.resolved_runs.specs.Illegal.{answered_for_another, asked_again, asked_for_each, given_up_put, held_though_mapped}
use Rattle.resolved_runs.specs.Illegal.{learnt_from_request, new_stamp, one_released, put_twice, put_unmapped, reached_again}
use Rattle.resolved_runs.specs.Illegal.{second_given_up}
use Rattle.resolved_runs.specs.ResolvedRuns.{IsLegalResolved}
use Rattle.resolved_runs.proofs.Echo.{frame_in, heard, node_seat, printer_seat, second_there}
use Rattle.resolved_runs.proofs.Follows.{legal_runs, no_end, no_put, pop, top}
use Rattle.resolved_runs.proofs.Owned.{after_sent, after_took}
use Rattle.resolved_runs.proofs.Walks.{absent_8, both_7, echo_3, echo_5, echo_7, echo_30, mapped_way, request_way, ring_33, ring_38, to_router_6}

-- The stamp of an entry that puts or loses a frame.
abbrev stamp_in : Entry → ℕ
stamp_in (Lost stamp) = stamp
stamp_in e = (frame_in e).stamp

two_zero : ◌≡◌ {A = ℕ} 2 0 → ⊥
two_zero e = cc

zero_two : ◌≡◌ {A = ℕ} 0 2 → ⊥
zero_two e = cc

three_zero : ◌≡◌ {A = ℕ} 3 0 → ⊥
three_zero e = cc

-- The entry is a datagram that reached a cable, a frame that is put, or neither.
abbrev sort : Entry → ℕ
sort (Reached c s h b) = 1
sort (Lost stamp) = 2
sort (Sent s b) = 2
sort (Took stamp s) = 2
sort e = 3

-- The entry is a Hold.
abbrev is_hold : Entry → Bool
is_hold (Hold h) = true
is_hold e = false

pub not_reached_again : IsLegalResolved unmapped reached_again → ⊥
unfolding request datagram packet_at packet address
not_reached_again legal =
    let es = Reached 0 2 how.Station (plain 0 10 1) ∷ framed 0 0 2 1 (plain 0 10 1) ∷ [] in
    one_three (ap sort (top (after_took unmapped (take 6 reached_again) es (heard (frame_in (telling 2 0 0 1 10 1 5 7)) node_seat) 2 2 refl
    (to_router_6 (Took 2 2 ∷ es) (legal_runs unmapped reached_again legal)))))
  where
    one_three : ◌≡◌ {A = ℕ} 1 3 → ⊥
    one_three e = cc

pub not_asked_for_each : IsLegalResolved unmapped asked_for_each → ⊥
unfolding request datagram packet_at packet address
not_asked_for_each legal =
    let es = held 2 0 2 10 1 (echo_request 0) ∷ asking 3 0 2 5 10 7 1 ∷ [] in
    no_put (pop (after_sent unmapped 2 0 (addr 10 1) (echo_request 0) request_way (take 3 resolved_echo) es
    (echo_3 (Sent 2 (echo_request 0) ∷ es) (legal_runs unmapped asked_for_each legal))))

pub not_answered_for_another : IsLegalResolved mapped answered_for_another → ⊥
unfolding request datagram packet_at packet address
not_answered_for_another legal =
    let es = telling 4 2 3 6 30 9 4 1 ∷ [] in
    no_put (after_took mapped (take 8 answered_for_another) es (heard (frame_in (asking 3 2 1 4 30 1 9)) printer_seat) 3 3 refl
    (absent_8 (Took 3 3 ∷ es) (legal_runs mapped answered_for_another legal)))

pub not_one_released : IsLegalResolved unmapped one_released → ⊥
unfolding request datagram packet_at packet address
not_one_released legal =
    let es = framed 0 0 2 1 (echo_request 0) ∷ [] in
    no_end (pop (after_took unmapped (take 7 one_released) es (heard (frame_in (telling 3 0 0 1 10 1 5 7)) node_seat) 3 2 refl
    (both_7 (Took 3 2 ∷ es) (legal_runs unmapped one_released legal))))

pub not_new_stamp : IsLegalResolved unmapped new_stamp → ⊥
unfolding request datagram packet_at packet address
not_new_stamp legal =
    let es = framed 3 0 2 1 (echo_request 0) ∷ [] in
    three_zero (ap stamp_in (top (after_took unmapped (take 5 resolved_echo) es (heard (frame_in (telling 2 0 0 1 10 1 5 7)) node_seat) 2 2 refl
    (echo_5 (Took 2 2 ∷ es) (legal_runs unmapped new_stamp legal)))))

pub not_put_twice : IsLegalResolved unmapped put_twice → ⊥
unfolding request datagram packet_at packet address
not_put_twice legal = no_put (echo_7 (framed 0 0 2 1 (echo_request 0) ∷ []) (legal_runs unmapped put_twice legal))

pub not_given_up_put : IsLegalResolved unmapped given_up_put → ⊥
unfolding request datagram packet_at packet address
not_given_up_put legal =
    let es = framed 0 0 2 1 (echo_request 0) ∷ [] in
    zero_two (ap stamp_in (top (after_took unmapped (take 38 ring_released) es (heard (frame_in (telling 18 0 0 1 10 1 5 7)) node_seat) 18 2 refl
    (ring_38 (Took 18 2 ∷ es) (legal_runs unmapped given_up_put legal)))))

pub not_held_though_mapped : IsLegalResolved mapped held_though_mapped → ⊥
unfolding request datagram packet_at packet address
not_held_though_mapped legal =
    true≢false (ap is_hold (top (after_sent mapped 2 0 (addr 10 1) (echo_request 0) mapped_way []
    (held 0 0 2 10 1 (echo_request 0) ∷ asking 1 0 2 5 10 7 1 ∷ []) (legal_runs mapped held_though_mapped legal))))

pub not_put_unmapped : IsLegalResolved unmapped put_unmapped → ⊥
unfolding request datagram packet_at packet address
not_put_unmapped legal =
    true≢false (sym (ap is_hold (top (after_sent unmapped 2 0 (addr 10 1) (echo_request 0) request_way [] (framed 0 0 2 1 (echo_request 0) ∷ [])
    (legal_runs unmapped put_unmapped legal)))))

pub not_second_given_up : IsLegalResolved unmapped second_given_up → ⊥
unfolding request datagram packet_at packet address
not_second_given_up legal =
    let es = held 17 0 2 10 1 (echo_request 0) ∷ Lost 2 ∷ [] in
    two_zero (ap stamp_in (top (pop (after_sent unmapped 2 0 (addr 10 1) (echo_request 0) request_way (take 33 full_ring) es
    (ring_33 (Sent 2 (echo_request 0) ∷ es) (legal_runs unmapped second_given_up legal))))))

pub not_asked_again : IsLegalResolved unmapped asked_again → ⊥
unfolding request datagram packet_at packet address
not_asked_again legal = no_put (echo_3 (asking 2 0 2 5 10 7 1 ∷ []) (legal_runs unmapped asked_again legal))

pub not_learnt_from_request : IsLegalResolved unmapped learnt_from_request → ⊥
unfolding request datagram packet_at packet address
not_learnt_from_request legal =
    let es = framed 12 1 1 2 (echo_reply 4) ∷ [] in
    true≢false (sym (ap is_hold (top (after_took unmapped (take 30 resolved_echo) es (heard (frame 9 2 3 (hardware 4) (echo_reply 0)) second_there) 9 1 refl
    (echo_30 (Took 9 1 ∷ es) (legal_runs unmapped learnt_from_request legal))))))
