-- What follows the first steps of the examples.
use Rattle.std.proofs.Common.{◌≡◌, ◌≢◌, ◌<◌, ℕ, Bool, List, [], ◌∷◌, ◌++◌, None, Option, Some, ap, arith, cond, refl, sym, take, true, false, true≢false, eqb-true, ◌∙◌, ◌==◌, ◌||◌}
use Rattle.at_base.specs.Address.{same_address}
use Rattle.at_base.specs.Packets.{address}
use Rattle.at_base.specs.declared.address.Addr.{Addr}
use Rattle.aarp.specs.Packets.{packet}
use Rattle.ddp.specs.Datagram.{datagram}
use Rattle.table_image.specs.Seats.{Seat}
use Rattle.audit.specs.Example.{addr, hardware}
use Rattle.audit.specs.Routing.{owner, router_of}
use Rattle.station.specs.Resolution.{packet_at}
use Rattle.cable_model.specs.Transcript.{Entry, Lost, Sent, Took, Reached}
use Rattle.cable_model.specs.declared.entry.How.TheVariants as how
use Rattle.legal_runs.proofs.ByHand.{frame, not_zero}
use Rattle.legal_runs.proofs.Legs.{same_address_is}
use Rattle.legal_runs.specs.Example.{echo_reply, echo_request, framed, plain}
use Rattle.legal_runs.specs.Requests.{request}
use Rattle.legal_runs.specs.Stations.{is_on}
use Rattle.resolved_runs.specs.Example.{asking, full_ring, held, mapped, resolved_echo, ring_released, telling, unmapped}
use Rattle.resolved_runs.specs.Illegal.{answered_for_another, one_released, reached_again}
use Rattle.resolved_runs.proofs.Echo.{first_here, first_there, frame_in, heard, node_seat, printer_seat, second_here, second_there}
use Rattle.resolved_runs.proofs.Follows.{Runs, pop}
use Rattle.resolved_runs.proofs.Owned.{HasWay, after_sent, after_took}

-- ---- The ways of the two nodes

on_first : (k : ℕ) → is_on unmapped 2 k ≡ true → k ≡ 0
on_first k e = by (0 == k) refl
  where
    by : (b : Bool) → (0 == k) ≡ b → k ≡ 0
    by true h = sym (eqb-true 0 k h)
    by false h = absurd (true≢false (sym e ∙ ap (λ b. b || false) h))

on_last : (k : ℕ) → is_on unmapped 3 k ≡ true → k ≡ 2
on_last k e = by (2 == k) refl
  where
    by : (b : Bool) → (2 == k) ≡ b → k ≡ 2
    by true h = sym (eqb-true 2 k h)
    by false h = absurd (true≢false (sym e ∙ ap (λ b. b || false) h))

abbrev place : ℕ → ℕ → Addr → ℕ → Seat
place station cable a byte = record { station = station; cable = cable; address = a; hardware = hardware byte }

abbrev first_owner : Bool → Bool → Option ℕ
first_owner b c = router_of unmapped (cond b (Some (place 0 0 (addr 10 1) 1)) (cond c (Some (place 2 0 (addr 10 7) 5)) None))

one_first : (x : Addr) (r : ℕ) → owner unmapped 0 x ≡ Some r → x ≡ addr 10 1
one_first x r own = by (same_address (addr 10 1) x) (same_address (addr 10 7) x) refl refl own
  where
    by : (b c : Bool) → same_address (addr 10 1) x ≡ b → same_address (addr 10 7) x ≡ c → first_owner b c ≡ Some r → x ≡ addr 10 1
    by true c h g e = sym (same_address_is (addr 10 1) x h)
    by false true h g e = cc
    by false false h g e = cc

abbrev last_owner : Bool → Bool → Option ℕ
last_owner b c = router_of unmapped (cond b (Some (place 1 2 (addr 30 1) 4)) (cond c (Some (place 3 2 (addr 30 5) 6)) None))

one_last : (x : Addr) (r : ℕ) → owner unmapped 2 x ≡ Some r → x ≡ addr 30 1
one_last x r own = by (same_address (addr 30 1) x) (same_address (addr 30 5) x) refl refl own
  where
    by : (b c : Bool) → same_address (addr 30 1) x ≡ b → same_address (addr 30 5) x ≡ c → last_owner b c ≡ Some r → x ≡ addr 30 1
    by true c h g e = sym (same_address_is (addr 30 1) x h)
    by false true h g e = cc
    by false false h g e = cc

lower : (m n : ℕ) → m < n → m ≢ n
lower m n lt e = absurd (omega (arith, lt, e))

pub request_way : HasWay unmapped 2 0 (addr 10 1) (echo_request 0)
request_way = record {
  on = on_first;
  one = one_first;
  node = lower 5 255 (omega arith);
  net = not_zero 30 (omega arith);
  off = λ e. absurd (true≢false (sym e));
}

pub mapped_way : HasWay mapped 2 0 (addr 10 1) (echo_request 0)
mapped_way = record {
  on = on_first;
  one = one_first;
  node = lower 5 255 (omega arith);
  net = not_zero 30 (omega arith);
  off = λ e. absurd (true≢false (sym e));
}

pub reply_way : HasWay unmapped 3 2 (addr 30 1) (echo_reply 0)
reply_way = record {
  on = on_last;
  one = one_last;
  node = lower 7 255 (omega arith);
  net = not_zero 10 (omega arith);
  off = λ e. absurd (true≢false (sym e));
}

pub router_way : HasWay unmapped 2 0 (addr 10 1) (plain 0 10 1)
router_way = record {
  on = on_first;
  one = one_first;
  node = lower 1 255 (omega arith);
  net = not_zero 10 (omega arith);
  off = λ e. refl;
}

pub absent_way : HasWay mapped 2 0 (addr 10 1) (plain 0 30 9)
absent_way = record {
  on = on_first;
  one = one_first;
  node = lower 9 255 (omega arith);
  net = not_zero 30 (omega arith);
  off = λ e. absurd (true≢false (sym e));
}

-- ---- The echo

pub echo_3 : (es : List Entry) → Runs unmapped [] [] (take 3 resolved_echo ++ es) → Runs unmapped (take 3 resolved_echo) [] es
unfolding request datagram packet_at packet address
echo_3 es w = pop (pop (after_sent unmapped 2 0 (addr 10 1) (echo_request 0) request_way [] (held 0 0 2 10 1 (echo_request 0) ∷ asking 1 0 2 5 10 7 1 ∷ es) w))

pub echo_5 : (es : List Entry) → Runs unmapped [] [] (take 5 resolved_echo ++ es) → Runs unmapped (take 5 resolved_echo) [] es
unfolding request datagram packet_at packet address
echo_5 es w = pop (after_took unmapped (take 3 resolved_echo) (telling 2 0 0 1 10 1 5 7 ∷ es) (heard (frame_in (asking 1 0 2 5 10 7 1)) first_here) 1 0 refl (echo_3 (Took 1 0 ∷ telling 2 0 0 1 10 1 5 7 ∷ es) w))

pub echo_7 : (es : List Entry) → Runs unmapped [] [] (take 7 resolved_echo ++ es) → Runs unmapped (take 7 resolved_echo) [] es
unfolding request datagram packet_at packet address
echo_7 es w = pop (after_took unmapped (take 5 resolved_echo) (framed 0 0 2 1 (echo_request 0) ∷ es) (heard (frame_in (telling 2 0 0 1 10 1 5 7)) node_seat) 2 2 refl (echo_5 (Took 2 2 ∷ framed 0 0 2 1 (echo_request 0) ∷ es) w))

pub echo_10 : (es : List Entry) → Runs unmapped [] [] (take 10 resolved_echo ++ es) → Runs unmapped (take 10 resolved_echo) [] es
unfolding request datagram packet_at packet address
echo_10 es w = pop (pop (after_took unmapped (take 7 resolved_echo) (held 3 1 0 20 2 (echo_request 4) ∷ asking 4 1 0 2 20 1 2 ∷ es) (heard (frame 0 0 2 (hardware 1) (echo_request 0)) first_here) 0 0 refl (echo_7 (Took 0 0 ∷ held 3 1 0 20 2 (echo_request 4) ∷ asking 4 1 0 2 20 1 2 ∷ es) w)))

pub echo_12 : (es : List Entry) → Runs unmapped [] [] (take 12 resolved_echo ++ es) → Runs unmapped (take 12 resolved_echo) [] es
unfolding request datagram packet_at packet address
echo_12 es w = pop (after_took unmapped (take 10 resolved_echo) (telling 5 1 1 3 20 2 2 1 ∷ es) (heard (frame_in (asking 4 1 0 2 20 1 2)) second_here) 4 1 refl (echo_10 (Took 4 1 ∷ telling 5 1 1 3 20 2 2 1 ∷ es) w))

pub echo_14 : (es : List Entry) → Runs unmapped [] [] (take 14 resolved_echo ++ es) → Runs unmapped (take 14 resolved_echo) [] es
unfolding request datagram packet_at packet address
echo_14 es w = pop (after_took unmapped (take 12 resolved_echo) (framed 3 1 0 3 (echo_request 4) ∷ es) (heard (frame_in (telling 5 1 1 3 20 2 2 1)) first_there) 5 0 refl (echo_12 (Took 5 0 ∷ framed 3 1 0 3 (echo_request 4) ∷ es) w))

pub echo_18 : (es : List Entry) → Runs unmapped [] [] (take 18 resolved_echo ++ es) → Runs unmapped (take 18 resolved_echo) [] es
unfolding request datagram packet_at packet address
echo_18 es w = pop (pop (pop (after_took unmapped (take 14 resolved_echo) (Reached 2 1 how.Held (echo_request 0) ∷ held 6 2 1 30 5 (echo_request 8) ∷ asking 7 2 1 4 30 1 5 ∷ es) (heard (frame 3 1 0 (hardware 3) (echo_request 4)) second_here) 3 1 refl (echo_14 (Took 3 1 ∷ Reached 2 1 how.Held (echo_request 0) ∷ held 6 2 1 30 5 (echo_request 8) ∷ asking 7 2 1 4 30 1 5 ∷ es) w))))

pub echo_20 : (es : List Entry) → Runs unmapped [] [] (take 20 resolved_echo ++ es) → Runs unmapped (take 20 resolved_echo) [] es
unfolding request datagram packet_at packet address
echo_20 es w = pop (after_took unmapped (take 18 resolved_echo) (telling 8 2 3 6 30 5 4 1 ∷ es) (heard (frame_in (asking 7 2 1 4 30 1 5)) printer_seat) 7 3 refl (echo_18 (Took 7 3 ∷ telling 8 2 3 6 30 5 4 1 ∷ es) w))

pub echo_22 : (es : List Entry) → Runs unmapped [] [] (take 22 resolved_echo ++ es) → Runs unmapped (take 22 resolved_echo) [] es
unfolding request datagram packet_at packet address
echo_22 es w = pop (after_took unmapped (take 20 resolved_echo) (framed 6 2 1 6 (echo_request 8) ∷ es) (heard (frame_in (telling 8 2 3 6 30 5 4 1)) second_there) 8 1 refl (echo_20 (Took 8 1 ∷ framed 6 2 1 6 (echo_request 8) ∷ es) w))

pub echo_23 : (es : List Entry) → Runs unmapped [] [] (take 23 resolved_echo ++ es) → Runs unmapped (take 23 resolved_echo) [] es
unfolding request datagram packet_at packet address
echo_23 es w = after_took unmapped (take 22 resolved_echo) (es) (heard (frame 6 2 1 (hardware 6) (echo_request 8)) printer_seat) 6 3 refl (echo_22 (Took 6 3 ∷ es) w)

pub echo_26 : (es : List Entry) → Runs unmapped [] [] (take 26 resolved_echo ++ es) → Runs unmapped (take 26 resolved_echo) [] es
unfolding request datagram packet_at packet address
echo_26 es w = pop (pop (after_sent unmapped 3 2 (addr 30 1) (echo_reply 0) reply_way (take 23 resolved_echo) (held 9 2 3 30 1 (echo_reply 0) ∷ asking 10 2 3 6 30 5 1 ∷ es) (echo_23 (Sent 3 (echo_reply 0) ∷ held 9 2 3 30 1 (echo_reply 0) ∷ asking 10 2 3 6 30 5 1 ∷ es) w)))

pub echo_28 : (es : List Entry) → Runs unmapped [] [] (take 28 resolved_echo ++ es) → Runs unmapped (take 28 resolved_echo) [] es
unfolding request datagram packet_at packet address
echo_28 es w = pop (after_took unmapped (take 26 resolved_echo) (telling 11 2 1 4 30 1 6 5 ∷ es) (heard (frame_in (asking 10 2 3 6 30 5 1)) second_there) 10 1 refl (echo_26 (Took 10 1 ∷ telling 11 2 1 4 30 1 6 5 ∷ es) w))

pub echo_30 : (es : List Entry) → Runs unmapped [] [] (take 30 resolved_echo ++ es) → Runs unmapped (take 30 resolved_echo) [] es
unfolding request datagram packet_at packet address
echo_30 es w = pop (after_took unmapped (take 28 resolved_echo) (framed 9 2 3 4 (echo_reply 0) ∷ es) (heard (frame_in (telling 11 2 1 4 30 1 6 5)) printer_seat) 11 3 refl (echo_28 (Took 11 3 ∷ framed 9 2 3 4 (echo_reply 0) ∷ es) w))

-- ---- The full ring

pub ring_3 : (es : List Entry) → Runs unmapped [] [] (take 3 full_ring ++ es) → Runs unmapped (take 3 full_ring) [] es
unfolding request datagram packet_at packet address
ring_3 es w = pop (pop (after_sent unmapped 2 0 (addr 10 1) (echo_request 0) request_way [] (held 0 0 2 10 1 (echo_request 0) ∷ asking 1 0 2 5 10 7 1 ∷ es) w))

pub ring_5 : (es : List Entry) → Runs unmapped [] [] (take 5 full_ring ++ es) → Runs unmapped (take 5 full_ring) [] es
unfolding request datagram packet_at packet address
ring_5 es w = pop (after_sent unmapped 2 0 (addr 10 1) (echo_request 0) request_way (take 3 full_ring) (held 2 0 2 10 1 (echo_request 0) ∷ es) (ring_3 (Sent 2 (echo_request 0) ∷ held 2 0 2 10 1 (echo_request 0) ∷ es) w))

pub ring_7 : (es : List Entry) → Runs unmapped [] [] (take 7 full_ring ++ es) → Runs unmapped (take 7 full_ring) [] es
unfolding request datagram packet_at packet address
ring_7 es w = pop (after_sent unmapped 2 0 (addr 10 1) (echo_request 0) request_way (take 5 full_ring) (held 3 0 2 10 1 (echo_request 0) ∷ es) (ring_5 (Sent 2 (echo_request 0) ∷ held 3 0 2 10 1 (echo_request 0) ∷ es) w))

pub ring_9 : (es : List Entry) → Runs unmapped [] [] (take 9 full_ring ++ es) → Runs unmapped (take 9 full_ring) [] es
unfolding request datagram packet_at packet address
ring_9 es w = pop (after_sent unmapped 2 0 (addr 10 1) (echo_request 0) request_way (take 7 full_ring) (held 4 0 2 10 1 (echo_request 0) ∷ es) (ring_7 (Sent 2 (echo_request 0) ∷ held 4 0 2 10 1 (echo_request 0) ∷ es) w))

pub ring_11 : (es : List Entry) → Runs unmapped [] [] (take 11 full_ring ++ es) → Runs unmapped (take 11 full_ring) [] es
unfolding request datagram packet_at packet address
ring_11 es w = pop (after_sent unmapped 2 0 (addr 10 1) (echo_request 0) request_way (take 9 full_ring) (held 5 0 2 10 1 (echo_request 0) ∷ es) (ring_9 (Sent 2 (echo_request 0) ∷ held 5 0 2 10 1 (echo_request 0) ∷ es) w))

pub ring_13 : (es : List Entry) → Runs unmapped [] [] (take 13 full_ring ++ es) → Runs unmapped (take 13 full_ring) [] es
unfolding request datagram packet_at packet address
ring_13 es w = pop (after_sent unmapped 2 0 (addr 10 1) (echo_request 0) request_way (take 11 full_ring) (held 6 0 2 10 1 (echo_request 0) ∷ es) (ring_11 (Sent 2 (echo_request 0) ∷ held 6 0 2 10 1 (echo_request 0) ∷ es) w))

pub ring_15 : (es : List Entry) → Runs unmapped [] [] (take 15 full_ring ++ es) → Runs unmapped (take 15 full_ring) [] es
unfolding request datagram packet_at packet address
ring_15 es w = pop (after_sent unmapped 2 0 (addr 10 1) (echo_request 0) request_way (take 13 full_ring) (held 7 0 2 10 1 (echo_request 0) ∷ es) (ring_13 (Sent 2 (echo_request 0) ∷ held 7 0 2 10 1 (echo_request 0) ∷ es) w))

pub ring_17 : (es : List Entry) → Runs unmapped [] [] (take 17 full_ring ++ es) → Runs unmapped (take 17 full_ring) [] es
unfolding request datagram packet_at packet address
ring_17 es w = pop (after_sent unmapped 2 0 (addr 10 1) (echo_request 0) request_way (take 15 full_ring) (held 8 0 2 10 1 (echo_request 0) ∷ es) (ring_15 (Sent 2 (echo_request 0) ∷ held 8 0 2 10 1 (echo_request 0) ∷ es) w))

pub ring_19 : (es : List Entry) → Runs unmapped [] [] (take 19 full_ring ++ es) → Runs unmapped (take 19 full_ring) [] es
unfolding request datagram packet_at packet address
ring_19 es w = pop (after_sent unmapped 2 0 (addr 10 1) (echo_request 0) request_way (take 17 full_ring) (held 9 0 2 10 1 (echo_request 0) ∷ es) (ring_17 (Sent 2 (echo_request 0) ∷ held 9 0 2 10 1 (echo_request 0) ∷ es) w))

pub ring_21 : (es : List Entry) → Runs unmapped [] [] (take 21 full_ring ++ es) → Runs unmapped (take 21 full_ring) [] es
unfolding request datagram packet_at packet address
ring_21 es w = pop (after_sent unmapped 2 0 (addr 10 1) (echo_request 0) request_way (take 19 full_ring) (held 10 0 2 10 1 (echo_request 0) ∷ es) (ring_19 (Sent 2 (echo_request 0) ∷ held 10 0 2 10 1 (echo_request 0) ∷ es) w))

pub ring_23 : (es : List Entry) → Runs unmapped [] [] (take 23 full_ring ++ es) → Runs unmapped (take 23 full_ring) [] es
unfolding request datagram packet_at packet address
ring_23 es w = pop (after_sent unmapped 2 0 (addr 10 1) (echo_request 0) request_way (take 21 full_ring) (held 11 0 2 10 1 (echo_request 0) ∷ es) (ring_21 (Sent 2 (echo_request 0) ∷ held 11 0 2 10 1 (echo_request 0) ∷ es) w))

pub ring_25 : (es : List Entry) → Runs unmapped [] [] (take 25 full_ring ++ es) → Runs unmapped (take 25 full_ring) [] es
unfolding request datagram packet_at packet address
ring_25 es w = pop (after_sent unmapped 2 0 (addr 10 1) (echo_request 0) request_way (take 23 full_ring) (held 12 0 2 10 1 (echo_request 0) ∷ es) (ring_23 (Sent 2 (echo_request 0) ∷ held 12 0 2 10 1 (echo_request 0) ∷ es) w))

pub ring_27 : (es : List Entry) → Runs unmapped [] [] (take 27 full_ring ++ es) → Runs unmapped (take 27 full_ring) [] es
unfolding request datagram packet_at packet address
ring_27 es w = pop (after_sent unmapped 2 0 (addr 10 1) (echo_request 0) request_way (take 25 full_ring) (held 13 0 2 10 1 (echo_request 0) ∷ es) (ring_25 (Sent 2 (echo_request 0) ∷ held 13 0 2 10 1 (echo_request 0) ∷ es) w))

pub ring_29 : (es : List Entry) → Runs unmapped [] [] (take 29 full_ring ++ es) → Runs unmapped (take 29 full_ring) [] es
unfolding request datagram packet_at packet address
ring_29 es w = pop (after_sent unmapped 2 0 (addr 10 1) (echo_request 0) request_way (take 27 full_ring) (held 14 0 2 10 1 (echo_request 0) ∷ es) (ring_27 (Sent 2 (echo_request 0) ∷ held 14 0 2 10 1 (echo_request 0) ∷ es) w))

pub ring_31 : (es : List Entry) → Runs unmapped [] [] (take 31 full_ring ++ es) → Runs unmapped (take 31 full_ring) [] es
unfolding request datagram packet_at packet address
ring_31 es w = pop (after_sent unmapped 2 0 (addr 10 1) (echo_request 0) request_way (take 29 full_ring) (held 15 0 2 10 1 (echo_request 0) ∷ es) (ring_29 (Sent 2 (echo_request 0) ∷ held 15 0 2 10 1 (echo_request 0) ∷ es) w))

pub ring_33 : (es : List Entry) → Runs unmapped [] [] (take 33 full_ring ++ es) → Runs unmapped (take 33 full_ring) [] es
unfolding request datagram packet_at packet address
ring_33 es w = pop (after_sent unmapped 2 0 (addr 10 1) (echo_request 0) request_way (take 31 full_ring) (held 16 0 2 10 1 (echo_request 0) ∷ es) (ring_31 (Sent 2 (echo_request 0) ∷ held 16 0 2 10 1 (echo_request 0) ∷ es) w))

pub ring_36 : (es : List Entry) → Runs unmapped [] [] (take 36 full_ring ++ es) → Runs unmapped (take 36 full_ring) [] es
unfolding request datagram packet_at packet address
ring_36 es w = pop (pop (after_sent unmapped 2 0 (addr 10 1) (echo_request 0) request_way (take 33 full_ring) (held 17 0 2 10 1 (echo_request 0) ∷ Lost 0 ∷ es) (ring_33 (Sent 2 (echo_request 0) ∷ held 17 0 2 10 1 (echo_request 0) ∷ Lost 0 ∷ es) w)))

-- ---- The beginnings of those that aren't legal

pub to_router_4 : (es : List Entry) → Runs unmapped [] [] (take 4 reached_again ++ es) → Runs unmapped (take 4 reached_again) [] es
unfolding request datagram packet_at packet address
to_router_4 es w = pop (pop (pop (after_sent unmapped 2 0 (addr 10 1) (plain 0 10 1) router_way [] (Reached 0 2 how.Held (plain 0 10 1) ∷ held 0 0 2 10 1 (plain 0 10 1) ∷ asking 1 0 2 5 10 7 1 ∷ es) w)))

pub to_router_6 : (es : List Entry) → Runs unmapped [] [] (take 6 reached_again ++ es) → Runs unmapped (take 6 reached_again) [] es
unfolding request datagram packet_at packet address
to_router_6 es w = pop (after_took unmapped (take 4 reached_again) (telling 2 0 0 1 10 1 5 7 ∷ es) (heard (frame_in (asking 1 0 2 5 10 7 1)) first_here) 1 0 refl (to_router_4 (Took 1 0 ∷ telling 2 0 0 1 10 1 5 7 ∷ es) w))

pub absent_2 : (es : List Entry) → Runs mapped [] [] (take 2 answered_for_another ++ es) → Runs mapped (take 2 answered_for_another) [] es
unfolding request datagram packet_at packet address
absent_2 es w = pop (after_sent mapped 2 0 (addr 10 1) (plain 0 30 9) absent_way [] (framed 0 0 2 1 (plain 0 30 9) ∷ es) w)

pub absent_4 : (es : List Entry) → Runs mapped [] [] (take 4 answered_for_another ++ es) → Runs mapped (take 4 answered_for_another) [] es
unfolding request datagram packet_at packet address
absent_4 es w = pop (after_took mapped (take 2 answered_for_another) (framed 1 1 0 3 (plain 4 30 9) ∷ es) (heard (frame 0 0 2 (hardware 1) (plain 0 30 9)) first_here) 0 0 refl (absent_2 (Took 0 0 ∷ framed 1 1 0 3 (plain 4 30 9) ∷ es) w))

pub absent_8 : (es : List Entry) → Runs mapped [] [] (take 8 answered_for_another ++ es) → Runs mapped (take 8 answered_for_another) [] es
unfolding request datagram packet_at packet address
absent_8 es w = pop (pop (pop (after_took mapped (take 4 answered_for_another) (Reached 2 1 how.Held (plain 0 30 9) ∷ held 2 2 1 30 9 (plain 8 30 9) ∷ asking 3 2 1 4 30 1 9 ∷ es) (heard (frame 1 1 0 (hardware 3) (plain 4 30 9)) second_here) 1 1 refl (absent_4 (Took 1 1 ∷ Reached 2 1 how.Held (plain 0 30 9) ∷ held 2 2 1 30 9 (plain 8 30 9) ∷ asking 3 2 1 4 30 1 9 ∷ es) w))))

pub both_5 : (es : List Entry) → Runs unmapped [] [] (take 5 one_released ++ es) → Runs unmapped (take 5 one_released) [] es
unfolding request datagram packet_at packet address
both_5 es w = pop (after_sent unmapped 2 0 (addr 10 1) (echo_request 0) request_way (take 3 resolved_echo) (held 2 0 2 10 1 (echo_request 0) ∷ es) (echo_3 (Sent 2 (echo_request 0) ∷ held 2 0 2 10 1 (echo_request 0) ∷ es) w))

pub both_7 : (es : List Entry) → Runs unmapped [] [] (take 7 one_released ++ es) → Runs unmapped (take 7 one_released) [] es
unfolding request datagram packet_at packet address
both_7 es w = pop (after_took unmapped (take 5 one_released) (telling 3 0 0 1 10 1 5 7 ∷ es) (heard (frame_in (asking 1 0 2 5 10 7 1)) first_here) 1 0 refl (both_5 (Took 1 0 ∷ telling 3 0 0 1 10 1 5 7 ∷ es) w))

pub ring_38 : (es : List Entry) → Runs unmapped [] [] (take 38 ring_released ++ es) → Runs unmapped (take 38 ring_released) [] es
unfolding request datagram packet_at packet address
ring_38 es w = pop (after_took unmapped full_ring (telling 18 0 0 1 10 1 5 7 ∷ es) (heard (frame_in (asking 1 0 2 5 10 7 1)) first_here) 1 0 refl (ring_36 (Took 1 0 ∷ telling 18 0 0 1 10 1 5 7 ∷ es) w))
