-- Transcripts that break the laws with resolution.
use Rattle.std.proofs.Common.{◌≡◌, ◌≤◌, ℕ, Option, Some, None, List, [], ◌∷◌, ap, arith, refl, sym, subst, ◌∙◌, Contains}
use Rattle.std.proofs.Common.{◌++◌, false, take, true≢false, zero, suc}
use Rattle.at_base.specs.Packets.{address, text}
use Rattle.aarp.specs.declared.packet.Function.TheVariants.{Request, Response}
use Rattle.aarp.specs.declared.packet.Packet.{Packet}
use Rattle.aarp.specs.Packets.{packet as aarp_packet}
use Rattle.ddp.specs.Datagram.{datagram}
use Rattle.nbp.specs.Packets.{packet, tuple}
use Rattle.audit.specs.Example.{addr, hardware}
use Rattle.audit.specs.Routing.{Here, On}
use Rattle.table_image.specs.Seats.{Seat}
use Rattle.station.specs.Resolution.{packet_at}
use Rattle.station.specs.declared.heard.Kind.TheVariants.{Aarp, Ddp}
use Rattle.cable_model.specs.Holdings.{still_held}
use Rattle.cable_model.specs.Pending.{Pair, pending}
use Rattle.cable_model.specs.Transcript.{ArePutOnce, Entry, Holding, Lost}
use Rattle.legal_runs.specs.Carriage.{AreByHand, AreTakenThere, none_yet}
use Rattle.legal_runs.specs.Counts.{reached}
use Rattle.legal_runs.specs.Example.{echo_request, plain as plain_to}
use Rattle.legal_runs.specs.Illegal.{forward_elsewhere, looked_elsewhere, many_hops, to_unlisted}
use Rattle.legal_runs.specs.Requests.{request, zone_of}
use Rattle.legal_runs.specs.Stations.{cable_seats}
use Rattle.legal_runs.proofs.ByHand.{frame, not_zero, one_two, one_zero, pair, too_many, two_one, zero_one}
use Rattle.resolved_runs.specs.AskedFor.{AreAskedFor, AreHeard, AreHeardOrOnTheirWay, AreHeldOnce, Answered, Asks, Requested}
use Rattle.resolved_runs.specs.Example.{asking, full_ring, packet_bytes, telling, unmapped}
use Rattle.resolved_runs.specs.Excluded.{another_told, asked_by_another, asked_elsewhere, asked_for_another, asked_from_afar}
use Rattle.resolved_runs.specs.Excluded.{asked_in_a_datagram, told_by_another}
use Rattle.resolved_runs.specs.Lossless.{IsNothingGivenUp}
use Rattle.resolved_runs.specs.Excluded.{forward_given_up_elsewhere, heard_as_packet, heard_by_another, held_for_nobody}
use Rattle.resolved_runs.specs.Excluded.{blue_key, forward_held_and_put, forward_held_elsewhere, given_up_and_held}
use Rattle.resolved_runs.specs.Excluded.{given_up_and_reached, heard_and_held, heard_by_all, held_and_dropped, held_and_elsewhere, held_twice}
use Rattle.resolved_runs.specs.Excluded.{held_and_put, held_back, held_with_hops, not_forwarded, one_held, one_stamp, own_held}
use Rattle.resolved_runs.specs.Excluded.{released_from_afar, released_twice, released_with_hops, request_given_up, request_held_and_put}
use Rattle.resolved_runs.specs.Excluded.{own_given_up, request_taken_from_afar}
use Rattle.resolved_runs.specs.Excluded.{unlisted_and_dropped, unlisted_and_reached, unlisted_out_of_hops, vanished}
use Rattle.resolved_runs.specs.HeldChains.{AreCarriedOrHeld}
use Rattle.resolved_runs.specs.Plain.{plain}
use Rattle.resolved_runs.proofs.Echo.{first_here, frame_in, heard, node_seat}
use Rattle.resolved_runs.specs.ResolvedLaws.{HasHopsLeftResolved, IsConservedResolved, IsLookedUpResolved}

-- What the node holds for its router.
abbrev holding : List ℕ → Holding
holding bytes = record { stamp = 0; cable = 0; station = 2; next = addr 10 1; bytes = bytes }

two_at_most : 2 ≤ 1 → ⊥
two_at_most e = absurd (omega (arith, e))

-- ---- Conservation

pub not_vanished : IsConservedResolved unmapped vanished → ⊥
not_vanished law = one_zero (law.listed (echo_request 0) 2 refl).counted

pub not_held_and_put : IsConservedResolved unmapped held_and_put → ⊥
not_held_and_put law = one_two (law.listed (echo_request 0) 2 refl).counted

pub not_given_up_and_held : IsConservedResolved unmapped given_up_and_held → ⊥
not_given_up_and_held law = one_two (law.listed (echo_request 0) 2 refl).counted

pub not_given_up_and_reached : IsConservedResolved unmapped given_up_and_reached → ⊥
not_given_up_and_reached law = one_two (law.listed (echo_request 0) 2 refl).counted

pub not_held_and_elsewhere : IsConservedResolved unmapped held_and_elsewhere → ⊥
not_held_and_elsewhere law = one_zero ((law.listed (echo_request 0) 2 refl).elsewhere 1 one_two)

pub not_held_and_dropped : IsConservedResolved unmapped held_and_dropped → ⊥
not_held_and_dropped law = one_zero (law.listed (echo_request 0) 2 refl).kept

pub not_unlisted_and_dropped : IsConservedResolved unmapped unlisted_and_dropped → ⊥
not_unlisted_and_dropped law = one_two (law.unlisted to_unlisted refl (not_zero 50 (omega arith))).counted

pub not_unlisted_and_reached : (c : ℕ) → reached to_unlisted c (unlisted_and_reached c) ≡ 1
    → IsConservedResolved unmapped (unlisted_and_reached c) → ⊥
not_unlisted_and_reached c once law = one_zero (sym once ∙ (law.unlisted to_unlisted refl (not_zero 50 (omega arith))).nowhere c)

pub not_out_of_hops : IsConservedResolved unmapped unlisted_out_of_hops → ⊥
not_out_of_hops law = one_zero law.no_hop_limit

-- ---- Hops left

pub not_many_hops : HasHopsLeftResolved unmapped many_hops → ⊥
not_many_hops law =
    too_many (law.frames (pair (frame 0 0 2 (hardware 1) (echo_request 56)) 0 0 1 None) 2 (0, omega arith, refl) refl refl)

pub not_held_with_hops : HasHopsLeftResolved unmapped held_with_hops → ⊥
not_held_with_hops law = too_many (law.held (holding (echo_request 56)) 0 2 (0, omega arith, refl) refl refl refl)

-- ---- Carriage

pub not_released_from_afar : AreCarriedOrHeld unmapped none_yet released_from_afar → ⊥
not_released_from_afar law = on_here law.1.1.1.1.1.1.1.1.0.0
  where
    on_here : On 1 1 (addr 20 2) ≡ Here 2 → ⊥
    on_here e = cc

pub not_asked_from_afar : AreCarriedOrHeld unmapped none_yet asked_from_afar → ⊥
not_asked_from_afar law = true≢false (sym law.0.0)

pub not_released_with_hops : AreCarriedOrHeld unmapped none_yet released_with_hops → ⊥
not_released_with_hops law = one_zero law.1.1.1.1.1.1.0.1

pub not_taken_from_afar : AreTakenThere unmapped [] request_taken_from_afar → ⊥
not_taken_from_afar law = true≢false (sym law.0)

pub not_held_back : AreByHand unmapped false (plain unmapped held_back) → ⊥
not_held_back law = other law.1.0
  where
    other : ◌≡◌ {A = Option ℕ} (Some 1) (Some 0) → ⊥
    other e = cc

-- ---- Lookups

pub not_request_held_and_put : IsLookedUpResolved unmapped request_held_and_put blue_key → ⊥
unfolding request zone_of datagram packet tuple address text
not_request_held_and_put law = one_two law.asked_is

pub never_forwarded : IsLookedUpResolved unmapped not_forwarded blue_key → ⊥
unfolding request zone_of datagram packet tuple address text
never_forwarded law = zero_one (law.listed 2 refl)

pub not_forward_held_and_put : IsLookedUpResolved unmapped forward_held_and_put blue_key → ⊥
unfolding request zone_of datagram packet tuple address text
not_forward_held_and_put law = two_one (law.listed 2 refl)

pub not_looked_elsewhere : IsLookedUpResolved unmapped looked_elsewhere blue_key → ⊥
unfolding request zone_of datagram packet tuple address text
not_looked_elsewhere law = one_zero (law.others 0 refl)

pub not_forward_elsewhere : IsLookedUpResolved unmapped forward_elsewhere blue_key → ⊥
unfolding request zone_of datagram packet tuple address text
not_forward_elsewhere law = one_zero (law.others 0 refl)

pub not_forward_held_elsewhere : IsLookedUpResolved unmapped forward_held_elsewhere blue_key → ⊥
unfolding request zone_of datagram packet tuple address text
not_forward_held_elsewhere law = one_zero (law.others 0 refl)

pub not_forward_given_up_elsewhere : IsLookedUpResolved unmapped forward_given_up_elsewhere blue_key → ⊥
unfolding request zone_of datagram packet tuple address text
not_forward_given_up_elsewhere law = one_zero (law.others 0 refl)

-- ---- Heard

-- The seat of the first router on the first cable.
abbrev router_seat : Seat
router_seat = record { station = 0; cable = 0; address = addr 10 1; hardware = hardware 1 }

pub not_heard_and_held : AreHeardOrOnTheirWay unmapped heard_and_held → ⊥
not_heard_and_held law = one_two (law (plain_to 0 10 1) 0 router_seat refl)

pub not_heard_by_all : AreHeardOrOnTheirWay unmapped heard_by_all → ⊥
not_heard_by_all law = one_zero (law (plain_to 0 10 1) 0 router_seat refl)

pub not_on_its_way_to_all : AreHeardOrOnTheirWay unmapped (take 2 heard_by_all) → ⊥
not_on_its_way_to_all law = one_zero (law (plain_to 0 10 1) 0 router_seat refl)

pub not_heard_as_packet : AreHeardOrOnTheirWay unmapped heard_as_packet → ⊥
not_heard_as_packet law = one_zero (law (plain_to 0 10 1) 0 router_seat refl)

pub not_on_its_way_as_packet : AreHeardOrOnTheirWay unmapped (take 2 heard_as_packet) → ⊥
not_on_its_way_as_packet law = one_zero (law (plain_to 0 10 1) 0 router_seat refl)

pub not_held_for_nobody : AreHeardOrOnTheirWay unmapped held_for_nobody → ⊥
not_held_for_nobody law = one_zero (law (plain_to 0 10 1) 0 router_seat refl)

pub not_given_up_for_nobody : AreHeardOrOnTheirWay unmapped (held_for_nobody ++ Lost 0 ∷ []) → ⊥
not_given_up_for_nobody law = one_zero (law (plain_to 0 10 1) 0 router_seat refl)

pub not_at_rest : AreHeard unmapped own_held → ⊥
not_at_rest law = one_zero (law refl (plain_to 0 10 1) 0 router_seat refl)

-- The printer's seat.
abbrev printer_seat : Seat
printer_seat = record { station = 3; cable = 2; address = addr 30 5; hardware = hardware 6 }

pub not_heard_by_another : AreHeard unmapped heard_by_another → ⊥
not_heard_by_another law = one_zero (law refl (echo_request 0) 2 printer_seat refl)

-- ---- Asked for

abbrev waits : Holding
waits = holding (echo_request 0)

some_same : {X : Type 0} (x y : X) → Some x ≡ Some y → x ≡ y
some_same x y e = cc

-- A list of one element has no other.
only : {X : Type 0} (x y : X) → Contains (x ∷ []) y → x ≡ y
only x y (zero, below, at) = at
only x y (suc k, below, at) = absurd (omega (arith, below))

-- The one pending pair doesn't ask for what the node holds.
never_asked : (t : List Entry) (p : Pair) → Contains (still_held t) waits → pending (cable_seats unmapped) t ≡ p ∷ []
    → (p.frame.kind ≡ Aarp → Asks waits router_seat p → ⊥) → AreAskedFor unmapped t → ⊥
never_asked t p there alone never law =
    let a = law waits router_seat there refl in
    let same = only p a.pair (subst (λ ps. Contains ps a.pair) alone a.there) in
    never (ap (λ q. q.frame.kind) same ∙ a.kind) (subst (λ q. Asks waits router_seat q) (sym same) a.asks)

other_node : ◌≡◌ {A = ℕ} 9 1 → ⊥
other_node e = cc

other_station : ◌≡◌ {A = ℕ} 0 2 → ⊥
other_station e = cc

differs : Request ≡ Response → ⊥
differs e = cc

no_aarp : Ddp ≡ Aarp → ⊥
no_aarp e = cc

-- The packet of a request by this station for this node.
abbrev requested : ℕ → ℕ → ℕ → Packet
requested byte node target = record {
  function = Request;
  source = addr 10 node;
  source_hw = hardware byte;
  target = addr 10 target;
  target_hw = record { 0 = 0 ∷ 0 ∷ 0 ∷ 0 ∷ 0 ∷ 0 ∷ [] };
}

pub not_asked : AreAskedFor unmapped one_held → ⊥
not_asked law = let a = law waits router_seat (0, omega arith, refl) refl in absurd (omega (arith, a.there.1))

abbrev asks_other : Pair
asks_other = heard (frame_in (asking 1 0 2 5 10 7 9)) first_here

pub not_for_another : AreAskedFor unmapped asked_for_another → ⊥
unfolding request datagram packet_at aarp_packet address
not_for_another = never_asked asked_for_another asks_other (0, omega arith, refl) refl never
  where
    never : asks_other.frame.kind ≡ Aarp → Asks waits router_seat asks_other → ⊥
    never kind (Requested sent read is target from to) =
        other_node (ap (λ a. a.node) (ap (λ p. p.target) (some_same (requested 5 7 9) sent read) ∙ target))
    never kind (Answered sent read is source from to) = differs (ap (λ p. p.function) (some_same (requested 5 7 9) sent read) ∙ is)

abbrev asks_itself : Pair
asks_itself = heard (frame_in (asking 1 0 0 1 10 1 1)) node_seat

pub not_by_another : AreAskedFor unmapped asked_by_another → ⊥
unfolding request datagram packet_at aarp_packet address
not_by_another = never_asked asked_by_another asks_itself (0, omega arith, refl) refl never
  where
    never : asks_itself.frame.kind ≡ Aarp → Asks waits router_seat asks_itself → ⊥
    never kind (Requested sent read is target from to) = other_station from
    never kind (Answered sent read is source from to) = differs (ap (λ p. p.function) (some_same (requested 1 1 1) sent read) ∙ is)

abbrev in_datagram : Pair
in_datagram = heard (frame 1 0 2 (hardware 1) (packet_bytes 1 5 10 7 (0 ∷ 0 ∷ 0 ∷ 0 ∷ 0 ∷ 0 ∷ []) 1)) first_here

pub not_in_a_datagram : AreAskedFor unmapped asked_in_a_datagram → ⊥
unfolding request datagram packet_at aarp_packet address
not_in_a_datagram = never_asked asked_in_a_datagram in_datagram (0, omega arith, refl) refl never
  where
    never : in_datagram.frame.kind ≡ Aarp → Asks waits router_seat in_datagram → ⊥
    never kind by = no_aarp kind

abbrev tells_other : Pair
tells_other = heard (frame_in (telling 1 0 0 1 10 9 5 7)) node_seat

abbrev told : Packet
told = record {
  function = Response;
  source = addr 10 9;
  source_hw = hardware 1;
  target = addr 10 7;
  target_hw = hardware 5;
}

pub not_another_told : AreAskedFor unmapped another_told → ⊥
unfolding request datagram packet_at aarp_packet address
not_another_told = never_asked another_told tells_other (0, omega arith, refl) refl never
  where
    never : tells_other.frame.kind ≡ Aarp → Asks waits router_seat tells_other → ⊥
    never kind (Requested sent read is target from to) = differs (sym (ap (λ p. p.function) (some_same told sent read) ∙ is))
    never kind (Answered sent read is source from to) =
        other_node (ap (λ a. a.node) (ap (λ p. p.source) (some_same told sent read) ∙ source))

abbrev tells_instead : Pair
tells_instead = heard (frame_in (telling 1 0 1 1 10 1 5 7)) node_seat

abbrev told_rightly : Packet
told_rightly = record {
  function = Response;
  source = addr 10 1;
  source_hw = hardware 1;
  target = addr 10 7;
  target_hw = hardware 5;
}

pub not_told_by_another : AreAskedFor unmapped told_by_another → ⊥
unfolding request datagram packet_at aarp_packet address
not_told_by_another = never_asked told_by_another tells_instead (0, omega arith, refl) refl never
  where
    never : tells_instead.frame.kind ≡ Aarp → Asks waits router_seat tells_instead → ⊥
    never kind (Requested sent read is target from to) = differs (sym (ap (λ p. p.function) (some_same told_rightly sent read) ∙ is))
    never kind (Answered sent read is source from to) = one_zero from

-- A pair of two is on the cable on which both are.
one_of_two : (x y p : Pair) → Contains (x ∷ y ∷ []) p → x.frame.cable ≡ 0 → y.frame.cable ≡ 0 → p.frame.cable ≡ 0
one_of_two x y p (zero, below, at) first second = subst (λ q. q.frame.cable ≡ 0) at first
one_of_two x y p (suc zero, below, at) first second = subst (λ q. q.frame.cable ≡ 0) at second
one_of_two x y p (suc (suc k), below, at) first second = absurd (omega (arith, below))

-- What the second router holds, and the seat that it is for.
abbrev between : Holding
between = record { stamp = 0; cable = 1; station = 1; next = addr 20 1; bytes = plain_to 0 20 1 }

abbrev far_seat : Seat
far_seat = record { station = 0; cable = 1; address = addr 20 1; hardware = hardware 2 }

pub not_elsewhere : AreAskedFor unmapped asked_elsewhere → ⊥
not_elsewhere law =
    let a = law between far_seat (0, omega arith, refl) refl in
    zero_one (sym (one_of_two _ _ a.pair a.there refl refl) ∙ a.cable)

pub not_nothing : IsNothingGivenUp unmapped full_ring → ⊥
not_nothing law = one_zero (law.copies (echo_request 0))

pub no_request_given_up : IsNothingGivenUp unmapped request_given_up → ⊥
unfolding request zone_of datagram packet tuple address text
no_request_given_up law = one_zero (law.requests blue_key)

pub no_forward_given_up : IsNothingGivenUp unmapped forward_given_up_elsewhere → ⊥
unfolding request zone_of datagram packet tuple address text
no_forward_given_up law = one_zero (law.forwards blue_key 0)

pub no_body_given_up : IsNothingGivenUp unmapped own_given_up → ⊥
no_body_given_up law = one_zero (law.bodies (plain_to 0 10 1))

pub not_once : AreHeldOnce one_stamp → ⊥
not_once law = two_at_most (law 0)

pub not_twice : AreHeldOnce held_twice → ⊥
not_twice law = two_at_most (law 0)

pub not_released_twice : ArePutOnce released_twice → ⊥
not_released_twice law = two_at_most (law 0)
