-- A frame is taken: what is held for another router's address on the cable is waited for as before.
use Rattle.std.proofs.Common.{◌≡◌, ◌⊎◌, inl, inr, ℕ, ◌<◌, ◌==◌, true, List, [], ◌∷◌, ◌++◌, Some}
use Rattle.std.proofs.Common.{refl, sym, ap, ◌∙◌, subst, arith, eq-eqb, append_assoc, true≢false}
use Rattle.std.specs.Prelude.{Contains}
use Rattle.std.proofs.lemmas.Bool.{and_from}
use Rattle.aarp.specs.Choosing.{Choice}
use Rattle.aarp.specs.Packets.{packet, written}
use Rattle.aarp.specs.declared.held.Held.{Held as Waiter}
use Rattle.at_base.specs.Spelling.{bytes_of}
use Rattle.at_base.specs.declared.address.Addr.{Addr}
use Rattle.audit.proofs.WalkLists.{At}
use Rattle.cable_model.proofs.Counting.{contained_at, each-append}
use Rattle.cable_model.proofs.Finds.{contains_at}
use Rattle.cable_model.proofs.Stamps.{put_below}
use Rattle.cable_model.specs.Books.{EndsBelow, HasOneSeat}
use Rattle.cable_model.specs.Logs.{transcript}
use Rattle.cable_model.specs.Outcomes.{cable_of, heard_by}
use Rattle.cable_model.specs.Outgoing.{GoOut}
use Rattle.cable_model.specs.Pending.{is_for, is_heard, pending}
use Rattle.cable_model.specs.Transcript.{Frame, Put, Took, next_stamp}
use Rattle.cable_model.specs.declared.seat.Seat.{Seat}
use Rattle.lasting.proofs.Answering.{request_heard, response_of, response_said, told_answer, wire_told}
use Rattle.lasting.proofs.Awaiting.{AreWaited, IsAbout, IsAsking, IsTelling, IsUnderWay, Owns}
use Rattle.lasting.proofs.Numbered.{still_counted, takes_counts}
use Rattle.lasting.proofs.Numbering.{AreCounted, all_counted}
use Rattle.lasting.proofs.Packed.{response_read, written_fits}
use Rattle.lasting.proofs.Reasked.{AreAwaited, nobody}
use Rattle.lasting.proofs.Routers.{one_settled}
use Rattle.lasting.proofs.Sending.{Inv, IsKnown, any_out, anyone, are_none, inv_grows, inv_holds, inv_learns, inv_lost, spared}
use Rattle.lasting.proofs.Speaking.{has_right, new_pending}
use Rattle.lasting.proofs.Staying.{take_stays}
use Rattle.lasting.proofs.Stored.{learnt_after, same_self}
use Rattle.lasting.proofs.Walking as walking
use Rattle.live_cables.proofs.Pending.{Has, put_of_pending}
use Rattle.live_cables.proofs.Taken.{same_pair}
use Rattle.live_cables.specs.Finding.{held_at, places_of, request_for, seat_by}
use Rattle.live_cables.specs.Holding.{Holds, IsLearntBy, IsTold}
use Rattle.live_cables.specs.Living.{TakesIn, Wires, happened, knowing}
use Rattle.live_cables.specs.Steps.{loses_by}
use Rattle.live_node.specs.Living.{LivingNode, LiveHears as NodeHears}
use Rattle.live_router.proofs.Settled.{AreSettled}
use Rattle.live_router.specs.Living.{Living, LiveHears as RouterHears}
use Rattle.planned_stations.specs.Planning.{ports_of}
use Rattle.station.specs.Lawful.{AreLawful, IsGood}
use Rattle.station.specs.Members.{EitherHears}
use Rattle.station.specs.declared.heard.Kind.TheVariants.{Aarp}
use Rattle.station.specs.declared.member.Member.{Member}
use Rattle.station.specs.declared.member.Member.TheVariants.{Router as RouterMember, Node as NodeMember}
use Rattle.station.specs.declared.output.Output.TheVariants as output

module _ (seats : List Seat) (ports : ℕ → List Choice) (routers : ℕ) (settled : (k : ℕ) → AreSettled (ports k)) (one_seat : HasOneSeat seats)
    (by_port : (j : ℕ) (s : Seat) → At seats j s → s.station < routers → seat_by seats s.station s.port ≡ Some j)
    (reached : (j : ℕ) (s : Seat) → At seats j s → s.station < routers → (sender : ℕ) → (sender ≡ s.station → ⊥) → is_for s.hw sender s ≡ true)
    (cabled : (s : Seat) → Has seats s → s.station < routers → cable_of seats s.station s.port ≡ s.cable) where
  module _ (stamp k bound : ℕ) (m after : Member Living LivingNode) (old new : Wires) (is : IsKnown seats ports routers settled one_seat by_port reached cabled k m)
      (h : TakesIn stamp k (ports_of m) (λ heard added. EitherHears RouterHears NodeHears m heard added after) old new)
      (inv : AreAwaited seats ports routers bound old) where
    -- the pair that is taken is about this
    abbrev IsTaken : Seat → Addr → Seat → Type 0
    IsTaken s a z = IsAbout s a z h.2.took.pair

    -- it has the response for this seat
    abbrev HasResponse : Seat → Addr → Seat → Type 0
    HasResponse s a z = IsTelling a h.2.took.pair.frame × (h.2.took.pair.seat ≡ s)

    -- the pair was pending
    pending_here : Contains (pending seats (happened old)) h.2.took.pair
    pending_here = subst (λ l. Contains (pending l (happened old)) h.2.took.pair) inv.same h.2.took.was_pending

    -- its number was given
    low : stamp < next_stamp (happened old)
    low =
        let there = contained_at (pending seats (happened old)) h.2.took.pair pending_here in
        subst (λ n. n < next_stamp (happened old)) h.2.took.of_stamp
        (put_below (happened old) h.2.took.pair.frame.stamp (put_of_pending seats (happened old) h.2.took.pair there))

    -- ---- After it was taken, and before anything else

    -- frames are numbered as before
    taken_counted : AreCounted (happened old ++ Took stamp k ∷ [])
    taken_counted = all_counted (happened old) (Took stamp k ∷ []) inv.counted (low, tt)

    -- what was waited for by this pair is excused
    taken_waited : AreWaited seats ports routers IsTaken bound (happened old ++ Took stamp k ∷ []) old.maps
    taken_waited j s e lt router x there z own = by (inv.waited j s e lt router x there z own)
      where
        by : IsUnderWay seats (happened old) s x.next z ⊎ ⊥ → IsUnderWay seats (happened old ++ Took stamp k ∷ []) s x.next z ⊎ IsTaken s x.next z
        by (inr bad) = absurd bad
        by (inl w) =
            elim (take_stays seats (happened old) [] stamp k w.p w.waits refl) [
              | inr stays ↦ inl (record { p = w.p; waits = stays; about = w.about })
              | inl this ↦
                  let there_w = contains_at (pending seats (happened old)) w.waits.0 w.p w.waits.1 in
                  let same : w.p ≡ h.2.took.pair =
                  same_pair seats one_seat (happened old) inv.counted.once h.2.took.pair w.p pending_here there_w
                  (this.0 ∙ sym h.2.took.of_stamp) (this.1 ∙ sym h.2.took.of_station) in
                  inr (subst (IsAbout s x.next z) same w.about)
            ]

    -- ---- After its outputs went out

    -- what its outputs leave held is waited for, or excused
    told_inv : Inv seats ports routers settled one_seat by_port reached cabled IsTaken bound ((happened old ++ Took stamp k ∷ []) ++ h.2.took.told) h.2.after.maps
    told_inv =
        let took = h.2.took in
        walking.outs (Inv seats ports routers settled one_seat by_port reached cabled IsTaken bound) seats anyone anyone are_none (λ s p a m. tt) (λ s a h m. tt)
        (inv_grows seats ports routers settled one_seat by_port reached cabled IsTaken bound)
        (inv_holds seats ports routers settled one_seat by_port reached cabled IsTaken bound)
        (inv_lost seats ports routers settled one_seat by_port reached cabled IsTaken bound)
        (inv_learns seats ports routers settled one_seat by_port reached cabled IsTaken bound)
        k (happened old ++ Took stamp k ∷ []) took.added (knowing old k) took.told took.bytes h.2.after inv.same refl
        (any_out seats ports routers settled one_seat by_port reached cabled IsTaken bound k took.added)
        (subst (λ ss. GoOut places_of Holds ss k (happened old ++ Took stamp k ∷ []) took.added (knowing old k) took.told took.bytes h.2.after) inv.same
        took.out)
        (taken_counted.below, taken_waited)

    -- the router that was asked
    asked_router : (s z : Seat) (a : Addr) → Owns seats ports routers s a z → h.2.took.pair.seat ≡ z
        → (l : Living) × (l.router.ports ≡ ports k) × ((new2 : Living) × RouterHears l (heard_by h.2.took.pair) h.2.took.added new2)
    asked_router s z a own seat = by m after is h.2.took.heard
      where
        station : z.station ≡ k
        station = ap (λ (y : Seat). y.station) (sym seat) ∙ h.2.took.of_station

        by : (m after : Member Living LivingNode) → IsKnown seats ports routers settled one_seat by_port reached cabled k m
            → EitherHears RouterHears NodeHears m (heard_by h.2.took.pair) h.2.took.added after
            → (l : Living) × (l.router.ports ≡ ports k) × ((new2 : Living) × RouterHears l (heard_by h.2.took.pair) h.2.took.added new2)
        by (RouterMember l) (RouterMember l2) known hears = (l, known, (l2, hears))
        by (NodeMember n) b known hears = let router = own.router in absurd (omega (arith, known, router, station))
        by (RouterMember l) (NodeMember n) known hears = absurd hears

    -- its response is under way
    response_waits : (j : ℕ) (s z : Seat) (a : Addr) → At seats j s → s.station < routers → Owns seats ports routers s a z
        → IsAsking s a h.2.took.pair.frame → h.2.took.pair.seat ≡ z
        → IsUnderWay seats ((happened old ++ Took stamp k ∷ []) ++ h.2.took.told) s a z
    response_waits j s z a e router own asks seat =
        let took = h.2.took in
        let station : z.station ≡ k = ap (λ (y : Seat). y.station) (sym seat) ∙ took.of_station in
        let r = asked_router s z a own seat in
        let port : At r.0.router.ports took.pair.seat.port own.c =
        subst (λ l. At l took.pair.seat.port own.c) (sym r.1)
        (subst (λ n. At (ports n) took.pair.seat.port own.c) station
        (subst (λ (y : Seat). At (ports z.station) y.port own.c) (sym seat) own.c_at)) in
        let on : own.c.is_settled ≡ true = one_settled (ports z.station) z.port own.c (settled z.station) own.c_at in
        let added = request_heard r.0 r.2.0 took.pair took.added own.c s a asks.own asks.kind asks.spelled port on own.is r.2.1 in
        let resp = response_of own.c.hw asks.own a s.hw in
        let bytes = bytes_of packet (written resp) in
        let t1 = happened old ++ Took stamp k ∷ [] in
        let out : GoOut places_of Holds seats k t1 (output.Wire took.pair.seat.port s.hw bytes ∷ []) (knowing old k) took.told took.bytes h.2.after =
        subst (λ os. GoOut places_of Holds seats k t1 os (knowing old k) took.told took.bytes h.2.after) added
        (subst (λ ss. GoOut places_of Holds ss k t1 took.added (knowing old k) took.told took.bytes h.2.after) inv.same took.out) in
        let f : Frame = record {
          stamp = next_stamp t1;
          cable = cable_of seats k took.pair.seat.port;
          sender = k;
          to = s.hw;
          kind = Aarp;
          bytes = bytes;
        } in
        let told : took.told ≡ Put f ∷ [] =
        wire_told (knowing old k) seats k t1 took.pair.seat.port s.hw bytes took.told took.bytes h.2.after out in
        let good : IsGood (ports_of m) (output.Wire took.pair.seat.port s.hw bytes) =
        (subst (AreLawful (ports_of m)) added took.lawful).each 0 (output.Wire 0 s.hw []) (omega arith) in
        let fits = written_fits (request_for s.hw asks.own a) asks.spelled.0 in
        let read = response_read resp good.1.value refl good.1.spelled fits.target_net fits.target_node fits.source_hw fits.source_net fits.source_node in
        let has_z = own.has in
        let cable : cable_of seats k took.pair.seat.port ≡ s.cable =
        subst (λ n. cable_of seats n took.pair.seat.port ≡ s.cable) station
        (subst (λ (y : Seat). cable_of seats z.station y.port ≡ s.cable) (sym seat) (cabled z has_z own.router ∙ own.cable)) in
        let hears : is_heard f s ≡ true =
        and_from (s.cable == f.cable) (is_for s.hw k s) (eq-eqb s.cable f.cable (sym cable))
        (reached j s e router k (λ same. own.other (station ∙ same))) in
        let there = has_right t1 (Put f ∷ []) (Put f) (0, refl) in
        let waits : Has (pending seats (t1 ++ Put f ∷ [])) (record { frame = f; seat = s }) =
        new_pending seats (t1 ++ Put f ∷ []) (next_stamp t1) there.0 f s
        (each-append (EndsBelow (next_stamp t1)) t1 (Put f ∷ []) taken_counted.below (tt, tt)) (omega arith) there.1 (j, e) hears in
        record {
          p = record { frame = f; seat = s };
          waits = subst (λ es. Has (pending seats (t1 ++ es)) (record { frame = f; seat = s })) (sym told) waits;
          about = inr (record { kind = refl; sent = resp; read = read; is = refl; source = refl }, refl);
        }

    -- so only what the response is for is excused
    told_waited : AreWaited seats ports routers HasResponse bound ((happened old ++ Took stamp k ∷ []) ++ h.2.took.told) h.2.after.maps
    told_waited j s e lt router x there z own = by (told_inv.1 j s e lt router x there z own)
      where
        by : IsUnderWay seats ((happened old ++ Took stamp k ∷ []) ++ h.2.took.told) s x.next z ⊎ IsTaken s x.next z
            → IsUnderWay seats ((happened old ++ Took stamp k ∷ []) ++ h.2.took.told) s x.next z ⊎ HasResponse s x.next z
        by (inl w) = inl w
        by (inr (inr telling)) = inr telling
        by (inr (inl asking)) = inl (response_waits j s z x.next e router own asking.0 asking.1)

    -- ---- After a response was learnt

    -- the entries so far
    whole : (happened old ++ Took stamp k ∷ []) ++ h.2.took.told ≡ transcript h.2.taken
    whole = append_assoc (happened old) (Took stamp k ∷ []) h.2.took.told ∙ sym h.2.took.entries.added

    -- so it is after the response was learnt
    learnt_inv : Inv seats ports routers settled one_seat by_port reached cabled HasResponse bound (transcript h.1.0) h.1.1.maps
    learnt_inv =
        walking.told (Inv seats ports routers settled one_seat by_port reached cabled HasResponse bound) seats anyone anyone are_none (λ s p a m. tt) (λ s a h m. tt)
        (inv_grows seats ports routers settled one_seat by_port reached cabled HasResponse bound)
        (inv_holds seats ports routers settled one_seat by_port reached cabled HasResponse bound)
        (inv_lost seats ports routers settled one_seat by_port reached cabled HasResponse bound)
        (inv_learns seats ports routers settled one_seat by_port reached cabled HasResponse bound)
        k h.2.answer (h.2.taken, h.2.after.maps) (h.1.0, h.1.1.maps) old.cabling.seats h.2.told
        (subst (λ l. Inv seats ports routers settled one_seat by_port reached cabled HasResponse bound l h.2.after.maps) whole (told_inv.0, told_waited))

    -- what is held for the source of the response is gone
    none_left : (j : ℕ) (s z : Seat) (x : Waiter) → At seats j s → s.station < routers → Has (held_at h.1.1.maps j) x → HasResponse s x.next z → ⊥
    none_left j s z x e router there (telling, seat) =
        let took = h.2.took in
        let answer : h.2.answer ≡ Some (record { port = took.pair.seat.port; source = x.next; source_hw = telling.sent.source_hw }) =
        told_answer old.cabling stamp k h.2.answer inv.counted.once (subst HasOneSeat (sym inv.same) one_seat) h.2.said took.pair took.was_pending took.of_stamp
        took.of_station
        ∙ response_said took.pair x.next telling in
        let told = subst (λ o. IsTold old.cabling.seats k o (h.2.taken, h.2.after.maps) (h.1.0, h.1.1.maps)) answer h.2.told in
        let found : seat_by old.cabling.seats k took.pair.seat.port ≡ Some j =
        subst (λ l. seat_by l k took.pair.seat.port ≡ Some j) (sym inv.same)
        (subst (λ n. seat_by seats n took.pair.seat.port ≡ Some j) (ap (λ (y : Seat). y.station) (sym seat) ∙ took.of_station)
        (subst (λ (y : Seat). seat_by seats s.station y.port ≡ Some j) (sym seat) (by_port j s e router))) in
        let learnt = subst (λ o. IsLearntBy o (record { port = took.pair.seat.port; source = x.next; source_hw = telling.sent.source_hw }) (h.2.taken, h.2.after.maps) (h.1.0, h.1.1.maps)) found told in
        let gone =
        (learnt_after h.2.after.maps j (record { port = took.pair.seat.port; source = x.next; source_hw = telling.sent.source_hw }) j x
        (subst (λ l. Has (held_at l j) x) learnt.1 there)).1 refl in
        true≢false (sym (same_self x.next) ∙ gone)

    -- nothing is excused then
    end_waited : AreWaited seats ports routers nobody bound (transcript h.1.0) h.1.1.maps
    end_waited j s e lt router x there z own = by (learnt_inv.1 j s e lt router x there z own)
      where
        by : IsUnderWay seats (transcript h.1.0) s x.next z ⊎ HasResponse s x.next z → IsUnderWay seats (transcript h.1.0) s x.next z ⊎ ⊥
        by (inl w) = inl w
        by (inr w) = absurd (none_left j s z x e router there w)

    -- ---- At the end

    -- all that is held is waited for as before
    pub takes_waited : AreAwaited seats ports routers bound new
    takes_waited =
        let counts = takes_counts stamp k (ports_of m) _ old new h in
        let last =
        inv_lost seats ports routers settled one_seat by_port reached cabled nobody bound _ (transcript h.1.0) h.3.added h.1.1.maps
        (spared seats ports routers settled one_seat by_port reached cabled old inv.lossless h.1.0) h.3.losses (learnt_inv.0, end_waited) in
        record {
          same = counts.seats ∙ inv.same;
          lossless = λ cable. ap (λ l. loses_by l cable) h.5.losing ∙ inv.lossless cable;
          counted = still_counted old.cabling new.cabling inv.counted counts;
          waited =
              subst (λ l. AreWaited seats ports routers nobody bound (happened new) l) (sym h.4)
              (subst (λ l. AreWaited seats ports routers nobody bound l h.1.1.maps) (sym h.3.grown) last.1);
        }
