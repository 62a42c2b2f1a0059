-- What a station knows stays the same where it only holds datagrams.
use Rattle.std.proofs.Common.{◌≡◌, ℕ, zero, suc, List, [], ◌∷◌, ◌++◌, map, Option, Some, None, refl, sym, ap, ◌∙◌, slice_get, subst}
use Rattle.std.specs.Prelude.{length, slice_set, ◌≤◌}
use Rattle.aarp.specs.Mapping.{Mappings, holding}
use Rattle.at_base.specs.Limits.{max_mappings}
use Rattle.at_base.specs.declared.address.Addr.{Addr}
use Rattle.cable_model.specs.Logs.{Cabling, transcript}
use Rattle.cable_model.specs.Outcomes.{Held as Waiter, entries_of, held_next, held_of, sent_entries}
use Rattle.cable_model.specs.Outgoing.{GoOut, IsHeldBy, IsSent}
use Rattle.cable_model.specs.Transcript.{Entry, next_stamp}
use Rattle.cable_model.specs.declared.resolve.HeldBy.{HeldBy}
use Rattle.cable_model.specs.declared.seat.Seat.{Seat}
use Rattle.live_cables.specs.Finding.{Knowing, places_of, seat_on}
use Rattle.live_cables.specs.Holding.{AreFew, Holds, KnowsSame, datagram, with_held}
use Rattle.station.specs.declared.output.Next.{Next}
use Rattle.station.specs.declared.output.Output.{Output}

pub knows_none : (k : Knowing) → KnowsSame k k
knows_none k = record { others = refl; known = refl }

pub knows_is : (k l : Knowing) → l ≡ k → KnowsSame k l
knows_is k l e = subst (KnowsSame k) (sym e) (knows_none k)

pub knows_then : (k l m : Knowing) → KnowsSame k l → KnowsSame l m → KnowsSame k m
knows_then k l m x y = record {
  others = y.others ∙ ap {A = Knowing} (λ n. record n { maps = m.maps }) x.others;
  known = y.known ∙ x.known;
}

-- A change of an element that a function doesn't see.
pub map-set : {X Y : Type 0} (f : X → Y) (xs : List X) (i : ℕ) (x y : X) → slice_get xs i ≡ Some x → f y ≡ f x
    → map f (slice_set xs i y) ≡ map f xs
map-set f [] i x y e same = absurd cc
map-set f (z ∷ zs) zero x y e same = let is : z ≡ x = cc in ap (λ v. v ∷ map f zs) (same ∙ ap f (sym is))
map-set f (z ∷ zs) (suc i) x y e same = ap (λ l. f z ∷ l) (map-set f zs i x y e same)

known_held : (maps : List Mappings) (i : ℕ) (a : Addr) (stamp : ℕ)
    → map (λ (m : Mappings). m.known) (with_held maps i a stamp) ≡ map (λ (m : Mappings). m.known) maps
known_held maps i a stamp = by (slice_get maps i) refl
  where
    by : (o : Option Mappings) → slice_get maps i ≡ o
        → map (λ (m : Mappings). m.known) (with_held maps i a stamp) ≡ map (λ (m : Mappings). m.known) maps
    by None e = rw e refl
    by (Some m) e = rw e (map-set (λ (m : Mappings). m.known) maps i m (record m { held = holding (datagram a stamp) m.held }) e refl)

pub knows_holds : (k : Knowing) (cable : ℕ) (a : Addr) (stamp : ℕ) (by : HeldBy) (l : Knowing) → Holds k cable a stamp by l → KnowsSame k l
knows_holds k cable a stamp by l h = in_case (seat_on k.seats cable k.station) refl
  where
    in_case : (o : Option ℕ) → seat_on k.seats cable k.station ≡ o → KnowsSame k l
    in_case None e = let h2 = rw e at h in knows_is k l h2.0
    in_case (Some i) e =
        let h2 = rw e at h in
        subst (KnowsSame k) (sym h2.0) (record { others = refl; known = known_held k.maps i a stamp })

pub knows_held : (station : ℕ) (t : List Entry) (ws : List Waiter) (k : Knowing) (es : List Entry) (ks : List (List ℕ)) (l : Knowing)
    → IsHeldBy Holds station t ws k es ks l → KnowsSame k l
knows_held station t [] k es ks l h = knows_is k l h.2
knows_held station t (w ∷ ws) k es ks l (by, h, is, stored) = knows_holds k w.cable w.next _ by l h

pub knows_out : (seats : List Seat) (station : ℕ) (t : List Entry) (os : List Output) (k : Knowing) (es : List Entry)
    (ks : List (List ℕ)) (l : Knowing) → GoOut places_of Holds seats station t os k es ks l → KnowsSame k l
knows_out seats station t [] k es ks l h = knows_is k l h.2
knows_out seats station t (o ∷ os) k es ks l (first, rest, bytes, others, z, out, more, is, stored) =
    knows_then k z l
    (knows_held station (t ++ entries_of (places_of k) seats station (next_stamp t) o) (held_of (places_of k) seats station o) k
    out.more out.asks z out.held)
    (knows_out seats station (t ++ first) os z rest others l more)

pub knows_sent : (a b : Cabling) (cable station : ℕ) (to : Next) (bytes : List ℕ) (k l : Knowing)
    → IsSent places_of Holds a b cable station to bytes k l → KnowsSame k l
knows_sent a b cable station to bytes k l x =
    knows_held station (transcript a ++ sent_entries (places_of k) a cable station to bytes) (held_next (places_of k) cable to bytes)
    k x.more x.asks l x.held

-- Few mappings stay few.
pub few_known : (maps olds : List Mappings) → map (λ (m : Mappings). m.known) maps ≡ map (λ (m : Mappings). m.known) olds → AreFew olds
    → AreFew maps
few_known [] olds e few = tt
few_known (m ∷ ms) [] e few = absurd cc
few_known (m ∷ ms) (n ∷ ns) e few =
    let head : m.known ≡ n.known = cc in
    let tail : map (λ (m : Mappings). m.known) ms ≡ map (λ (m : Mappings). m.known) ns = cc in
    (subst (λ l. length l ≤ max_mappings) (sym head) few.0, few_known ms ns tail few.1)

pub few_same : (k l : Knowing) → KnowsSame k l → AreFew k.maps → AreFew l.maps
few_same k l x few = few_known l.maps k.maps x.known few
