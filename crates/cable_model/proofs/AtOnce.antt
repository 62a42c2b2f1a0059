-- Where every lookup is answered, nothing is held: outputs go out at once.
use Rattle.std.proofs.Common.{◌≡◌, ℕ, ◌+◌, Bool, true, false, cond, List, [], ◌∷◌, ◌++◌}
use Rattle.std.proofs.Common.{◌∙◌, ap, refl, subst, arith, append-nil}
use Rattle.at_base.specs.Address.{same_address}
use Rattle.at_base.specs.Multicast.{all_hw, group_hw}
use Rattle.at_base.specs.declared.address.Addr.{Addr}
use Rattle.at_base.specs.declared.address.Hw.{Hw}
use Rattle.ddp.specs.Bodies.{body, target}
use Rattle.cable_model.specs.Logs.{Adds, Cabling, transcript}
use Rattle.cable_model.specs.Outcomes.{Places, Sender, all_entries, all_stored, cable_of, entries_of, framed, held_by, held_next}
use Rattle.cable_model.specs.Outcomes.{held_of, leg, sender_by, sent_entries, stored_of, to_other, to_target}
use Rattle.cable_model.specs.Outgoing.{GoOut, GoesOut, IsAnswering, IsHeldBy, IsSent, IsTaken, IsTakenAtOnce, is_later}
use Rattle.cable_model.specs.Transcript.{Entry, Reached, Took, next_stamp, stamp_from, stamps}
use Rattle.cable_model.specs.declared.entry.How.TheVariants as how
use Rattle.cable_model.specs.declared.resolve.Found.{Found}
use Rattle.cable_model.specs.declared.resolve.Found.TheVariants.{At, Nobody, Later}
use Rattle.cable_model.specs.declared.resolve.HeldBy.{HeldBy}
use Rattle.cable_model.specs.declared.seat.Seat.{Seat}
use Rattle.cable_model.proofs.Stamps.{above_next, next_after, stamp_from-append}
use Rattle.station.specs.Hearing.{Hearing}
use Rattle.station.specs.declared.heard.Kind.{Kind}
use Rattle.station.specs.declared.heard.Kind.TheVariants.{Ddp, Aarp}
use Rattle.station.specs.declared.output.Next.{Next}
use Rattle.station.specs.declared.output.Next.TheVariants as next
use Rattle.station.specs.declared.output.Output.{Output}
use Rattle.station.specs.declared.output.Output.TheVariants as output

-- ---- nothing is held

-- where every lookup is answered, a datagram isn't held
pub answering_next : (places : Places) (cable : ℕ) (to : Next) (bytes : List ℕ) → IsAnswering places
    → held_next places cable to bytes ≡ []
answering_next places cable (next.Station a) bytes ans = by (places.finds cable a) (ans cable a)
  where
    by : (f : Found) → is_later f ≡ false → held_by f cable a bytes ≡ []
    by Later e = cc
    by Nobody e = refl
    by (At hw) e = refl
answering_next places cable next.All bytes ans = refl
answering_next places cable (next.Group g) bytes ans = refl

-- where every lookup is answered, no datagram of an output is held
pub answering_none : (places : Places) (seats : List Seat) (station : ℕ) (o : Output) → IsAnswering places
    → held_of places seats station o ≡ []
answering_none places seats station (output.Made port to bytes) ans = answering_next places (cable_of seats station port) to bytes ans
answering_none places seats station (output.Passed port to bytes) ans =
    answering_next places (cable_of seats station port) to bytes ans
answering_none places seats station (output.Kept port bytes) ans = refl
answering_none places seats station (output.Dropped cause bytes) ans = refl
answering_none places seats station (output.Wire port to bytes) ans = refl

-- ---- the next stamp after outputs

-- a frame with the next stamp makes that greater by one
framed_stamps : (s : Sender) (to : Hw) (kind : Kind) (bytes : List ℕ)
    → stamp_from s.stamp (framed s to kind bytes ∷ []) ≡ s.stamp + stamps (framed s to kind bytes ∷ [])
framed_stamps s to kind bytes = let e = above_next s.stamp in omega (arith, e)

-- the leg of a datagram makes the next stamp greater by the number of its frames
pub leg_stamps : (places : Places) (s : Sender) (to : Next) (bytes : List ℕ)
    → stamp_from s.stamp (leg places s to bytes) ≡ s.stamp + stamps (leg places s to bytes)
leg_stamps places s (next.Station a) bytes = by (same_address (target bytes) a) (places.finds s.cable a)
  where
    by : (b : Bool) (f : Found)
        → stamp_from s.stamp (cond b (to_target s bytes f) (to_other s bytes f))
        ≡ s.stamp + stamps (cond b (to_target s bytes f) (to_other s bytes f))
    by true (At hw) = framed_stamps s hw Ddp bytes
    by true Nobody = omega arith
    by true Later = omega arith
    by false (At hw) = framed_stamps s hw Ddp bytes
    by false Nobody = omega arith
    by false Later = omega arith
leg_stamps places s next.All bytes = by (places.lists (target bytes).net)
  where
    all : Entry
    all = framed s all_hw Ddp bytes

    by : (b : Bool)
        → stamp_from s.stamp (cond b (Reached s.cable s.station how.All (body bytes) ∷ all ∷ []) (all ∷ []))
        ≡ s.stamp + stamps (cond b (Reached s.cable s.station how.All (body bytes) ∷ all ∷ []) (all ∷ []))
    by true = framed_stamps s all_hw Ddp bytes
    by false = framed_stamps s all_hw Ddp bytes
leg_stamps places s (next.Group g) bytes = framed_stamps s (group_hw g) Ddp bytes

-- the entries of an output make the next stamp greater by the number of their frames
entries_stamps : (places : Places) (seats : List Seat) (station n : ℕ) (o : Output)
    → stamp_from n (entries_of places seats station n o) ≡ n + stamps (entries_of places seats station n o)
entries_stamps places seats station n (output.Made port to bytes) =
    let e = leg_stamps places (sender_by seats station n port) to bytes in omega (arith, e)
entries_stamps places seats station n (output.Passed port to bytes) = leg_stamps places (sender_by seats station n port) to bytes
entries_stamps places seats station n (output.Kept port bytes) = omega arith
entries_stamps places seats station n (output.Dropped cause bytes) = omega arith
entries_stamps places seats station n (output.Wire port to bytes) = framed_stamps (sender_by seats station n port) to Aarp bytes

-- after the entries of an output, the next stamp of a transcript is greater by the number of their frames
pub output_stamps : (places : Places) (seats : List Seat) (station : ℕ) (t : List Entry) (o : Output)
    → next_stamp (t ++ entries_of places seats station (next_stamp t) o)
    ≡ next_stamp t + stamps (entries_of places seats station (next_stamp t) o)
output_stamps places seats station t o =
    stamp_from-append 0 t (entries_of places seats station (next_stamp t) o) ∙ entries_stamps places seats station (next_stamp t) o

-- ---- outputs that go out at once

-- where every lookup is answered, an output has just its own entries and bytes, and the resolver stays
goes_at_once : {X : Type 0} (places : X → Places) (Holds : X → ℕ → Addr → ℕ → HeldBy → X → Type 0)
    (seats : List Seat) (station : ℕ) (t : List Entry) (o : Output) (x : X) (es : List Entry) (ks : List (List ℕ)) (y : X)
    → IsAnswering (places x) → GoesOut places Holds seats station t o x es ks y
    → (es ≡ entries_of (places x) seats station (next_stamp t) o) × (ks ≡ stored_of (places x) seats station o) × (y ≡ x)
goes_at_once places Holds seats station t o x es ks y ans g =
    let own = entries_of (places x) seats station (next_stamp t) o in
    let stored = stored_of (places x) seats station o in
    let none = answering_none (places x) seats station o ans in
    let h : (g.more ≡ []) × (g.asks ≡ []) × (y ≡ x) =
    subst (λ ws. IsHeldBy Holds station (t ++ own) ws x g.more g.asks y) none g.held in
    (g.entries ∙ (ap (λ l. own ++ l) h.0 ∙ append-nil own), g.bytes ∙ (ap (λ l. stored ++ l) h.1 ∙ append-nil stored), h.2)

-- where every lookup is answered, outputs have just their own entries and bytes, and the resolver stays
pub out_at_once : {X : Type 0} (places : X → Places) (Holds : X → ℕ → Addr → ℕ → HeldBy → X → Type 0)
    (seats : List Seat) (station : ℕ) (t : List Entry) (os : List Output) (x : X) (es : List Entry) (ks : List (List ℕ)) (y : X)
    → IsAnswering (places x) → GoOut places Holds seats station t os x es ks y
    → (es ≡ all_entries (places x) seats station (next_stamp t) os) × (ks ≡ all_stored (places x) seats station os) × (y ≡ x)
out_at_once places Holds seats station t [] x es ks y ans g = g
out_at_once places Holds seats station t (o ∷ os) x es ks y ans g =
    let own = entries_of (places x) seats station (next_stamp t) o in
    let stored = stored_of (places x) seats station o in
    let first = g.0 in
    let rest = g.1 in
    let bytes = g.2 in
    let others = g.3 in
    let here = goes_at_once places Holds seats station t o x first bytes g.4 ans g.5 in
    let go = subst (λ z. GoOut places Holds seats station (t ++ first) os z rest others y) here.2 g.6 in
    let more = out_at_once places Holds seats station (t ++ first) os x rest others y ans go in
    let stamp = ap (λ l. next_stamp (t ++ l)) here.0 ∙ output_stamps (places x) seats station t o in
    let after = more.0 ∙ ap (λ n. all_entries (places x) seats station n os) stamp in (
      g.7 ∙ (ap (λ l. l ++ rest) here.0 ∙ ap (λ l. own ++ l) after),
      g.8 ∙ (ap (λ l. l ++ others) here.1 ∙ ap (λ l. stored ++ l) more.1),
      more.2,
    )

-- where every lookup is answered, a frame is taken with just the entries of the outputs, and the resolver stays
pub taken_at_once : {X : Type 0} (places : X → Places) (Holds : X → ℕ → Addr → ℕ → HeldBy → X → Type 0)
    (ports : ℕ) (old new : Cabling) (stamp station : ℕ) (Hears : Hearing → List Output → Type 0) (x y : X)
    → IsAnswering (places x) → IsTaken places Holds ports old new stamp station Hears x y
    → IsTakenAtOnce (places x) ports old new stamp station Hears × (y ≡ x)
taken_at_once places Holds ports old new stamp station Hears x y ans g =
    let t = transcript old in
    let took = Took stamp station in
    let out = out_at_once places Holds old.seats station (t ++ took ∷ []) g.added x g.told g.bytes y ans g.out in
    let told = out.0 ∙ ap (λ n. all_entries (places x) old.seats station n g.added) (next_after t took) in (
      record {
        pair = g.pair;
        was_pending = g.was_pending;
        of_stamp = g.of_stamp;
        of_station = g.of_station;
        added = g.added;
        heard = g.heard;
        lawful = g.lawful;
        entries = subst (λ es. Adds old new (took ∷ es)) told g.entries;
        stored = g.stored ∙ ap (λ l. old.kept ++ l) out.1;
      },
      out.2,
    )

-- where every lookup is answered, a datagram is sent with just its own entries and bytes, and the resolver stays
pub sent_at_once : {X : Type 0} (places : X → Places) (Holds : X → ℕ → Addr → ℕ → HeldBy → X → Type 0)
    (old new : Cabling) (cable station : ℕ) (to : Next) (bytes : List ℕ) (x y : X)
    → IsAnswering (places x) → IsSent places Holds old new cable station to bytes x y
    → Adds old new (sent_entries (places x) old cable station to bytes) × (new.kept ≡ old.kept ++ bytes ∷ []) × (y ≡ x)
sent_at_once places Holds old new cable station to bytes x y ans g =
    let own = sent_entries (places x) old cable station to bytes in
    let none = answering_next (places x) cable to bytes ans in
    let h : (g.more ≡ []) × (g.asks ≡ []) × (y ≡ x) =
    subst (λ ws. IsHeldBy Holds station (transcript old ++ own) ws x g.more g.asks y) none g.held in
    let entries = ap (λ l. own ++ l) h.0 ∙ append-nil own in
    (subst (λ es. Adds old new es) entries g.entries, g.stored ∙ ap (λ l. old.kept ++ (bytes ∷ l)) h.1, h.2)
