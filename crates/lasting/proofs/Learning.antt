-- What the seats of stations know: only a response that is taken changes it, at the seat of the port on which it came.
use Rattle.std.proofs.Common.{◌≡◌, ◌⊎◌, inl, inr, ℕ, List, [], ◌∷◌, ◌++◌, Option, Some, None, refl, sym, ap, ◌∙◌, subst, slice_get, map}
use Rattle.std.specs.Prelude.{filter, not, option_and_then, slice_set}
use Rattle.std.proofs.lemmas.Bool.{cases_eq}
use Rattle.aarp.specs.Mapping.{Mappings, is_for, learnt, waited}
use Rattle.at_base.specs.declared.address.Addr.{Addr}
use Rattle.at_base.specs.declared.address.Hw.{Hw}
use Rattle.audit.proofs.WalkLists.{At, at_map, at_one}
use Rattle.cable_model.specs.Logs.{Cabling, transcript}
use Rattle.cable_model.specs.Transcript.{Took}
use Rattle.cable_model.specs.declared.seat.Seat.{Seat}
use Rattle.lasting.proofs.Idling.{get_set, get_set_other}
use Rattle.lasting.proofs.Images.{mapped}
use Rattle.live_cables.proofs.Knows.{knows_out, knows_sent, map-set}
use Rattle.live_cables.specs.Finding.{Knowing, seat_by}
use Rattle.live_cables.specs.Holding.{IsLearntBy, IsTold, with_known, with_tick, without_held}
use Rattle.live_cables.specs.Living.{GivesOut, PassesFor, TakesIn, Wires, knowing}
use Rattle.live_cables.specs.Putting.{AreGiven, IsGiven, IsMade, IsPut}
use Rattle.live_cables.specs.declared.answer.Answer.{Answer}
use Rattle.station.specs.Hearing.{Hearing}
use Rattle.station.specs.declared.heard.Kind.TheVariants.{Aarp}
use Rattle.station.specs.declared.output.Output.{Output}
use Rattle.station.specs.declared.output.Output.TheVariants as output

-- what each seat knows
abbrev pub known_of : List Mappings → List (List (Addr × Hw))
known_of maps = map (λ (m : Mappings). m.known) maps

-- ---- What leaves it as it is

-- an output that is given out leaves what is known
given_one : (station : ℕ) (o : Output) (old new : Cabling × Knowing) → IsGiven station o old new → known_of new.1.maps ≡ known_of old.1.maps
given_one station (output.Made port to bytes) old new h =
    by (option_and_then (slice_get old.1.seats) (seat_by old.1.seats station port)) h
  where
    by : (o : Option Seat)
        → (elim o as (λ o. Type 0) [ None ↦ (new.0 ≡ old.0) × (new.1 ≡ old.1) | Some s ↦ IsMade s to bytes old new ])
        → known_of new.1.maps ≡ known_of old.1.maps
    by None g = ap (λ (k : Knowing). known_of k.maps) g.1
    by (Some s) (inr g) = ap (λ (k : Knowing). known_of k.maps) g.1
    by (Some s) (inl g) = (knows_sent old.0 new.0 s.cable s.station to bytes old.1 new.1 g).known
given_one station (output.Wire port to bytes) old new h =
    by (option_and_then (slice_get old.1.seats) (seat_by old.1.seats station port)) h
  where
    by : (o : Option Seat)
        → (elim o as (λ o. Type 0) [
          | None ↦ (new.0 ≡ old.0) × (new.1 ≡ old.1)
          | Some s ↦ IsPut s to Aarp bytes old.0 new.0 × (new.1 ≡ old.1)
        ])
        → known_of new.1.maps ≡ known_of old.1.maps
    by None g = ap (λ (k : Knowing). known_of k.maps) g.1
    by (Some s) g = ap (λ (k : Knowing). known_of k.maps) g.1
given_one station (output.Passed port to bytes) old new h = ap (λ (k : Knowing). known_of k.maps) h.1
given_one station (output.Kept port bytes) old new h = ap (λ (k : Knowing). known_of k.maps) h.1
given_one station (output.Dropped cause bytes) old new h = ap (λ (k : Knowing). known_of k.maps) h.1

-- and so do several
given_all : (station : ℕ) (os : List Output) (old new : Cabling × Knowing) → AreGiven station os old new
    → known_of new.1.maps ≡ known_of old.1.maps
given_all station [] old new h = ap (λ (k : Knowing). known_of k.maps) h.1
given_all station (o ∷ os) old new (mid, one, rest) = given_all station os mid new rest ∙ given_one station o old mid one

-- what a station sends leaves it
pub gives_known : (station : ℕ) (os : List Output) (old new : Wires) → GivesOut station os old new → known_of new.maps ≡ known_of old.maps
gives_known station os old new (mid, given, lost, maps, stays) =
    ap known_of maps ∙ given_all station os (old.cabling, knowing old station) mid given

-- mappings that pass a tick are known as before
ticked_known : (maps : List Mappings) (seat : ℕ) → known_of (with_tick maps seat) ≡ known_of maps
ticked_known maps seat = by (slice_get maps seat) refl
  where
    by : (o : Option Mappings) → slice_get maps seat ≡ o → known_of (with_tick maps seat) ≡ known_of maps
    by None e = rw e refl
    by (Some m) e = rw e (map-set (λ (m : Mappings). m.known) maps seat m (record m { held = waited m.held }) e refl)

-- so does a tick of a seat's mappings
pub passes_known : (seat : ℕ) (old new : Wires) → PassesFor seat old new → known_of new.maps ≡ known_of old.maps
passes_known seat old new (asked, asks, lost, loses, sheds, maps, stays) = ap known_of maps ∙ ticked_known old.maps seat

-- ---- A response

-- so are they where held datagrams are taken out
freed_known : (maps : List Mappings) (i : ℕ) (a : Addr) → known_of (without_held maps i a) ≡ known_of maps
freed_known maps i a = by (slice_get maps i) refl
  where
    by : (o : Option Mappings) → slice_get maps i ≡ o → known_of (without_held maps i a) ≡ known_of maps
    by None e = rw e refl
    by (Some m) e = rw e (map-set (λ (m : Mappings). m.known) maps i m (record m { held = filter (λ h. not (is_for a h)) m.held }) e refl)

-- What a seat knows is what it knew, or that with this change, if it is this seat.
pub record WasKnown (change : List (Addr × Hw) → List (Addr × Hw)) (i : ℕ) (olds : List (List (Addr × Hw))) (j : ℕ) (l : List (Addr × Hw)) : Type 0 where
  pub before : List (Addr × Hw)
  pub there : At olds j before
  pub is : (l ≡ before) ⊎ ((j ≡ i) × (l ≡ change before))

-- what a seat knows after a change at one seat
changed_known : (maps : List Mappings) (i : ℕ) (change : List (Addr × Hw) → List (Addr × Hw)) (j : ℕ) (l : List (Addr × Hw))
    → At (known_of (with_known maps i change)) j l → WasKnown change i (known_of maps) j l
changed_known maps i change j l h =
    let w = at_map (λ (m : Mappings). m.known) (with_known maps i change) j l h in by w.0 w.1 w.2 (slice_get maps i) refl
  where
    by : (m : Mappings) → At (with_known maps i change) j m → l ≡ m.known → (o : Option Mappings) → slice_get maps i ≡ o
        → WasKnown change i (known_of maps) j l
    by m em is None e =
        let there : At maps j m = rw e at em in
        record { before = m.known; there = mapped (λ (m : Mappings). m.known) maps j m there; is = inl is }
    by m em is (Some n) e =
        let set : At (slice_set maps i (record n { known = change n.known })) j m = rw e at em in
        elim (cases_eq j i) [
          | inl same ↦
              let here : At (slice_set maps i (record n { known = change n.known })) i m =
              subst (λ k. At (slice_set maps i (record n { known = change n.known })) k m) same set in
              let one : record n { known = change n.known } ≡ m =
              at_one (slice_set maps i (record n { known = change n.known })) i (record n { known = change n.known }) m
              (get_set maps i (record n { known = change n.known }) n e) here in
              record {
                before = n.known;
                there = mapped (λ (m : Mappings). m.known) maps j n (subst (λ k. At maps k n) (sym same) e);
                is = inr (same, is ∙ ap (λ (m : Mappings). m.known) (sym one));
              }
          | inr other ↦
              let there : At maps j m = sym (get_set_other maps i j (record n { known = change n.known }) (λ s. absurd (other s))) ∙ set in
              record { before = m.known; there = mapped (λ (m : Mappings). m.known) maps j m there; is = inl is }
        ]

-- What a seat knows after a frame was taken is what it knew, or that with the mapping of the response in the frame.
pub record HasLearnt (seats : List Seat) (station : ℕ) (told : Option Answer) (olds : List (List (Addr × Hw))) (j : ℕ) (l : List (Addr × Hw)) : Type 0 where
  pub before : List (Addr × Hw)
  pub there : At olds j before
  pub is : (l ≡ before)
      ⊎ ((a : Answer) × (told ≡ Some a) × (seat_by seats station a.port ≡ Some j) × (l ≡ learnt a.source a.source_hw before))

-- what a seat knows after a response was learnt at one seat, if there is such a seat
learnt_by : (seats : List Seat) (station : ℕ) (a : Answer) (o : Option ℕ) → seat_by seats station a.port ≡ o → (old new : Cabling × List Mappings)
    → IsLearntBy o a old new → (j : ℕ) (l : List (Addr × Hw)) → At (known_of new.1) j l → HasLearnt seats station (Some a) (known_of old.1) j l
learnt_by seats station a None e old new h j l at =
    record { before = l; there = subst (λ m. At (known_of m) j l) h.1 at; is = inl refl }
learnt_by seats station a (Some i) e old new h j l at =
    let same : known_of new.1 ≡ known_of (with_known old.1 i (learnt a.source a.source_hw)) =
    ap known_of h.1 ∙ freed_known (with_known old.1 i (learnt a.source a.source_hw)) i a.source in
    let w = changed_known old.1 i (learnt a.source a.source_hw) j l (subst (λ ks. At ks j l) same at) in
    by w.before w.there w.is
  where
    by : (before : List (Addr × Hw)) → At (known_of old.1) j before → (l ≡ before) ⊎ ((j ≡ i) × (l ≡ learnt a.source a.source_hw before))
        → HasLearnt seats station (Some a) (known_of old.1) j l
    by before there (inl is) = record { before = before; there = there; is = inl is }
    by before there (inr is) = record { before = before; there = there; is = inr (a, refl, e ∙ ap (λ n. Some n) (sym is.0), is.1) }

-- and after a station was told of a response, if there is one
told_known : (seats : List Seat) (station : ℕ) (o : Option Answer) (old new : Cabling × List Mappings) → IsTold seats station o old new
    → (j : ℕ) (l : List (Addr × Hw)) → At (known_of new.1) j l → HasLearnt seats station o (known_of old.1) j l
told_known seats station None old new h j l at =
    record { before = l; there = subst (λ m. At (known_of m) j l) h.1 at; is = inl refl }
told_known seats station (Some a) old new h j l at = learnt_by seats station a (seat_by seats station a.port) refl old new h j l at

-- what the seats know after a frame was taken
pub takes_known : (stamp station ports : ℕ) (Hears : Hearing → List Output → Type 0) (old new : Wires) → (h : TakesIn stamp station ports Hears old new)
    → (j : ℕ) (l : List (Addr × Hw)) → At (known_of new.maps) j l → HasLearnt old.cabling.seats station h.2.answer (known_of old.maps) j l
takes_known stamp station ports Hears old new (room, mid, taken, lost, maps, stays) j l at =
    let took = taken.took in
    let out : known_of taken.after.maps ≡ known_of old.maps =
    (knows_out old.cabling.seats station (transcript old.cabling ++ Took stamp station ∷ []) took.added (knowing old station) took.told took.bytes
    taken.after took.out).known in
    subst (λ ks. HasLearnt old.cabling.seats station taken.answer ks j l) out
    (told_known old.cabling.seats station taken.answer (taken.taken, taken.after.maps) (mid.0, mid.1.maps) taken.told j l
    (subst (λ m. At (known_of m) j l) maps at))
