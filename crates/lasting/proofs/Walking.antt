-- What holds of a transcript and of what is held, and stays where entries are added that end no pair and where a datagram is
-- held, is kept by what a station sends and by what it takes.
use Rattle.std.proofs.Common.{◌≡◌, inl, inr, ℕ, true, List, [], ◌∷◌, ◌++◌, Option, Some, None, refl, sym, ap, ◌∙◌, subst, slice_get}
use Rattle.std.proofs.Common.{append-nil, append_assoc, length}
use Rattle.std.specs.Prelude.{option_and_then}
use Rattle.std.specs.List.{AllByRecursion as Each}
use Rattle.aarp.specs.Mapping.{Mappings}
use Rattle.at_base.specs.declared.address.Addr.{Addr}
use Rattle.at_base.specs.declared.address.Hw.{Hw}
use Rattle.cable_model.specs.Logs.{Cabling, transcript}
use Rattle.cable_model.specs.Outcomes.{Held, Places, cable_of, entries_of, held_by, held_next, held_of, sender_by, sent_entries}
use Rattle.cable_model.specs.Outgoing.{GoOut, IsHeldBy, IsSent, held_entries}
use Rattle.cable_model.specs.Transcript.{Entry, Took, next_stamp}
use Rattle.cable_model.specs.declared.resolve.Found.{Found}
use Rattle.cable_model.specs.declared.resolve.Found.TheVariants.{At, Nobody, Later}
use Rattle.cable_model.specs.declared.resolve.HeldBy.{HeldBy}
use Rattle.cable_model.specs.declared.seat.Seat.{Seat}
use Rattle.lasting.proofs.Given.{seat_found}
use Rattle.live_cables.proofs.Calm.{are_quiet, leg_quiet, quiet_calm}
use Rattle.live_cables.proofs.Knows.{knows_held, knows_sent}
use Rattle.live_cables.proofs.Pending.{Has}
use Rattle.live_cables.specs.Finding.{Knowing, places_of, seat_by}
use Rattle.live_cables.specs.Holding.{AreReleased, Holds, IsLearntBy, IsReleased, IsTold, with_learnt}
use Rattle.live_cables.specs.Living.{GivesOut, TakesIn, Wires, happened, knowing}
use Rattle.live_cables.specs.Putting.{AreGiven, IsGiven, IsMade, IsPut}
use Rattle.live_cables.specs.Steps.{AreLossesOf, are_calm, losses_since}
use Rattle.live_cables.specs.declared.answer.Answer.{Answer}
use Rattle.station.specs.Hearing.{Hearing}
use Rattle.station.specs.declared.heard.Kind.TheVariants.{Aarp}
use Rattle.station.specs.declared.output.Next.{Next}
use Rattle.station.specs.declared.output.Next.TheVariants as next
use Rattle.station.specs.declared.output.Output.{Output}
use Rattle.station.specs.declared.output.Output.TheVariants as output

-- none of the entries of an output is a take or a loss
own_quiet : (places : Places) (seats : List Seat) (station stamp : ℕ) (o : Output) → are_quiet (entries_of places seats station stamp o) ≡ true
own_quiet places seats station stamp (output.Made port to bytes) = leg_quiet places (sender_by seats station stamp port) to bytes
own_quiet places seats station stamp (output.Passed port to bytes) = leg_quiet places (sender_by seats station stamp port) to bytes
own_quiet places seats station stamp (output.Kept port bytes) = refl
own_quiet places seats station stamp (output.Dropped cause bytes) = refl
own_quiet places seats station stamp (output.Wire port to bytes) = refl

-- `Fits` is what holds of a station, a cable and an address for which it may hold a datagram there, `May` the same of a station
-- and its port, and `IsSpared` what holds of the frames that are lost.
module _ (Inv : List Entry → List Mappings → Type 0) (seats : List Seat) (Fits May : ℕ → ℕ → Addr → Type 0) (IsSpared : List ℕ → Type 0)
    (by_port : (station port : ℕ) (a : Addr) → May station port a → Fits station (cable_of seats station port) a)
    (by_seat : (s : Seat) (a : Addr) → Has seats s → May s.station s.port a → Fits s.station s.cable a)
    (grows : (t es : List Entry) (maps : List Mappings) → are_calm t es ≡ true → Inv t maps → Inv (t ++ es) maps)
    (holds : (station : ℕ) (t : List Entry) (w : Held) (k l : Knowing) (by : HeldBy) → k.seats ≡ seats → k.station ≡ station
    → Fits station w.cable w.next → Holds k w.cable w.next (next_stamp t) by l → Inv t k.maps → Inv (t ++ held_entries t station w by) l.maps)
    (lost : (ss : List ℕ) (t es : List Entry) (maps : List Mappings) → IsSpared ss → AreLossesOf ss es → Inv t maps → Inv (t ++ es) maps)
    (learns : (t : List Entry) (maps : List Mappings) (i : ℕ) (answer : Answer) → Inv t maps → Inv t (with_learnt maps i answer)) where
  -- the station may send by the port to what is next
  abbrev pub MaySend : ℕ → ℕ → Next → Type 0
  MaySend station port (next.Station a) = May station port a
  MaySend station port next.All = Unit {0}
  MaySend station port (next.Group g) = Unit {0}

  -- the station may put out this
  abbrev pub MayPutOut : ℕ → Output → Type 0
  MayPutOut station (output.Made port to bytes) = MaySend station port to
  MayPutOut station (output.Passed port to bytes) = MaySend station port to
  MayPutOut station (output.Kept port bytes) = Unit {0}
  MayPutOut station (output.Dropped cause bytes) = Unit {0}
  MayPutOut station (output.Wire port to bytes) = Unit {0}

  -- the station may hold on the cable what is for the next station
  abbrev FitsOn : ℕ → ℕ → Next → Type 0
  FitsOn station cable (next.Station a) = Fits station cable a
  FitsOn station cable next.All = Unit {0}
  FitsOn station cable (next.Group g) = Unit {0}

  -- the station may hold the datagram
  abbrev FitsHeld : ℕ → Held → Type 0
  FitsHeld station w = Fits station w.cable w.next

  -- where a lookup isn't answered yet, what is to be held for its address may be held
  found_fits : (station cable : ℕ) (f : Found) (a : Addr) (bytes : List ℕ) → Fits station cable a → Each (FitsHeld station) (held_by f cable a bytes)
  found_fits station cable Later a bytes p = (p, tt)
  found_fits station cable (At hw) a bytes p = tt
  found_fits station cable Nobody a bytes p = tt

  -- so may what is to be held for the next station
  next_fits : (places : Places) (station cable : ℕ) (to : Next) (bytes : List ℕ) → FitsOn station cable to
      → Each (FitsHeld station) (held_next places cable to bytes)
  next_fits places station cable (next.Station a) bytes p = found_fits station cable (places.finds cable a) a bytes p
  next_fits places station cable next.All bytes p = tt
  next_fits places station cable (next.Group g) bytes p = tt

  -- what may be sent by a port may be held on its cable
  by_cable : (station port : ℕ) (to : Next) → MaySend station port to → FitsOn station (cable_of seats station port) to
  by_cable station port (next.Station a) p = by_port station port a p
  by_cable station port next.All p = tt
  by_cable station port (next.Group g) p = tt

  -- and on the cable of a seat of the port
  by_own : (s : Seat) (station port : ℕ) (to : Next) → Has seats s → s.station ≡ station → s.port ≡ port → MaySend station port to
      → FitsOn station s.cable to
  by_own s station port (next.Station a) has of by p =
      subst (λ n. Fits n s.cable a) of
      (by_seat s a has (subst (λ n. May n s.port a) (sym of) (subst (λ q. May station q a) (sym by) p)))
  by_own s station port next.All has of by p = tt
  by_own s station port (next.Group g) has of by p = tt

  -- what is to be held of an output may be held
  held_fits : (places : Places) (station : ℕ) (o : Output) → MayPutOut station o → Each (FitsHeld station) (held_of places seats station o)
  held_fits places station (output.Made port to bytes) p = next_fits places station (cable_of seats station port) to bytes (by_cable station port to p)
  held_fits places station (output.Passed port to bytes) p = next_fits places station (cable_of seats station port) to bytes (by_cable station port to p)
  held_fits places station (output.Kept port bytes) p = tt
  held_fits places station (output.Dropped cause bytes) p = tt
  held_fits places station (output.Wire port to bytes) p = tt

  -- ---- Datagrams that are held

  -- a datagram that is to be held is held
  waits : (station : ℕ) (t : List Entry) (ws : List Held) (k : Knowing) (es : List Entry) (ks : List (List ℕ)) (l : Knowing) → k.seats ≡ seats
      → k.station ≡ station → Each (FitsHeld station) ws → IsHeldBy Holds station t ws k es ks l → Inv t k.maps → Inv (t ++ es) l.maps
  waits station t [] k es ks l same at fits h inv =
      let none : t ++ es ≡ t = ap (λ z. t ++ z) h.0 ∙ append-nil t in
      subst (λ (n : Knowing). Inv (t ++ es) n.maps) (sym h.2) (subst (λ z. Inv z k.maps) (sym none) inv)
  waits station t (w ∷ ws) k es ks l same at fits (by, held, is, stored) inv =
      subst (λ z. Inv (t ++ z) l.maps) (sym is) (holds station t w k l by same at fits.0 held inv)

  -- what goes out
  pub outs : (station : ℕ) (t : List Entry) (os : List Output) (k : Knowing) (es : List Entry) (ks : List (List ℕ)) (l : Knowing) → k.seats ≡ seats
      → k.station ≡ station → Each (MayPutOut station) os → GoOut places_of Holds seats station t os k es ks l → Inv t k.maps → Inv (t ++ es) l.maps
  outs station t [] k es ks l same at may h inv =
      let none : t ++ es ≡ t = ap (λ z. t ++ z) h.0 ∙ append-nil t in
      subst (λ (n : Knowing). Inv (t ++ es) n.maps) (sym h.2) (subst (λ z. Inv z k.maps) (sym none) inv)
  outs station t (o ∷ os) k es ks l same at may (first, rest, bytes, others, z, step, onward, split, stored) inv =
      let own = entries_of (places_of k) seats station (next_stamp t) o in
      let knows = knows_held station (t ++ own) (held_of (places_of k) seats station o) k step.more step.asks z step.held in
      let one : Inv (t ++ own) k.maps = grows t own k.maps (quiet_calm t own (own_quiet (places_of k) seats station (next_stamp t) o)) inv in
      let two : Inv ((t ++ own) ++ step.more) z.maps =
      waits station (t ++ own) (held_of (places_of k) seats station o) k step.more step.asks z same at (held_fits (places_of k) station o may.0) step.held
      one in
      let here : (t ++ own) ++ step.more ≡ t ++ first = append_assoc t own step.more ∙ ap (λ x. t ++ x) (sym step.entries) in
      let three : Inv ((t ++ first) ++ rest) l.maps =
      outs station (t ++ first) os z rest others l (ap (λ (n : Knowing). n.seats) knows.others ∙ same) (ap (λ (n : Knowing). n.station) knows.others ∙ at) may.1
      onward (subst (λ x. Inv x z.maps) here two) in
      subst (λ x. Inv x l.maps) (append_assoc t first rest ∙ ap (λ x. t ++ x) (sym split)) three

  -- ---- What a station sends of its own

  -- a datagram goes out on a seat's cable
  sent : (s : Seat) (to : Next) (bytes : List ℕ) (old new : Cabling) (k l : Knowing) → k.seats ≡ seats → k.station ≡ s.station
      → FitsOn s.station s.cable to → IsSent places_of Holds old new s.cable s.station to bytes k l → Inv (transcript old) k.maps
      → Inv (transcript new) l.maps
  sent s to bytes old new k l same at fits h inv =
      let t = transcript old in
      let own = sent_entries (places_of k) old s.cable s.station to bytes in
      let quiet : are_quiet own ≡ true =
      leg_quiet (places_of k) (record { stamp = next_stamp t; cable = s.cable; station = s.station }) to bytes in
      let one : Inv (t ++ own) k.maps = grows t own k.maps (quiet_calm t own quiet) inv in
      let two = waits s.station (t ++ own) _ k h.more h.asks l same at (next_fits (places_of k) s.station s.cable to bytes fits) h.held one in
      subst (λ x. Inv x l.maps) (append_assoc t own h.more ∙ sym h.entries.added) two

  -- a frame with an AARP packet
  pub put : (s : Seat) (to : Hw) (bytes : List ℕ) (old new : Cabling) (maps : List Mappings) → IsPut s to Aarp bytes old new
      → Inv (transcript old) maps → Inv (transcript new) maps
  put s to bytes old new maps (inl a) inv = subst (λ x. Inv x maps) (sym a.added) (grows (transcript old) _ maps refl inv)
  put s to bytes old new maps (inr w) inv = subst (λ (c : Cabling). Inv (transcript c) maps) (sym w.0) inv

  -- what holds of cables and of what a station knows
  abbrev Stands : ℕ → Cabling × Knowing → Type 0
  Stands station x = (x.1.seats ≡ seats) × (x.1.station ≡ station) × Inv (transcript x.0) x.1.maps

  -- where nothing changes, all of it stays
  unchanged : (station : ℕ) (old new : Cabling × Knowing) → new.0 ≡ old.0 → new.1 ≡ old.1 → Stands station old → Stands station new
  unchanged station old new c k inv = (
    ap (λ (n : Knowing). n.seats) k ∙ inv.0,
    ap (λ (n : Knowing). n.station) k ∙ inv.1,
    subst (λ (x : Cabling). Inv (transcript x) new.1.maps) (sym c) (subst (λ (n : Knowing). Inv (transcript old.0) n.maps) (sym k) inv.2),
  )

  -- one output is given out
  given_one : (station : ℕ) (o : Output) (old new : Cabling × Knowing) → MayPutOut station o → IsGiven station o old new → Stands station old
      → Stands station new
  given_one station (output.Made port to bytes) old new may h inv =
      by (option_and_then (slice_get old.1.seats) (seat_by old.1.seats station port)) refl h
    where
      by : (o : Option Seat) → option_and_then (slice_get old.1.seats) (seat_by old.1.seats station port) ≡ o
          → (elim o as (λ o. Type 0) [ None ↦ (new.0 ≡ old.0) × (new.1 ≡ old.1) | Some s ↦ IsMade s to bytes old new ]) → Stands station new
      by None e g = unchanged station old new g.0 g.1 inv
      by (Some s) e (inr g) = unchanged station old new g.0 g.1 inv
      by (Some s) e (inl g) =
          let at = seat_found old.1.seats station port s e in
          let knows = knows_sent old.0 new.0 s.cable s.station to bytes old.1 new.1 g in
          let fits : FitsOn s.station s.cable to =
          subst (λ n. FitsOn n s.cable to) (sym at.1) (by_own s station port to (subst (λ z. Has z s) inv.0 at.0) at.1 at.2 may) in (
            ap (λ (n : Knowing). n.seats) knows.others ∙ inv.0,
            ap (λ (n : Knowing). n.station) knows.others ∙ inv.1,
            sent s to bytes old.0 new.0 old.1 new.1 inv.0 (inv.1 ∙ sym at.1) fits g inv.2,
          )
  given_one station (output.Wire port to bytes) old new may h inv =
      by (option_and_then (slice_get old.1.seats) (seat_by old.1.seats station port)) h
    where
      by : (o : Option Seat)
          → (elim o as (λ o. Type 0) [ None ↦ (new.0 ≡ old.0) × (new.1 ≡ old.1) | Some s ↦ IsPut s to Aarp bytes old.0 new.0 × (new.1 ≡ old.1) ])
          → Stands station new
      by None g = unchanged station old new g.0 g.1 inv
      by (Some s) g =
          let still = unchanged station old (old.0, new.1) refl g.1 inv in
          (still.0, still.1, put s to bytes old.0 new.0 new.1.maps g.0 still.2)
  given_one station (output.Passed port to bytes) old new may h inv = unchanged station old new h.0 h.1 inv
  given_one station (output.Kept port bytes) old new may h inv = unchanged station old new h.0 h.1 inv
  given_one station (output.Dropped cause bytes) old new may h inv = unchanged station old new h.0 h.1 inv

  -- outputs are given out, one after the other
  given_all : (station : ℕ) (os : List Output) (old new : Cabling × Knowing) → Each (MayPutOut station) os → AreGiven station os old new
      → Stands station old → Stands station new
  given_all station [] old new may h inv = unchanged station old new h.0 h.1 inv
  given_all station (o ∷ os) old new may (mid, one, rest) inv =
      given_all station os mid new may.1 rest (given_one station o old mid may.0 one inv)

  -- the outputs of a station are given out
  pub gives : (station : ℕ) (os : List Output) (old new : Wires) → old.cabling.seats ≡ seats
      → ((c : Cabling) → IsSpared (losses_since old.losing (length old.cabling.lines) c)) → Each (MayPutOut station) os → GivesOut station os old new
      → Inv (happened old) old.maps → Inv (happened new) new.maps
  gives station os old new same spared may (mid, given, loses, maps, stays) inv =
      let w = given_all station os (old.cabling, knowing old station) mid may given (same, refl, inv) in
      subst (λ m. Inv (happened new) m) (sym maps)
      (subst (λ t. Inv t mid.1.maps) (sym loses.grown) (lost _ (transcript mid.0) loses.added mid.1.maps (spared mid.0) loses.losses w.2))

  -- ---- Takings

  -- the frame of a datagram that was held is put
  released_one : (to : Hw) (stamp : Option ℕ) (old new : Cabling) (maps : List Mappings) → IsReleased to stamp old new → Inv (transcript old) maps
      → Inv (transcript new) maps
  released_one to None old new maps h inv = subst (λ x. Inv x maps) (sym (h.added ∙ append-nil (transcript old))) inv
  released_one to (Some stamp) old new maps (inl (h, there, named, adds)) inv =
      subst (λ x. Inv x maps) (sym adds.added) (grows (transcript old) _ maps refl inv)
  released_one to (Some stamp) old new maps (inr (none, adds)) inv =
      subst (λ x. Inv x maps) (sym (adds.added ∙ append-nil (transcript old))) inv

  -- and those of several
  released_all : (to : Hw) (ss : List (Option ℕ)) (old new : Cabling) (maps : List Mappings) → AreReleased to ss old new → Inv (transcript old) maps
      → Inv (transcript new) maps
  released_all to [] old new maps h inv = subst (λ x. Inv x maps) (sym (h.added ∙ append-nil (transcript old))) inv
  released_all to (s ∷ ss) old new maps (mid, one, rest) inv =
      released_all to ss mid new maps rest (released_one to s old mid maps one inv)

  -- what holds of cables and mappings
  abbrev InvOf : Cabling × List Mappings → Type 0
  InvOf x = Inv (transcript x.0) x.1

  -- a response is learnt
  learnt : (i : Option ℕ) (answer : Answer) (old new : Cabling × List Mappings) → IsLearntBy i answer old new → InvOf old → InvOf new
  learnt None answer old new h inv =
      subst (λ m. Inv (transcript new.0) m) (sym h.1) (subst (λ x. Inv x old.1) (sym (h.0.added ∙ append-nil (transcript old.0))) inv)
  learnt (Some i) answer old new h inv =
      subst (λ m. Inv (transcript new.0) m) (sym h.1)
      (learns (transcript new.0) old.1 i answer (released_all answer.source_hw _ old.0 new.0 old.1 h.0 inv))

  -- a station is told of a response, if there is one
  pub told : (station : ℕ) (answer : Option Answer) (old new : Cabling × List Mappings) (all : List Seat) → IsTold all station answer old new → InvOf old
      → InvOf new
  told station None old new all h inv =
      subst (λ m. Inv (transcript new.0) m) (sym h.1) (subst (λ x. Inv x old.1) (sym (h.0.added ∙ append-nil (transcript old.0))) inv)
  told station (Some answer) old new all h inv = learnt (seat_by all station answer.port) answer old new h inv

  -- a frame is taken, where this holds after it was taken and before anything else happened
  pub takes : (stamp station ports : ℕ) (Hears : Hearing → List Output → Type 0) (old new : Wires) → old.cabling.seats ≡ seats
      → ((c : Cabling) → IsSpared (losses_since old.losing (length old.cabling.lines) c)) → (h : TakesIn stamp station ports Hears old new)
      → Each (MayPutOut station) h.2.took.added → Inv (happened old ++ Took stamp station ∷ []) old.maps → Inv (happened new) new.maps
  takes stamp station ports Hears old new same spared (room, mid, taken, loses, maps, stays) may inv =
      let took = taken.took in
      let t = happened old ++ Took stamp station ∷ [] in
      let one : Inv (t ++ took.told) taken.after.maps =
      outs station t took.added (knowing old station) took.told took.bytes taken.after same refl may
      (subst (λ ss. GoOut places_of Holds ss station t took.added (knowing old station) took.told took.bytes taken.after) same took.out) inv in
      let whole : t ++ took.told ≡ transcript taken.taken =
      append_assoc (happened old) (Took stamp station ∷ []) took.told ∙ sym took.entries.added in
      let two = told station taken.answer (taken.taken, taken.after.maps) (mid.0, mid.1.maps) old.cabling.seats taken.told
      (subst (λ x. Inv x taken.after.maps) whole one) in
      subst (λ m. Inv (happened new) m) (sym maps)
      (subst (λ x. Inv x mid.1.maps) (sym loses.grown) (lost _ (transcript mid.0) loses.added mid.1.maps (spared mid.0) loses.losses two))
