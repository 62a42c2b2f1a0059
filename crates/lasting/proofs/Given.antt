-- What calls of live cables add to a transcript: entries that are fine.
use Rattle.std.proofs.Common.{◌≡◌, ◌⊎◌, inl, inr, ℕ, suc, ◌+◌, Bool, true, false, not, ◌&&◌, ◌==◌, cond, List, [], ◌∷◌, ◌++◌}
use Rattle.std.proofs.Common.{Option, Some, None, refl, sym, ap, ◌∙◌, subst, slice_get, nat_lt, append-nil, append_assoc, arith, eqb-true, length, drop}
use Rattle.std.specs.Prelude.{Contains, option_and_then}
use Rattle.std.specs.List.{position_or_len, AllByRecursion as Each}
use Rattle.std.proofs.lemmas.Bool.{and_parts}
use Rattle.at_base.specs.Multicast.{all_hw}
use Rattle.at_base.specs.declared.address.Addr.{Addr}
use Rattle.at_base.specs.declared.address.Hw.{Hw}
use Rattle.aarp.specs.Mapping.{Mappings}
use Rattle.cable_model.proofs.Counting.{contained_at, each-append}
use Rattle.cable_model.specs.Holdings.{still_held}
use Rattle.cable_model.specs.Logs.{Adds, Cabling, pending_on, transcript}
use Rattle.cable_model.specs.Outcomes.{heard_by, sent_entries}
use Rattle.cable_model.specs.Pending.{Pair}
use Rattle.cable_model.specs.Outgoing.{IsSent}
use Rattle.cable_model.specs.Transcript.{Entry, Frame, Sent, Put, Took, Reached, Dropped, Lost, Hold, next_stamp}
use Rattle.cable_model.specs.declared.seat.Seat.{Seat}
use Rattle.lasting.proofs.Entries.{AreFine, IsFineEntry, all_fine, fine_after, gone_fine, leg_fine, next_fine, outs_fine, waits_fine}
use Rattle.lasting.specs.Plain.{IsPlain, IsPlainOutput}
use Rattle.live_cables.proofs.Calm.{calm-append, let_go_calm, out_calm, sent_calm}
use Rattle.live_cables.proofs.Knows.{knows_sent}
use Rattle.live_cables.proofs.Pending.{Has}
use Rattle.live_cables.specs.Finding.{Knowing, places_of, seat_by}
use Rattle.live_cables.specs.Holding.{AreReleased, AreShed, Holds, IsLearntBy, IsReleased, IsTold}
use Rattle.live_cables.specs.Living.{GivesOut, PassesFor, TakesIn, Wires, knowing}
use Rattle.live_cables.specs.Playing.{losses}
use Rattle.live_cables.specs.Putting.{AreAsked, AreGiven, IsAsked, IsGiven, IsMade, IsPut}
use Rattle.live_cables.specs.Steps.{AreLossesOf, Loses, are_calm, loses_by}
use Rattle.live_cables.specs.declared.answer.Answer.{Answer}
use Rattle.station.specs.Hearing.{Hearing}
use Rattle.station.specs.declared.heard.Kind.TheVariants.{Aarp, Ddp}
use Rattle.station.specs.declared.output.Next.{Next}
use Rattle.station.specs.declared.output.Next.TheVariants as next
use Rattle.station.specs.declared.output.Output.{Output}
use Rattle.station.specs.declared.output.Output.TheVariants as output

-- ---- The seat of a port

pub first_passes : {X : Type 0} (p : X → Bool) (xs : List X) (x : X) → slice_get xs (position_or_len p xs) ≡ Some x → p x ≡ true
first_passes p [] x e = cc
first_passes p (y ∷ xs) x e =
    (elim (p y) as (λ b. p y ≡ b → slice_get (y ∷ xs) (cond (not b) (1 + position_or_len p xs) 0) ≡ Some x → p x ≡ true) [
      | true ↦ λ t n. let same : y ≡ x = cc in ap p (sym same) ∙ t
      | false ↦ λ t n.
          let s : 1 + position_or_len p xs ≡ suc (position_or_len p xs) = omega arith in
          first_passes p xs x (sym (ap (slice_get (y ∷ xs)) s) ∙ n)
    ]) refl e

-- the seat of a station's port, if there is one
pub seat_found : (seats : List Seat) (station port : ℕ) (s : Seat) → option_and_then (slice_get seats) (seat_by seats station port) ≡ Some s
    → Has seats s × (s.station ≡ station) × (s.port ≡ port)
seat_found seats station port s e = by (nat_lt (position_or_len test seats) (length seats)) e
  where
    test : Seat → Bool
    test s = s.station == station && s.port == port

    by : (b : Bool) → option_and_then (slice_get seats) (cond b (Some (position_or_len (λ (s : Seat). s.station == station && s.port == port) seats)) None) ≡ Some s
        → Has seats s × (s.station ≡ station) × (s.port ≡ port)
    by false h = cc
    by true h =
        let passes : (s.station == station && s.port == port) ≡ true =
        first_passes (λ (s : Seat). s.station == station && s.port == port) seats s h in
        let w = and_parts (s.station == station) (s.port == port) passes in
        ((position_or_len (λ (s : Seat). s.station == station && s.port == port) seats, h), eqb-true _ _ w.0, eqb-true _ _ w.1)

-- an output is plain, or it goes to all stations of the cable of its port, and its frame is one that something is told of
abbrev pub MayPut : (Frame → Type 0) → List Seat → ℕ → Output → Type 0
MayPut IsToldOf seats station (output.Made port to bytes) =
    IsPlain bytes
    ⊎ ((to ≡ next.All)
    × ((s : Seat) → Has seats s → s.station ≡ station → s.port ≡ port → (stamp : ℕ)
    → IsToldOf (record { stamp = stamp; cable = s.cable; sender = s.station; to = all_hw; kind = Ddp; bytes = bytes })))
MayPut IsToldOf seats station _ = Unit {0}

-- `Lossless` is a fact by which no cable loses frames: then no entry ends a pair.
module _ (IsToldOf : Frame → Type 0) (Lossless : Type 0) where
  -- ---- Steps that add fine entries

  pub record IsFineStep (old new : Cabling) : Type 0 where
    pub added : List Entry
    pub grown : transcript new ≡ transcript old ++ added
    pub fine : Each (IsFineEntry IsToldOf) added
    pub calm : Lossless → are_calm (transcript old) added ≡ true
    pub seats : new.seats ≡ old.seats

  pub step_of : (old new : Cabling) (es : List Entry) → Adds old new es → Each (IsFineEntry IsToldOf) es → are_calm (transcript old) es ≡ true
      → IsFineStep old new
  step_of old new es a h calm = record { added = es; grown = a.added; fine = h; calm = λ l. calm; seats = a.seats }

  pub step_same : (old new : Cabling) → new ≡ old → IsFineStep old new
  step_same old new e =
      subst (IsFineStep old) (sym e)
      (record { added = []; grown = sym (append-nil (transcript old)); fine = tt; calm = λ l. refl; seats = refl })

  pub step_then : (a b c : Cabling) → IsFineStep a b → IsFineStep b c → IsFineStep a c
  step_then a b c x y = record {
    added = x.added ++ y.added;
    grown = y.grown ∙ (ap (λ l. l ++ y.added) x.grown ∙ append_assoc (transcript a) x.added y.added);
    fine = each-append (IsFineEntry IsToldOf) x.added y.added x.fine y.fine;
    calm = λ l. calm-append (transcript a) x.added y.added (x.calm l) (subst (λ t. are_calm t y.added ≡ true) x.grown (y.calm l));
    seats = y.seats ∙ x.seats;
  }

  abbrev pub IsFineOn : Cabling → Type 0
  IsFineOn c = AreFine IsToldOf c.seats (transcript c)

  pub fine_then : (old new : Cabling) → IsFineOn old → IsFineStep old new → IsFineOn new
  fine_then old new a x =
      subst (λ s. AreFine IsToldOf s (transcript new)) (sym x.seats)
      (subst (AreFine IsToldOf old.seats) (sym x.grown) (fine_after IsToldOf old.seats (transcript old) x.added a x.fine))

  -- ---- What a station sends of its own

  put_fine : (s : Seat) (to : Hw) (bytes : List ℕ) (old new : Cabling) → IsPut s to Aarp bytes old new → IsFineStep old new
  put_fine s to bytes old new (inl a) = step_of old new _ a (inl tt, tt) refl
  put_fine s to bytes old new (inr w) = step_same old new w.0

  sent_fine : (s : Seat) (to : Next) (bytes : List ℕ) (old new : Cabling) (k l : Knowing)
      → (IsPlain bytes ⊎ ((to ≡ next.All) × ((stamp : ℕ)
      → IsToldOf (record { stamp = stamp; cable = s.cable; sender = s.station; to = all_hw; kind = Ddp; bytes = bytes }))))
      → IsSent places_of Holds old new s.cable s.station to bytes k l → IsFineStep old new
  sent_fine s to bytes old new k l (inl p) h =
      step_of old new _ h.entries
      (each-append (IsFineEntry IsToldOf) (sent_entries (places_of k) old s.cable s.station to bytes) h.more
      (tt, leg_fine IsToldOf (places_of k) (record { stamp = next_stamp (transcript old); cable = s.cable; station = s.station }) to bytes p)
      (waits_fine IsToldOf Holds s.station (transcript old ++ sent_entries (places_of k) old s.cable s.station to bytes) _ k h.more h.asks l
      (next_fine IsToldOf (places_of k) s.cable to bytes p) h.held))
      (sent_calm places_of Holds old new s.cable s.station to bytes k l h)
  sent_fine s to bytes old new k l (inr told) h = by (subst (λ z. IsSent places_of Holds old new s.cable s.station z bytes k l) told.0 h)
    where
      by : IsSent places_of Holds old new s.cable s.station next.All bytes k l → IsFineStep old new
      by g =
          step_of old new _ g.entries
          (each-append (IsFineEntry IsToldOf) (sent_entries (places_of k) old s.cable s.station next.All bytes) g.more (
            tt,
            all_fine IsToldOf (places_of k) (record { stamp = next_stamp (transcript old); cable = s.cable; station = s.station }) bytes
                (inr (told.1 (next_stamp (transcript old)))),
          )
          (waits_fine IsToldOf Holds s.station (transcript old ++ sent_entries (places_of k) old s.cable s.station next.All bytes) [] k g.more g.asks l
          tt g.held))
          (sent_calm places_of Holds old new s.cable s.station next.All bytes k l g)

  -- one output: its entries are fine, and the station knows the seats as before
  pub given_one : (station : ℕ) (o : Output) (old new : Cabling × Knowing) → MayPut IsToldOf old.1.seats station o → IsGiven station o old new
      → IsFineStep old.0 new.0 × (new.1.seats ≡ old.1.seats)
  given_one station (output.Made port to bytes) old new p h =
      by (option_and_then (slice_get old.1.seats) (seat_by old.1.seats station port)) refl h
    where
      by : (o : Option Seat) → option_and_then (slice_get old.1.seats) (seat_by old.1.seats station port) ≡ o
          → (elim o as (λ o. Type 0) [ None ↦ (new.0 ≡ old.0) × (new.1 ≡ old.1) | Some s ↦ IsMade s to bytes old new ])
          → IsFineStep old.0 new.0 × (new.1.seats ≡ old.1.seats)
      by None e g = (step_same old.0 new.0 g.0, ap (λ (k : Knowing). k.seats) g.1)
      by (Some s) e (inr g) = (step_same old.0 new.0 g.0, ap (λ (k : Knowing). k.seats) g.1)
      by (Some s) e (inl g) =
          let at = seat_found old.1.seats station port s e in (
            sent_fine s to bytes old.0 new.0 old.1 new.1 (at_seat at p) g,
            ap (λ (k : Knowing). k.seats) (knows_sent old.0 new.0 s.cable s.station to bytes old.1 new.1 g).others,
          )
        where
          at_seat : Has old.1.seats s × (s.station ≡ station) × (s.port ≡ port) → MayPut IsToldOf old.1.seats station (output.Made port to bytes)
              → (IsPlain bytes ⊎ ((to ≡ next.All) × ((stamp : ℕ)
              → IsToldOf (record { stamp = stamp; cable = s.cable; sender = s.station; to = all_hw; kind = Ddp; bytes = bytes }))))
          at_seat at (inl q) = inl q
          at_seat at (inr q) = inr (q.0, q.1 s at.0 at.1 at.2)
  given_one station (output.Wire port to bytes) old new p h =
      by (option_and_then (slice_get old.1.seats) (seat_by old.1.seats station port)) h
    where
      by : (o : Option Seat)
          → (elim o as (λ o. Type 0) [ None ↦ (new.0 ≡ old.0) × (new.1 ≡ old.1) | Some s ↦ IsPut s to Aarp bytes old.0 new.0 × (new.1 ≡ old.1) ])
          → IsFineStep old.0 new.0 × (new.1.seats ≡ old.1.seats)
      by None g = (step_same old.0 new.0 g.0, ap (λ (k : Knowing). k.seats) g.1)
      by (Some s) g = (put_fine s to bytes old.0 new.0 g.0, ap (λ (k : Knowing). k.seats) g.1)
  given_one station (output.Passed port to bytes) old new p h = (step_same old.0 new.0 h.0, ap (λ (k : Knowing). k.seats) h.1)
  given_one station (output.Kept port bytes) old new p h = (step_same old.0 new.0 h.0, ap (λ (k : Knowing). k.seats) h.1)
  given_one station (output.Dropped cause bytes) old new p h = (step_same old.0 new.0 h.0, ap (λ (k : Knowing). k.seats) h.1)

  pub given_all : (station : ℕ) (os : List Output) (old new : Cabling × Knowing) → Each (MayPut IsToldOf old.1.seats station) os
      → AreGiven station os old new → IsFineStep old.0 new.0
  given_all station [] old new p h = step_same old.0 new.0 h.0
  given_all station (o ∷ os) old new p (mid, one, rest) =
      let first = given_one station o old mid p.0 one in
      step_then old.0 mid.0 new.0 first.0
      (given_all station os mid new (subst (λ s. Each (MayPut IsToldOf s station) os) (sym first.1) p.1) rest)

  -- ---- Losses

  losses_fine : (ss : List ℕ) (es : List Entry) → AreLossesOf ss es → Each (IsFineEntry IsToldOf) es
  losses_fine ss [] h = tt
  losses_fine [] (e ∷ es) h = absurd h
  losses_fine (s ∷ ss) (e ∷ es) (inl h) = (subst (IsFineEntry IsToldOf) (sym h.0) tt, losses_fine ss es h.1)
  losses_fine (s ∷ ss) (e ∷ es) (inr h) = losses_fine ss (e ∷ es) h

  none_lost : (ss : List ℕ) (es : List Entry) → ss ≡ [] → AreLossesOf ss es → es ≡ []
  none_lost ss [] e h = refl
  none_lost [] (x ∷ es) e h = absurd h
  none_lost (s ∷ ss) (x ∷ es) e h = absurd (let f = e in cc)

  pub lost_step : (ss : List ℕ) (old new : Cabling) → (Lossless → ss ≡ []) → Loses ss old new → IsFineStep old new
  lost_step ss old new none h =
      record {
        added = h.added;
        grown = h.grown;
        fine = losses_fine ss h.added h.losses;
        calm = λ l. ap (are_calm (transcript old)) (none_lost ss h.added (none l) h.losses);
        seats = h.seats;
      }

  -- cables that lose nothing
  abbrev pub IsLossless : Wires → Type 0
  IsLossless w = (cable : ℕ) → loses_by w.losing cable ≡ false

  pub no_losses : (losing : ℕ → Bool) → ((cable : ℕ) → losing cable ≡ false) → (es : List Entry) → losses losing es ≡ []
  no_losses losing none [] = refl
  no_losses losing none (Put f ∷ es) = ap (λ b. cond b (f.stamp ∷ losses losing es) (losses losing es)) (none f.cable) ∙ no_losses losing none es
  no_losses losing none (Sent s x ∷ es) = no_losses losing none es
  no_losses losing none (Took p s ∷ es) = no_losses losing none es
  no_losses losing none (Reached c s w x ∷ es) = no_losses losing none es
  no_losses losing none (Dropped r c x ∷ es) = no_losses losing none es
  no_losses losing none (Lost p ∷ es) = no_losses losing none es
  no_losses losing none (Hold h ∷ es) = no_losses losing none es

  -- outputs are given out
  pub gives_step : (station : ℕ) (os : List Output) (old new : Wires) → (Lossless → IsLossless old)
      → Each (MayPut IsToldOf old.cabling.seats station) os → GivesOut station os old new → IsFineStep old.cabling new.cabling
  gives_step station os old new none p (mid, given, lost, maps, stays) =
      step_then old.cabling mid.0 new.cabling (given_all station os (old.cabling, knowing old station) mid p given)
      (lost_step _ mid.0 new.cabling (λ l. no_losses (loses_by old.losing) (none l) (drop (length old.cabling.lines) (transcript mid.0))) lost)

  -- ---- Requests

  pub asked_one : (seat : Option Seat) (own : Option (Option Addr)) (a : Addr) (old new : Cabling) → IsAsked seat own a old new → IsFineStep old new
  asked_one None own a old new h = step_same old new h
  asked_one (Some s) own a old new (bytes, spelled, put) = put_fine s all_hw bytes old new put

  pub asked_all : (seat : Option Seat) (own : Option (Option Addr)) (addrs : List Addr) (old new : Cabling) → AreAsked seat own addrs old new
      → IsFineStep old new
  asked_all seat own [] old new h = step_same old new h
  asked_all seat own (a ∷ more) old new (mid, one, rest) =
      step_then old mid new (asked_one seat own a old mid one) (asked_all seat own more mid new rest)

  pub shed_all : (ss : List ℕ) (old new : Cabling) → AreShed ss old new → IsFineStep old new
  shed_all [] old new h = step_of old new [] h tt refl
  shed_all (s ∷ ss) old new (mid, one, rest) =
      step_then old mid new (step_of old mid _ one (gone_fine IsToldOf (transcript old) (Some s)) (let_go_calm (transcript old) (Some s))) (shed_all ss mid new rest)

  -- the mappings of a seat pass a tick
  pub passes_step : (seat : ℕ) (old new : Wires) → (Lossless → IsLossless old) → PassesFor seat old new → IsFineStep old.cabling new.cabling
  passes_step seat old new none (asked, asks, lost, loses, sheds, maps, stays) =
      step_then old.cabling asked new.cabling (asked_all _ _ _ old.cabling asked asks)
      (step_then asked lost new.cabling (lost_step _ asked lost (λ l. no_losses (loses_by old.losing) (none l) (drop (length old.cabling.lines) (transcript asked))) loses) (shed_all _ lost new.cabling sheds))

  -- ---- Takings

  released_one : (to : Hw) (stamp : Option ℕ) (old new : Cabling) → IsFineOn old → IsReleased to stamp old new → IsFineStep old new
  released_one to None old new a h = step_of old new [] h tt refl
  released_one to (Some stamp) old new a (inl (h, there, named, adds)) =
      step_of old new _ adds (inl (a.held h (contained_at (still_held (transcript old)) h there)), tt) refl
  released_one to (Some stamp) old new a (inr (none, adds)) = step_of old new [] adds tt refl

  released_all : (to : Hw) (ss : List (Option ℕ)) (old new : Cabling) → IsFineOn old → AreReleased to ss old new → IsFineStep old new
  released_all to [] old new a h = step_of old new [] h tt refl
  released_all to (s ∷ ss) old new a (mid, one, rest) =
      let first = released_one to s old mid a one in
      step_then old mid new first (released_all to ss mid new (fine_then old mid a first) rest)

  learnt_fine : (i : Option ℕ) (answer : Answer) (old new : Cabling × List Mappings) → IsFineOn old.0 → IsLearntBy i answer old new
      → IsFineStep old.0 new.0
  learnt_fine None answer old new a h = step_of old.0 new.0 [] h.0 tt refl
  learnt_fine (Some i) answer old new a h = released_all answer.source_hw _ old.0 new.0 a h.0

  told_fine : (seats : List Seat) (station : ℕ) (answer : Option Answer) (old new : Cabling × List Mappings) → IsFineOn old.0
      → IsTold seats station answer old new → IsFineStep old.0 new.0
  told_fine seats station None old new a h = step_of old.0 new.0 [] h.0 tt refl
  told_fine seats station (Some answer) old new a h = learnt_fine (seat_by seats station answer.port) answer old new a h

  -- A frame was taken, and then fine entries were added that end no pair.
  pub record IsFineTaking (stamp station : ℕ) (old new : Cabling) : Type 0 where
    pub rest : List Entry
    pub grown : transcript new ≡ transcript old ++ Took stamp station ∷ rest
    pub fine : Each (IsFineEntry IsToldOf) rest
    pub calm : Lossless → are_calm (transcript old ++ Took stamp station ∷ []) rest ≡ true
    pub seats : new.seats ≡ old.seats

  pub fine_taken : (stamp station : ℕ) (old new : Cabling) → IsFineOn old → IsFineTaking stamp station old new → IsFineOn new
  fine_taken stamp station old new a x =
      subst (λ s. AreFine IsToldOf s (transcript new)) (sym x.seats)
      (subst (AreFine IsToldOf old.seats) (sym x.grown) (fine_after IsToldOf old.seats (transcript old) (Took stamp station ∷ x.rest) a (tt, x.fine)))

  taking_then : (stamp station : ℕ) (a b c : Cabling) → IsFineTaking stamp station a b → IsFineStep b c → IsFineTaking stamp station a c
  taking_then stamp station a b c x y =
      let whole = append_assoc (transcript a) (Took stamp station ∷ []) x.rest in
      record {
        rest = x.rest ++ y.added;
        grown = y.grown ∙ (ap (λ l. l ++ y.added) x.grown ∙ append_assoc (transcript a) (Took stamp station ∷ x.rest) y.added);
        fine = each-append (IsFineEntry IsToldOf) x.rest y.added x.fine y.fine;
        calm = λ l.
            calm-append (transcript a ++ Took stamp station ∷ []) x.rest y.added (x.calm l)
            (subst (λ t. are_calm t y.added ≡ true) (x.grown ∙ sym whole) (y.calm l));
        seats = y.seats ∙ x.seats;
      }

  -- a frame is taken, by a station that answers what is fine by what is plain
  pub takes_step : (stamp station ports : ℕ) (Hears : Hearing → List Output → Type 0) (old new : Wires) → (Lossless → IsLossless old)
      → IsFineOn old.cabling → TakesIn stamp station ports Hears old new
      → ((p : Pair) (added : List Output) → Contains (pending_on old.cabling) p → p.frame.stamp ≡ stamp → p.seat.station ≡ station
      → Hears (heard_by p) added → Each IsPlainOutput added)
      → IsFineTaking stamp station old.cabling new.cabling
  takes_step stamp station ports Hears old new none a (room, mid, taken, lost, maps, stays) plain =
      let took = taken.took in
      let t = transcript old.cabling ++ Took stamp station ∷ [] in
      let first : IsFineTaking stamp station old.cabling taken.taken = record {
        rest = took.told;
        grown = took.entries.added;
        fine =
            outs_fine IsToldOf Holds station places_of old.cabling.seats t took.added (knowing old station) took.told took.bytes taken.after
            (plain took.pair took.added took.was_pending took.of_stamp took.of_station took.heard) took.out;
        calm = λ l. out_calm Holds station places_of old.cabling.seats t took.added (knowing old station) took.told took.bytes taken.after took.out;
        seats = took.entries.seats;
      } in
      taking_then stamp station old.cabling mid.0 new.cabling
      (taking_then stamp station old.cabling taken.taken mid.0 first
      (told_fine old.cabling.seats station taken.answer (taken.taken, taken.after.maps) (mid.0, mid.1.maps)
      (fine_taken stamp station old.cabling taken.taken a first) taken.told))
      (lost_step _ mid.0 new.cabling (λ l. no_losses (loses_by old.losing) (none l) (drop (length old.cabling.lines) (transcript mid.0))) lost)

-- ---- What goes to all stations of a cable is held for nobody

-- an output is an AARP frame, or goes to all stations of a cable
abbrev pub IsToAll : Output → Type 0
IsToAll (output.Made port to bytes) = to ≡ next.All
IsToAll _ = Unit {0}

sent_same : (s : Seat) (to : Next) (bytes : List ℕ) (old new : Cabling) (k l : Knowing) → to ≡ next.All
    → IsSent places_of Holds old new s.cable s.station to bytes k l → l ≡ k
sent_same s to bytes old new k l all h = by (subst (λ z. IsSent places_of Holds old new s.cable s.station z bytes k l) all h)
  where
    by : IsSent places_of Holds old new s.cable s.station next.All bytes k l → l ≡ k
    by g = g.held.2

one_same : (station : ℕ) (o : Output) (old new : Cabling × Knowing) → IsToAll o → IsGiven station o old new → new.1 ≡ old.1
one_same station (output.Made port to bytes) old new all h = by (option_and_then (slice_get old.1.seats) (seat_by old.1.seats station port)) h
  where
    by : (o : Option Seat)
        → (elim o as (λ o. Type 0) [ None ↦ (new.0 ≡ old.0) × (new.1 ≡ old.1) | Some s ↦ IsMade s to bytes old new ]) → new.1 ≡ old.1
    by None g = g.1
    by (Some s) (inr g) = g.1
    by (Some s) (inl g) = sent_same s to bytes old.0 new.0 old.1 new.1 all g
one_same station (output.Wire port to bytes) old new all h = by (option_and_then (slice_get old.1.seats) (seat_by old.1.seats station port)) h
  where
    by : (o : Option Seat)
        → (elim o as (λ o. Type 0) [ None ↦ (new.0 ≡ old.0) × (new.1 ≡ old.1) | Some s ↦ IsPut s to Aarp bytes old.0 new.0 × (new.1 ≡ old.1) ])
        → new.1 ≡ old.1
    by None g = g.1
    by (Some s) g = g.1
one_same station (output.Passed port to bytes) old new all h = h.1
one_same station (output.Kept port bytes) old new all h = h.1
one_same station (output.Dropped cause bytes) old new all h = h.1

all_same : (station : ℕ) (os : List Output) (old new : Cabling × Knowing) → Each IsToAll os → AreGiven station os old new → new.1 ≡ old.1
all_same station [] old new all h = h.1
all_same station (o ∷ os) old new all (mid, one, rest) = all_same station os mid new all.1 rest ∙ one_same station o old mid all.0 one

-- outputs to all stations leave the mappings, and what is held, as they are
pub gives_same : (station : ℕ) (os : List Output) (old new : Wires) → Each IsToAll os → GivesOut station os old new → new.maps ≡ old.maps
gives_same station os old new all (mid, given, lost, maps, stays) =
    maps ∙ ap (λ (k : Knowing). k.maps) (all_same station os (old.cabling, knowing old station) mid all given)
