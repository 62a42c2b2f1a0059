-- What calls of live cables add to a transcript is honest.
use Rattle.std.proofs.Common.{◌≡◌, inl, inr, ℕ, List, [], ◌∷◌, ◌++◌, Option, Some, None, refl, sym, ap, ◌∙◌, subst, slice_get}
use Rattle.std.proofs.Common.{append-nil, append_assoc}
use Rattle.std.specs.Prelude.{option_and_then}
use Rattle.std.specs.List.{AllByRecursion as Each}
use Rattle.aarp.specs.Mapping.{Mappings}
use Rattle.at_base.specs.Multicast.{all_hw}
use Rattle.at_base.specs.declared.address.Addr.{Addr}
use Rattle.at_base.specs.declared.address.Hw.{Hw}
use Rattle.cable_model.proofs.Counting.{each-append}
use Rattle.cable_model.specs.Logs.{Adds, Cabling, transcript}
use Rattle.cable_model.specs.Outcomes.{sent_entries, held_next}
use Rattle.cable_model.specs.Outgoing.{IsSent}
use Rattle.cable_model.specs.Transcript.{Entry, Took, next_stamp}
use Rattle.cable_model.specs.declared.seat.Seat.{Seat}
use Rattle.lasting.proofs.Honest.{AreHonest, IsHonestAt, IsHonestEntry, IsHonestOutput, IsUnwired, no_packet, gone_honest, honest_after, leg_honest}
use Rattle.lasting.proofs.Honest.{outs_honest, request_honest, waits_honest}
use Rattle.live_cables.specs.Finding.{Knowing, places_of, seat_by}
use Rattle.live_cables.specs.Holding.{AreReleased, AreShed, Holds, IsLearntBy, IsReleased, IsTold}
use Rattle.live_cables.specs.Living.{GivesOut, PassesFor, TakesIn, Wires, knowing}
use Rattle.live_cables.specs.Putting.{AreAsked, AreGiven, IsAsked, IsGiven, IsMade, IsPut}
use Rattle.live_cables.specs.Steps.{AreLossesOf, Loses}
use Rattle.live_cables.specs.declared.answer.Answer.{Answer}
use Rattle.station.specs.Hearing.{Hearing}
use Rattle.station.specs.declared.heard.Kind.TheVariants.{Aarp}
use Rattle.station.specs.declared.output.Next.{Next}
use Rattle.station.specs.declared.output.Output.{Output}
use Rattle.station.specs.declared.output.Output.TheVariants as output

module _ (Tells : ℕ → Addr → Hw → Type 0) where
  -- honest entries were added, and the seats stay
  pub record IsHonestStep (old new : Cabling) : Type 0 where
    pub added : List Entry
    pub grown : transcript new ≡ transcript old ++ added
    pub honest : Each (IsHonestEntry Tells) added
    pub seats : new.seats ≡ old.seats

  -- a step that adds honest entries
  step_of : (old new : Cabling) (es : List Entry) → Adds old new es → Each (IsHonestEntry Tells) es → IsHonestStep old new
  step_of old new es a h = record { added = es; grown = a.added; honest = h; seats = a.seats }

  -- a step that changes nothing
  step_same : (old new : Cabling) → new ≡ old → IsHonestStep old new
  step_same old new e =
      subst (IsHonestStep old) (sym e) (record { added = []; grown = sym (append-nil (transcript old)); honest = tt; seats = refl })

  -- two steps, one after the other
  step_then : (a b c : Cabling) → IsHonestStep a b → IsHonestStep b c → IsHonestStep a c
  step_then a b c x y = record {
    added = x.added ++ y.added;
    grown = y.grown ∙ (ap (λ l. l ++ y.added) x.grown ∙ append_assoc (transcript a) x.added y.added);
    honest = each-append (IsHonestEntry Tells) x.added y.added x.honest y.honest;
    seats = y.seats ∙ x.seats;
  }

  -- what is pending on the cables is honest
  abbrev pub IsHonestOn : Cabling → Type 0
  IsHonestOn c = AreHonest Tells c.seats (transcript c)

  -- such a step leaves it so
  pub honest_then : (old new : Cabling) → IsHonestOn old → IsHonestStep old new → IsHonestOn new
  honest_then old new a x =
      subst (λ s. AreHonest Tells s (transcript new)) (sym x.seats)
      (subst (AreHonest Tells old.seats) (sym x.grown) (honest_after Tells old.seats (transcript old) x.added a x.honest))

  -- ---- What a station sends of its own

  -- a datagram that a station sends is honest, whatever is held for it
  sent_step : (s : Seat) (to : Next) (bytes : List ℕ) (old new : Cabling) (k l : Knowing)
      → IsSent places_of Holds old new s.cable s.station to bytes k l → IsHonestStep old new
  sent_step s to bytes old new k l h =
      step_of old new _ h.entries
      (each-append (IsHonestEntry Tells) (sent_entries (places_of k) old s.cable s.station to bytes) h.more
      (tt, leg_honest Tells (places_of k) (record { stamp = next_stamp (transcript old); cable = s.cable; station = s.station }) to bytes)
      (waits_honest Tells s.station (transcript old ++ sent_entries (places_of k) old s.cable s.station to bytes)
      (held_next (places_of k) s.cable to bytes) k h.more h.asks l h.held))

  -- one output that is no AARP frame
  given_one : (station : ℕ) (o : Output) (old new : Cabling × Knowing) → IsUnwired o → IsGiven station o old new → IsHonestStep old.0 new.0
  given_one station (output.Made port to bytes) old new p h =
      by (option_and_then (slice_get old.1.seats) (seat_by old.1.seats station port)) h
    where
      by : (o : Option Seat)
          → (elim o as (λ o. Type 0) [ None ↦ (new.0 ≡ old.0) × (new.1 ≡ old.1) | Some s ↦ IsMade s to bytes old new ])
          → IsHonestStep old.0 new.0
      by None g = step_same old.0 new.0 g.0
      by (Some s) (inr g) = step_same old.0 new.0 g.0
      by (Some s) (inl g) = sent_step s to bytes old.0 new.0 old.1 new.1 g
  given_one station (output.Wire port to bytes) old new p h = absurd p
  given_one station (output.Passed port to bytes) old new p h = step_same old.0 new.0 h.0
  given_one station (output.Kept port bytes) old new p h = step_same old.0 new.0 h.0
  given_one station (output.Dropped cause bytes) old new p h = step_same old.0 new.0 h.0

  -- and several of them
  given_all : (station : ℕ) (os : List Output) (old new : Cabling × Knowing) → Each IsUnwired os → AreGiven station os old new
      → IsHonestStep old.0 new.0
  given_all station [] old new p h = step_same old.0 new.0 h.0
  given_all station (o ∷ os) old new p (mid, one, rest) =
      step_then old.0 mid.0 new.0 (given_one station o old mid p.0 one) (given_all station os mid new p.1 rest)

  -- ---- Losses

  -- losses are honest
  losses_honest : (ss : List ℕ) (es : List Entry) → AreLossesOf ss es → Each (IsHonestEntry Tells) es
  losses_honest ss [] h = tt
  losses_honest [] (e ∷ es) h = absurd h
  losses_honest (s ∷ ss) (e ∷ es) (inl h) = (subst (IsHonestEntry Tells) (sym h.0) tt, losses_honest ss es h.1)
  losses_honest (s ∷ ss) (e ∷ es) (inr h) = losses_honest ss (e ∷ es) h

  -- so is a step that adds them
  lost_step : (ss : List ℕ) (old new : Cabling) → Loses ss old new → IsHonestStep old new
  lost_step ss old new h =
      record { added = h.added; grown = h.grown; honest = losses_honest ss h.added h.losses; seats = h.seats }

  -- outputs are given out
  pub gives_step : (station : ℕ) (os : List Output) (old new : Wires) → Each IsUnwired os → GivesOut station os old new
      → IsHonestStep old.cabling new.cabling
  gives_step station os old new p (mid, given, lost, maps, stays) =
      step_then old.cabling mid.0 new.cabling (given_all station os (old.cabling, knowing old station) mid p given)
      (lost_step _ mid.0 new.cabling lost)

  -- ---- Requests

  -- a frame is put with an honest packet
  put_step : (s : Seat) (to : Hw) (bytes : List ℕ) (old new : Cabling) → IsHonestAt Tells s.cable bytes → IsPut s to Aarp bytes old new
      → IsHonestStep old new
  put_step s to bytes old new h (inl a) = step_of old new _ a (λ e. h, tt)
  put_step s to bytes old new h (inr w) = step_same old new w.0

  -- a request for an address
  asked_one : (seat : Option Seat) (own : Option (Option Addr)) (a : Addr) (old new : Cabling) → IsAsked seat own a old new → IsHonestStep old new
  asked_one None own a old new h = step_same old new h
  asked_one (Some s) own a old new (bytes, spelled, put) =
      put_step s all_hw bytes old new (request_honest Tells s.cable bytes s.hw _ a spelled) put

  -- requests for several addresses
  asked_all : (seat : Option Seat) (own : Option (Option Addr)) (addrs : List Addr) (old new : Cabling) → AreAsked seat own addrs old new
      → IsHonestStep old new
  asked_all seat own [] old new h = step_same old new h
  asked_all seat own (a ∷ more) old new (mid, one, rest) =
      step_then old mid new (asked_one seat own a old mid one) (asked_all seat own more mid new rest)

  -- datagrams that are given up
  shed_all : (ss : List ℕ) (old new : Cabling) → AreShed ss old new → IsHonestStep old new
  shed_all [] old new h = step_of old new [] h tt
  shed_all (s ∷ ss) old new (mid, one, rest) =
      step_then old mid new (step_of old mid _ one (gone_honest Tells (transcript old) (Some s))) (shed_all ss mid new rest)

  -- the mappings of a seat pass a tick
  pub passes_step : (seat : ℕ) (old new : Wires) → PassesFor seat old new → IsHonestStep old.cabling new.cabling
  passes_step seat old new (asked, asks, lost, loses, sheds, maps, stays) =
      step_then old.cabling asked new.cabling (asked_all _ _ _ old.cabling asked asks)
      (step_then asked lost new.cabling (lost_step _ asked lost loses) (shed_all _ lost new.cabling sheds))

  -- ---- Takings

  -- the frame of a datagram that was held
  released_one : (to : Hw) (stamp : Option ℕ) (old new : Cabling) → IsReleased to stamp old new → IsHonestStep old new
  released_one to None old new h = step_of old new [] h tt
  released_one to (Some stamp) old new (inl (h, there, named, adds)) = step_of old new _ adds (λ e. no_packet Tells h.cable h.bytes e, tt)
  released_one to (Some stamp) old new (inr (none, adds)) = step_of old new [] adds tt

  -- those of several
  released_all : (to : Hw) (ss : List (Option ℕ)) (old new : Cabling) → AreReleased to ss old new → IsHonestStep old new
  released_all to [] old new h = step_of old new [] h tt
  released_all to (s ∷ ss) old new (mid, one, rest) =
      step_then old mid new (released_one to s old mid one) (released_all to ss mid new rest)

  -- a response is learnt
  learnt_step : (i : Option ℕ) (answer : Answer) (old new : Cabling × List Mappings) → IsLearntBy i answer old new → IsHonestStep old.0 new.0
  learnt_step None answer old new h = step_of old.0 new.0 [] h.0 tt
  learnt_step (Some i) answer old new h = released_all answer.source_hw _ old.0 new.0 h.0

  -- a station is told of a response, if there is one
  told_step : (seats : List Seat) (station : ℕ) (answer : Option Answer) (old new : Cabling × List Mappings) → IsTold seats station answer old new
      → IsHonestStep old.0 new.0
  told_step seats station None old new h = step_of old.0 new.0 [] h.0 tt
  told_step seats station (Some answer) old new h = learnt_step (seat_by seats station answer.port) answer old new h

  -- a frame is taken, by a station whose outputs are honest
  pub takes_step : (stamp station ports : ℕ) (Hears : Hearing → List Output → Type 0) (old new : Wires) → (h : TakesIn stamp station ports Hears old new)
      → Each (IsHonestOutput Tells old.cabling.seats station) h.2.took.added → IsHonestStep old.cabling new.cabling
  takes_step stamp station ports Hears old new (room, mid, taken, lost, maps, stays) honest =
      let took = taken.took in
      let first : IsHonestStep old.cabling taken.taken =
      step_of old.cabling taken.taken _ took.entries (
        tt,
        outs_honest Tells old.cabling.seats station (transcript old.cabling ++ Took stamp station ∷ []) took.added (knowing old station) took.told
            took.bytes taken.after honest took.out,
      ) in
      step_then old.cabling mid.0 new.cabling
      (step_then old.cabling taken.taken mid.0 first
      (told_step old.cabling.seats station taken.answer (taken.taken, taken.after.maps) (mid.0, mid.1.maps) taken.told))
      (lost_step _ mid.0 new.cabling lost)
