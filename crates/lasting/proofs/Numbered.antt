-- What calls of live cables add keeps frames numbered.
use Rattle.std.proofs.Common.{◌≡◌, inl, inr, ℕ, zero, suc, ◌<◌, Bool, true, ◌==◌, List, [], ◌∷◌, ◌++◌, drop}
use Rattle.std.proofs.Common.{Option, Some, None, refl, sym, ap, ◌∙◌, subst, slice_get, append-nil, append_assoc, arith, eq-eqb, length}
use Rattle.std.specs.List.{list_any}
use Rattle.std.specs.Prelude.{option_and_then}
use Rattle.std.proofs.lemmas.Bool.{or_left, or_right}
use Rattle.at_base.specs.Multicast.{all_hw}
use Rattle.at_base.specs.declared.address.Addr.{Addr}
use Rattle.at_base.specs.declared.address.Hw.{Hw}
use Rattle.aarp.specs.Mapping.{Mappings}
use Rattle.cable_model.proofs.Counting.{contained_at}
use Rattle.cable_model.proofs.Stamps.{next_after, put_below}
use Rattle.cable_model.specs.Logs.{Adds, Cabling, transcript}
use Rattle.cable_model.specs.Outcomes.{sent_entries}
use Rattle.cable_model.specs.Outgoing.{IsSent}
use Rattle.cable_model.specs.Holdings.{released_frame}
use Rattle.cable_model.specs.Transcript.{Entry, Sent, Took, Lost, has_put, next_stamp}
use Rattle.cable_model.specs.declared.seat.Seat.{Seat}
use Rattle.ddp.specs.Bodies.{body}
use Rattle.lasting.proofs.Numbering.{AreCounted, AreNext, all_counted, leg_next, let_go_next, next-append, outs_next, released_next, waits_next}
use Rattle.live_cables.proofs.Pending.{put_of_pending}
use Rattle.live_cables.proofs.Played.{losses_put}
use Rattle.live_cables.specs.Finding.{Knowing, places_of, seat_by}
use Rattle.live_cables.specs.Holding.{AreReleased, AreShed, Holds, IsLearntBy, IsReleased, IsTold}
use Rattle.live_cables.specs.Living.{GivesOut, PassesFor, TakesIn, Wires, knowing}
use Rattle.live_cables.specs.Playing.{is_in}
use Rattle.live_cables.specs.Putting.{AreAsked, AreGiven, IsAsked, IsGiven, IsMade, IsPut}
use Rattle.live_cables.specs.Steps.{AreLossesOf, Loses, loses_by, losses_since}
use Rattle.live_cables.specs.declared.answer.Answer.{Answer}
use Rattle.station.specs.Hearing.{Hearing}
use Rattle.station.specs.declared.heard.Kind.{Kind}
use Rattle.station.specs.declared.heard.Kind.TheVariants.{Aarp}
use Rattle.station.specs.declared.output.Next.{Next}
use Rattle.station.specs.declared.output.Output.{Output}
use Rattle.station.specs.declared.output.Output.TheVariants as output

-- Entries were added that keep frames numbered.
pub record IsCounting (old new : Cabling) : Type 0 where
  pub added : List Entry
  pub grown : transcript new ≡ transcript old ++ added
  pub follows : AreNext (transcript old) added
  pub seats : new.seats ≡ old.seats

counts_of : (old new : Cabling) (es : List Entry) → Adds old new es → AreNext (transcript old) es → IsCounting old new
counts_of old new es a h = record { added = es; grown = a.added; follows = h; seats = a.seats }

pub counts_same : (old new : Cabling) → new ≡ old → IsCounting old new
counts_same old new e =
    subst (IsCounting old) (sym e) (record { added = []; grown = sym (append-nil (transcript old)); follows = tt; seats = refl })

pub counts_then : (a b c : Cabling) → IsCounting a b → IsCounting b c → IsCounting a c
counts_then a b c x y = record {
  added = x.added ++ y.added;
  grown = y.grown ∙ (ap (λ l. l ++ y.added) x.grown ∙ append_assoc (transcript a) x.added y.added);
  follows = next-append (transcript a) x.added y.added x.follows (subst (λ t. AreNext t y.added) x.grown y.follows);
  seats = y.seats ∙ x.seats;
}

-- Frames that were numbered are so after it.
pub still_counted : (old new : Cabling) → AreCounted (transcript old) → IsCounting old new → AreCounted (transcript new)
still_counted old new h x = subst AreCounted (sym x.grown) (all_counted (transcript old) x.added h x.follows)

-- ---- What a station sends of its own

put_counts : (s : Seat) (to : Hw) (kind : Kind) (bytes : List ℕ) (old new : Cabling) → IsPut s to kind bytes old new → IsCounting old new
put_counts s to kind bytes old new (inl a) = counts_of old new _ a (inl refl, tt)
put_counts s to kind bytes old new (inr w) = counts_same old new w.0

sent_counts : (cable station : ℕ) (to : Next) (bytes : List ℕ) (old new : Cabling) (k l : Knowing)
    → IsSent places_of Holds old new cable station to bytes k l → IsCounting old new
sent_counts cable station to bytes old new k l h =
    let t = transcript old in
    let own = sent_entries (places_of k) old cable station to bytes in
    counts_of old new _ h.entries
    (next-append t own h.more (
      tt,
      leg_next (t ++ Sent station (body bytes) ∷ []) (record { stamp = next_stamp t; cable = cable; station = station })
          (next_after t (Sent station (body bytes))) (places_of k) to bytes,
    ) (waits_next Holds station (t ++ own) _ k h.more h.asks l h.held))

given_one : (station : ℕ) (o : Output) (old new : Cabling × Knowing) → IsGiven station o old new → IsCounting old.0 new.0
given_one station (output.Made port to bytes) old new h = by (option_and_then (slice_get old.1.seats) (seat_by old.1.seats station port)) h
  where
    by : (o : Option Seat)
        → (elim o as (λ o. Type 0) [ None ↦ (new.0 ≡ old.0) × (new.1 ≡ old.1) | Some s ↦ IsMade s to bytes old new ]) → IsCounting old.0 new.0
    by None g = counts_same old.0 new.0 g.0
    by (Some s) (inr g) = counts_same old.0 new.0 g.0
    by (Some s) (inl g) = sent_counts s.cable s.station to bytes old.0 new.0 old.1 new.1 g
given_one station (output.Wire port to bytes) old new h = by (option_and_then (slice_get old.1.seats) (seat_by old.1.seats station port)) h
  where
    by : (o : Option Seat)
        → (elim o as (λ o. Type 0) [ None ↦ (new.0 ≡ old.0) × (new.1 ≡ old.1) | Some s ↦ IsPut s to Aarp bytes old.0 new.0 × (new.1 ≡ old.1) ])
        → IsCounting old.0 new.0
    by None g = counts_same old.0 new.0 g.0
    by (Some s) g = put_counts s to Aarp bytes old.0 new.0 g.0
given_one station (output.Passed port to bytes) old new h = counts_same old.0 new.0 h.0
given_one station (output.Kept port bytes) old new h = counts_same old.0 new.0 h.0
given_one station (output.Dropped cause bytes) old new h = counts_same old.0 new.0 h.0

given_all : (station : ℕ) (os : List Output) (old new : Cabling × Knowing) → AreGiven station os old new → IsCounting old.0 new.0
given_all station [] old new h = counts_same old.0 new.0 h.0
given_all station (o ∷ os) old new (mid, one, rest) =
    counts_then old.0 mid.0 new.0 (given_one station o old mid one) (given_all station os mid new rest)

-- ---- Losses

all_lost : (t : List Entry) (ss : List ℕ) (es : List Entry) → AreLossesOf ss es → ((s : ℕ) → is_in ss s ≡ true → s < next_stamp t)
    → AreNext t es
all_lost t ss [] h low = tt
all_lost t [] (e ∷ es) h low = absurd h
all_lost t (s ∷ ss) (e ∷ es) (inl h) low =
    let first : is_in (s ∷ ss) s ≡ true = or_left (s == s) (is_in ss s) (eq-eqb s s refl) in
    let same : next_stamp (t ++ Lost s ∷ []) ≡ next_stamp t = next_after t (Lost s) in
    subst (λ z. AreNext t (z ∷ es)) (sym h.0) (
      low s first,
      all_lost (t ++ Lost s ∷ []) ss es h.1 (λ n there.
          let less = low n (or_right (s == n) (is_in ss n) there) in
          omega (arith, same, less)),
    )
all_lost t (s ∷ ss) (e ∷ es) (inr h) low = all_lost t ss (e ∷ es) h (λ n there. low n (or_right (s == n) (is_in ss n) there))

any_dropped : {X : Type 0} (p : X → Bool) (n : ℕ) (xs : List X) → list_any p (drop n xs) ≡ true → list_any p xs ≡ true
any_dropped p zero xs h = h
any_dropped p (suc n) [] h = cc
any_dropped p (suc n) (x ∷ xs) h = or_right (p x) (list_any p xs) (any_dropped p n xs h)

-- frames are lost that were put since
lost_counts : (losing : List Bool) (from : ℕ) (old new : Cabling) → Loses (losses_since losing from old) old new → IsCounting old new
lost_counts losing from old new h = record {
  added = h.added;
  grown = h.grown;
  follows =
      all_lost (transcript old) (losses_since losing from old) h.added h.losses
      (λ s there. put_below (transcript old) s
      (any_dropped (has_put s) from (transcript old) (losses_put (loses_by losing) (drop from (transcript old)) s there)));
  seats = h.seats;
}

-- a station's outputs are sent
pub gives_counts : (station : ℕ) (os : List Output) (old new : Wires) → GivesOut station os old new → IsCounting old.cabling new.cabling
gives_counts station os old new (mid, given, lost, maps, stays) =
    counts_then old.cabling mid.0 new.cabling (given_all station os (old.cabling, knowing old station) mid given)
    (lost_counts old.losing (length old.cabling.lines) mid.0 new.cabling lost)

-- ---- Requests

asked_one : (seat : Option Seat) (own : Option (Option Addr)) (a : Addr) (old new : Cabling) → IsAsked seat own a old new → IsCounting old new
asked_one None own a old new h = counts_same old new h
asked_one (Some s) own a old new (bytes, spelled, put) = put_counts s all_hw Aarp bytes old new put

asked_all : (seat : Option Seat) (own : Option (Option Addr)) (addrs : List Addr) (old new : Cabling) → AreAsked seat own addrs old new
    → IsCounting old new
asked_all seat own [] old new h = counts_same old new h
asked_all seat own (a ∷ more) old new (mid, one, rest) =
    counts_then old mid new (asked_one seat own a old mid one) (asked_all seat own more mid new rest)

shed_all : (ss : List ℕ) (old new : Cabling) → AreShed ss old new → IsCounting old new
shed_all [] old new h = counts_of old new [] h tt
shed_all (s ∷ ss) old new (mid, one, rest) =
    counts_then old mid new (counts_of old mid _ one (let_go_next (transcript old) (Some s))) (shed_all ss mid new rest)

-- the mappings of a seat pass a tick
pub passes_counts : (seat : ℕ) (old new : Wires) → PassesFor seat old new → IsCounting old.cabling new.cabling
passes_counts seat old new (asked, asks, lost, loses, sheds, maps, stays) =
    counts_then old.cabling asked new.cabling (asked_all _ _ _ old.cabling asked asks)
    (counts_then asked lost new.cabling (lost_counts old.losing (length old.cabling.lines) asked lost loses) (shed_all _ lost new.cabling sheds))

-- ---- Takings

released_one : (to : Hw) (stamp : Option ℕ) (old new : Cabling) → IsReleased to stamp old new → IsCounting old new
released_one to None old new h = counts_of old new [] h tt
released_one to (Some stamp) old new (inl (h, there, named, adds)) =
    counts_of old new _ adds (released_next (transcript old) (released_frame h to) h there refl)
released_one to (Some stamp) old new (inr (none, adds)) = counts_of old new [] adds tt

released_all : (to : Hw) (ss : List (Option ℕ)) (old new : Cabling) → AreReleased to ss old new → IsCounting old new
released_all to [] old new h = counts_of old new [] h tt
released_all to (s ∷ ss) old new (mid, one, rest) =
    counts_then old mid new (released_one to s old mid one) (released_all to ss mid new rest)

learnt_counts : (i : Option ℕ) (answer : Answer) (old new : Cabling × List Mappings) → IsLearntBy i answer old new → IsCounting old.0 new.0
learnt_counts None answer old new h = counts_of old.0 new.0 [] h.0 tt
learnt_counts (Some i) answer old new h = released_all answer.source_hw _ old.0 new.0 h.0

told_counts : (seats : List Seat) (station : ℕ) (answer : Option Answer) (old new : Cabling × List Mappings)
    → IsTold seats station answer old new → IsCounting old.0 new.0
told_counts seats station None old new h = counts_of old.0 new.0 [] h.0 tt
told_counts seats station (Some answer) old new h = learnt_counts (seat_by seats station answer.port) answer old new h

-- a station takes a frame
pub takes_counts : (stamp station ports : ℕ) (Hears : Hearing → List Output → Type 0) (old new : Wires)
    → TakesIn stamp station ports Hears old new → IsCounting old.cabling new.cabling
takes_counts stamp station ports Hears old new (room, mid, taken, lost, maps, stays) =
    let took = taken.took in
    let t = transcript old.cabling in
    let there = contained_at _ took.pair took.was_pending in
    let low : stamp < next_stamp t =
    subst (λ n. n < next_stamp t) took.of_stamp
    (put_below t took.pair.frame.stamp (put_of_pending old.cabling.seats t took.pair there)) in
    let first : IsCounting old.cabling taken.taken =
    counts_of old.cabling taken.taken _ took.entries (
      low,
      outs_next Holds station places_of old.cabling.seats (t ++ Took stamp station ∷ []) took.added (knowing old station) took.told took.bytes
          taken.after took.out,
    ) in
    counts_then old.cabling mid.0 new.cabling
    (counts_then old.cabling taken.taken mid.0 first
    (told_counts old.cabling.seats station taken.answer (taken.taken, taken.after.maps) (mid.0, mid.1.maps) taken.told))
    (lost_counts old.losing (length old.cabling.lines) mid.0 new.cabling lost)
