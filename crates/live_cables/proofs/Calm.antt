-- Entries that end no pair.
use Rattle.std.proofs.Common.{◌≡◌, ℕ, zero, suc, ◌+◌, Bool, true, false, not, ◌||◌, ◌&&◌, cond, List, [], ◌∷◌, ◌++◌}
use Rattle.std.proofs.Common.{Option, Some, None, refl, sym, ap, ◌∙◌, subst, append-nil, append_assoc, eqb-true}
use Rattle.std.specs.List.{list_all, list_any}
use Rattle.std.proofs.lemmas.Bool.{and_parts, not-true}
use Rattle.std.proofs.lemmas.List.Folds.{list_all-append}
use Rattle.at_base.specs.Address.{same_address}
use Rattle.at_base.specs.declared.address.Addr.{Addr}
use Rattle.ddp.specs.Bodies.{target}
use Rattle.cable_model.specs.Holdings.{has_number, holds, is_open, releases, still_held, was_released}
use Rattle.cable_model.specs.Logs.{Adds, Cabling, transcript}
use Rattle.cable_model.specs.Outcomes.{Held, Places, Sender, all_entries, entries_of, leg, sender_by, sent_entries, to_other, to_target}
use Rattle.cable_model.specs.Outgoing.{GoOut, IsHeldBy, IsSent, IsTaken, asked, held_entry, let_go, losses}
use Rattle.cable_model.specs.Transcript.{Entry, Holding, Sent, Put, Took, Reached, Dropped, Lost, Hold, next_stamp, stamps}
use Rattle.cable_model.specs.declared.resolve.Found.{Found}
use Rattle.cable_model.specs.declared.resolve.Found.TheVariants.{At, Nobody, Later}
use Rattle.cable_model.specs.declared.resolve.HeldBy.{HeldBy}
use Rattle.cable_model.specs.declared.seat.Seat.{Seat}
use Rattle.cable_model.proofs.Counting.{At as IsAt, any-append, filter_at}
use Rattle.cable_model.proofs.Stamps.{holds-append}
use Rattle.station.specs.Hearing.{Hearing}
use Rattle.station.specs.declared.output.Next.{Next}
use Rattle.station.specs.declared.output.Next.TheVariants as next
use Rattle.station.specs.declared.output.Output.{Output}
use Rattle.station.specs.declared.output.Output.TheVariants as output
use Rattle.live_cables.proofs.Pending.{Has, any_has, both, has_any, has_kept}
use Rattle.live_cables.specs.Steps.{Puts, Takes, are_calm, is_calm}

-- ---- Entries that end no pair

-- One entry that ends no pair.
pub one_calm : (t : List Entry) (e : Entry) → is_calm t e ≡ true → are_calm t (e ∷ []) ≡ true
one_calm t e h = both (is_calm t e) true h refl

-- Entries that end no pair, in two parts.
pub calm-append : (t a b : List Entry) → are_calm t a ≡ true → are_calm (t ++ a) b ≡ true → are_calm t (a ++ b) ≡ true
calm-append t [] b h g = subst (λ l. are_calm l b ≡ true) (append-nil t) g
calm-append t (e ∷ a) b h g =
    let parts = and_parts (is_calm t e) (are_calm (t ++ e ∷ []) a) h in
    both (is_calm t e) (are_calm (t ++ e ∷ []) (a ++ b)) parts.0
    (calm-append (t ++ e ∷ []) a b parts.1 (subst (λ l. are_calm l b ≡ true) (sym (append_assoc t (e ∷ []) a)) g))

-- The entry is neither a take nor a loss.
abbrev pub is_quiet : Entry → Bool
is_quiet (Took stamp station) = false
is_quiet (Lost stamp) = false
is_quiet _ = true

-- None of the entries is a take or a loss.
abbrev pub are_quiet : List Entry → Bool
are_quiet es = list_all is_quiet es

pub quiet-append : (a b : List Entry) → are_quiet a ≡ true → are_quiet b ≡ true → are_quiet (a ++ b) ≡ true
quiet-append a b x y = list_all-append is_quiet a b ∙ (ap (λ t. t && are_quiet b) x ∙ y)

-- Entries without takes and losses end no pair, whatever was before.
pub quiet_calm : (t es : List Entry) → are_quiet es ≡ true → are_calm t es ≡ true
quiet_calm t [] h = refl
quiet_calm t (Sent s x ∷ es) h = quiet_calm (t ++ Sent s x ∷ []) es h
quiet_calm t (Put f ∷ es) h = quiet_calm (t ++ Put f ∷ []) es h
quiet_calm t (Reached c s w x ∷ es) h = quiet_calm (t ++ Reached c s w x ∷ []) es h
quiet_calm t (Dropped r c x ∷ es) h = quiet_calm (t ++ Dropped r c x ∷ []) es h
quiet_calm t (Hold d ∷ es) h = quiet_calm (t ++ Hold d ∷ []) es h
quiet_calm t (Took p s ∷ es) h = cc
quiet_calm t (Lost p ∷ es) h = cc

-- ---- Datagrams that are still held

-- The first part of a list is in the list.
has_front : {X : Type 0} (xs ys : List X) (k : ℕ) (x : X) → IsAt xs k x → IsAt (xs ++ ys) k x
has_front [] ys k x h = cc
has_front (y ∷ xs) ys zero x h = h
has_front (y ∷ xs) ys (suc k) x h = has_front xs ys k x h

-- A held datagram is still held after entries that neither put nor lose it.
pub open_after : (t es : List Entry) (stamp : ℕ) → list_any (releases stamp) es ≡ false → is_open t stamp ≡ true
    → is_open (t ++ es) stamp ≡ true
open_after t es stamp none h =
    let w = any_has (has_number stamp) (still_held t) h in
    let d = w.0 in
    let kept = filter_at (λ d. not (was_released t d)) (holds t) w.1.0 d w.1.1 in
    let named : stamp ≡ d.stamp = eqb-true stamp d.stamp w.2 in
    let there : Has (holds (t ++ es)) d =
    (kept.0, subst (λ l. IsAt l kept.0 d) (sym (holds-append t es)) (has_front (holds t) (holds es) kept.0 d kept.1)) in
    let free : was_released (t ++ es) d ≡ false =
    any-append (releases d.stamp) t es
    ∙ (ap (λ b. b || list_any (releases d.stamp) es) (not-true (was_released t d) kept.2)
    ∙ subst (λ s. list_any (releases s) es ≡ false) named none) in
    has_any (has_number stamp) (still_held (t ++ es)) d
    (has_kept (λ d. not (was_released (t ++ es) d)) (holds (t ++ es)) d there (ap not free)) w.2

-- The loss of what is let go ends no pair, if it is still held then.
if_open_calm : (t u : List Entry) (shed : Option ℕ) → ((stamp : ℕ) → is_open t stamp ≡ true → is_open u stamp ≡ true)
    → are_calm u (let_go t shed) ≡ true
if_open_calm t u None stays = refl
if_open_calm t u (Some stamp) stays = by (is_open t stamp) refl
  where
    by : (b : Bool) → is_open t stamp ≡ b → are_calm u (losses (cond b (Some stamp) None)) ≡ true
    by true e = one_calm u (Lost stamp) (stays stamp e)
    by false e = refl

-- The loss of what is let go ends no pair.
pub let_go_calm : (t : List Entry) (shed : Option ℕ) → are_calm t (let_go t shed) ≡ true
let_go_calm t shed = if_open_calm t t shed (λ stamp e. e)

-- What is let go is still held after a datagram was held.
let_go_later : (t : List Entry) (d : Holding) (shed : Option ℕ) → are_calm (t ++ Hold d ∷ []) (let_go t shed) ≡ true
let_go_later t d shed = if_open_calm t (t ++ Hold d ∷ []) shed (λ stamp e. open_after t (Hold d ∷ []) stamp refl e)

-- ---- The outputs of a station

target_quiet : (s : Sender) (bytes : List ℕ) (f : Found) → are_quiet (to_target s bytes f) ≡ true
target_quiet s bytes (At hw) = refl
target_quiet s bytes Nobody = refl
target_quiet s bytes Later = refl

other_quiet : (s : Sender) (bytes : List ℕ) (f : Found) → are_quiet (to_other s bytes f) ≡ true
other_quiet s bytes (At hw) = refl
other_quiet s bytes Nobody = refl
other_quiet s bytes Later = refl

either_quiet : (b : Bool) (xs ys : List Entry) → are_quiet xs ≡ true → are_quiet ys ≡ true → are_quiet (cond b xs ys) ≡ true
either_quiet true xs ys x y = x
either_quiet false xs ys x y = y

pub leg_quiet : (places : Places) (s : Sender) (to : Next) (bytes : List ℕ) → are_quiet (leg places s to bytes) ≡ true
leg_quiet places s (next.Station a) bytes =
    either_quiet (same_address (target bytes) a) (to_target s bytes (places.finds s.cable a)) (to_other s bytes (places.finds s.cable a))
    (target_quiet s bytes (places.finds s.cable a)) (other_quiet s bytes (places.finds s.cable a))
leg_quiet places s next.All bytes = either_quiet (places.lists (target bytes).net) _ _ refl refl
leg_quiet places s (next.Group g) bytes = refl

output_quiet : (places : Places) (seats : List Seat) (station stamp : ℕ) (o : Output)
    → are_quiet (entries_of places seats station stamp o) ≡ true
output_quiet places seats station stamp (output.Made port to bytes) = leg_quiet places (sender_by seats station stamp port) to bytes
output_quiet places seats station stamp (output.Passed port to bytes) = leg_quiet places (sender_by seats station stamp port) to bytes
output_quiet places seats station stamp (output.Kept port bytes) = refl
output_quiet places seats station stamp (output.Dropped cause bytes) = refl
output_quiet places seats station stamp (output.Wire port to bytes) = refl

pub outputs_quiet : (places : Places) (seats : List Seat) (station stamp : ℕ) (os : List Output)
    → are_quiet (all_entries places seats station stamp os) ≡ true
outputs_quiet places seats station stamp [] = refl
outputs_quiet places seats station stamp (o ∷ os) =
    quiet-append (entries_of places seats station stamp o) _ (output_quiet places seats station stamp o)
    (outputs_quiet places seats station (stamp + stamps (entries_of places seats station stamp o)) os)

pub sending_quiet : (places : Places) (c : Cabling) (cable station : ℕ) (to : Next) (bytes : List ℕ)
    → are_quiet (sent_entries places c cable station to bytes) ≡ true
sending_quiet places c cable station to bytes =
    leg_quiet places (record { stamp = next_stamp (transcript c); cable = cable; station = station }) to bytes

asked_quiet : (s : Sender) (ask : Option (List ℕ)) → are_quiet (asked s ask) ≡ true
asked_quiet s None = refl
asked_quiet s (Some bytes) = refl

module _ {X : Type 0} (Holds : X → ℕ → Addr → ℕ → HeldBy → X → Type 0) (station : ℕ) where
  -- The entries of a datagram that is held end no pair.
  pub held_calm : (t : List Entry) (ws : List Held) (x : X) (es : List Entry) (ks : List (List ℕ)) (y : X)
      → IsHeldBy Holds station t ws x es ks y → are_calm t es ≡ true
  held_calm t [] x es ks y h = subst (λ l. are_calm t l ≡ true) (sym h.0) refl
  held_calm t (w ∷ ws) x es ks y h =
      let by = h.0 in
      let first = held_entry (next_stamp t) station w in
      let ask = asked (record { stamp = suc (next_stamp t); cable = w.cable; station = station }) by.ask in
      subst (λ l. are_calm t l ≡ true) (sym h.2)
      (calm-append (t ++ first ∷ []) (let_go t by.shed) ask
      (let_go_later t (record { stamp = next_stamp t; cable = w.cable; station = station; next = w.next; bytes = w.bytes }) by.shed)
      (quiet_calm ((t ++ first ∷ []) ++ let_go t by.shed) ask
      (asked_quiet (record { stamp = suc (next_stamp t); cable = w.cable; station = station }) by.ask)))

  module _ (places : X → Places) (seats : List Seat) where
    -- What goes out ends no pair.
    pub out_calm : (t : List Entry) (os : List Output) (x : X) (es : List Entry) (ks : List (List ℕ)) (y : X)
        → GoOut places Holds seats station t os x es ks y → are_calm t es ≡ true
    out_calm t [] x es ks y h = subst (λ l. are_calm t l ≡ true) (sym h.0) refl
    out_calm t (o ∷ os) x es ks y (first, rest, bytes, others, z, step, onward, split, stored) =
        let own = entries_of (places x) seats station (next_stamp t) o in
        let here : are_calm t first ≡ true =
        subst (λ l. are_calm t l ≡ true) (sym step.entries)
        (calm-append t own step.more (quiet_calm t own (output_quiet (places x) seats station (next_stamp t) o))
        (held_calm (t ++ own) _ x step.more step.asks z step.held)) in
        subst (λ l. are_calm t l ≡ true) (sym split) (calm-append t first rest here (out_calm (t ++ first) os z rest others y onward))

-- ---- Steps

pub puts_of : (old new : Cabling) (es : List Entry) → Adds old new es → are_calm (transcript old) es ≡ true → Puts old new
puts_of old new es x calm = record { added = es; grown = x.added; calm = calm; seats = x.seats; limit = x.limit }

pub puts_same : (old new : Cabling) → new ≡ old → Puts old new
puts_same old new e = subst (Puts old) (sym e)
    (record { added = []; grown = sym (append-nil (transcript old)); calm = refl; seats = refl; limit = refl })

pub puts_then : (a b c : Cabling) → Puts a b → Puts b c → Puts a c
puts_then a b c x y = record {
  added = x.added ++ y.added;
  grown = y.grown ∙ (ap (λ l. l ++ y.added) x.grown ∙ append_assoc (transcript a) x.added y.added);
  calm = calm-append (transcript a) x.added y.added x.calm (subst (λ l. are_calm l y.added ≡ true) x.grown y.calm);
  seats = y.seats ∙ x.seats;
  limit = y.limit ∙ x.limit;
}

-- A frame that was taken, and further entries that end no pair.
pub takes_then : (a b c : Cabling) (stamp station : ℕ) (Hears : Hearing → List Output → Type 0)
    → Takes a b stamp station Hears → Puts b c → Takes a c stamp station Hears
takes_then a b c stamp station Hears x y =
    let whole = append_assoc (transcript a) (Took stamp station ∷ []) x.rest in
    record {
      pair = x.pair;
      was_pending = x.was_pending;
      of_stamp = x.of_stamp;
      of_station = x.of_station;
      put_out = x.put_out;
      hears = x.hears;
      rest = x.rest ++ y.added;
      grown = y.grown ∙ (ap (λ l. l ++ y.added) x.grown ∙ append_assoc (transcript a) (Took stamp station ∷ x.rest) y.added);
      calm =
          calm-append (transcript a ++ Took stamp station ∷ []) x.rest y.added x.calm
          (subst (λ l. are_calm l y.added ≡ true) (x.grown ∙ sym whole) y.calm);
      seats = y.seats ∙ x.seats;
      limit = y.limit ∙ x.limit;
    }

module _ {X : Type 0} (places : X → Places) (Holds : X → ℕ → Addr → ℕ → HeldBy → X → Type 0) where
  -- A datagram that was sent, or is held, ends no pair.
  pub sent_calm : (old new : Cabling) (cable station : ℕ) (to : Next) (bytes : List ℕ) (x y : X)
      → (h : IsSent places Holds old new cable station to bytes x y)
      → are_calm (transcript old) (sent_entries (places x) old cable station to bytes ++ h.more) ≡ true
  sent_calm old new cable station to bytes x y h =
      let own = sent_entries (places x) old cable station to bytes in
      calm-append (transcript old) own h.more
      (quiet_calm (transcript old) own (sending_quiet (places x) old cable station to bytes))
      (held_calm Holds station (transcript old ++ own) _ x h.more h.asks y h.held)

  pub puts_of_sent : (old new : Cabling) (cable station : ℕ) (to : Next) (bytes : List ℕ) (x y : X)
      → IsSent places Holds old new cable station to bytes x y → Puts old new
  puts_of_sent old new cable station to bytes x y h =
      puts_of old new (sent_entries (places x) old cable station to bytes ++ h.more) h.entries
      (sent_calm old new cable station to bytes x y h)

  -- A frame that was taken.
  pub takes_of : (ports : ℕ) (old new : Cabling) (stamp station : ℕ) (Hears : Hearing → List Output → Type 0) (x y : X)
      → IsTaken places Holds ports old new stamp station Hears x y → Takes old new stamp station Hears
  takes_of ports old new stamp station Hears x y h = record {
    pair = h.pair;
    was_pending = h.was_pending;
    of_stamp = h.of_stamp;
    of_station = h.of_station;
    put_out = h.added;
    hears = h.heard;
    rest = h.told;
    grown = h.entries.added;
    calm = out_calm Holds station places old.seats (transcript old ++ Took stamp station ∷ []) h.added x h.told h.bytes y h.out;
    seats = h.entries.seats;
    limit = h.entries.limit;
  }
