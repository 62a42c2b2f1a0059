-- Which frames of a transcript are honest: where one has an AARP response, what this tells is so.
use Rattle.std.proofs.Common.{◌≡◌, inl, inr, ℕ, suc, Bool, true, false, not, ◌||◌, cond, List, [], ◌∷◌, ◌++◌}
use Rattle.std.proofs.Common.{Option, Some, None, refl, sym, ap, ◌∙◌, subst, filter, slice_get}
use Rattle.std.specs.List.{AllByRecursion as Each}
use Rattle.std.proofs.lemmas.Bool.{not-true}
use Rattle.aarp.specs.Packets.{Whole, packet, written}
use Rattle.aarp.specs.declared.packet.Function.TheVariants.{Response}
use Rattle.at_base.specs.Address.{same_address}
use Rattle.at_base.specs.Spelling.{Spells}
use Rattle.at_base.specs.declared.address.Addr.{Addr}
use Rattle.at_base.specs.declared.address.Hw.{Hw}
use Rattle.cable_model.proofs.Counting.{At as IsAt, any-append, each-append, each_all, each_at, each_map, filter_at}
use Rattle.cable_model.proofs.Pairs.{pairs-append}
use Rattle.cable_model.specs.Outcomes.{Held, Places, Sender, cable_of, entries_of, held_of, leg, sender_by, to_other, to_target}
use Rattle.cable_model.specs.Outgoing.{GoOut, IsHeldBy, asked, if_open, let_go, losses}
use Rattle.cable_model.specs.Pending.{Pair, ends, is_heard, pairs, pairs_of, pending, was_ended}
use Rattle.cable_model.specs.Transcript.{Entry, Frame, Sent, Put, Took, Reached, Dropped, Lost, Hold, next_stamp}
use Rattle.cable_model.specs.declared.resolve.Found.{Found}
use Rattle.cable_model.specs.declared.resolve.Found.TheVariants.{At, Nobody, Later}
use Rattle.cable_model.specs.declared.resolve.HeldBy.{HeldBy}
use Rattle.cable_model.specs.declared.seat.Seat.{Seat}
use Rattle.ddp.specs.Bodies.{target}
use Rattle.live_cables.proofs.Pending.{Has, has_kept, has_one_of}
use Rattle.live_cables.specs.Finding.{Knowing, is_first_for, places_of, request_for, seat_on}
use Rattle.live_cables.specs.Holding.{Holds, IsRequest}
use Rattle.station.specs.declared.heard.Kind.TheVariants.{Aarp, Ddp}
use Rattle.station.specs.declared.output.Next.{Next}
use Rattle.station.specs.declared.output.Next.TheVariants as next
use Rattle.station.specs.declared.output.Output.{Output}
use Rattle.station.specs.declared.output.Output.TheVariants as output

-- the output is no AARP frame
abbrev pub IsUnwired : Output → Type 0
IsUnwired (output.Made port to bytes) = Unit {0}
IsUnwired (output.Passed port to bytes) = Unit {0}
IsUnwired (output.Kept port bytes) = Unit {0}
IsUnwired (output.Dropped cause bytes) = Unit {0}
IsUnwired (output.Wire port to bytes) = ⊥

-- `Tells` is what holds of a cable and of an address and a hardware address that a station on it has.
module _ (Tells : ℕ → Addr → Hw → Type 0) where
  -- the bytes are those of a packet, which tells what is so on the cable, if it is a response
  abbrev pub IsHonestAt : ℕ → List ℕ → Type 0
  IsHonestAt cable bytes =
      (w : Whole) × Spells packet bytes w × (w.packet.function ≡ Response → Tells cable w.packet.source w.packet.source_hw)

  -- so are those of a frame with an AARP packet
  abbrev pub IsHonest : Frame → Type 0
  IsHonest f = f.kind ≡ Aarp → IsHonestAt f.cable f.bytes

  -- the frame of an entry, if it has one, is honest
  abbrev pub IsHonestEntry : Entry → Type 0
  IsHonestEntry (Put f) = IsHonest f
  IsHonestEntry (Sent s x) = Unit {0}
  IsHonestEntry (Took p s) = Unit {0}
  IsHonestEntry (Reached c s w x) = Unit {0}
  IsHonestEntry (Dropped r c x) = Unit {0}
  IsHonestEntry (Lost p) = Unit {0}
  IsHonestEntry (Hold h) = Unit {0}

  -- so is that of an output
  abbrev pub IsHonestOutput : List Seat → ℕ → Output → Type 0
  IsHonestOutput seats station (output.Made port to bytes) = Unit {0}
  IsHonestOutput seats station (output.Passed port to bytes) = Unit {0}
  IsHonestOutput seats station (output.Kept port bytes) = Unit {0}
  IsHonestOutput seats station (output.Dropped cause bytes) = Unit {0}
  IsHonestOutput seats station (output.Wire port to bytes) = IsHonestAt (cable_of seats station port) bytes

  -- an output that is no AARP frame is honest
  unwired_one : (seats : List Seat) (station : ℕ) (o : Output) → IsUnwired o → IsHonestOutput seats station o
  unwired_one seats station (output.Made port to bytes) h = tt
  unwired_one seats station (output.Passed port to bytes) h = tt
  unwired_one seats station (output.Kept port bytes) h = tt
  unwired_one seats station (output.Dropped cause bytes) h = tt
  unwired_one seats station (output.Wire port to bytes) h = absurd h

  -- and so are several
  pub unwired_honest : (seats : List Seat) (station : ℕ) (os : List Output) → Each IsUnwired os → Each (IsHonestOutput seats station) os
  unwired_honest seats station [] h = tt
  unwired_honest seats station (o ∷ os) h = (unwired_one seats station o h.0, unwired_honest seats station os h.1)

  -- ---- The entries of outputs

  -- a frame with a datagram has no AARP packet
  pub no_packet : (cable : ℕ) (bytes : List ℕ) → Ddp ≡ Aarp → IsHonestAt cable bytes
  no_packet cable bytes e = absurd (let clash : Ddp ≡ Aarp = e in cc)

  -- the entries of a datagram for its target are honest
  target_honest : (s : Sender) (bytes : List ℕ) (f : Found) → Each IsHonestEntry (to_target s bytes f)
  target_honest s bytes (At hw) = (tt, (λ e. no_packet s.cable bytes e, tt))
  target_honest s bytes Nobody = (tt, tt)
  target_honest s bytes Later = (tt, tt)

  -- so are those of one for another station
  other_honest : (s : Sender) (bytes : List ℕ) (f : Found) → Each IsHonestEntry (to_other s bytes f)
  other_honest s bytes (At hw) = (λ e. no_packet s.cable bytes e, tt)
  other_honest s bytes Nobody = tt
  other_honest s bytes Later = tt

  -- and either entries
  either_honest : (b : Bool) (xs ys : List Entry) → Each IsHonestEntry xs → Each IsHonestEntry ys → Each IsHonestEntry (cond b xs ys)
  either_honest true xs ys x y = x
  either_honest false xs ys x y = y

  -- a leg is honest
  pub leg_honest : (places : Places) (s : Sender) (to : Next) (bytes : List ℕ) → Each IsHonestEntry (leg places s to bytes)
  leg_honest places s (next.Station a) bytes =
      either_honest (same_address (target bytes) a) (to_target s bytes (places.finds s.cable a)) (to_other s bytes (places.finds s.cable a))
      (target_honest s bytes (places.finds s.cable a)) (other_honest s bytes (places.finds s.cable a))
  leg_honest places s next.All bytes =
      either_honest (places.lists (target bytes).net) _ _ (tt, (λ e. no_packet s.cable bytes e, tt)) (λ e. no_packet s.cable bytes e, tt)
  leg_honest places s (next.Group g) bytes = (λ e. no_packet s.cable bytes e, tt)

  -- so are the entries of an honest output
  output_honest : (places : Places) (seats : List Seat) (station stamp : ℕ) (o : Output) → IsHonestOutput seats station o
      → Each IsHonestEntry (entries_of places seats station stamp o)
  output_honest places seats station stamp (output.Made port to bytes) p = (tt, leg_honest places (sender_by seats station stamp port) to bytes)
  output_honest places seats station stamp (output.Passed port to bytes) p = leg_honest places (sender_by seats station stamp port) to bytes
  output_honest places seats station stamp (output.Kept port bytes) p = (tt, tt)
  output_honest places seats station stamp (output.Dropped cause bytes) p = (tt, tt)
  output_honest places seats station stamp (output.Wire port to bytes) p = (λ e. p, tt)

  -- ---- Datagrams that are held, and requests for them

  -- a request is no response
  pub request_honest : (c : ℕ) (bytes : List ℕ) (hw : Hw) (own a : Addr) → Spells packet bytes (written (request_for hw own a)) → IsHonestAt c bytes
  request_honest c bytes hw own a spelled = (written (request_for hw own a), spelled, λ e. absurd cc)

  -- the request that a station sends where it holds a datagram
  asked_for : (c : ℕ) (b : Bool) (o : Option Seat) (own : Option (Option Addr)) (a : Addr) (ask : Option (List ℕ)) → IsRequest b o own a ask
      → (bytes : List ℕ) → ask ≡ Some bytes → IsHonestAt c bytes
  asked_for c false o own a ask h bytes e = absurd (let f = sym h ∙ e in cc)
  asked_for c true None own a ask h bytes e = absurd (let f = sym h ∙ e in cc)
  asked_for c true (Some s) own a ask (made, spelled, is) bytes e =
      let same : made ≡ bytes = (let f = sym is ∙ e in cc) in
      subst (IsHonestAt c) same (request_honest c made s.hw _ a spelled)

  -- so is the request of a datagram that is held
  ask_honest : (k : Knowing) (cable : ℕ) (a : Addr) (stamp : ℕ) (by : HeldBy) (l : Knowing) → Holds k cable a stamp by l
      → (c : ℕ) (bytes : List ℕ) → by.ask ≡ Some bytes → IsHonestAt c bytes
  ask_honest k cable a stamp by l h c bytes e = in_case (seat_on k.seats cable k.station) refl
    where
      in_case : (o : Option ℕ) → seat_on k.seats cable k.station ≡ o → IsHonestAt c bytes
      in_case None at =
          let h2 = rw at at h in
          absurd (let f = sym (ap (λ (b : HeldBy). b.ask) h2.1) ∙ e in cc)
      in_case (Some i) at =
          let h2 = rw at at h in
          asked_for c (is_first_for k.maps i a) (slice_get k.seats i) (slice_get k.own i) a by.ask h2.2 bytes e

  -- and its entry, if there is one
  asked_honest : (s : Sender) (o : Option (List ℕ)) → ((bytes : List ℕ) → o ≡ Some bytes → IsHonestAt s.cable bytes)
      → Each IsHonestEntry (asked s o)
  asked_honest s None h = tt
  asked_honest s (Some bytes) h = (λ e. h bytes refl, tt)

  -- a loss is honest, if there is one
  lost_honest : (o : Option ℕ) → Each IsHonestEntry (losses o)
  lost_honest None = tt
  lost_honest (Some stamp) = (tt, tt)

  -- so is that of a datagram that is let go
  pub gone_honest : (t : List Entry) (o : Option ℕ) → Each IsHonestEntry (let_go t o)
  gone_honest t o = lost_honest (if_open t o)

  -- the entries of a datagram that is held are honest
  pub waits_honest : (station : ℕ) (t : List Entry) (ws : List Held) (x : Knowing) (es : List Entry) (ks : List (List ℕ)) (y : Knowing)
      → IsHeldBy Holds station t ws x es ks y → Each IsHonestEntry es
  waits_honest station t [] x es ks y h = subst (Each IsHonestEntry) (sym h.0) tt
  waits_honest station t (w ∷ ws) x es ks y (by, holds, is, stored) =
      subst (Each IsHonestEntry) (sym is) (
        tt,
        each-append IsHonestEntry (let_go t by.shed) _ (gone_honest t by.shed)
            (asked_honest (record { stamp = suc (next_stamp t); cable = w.cable; station = station }) by.ask
            (λ bytes e. ask_honest x w.cable w.next _ by y holds w.cable bytes e)),
      )

  -- what goes out
  pub outs_honest : (seats : List Seat) (station : ℕ) (t : List Entry) (os : List Output) (x : Knowing) (es : List Entry) (ks : List (List ℕ)) (y : Knowing)
      → Each (IsHonestOutput seats station) os → GoOut places_of Holds seats station t os x es ks y → Each IsHonestEntry es
  outs_honest seats station t [] x es ks y p h = subst (Each IsHonestEntry) (sym h.0) tt
  outs_honest seats station t (o ∷ os) x es ks y p (first, rest, bytes, others, z, step, onward, split, stored) =
      let own = entries_of (places_of x) seats station (next_stamp t) o in
      let here : Each IsHonestEntry first =
      subst (Each IsHonestEntry) (sym step.entries)
      (each-append IsHonestEntry own step.more (output_honest (places_of x) seats station (next_stamp t) o p.0)
      (waits_honest station (t ++ own) (held_of (places_of x) seats station o) x step.more step.asks z step.held)) in
      subst (Each IsHonestEntry) (sym split)
      (each-append IsHonestEntry first rest here (outs_honest seats station (t ++ first) os z rest others y p.1 onward))

  -- ---- A whole transcript

  -- what is pending is honest
  abbrev pub AreHonest : List Seat → List Entry → Type 0
  AreHonest seats t = (p : Pair) → Has (pending seats t) p → IsHonest p.frame

  module _ (seats : List Seat) where
    -- the pairs of an honest entry are honest
    of_one : (e : Entry) → IsHonestEntry e → Each (λ (p : Pair). IsHonest p.frame) (pairs_of seats e)
    of_one (Put f) h =
        each_map (λ (p : Pair). IsHonest p.frame) (λ s. record { frame = f; seat = s }) (filter (is_heard f) seats)
        (each_all (λ s. IsHonest f) (filter (is_heard f) seats) (λ s. h))
    of_one (Sent s x) h = tt
    of_one (Took p s) h = tt
    of_one (Reached c s w x) h = tt
    of_one (Dropped r c x) h = tt
    of_one (Lost p) h = tt
    of_one (Hold g) h = tt

    -- so are those of several
    of_pairs : (es : List Entry) → Each IsHonestEntry es → Each (λ (p : Pair). IsHonest p.frame) (pairs seats es)
    of_pairs [] h = tt
    of_pairs (e ∷ es) h = each-append (λ (p : Pair). IsHonest p.frame) (pairs_of seats e) (pairs seats es) (of_one e h.0) (of_pairs es h.1)

    -- where neither is true, the first one is not
    both_false : (a b : Bool) → (a || b) ≡ false → a ≡ false
    both_false true b e = cc
    both_false false b e = refl

    -- honest entries leave it so
    pub honest_after : (t es : List Entry) → AreHonest seats t → Each IsHonestEntry es → AreHonest seats (t ++ es)
    honest_after t es a h p g =
        let w = filter_at (λ p. not (was_ended (t ++ es) p)) (pairs seats (t ++ es)) g.0 p g.1 in
        let first = both_false (was_ended t p) (was_ended es p) (sym (any-append (ends p) t es) ∙ not-true (was_ended (t ++ es) p) w.2) in
        elim (has_one_of (pairs seats t) (pairs seats es) p (w.0, subst (λ l. IsAt l w.0 p) (pairs-append seats t es) w.1)) [
          | inl i ↦ a p (has_kept (λ p. not (was_ended t p)) (pairs seats t) p i (ap not first))
          | inr i ↦ each_at (λ (p : Pair). IsHonest p.frame) (pairs seats es) i.0 p i.1 (of_pairs es h)
        ]
