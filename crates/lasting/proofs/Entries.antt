-- Which frames and held datagrams a transcript has: none of them, but for frames that a fact is told of, has routing data
-- or ZIP packets.
use Rattle.std.proofs.Common.{◌≡◌, ◌⊎◌, inl, inr, ℕ, suc, Bool, true, false, not, ◌||◌, cond, List, [], ◌∷◌, ◌++◌}
use Rattle.std.proofs.Common.{Option, Some, None, refl, sym, ap, ◌∙◌, subst, filter}
use Rattle.std.specs.List.{AllByRecursion as Each}
use Rattle.std.proofs.lemmas.Bool.{not-true}
use Rattle.at_base.specs.Address.{same_address}
use Rattle.at_base.specs.Multicast.{all_hw}
use Rattle.at_base.specs.declared.address.Addr.{Addr}
use Rattle.cable_model.proofs.Counting.{At as IsAt, any-append, each-append, each_all, each_at, each_map, filter_at}
use Rattle.cable_model.proofs.Pairs.{pairs-append}
use Rattle.cable_model.proofs.Stamps.{holds-append}
use Rattle.cable_model.specs.Holdings.{holds, holds_of, releases, still_held, was_released}
use Rattle.cable_model.specs.Outcomes.{Held, Places, Sender, entries_of, framed, goes_nowhere, held_by, held_next, held_of, leg, sender_by, to_other, to_target}
use Rattle.cable_model.specs.Outgoing.{GoOut, IsHeldBy, asked, if_open, let_go, losses}
use Rattle.cable_model.specs.Pending.{Pair, ends, is_heard, pairs, pairs_of, pending, was_ended}
use Rattle.cable_model.specs.Transcript.{Entry, Frame, Holding, Sent, Put, Took, Reached, Dropped, Lost, Hold, next_stamp}
use Rattle.cable_model.specs.declared.resolve.Found.{Found}
use Rattle.cable_model.specs.declared.resolve.Found.TheVariants.{At, Nobody, Later}
use Rattle.cable_model.specs.declared.resolve.HeldBy.{HeldBy}
use Rattle.cable_model.specs.declared.seat.Seat.{Seat}
use Rattle.ddp.specs.Bodies.{target}
use Rattle.live_cables.proofs.Pending.{Has, has_kept, has_one_of}
use Rattle.lasting.specs.Plain.{IsPlain, IsPlainFrame, IsPlainOutput}
use Rattle.station.specs.declared.heard.Kind.TheVariants.{Ddp}
use Rattle.station.specs.declared.output.Next.{Next}
use Rattle.station.specs.declared.output.Next.TheVariants as next
use Rattle.station.specs.declared.output.Output.{Output}
use Rattle.station.specs.declared.output.Output.TheVariants as output

module _ (IsTold : Frame → Type 0) where
  -- the frame is plain, or one of those that something is told of
  abbrev pub IsFine : Frame → Type 0
  IsFine f = IsPlainFrame f.kind f.bytes ⊎ IsTold f

  -- so is the frame of an entry, and a held datagram is plain
  abbrev pub IsFineEntry : Entry → Type 0
  IsFineEntry (Put f) = IsFine f
  IsFineEntry (Hold h) = IsPlain h.bytes
  IsFineEntry _ = Unit {0}

  -- ---- The entries of outputs

  target_fine : (s : Sender) (bytes : List ℕ) (f : Found) → IsPlain bytes → Each IsFineEntry (to_target s bytes f)
  target_fine s bytes (At hw) p = (tt, (inl p, tt))
  target_fine s bytes Nobody p = (tt, tt)
  target_fine s bytes Later p = (tt, tt)

  other_fine : (s : Sender) (bytes : List ℕ) (f : Found) → IsPlain bytes → Each IsFineEntry (to_other s bytes f)
  other_fine s bytes (At hw) p = (inl p, tt)
  other_fine s bytes Nobody p = tt
  other_fine s bytes Later p = tt

  either_fine : (b : Bool) (xs ys : List Entry) → Each IsFineEntry xs → Each IsFineEntry ys → Each IsFineEntry (cond b xs ys)
  either_fine true xs ys x y = x
  either_fine false xs ys x y = y

  -- a datagram for all stations of the cable
  pub all_fine : (places : Places) (s : Sender) (bytes : List ℕ)
      → IsFine (record { stamp = s.stamp; cable = s.cable; sender = s.station; to = all_hw; kind = Ddp; bytes = bytes })
      → Each IsFineEntry (leg places s next.All bytes)
  all_fine places s bytes p = either_fine (places.lists (target bytes).net) _ _ (tt, (p, tt)) (p, tt)

  pub leg_fine : (places : Places) (s : Sender) (to : Next) (bytes : List ℕ) → IsPlain bytes → Each IsFineEntry (leg places s to bytes)
  leg_fine places s (next.Station a) bytes p =
      either_fine (same_address (target bytes) a) (to_target s bytes (places.finds s.cable a)) (to_other s bytes (places.finds s.cable a))
      (target_fine s bytes (places.finds s.cable a) p) (other_fine s bytes (places.finds s.cable a) p)
  leg_fine places s next.All bytes p = all_fine places s bytes (inl p)
  leg_fine places s (next.Group g) bytes p = (inl p, tt)

  output_fine : (places : Places) (seats : List Seat) (station stamp : ℕ) (o : Output) → IsPlainOutput o
      → Each IsFineEntry (entries_of places seats station stamp o)
  output_fine places seats station stamp (output.Made port to bytes) p = (tt, leg_fine places (sender_by seats station stamp port) to bytes p)
  output_fine places seats station stamp (output.Passed port to bytes) p = leg_fine places (sender_by seats station stamp port) to bytes p
  output_fine places seats station stamp (output.Kept port bytes) p = (tt, tt)
  output_fine places seats station stamp (output.Dropped cause bytes) p = (tt, tt)
  output_fine places seats station stamp (output.Wire port to bytes) p = (inl tt, tt)

  -- the datagrams that are to be held have the bytes of the output
  by_fine : (f : Found) (cable : ℕ) (a : Addr) (bytes : List ℕ) → IsPlain bytes → Each (λ (w : Held). IsPlain w.bytes) (held_by f cable a bytes)
  by_fine Later cable a bytes p = (p, tt)
  by_fine (At hw) cable a bytes p = tt
  by_fine Nobody cable a bytes p = tt

  pub next_fine : (places : Places) (cable : ℕ) (to : Next) (bytes : List ℕ) → IsPlain bytes
      → Each (λ (w : Held). IsPlain w.bytes) (held_next places cable to bytes)
  next_fine places cable (next.Station a) bytes p = by_fine (places.finds cable a) cable a bytes p
  next_fine places cable next.All bytes p = tt
  next_fine places cable (next.Group g) bytes p = tt

  held_fine : (places : Places) (seats : List Seat) (station : ℕ) (o : Output) → IsPlainOutput o
      → Each (λ (w : Held). IsPlain w.bytes) (held_of places seats station o)
  held_fine places seats station (output.Made port to bytes) p = next_fine places (Rattle.cable_model.specs.Outcomes.cable_of seats station port) to bytes p
  held_fine places seats station (output.Passed port to bytes) p = next_fine places (Rattle.cable_model.specs.Outcomes.cable_of seats station port) to bytes p
  held_fine places seats station (output.Kept port bytes) p = tt
  held_fine places seats station (output.Dropped cause bytes) p = tt
  held_fine places seats station (output.Wire port to bytes) p = tt

  lost_fine : (o : Option ℕ) → Each IsFineEntry (losses o)
  lost_fine None = tt
  lost_fine (Some stamp) = (tt, tt)

  pub gone_fine : (t : List Entry) (o : Option ℕ) → Each IsFineEntry (let_go t o)
  gone_fine t o = lost_fine (if_open t o)

  pub asked_fine : (s : Sender) (o : Option (List ℕ)) → Each IsFineEntry (asked s o)
  asked_fine s None = tt
  asked_fine s (Some bytes) = (inl tt, tt)

  module _ {X : Type 0} (Holds : X → ℕ → Addr → ℕ → HeldBy → X → Type 0) (station : ℕ) where
    pub waits_fine : (t : List Entry) (ws : List Held) (x : X) (es : List Entry) (ks : List (List ℕ)) (y : X)
        → Each (λ (w : Held). IsPlain w.bytes) ws → IsHeldBy Holds station t ws x es ks y → Each IsFineEntry es
    waits_fine t [] x es ks y p h = subst (Each IsFineEntry) (sym h.0) tt
    waits_fine t (w ∷ ws) x es ks y p h =
        subst (Each IsFineEntry) (sym h.2) (
          p.0,
          each-append IsFineEntry (let_go t h.0.shed) _ (gone_fine t h.0.shed)
              (asked_fine (record { stamp = suc (next_stamp t); cable = w.cable; station = station }) h.0.ask),
        )

    module _ (places : X → Places) (seats : List Seat) where
      pub outs_fine : (t : List Entry) (os : List Output) (x : X) (es : List Entry) (ks : List (List ℕ)) (y : X)
          → Each IsPlainOutput os → GoOut places Holds seats station t os x es ks y → Each IsFineEntry es
      outs_fine t [] x es ks y p h = subst (Each IsFineEntry) (sym h.0) tt
      outs_fine t (o ∷ os) x es ks y p (first, rest, bytes, others, z, step, onward, split, stored) =
          let own = entries_of (places x) seats station (next_stamp t) o in
          let here : Each IsFineEntry first =
          subst (Each IsFineEntry) (sym step.entries)
          (each-append IsFineEntry own step.more (output_fine (places x) seats station (next_stamp t) o p.0)
          (waits_fine (t ++ own) _ x step.more step.asks z (held_fine (places x) seats station o p.0) step.held)) in
          subst (Each IsFineEntry) (sym split) (each-append IsFineEntry first rest here (outs_fine (t ++ first) os z rest others y p.1 onward))

  -- ---- A whole transcript

  -- what is pending is fine, and what is held is plain
  pub record AreFine (seats : List Seat) (t : List Entry) : Type 0 where
    pub pending : (p : Pair) → Has (pending seats t) p → IsFine p.frame
    pub held : (h : Holding) → Has (still_held t) h → IsPlain h.bytes

  module _ (seats : List Seat) where
    of_one : (e : Entry) → IsFineEntry e → Each (λ (p : Pair). IsFine p.frame) (pairs_of seats e)
    of_one (Put f) h =
        each_map (λ (p : Pair). IsFine p.frame) (λ s. record { frame = f; seat = s }) (filter (is_heard f) seats)
        (each_all (λ s. IsFine f) (filter (is_heard f) seats) (λ s. h))
    of_one (Sent s x) h = tt
    of_one (Took p s) h = tt
    of_one (Reached c s w x) h = tt
    of_one (Dropped r c x) h = tt
    of_one (Lost p) h = tt
    of_one (Hold g) h = tt

    of_pairs : (es : List Entry) → Each IsFineEntry es → Each (λ (p : Pair). IsFine p.frame) (pairs seats es)
    of_pairs [] h = tt
    of_pairs (e ∷ es) h = each-append (λ (p : Pair). IsFine p.frame) (pairs_of seats e) (pairs seats es) (of_one e h.0) (of_pairs es h.1)

    held_one : (e : Entry) → IsFineEntry e → Each (λ (h : Holding). IsPlain h.bytes) (holds_of e)
    held_one (Put f) h = tt
    held_one (Sent s x) h = tt
    held_one (Took p s) h = tt
    held_one (Reached c s w x) h = tt
    held_one (Dropped r c x) h = tt
    held_one (Lost p) h = tt
    held_one (Hold g) h = (h, tt)

    of_holds : (es : List Entry) → Each IsFineEntry es → Each (λ (h : Holding). IsPlain h.bytes) (holds es)
    of_holds [] h = tt
    of_holds (e ∷ es) h = each-append (λ (h : Holding). IsPlain h.bytes) (holds_of e) (holds es) (held_one e h.0) (of_holds es h.1)

    both_false : (a b : Bool) → (a || b) ≡ false → a ≡ false
    both_false true b e = cc
    both_false false b e = refl

    -- fine entries leave it so
    pub fine_after : (t es : List Entry) → AreFine seats t → Each IsFineEntry es → AreFine seats (t ++ es)
    fine_after t es a h = record { pending = pended; held = held }
      where
        pended : (p : Pair) → Has (pending seats (t ++ es)) p → IsFine p.frame
        pended p g =
            let w = filter_at (λ p. not (was_ended (t ++ es) p)) (pairs seats (t ++ es)) g.0 p g.1 in
            let first = both_false (was_ended t p) (was_ended es p) (sym (any-append (ends p) t es) ∙ not-true (was_ended (t ++ es) p) w.2) in
            elim (has_one_of (pairs seats t) (pairs seats es) p (w.0, subst (λ l. IsAt l w.0 p) (pairs-append seats t es) w.1)) [
              | inl i ↦ a.pending p (has_kept (λ p. not (was_ended t p)) (pairs seats t) p i (ap not first))
              | inr i ↦ each_at (λ (p : Pair). IsFine p.frame) (pairs seats es) i.0 p i.1 (of_pairs es h)
            ]

        held : (d : Holding) → Has (still_held (t ++ es)) d → IsPlain d.bytes
        held d g =
            let w = filter_at (λ d. not (was_released (t ++ es) d)) (holds (t ++ es)) g.0 d g.1 in
            let first = both_false (was_released t d) (was_released es d)
            (sym (any-append (releases d.stamp) t es) ∙ not-true (was_released (t ++ es) d) w.2) in
            elim (has_one_of (holds t) (holds es) d (w.0, subst (λ l. IsAt l w.0 d) (holds-append t es) w.1)) [
              | inl i ↦ a.held d (has_kept (λ d. not (was_released t d)) (holds t) d i (ap not first))
              | inr i ↦ each_at (λ (h : Holding). IsPlain h.bytes) (holds es) i.0 d i.1 (of_holds es h)
            ]
