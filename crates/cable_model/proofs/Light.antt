-- What an output adds where its frame goes out, and where its datagram has to be held.
use Rattle.std.proofs.Common.{◌≡◌, ℕ, ◌+◌, ◌≤◌, ◌⊎◌, ◌++◌, Bool, true, false, not, cond, ◌||◌, List, [], ◌∷◌, length, filter}
use Rattle.std.proofs.Common.{inl, inr, refl, sym, ap, ◌∙◌, arith, append-nil, vec_len}
use Rattle.std.proofs.lemmas.List.{length-map}
use Rattle.std.specs.List.{AllByRecursion as Each}
use Rattle.at_base.specs.Address.{same_address}
use Rattle.at_base.specs.declared.address.Addr.{Addr}
use Rattle.cable_model.proofs.Counting.{any-append}
use Rattle.cable_model.proofs.Order.{length_all_placed}
use Rattle.cable_model.proofs.Pairs.{pairs-append}
use Rattle.cable_model.specs.Books.{IsBook, pair_at, said}
use Rattle.cable_model.specs.Logs.{entry_at}
use Rattle.cable_model.specs.Outcomes.{Places, Sender, cable_of, entries_of, held_by, held_next, held_of, leg, sender_by}
use Rattle.cable_model.specs.Outcomes.{to_other, to_target}
use Rattle.cable_model.specs.Outgoing.{IsAnswering, is_later}
use Rattle.cable_model.specs.Pending.{Pair, ends, pairs, pending, was_ended}
use Rattle.cable_model.specs.Transcript.{Entry, Sent, Put, Took, Reached, Dropped, Lost, Hold}
use Rattle.cable_model.specs.Waits.{pair_key}
use Rattle.cable_model.specs.Ways.{lines_for}
use Rattle.cable_model.specs.declared.log.Log.{Log}
use Rattle.cable_model.specs.declared.resolve.Found.{Found}
use Rattle.cable_model.specs.declared.resolve.Found.TheVariants.{At, Nobody, Later}
use Rattle.cable_model.specs.declared.seat.Seat.{Seat}
use Rattle.ddp.specs.Bodies.{target}
use Rattle.station.specs.declared.output.Next.{Next}
use Rattle.station.specs.declared.output.Next.TheVariants as next
use Rattle.station.specs.declared.output.Output.{Output}
use Rattle.station.specs.declared.output.Output.TheVariants as output

-- ---- entries that leave the pending pairs as they are

-- the entry is that of a datagram that a station sends or that reaches its cable
abbrev IsCalm : Entry → Type 0
IsCalm (Sent s b) = Unit {0}
IsCalm (Reached c s how b) = Unit {0}
IsCalm _ = ⊥

calm_pairs : (seats : List Seat) (es : List Entry) → Each IsCalm es → pairs seats es ≡ []
calm_pairs seats [] h = refl
calm_pairs seats (Sent s b ∷ es) h = calm_pairs seats es h.1
calm_pairs seats (Reached c s how b ∷ es) h = calm_pairs seats es h.1
calm_pairs seats (Put f ∷ es) h = absurd h.0
calm_pairs seats (Took p s ∷ es) h = absurd h.0
calm_pairs seats (Dropped r c b ∷ es) h = absurd h.0
calm_pairs seats (Lost p ∷ es) h = absurd h.0
calm_pairs seats (Hold w ∷ es) h = absurd h.0

calm_ends : (p : Pair) (es : List Entry) → Each IsCalm es → was_ended es p ≡ false
calm_ends p [] h = refl
calm_ends p (Sent s b ∷ es) h = calm_ends p es h.1
calm_ends p (Reached c s how b ∷ es) h = calm_ends p es h.1
calm_ends p (Put f ∷ es) h = absurd h.0
calm_ends p (Took q s ∷ es) h = absurd h.0
calm_ends p (Dropped r c b ∷ es) h = absurd h.0
calm_ends p (Lost q ∷ es) h = absurd h.0
calm_ends p (Hold w ∷ es) h = absurd h.0

filter_same : {X : Type 0} (t u : X → Bool) (xs : List X) → ((x : X) → t x ≡ u x) → filter t xs ≡ filter u xs
filter_same t u [] h = refl
filter_same t u (x ∷ xs) h =
    ap (λ b. cond b (x ∷ filter t xs) (filter t xs)) (h x) ∙ ap (λ l. cond (u x) (x ∷ l) l) (filter_same t u xs h)

pub pending_calm : (seats : List Seat) (t es : List Entry) → Each IsCalm es → pending seats (t ++ es) ≡ pending seats t
pending_calm seats t es h =
    ap (filter (λ p. not (was_ended (t ++ es) p)))
    (pairs-append seats t es ∙ (ap (λ l. pairs seats t ++ l) (calm_pairs seats es h) ∙ append-nil (pairs seats t)))
    ∙ filter_same (λ p. not (was_ended (t ++ es) p)) (λ p. not (was_ended t p)) (pairs seats t)
    (λ p. ap not (any-append (ends p) t es ∙ (ap (λ b. was_ended t p || b) (calm_ends p es h) ∙ or_none (was_ended t p))))
  where
    or_none : (b : Bool) → (b || false) ≡ b
    or_none true = refl
    or_none false = refl

pub due_count : (seats : List Seat) (log : Log) → IsBook seats log → length log.due.dues ≡ length (pending seats (said log))
due_count seats log book =
    sym (length-map log.due.dues (pair_at seats (said log)))
    ∙ (ap length book.pending
    ∙ (length_all_placed pair_key [] (pending seats (said log)) ∙ zero_more (length (pending seats (said log)))))
  where
    zero_more : (n : ℕ) → 0 + n ≡ n
    zero_more n = omega arith

pub line_count : (log : Log) → vec_len log.lines ≡ length (said log)
line_count log = log.lines.ok.0 ∙ sym (length-map log.lines.items (entry_at log.kept.items))

-- ---- the datagrams of an output that are to be held

-- where every lookup is answered there is none
pub held_none : (places : Places) (seats : List Seat) (station : ℕ) (o : Output) → IsAnswering places
    → held_of places seats station o ≡ []
held_none places seats station o known = this o
  where
    found : (f : Found) (cable : ℕ) (a : Addr) (bytes : List ℕ) → is_later f ≡ false → held_by f cable a bytes ≡ []
    found (At hw) cable a bytes e = refl
    found Nobody cable a bytes e = refl
    found Later cable a bytes e = cc

    next_one : (cable : ℕ) (to : Next) (bytes : List ℕ) → held_next places cable to bytes ≡ []
    next_one cable (next.Station a) bytes = found (places.finds cable a) cable a bytes (known cable a)
    next_one cable next.All bytes = refl
    next_one cable (next.Group g) bytes = refl

    this : (o : Output) → held_of places seats station o ≡ []
    this (output.Made port to bytes) = next_one (cable_of seats station port) to bytes
    this (output.Passed port to bytes) = next_one (cable_of seats station port) to bytes
    this (output.Kept port bytes) = refl
    this (output.Dropped cause bytes) = refl
    this (output.Wire port to bytes) = refl

leg_light : (places : Places) (s : Sender) (to : Next) (bytes : List ℕ)
    → (held_next places s.cable to bytes ≡ []) ⊎ (Each IsCalm (leg places s to bytes) × (length (leg places s to bytes) ≤ 1))
leg_light places s (next.Station a) bytes = by (same_address (target bytes) a) (places.finds s.cable a)
  where
    by : (b : Bool) (f : Found)
        → (held_by f s.cable a bytes ≡ [])
        ⊎ (Each IsCalm (cond b (to_target s bytes f) (to_other s bytes f))
        × (length (cond b (to_target s bytes f) (to_other s bytes f)) ≤ 1))
    by b (At hw) = inl refl
    by b Nobody = inl refl
    by true Later = inr ((tt, tt), omega arith)
    by false Later = inr (tt, omega arith)
leg_light places s next.All bytes = inl refl
leg_light places s (next.Group g) bytes = inl refl

-- where there is one the output puts no frame, and has fewer entries
pub held_light : (places : Places) (seats : List Seat) (station stamp : ℕ) (o : Output)
    → (held_of places seats station o ≡ [])
    ⊎ (Each IsCalm (entries_of places seats station stamp o) × (length (entries_of places seats station stamp o) + 1 ≤ lines_for o))
held_light places seats station stamp (output.Made port to bytes) =
    elim (leg_light places (sender_by seats station stamp port) to bytes)
    as (λ _. (held_of places seats station (output.Made port to bytes) ≡ [])
    ⊎ (Each IsCalm (entries_of places seats station stamp (output.Made port to bytes))
    × (length (entries_of places seats station stamp (output.Made port to bytes)) + 1 ≤ 3))) [
      | inl none ↦ inl none
      | inr h ↦ inr ((tt, h.0), omega (arith, h.1))
    ]
held_light places seats station stamp (output.Passed port to bytes) =
    elim (leg_light places (sender_by seats station stamp port) to bytes)
    as (λ _. (held_of places seats station (output.Passed port to bytes) ≡ [])
    ⊎ (Each IsCalm (entries_of places seats station stamp (output.Passed port to bytes))
    × (length (entries_of places seats station stamp (output.Passed port to bytes)) + 1 ≤ 2))) [
      | inl none ↦ inl none
      | inr h ↦ inr (h.0, omega (arith, h.1))
    ]
held_light places seats station stamp (output.Kept port bytes) = inl refl
held_light places seats station stamp (output.Dropped cause bytes) = inl refl
held_light places seats station stamp (output.Wire port to bytes) = inl refl
