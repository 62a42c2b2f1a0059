-- A datagram that waits adds no frame, and waits only on cables with room for what is held.
use Rattle.std.proofs.Common.{◌≡◌, ◌⊎◌, inl, inr, ℕ, ◌+◌, ◌≤◌, Bool, true, false, not, ◌||◌}
use Rattle.std.proofs.Common.{List, [], ◌∷◌, ◌++◌, length, filter, vec_len}
use Rattle.std.proofs.Common.{if◌then◌else◌, refl, arith, sym, ap, ◌∙◌, length-append}
use Rattle.std.specs.List.{AllByRecursion as Each}
use Rattle.std.proofs.lemmas.List.{length-map}
use Rattle.at_base.specs.Address.{same_address}
use Rattle.cable_model.proofs.Order.{length_all_placed}
use Rattle.cable_model.specs.Books.{IsBook}
use Rattle.cable_model.specs.Books.{pair_at, said}
use Rattle.cable_model.specs.Logs.{entry_at}
use Rattle.cable_model.specs.Outcomes.{Places, Sender, held_by, held_next, leg}
use Rattle.cable_model.specs.Outgoing.{IsAnswering, is_later}
use Rattle.cable_model.specs.Pending.{Pair, ends, pairs, pairs_of, pending, was_ended}
use Rattle.cable_model.specs.Rooms.{AreRooms, held_rooms, known_rooms}
use Rattle.cable_model.specs.Transcript.{Entry, Sent, Put, Took, Reached, Dropped, Lost, Hold}
use Rattle.cable_model.specs.Waits.{pair_key}
use Rattle.cable_model.specs.declared.log.Log.{Log}
use Rattle.cable_model.specs.declared.resolve.Found.{Found}
use Rattle.cable_model.specs.declared.resolve.Found.TheVariants.{At, Nobody, Later}
use Rattle.cable_model.specs.declared.room.Rooms.{Rooms}
use Rattle.cable_model.specs.declared.seat.Seat.{Seat}
use Rattle.ddp.specs.Bodies.{target}
use Rattle.station.specs.declared.output.Next.{Next}
use Rattle.station.specs.declared.output.Next.TheVariants as next

-- the stored pairs are as many as the pending ones
pub dues_long : (seats : List Seat) (log : Log) → IsBook seats log → length log.due.dues ≡ length (pending seats (said log))
dues_long seats log book =
    sym (length-map log.due.dues (pair_at seats (said log)))
    ∙ (ap length book.pending ∙ length_all_placed pair_key [] (pending seats (said log)) ∙ (omega arith))

-- ---- a datagram that waits adds no frame

-- the entry neither puts a frame nor ends a pair, and holds nothing
abbrev pub IsStill : Entry → Type 0
IsStill (Sent station body) = Unit {0}
IsStill (Reached cable station how body) = Unit {0}
IsStill e = ⊥

still_pairs : (seats : List Seat) (e : Entry) → IsStill e → pairs_of seats e ≡ []
still_pairs seats (Sent s b) h = refl
still_pairs seats (Reached c s how b) h = refl
still_pairs seats (Put f) h = absurd h
still_pairs seats (Took p s) h = absurd h
still_pairs seats (Dropped r cause b) h = absurd h
still_pairs seats (Lost p) h = absurd h
still_pairs seats (Hold g) h = absurd h

still_ends : (p : Pair) (e : Entry) → IsStill e → ends p e ≡ false
still_ends p (Sent s b) h = refl
still_ends p (Reached c s how b) h = refl
still_ends p (Put f) h = refl
still_ends p (Took q s) h = absurd h
still_ends p (Dropped r cause b) h = refl
still_ends p (Lost q) h = absurd h
still_ends p (Hold g) h = refl

pairs_still : (seats : List Seat) (t es : List Entry) → Each IsStill es → pairs seats (t ++ es) ≡ pairs seats t
pairs_still seats [] [] h = refl
pairs_still seats [] (e ∷ es) h = ap (λ l. l ++ pairs seats es) (still_pairs seats e h.0) ∙ pairs_still seats [] es h.1
pairs_still seats (e ∷ t) es h = ap (λ l. pairs_of seats e ++ l) (pairs_still seats t es h)

ended_still : (p : Pair) (t es : List Entry) → Each IsStill es → was_ended (t ++ es) p ≡ was_ended t p
ended_still p [] [] h = refl
ended_still p [] (e ∷ es) h = ap (λ b. b || was_ended es p) (still_ends p e h.0) ∙ ended_still p [] es h.1
ended_still p (e ∷ t) es h = ap (λ b. ends p e || b) (ended_still p t es h)

filter_same : {X : Type 0} (f g : X → Bool) (xs : List X) → ((x : X) → f x ≡ g x) → filter f xs ≡ filter g xs
filter_same f g [] h = refl
filter_same f g (x ∷ xs) h =
    let rest = filter_same f g xs h in
    ap (λ b. if b then x ∷ filter f xs else filter f xs) (h x) ∙ ap (λ l. if g x then x ∷ l else l) rest

pending_still : (seats : List Seat) (t es : List Entry) → Each IsStill es → pending seats (t ++ es) ≡ pending seats t
pending_still seats t es h =
    ap (filter (λ p. not (was_ended (t ++ es) p))) (pairs_still seats t es h)
    ∙ filter_same (λ p. not (was_ended (t ++ es) p)) (λ p. not (was_ended t p)) (pairs seats t) (λ p. ap not (ended_still p t es h))

-- the stored pairs are the same in number after entries that neither put a frame nor end a pair
pub dues_still : (seats : List Seat) (old new : Log) (es : List Entry) → IsBook seats old → IsBook seats new → said new ≡ said old ++ es
    → Each IsStill es → length new.due.dues ≡ length old.due.dues
dues_still seats old new es a b e h =
    dues_long seats new b
    ∙ (ap (λ t. length (pending seats t)) e ∙ (ap length (pending_still seats (said old) es h) ∙ sym (dues_long seats old a)))

-- as many lines as entries
pub lines_long : (old new : Log) (es : List Entry) → said new ≡ said old ++ es → vec_len new.lines ≡ vec_len old.lines + length es
lines_long old new es e =
    let a = length-map old.lines.items (entry_at old.kept.items) in
    let b = length-map new.lines.items (entry_at new.kept.items) in
    let long = ap length e in
    let parts = length-append (said old) es in
    omega (arith, a, b, long, parts, old.lines.ok.0, new.lines.ok.0)

-- A datagram waits, on cables with room for what is held.
pub record Waits (rooms : Rooms) (places : Places) (s : Sender) (to : Next) (bytes : List ℕ) : Type 0 where
  pub one : length (held_next places s.cable to bytes) ≡ 1
  pub still : Each IsStill (leg places s to bytes)
  pub few : length (leg places s to bytes) ≤ 1
  pub with_room : rooms ≡ held_rooms

-- a datagram waits only on cables with room for what is held
pub may_wait : (rooms : Rooms) (places : Places) → AreRooms rooms → (rooms ≡ known_rooms → IsAnswering places) → (s : Sender) (to : Next)
    (bytes : List ℕ) → (held_next places s.cable to bytes ≡ []) ⊎ Waits rooms places s to bytes
may_wait rooms places are known s (next.Station a) bytes = by (places.finds s.cable a) refl
  where
    held : AreRooms rooms → is_later (places.finds s.cable a) ≡ true → rooms ≡ held_rooms
    held (inl e) l = let n = known e s.cable a in cc
    held (inr e) l = e

    waits : places.finds s.cable a ≡ Later → (b : Bool) → same_address (target bytes) a ≡ b → Waits rooms places s (next.Station a) bytes
    waits e true p = record {
      one = rw e refl;
      still = rw (e, p) (tt, tt);
      few = rw (e, p) (omega arith);
      with_room = held are (ap is_later e);
    }
    waits e false p = record {
      one = rw e refl;
      still = rw (e, p) tt;
      few = rw (e, p) (omega arith);
      with_room = held are (ap is_later e);
    }

    by : (f : Found) → places.finds s.cable a ≡ f
        → (held_next places s.cable (next.Station a) bytes ≡ []) ⊎ Waits rooms places s (next.Station a) bytes
    by (At hw) e = inl (ap (λ f. held_by f s.cable a bytes) e)
    by Nobody e = inl (ap (λ f. held_by f s.cable a bytes) e)
    by Later e = inr (waits e (same_address (target bytes) a) refl)
may_wait rooms places are known s next.All bytes = inl refl
may_wait rooms places are known s (next.Group g) bytes = inl refl
