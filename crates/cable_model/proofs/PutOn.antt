-- The stored pairs of a frame that is put on a cable.
use Rattle.std.proofs.Common.{◌≡◌, ℕ, suc, ◌+◌, ◌<◌, Bool, true, false, not, cond, ◌&&◌, ◌==◌, List, [], ◌∷◌, ◌++◌, Some}
use Rattle.std.proofs.Common.{ap, arith, filter, if◌then◌else◌, length, map, refl, slice_get, slice_index, subst, sym, ◌∙◌}
use Rattle.std.proofs.Common.{eqb-true, ne_eqb, ◌||◌}
use Rattle.std.specs.List.{list_all, list_any, AllByRecursion as Each}
use Rattle.std.proofs.lemmas.List.{length-map}
use Rattle.std.proofs.lemmas.Option.{slice_get_within}
use Rattle.at_base.specs.declared.address.Hw.{Hw}
use Rattle.at_base.specs.Text.{same_bytes}
use Rattle.std.proofs.lemmas.Bool.{and_left}
use Rattle.cable_model.proofs.Books.{book_after, get_last, held_stamp_is, holding_left, pending_more}
use Rattle.cable_model.proofs.Counting.{each_all, each_map}
use Rattle.cable_model.proofs.Ended.{swapped}
use Rattle.cable_model.proofs.Left.{IsNew}
use Rattle.cable_model.proofs.Stamps.{above_next, above_same, not_put_yet, numbered_stamp, open_below, open_not_lost, open_not_put}
use Rattle.cable_model.specs.Books.{EndsBelow, IsBook, IsDue, IsHeldAt, dues, has_took, hold_at, pair_at, said}
use Rattle.cable_model.specs.Holdings.{has_number, holds, is_open, releases, was_released}
use Rattle.cable_model.specs.Logs.{bytes_at, entry_at}
use Rattle.cable_model.specs.Order.{all_placed}
use Rattle.cable_model.specs.Outcomes.{is_for_as, link_of}
use Rattle.cable_model.specs.Waits.{due_key}
use Rattle.cable_model.specs.Pending.{Pair, ends, is_for, is_heard, listens, was_ended}
use Rattle.at_base.specs.Multicast.{is_all, is_group}
use Rattle.cable_model.specs.Transcript.{AreNumbered, Holding, is_plain, stamps}
use Rattle.cable_model.specs.Transcript.{Entry, Frame, Sent, Put, Took, Reached, Dropped, Lost, Hold, above, has_put, next_stamp}
use Rattle.cable_model.specs.declared.entry.Entry.TheVariants as line
use Rattle.cable_model.specs.declared.due.Due.{Due}
use Rattle.cable_model.specs.declared.log.Log.{Log}
use Rattle.cable_model.specs.declared.seat.Seat.{Seat}
use Rattle.station.specs.declared.heard.Kind.{Kind}
use Rattle.station.specs.declared.heard.Link.TheVariants as link

-- the stations that a frame is for, by its link
pub is_for_is : (to : Hw) (sender : ℕ) (s : Seat) → is_for_as (link_of to) to sender s ≡ is_for to sender s
is_for_is to sender s = by (is_all to) (is_group to)
  where
    by : (a b : Bool)
        → is_for_as (if a then link.All else if b then link.Group (slice_index to.0 5) else link.Own) to sender s
        ≡ (if a then not (s.station == sender)
        else if b then not (s.station == sender) && listens (slice_index to.0 5) s.group
        else same_bytes s.hw.0 to.0)
    by true b = refl
    by false true = refl
    by false false = refl

dues_agree : (t u : Seat → Bool) (stamp put k : ℕ) (ss : List Seat) → ((s : Seat) → t s ≡ u s)
    → dues t stamp put k ss ≡ dues u stamp put k ss
dues_agree t u stamp put k [] h = refl
dues_agree t u stamp put k (s ∷ ss) h =
    ap (λ b. cond b (record { stamp = stamp; station = s.station; put = put; seat = k } ∷ dues t stamp put (k + 1) ss)
    (dues t stamp put (k + 1) ss)) (h s)
    ∙ ap (λ l. cond (u s) (record { stamp = stamp; station = s.station; put = put; seat = k } ∷ l) l)
    (dues_agree t u stamp put (k + 1) ss h)

-- the rest of a list of seats, from an index on
abbrev pub IsRest : List Seat → ℕ → List Seat → Type 0
IsRest seats k rest = (i : ℕ) (s : Seat) → slice_get rest i ≡ Some s → slice_get seats (k + i) ≡ Some s

pub rest_next : (seats rest : List Seat) (s : Seat) (k : ℕ) → IsRest seats k (s ∷ rest) → IsRest seats (k + 1) rest
rest_next seats rest s k h = λ i x e.
    let same : k + suc i ≡ (k + 1) + i = omega arith in
    subst (λ n. slice_get seats n ≡ Some x) same (h (suc i) x e)

pub rest_first : (seats rest : List Seat) (s : Seat) (k : ℕ) → IsRest seats k (s ∷ rest) → slice_get seats k ≡ Some s
rest_first seats rest s k h =
    let same : k + 0 ≡ k = omega arith in
    subst (λ n. slice_get seats n ≡ Some s) same (h 0 s refl)

module _ (test : Seat → Bool) (seats : List Seat) (t : List Entry) (f : Frame) (put : ℕ) (there : slice_get t put ≡ Some (Put f)) where
  dues_pairs : (k : ℕ) (rest : List Seat) → IsRest seats k rest
      → map (pair_at seats t) (dues test f.stamp put k rest) ≡ map (λ s. record { frame = f; seat = s }) (filter test rest)
  dues_pairs k [] h = refl
  dues_pairs k (s ∷ rest) h = by (test s) (dues_pairs (k + 1) rest (rest_next seats rest s k h))
    where
      here : pair_at seats t (record { stamp = f.stamp; station = s.station; put = put; seat = k }) ≡ record { frame = f; seat = s }
      here = rw (there, rest_first seats rest s k h)

      by : (b : Bool)
          → map (pair_at seats t) (dues test f.stamp put (k + 1) rest) ≡ map (λ s. record { frame = f; seat = s }) (filter test rest)
          → map (pair_at seats t)
          (cond b (record { stamp = f.stamp; station = s.station; put = put; seat = k } ∷ dues test f.stamp put (k + 1) rest)
          (dues test f.stamp put (k + 1) rest))
          ≡ map (λ s. record { frame = f; seat = s }) (cond b (s ∷ filter test rest) (filter test rest))
      by true e = let first = here in cc
      by false e = e

  dues_due : (k : ℕ) (rest : List Seat) → IsRest seats k rest → Each (IsDue seats t) (dues test f.stamp put k rest)
  dues_due k [] h = tt
  dues_due k (s ∷ rest) h = by (test s) (dues_due (k + 1) rest (rest_next seats rest s k h))
    where
      by : (b : Bool) → Each (IsDue seats t) (dues test f.stamp put (k + 1) rest)
          → Each (IsDue seats t)
          (cond b (record { stamp = f.stamp; station = s.station; put = put; seat = k } ∷ dues test f.stamp put (k + 1) rest)
          (dues test f.stamp put (k + 1) rest))
      by true e = (
        record {
          seat = slice_get_within seats k s (rest_first seats rest s k h);
          frame = f;
          put = there;
          stamp = refl;
          station = rw (rest_first seats rest s k h) refl;
        },
        e,
      )
      by false e = e

-- ---- the invariant

-- the entry is the loss of this stamp
abbrev has_lost : ℕ → Entry → Bool
has_lost stamp (Lost lost) = stamp == lost
has_lost stamp _ = false

or_parts : (a b : Bool) → (a || b) ≡ false → (a ≡ false) × (b ≡ false)
or_parts true b e = cc
or_parts false b e = (refl, e)

-- no entry ended the pairs of a frame whose stamp none was taken or lost with
ended_not : (t : List Entry) (q : Pair) → list_any (has_took q.frame.stamp) t ≡ false → list_any (has_lost q.frame.stamp) t ≡ false
    → was_ended t q ≡ false
ended_not [] q a b = refl
ended_not (e ∷ t) q a b =
    let x = or_parts (has_took q.frame.stamp e) (list_any (has_took q.frame.stamp) t) a in
    let y = or_parts (has_lost q.frame.stamp e) (list_any (has_lost q.frame.stamp) t) b in
    ap (λ c. c || was_ended t q) (here e x.0 y.0) ∙ ended_not t q x.1 y.1
  where
    here : (e : Entry) → has_took q.frame.stamp e ≡ false → has_lost q.frame.stamp e ≡ false → ends q e ≡ false
    here (Put f) a b = refl
    here (Sent s d) a b = refl
    here (Took k s) a b = and_left (k == q.frame.stamp) _ (swapped k q.frame.stamp ∙ a)
    here (Reached c s w d) a b = refl
    here (Dropped r c d) a b = refl
    here (Lost k) a b = swapped k q.frame.stamp ∙ b
    here (Hold h) a b = refl

-- nothing was taken or lost with a stamp that isn't below n
not_taken_yet : (n : ℕ) (t : List Entry) → Each (EndsBelow n) t → list_any (has_took n) t ≡ false
not_taken_yet n [] h = refl
not_taken_yet n (e ∷ t) h = ap (λ b. b || list_any (has_took n) t) (here e h.0) ∙ not_taken_yet n t h.1
  where
    here : (e : Entry) → EndsBelow n e → has_took n e ≡ false
    here (Put f) h = refl
    here (Sent s d) h = refl
    here (Took k s) h = ne_eqb _ _ (λ e. absurd (omega (arith, e, h)))
    here (Reached c s w d) h = refl
    here (Dropped r c d) h = refl
    here (Lost k) h = refl
    here (Hold g) h = refl

not_lost_yet : (n : ℕ) (t : List Entry) → Each (EndsBelow n) t → list_any (has_lost n) t ≡ false
not_lost_yet n [] h = refl
not_lost_yet n (e ∷ t) h = ap (λ b. b || list_any (has_lost n) t) (here e h.0) ∙ not_lost_yet n t h.1
  where
    here : (e : Entry) → EndsBelow n e → has_lost n e ≡ false
    here (Put f) h = refl
    here (Sent s d) h = refl
    here (Took k s) h = refl
    here (Reached c s w d) h = refl
    here (Dropped r c d) h = refl
    here (Lost k) h = ne_eqb _ _ (λ e. absurd (omega (arith, e, h)))
    here (Hold g) h = refl

-- what wasn't released wasn't lost
not_lost_of : (stamp : ℕ) (t : List Entry) → list_any (releases stamp) t ≡ false → list_any (has_lost stamp) t ≡ false
not_lost_of stamp [] h = refl
not_lost_of stamp (e ∷ t) h =
    let x = or_parts (releases stamp e) (list_any (releases stamp) t) h in
    ap (λ b. b || list_any (has_lost stamp) t) (here e x.0) ∙ not_lost_of stamp t x.1
  where
    here : (e : Entry) → releases stamp e ≡ false → has_lost stamp e ≡ false
    here (Put f) h = refl
    here (Sent s d) h = refl
    here (Took k s) h = refl
    here (Reached c s w d) h = refl
    here (Dropped r c d) h = refl
    here (Lost k) h = h
    here (Hold g) h = refl

-- nothing was held where no entry holds a datagram
none_held : (t : List Entry) → list_all is_plain t ≡ true → holds t ≡ []
none_held [] h = refl
none_held (Put f ∷ t) h = none_held t h
none_held (Sent s d ∷ t) h = none_held t h
none_held (Took k s ∷ t) h = none_held t h
none_held (Reached c s w d ∷ t) h = none_held t h
none_held (Dropped r c d ∷ t) h = none_held t h
none_held (Lost k ∷ t) h = none_held t h
none_held (Hold g ∷ t) h = cc

none_open : (t : List Entry) (stamp : ℕ) → list_all is_plain t ≡ true → is_open t stamp ≡ false
none_open t stamp h =
    ap (λ hs. list_any (has_number stamp) (filter (λ (h : Holding). not (was_released t h)) hs)) (none_held t h)

-- a holding is ended by the frame with its stamp
put_releases : (t : List Entry) (f : Frame) (d : Due) → IsHeldAt t d → (f.stamp == d.stamp) ≡ releases (hold_at t d).stamp (Put f)
put_releases t f d h = swapped f.stamp d.stamp ∙ ap (λ n. n == f.stamp) (sym (held_stamp_is t d h))

-- a frame with a stamp that no frame had, and that nothing was taken or lost with, keeps the invariant
module _ (seats : List Seat) (old new : Log) (stamp cable sender : ℕ) (to : Hw) (kind : Kind) (n : ℕ) (book : IsBook seats old)
    (lines : new.lines.items ≡ old.lines.items ++ line.Put stamp cable sender to kind n ∷ []) (kept : new.kept ≡ old.kept)
    (waiting : new.waiting ≡ old.waiting) (names : n < length old.kept.items)
    (due : new.due.dues ≡ all_placed due_key old.due.dues
    (dues (λ s. s.cable == cable && is_for_as (link_of to) to sender s) stamp (length old.lines.items) 0 seats))
    (gone : new.holdings.dues ≡ filter (λ d. not (stamp == d.stamp)) old.holdings.dues) where
  book_put_as : new.next_stamp ≡ above old.next_stamp stamp → list_any (has_put stamp) (said old) ≡ false
      → list_any (has_took stamp) (said old) ≡ false → list_any (has_lost stamp) (said old) ≡ false
      → (list_all is_plain (said old) ≡ true → AreNumbered 0 (said old) → stamp ≡ stamps (said old)) → IsBook seats new
  book_put_as next fresh untaken unlost numbered =
      let l = line.Put stamp cable sender to kind n in
      let f : Frame = record { stamp = stamp; cable = cable; sender = sender; to = to; kind = kind; bytes = bytes_at old.kept.items n } in
      let es = Put f ∷ [] in
      let long : length (said old) ≡ length old.lines.items = length-map old.lines.items (entry_at old.kept.items) in
      let there : slice_get (said old ++ es) (length old.lines.items) ≡ Some (Put f) =
      subst (λ i. slice_get (said old ++ es) i ≡ Some (Put f)) long (get_last (said old) (Put f)) in
      let more = dues (is_heard f) stamp (length old.lines.items) 0 seats in
      let all : IsRest seats 0 seats = λ i s e. let same : i ≡ 0 + i = omega arith in subst (λ n. slice_get seats n ≡ Some s) same e in
      let ds : new.due.dues ≡ all_placed due_key old.due.dues more =
      due ∙ ap (all_placed due_key old.due.dues)
      (dues_agree (λ s. s.cable == cable && is_for_as (link_of to) to sender s) (is_heard f) stamp
      (length old.lines.items) 0 seats (λ s. ap (λ b. s.cable == cable && b) (is_for_is to sender s))) in
      let later = dues_due (is_heard f) seats (said old ++ es) f (length old.lines.items) there 0 seats all in
      book_after seats old new l book lines kept waiting names next
      (record {
        fresh = λ s h. subst (λ k. list_any (has_put k) (said old) ≡ false) (sym (eqb-true s stamp h)) fresh;
        below = tt;
        put_first = λ s h. absurd_of h;
        numbered = λ p q n. numbered q n;
      })
      (pending_more seats (said old) (Put f) old.due.dues more new.due.dues (record { each = book.due; all = book.pending })
      (λ q. refl) ds later (dues_pairs (is_heard f) seats (said old ++ es) f (length old.lines.items) there 0 seats all)
      (each_map (IsNew ends (said old) (Put f)) (λ s. record { frame = f; seat = s }) (filter (is_heard f) seats)
      (each_all _ _ (λ s. (ended_not (said old) (record { frame = f; seat = s }) untaken unlost, refl)))))
      (holding_left (said old) (Put f) (λ d. stamp == d.stamp) old.holdings.dues new.holdings.dues
      (record { each = book.held; all = book.holdings }) (put_releases (said old) f) gone refl)
    where
      absurd_of : {A : Type 0} → false ≡ true → A
      absurd_of e = cc

  -- a frame with the next stamp
  pub book_put : stamp ≡ old.next_stamp → new.next_stamp ≡ old.next_stamp + 1 → IsBook seats new
  book_put is next =
      let at : stamp ≡ next_stamp (said old) = is ∙ book.next in
      let above' : above old.next_stamp stamp ≡ suc old.next_stamp = ap (above old.next_stamp) is ∙ above_next old.next_stamp in
      book_put_as (omega (arith, above', next))
      (subst (λ k. list_any (has_put k) (said old) ≡ false) (sym at) (not_put_yet (said old)))
      (subst (λ k. list_any (has_took k) (said old) ≡ false) (sym is) (not_taken_yet old.next_stamp (said old) book.below))
      (subst (λ k. list_any (has_lost k) (said old) ≡ false) (sym is) (not_lost_yet old.next_stamp (said old) book.below))
      (λ p n. at ∙ numbered_stamp (said old) n)

  -- the frame of a datagram that was held
  pub book_released : is_open (said old) stamp ≡ true → new.next_stamp ≡ old.next_stamp → IsBook seats new
  book_released held next =
      let unput = open_not_put (said old) stamp held in
      let less = open_below (said old) stamp held in
      let under : stamp < old.next_stamp = omega (arith, less, book.next) in
      book_put_as (next ∙ sym (above_same old.next_stamp stamp under)) unput (untaken (list_any (has_took stamp) (said old)) refl unput)
      (not_lost_of stamp (said old) (open_not_lost (said old) stamp held))
      (λ p n. absurd_is (sym held ∙ none_open (said old) stamp p))
    where
      absurd_is : {A : Type 0} → true ≡ false → A
      absurd_is e = cc

      untaken : (b : Bool) → list_any (has_took stamp) (said old) ≡ b → list_any (has_put stamp) (said old) ≡ false
          → list_any (has_took stamp) (said old) ≡ false
      untaken true e h = absurd_of (sym (book.put_first stamp e) ∙ h)
        where
          absurd_of : {A : Type 0} → true ≡ false → A
          absurd_of e = cc
      untaken false e h = e
