-- Each step keeps the invariant of a log.
use Rattle.std.proofs.Common.{◌≡◌, ℕ, zero, suc, ◌<◌, ◌≤◌, Bool, true, false, not, ◌||◌, ◌&&◌, List, [], ◌∷◌, ◌++◌, Some}
use Rattle.std.proofs.Common.{ap, ap₂, append-nil, arith, filter, length, length-append, map, refl, slice_get, subst, sym, ◌∙◌}
use Rattle.std.specs.List.{list_all, list_any, AllByRecursion as Each}
use Rattle.std.proofs.lemmas.Bool.{and_parts}
use Rattle.std.proofs.lemmas.List.Folds.{list_all-append}
use Rattle.std.proofs.lemmas.List.{map-append}
use Rattle.cable_model.proofs.Counting.{any-append, each-append, each_all, each_more}
use Rattle.cable_model.proofs.Left.{IsNew, IsStoredAll, filter_all, stored_left, stored_more}
use Rattle.cable_model.proofs.Pairs.{below_more, numbered-append, pairs-append}
use Rattle.cable_model.proofs.Stamps.{above_more, holds-append, next_after, once_after}
use Rattle.cable_model.specs.Books.{EndsBelow, Grows, IsBook, IsDue, IsHeldAt, Names, frame_of, has_took, held, hold_at}
use Rattle.cable_model.specs.Books.{holding_of}
use Rattle.cable_model.specs.Books.{pair_at, said, seat_at}
use Rattle.cable_model.specs.Holdings.{holds, holds_of, releases, still_held}
use Rattle.cable_model.specs.Logs.{bytes_at, entry_at}
use Rattle.cable_model.specs.Order.{all_placed, in_order}
use Rattle.cable_model.specs.Outcomes.{Held, held_at}
use Rattle.cable_model.specs.Pending.{Pair, ends, pairs, pairs_of, pending, was_ended}
use Rattle.cable_model.specs.Transcript.{AreNumbered, ArePutOnce, HasStamp, is_plain, stamps}
use Rattle.cable_model.specs.Transcript.{Entry, Hold, Holding, Sent, Put, Reached, Dropped, Took, Lost, has_put, next_stamp}
use Rattle.cable_model.specs.Transcript.{stamp_after}
use Rattle.cable_model.specs.Waits.{due_key, hold_key, pair_key}
use Rattle.cable_model.specs.declared.due.Due.{Due}
use Rattle.cable_model.specs.declared.entry.Entry.{Entry as Line}
use Rattle.cable_model.specs.declared.entry.Entry.TheVariants as line
use Rattle.cable_model.specs.declared.log.Log.{Log}
use Rattle.cable_model.specs.declared.seat.Seat.{Seat}
use Rattle.cable_model.specs.declared.waiting.Waiting.{Waiting}
use Rattle.ddp.specs.Bodies.{body}

-- ---- elements of a list that grew

get_front : {X : Type 0} (xs ys : List X) (n : ℕ) → n < length xs → slice_get (xs ++ ys) n ≡ slice_get xs n
get_front [] ys n h = absurd (omega arith)
get_front (x ∷ xs) ys zero h = refl
get_front (x ∷ xs) ys (suc n) h = get_front xs ys n (omega arith)

pub get_more : {X : Type 0} (xs ys : List X) (n : ℕ) (x : X) → slice_get xs n ≡ Some x → slice_get (xs ++ ys) n ≡ Some x
get_more [] ys n x e = cc
get_more (y ∷ xs) ys zero x e = e
get_more (y ∷ xs) ys (suc n) x e = get_more xs ys n x e

pub get_last : {X : Type 0} (xs : List X) (x : X) → slice_get (xs ++ x ∷ []) (length xs) ≡ Some x
get_last [] x = refl
get_last (y ∷ xs) x = get_last xs x

pub bytes_last : (kept : List (List ℕ)) (b : List ℕ) → bytes_at (kept ++ b ∷ []) (length kept) ≡ b
bytes_last kept b = rw (get_last kept b)

-- ---- the meaning of byte numbers, when more bytes are stored

module _ (kept more : List (List ℕ)) where
  bytes_same : (n : ℕ) → n < length kept → bytes_at (kept ++ more) n ≡ bytes_at kept n
  bytes_same n h = rw (get_front kept more n h)

  entry_same : (l : Line) → Names (length kept) l → entry_at (kept ++ more) l ≡ entry_at kept l
  entry_same (line.Sent s n) h = ap (λ b. Sent s (body b)) (bytes_same n h)
  entry_same (line.Put stamp cable sender to kind n) h =
      ap (λ b. Put (record { stamp = stamp; cable = cable; sender = sender; to = to; kind = kind; bytes = b })) (bytes_same n h)
  entry_same (line.Took p s) h = refl
  entry_same (line.Reached c s how n) h = ap (λ b. Reached c s how (body b)) (bytes_same n h)
  entry_same (line.Dropped r cause n) h = ap (λ b. Dropped r cause (body b)) (bytes_same n h)
  entry_same (line.Lost p) h = refl
  entry_same (line.Hold stamp cable station next n) h =
      ap (λ b. Hold (record { stamp = stamp; cable = cable; station = station; next = next; bytes = b })) (bytes_same n h)

  entries_same : (ls : List Line) → Each (Names (length kept)) ls → map (entry_at (kept ++ more)) ls ≡ map (entry_at kept) ls
  entries_same [] h = refl
  entries_same (l ∷ ls) h = let a = entry_same l h.0 in let b = entries_same ls h.1 in cc

  held_one : (w : Waiting) → w.bytes < length kept → held_at (kept ++ more) w ≡ held_at kept w
  held_one w h = ap (λ b. record { cable = w.cable; next = w.next; bytes = b }) (bytes_same w.bytes h)

  held_same : (ws : List Waiting) → Each (λ w. w.bytes < length kept) ws → map (held_at (kept ++ more)) ws ≡ map (held_at kept) ws
  held_same [] h = refl
  held_same (w ∷ ws) h = let a = held_one w h.0 in let b = held_same ws h.1 in cc

names_more : (n m : ℕ) → n ≤ m → (l : Line) → Names n l → Names m l
names_more n m le (line.Sent s k) h = omega arith
names_more n m le (line.Put stamp cable sender to kind k) h = omega arith
names_more n m le (line.Took p s) h = tt
names_more n m le (line.Reached c s how k) h = omega arith
names_more n m le (line.Dropped r cause k) h = omega arith
names_more n m le (line.Lost p) h = tt
names_more n m le (line.Hold stamp cable station next k) h = omega arith

-- The entries and waiting datagrams that were added, and that they name stored bytes.
pub record Extends (old new : Log) (es : List Entry) (hs : List Held) : Type 0 where
  pub grows : Grows old new es hs
  pub named : Each (Names (length new.kept.items)) new.lines.items
  pub waits : Each (λ w. w.bytes < length new.kept.items) new.waiting.items

pub extends : (seats : List Seat) (old new : Log) (ls : List Line) (bs : List (List ℕ)) (ws : List Waiting) → IsBook seats old
    → new.lines.items ≡ old.lines.items ++ ls → new.kept.items ≡ old.kept.items ++ bs → new.waiting.items ≡ old.waiting.items ++ ws
    → Each (Names (length new.kept.items)) ls → Each (λ w. w.bytes < length new.kept.items) ws
    → Extends old new (map (entry_at new.kept.items) ls) (map (held_at new.kept.items) ws)
extends seats old new ls bs ws book lines kept waiting names waits =
    let long = ap length kept ∙ length-append old.kept.items bs in
    let le : length old.kept.items ≤ length new.kept.items = omega (arith, long) in
    let first : map (entry_at new.kept.items) old.lines.items ≡ said old =
    ap (λ k. map (entry_at k) old.lines.items) kept ∙ entries_same old.kept.items bs old.lines.items book.named in
    let waited : map (held_at new.kept.items) old.waiting.items ≡ held old =
    ap (λ k. map (held_at k) old.waiting.items) kept ∙ held_same old.kept.items bs old.waiting.items book.waits in
    record {
      grows = record {
        said =
            ap (map (entry_at new.kept.items)) lines ∙ map-append (entry_at new.kept.items) old.lines.items ls
            ∙ ap (λ l. l ++ map (entry_at new.kept.items) ls) first;
        held =
            ap (map (held_at new.kept.items)) waiting ∙ map-append (held_at new.kept.items) old.waiting.items ws
            ∙ ap (λ l. l ++ map (held_at new.kept.items) ws) waited;
        lines = (ls, lines);
        kept = (bs, kept);
      };
      named =
          subst (λ l. Each (Names (length new.kept.items)) l) (sym lines)
          (each-append (Names (length new.kept.items)) old.lines.items ls
          (each_more (Names (length old.kept.items)) (Names (length new.kept.items)) old.lines.items (names_more _ _ le) book.named) names);
      waits =
          subst (λ l. Each (λ w. w.bytes < length new.kept.items) l) (sym waiting)
          (each-append (λ w. w.bytes < length new.kept.items) old.waiting.items ws
          (each_more (λ w. w.bytes < length old.kept.items) (λ w. w.bytes < length new.kept.items) old.waiting.items (λ w h. omega arith)
          book.waits) waits);
    }

-- ---- stored pairs and holdings, after entries were added

-- the frame of a stored pair has the pair's stamp
pub stamp_is : (seats : List Seat) (t : List Entry) (d : Due) → IsDue seats t d → (frame_of (slice_get t d.put)).stamp ≡ d.stamp
stamp_is seats t d h = ap (λ o. (frame_of o).stamp) h.put ∙ h.stamp

-- a stored pair stands where the pair does that it names
pub key_is : (seats : List Seat) (t : List Entry) (d : Due) → IsDue seats t d → pair_key (pair_at seats t d) ≡ due_key d
key_is seats t d h = ap₂ (λ (m n : ℕ). (m, n)) (stamp_is seats t d h) h.station

-- the held datagram that is stored has the stored stamp
pub held_stamp_is : (t : List Entry) (d : Due) → IsHeldAt t d → (hold_at t d).stamp ≡ d.stamp
held_stamp_is t d h = ap (λ o. (holding_of o).stamp) h.put ∙ h.stamp

-- what is stored of a held datagram stands where the datagram does
pub held_key_is : (t : List Entry) (d : Due) → IsHeldAt t d → hold_key (hold_at t d) ≡ due_key d
held_key_is t d h =
    ap₂ (λ (m n : ℕ). (m, n)) (held_stamp_is t d h) (ap (λ o. (holding_of o).station) h.put ∙ h.station)

pub due_one : (seats : List Seat) (t es : List Entry) (d : Due) → IsDue seats t d → IsDue seats (t ++ es) d
due_one seats t es d h =
    record { seat = h.seat; frame = h.frame; put = get_more t es d.put (Put h.frame) h.put; stamp = h.stamp; station = h.station }

pub pair_one : (seats : List Seat) (t es : List Entry) (d : Due) → IsDue seats t d → pair_at seats (t ++ es) d ≡ pair_at seats t d
pair_one seats t es d h =
    ap (λ o. record { frame = frame_of o; seat = seat_at seats d.seat })
    (get_more t es d.put (Put h.frame) h.put ∙ sym h.put)

pub held_more : (t es : List Entry) (d : Due) → IsHeldAt t d → IsHeldAt (t ++ es) d
held_more t es d h =
    record { held = h.held; put = get_more t es d.put (Hold h.held) h.put; stamp = h.stamp; station = h.station }

pub held_same_at : (t es : List Entry) (d : Due) → IsHeldAt t d → hold_at (t ++ es) d ≡ hold_at t d
held_same_at t es d h = ap holding_of (get_more t es d.put (Hold h.held) h.put ∙ sym h.put)

-- ---- the pairs and holdings after one more entry

-- the pairs after an entry
pub pairs_after : (seats : List Seat) (t : List Entry) (e : Entry) → pairs seats (t ++ e ∷ []) ≡ pairs seats t ++ pairs_of seats e
pairs_after seats t e = pairs-append seats t (e ∷ []) ∙ ap (λ l. pairs seats t ++ l) (append-nil (pairs_of seats e))

-- the holdings after an entry
pub holds_after : (t : List Entry) (e : Entry) → holds (t ++ e ∷ []) ≡ holds t ++ holds_of e
holds_after t e = holds-append t (e ∷ []) ∙ ap (λ l. holds t ++ l) (append-nil (holds_of e))

-- The stored pairs are the pending ones.
abbrev pub ArePending : List Seat → List Entry → List Due → Type 0
ArePending seats t ds = IsStoredAll pair_key (pair_at seats t) (IsDue seats t) ds (pending seats t)

-- What is stored of held datagrams is what is still held.
abbrev pub AreHolding : List Entry → List Due → Type 0
AreHolding t ds = IsStoredAll hold_key (hold_at t) (IsHeldAt t) ds (still_held t)

-- an entry that puts no frame, and ends the pairs that pass a test
pub pending_left : (seats : List Seat) (t : List Entry) (e : Entry) (test : Due → Bool) (ds es : List Due) → ArePending seats t ds
    → ((d : Due) → IsDue seats t d → test d ≡ ends (pair_at seats t d) e) → es ≡ filter (λ d. not (test d)) ds
    → pairs_of seats e ≡ [] → ArePending seats (t ++ e ∷ []) es
pending_left seats t e test ds es old agree is none =
    subst (λ all. IsStoredAll pair_key (pair_at seats (t ++ e ∷ [])) (IsDue seats (t ++ e ∷ [])) es
    (filter (λ q. not (was_ended (t ++ e ∷ []) q)) all)) (sym (pairs_after seats t e))
    (stored_left ends pair_key (pair_at seats) (IsDue seats) t e (due_one seats t (e ∷ [])) (pair_one seats t (e ∷ []))
    (pairs seats t) (pairs_of seats e) test ds es old agree is none)

-- an entry that holds nothing, and ends the holdings that pass a test
pub holding_left : (t : List Entry) (e : Entry) (test : Due → Bool) (ds es : List Due) → AreHolding t ds
    → ((d : Due) → IsHeldAt t d → test d ≡ releases (hold_at t d).stamp e) → es ≡ filter (λ d. not (test d)) ds
    → holds_of e ≡ [] → AreHolding (t ++ e ∷ []) es
holding_left t e test ds es old agree is none =
    subst (λ all. IsStoredAll hold_key (hold_at (t ++ e ∷ [])) (IsHeldAt (t ++ e ∷ [])) es
    (filter (λ (h : Holding). not (list_any (releases h.stamp) (t ++ e ∷ []))) all)) (sym (holds_after t e))
    (stored_left (λ (h : Holding). releases h.stamp) hold_key hold_at IsHeldAt t e (held_more t (e ∷ [])) (held_same_at t (e ∷ []))
    (holds t) (holds_of e) test ds es old agree is none)

no_test : {X : Type 0} (ds : List X) → ds ≡ filter (λ d. not false) ds
no_test ds = sym (filter_all (λ d. not false) ds (each_all _ _ (λ d. refl)))

-- an entry that puts no frame and ends no pair
pub pending_kept : (seats : List Seat) (t : List Entry) (e : Entry) (ds es : List Due) → ArePending seats t ds
    → ((q : Pair) → ends q e ≡ false) → es ≡ ds → pairs_of seats e ≡ [] → ArePending seats (t ++ e ∷ []) es
pending_kept seats t e ds es old quiet is none =
    pending_left seats t e (λ d. false) ds es old (λ d h. sym (quiet (pair_at seats t d))) (is ∙ no_test ds) none

-- an entry that holds nothing and ends no holding
pub holding_kept : (t : List Entry) (e : Entry) (ds es : List Due) → AreHolding t ds
    → ((stamp : ℕ) → releases stamp e ≡ false) → es ≡ ds → holds_of e ≡ [] → AreHolding (t ++ e ∷ []) es
holding_kept t e ds es old quiet is none =
    holding_left t e (λ d. false) ds es old (λ d h. sym (quiet (hold_at t d).stamp)) (is ∙ no_test ds) none

-- an entry that puts a frame
pub pending_more : (seats : List Seat) (t : List Entry) (e : Entry) (ds more es : List Due) → ArePending seats t ds
    → ((q : Pair) → ends q e ≡ false) → es ≡ all_placed due_key ds more → Each (IsDue seats (t ++ e ∷ [])) more
    → map (pair_at seats (t ++ e ∷ [])) more ≡ pairs_of seats e → Each (IsNew ends t e) (pairs_of seats e)
    → ArePending seats (t ++ e ∷ []) es
pending_more seats t e ds more es old quiet is later named fresh =
    subst (λ all. IsStoredAll pair_key (pair_at seats (t ++ e ∷ [])) (IsDue seats (t ++ e ∷ [])) es
    (filter (λ q. not (was_ended (t ++ e ∷ []) q)) all)) (sym (pairs_after seats t e))
    (stored_more ends pair_key (pair_at seats) (IsDue seats) t e (due_one seats t (e ∷ [])) (pair_one seats t (e ∷ []))
    (pairs seats t) (pairs_of seats e) ds more es old quiet (key_is seats (t ++ e ∷ [])) is later named fresh)

-- an entry that holds a datagram
pub holding_more : (t : List Entry) (e : Entry) (ds more es : List Due) → AreHolding t ds
    → ((stamp : ℕ) → releases stamp e ≡ false) → es ≡ all_placed due_key ds more → Each (IsHeldAt (t ++ e ∷ [])) more
    → map (hold_at (t ++ e ∷ [])) more ≡ holds_of e → Each (IsNew (λ (h : Holding). releases h.stamp) t e) (holds_of e)
    → AreHolding (t ++ e ∷ []) es
holding_more t e ds more es old quiet is later named fresh =
    subst (λ all. IsStoredAll hold_key (hold_at (t ++ e ∷ [])) (IsHeldAt (t ++ e ∷ [])) es
    (filter (λ (h : Holding). not (list_any (releases h.stamp) (t ++ e ∷ []))) all)) (sym (holds_after t e))
    (stored_more (λ (h : Holding). releases h.stamp) hold_key hold_at IsHeldAt t e (held_more t (e ∷ [])) (held_same_at t (e ∷ []))
    (holds t) (holds_of e) ds more es old (λ h. quiet h.stamp) (held_key_is (t ++ e ∷ [])) is later named fresh)

-- ---- the whole invariant

-- The facts about one more entry: no frame had the stamp of the frame that it puts, it ends only what has an earlier
-- stamp, what it takes had been put, and its frame is numbered where nothing was held.
pub record IsInOrder (n : ℕ) (t : List Entry) (e : Entry) : Type 0 where
  pub fresh : (stamp : ℕ) → has_put stamp e ≡ true → list_any (has_put stamp) t ≡ false
  pub below : EndsBelow n e
  pub put_first : (stamp : ℕ) → has_took stamp e ≡ true → list_any (has_put stamp) t ≡ true
  pub numbered : is_plain e ≡ true → list_all is_plain t ≡ true → AreNumbered 0 t → HasStamp (stamps t) e

next_more : (n : ℕ) (e : Entry) → n ≤ stamp_after n e
next_more n (Put f) = above_more n f.stamp
next_more n (Hold h) = above_more n h.stamp
next_more n (Sent s b) = omega arith
next_more n (Took p s) = omega arith
next_more n (Reached c s w b) = omega arith
next_more n (Dropped r c b) = omega arith
next_more n (Lost p) = omega arith

-- what was taken had been put, after one more entry
first_after : (t : List Entry) (e : Entry) (stamp : ℕ)
    → (list_any (has_took stamp) t ≡ true → list_any (has_put stamp) t ≡ true)
    → (has_took stamp e ≡ true → list_any (has_put stamp) t ≡ true)
    → list_any (has_took stamp) (t ++ e ∷ []) ≡ true → list_any (has_put stamp) (t ++ e ∷ []) ≡ true
first_after t e stamp before now h =
    any-append (has_put stamp) t (e ∷ [])
    ∙ ap (λ b. b || (has_put stamp e || false))
    (either (list_any (has_took stamp) t) (has_took stamp e) before now (sym (any-append (has_took stamp) t (e ∷ [])) ∙ h))
  where
    either : (a b : Bool) → (a ≡ true → list_any (has_put stamp) t ≡ true) → (b ≡ true → list_any (has_put stamp) t ≡ true)
        → (a || (b || false)) ≡ true → list_any (has_put stamp) t ≡ true
    either true b f g e = f refl
    either false true f g e = g refl
    either false false f g e = cc

-- frames are numbered where nothing was held, after one more entry
numbered_after : (t : List Entry) (e : Entry) → (list_all is_plain t ≡ true → AreNumbered 0 t)
    → (is_plain e ≡ true → list_all is_plain t ≡ true → AreNumbered 0 t → HasStamp (stamps t) e)
    → list_all is_plain (t ++ e ∷ []) ≡ true → AreNumbered 0 (t ++ e ∷ [])
numbered_after t e before here plain =
    let p = and_parts (list_all is_plain t) (is_plain e && true) (sym (list_all-append is_plain t (e ∷ [])) ∙ plain) in
    let q = and_parts (is_plain e) true p.1 in
    let n = before p.0 in
    numbered-append 0 t (e ∷ []) n (subst (λ k. HasStamp k e) (omega arith) (here q.0 p.0 n), tt)

-- the invariant after one more entry
pub book_after : (seats : List Seat) (old new : Log) (l : Line) → IsBook seats old → new.lines.items ≡ old.lines.items ++ l ∷ []
    → new.kept ≡ old.kept → new.waiting ≡ old.waiting → Names (length old.kept.items) l
    → new.next_stamp ≡ stamp_after old.next_stamp (entry_at old.kept.items l)
    → IsInOrder new.next_stamp (said old) (entry_at old.kept.items l)
    → ArePending seats (said old ++ entry_at old.kept.items l ∷ []) new.due.dues
    → AreHolding (said old ++ entry_at old.kept.items l ∷ []) new.holdings.dues → IsBook seats new
book_after seats old new l book lines kept waiting names next order due held =
    let k : new.kept.items ≡ old.kept.items = ap (λ k. k.items) kept in
    let named : Names (length new.kept.items) l = subst (λ k. Names (length k) l) (sym k) names in
    let x = extends seats old new (l ∷ []) [] [] book lines (k ∙ sym (append-nil _)) (ap (λ w. w.items) waiting ∙ sym (append-nil _))
    (named, tt) tt in
    let e = entry_at old.kept.items l in
    let t : said old ++ e ∷ [] ≡ said new = sym (x.grows.said ∙ ap (λ k. said old ++ entry_at k l ∷ []) k) in
    let more : old.next_stamp ≤ new.next_stamp =
    (let m = next_more old.next_stamp e in omega (arith, m, next)) in
    record {
      named = x.named;
      waits = x.waits;
      next =
          next ∙ (ap (λ n. stamp_after n e) book.next ∙ (sym (next_after (said old) e) ∙ ap next_stamp t));
      once = subst ArePutOnce t (once_after (said old) e book.once order.fresh);
      below =
          subst (λ l. Each (EndsBelow new.next_stamp) l) t
          (each-append (EndsBelow new.next_stamp) (said old) (e ∷ [])
          (each_more (EndsBelow old.next_stamp) (EndsBelow new.next_stamp) (said old)
          (below_more old.next_stamp new.next_stamp more) book.below) (order.below, tt));
      numbered =
          subst (λ l. list_all is_plain l ≡ true → AreNumbered 0 l) t (numbered_after (said old) e book.numbered order.numbered);
      put_first = λ stamp.
          subst (λ l. list_any (has_took stamp) l ≡ true → list_any (has_put stamp) l ≡ true) t
          (first_after (said old) e stamp (book.put_first stamp) (order.put_first stamp));
      due = subst (λ l. Each (IsDue seats l) new.due.dues) t due.each;
      pending = subst (λ l. map (pair_at seats l) new.due.dues ≡ in_order pair_key (pending seats l)) t due.all;
      held = subst (λ l. Each (IsHeldAt l) new.holdings.dues) t held.each;
      holdings = subst (λ l. map (hold_at l) new.holdings.dues ≡ in_order hold_key (still_held l)) t held.all;
    }

-- only bytes and datagrams that are to be held were added
pub book_same : (seats : List Seat) (old new : Log) (hs : List Held) → IsBook seats old → Extends old new [] hs
    → new.next_stamp ≡ old.next_stamp → new.due.dues ≡ old.due.dues → new.holdings.dues ≡ old.holdings.dues → IsBook seats new
book_same seats old new hs book x next due held =
    let t : said old ≡ said new = sym (x.grows.said ∙ append-nil (said old)) in
    record {
      named = x.named;
      waits = x.waits;
      next = next ∙ (book.next ∙ ap next_stamp t);
      once = subst ArePutOnce t book.once;
      numbered = subst (λ l. list_all is_plain l ≡ true → AreNumbered 0 l) t book.numbered;
      below = subst (λ l. Each (EndsBelow new.next_stamp) l) t (subst (λ n. Each (EndsBelow n) (said old)) (sym next) book.below);
      put_first = λ stamp.
          subst (λ l. list_any (has_took stamp) l ≡ true → list_any (has_put stamp) l ≡ true) t (book.put_first stamp);
      due = subst (λ l. Each (IsDue seats l) new.due.dues) t (subst (λ ds. Each (IsDue seats (said old)) ds) (sym due) book.due);
      pending =
          subst (λ l. map (pair_at seats l) new.due.dues ≡ in_order pair_key (pending seats l)) t
          (ap (map (pair_at seats (said old))) due ∙ book.pending);
      held = subst (λ l. Each (IsHeldAt l) new.holdings.dues) t (subst (λ ds. Each (IsHeldAt (said old)) ds) (sym held) book.held);
      holdings =
          subst (λ l. map (hold_at l) new.holdings.dues ≡ in_order hold_key (still_held l)) t
          (ap (map (hold_at (said old))) held ∙ book.holdings);
    }
