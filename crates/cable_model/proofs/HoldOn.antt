-- Datagrams that are held, in the log.
use Rattle.std.proofs.Common.{◌≡◌, ℕ, zero, suc, ◌+◌, ◌<◌, Bool, true, false, ◌||◌, ◌==◌, List, [], ◌∷◌, ◌++◌, Option, Some, None, refl}
use Rattle.std.proofs.Common.{ap, arith, Contains, eqb-true, find, IfNone, IfSome, length, map, ne_eqb, slice_get, subst, sym, ◌∙◌}
use Rattle.std.specs.Prelude.{is_some}
use Rattle.std.specs.List.{list_any, AllByRecursion as Each}
use Rattle.std.proofs.lemmas.List.{length-map}
use Rattle.cable_model.proofs.Books.{book_after, get_last, held_stamp_is, holding_more, pending_kept}
use Rattle.cable_model.proofs.Counting.{At, each_at, map_at}
use Rattle.cable_model.proofs.Finds.{any_find, any_map, contains_at, find_at}
use Rattle.cable_model.proofs.Order.{any_in_order, in_order_has}
use Rattle.cable_model.proofs.Stamps.{above_next, not_put_yet}
use Rattle.cable_model.specs.Books.{EndsBelow, IsBook, IsHeldAt, IsHeldLine, IsStored, Names, hold_at, holding_of, line_of, said}
use Rattle.cable_model.specs.Holdings.{has_number, is_open, releases, still_held}
use Rattle.cable_model.specs.Logs.{bytes_at, entry_at}
use Rattle.cable_model.specs.Order.{all_placed}
use Rattle.cable_model.specs.Transcript.{Entry, Hold, Holding, Sent, Put, Took, Reached, Dropped, Lost, has_put}
use Rattle.cable_model.specs.Waits.{due_key, hold_key}
use Rattle.cable_model.specs.declared.due.Due.{Due}
use Rattle.cable_model.specs.declared.entry.Entry.{Entry as Line}
use Rattle.cable_model.specs.declared.entry.Entry.TheVariants as line
use Rattle.cable_model.specs.declared.log.Log.{Log}
use Rattle.cable_model.specs.declared.seat.Seat.{Seat}
use Rattle.cable_model.specs.declared.waiting.Waiting.{Waiting}

-- ---- what is found

module _ (seats : List Seat) (log : Log) (book : IsBook seats log) (stamp : ℕ) where
  numbered : (d : Due) → IsHeldAt (said log) d → (stamp == d.stamp) ≡ has_number stamp (hold_at (said log) d)
  numbered d h = ap (λ n. stamp == n) (sym (held_stamp_is (said log) d h))

  pub open_is : list_any (λ d. stamp == d.stamp) log.holdings.dues ≡ is_open (said log) stamp
  open_is =
      any_map (IsHeldAt (said log)) (hold_at (said log)) (λ d. stamp == d.stamp) (has_number stamp) log.holdings.dues numbered book.held
      ∙ (ap (list_any (has_number stamp)) book.holdings ∙ any_in_order hold_key (has_number stamp) (still_held (said log)))

  pub found_held : (r : Option Due) → r ≡ find (λ d. stamp == d.stamp) log.holdings.dues → IfSome r (λ d. IsStored (said log) stamp d)
  found_held None e = tt
  found_held (Some d) e =
      let a = find_at (λ d. stamp == d.stamp) log.holdings.dues d (sym e) in
      let h = in_order_has hold_key (still_held (said log)) (hold_at (said log) d)
      (a.0, subst (λ l. At l a.0 (hold_at (said log) d)) book.holdings (map_at (hold_at (said log)) log.holdings.dues a.0 d a.1)) in
      record {
        at = each_at (IsHeldAt (said log)) log.holdings.dues a.0 d a.1 book.held;
        of_stamp = sym (eqb-true stamp d.stamp a.2);
        there = contains_at (still_held (said log)) h.0 (hold_at (said log) d) h.1;
      }

  pub found_open : (r : Option Due) → r ≡ find (λ d. stamp == d.stamp) log.holdings.dues → is_some r ≡ is_open (said log) stamp
  found_open r e = ap is_some e ∙ (any_find (λ d. stamp == d.stamp) log.holdings.dues ∙ open_is)

  pub found_closed : (r : Option Due) → r ≡ find (λ d. stamp == d.stamp) log.holdings.dues → IfNone r (is_open (said log) stamp ≡ false)
  found_closed None e = sym (found_open None e)
  found_closed (Some d) e = tt

-- ---- one more datagram

-- nothing was released with a stamp that isn't below n, and that no frame had
not_released_yet : (n : ℕ) (t : List Entry) → Each (EndsBelow n) t → list_any (has_put n) t ≡ false → list_any (releases n) t ≡ false
not_released_yet n [] h p = refl
not_released_yet n (e ∷ t) h p =
    let q = parts (has_put n e) (list_any (has_put n) t) p in
    ap (λ b. b || list_any (releases n) t) (here e h.0 q.0) ∙ not_released_yet n t h.1 q.1
  where
    parts : (a b : Bool) → (a || b) ≡ false → (a ≡ false) × (b ≡ false)
    parts true b e = cc
    parts false b e = (refl, e)

    here : (e : Entry) → EndsBelow n e → has_put n e ≡ false → releases n e ≡ false
    here (Put f) h p = p
    here (Sent s d) h p = refl
    here (Took k s) h p = refl
    here (Reached c s w d) h p = refl
    here (Dropped r c d) h p = refl
    here (Lost k) h p = ne_eqb _ _ (λ e. absurd (omega (arith, e, h)))
    here (Hold g) h p = refl

-- a datagram that is held with the next stamp keeps the invariant
pub book_held : (seats : List Seat) (old new : Log) (station : ℕ) (w : Waiting) → IsBook seats old
    → new.lines.items ≡ old.lines.items ++ line.Hold old.next_stamp w.cable station w.next w.bytes ∷ [] → new.kept ≡ old.kept
    → new.waiting ≡ old.waiting → w.bytes < length old.kept.items → new.next_stamp ≡ old.next_stamp + 1 → new.due ≡ old.due
    → new.holdings.dues ≡ all_placed due_key old.holdings.dues
    (record { stamp = old.next_stamp; station = station; put = length old.lines.items; seat = 0 } ∷ []) → IsBook seats new
book_held seats old new station w book lines kept waiting names next due held =
    let h : Holding = record {
      stamp = old.next_stamp;
      cable = w.cable;
      station = station;
      next = w.next;
      bytes = bytes_at old.kept.items w.bytes;
    } in
    let e = Hold h in
    let d : Due = record { stamp = old.next_stamp; station = station; put = length old.lines.items; seat = 0 } in
    let long : length (said old) ≡ length old.lines.items = length-map old.lines.items (entry_at old.kept.items) in
    let there : slice_get (said old ++ e ∷ []) (length old.lines.items) ≡ Some e =
    subst (λ i. slice_get (said old ++ e ∷ []) i ≡ Some e) long (get_last (said old) e) in
    let is : IsHeldAt (said old ++ e ∷ []) d = record { held = h; put = there; stamp = refl; station = refl } in
    let named : hold_at (said old ++ e ∷ []) d ≡ h = rw there refl in
    let above' = above_next old.next_stamp in
    let unput = subst (λ k. list_any (has_put k) (said old) ≡ false) (sym book.next) (not_put_yet (said old)) in
    book_after seats old new (line.Hold old.next_stamp w.cable station w.next w.bytes) book lines kept waiting names
    (omega (arith, above', next))
    (record { fresh = λ s g. absurd_of g; below = tt; put_first = λ s g. absurd_of g; numbered = λ p q n. absurd_of p })
    (pending_kept seats (said old) e old.due.dues new.due.dues (record { each = book.due; all = book.pending }) (λ q. refl)
    (ap (λ d. d.dues) due) refl)
    (holding_more (said old) e old.holdings.dues (d ∷ []) new.holdings.dues (record { each = book.held; all = book.holdings })
    (λ s. refl) held (is, tt) (ap (λ x. x ∷ []) named) ((not_released_yet old.next_stamp (said old) book.below unput, refl), tt))
  where
    absurd_of : {A : Type 0} → false ≡ true → A
    absurd_of e = cc

-- ---- the line of a held datagram

-- the entry that holds a datagram, as it is stored
line_at : (kept : List (List ℕ)) (ls : List Line) (k : ℕ) (h : Holding) → slice_get (map (entry_at kept) ls) k ≡ Some (Hold h)
    → (n : ℕ) × (slice_get ls k ≡ Some (line.Hold h.stamp h.cable h.station h.next n)) × (bytes_at kept n ≡ h.bytes)
line_at kept [] k h e = cc
line_at kept (l ∷ ls) (suc k) h e = line_at kept ls k h e
line_at kept (line.Hold stamp cable station next n ∷ ls) zero h e = by h (some_is e)
  where
    some_is : {X : Type 0} {x y : X} → Some x ≡ Some y → x ≡ y
    some_is e = cc

    by : (h : Holding)
        → Hold (record { stamp = stamp; cable = cable; station = station; next = next; bytes = bytes_at kept n }) ≡ Hold h
        → (m : ℕ) × (Some (line.Hold stamp cable station next n) ≡ Some (line.Hold h.stamp h.cable h.station h.next m))
        × (bytes_at kept m ≡ h.bytes)
    by h e =
        let s : record { stamp = stamp; cable = cable; station = station; next = next; bytes = bytes_at kept n } ≡ h = cc in
        (n, ap (λ (x : Holding). Some (line.Hold x.stamp x.cable x.station x.next n)) s, ap (λ (x : Holding). x.bytes) s)
line_at kept (line.Sent s n ∷ ls) zero h e = cc
line_at kept (line.Put stamp cable sender to kind n ∷ ls) zero h e = cc
line_at kept (line.Took p s ∷ ls) zero h e = cc
line_at kept (line.Reached c s how n ∷ ls) zero h e = cc
line_at kept (line.Dropped r cause n ∷ ls) zero h e = cc
line_at kept (line.Lost p ∷ ls) zero h e = cc

module _ (seats : List Seat) (log : Log) (book : IsBook seats log) (stamp : ℕ) (d : Due) (s : IsStored (said log) stamp d) where
  -- the line that is stored of a held datagram is its own
  pub held_line_is : (l : Line) → slice_get log.lines.items d.put ≡ Some l → IfSome (line_of l) (λ r. IsHeldLine log stamp r)
  held_line_is l at =
      let a = line_at log.kept.items log.lines.items d.put s.at.held s.at.put in
      let same : l ≡ line.Hold s.at.held.stamp s.at.held.cable s.at.held.station s.at.held.next a.0 =
      (let e = sym at ∙ a.1 in some_is e) in
      let names : Names (length log.kept.items) l = each_at (Names (length log.kept.items)) log.lines.items d.put l at book.named in
      let bound : a.0 < length log.kept.items = subst (Names (length log.kept.items)) same names in
      let whole : hold_at (said log) d ≡ s.at.held = ap holding_of s.at.put in
      subst (λ l. IfSome (line_of l) (λ r. IsHeldLine log stamp r)) (sym same) (record {
        held = s.at.held;
        there = subst (Contains (still_held (said log))) whole s.there;
        of_stamp = s.at.stamp ∙ s.of_stamp;
        same_stamp = refl;
        cable = refl;
        station = refl;
        bytes = a.2;
        named = bound;
      })
    where
      some_is : {X : Type 0} {x y : X} → Some x ≡ Some y → x ≡ y
      some_is e = cc

  -- there is such a line, and it isn't another one
  pub some_line : {A : Type 0} → slice_get log.lines.items d.put ≡ None → A
  some_line e = let a = line_at log.kept.items log.lines.items d.put s.at.held s.at.put in none_some (sym e ∙ a.1)
    where
      none_some : {A X : Type 0} {x : X} → None ≡ Some x → A
      none_some e = cc

  pub no_other : {A : Type 0} (l : Line) → slice_get log.lines.items d.put ≡ Some l → line_of l ≡ None → A
  no_other l at none =
      let a = line_at log.kept.items log.lines.items d.put s.at.held s.at.put in
      none_some (sym none ∙ ap line_of (some_is (sym at ∙ a.1)))
    where
      some_is : {X : Type 0} {x y : X} → Some x ≡ Some y → x ≡ y
      some_is e = cc

      none_some : {A X : Type 0} {x : X} → None ≡ Some x → A
      none_some e = cc
