-- Frames that are lost at the end of a call.
use Rattle.std.proofs.Common.{◌≡◌, ℕ, zero, suc, Bool, true, false, not, ◌+◌, ◌-◌, ◌<◌, ◌≤◌, ◌||◌, ◌&&◌, ◌==◌, cond, IsTrue}
use Rattle.std.proofs.Common.{List, [], ◌∷◌, ◌++◌, refl, sym, ap, ◌∙◌, subst}
use Rattle.std.proofs.Common.{append-nil, append_assoc, arith, inl, inr, drop, eq-eqb, length, take, eqb-true}
use Rattle.std.proofs.Common.{map, slice_get, true≢false}
use Rattle.std.specs.List.{list_all, list_any}
use Rattle.std.specs.Option.{unwrap_or}
use Rattle.std.proofs.lemmas.Bool.{and_parts, not-true}
use Rattle.std.proofs.lemmas.List.{drop-drop, drop-map, drop-take, drop_all, length-take, take-append-drop, take-append-le, take-take}
use Rattle.std.proofs.lemmas.List.Folds.{list_any-append}
use Rattle.cable_model.specs.Logs.{Adds, Cabling, entry_at, transcript}
use Rattle.cable_model.specs.Pending.{Pair, pairs, pending}
use Rattle.cable_model.specs.Transcript.{Entry, Sent, Put, Took, Reached, Dropped, Lost, Hold}
use Rattle.cable_model.specs.declared.entry.Entry.{Entry as Line}
use Rattle.cable_model.specs.declared.entry.Entry.TheVariants as line
use Rattle.cable_model.specs.declared.seat.Seat.{Seat}
use Rattle.live_cables.proofs.Pending.{both, Has, has_any, lost_ends, none_any, or_first, or_second, pending_since}
use Rattle.live_cables.specs.Playing.{is_in, losses}
use Rattle.live_cables.specs.Steps.{AreLossesOf, Loses, are_gone, is_loss, line_losses}

-- ---- Losses of frames

pub loses_none : (ss : List ℕ) (c : Cabling) → Loses ss c c
loses_none ss c = record { added = []; grown = sym (append-nil (transcript c)); losses = tt; seats = refl; limit = refl }

pub loses_one : (stamp : ℕ) (old new : Cabling) → Adds old new (Lost stamp ∷ []) → Loses (stamp ∷ []) old new
loses_one stamp old new x = record {
  added = Lost stamp ∷ [];
  grown = x.added;
  losses = inl (refl, tt);
  seats = x.seats;
  limit = x.limit;
}

-- A loss of one of these frames is a loss of one of a longer list.
loss_of : (xs ys : List ℕ) → ((s : ℕ) → is_in xs s ≡ true → is_in ys s ≡ true) → (es : List Entry)
    → IsTrue (list_all (is_loss xs) es) → IsTrue (list_all (is_loss ys) es)
loss_of xs ys f [] h = refl
loss_of xs ys f (Lost s ∷ es) h =
    let parts = and_parts (is_in xs s) (list_all (is_loss xs) es) h in
    both (is_in ys s) (list_all (is_loss ys) es) (f s parts.0) (loss_of xs ys f es parts.1)
loss_of xs ys f (Sent s x ∷ es) h = cc
loss_of xs ys f (Put g ∷ es) h = cc
loss_of xs ys f (Took p s ∷ es) h = cc
loss_of xs ys f (Reached c s w x ∷ es) h = cc
loss_of xs ys f (Dropped r c x ∷ es) h = cc
loss_of xs ys f (Hold d ∷ es) h = cc

in_rest : (s : ℕ) (ss : List ℕ) (n : ℕ) → is_in ss n ≡ true → is_in (s ∷ ss) n ≡ true
in_rest s ss n h = by (s == n) h
  where
    by : (b : Bool) → is_in ss n ≡ true → (b || is_in ss n) ≡ true
    by true h = refl
    by false h = h

-- Losses of frames in their order are losses of these frames.
pub all_losses : (ss : List ℕ) (es : List Entry) → AreLossesOf ss es → IsTrue (list_all (is_loss ss) es)
all_losses ss [] h = refl
all_losses [] (e ∷ es) h = absurd h
all_losses (s ∷ ss) (e ∷ es) (inl h) =
    let here : is_in (s ∷ ss) s ≡ true = ap (λ b. b || is_in ss s) (eq-eqb s s refl) in
    let rest = loss_of ss (s ∷ ss) (in_rest s ss) es (all_losses ss es h.1) in
    subst (λ x. IsTrue (is_loss (s ∷ ss) x && list_all (is_loss (s ∷ ss)) es)) (sym h.0)
    (both (is_in (s ∷ ss) s) (list_all (is_loss (s ∷ ss)) es) here rest)
all_losses (s ∷ ss) (e ∷ es) (inr h) = loss_of ss (s ∷ ss) (in_rest s ss) (e ∷ es) (all_losses ss (e ∷ es) h)

-- Losses of some frames, and then of others.
losses_then : (xs ys : List ℕ) (es fs : List Entry) → AreLossesOf xs es → AreLossesOf ys fs → AreLossesOf (xs ++ ys) (es ++ fs)
losses_then [] ys [] fs h g = g
losses_then [] ys (e ∷ es) fs h g = absurd h
losses_then (s ∷ ss) ys [] fs h g = later fs (losses_then ss ys [] fs tt g)
  where
    later : (fs : List Entry) → AreLossesOf (ss ++ ys) fs → AreLossesOf (s ∷ (ss ++ ys)) fs
    later [] h = tt
    later (f ∷ fs) h = inr h
losses_then (s ∷ ss) ys (e ∷ es) fs (inl h) g = inl (h.0, losses_then ss ys es fs h.1 g)
losses_then (s ∷ ss) ys (e ∷ es) fs (inr h) g = inr (losses_then ss ys (e ∷ es) fs h g)

pub loses_then : (xs ys : List ℕ) (a b c : Cabling) → Loses xs a b → Loses ys b c → Loses (xs ++ ys) a c
loses_then xs ys a b c x y = record {
  added = x.added ++ y.added;
  grown = y.grown ∙ (ap (λ l. l ++ y.added) x.grown ∙ append_assoc (transcript a) x.added y.added);
  losses = losses_then xs ys x.added y.added x.losses y.losses;
  seats = y.seats ∙ x.seats;
  limit = y.limit ∙ x.limit;
}

-- ---- Nothing of a frame is pending after its loss

pairs_none : (seats : List Seat) (ss : List ℕ) (es : List Entry) → IsTrue (list_all (is_loss ss) es) → pairs seats es ≡ []
pairs_none seats ss [] h = refl
pairs_none seats ss (Lost s ∷ es) h = pairs_none seats ss es (and_parts (is_in ss s) (list_all (is_loss ss) es) h).1
pairs_none seats ss (Sent s x ∷ es) h = cc
pairs_none seats ss (Put g ∷ es) h = cc
pairs_none seats ss (Took p s ∷ es) h = cc
pairs_none seats ss (Reached c s w x ∷ es) h = cc
pairs_none seats ss (Dropped r c x ∷ es) h = cc
pairs_none seats ss (Hold d ∷ es) h = cc

has_none : {X : Type 0} (xs : List X) (x : X) → xs ≡ [] → Has xs x → ⊥
has_none [] x e h = let g = h.1 in cc
has_none (y ∷ ys) x e h = cc

gone_by : (ss : List ℕ) (c : Cabling)
    → ((p : Pair) → Has (pending c.seats (transcript c)) p → is_in ss p.frame.stamp ≡ true → ⊥) → IsTrue (are_gone ss c)
gone_by ss c f = ap not (none_any (λ (p : Pair). is_in ss p.frame.stamp) (pending c.seats (transcript c)) f)

pub not_there : (ss : List ℕ) (c : Cabling) → IsTrue (are_gone ss c)
    → (p : Pair) → Has (pending c.seats (transcript c)) p → is_in ss p.frame.stamp ≡ true → ⊥
not_there ss c h p g e =
    true≢false (sym (has_any (λ (p : Pair). is_in ss p.frame.stamp) (pending c.seats (transcript c)) p g e)
    ∙ not-true (list_any (λ (p : Pair). is_in ss p.frame.stamp) (pending c.seats (transcript c))) h)

pub gone_none : (c : Cabling) → IsTrue (are_gone [] c)
gone_none c = gone_by [] c (λ p g e. true≢false (sym e))

in_one : (s n : ℕ) → is_in (s ∷ []) n ≡ true → s ≡ n
in_one s n h = eqb-true s n (by (s == n) h)
  where
    by : (b : Bool) → (b || false) ≡ true → b ≡ true
    by true h = refl
    by false h = cc

pub gone_lost : (stamp : ℕ) (old new : Cabling) → Adds old new (Lost stamp ∷ []) → IsTrue (are_gone (stamp ∷ []) new)
gone_lost stamp old new x =
    gone_by (stamp ∷ []) new (λ p g e.
    lost_ends new.seats (transcript old) [] stamp p (sym (in_one stamp p.frame.stamp e))
    (subst (λ l. Has (pending new.seats l) p) (x.added ∙ sym (append-nil (transcript old ++ Lost stamp ∷ []))) g))

-- What is among some frames of which one is pending still is among others: one of these is.
pub due_more : (xs ys : List ℕ) (c : Cabling) → ((n : ℕ) → is_in xs n ≡ true → is_in ys n ≡ true) → are_gone xs c ≡ false
    → are_gone ys c ≡ false
due_more xs ys c f due = by (are_gone ys c) refl
  where
    by : (b : Bool) → are_gone ys c ≡ b → b ≡ false
    by true gone =
        absurd (true≢false (sym (gone_by xs c (λ p g e. not_there ys c gone p g (f p.frame.stamp e))) ∙ due))
    by false e = refl

in_first : (xs ys : List ℕ) (n : ℕ) → is_in xs n ≡ true → is_in (xs ++ ys) n ≡ true
in_first xs ys n e = list_any-append (λ s. s == n) xs ys ∙ or_first (is_in xs n) (is_in ys n) e

in_second : (xs ys : List ℕ) (n : ℕ) → is_in ys n ≡ true → is_in (xs ++ ys) n ≡ true
in_second xs ys n e = list_any-append (λ s. s == n) xs ys ∙ or_second (is_in xs n) (is_in ys n) e

-- A frame among some frames and others, that isn't among the first of them, is among the others.
in_others : (xs ys : List ℕ) (n : ℕ) → is_in (xs ++ ys) n ≡ true → is_in xs n ≡ false → is_in ys n ≡ true
in_others xs ys n here out =
    let parts = sym (list_any-append (λ s. s == n) xs ys) ∙ here in by (is_in xs n) out parts
  where
    by : (b : Bool) → b ≡ false → (b || is_in ys n) ≡ true → is_in ys n ≡ true
    by true f h = cc
    by false f h = h

pub gone_then : (xs ys : List ℕ) (b c : Cabling) → IsTrue (are_gone xs b) → Loses ys b c → IsTrue (are_gone ys c)
    → IsTrue (are_gone (xs ++ ys) c)
gone_then xs ys b c first x rest = gone_by (xs ++ ys) c (λ p g e. split p g (is_in xs p.frame.stamp) refl e)
  where
    before : (p : Pair) → Has (pending c.seats (transcript c)) p → Has (pending b.seats (transcript b)) p
    before p g =
        pending_since b.seats (transcript b) x.added p
        (has_none (pairs b.seats x.added) p (pairs_none b.seats ys x.added (all_losses ys x.added x.losses)))
        (subst (λ l. Has (pending b.seats l) p) x.grown (subst (λ l. Has (pending l (transcript c)) p) x.seats g))

    split : (p : Pair) → Has (pending c.seats (transcript c)) p → (t : Bool) → is_in xs p.frame.stamp ≡ t
        → is_in (xs ++ ys) p.frame.stamp ≡ true → ⊥
    split p g true e h = not_there xs b first p (before p g) e
    split p g false e h = not_there ys c rest p g (in_others xs ys p.frame.stamp h e)

-- ---- Which frames are lost

pub losses_of_lines : (losing : ℕ → Bool) (kept : List (List ℕ)) (ls : List Line)
    → line_losses losing ls ≡ losses losing (map (entry_at kept) ls)
losses_of_lines losing kept [] = refl
losses_of_lines losing kept (line.Sent s n ∷ ls) = losses_of_lines losing kept ls
losses_of_lines losing kept (line.Took p s ∷ ls) = losses_of_lines losing kept ls
losses_of_lines losing kept (line.Reached c s w n ∷ ls) = losses_of_lines losing kept ls
losses_of_lines losing kept (line.Dropped r c n ∷ ls) = losses_of_lines losing kept ls
losses_of_lines losing kept (line.Lost p ∷ ls) = losses_of_lines losing kept ls
losses_of_lines losing kept (line.Hold stamp cable station next n ∷ ls) = losses_of_lines losing kept ls
losses_of_lines losing kept (line.Put stamp cable sender to kind n ∷ ls) =
    ap (λ l. cond (losing cable) (stamp ∷ l) l) (losses_of_lines losing kept ls)

lines_then : (losing : ℕ → Bool) (ls ms : List Line) → line_losses losing (ls ++ ms) ≡ line_losses losing ls ++ line_losses losing ms
lines_then losing [] ms = refl
lines_then losing (line.Sent s n ∷ ls) ms = lines_then losing ls ms
lines_then losing (line.Took p s ∷ ls) ms = lines_then losing ls ms
lines_then losing (line.Reached c s w n ∷ ls) ms = lines_then losing ls ms
lines_then losing (line.Dropped r c n ∷ ls) ms = lines_then losing ls ms
lines_then losing (line.Lost p ∷ ls) ms = lines_then losing ls ms
lines_then losing (line.Hold stamp cable station next n ∷ ls) ms = lines_then losing ls ms
lines_then losing (line.Put stamp cable sender to kind n ∷ ls) ms = by (losing cable) (lines_then losing ls ms)
  where
    by : (b : Bool) → line_losses losing (ls ++ ms) ≡ line_losses losing ls ++ line_losses losing ms
        → cond b (stamp ∷ line_losses losing (ls ++ ms)) (line_losses losing (ls ++ ms))
        ≡ cond b (stamp ∷ line_losses losing ls) (line_losses losing ls) ++ line_losses losing ms
    by true rest = ap (λ l. stamp ∷ l) rest
    by false rest = rest

-- The entries from one index up to another are the first of them and those after it.
one_between : (ls : List Line) (from end : ℕ) → from < end
    → drop from (take end ls) ≡ take 1 (drop from ls) ++ drop (from + 1) (take end ls)
one_between ls from end less =
    let many : end ≡ from + (end - from) = omega (arith, less) in
    let here : drop from (take end ls) ≡ take (end - from) (drop from ls) =
    ap (λ n. drop from (take n ls)) many ∙ drop-take from (end - from) ls in
    let one : take 1 (drop from (take end ls)) ≡ take 1 (drop from ls) =
    ap (take 1) here ∙ take-take 1 (end - from) (drop from ls) (omega (arith, less)) in
    sym (take-append-drop 1 (drop from (take end ls))) ∙ (ap (λ l. l ++ drop 1 (drop from (take end ls))) one
    ∙ ap (λ l. take 1 (drop from ls) ++ l) (drop-drop 1 from (take end ls)))

-- The stamps of the first entry and of the others.
losses_between : (losing : ℕ → Bool) (ls more : List Line) (from end : ℕ) → from < end → end ≤ length ls
    → line_losses losing (drop from (take end ls))
    ≡ line_losses losing (take 1 (drop from ls)) ++ line_losses losing (drop (from + 1) (take end (ls ++ more)))
losses_between losing ls more from end less inside =
    ap (line_losses losing) (one_between ls from end less)
    ∙ (lines_then losing (take 1 (drop from ls)) (drop (from + 1) (take end ls))
    ∙ ap (λ l. line_losses losing (take 1 (drop from ls)) ++ line_losses losing (drop (from + 1) l)) (sym (take-append-le end ls more inside)))

-- No entry is between indices of which the second isn't greater.
pub none_between : (ls : List Line) (from end : ℕ) → end ≤ from → drop from (take end ls) ≡ []
none_between ls from end less =
    drop_all from (take end ls) (let most = length-take end ls in omega (arith, less, most))

-- Losses by the first entry, and then by the others.
module _ (losing : ℕ → Bool) (old mid : Cabling) (from end : ℕ) (less : from < end) (inside : end ≤ length old.lines)
    (further : (more : List Line) × (mid.lines ≡ old.lines ++ more))
    (first : Loses (line_losses losing (take 1 (drop from old.lines))) old mid) where
  splits : line_losses losing (drop from (take end old.lines))
      ≡ line_losses losing (take 1 (drop from old.lines)) ++ line_losses losing (drop (from + 1) (take end mid.lines))
  splits =
      losses_between losing old.lines further.0 from end less inside
      ∙ ap (λ l. line_losses losing (take 1 (drop from old.lines)) ++ line_losses losing (drop (from + 1) (take end l))) (sym further.1)

  pub first_between_lost : Loses (line_losses losing (drop from (take end old.lines))) old mid
  first_between_lost = subst (λ ss. Loses ss old mid) (sym splits) (loses_then _ _ old mid mid first (loses_none _ mid))

  pub all_between_lost : (new : Cabling) → Loses (line_losses losing (drop (from + 1) (take end mid.lines))) mid new
      → Loses (line_losses losing (drop from (take end old.lines))) old new
  all_between_lost new rest = subst (λ ss. Loses ss old new) (sym splits) (loses_then _ _ old mid new first rest)

  pub all_between_gone : (new : Cabling) → IsTrue (are_gone (line_losses losing (take 1 (drop from old.lines))) mid)
      → Loses (line_losses losing (drop (from + 1) (take end mid.lines))) mid new
      → IsTrue (are_gone (line_losses losing (drop (from + 1) (take end mid.lines))) new)
      → IsTrue (are_gone (line_losses losing (drop from (take end old.lines))) new)
  all_between_gone new here rest gone = subst (λ ss. IsTrue (are_gone ss new)) (sym splits) (gone_then _ _ mid new here rest gone)

  pub first_between_due : are_gone (line_losses losing (take 1 (drop from old.lines))) mid ≡ false
      → are_gone (line_losses losing (drop from (take end old.lines))) mid ≡ false
  first_between_due due = subst (λ ss. are_gone ss mid ≡ false) (sym splits) (due_more _ _ mid (in_first _ _) due)

  pub rest_between_due : (new : Cabling) → are_gone (line_losses losing (drop (from + 1) (take end mid.lines))) new ≡ false
      → are_gone (line_losses losing (drop from (take end old.lines))) new ≡ false
  rest_between_due new due = subst (λ ss. are_gone ss new ≡ false) (sym splits) (due_more _ _ new (in_second _ _) due)

-- No cable loses frames.
none_loses : (losing : List Bool) (k : ℕ) → list_any (λ b. b) losing ≡ false → unwrap_or (slice_get losing k) false ≡ false
none_loses [] k h = refl
none_loses (true ∷ bs) k h = cc
none_loses (false ∷ bs) zero h = refl
none_loses (false ∷ bs) (suc k) h = none_loses bs k h

pub nothing_lost : (losing : List Bool) (es : List Entry) → list_any (λ b. b) losing ≡ false
    → losses (λ k. unwrap_or (slice_get losing k) false) es ≡ []
nothing_lost losing [] h = refl
nothing_lost losing (Sent s x ∷ es) h = nothing_lost losing es h
nothing_lost losing (Took p s ∷ es) h = nothing_lost losing es h
nothing_lost losing (Reached c s w x ∷ es) h = nothing_lost losing es h
nothing_lost losing (Dropped r c x ∷ es) h = nothing_lost losing es h
nothing_lost losing (Lost p ∷ es) h = nothing_lost losing es h
nothing_lost losing (Hold d ∷ es) h = nothing_lost losing es h
nothing_lost losing (Put f ∷ es) h =
    let rest = losses (λ k. unwrap_or (slice_get losing k) false) es in
    ap (λ b. cond b (f.stamp ∷ rest) rest) (none_loses losing f.cable h) ∙ nothing_lost losing es h

-- The stamps that were found are those of the frames that are lost.
pub stamps_are : (losing : ℕ → Bool) (kept : List (List ℕ)) (lines : List Line) (from : ℕ)
    → line_losses losing (drop from lines) ≡ losses losing (drop from (map (entry_at kept) lines))
stamps_are losing kept lines from =
    losses_of_lines losing kept (drop from lines) ∙ ap (losses losing) (sym (drop-map (entry_at kept) from lines))
