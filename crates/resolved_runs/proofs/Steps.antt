-- Entries of a transcript with resolution, beside the plain entries that they stand for.
use Rattle.std.proofs.Common.{◌≡◌, ◌≤◌, ◌<◌, ◌+◌, ℕ, zero, suc, Bool, true, false, not, cond, ◌||◌, List, [], ◌∷◌, ◌++◌, Option, Some, None, Contains}
use Rattle.std.proofs.Common.{refl, sym, ap, ◌∙◌, subst, arith, append_assoc, append-nil, is_some, filter, map, eqb-true, eq-eqb, ne_eqb}
use Rattle.std.specs.List.{AllByRecursion as Each}
use Rattle.at_base.specs.declared.address.Hw.{Hw}
use Rattle.ddp.specs.Bodies.{target}
use Rattle.table_image.specs.Internet.{Internet}
use Rattle.table_image.specs.Seats.{Seat, seat_at}
use Rattle.audit.specs.Rules.{Passes}
use Rattle.audit.proofs.WalkLists.{find_at, find_found}
use Rattle.station.specs.declared.heard.Kind.TheVariants.{Aarp, Ddp}
use Rattle.station.specs.declared.output.DropCause.{DropCause}
use Rattle.cable_model.specs.declared.entry.How.{How}
use Rattle.cable_model.specs.Holdings.{has_number, holds, released_frame, releases, still_held, was_released}
use Rattle.cable_model.specs.Transcript.{Entry, Frame, Holding, Sent, Put, Took, Reached, Dropped, Lost, Hold, is_put, next_stamp}
use Rattle.cable_model.specs.Transcript.{stamp_after, stamps}
use Rattle.cable_model.proofs.Counting.{any-append, count-append, each-append, each_at}
use Rattle.cable_model.proofs.Left.{each_filter}
use Rattle.cable_model.proofs.Stamps.{above_more, above_this, held_below, holds-append, next_after, stamp_from-append, stamp_from_more}
use Rattle.legal_runs.specs.Losses.{Ends, Keeps, Loses, WithLosses}
use Rattle.legal_runs.specs.Stations.{cable_seat}
use Rattle.resolved_runs.specs.Plain.{hold_of, plain, plain_after, plain_entry, plain_hold, plain_how, plain_lost}
use Rattle.resolved_runs.proofs.Elements.{In, any_in, contained, in_kept, in_left}
use Rattle.resolved_runs.proofs.Fits.{EntryFits, Fits, FrameFits}
use Rattle.resolved_runs.proofs.Plains.{plain_after-append, plain_more, put_aarp, put_direct, put_released}
use Rattle.resolved_runs.proofs.Standing.{held_in, held_plain, hold_none}
use Rattle.resolved_runs.proofs.Told.{AreFacts, Fact, IsAarp, IsDropped, IsHeld, IsLost, IsNew, IsPacket, IsReached, IsReleased, IsSent}
use Rattle.resolved_runs.proofs.Told.{IsTold, IsTook, More, Nothing, facts-append, told_more}

-- ---- Losses among entries

pub with_append : (i : Internet) (t es fs gs hs : List Entry) → WithLosses i t es fs → WithLosses i (t ++ fs) gs hs
    → WithLosses i t (es ++ gs) (fs ++ hs)
with_append i t es fs gs hs (Ends u) v = subst (λ w. WithLosses i w gs hs) (append-nil u) v
with_append i t es fs gs hs (Keeps u e xs ys w) v =
    Keeps u e (xs ++ gs) (ys ++ hs)
    (with_append i (u ++ e ∷ []) xs ys gs hs w (subst (λ x. WithLosses i x gs hs) (sym (append_assoc u (e ∷ []) ys)) v))
with_append i t es fs gs hs (Loses u p xs ys there w) v =
    Loses u p (xs ++ gs) (ys ++ hs) there
    (with_append i (u ++ Lost p.frame.stamp ∷ []) xs ys gs hs w
    (subst (λ x. WithLosses i x gs hs) (sym (append_assoc u (Lost p.frame.stamp ∷ []) ys)) v))

pub with_same : (i : Internet) (t es : List Entry) → WithLosses i t es es
with_same i t [] = Ends t
with_same i t (e ∷ es) = Keeps t e es es (with_same i (t ++ e ∷ []) es)

-- ---- Held datagrams

-- The stamps of held datagrams rise.
abbrev pub AreRising : List Holding → Type 0
AreRising [] = Unit {0}
AreRising (h ∷ hs) = Each (λ (g : Holding). h.stamp < g.stamp) hs × AreRising hs

-- A filter keeps them so.
pub rising_kept : (t : Holding → Bool) (hs : List Holding) → AreRising hs → AreRising (filter t hs)
rising_kept t [] r = tt
rising_kept t (h ∷ hs) r = by (t h) (rising_kept t hs r.1)
  where
    by : (b : Bool) → AreRising (filter t hs) → AreRising (cond b (h ∷ filter t hs) (filter t hs))
    by true rest = (each_filter (λ (g : Holding). h.stamp < g.stamp) t hs r.0, rest)
    by false rest = rest

-- ---- Entries and plain entries

-- After the transcript u the first entries stand for the second ones, with losses among those.
pub record Done (i : Internet) (u es ps : List Entry) : Type 0 where
  pub facts : AreFacts i u es
  pub fits : Each EntryFits es
  pub plain_is : WithLosses i (plain i u) ps (plain_after i u es)
  pub next : next_stamp u + stamps ps ≤ next_stamp (u ++ es)

module _ (i : Internet) where
  next_more : (u es : List Entry) → next_stamp u ≤ next_stamp (u ++ es)
  next_more u es =
      let e = stamp_from-append 0 u es in
      let le = stamp_from_more (next_stamp u) es in
      omega (arith, e, le)

  pub done_none : (u : List Entry) → Done i u [] []
  done_none u = record { facts = tt; fits = tt; plain_is = Ends (plain i u); next = let le = next_more u [] in omega (arith, le) }

  pub done_then : (u es ps fs qs : List Entry) → Done i u es ps → Done i (u ++ es) fs qs → Done i u (es ++ fs) (ps ++ qs)
  done_then u es ps fs qs a b = record {
    facts = facts-append i u es fs a.facts b.facts;
    fits = each-append EntryFits es fs a.fits b.fits;
    plain_is =
        subst (WithLosses i (plain i u) (ps ++ qs)) (sym (after u es fs))
        (with_append i (plain i u) ps (plain_after i u es) qs (plain_after i (u ++ es) fs) a.plain_is
        (subst (λ t. WithLosses i t qs (plain_after i (u ++ es) fs)) (plain_more i u es) b.plain_is));
    next =
        let x = a.next in
        let y = b.next in
        let sum = count-append is_put ps qs in
        let same = ap next_stamp (append_assoc u es fs) in
        omega (arith, x, y, sum, same);
  }
    where
      after : (u es fs : List Entry) → plain_after i u (es ++ fs) ≡ plain_after i u es ++ plain_after i (u ++ es) fs
      after u es fs = plain_after-append i u es fs

  pub done_told : (u es ps : List Entry) → IsTold i u → Done i u es ps → IsTold i (u ++ es)
  done_told u es ps told d = told_more i u es told d.facts

  -- ---- One entry

  -- An entry that stands for these plain entries.
  pub one_done : (u : List Entry) (e : Entry) (ps : List Entry) → Fact i u e → EntryFits e → plain_entry i u e ≡ ps
      → next_stamp u + stamps ps ≤ stamp_after (next_stamp u) e → Done i u (e ∷ []) ps
  one_done u e ps fact fits same le = record {
    facts = (fact, tt);
    fits = (fits, tt);
    plain_is = subst (WithLosses i (plain i u) ps) (sym (append-nil (plain_entry i u e) ∙ same)) (with_same i (plain i u) ps);
    next = let n = next_after u e in omega (arith, n, le);
  }

  pub one_sent : (u : List Entry) (s : ℕ) (b : List ℕ) → Done i u (Sent s b ∷ []) (Sent s b ∷ [])
  one_sent u s b = one_done u (Sent s b) (Sent s b ∷ []) (IsSent s b) tt refl (omega arith)

  pub one_reached : (u : List Entry) (c s : ℕ) (how : How) (b : List ℕ)
      → Done i u (Reached c s how b ∷ []) (Reached c s (plain_how how (seat_at i c (target b))) b ∷ [])
  one_reached u c s how b = one_done u (Reached c s how b) _ (IsReached c s how b) tt refl (omega arith)

  pub one_dropped : (u : List Entry) (r : ℕ) (cause : DropCause) (b : List ℕ) → Done i u (Dropped r cause b ∷ []) (Dropped r cause b ∷ [])
  one_dropped u r cause b = one_done u (Dropped r cause b) (Dropped r cause b ∷ []) (IsDropped r cause b) tt refl (omega arith)

  pub one_new : (u : List Entry) (f : Frame) → f.kind ≡ Ddp → next_stamp u ≤ f.stamp → Fits (target f.bytes)
      → Done i u (Put f ∷ []) (Put f ∷ [])
  one_new u f kind fresh fits =
      one_done u (Put f) (Put f ∷ []) (IsNew f kind fresh) (subst (λ k. FrameFits k f.bytes) (sym kind) fits)
      (put_direct u f kind (hold_none u f.stamp fresh)) (let lt = above_this (next_stamp u) f.stamp in omega (arith, lt, fresh))

  pub one_aarp : (u : List Entry) (f : Frame) → f.kind ≡ Aarp → next_stamp u ≤ f.stamp → IsPacket i f → Done i u (Put f ∷ []) []
  one_aarp u f kind fresh packet =
      one_done u (Put f) [] (IsAarp f kind fresh packet) (subst (λ k. FrameFits k f.bytes) (sym kind) tt) (put_aarp u f kind)
      (let le = above_more (next_stamp u) f.stamp in omega (arith, le))

  pub one_held : (u : List Entry) (h : Holding) → next_stamp u ≤ h.stamp → Fits h.next → Fits (target h.bytes)
      → Done i u (Hold h ∷ []) (plain_hold h (seat_at i h.cable h.next))
  one_held u h fresh next fits =
      one_done u (Hold h) _ (IsHeld h fresh) (next, fits) refl
      (let lt = above_this (next_stamp u) h.stamp in
      let few = most (seat_at i h.cable h.next) in
      omega (arith, lt, few, fresh))
    where
      most : (o : Option Seat) → stamps (plain_hold h o) ≤ 1
      most None = omega arith
      most (Some s) = omega arith

  -- The held datagram with a stamp that is held.
  pub hold_found : (t : List Entry) (h : Holding) → In (holds t) h → is_some (hold_of h.stamp t) ≡ true
  hold_found t h there =
      let w = find_found (has_number h.stamp) (holds t) (any_in (has_number h.stamp) (holds t) h there (eq-eqb h.stamp h.stamp refl)) in
      ap is_some w.1

  pub one_released : (u : List Entry) (h : Holding) (s : Seat) → Contains (still_held u) h → seat_at i h.cable h.next ≡ Some s
      → Fits (target h.bytes) → Done i u (Put (released_frame h s.hardware) ∷ []) []
  one_released u h s there found fits =
      one_done u (Put (released_frame h s.hardware)) [] (IsReleased h s there found) fits
      (put_released u (released_frame h s.hardware) refl (hold_found u h (held_in u h there).0))
      (let le = above_more (next_stamp u) h.stamp in omega (arith, le))

  -- ---- Datagrams that are still held

  -- A datagram that no entry released is still held.
  pub is_still : (t : List Entry) (h : Holding) → In (holds t) h → was_released t h ≡ false → Contains (still_held t) h
  is_still t h there still = contained (still_held t) h (in_kept (λ d. not (was_released t d)) (holds t) h there (ap not still))

  -- It is still held after an entry that doesn't release it.
  pub still_more : (u : List Entry) (e : Entry) (h : Holding) → Contains (still_held u) h → releases h.stamp e ≡ false
      → Contains (still_held (u ++ e ∷ [])) h
  still_more u e h there other =
      let w = held_in u h there in
      is_still (u ++ e ∷ []) h
      (subst (λ hs. In hs h) (sym (holds-append u (e ∷ []))) (in_left (holds u) (holds (e ∷ [])) h w.0))
      (any-append (releases h.stamp) u (e ∷ [])
      ∙ (ap (λ b. b || (releases h.stamp e || false)) w.1 ∙ ap (λ b. b || false) other))

  -- ---- Stamps of held datagrams rise

  each_less : (n m : ℕ) (hs : List Holding) → Each (λ g. g.stamp < n) hs → n ≤ m → Each (λ g. g.stamp < m) hs
  each_less n m [] h le = tt
  each_less n m (g ∷ hs) h le = let lt = h.0 in (omega (arith, lt, le), each_less n m hs h.1 le)

  rising_then : (n : ℕ) (hs : List Holding) (h : Holding) → AreRising hs → Each (λ g. g.stamp < n) hs → n ≤ h.stamp
      → AreRising (hs ++ h ∷ [])
  rising_then n [] h r low le = (tt, tt)
  rising_then n (g ∷ hs) h r low le =
      let lt = low.0 in
      (each-append (λ x. g.stamp < x.stamp) hs (h ∷ []) r.0 (omega (arith, lt, le), tt), rising_then n hs h r.1 low.1 le)

  pub holds_rising : (t : List Entry) → IsTold i t → AreRising (holds t)
  holds_rising t Nothing = tt
  holds_rising t (More u e told fact) =
      subst AreRising (sym (holds-append u (e ∷ []))) (here (holds_rising u told) e fact)
    where
      none : AreRising (holds u) → (es : List Entry) → holds es ≡ [] → AreRising (holds u ++ holds es)
      none r es same = subst (λ hs. AreRising (holds u ++ hs)) (sym same) (subst AreRising (sym (append-nil (holds u))) r)

      here : AreRising (holds u) → (e : Entry) → Fact i u e → AreRising (holds u ++ holds (e ∷ []))
      here r e (IsHeld h fresh) = rising_then (next_stamp u) (holds u) h r (held_below u) fresh
      here r e (IsNew f k fresh) = none r (Put f ∷ []) refl
      here r e (IsAarp f k fresh packet) = none r (Put f ∷ []) refl
      here r e (IsReleased h s there found) = none r (Put (released_frame h s.hardware) ∷ []) refl
      here r e (IsSent s b) = none r (Sent s b ∷ []) refl
      here r e (IsReached c s w b) = none r (Reached c s w b ∷ []) refl
      here r e (IsDropped q c b) = none r (Dropped q c b ∷ []) refl
      here r e (IsLost h there) = none r (Lost h.stamp ∷ []) refl
      here r e (IsTook p there) = none r (Took p.frame.stamp p.seat.station ∷ []) refl

  -- The datagrams of a told transcript have different stamps.
  pub one_hold : (t : List Entry) (g h : Holding) → IsTold i t → In (holds t) g → In (holds t) h → g.stamp ≡ h.stamp → g ≡ h
  one_hold t g h told a b same = by (holds t) (holds_rising t told) a b
    where
      by : (hs : List Holding) → AreRising hs → In hs g → In hs h → g ≡ h
      by [] r (k, e) b = cc
      by (x ∷ hs) r (zero, e) (zero, f) = cc
      by (x ∷ hs) r (zero, e) (suc k, f) =
          let one : x ≡ g = cc in
          let lt = each_at (λ y. x.stamp < y.stamp) hs k h f r.0 in
          let eq = ap (λ (y : Holding). y.stamp) one in
          absurd (omega (arith, lt, eq, same))
      by (x ∷ hs) r (suc k, e) (zero, f) =
          let one : x ≡ h = cc in
          let lt = each_at (λ y. x.stamp < y.stamp) hs k g e r.0 in
          let eq = ap (λ (y : Holding). y.stamp) one in
          absurd (omega (arith, lt, eq, same))
      by (x ∷ hs) r (suc k, e) (suc j, f) = by hs r.1 (k, e) (j, f)

  -- The datagram with the stamp of one that was held is that one.
  pub hold_is : (t : List Entry) (h : Holding) → IsTold i t → In (holds t) h → hold_of h.stamp t ≡ Some h
  hold_is t h told there =
      let w = find_found (has_number h.stamp) (holds t) (any_in (has_number h.stamp) (holds t) h there (eq-eqb h.stamp h.stamp refl)) in
      let g = find_at (has_number h.stamp) (holds t) w.0 w.1 in
      w.1 ∙ ap Some (one_hold t w.0 h told (g.0, g.1) there (sym (eqb-true h.stamp w.0.stamp g.2)))

  -- ---- Datagrams that are released together

  -- A datagram that is held for the seat with this hardware address.
  pub record IsFor (u : List Entry) (hw : Hw) (h : Holding) : Type 0 where
    pub there : Contains (still_held u) h
    pub seat : Seat
    pub found : seat_at i h.cable h.next ≡ Some seat
    pub hardware : hw ≡ seat.hardware
    pub fits : Fits (target h.bytes)

  abbrev pub released_by : Hw → Holding → Entry
  released_by hw h = Put (released_frame h hw)

  pub all_released : (u : List Entry) (hw : Hw) (hs : List Holding) → IsTold i u → Each (IsFor u hw) hs → AreRising hs
      → Done i u (map (released_by hw) hs) []
  all_released u hw [] told each r = done_none u
  all_released u hw (h ∷ hs) told each r =
      let f = each.0 in
      let first : Done i u (released_by hw h ∷ []) [] =
      subst (λ x. Done i u (released_by x h ∷ []) []) (sym f.hardware) (one_released u h f.seat f.there f.found f.fits) in
      done_then u (released_by hw h ∷ []) [] (map (released_by hw) hs) [] first
      (all_released (u ++ released_by hw h ∷ []) hw hs (done_told u (released_by hw h ∷ []) [] told first)
      (more hs each.1 r.0) r.1)
    where
      more : (gs : List Holding) → Each (IsFor u hw) gs → Each (λ g. h.stamp < g.stamp) gs → Each (IsFor (u ++ released_by hw h ∷ []) hw) gs
      more [] e l = tt
      more (g ∷ gs) e l =
          let lt = l.0 in
          let w = e.0 in (
            record {
              there = still_more u (released_by hw h) g w.there (ne_eqb g.stamp h.stamp (λ same. absurd (omega (arith, lt, same))));
              seat = w.seat;
              found = w.found;
              hardware = w.hardware;
              fits = w.fits;
            },
            more gs e.1 l.1,
          )

  -- ---- A datagram that is given up

  pub one_lost : (ok : Passes i) (u : List Entry) (h : Holding) → IsTold i u → Contains (still_held u) h → Done i u (Lost h.stamp ∷ []) []
  one_lost ok u h told there = record {
    facts = (IsLost h there, tt);
    fits = (tt, tt);
    plain_is =
        subst (WithLosses i (plain i u) []) (sym (append-nil (plain_entry i u (Lost h.stamp))
        ∙ ap (plain_lost i h.stamp) (hold_is u h told (held_in u h there).0))) (by (seat_at i h.cable h.next) refl);
    next = let le = next_more u (Lost h.stamp ∷ []) in omega (arith, le);
  }
    where
      by : (o : Option Seat) → seat_at i h.cable h.next ≡ o → WithLosses i (plain i u) [] (cond (is_some o) (Lost h.stamp ∷ []) [])
      by None e = Ends (plain i u)
      by (Some s) e =
          Loses (plain i u) (record { frame = released_frame h s.hardware; seat = cable_seat i s }) [] []
          (held_plain i ok u h s told there e) (Ends (plain i u ++ Lost h.stamp ∷ []))
