-- The datagrams that a station releases are put one by one, and the others stay held.
use Rattle.std.proofs.Common.{◌≡◌, inl, inr, ℕ, suc, ◌≤◌, Bool, true, false, not, ◌&&◌, ◌||◌, ◌==◌, cond, List, [], ◌∷◌, ◌++◌}
use Rattle.std.proofs.Common.{Some, refl, sym, ap, ◌∙◌, subst, arith, filter, map, append-nil, append_assoc}
use Rattle.std.proofs.Common.{eq-eqb, true≢false}
use Rattle.std.specs.List.{list_any, AllByRecursion as Each}
use Rattle.std.proofs.lemmas.Bool.{and_parts, false_from_ne_true}
use Rattle.at_base.specs.declared.address.Hw.{Hw}
use Rattle.audit.proofs.Finding.{any_at}
use Rattle.table_image.specs.Internet.{Internet}
use Rattle.cable_model.specs.Holdings.{is_open, released_frame, still_held}
use Rattle.cable_model.specs.Logs.{Adds, Cabling, transcript}
use Rattle.cable_model.specs.Transcript.{Entry, Holding, Put, count, one}
use Rattle.cable_model.proofs.Counting.{count-filter, count_at, count_le}
use Rattle.live_cables.specs.Holding.{AreReleased, IsReleased}
use Rattle.resolved_runs.proofs.Elements.{In, any_in, each_in, in_kept, in_list, kept_in}
use Rattle.legal_cables.proofs.After.{After, after_ended}
use Rattle.legal_cables.proofs.Effects.{numbered}
use Rattle.legal_cables.proofs.Others.{few_held, is_mine, one_only, still_ended}

-- The frame of a datagram that is released.
abbrev pub freed : Hw → Holding → Entry
freed to h = Put (released_frame h to)

-- One entry after the other.
pub adds_then : (a b c : Cabling) (es fs : List Entry) → Adds a b es → Adds b c fs → Adds a c (es ++ fs)
adds_then a b c es fs x y = record {
  seats = y.seats ∙ x.seats;
  limit = y.limit ∙ x.limit;
  rooms = y.rooms ∙ x.rooms;
  added = y.added ∙ (ap (λ t. t ++ fs) x.added ∙ append_assoc (transcript a) es fs);
  further = (
    x.further.0 ++ y.further.0,
    y.further.1 ∙ (ap (λ l. l ++ y.further.0) x.further.1 ∙ append_assoc a.lines x.further.0 y.further.0),
  );
  kept = (
    x.kept.0 ++ y.kept.0,
    y.kept.1 ∙ (ap (λ l. l ++ y.kept.0) x.kept.1 ∙ append_assoc a.kept x.kept.0 y.kept.0),
  );
}

-- The datagrams without those with the stamps of some.
abbrev pub without : List Holding → List Holding → List Holding
without [] hs = hs
without (g ∷ gs) hs = without gs (filter (λ h. not (numbered g.stamp h)) hs)

module _ (i : Internet) (s c : ℕ) (t : List Entry) (to : Hw) where
  -- What is known of the datagrams that are to be released: they are held by the station on the cable, each with a stamp of its
  -- own.
  pub record ToFree (u : List Entry) (gs : List Holding) : Type 0 where
    pub held : (g : Holding) → In gs g → In (still_held u) g × (is_mine s c g ≡ true)
    pub apart : (n : ℕ) → count (numbered n) gs ≤ 1

  -- What is left after the first.
  rest_free : (u : List Entry) (g : Holding) (gs : List Holding) → ToFree u (g ∷ gs) → ToFree (u ++ freed to g ∷ []) gs
  rest_free u g gs free = record {
    held = λ h there.
        let w = free.held h (suc there.0, there.1) in
        let far : numbered g.stamp h ≡ false = false_from_ne_true (numbered g.stamp h) (λ p.
        let here = ap one (eq-eqb g.stamp g.stamp refl) in
        let more = count_at (numbered g.stamp) gs there.0 h there.1 p in
        let few = free.apart g.stamp in
        absurd (omega (arith, here, more, few))) in (
          subst (λ l. In l h) (sym (still_ended u (freed to g) g.stamp refl (λ n. refl)))
              (in_kept (λ (x : Holding). not (numbered g.stamp x)) (still_held u) h w.0 (ap not far)),
          w.1,
        );
    apart = λ n. let few = free.apart n in omega (arith, few);
  }

  -- The frame of the first is put.
  first_freed : (u : List Entry) (g : Holding) (gs : List Holding) (old mid : Cabling) → transcript old ≡ u
      → count (numbered g.stamp) (still_held u) ≤ 1 → ToFree u (g ∷ gs) → IsReleased to (Some g.stamp) old mid
      → Adds old mid (freed to g ∷ [])
  first_freed u g gs old mid e few free (inl (h, there, of_stamp, adds)) =
      let among : In (still_held u) h = subst (λ x. In (still_held x) h) e (in_list (still_held (transcript old)) h there) in
      let same : h ≡ g = one_only (numbered g.stamp) (still_held u) h g few among (free.held g (0, refl)).0
      (eq-eqb h.stamp g.stamp of_stamp) (eq-eqb g.stamp g.stamp refl) in
      subst (λ x. Adds old mid (freed to x ∷ [])) same adds
  first_freed u g gs old mid e few free (inr (closed, adds)) =
      let open_there : is_open u g.stamp ≡ true =
      any_in (λ (h : Holding). g.stamp == h.stamp) (still_held u) g (free.held g (0, refl)).0 (eq-eqb g.stamp g.stamp refl) in
      absurd (true≢false (sym open_there ∙ (ap (λ x. is_open x g.stamp) (sym e) ∙ closed)))

  -- All of them.
  pub all_freed : (u : List Entry) (hs gs : List Holding) (old new : Cabling) → transcript old ≡ u → After i s c t u hs → ToFree u gs
      → AreReleased to (map (λ (g : Holding). Some g.stamp) gs) old new
      → Adds old new (map (freed to) gs) × After i s c t (u ++ map (freed to) gs) (without gs hs)
  all_freed u hs [] old new e was free adds = (adds, subst (λ v. After i s c t v hs) (sym (append-nil u)) was)
  all_freed u hs (g ∷ gs) old new e was free (mid, first, later) =
      let few = few_held u g.stamp (was.books.once g.stamp) in
      let put = first_freed u g gs old mid e few free first in
      let h = free.held g (0, refl) in
      let next = after_ended i s c t u hs was (freed to g) g refl (λ n. refl) tt tt h.0 h.1 in
      let there : transcript mid ≡ u ++ freed to g ∷ [] = put.added ∙ ap (λ x. x ++ freed to g ∷ []) e in
      let rest = all_freed (u ++ freed to g ∷ []) (filter (λ x. not (numbered g.stamp x)) hs) gs mid new there next
      (rest_free u g gs free) later in (
        adds_then old mid new (freed to g ∷ []) (map (freed to) gs) put rest.0,
        subst (λ v. After i s c t v (without (g ∷ gs) hs)) (append_assoc u (freed to g ∷ []) (map (freed to) gs)) rest.1,
      )

-- ---- Those that are left

-- One with the stamp of some is taken out.
abbrev is_of : List Holding → Holding → Bool
is_of gs h = list_any (λ g. numbered g.stamp h) gs

without_is : (gs hs : List Holding) → without gs hs ≡ filter (λ h. not (is_of gs h)) hs
without_is [] hs = all hs
  where
    all : (hs : List Holding) → hs ≡ filter (λ h. true) hs
    all [] = refl
    all (h ∷ hs) = ap (λ l. h ∷ l) (all hs)
without_is (g ∷ gs) hs = without_is gs (filter (λ h. not (numbered g.stamp h)) hs) ∙ twice hs
  where
    one_step : (h : Holding) (rest : List Holding) (a b : Bool) → is_of gs h ≡ b
        → filter (λ h. not (is_of gs h)) (cond (not a) (h ∷ rest) rest)
        ≡ cond (not (a || b)) (h ∷ filter (λ h. not (is_of gs h)) rest) (filter (λ h. not (is_of gs h)) rest)
    one_step h rest true b e = refl
    one_step h rest false b e = ap (λ x. cond (not x) (h ∷ filter (λ h. not (is_of gs h)) rest) (filter (λ h. not (is_of gs h)) rest)) e

    twice : (hs : List Holding) → filter (λ h. not (is_of gs h)) (filter (λ h. not (numbered g.stamp h)) hs)
        ≡ filter (λ h. not (is_of (g ∷ gs) h)) hs
    twice [] = refl
    twice (h ∷ hs) =
        one_step h (filter (λ h. not (numbered g.stamp h)) hs) (numbered g.stamp h) (is_of gs h) refl
        ∙ ap (λ l. cond (not (numbered g.stamp h || is_of gs h)) (h ∷ l) l) (twice hs)

filter_same : {X : Type 0} (t u : X → Bool) (xs : List X) → Each (λ x. t x ≡ u x) xs → filter t xs ≡ filter u xs
filter_same t u [] h = refl
filter_same t u (x ∷ xs) h =
    ap (λ b. cond b (x ∷ filter t xs) (filter t xs)) h.0 ∙ ap (λ l. cond (u x) (x ∷ l) l) (filter_same t u xs h.1)

-- Without those that pass a test, the others are left.
pub without_passing : (test : Holding → Bool) (hs : List Holding) → ((n : ℕ) → count (numbered n) hs ≤ 1)
    → without (filter test hs) hs ≡ filter (λ h. not (test h)) hs
without_passing test hs apart =
    without_is (filter test hs) hs
    ∙ filter_same (λ h. not (is_of (filter test hs) h)) (λ h. not (test h)) hs
    (each_in (λ h. not (is_of (filter test hs) h) ≡ not (test h)) hs (λ h there. ap not (agree h there (test h) refl)))
  where
    agree : (h : Holding) → In hs h → (b : Bool) → test h ≡ b → is_of (filter test hs) h ≡ test h
    agree h there true e =
        any_in (λ (g : Holding). numbered g.stamp h) (filter test hs) h (in_kept test hs h there e) (eq-eqb h.stamp h.stamp refl) ∙ sym e
    agree h there false e =
        false_from_ne_true (is_of (filter test hs) h) (λ p.
        let g = any_at (λ (g : Holding). numbered g.stamp h) (filter test hs) p in
        let k = kept_in test hs g.1 (g.0, g.2) in
        let same : h ≡ g.1 = one_only (numbered g.1.stamp) hs h g.1 (apart g.1.stamp) there k.0 g.3 (eq-eqb g.1.stamp g.1.stamp refl) in
        true≢false (sym k.1 ∙ (ap test (sym same) ∙ e))) ∙ sym e

-- Each of the datagrams that a station holds on a cable has a stamp of its own.
pub held_apart : (u : List Entry) (s c n : ℕ) → count (numbered n) (still_held u) ≤ 1
    → count (numbered n) (filter (is_mine s c) (still_held u)) ≤ 1
held_apart u s c n few =
    let part = count-filter (numbered n) (is_mine s c) (still_held u) in
    let le = count_le (λ h. is_mine s c h && numbered n h) (numbered n) (still_held u)
    (λ h p. (and_parts (is_mine s c h) (numbered n h) p).1) in
    omega (arith, part, le, few)
