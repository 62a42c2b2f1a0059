-- Carriage where stations hold datagrams, from that of the plain transcript.
use Rattle.std.proofs.Common.{◌≡◌, ◌≢◌, ◌≤◌, ◌<◌, ℕ, Bool, true, false, cond, ◌==◌, List, [], ◌∷◌, ◌++◌, Option, Some, None}
use Rattle.std.proofs.Common.{Contains, refl, sym, ap, ◌∙◌, subst, arith, append-nil, is_some, length, inl, inr, eq-eqb, ne_eqb, true≢false}
use Rattle.ddp.specs.Bodies.{hops, target}
use Rattle.table_image.specs.Internet.{Internet}
use Rattle.table_image.specs.Seats.{Seat as PlaceOf, seat_at}
use Rattle.audit.specs.Rules.{Passes}
use Rattle.station.specs.declared.heard.Kind.{Kind}
use Rattle.station.specs.declared.heard.Kind.TheVariants.{Aarp, Ddp}
use Rattle.cable_model.specs.Holdings.{holds, released_frame, still_held}
use Rattle.cable_model.specs.Pending.{Pair, pending}
use Rattle.cable_model.specs.Transcript.{Entry, Frame, Holding, Sent, Put, Took, Reached, Dropped, Lost, Hold, above, has_put, is_put}
use Rattle.cable_model.specs.Transcript.{next_stamp}
use Rattle.cable_model.proofs.Counting.{each_at}
use Rattle.cable_model.proofs.Stamps.{above_more, held_below, next_after, put_below, stamp_from_more}
use Rattle.legal_runs.specs.Carriage.{AreCarried, Chains, IsChain, Stamped, after, chain_in, none_yet, of_stamp}
use Rattle.legal_runs.specs.LossyRuns.{IsLegalWithLosses}
use Rattle.legal_runs.specs.Stations.{cable_seats, is_on}
use Rattle.legal_runs.proofs.LossyLaws.{carried_with_losses}
use Rattle.legal_runs.proofs.StampedLists.{FreshFrom, fresh_less, fresh_more, of_end, of_front}
use Rattle.resolved_runs.specs.HeldChains.{AreCarriedOrHeld, HasHops, IsCarriedOrHeld, held_after, put_after, took_after, with_chain}
use Rattle.resolved_runs.specs.Mapped.{frame_of}
use Rattle.resolved_runs.specs.Plain.{hold_of, plain, plain_entry, plain_hold, plain_how, plain_lost, plain_took}
use Rattle.resolved_runs.proofs.Elements.{In, any_in, in_one, in_parts}
use Rattle.resolved_runs.proofs.Stamped.{frame_is}
use Rattle.resolved_runs.proofs.Plains.{plain_one, put_aarp, put_direct, put_released, took_aarp, took_datagram}
use Rattle.resolved_runs.proofs.Standing.{held_in, hold_none, hold_plain, pair_put, pending_in, put_plain}
use Rattle.resolved_runs.proofs.Steps.{hold_found}
use Rattle.resolved_runs.proofs.Told.{Fact, IsAarp, IsDropped, IsHeld, IsLost, IsNew, IsPacket, IsReached, IsReleased, IsSent, IsTold}
use Rattle.resolved_runs.proofs.Told.{IsTook, More, Nothing}

-- A value of another stamp.
pub of_apart : {X : Type 0} (xs : List (Stamped X)) (j k : ℕ) (x : X) → j ≢ k → of_stamp k xs ≡ None
    → of_stamp k (xs ++ record { stamp = j; value = x } ∷ []) ≡ None
of_apart {X} [] j k x apart e = ap (λ b. cond b (Some x) (of_stamp {X = X} k [])) (ne_eqb j k apart)
of_apart {X} (s ∷ xs) j k x apart e = by (of_apart xs j k x apart) (s.stamp == k) refl e
  where
    by : (of_stamp k xs ≡ None → of_stamp k (xs ++ record { stamp = j; value = x } ∷ []) ≡ None) → (b : Bool) → (s.stamp == k) ≡ b → cond b (Some s.value) (of_stamp k xs) ≡ None
        → cond b (Some s.value) (of_stamp k (xs ++ record { stamp = j; value = x } ∷ [])) ≡ None
    by rest true h g = cc
    by rest false h g = rest g

-- The chains after entries, without holdings.
abbrev afters : List Entry → Chains → Chains
afters [] w = w
afters (e ∷ es) w = afters es (after e w)

carried_parts : (i : Internet) (es fs : List Entry) (w : Chains) → AreCarried i w (es ++ fs)
    → AreCarried i w es × AreCarried i (afters es w) fs
carried_parts i [] fs w h = (tt, h)
carried_parts i (e ∷ es) fs w h = let g = carried_parts i es fs (after e w) h.1 in ((h.0, g.0), g.1)

module _ (i : Internet) where
  -- The chains of a transcript, and those of its plain transcript.
  record Matches (u : List Entry) (w v : Chains) : Type 0 where
    pub now : w.now ≡ v.now
    pub same : (f : Frame) → In (plain i u) (Put f) → (c : List ℕ) × (of_stamp f.stamp w.frames ≡ Some c) × (of_stamp f.stamp v.frames ≡ Some c)
        × (is_on i f.sender f.cable ≡ true) × (hops f.bytes ≡ length c)
    pub fresh : FreshFrom (next_stamp u) w.frames
    pub plain_fresh : FreshFrom (next_stamp u) v.frames
    pub aarp : (f : Frame) → In u (Put f) → f.kind ≡ Aarp → of_stamp f.stamp w.frames ≡ None

  -- An entry after which frames have the chains that they had.
  quiet : (u : List Entry) (e : Entry) (ps : List Entry) (w v x y : Chains) → Matches u w v → plain_entry i u e ≡ ps
      → ((f : Frame) → In ps (Put f) → ⊥) → ((f : Frame) → e ≡ Put f → ⊥) → next_stamp u ≤ next_stamp (u ++ e ∷ [])
      → x.frames ≡ w.frames → y.frames ≡ v.frames → x.now ≡ y.now → Matches (u ++ e ∷ []) x y
  quiet u e ps w v x y m is none other le ex ey now = record {
    now = now;
    same = λ f there.
        let before = plain_before f there in
        let g = m.same f before in
        (g.0, ap (of_stamp f.stamp) ex ∙ g.1, ap (of_stamp f.stamp) ey ∙ g.2, g.3, g.4);
    fresh = subst (FreshFrom (next_stamp (u ++ e ∷ []))) (sym ex) (fresh_less (next_stamp u) (next_stamp (u ++ e ∷ [])) w.frames le m.fresh);
    plain_fresh =
        subst (FreshFrom (next_stamp (u ++ e ∷ []))) (sym ey) (fresh_less (next_stamp u) (next_stamp (u ++ e ∷ [])) v.frames le m.plain_fresh);
    aarp = λ f there kind. ap (of_stamp f.stamp) ex ∙ m.aarp f (entry_before f there) kind;
  }
    where
      plain_before : (f : Frame) → In (plain i (u ++ e ∷ [])) (Put f) → In (plain i u) (Put f)
      plain_before f there = elim (in_parts (plain i u) ps (Put f)
          (subst (λ l. In l (Put f)) (plain_one i u e ∙ ap (λ l. plain i u ++ l) is) there)) as (λ _. In (plain i u) (Put f)) [
            | inl h ↦ h
            | inr h ↦ absurd (none f h)
          ]

      entry_before : (f : Frame) → In (u ++ e ∷ []) (Put f) → In u (Put f)
      entry_before f there = elim (in_parts u (e ∷ []) (Put f) there) as (λ _. In u (Put f)) [
        | inl h ↦ h
        | inr h ↦ absurd (other f (in_one e (Put f) h))
      ]

  grown : (u : List Entry) (e : Entry) → next_stamp u ≤ next_stamp (u ++ e ∷ [])
  grown u e = let n = next_after u e in let le = stamp_from_more (next_stamp u) (e ∷ []) in omega (arith, n, le)

  -- ---- Frames and holdings

  -- The chains with one more on both sides.
  both_more : (u : List Entry) (e : Entry) (f : Frame) (w v : Chains) → Matches u w v → plain_entry i u e ≡ Put f ∷ []
      → next_stamp u ≤ f.stamp → next_stamp (u ++ e ∷ []) ≡ above (next_stamp u) f.stamp
      → ((g : Frame) → In (u ++ e ∷ []) (Put g) → g.kind ≡ Aarp → In u (Put g))
      → is_on i f.sender f.cable ≡ true → hops f.bytes ≡ length v.now
      → Matches (u ++ e ∷ []) (with_chain f.stamp w) (with_chain f.stamp v)
  both_more u e f w v m is new next aarp on count = record {
    now = m.now;
    same = λ g there. elim (in_parts (plain i u) (Put f ∷ []) (Put g)
        (subst (λ l. In l (Put g)) (plain_one i u e ∙ ap (λ l. plain i u ++ l) is) there)) as
        (λ _. (c : List ℕ) × (of_stamp g.stamp (with_chain f.stamp w).frames ≡ Some c) × (of_stamp g.stamp (with_chain f.stamp v).frames ≡ Some c)
        × (is_on i g.sender g.cable ≡ true) × (hops g.bytes ≡ length c)) [
          | inl h ↦
              let k = m.same g h in
              (k.0, of_front w.frames _ g.stamp k.0 k.1, of_front v.frames _ g.stamp k.0 k.2, k.3, k.4)
          | inr h ↦ this g (same_frame f g (in_one (Put f) (Put g) h))
        ];
    fresh =
        subst (λ n. FreshFrom n (with_chain f.stamp w).frames) (sym next) (fresh_more (next_stamp u) f.stamp w.frames w.now m.fresh);
    plain_fresh =
        subst (λ n. FreshFrom n (with_chain f.stamp v).frames) (sym next) (fresh_more (next_stamp u) f.stamp v.frames v.now m.plain_fresh);
    aarp = λ g there kind.
        let before = aarp g there kind in
        of_apart w.frames f.stamp g.stamp w.now (old g before) (m.aarp g before kind);
  }
    where
      same_frame : (f g : Frame) → Put f ≡ Put g → f ≡ g
      same_frame f g e = cc

      old : (g : Frame) → In u (Put g) → f.stamp ≢ g.stamp
      old g there eq =
          let lt = put_below u g.stamp (any_in (has_put g.stamp) u (Put g) there (eq-eqb g.stamp g.stamp refl)) in
          absurd (omega (arith, lt, eq, new))

      this : (g : Frame) → f ≡ g → (c : List ℕ) × (of_stamp g.stamp (with_chain f.stamp w).frames ≡ Some c)
          × (of_stamp g.stamp (with_chain f.stamp v).frames ≡ Some c) × (is_on i g.sender g.cable ≡ true) × (hops g.bytes ≡ length c)
      this g same =
          subst (λ (g : Frame). (c : List ℕ) × (of_stamp g.stamp (with_chain f.stamp w).frames ≡ Some c)
          × (of_stamp g.stamp (with_chain f.stamp v).frames ≡ Some c) × (is_on i g.sender g.cable ≡ true) × (hops g.bytes ≡ length c)) same (
            v.now,
            of_end w.frames f.stamp w.now (m.fresh f.stamp new) ∙ ap Some m.now,
            of_end v.frames f.stamp v.now (m.plain_fresh f.stamp new),
            on,
            count,
          )

  module _ (u : List Entry) (w v : Chains) (told : IsTold i u) (m : Matches u w v) where
    -- What an entry keeps.
    abbrev Keeps : Entry → Type 0
    Keeps e = IsCarriedOrHeld i w e × Matches (u ++ e ∷ []) (held_after e w) (afters (plain_entry i u e) v)

    no_put : (e : Entry) (f : Frame) → is_put e ≡ false → e ≡ Put f → ⊥
    no_put e f none eq = let yes : is_put e ≡ true = ap is_put eq in true≢false (sym yes ∙ none)

    new : (f : Frame) → f.kind ≡ Ddp → next_stamp u ≤ f.stamp → AreCarried i v (plain_entry i u (Put f)) → Keeps (Put f)
    new f kind fresh carried =
        let is = put_direct u f kind (hold_none u f.stamp fresh) in
        let h : AreCarried i v (Put f ∷ []) = subst (AreCarried i v) is carried in
        let on = h.0.0 in
        let count = h.0.1 in
        let frames = of_end w.frames f.stamp w.now (m.fresh f.stamp fresh) in (
          (
            on,
            subst (λ k. HasHops k f (put_after f k w)) (sym kind)
                (count ∙ (ap length (sym m.now) ∙ ap (λ o. length (chain_in o)) (sym frames))),
          ),
          subst (λ es. Matches (u ++ Put f ∷ []) (put_after f f.kind w) (afters es v)) (sym is)
              (subst (λ k. Matches (u ++ Put f ∷ []) (put_after f k w) (with_chain f.stamp v)) (sym kind)
              (both_more u (Put f) f w v m is fresh (next_after u (Put f)) (λ g there k. old g there k) on count)),
        )
      where
        old : (g : Frame) → In (u ++ Put f ∷ []) (Put g) → g.kind ≡ Aarp → In u (Put g)
        old g there k = elim (in_parts u (Put f ∷ []) (Put g) there) as (λ _. In u (Put g)) [
          | inl h ↦ h
          | inr h ↦ absurd (never (in_one (Put f) (Put g) h))
        ]
          where
            never : Put f ≡ Put g → ⊥
            never eq =
                let one : f ≡ g = cc in
                let no : Ddp ≡ Aarp = sym kind ∙ (ap (λ (x : Frame). x.kind) one ∙ k) in
                cc

    aarp : (f : Frame) → f.kind ≡ Aarp → next_stamp u ≤ f.stamp → IsPacket i f → Keeps (Put f)
    aarp f kind fresh packet =
        let is : plain_entry i u (Put f) ≡ [] = put_aarp u f kind in
        let n = next_after u (Put f) in
        let more = above_more (next_stamp u) f.stamp in
        let le : next_stamp u ≤ next_stamp (u ++ Put f ∷ []) = omega (arith, n, more) in (
          (packet.on, subst (λ k. HasHops k f (put_after f k w)) (sym kind) tt),
          subst (λ es. Matches (u ++ Put f ∷ []) (put_after f f.kind w) (afters es v)) (sym is)
              (subst (λ k. Matches (u ++ Put f ∷ []) (put_after f k w) v) (sym kind) (record {
                now = m.now;
                same = λ g there.
                    m.same g (subst (λ l. In l (Put g)) (plain_one i u (Put f) ∙ (ap (λ l. plain i u ++ l) is ∙ append-nil (plain i u))) there);
                fresh = fresh_less (next_stamp u) (next_stamp (u ++ Put f ∷ [])) w.frames le m.fresh;
                plain_fresh = fresh_less (next_stamp u) (next_stamp (u ++ Put f ∷ [])) v.frames le m.plain_fresh;
                aarp = λ g there k. elim (in_parts u (Put f ∷ []) (Put g) there) as (λ _. of_stamp g.stamp w.frames ≡ None) [
                  | inl h ↦ m.aarp g h k
                  | inr h ↦ subst (λ (x : Frame). of_stamp x.stamp w.frames ≡ None) (same_frame f g (in_one (Put f) (Put g) h))
                      (m.fresh f.stamp fresh)
                ];
              })),
        )
      where
        same_frame : (f g : Frame) → Put f ≡ Put g → f ≡ g
        same_frame f g e = cc

    released : (h : Holding) (s : PlaceOf) → Contains (still_held u) h → seat_at i h.cable h.next ≡ Some s
        → Keeps (Put (released_frame h s.hardware))
    released h s still found =
        let f : Frame = released_frame h s.hardware in
        let held = (held_in u h still).0 in
        let k = m.same f (hold_plain i [] u h s held found) in
        let is : plain_entry i u (Put f) ≡ [] = put_released u f refl (hold_found i u h held) in
        let low = each_at (λ (d : Holding). d.stamp < next_stamp u) (holds u) held.0 h held.1 (held_below u) in
        let n = next_after u (Put f) in
        let more = above_more (next_stamp u) h.stamp in
        let le : next_stamp u ≤ next_stamp (u ++ Put f ∷ []) = omega (arith, n, more) in (
          (k.3, k.4 ∙ ap (λ o. length (chain_in o)) (sym (of_front w.frames _ h.stamp k.0 k.1))),
          subst (λ es. Matches (u ++ Put f ∷ []) (with_chain h.stamp w) (afters es v)) (sym is) (record {
            now = m.now;
            same = λ g there.
                let a = m.same g (subst (λ l. In l (Put g)) (plain_one i u (Put f) ∙ (ap (λ l. plain i u ++ l) is ∙ append-nil (plain i u))) there) in
                (a.0, of_front w.frames _ g.stamp a.0 a.1, a.2, a.3, a.4);
            fresh = λ j le_j.
                of_apart w.frames h.stamp j w.now (λ e. absurd (omega (arith, e, low, le, le_j))) (m.fresh j (omega (arith, le, le_j)));
            plain_fresh = fresh_less (next_stamp u) (next_stamp (u ++ Put f ∷ [])) v.frames le m.plain_fresh;
            aarp = λ g there kind.
                let before = old g there kind in
                let none = m.aarp g before kind in
                of_apart w.frames h.stamp g.stamp w.now (λ e. absurd (none_some k.0 (ap (λ j. of_stamp j w.frames) e ∙ none) k.1)) none;
          }),
        )
      where
        none_some : {o : Option (List ℕ)} (c : List ℕ) → o ≡ None → o ≡ Some c → ⊥
        none_some c a b = let no : None ≡ Some c = sym a ∙ b in cc

        old : (g : Frame) → In (u ++ Put (released_frame h s.hardware) ∷ []) (Put g) → g.kind ≡ Aarp → In u (Put g)
        old g there k = elim (in_parts u (Put (released_frame h s.hardware) ∷ []) (Put g) there) as (λ _. In u (Put g)) [
          | inl a ↦ a
          | inr a ↦ absurd (never (in_one (Put (released_frame h s.hardware)) (Put g) a))
        ]
          where
            never : Put (released_frame h s.hardware) ≡ Put g → ⊥
            never eq =
                let one : released_frame h s.hardware ≡ g = cc in
                let no : Ddp ≡ Aarp = ap (λ (x : Frame). x.kind) one ∙ k in
                cc

    held : (h : Holding) → next_stamp u ≤ h.stamp → AreCarried i v (plain_entry i u (Hold h)) → Keeps (Hold h)
    held h new carried = (tt, by (seat_at i h.cable h.next) refl carried)
      where
        old : (g : Frame) → In (u ++ Hold h ∷ []) (Put g) → In u (Put g)
        old g there = elim (in_parts u (Hold h ∷ []) (Put g) there) as (λ _. In u (Put g)) [
          | inl a ↦ a
          | inr a ↦ let eq = in_one (Hold h) (Put g) a in cc
        ]

        apart : (g : Frame) → In u (Put g) → h.stamp ≢ g.stamp
        apart g there eq =
            let lt = put_below u g.stamp (any_in (has_put g.stamp) u (Put g) there (eq-eqb g.stamp g.stamp refl)) in
            absurd (omega (arith, lt, eq, new))

        by : (o : Option PlaceOf) → seat_at i h.cable h.next ≡ o → AreCarried i v (plain_hold h o)
            → Matches (u ++ Hold h ∷ []) (with_chain h.stamp w) (afters (plain_hold h (seat_at i h.cable h.next)) v)
        by (Some s) e c =
            let is : plain_entry i u (Hold h) ≡ Put (released_frame h s.hardware) ∷ [] = ap (plain_hold h) e in
            subst (λ es. Matches (u ++ Hold h ∷ []) (with_chain h.stamp w) (afters es v)) (sym is)
            (both_more u (Hold h) (released_frame h s.hardware) w v m is new (next_after u (Hold h)) (λ g there k. old g there) c.0.0 c.0.1)
        by None e c =
            let is : plain_entry i u (Hold h) ≡ [] = ap (plain_hold h) e in
            subst (λ es. Matches (u ++ Hold h ∷ []) (with_chain h.stamp w) (afters es v)) (sym is) (record {
              now = m.now;
              same = λ g there.
                  let a = m.same g (subst (λ l. In l (Put g)) (plain_one i u (Hold h) ∙ (ap (λ l. plain i u ++ l) is ∙ append-nil (plain i u))) there) in
                  (a.0, of_front w.frames _ g.stamp a.0 a.1, a.2, a.3, a.4);
              fresh =
                  subst (λ n. FreshFrom n (with_chain h.stamp w).frames) (sym (next_after u (Hold h)))
                  (fresh_more (next_stamp u) h.stamp w.frames w.now m.fresh);
              plain_fresh = fresh_less (next_stamp u) (next_stamp (u ++ Hold h ∷ [])) v.frames (grown u (Hold h)) m.plain_fresh;
              aarp = λ g there kind. of_apart w.frames h.stamp g.stamp w.now (apart g (old g there)) (m.aarp g (old g there) kind);
            })

    took : (p : Pair) → Contains (pending (cable_seats i) u) p → Keeps (Took p.frame.stamp p.seat.station)
    took p still = (tt, by p.frame.kind refl)
      where
        there : In u (Put p.frame)
        there = (pair_put (cable_seats i) u p (pending_in i (cable_seats i) u p still).0).0

        frame : frame_of p.frame.stamp u ≡ Some p.frame
        frame = frame_is i u p.frame told there

        e : Entry
        e = Took p.frame.stamp p.seat.station

        by : (k : Kind) → p.frame.kind ≡ k
            → Matches (u ++ e ∷ []) (took_after p.seat.station (of_stamp p.frame.stamp w.frames) w) (afters (plain_entry i u e) v)
        by Ddp kind =
            let is : plain_entry i u e ≡ e ∷ [] =
            ap (plain_took p.frame.stamp p.seat.station) frame ∙ took_datagram p.frame.stamp p.seat.station p.frame kind in
            let a = m.same p.frame (put_plain i u p.frame told there kind) in
            subst (λ es. Matches (u ++ e ∷ []) (took_after p.seat.station (of_stamp p.frame.stamp w.frames) w) (afters es v)) (sym is)
            (subst (λ o. Matches (u ++ e ∷ []) (took_after p.seat.station o w) (afters (e ∷ []) v)) (sym a.1)
            (quiet u e (e ∷ []) w v _ _ m is (λ f h. let eq = in_one e (Put f) h in cc) (λ f eq. cc) (grown u e) refl refl
            (ap (λ o. chain_in o ++ p.seat.station ∷ []) (sym a.2))))
        by Aarp kind =
            let is : plain_entry i u e ≡ [] =
            ap (plain_took p.frame.stamp p.seat.station) frame ∙ took_aarp p.frame.stamp p.seat.station p.frame kind in
            subst (λ es. Matches (u ++ e ∷ []) (took_after p.seat.station (of_stamp p.frame.stamp w.frames) w) (afters es v)) (sym is)
            (subst (λ o. Matches (u ++ e ∷ []) (took_after p.seat.station o w) v) (sym (m.aarp p.frame there kind))
            (quiet u e [] w v w v m is (λ f h. let eq = h.1 in cc) (λ f eq. cc) (grown u e) refl refl m.now))

    lost : (h : Holding) → Keeps (Lost h.stamp)
    lost h = (tt, by (hold_of h.stamp u) refl)
      where
        inner : (d : Holding) (b : Bool) → plain_entry i u (Lost h.stamp) ≡ cond b (Lost h.stamp ∷ []) []
            → Matches (u ++ Lost h.stamp ∷ []) w (afters (cond b (Lost h.stamp ∷ []) []) v)
        inner d true is =
            quiet u (Lost h.stamp) (Lost h.stamp ∷ []) w v w v m is (λ f a. let eq = in_one (Lost h.stamp) (Put f) a in cc) (λ f eq. cc)
            (grown u (Lost h.stamp)) refl refl m.now
        inner d false is =
            quiet u (Lost h.stamp) [] w v w v m is (λ f a. let eq = a.1 in cc) (λ f eq. cc) (grown u (Lost h.stamp)) refl refl m.now

        by : (o : Option Holding) → hold_of h.stamp u ≡ o
            → Matches (u ++ Lost h.stamp ∷ []) w (afters (plain_lost i h.stamp (hold_of h.stamp u)) v)
        by None e =
            subst (λ o. Matches (u ++ Lost h.stamp ∷ []) w (afters (plain_lost i h.stamp o) v)) (sym e)
            (inner h true (ap (plain_lost i h.stamp) e))
        by (Some d) e =
            subst (λ o. Matches (u ++ Lost h.stamp ∷ []) w (afters (plain_lost i h.stamp o) v)) (sym e)
            (inner d (is_some (seat_at i d.cable d.next)) (ap (plain_lost i h.stamp) e))

    -- Each entry keeps it.
    step : (e : Entry) → Fact i u e → AreCarried i v (plain_entry i u e) → Keeps e
    step e (IsNew f kind fresh) c = new f kind fresh c
    step e (IsAarp f kind fresh packet) c = aarp f kind fresh packet
    step e (IsReleased h s still found) c = released h s still found
    step e (IsHeld h fresh) c = held h fresh c
    step e (IsLost h still) c = lost h
    step e (IsTook p still) c = took p still
    step e (IsSent s b) c = (
      tt,
      quiet u (Sent s b) (Sent s b ∷ []) w v _ _ m refl (λ f h. let eq = in_one (Sent s b) (Put f) h in cc) (λ f eq. cc)
          (grown u (Sent s b)) refl refl refl,
    )
    step e (IsReached k s how b) c = (
      subst (λ x. IsChain i (target b).net k x) (sym m.now) c.0,
      quiet u (Reached k s how b) _ w v w v m refl
          (λ f h. let eq = in_one (Reached k s (plain_how how (seat_at i k (target b))) b) (Put f) h in cc) (λ f eq. cc)
          (grown u (Reached k s how b)) refl refl m.now,
    )
    step e (IsDropped r cause b) c = (
      tt,
      quiet u (Dropped r cause b) (Dropped r cause b ∷ []) w v w v m refl
          (λ f h. let eq = in_one (Dropped r cause b) (Put f) h in cc) (λ f eq. cc) (grown u (Dropped r cause b)) refl refl m.now,
    )

  -- ---- Transcripts

  abbrev helds : List Entry → Chains → Chains
  helds [] w = w
  helds (e ∷ es) w = helds es (held_after e w)

  helds-append : (es : List Entry) (e : Entry) (w : Chains) → helds (es ++ e ∷ []) w ≡ held_after e (helds es w)
  helds-append [] e w = refl
  helds-append (x ∷ es) e w = helds-append es e (held_after x w)

  afters-append : (es fs : List Entry) (w : Chains) → afters (es ++ fs) w ≡ afters fs (afters es w)
  afters-append [] fs w = refl
  afters-append (x ∷ es) fs w = afters-append es fs (after x w)

  held_more : (es : List Entry) (e : Entry) (w : Chains) → AreCarriedOrHeld i w es → IsCarriedOrHeld i (helds es w) e
      → AreCarriedOrHeld i w (es ++ e ∷ [])
  held_more [] e w h g = (g, tt)
  held_more (x ∷ es) e w h g = (h.0, held_more es e (held_after x w) h.1 g)

  all_carried : (u : List Entry) → IsTold i u → AreCarried i none_yet (plain i u)
      → AreCarriedOrHeld i none_yet u × Matches u (helds u none_yet) (afters (plain i u) none_yet)
  all_carried u Nothing h = (
    tt,
    record {
      now = refl;
      same = λ f there. let no = there.1 in cc;
      fresh = λ k le. refl;
      plain_fresh = λ k le. refl;
      aarp = λ f there kind. refl;
    },
  )
  all_carried u (More t e told fact) h =
      let parts = carried_parts i (plain i t) (plain_entry i t e) none_yet (subst (AreCarried i none_yet) (plain_one i t e) h) in
      let before = all_carried t told parts.0 in
      let this = step t (helds t none_yet) (afters (plain i t) none_yet) told before.1 e fact parts.1 in (
        held_more t e none_yet before.0 this.0,
        subst (λ w. Matches (t ++ e ∷ []) w (afters (plain i (t ++ e ∷ [])) none_yet)) (sym (helds-append t e none_yet))
            (subst (Matches (t ++ e ∷ []) (held_after e (helds t none_yet)))
            (sym (ap (λ es. afters es none_yet) (plain_one i t e) ∙ afters-append (plain i t) (plain_entry i t e) none_yet)) this.1),
      )

  pub carried_or_held : (ok : Passes i) (t : List Entry) → IsTold i t → IsLegalWithLosses i (plain i t) → AreCarriedOrHeld i none_yet t
  carried_or_held ok t told legal = (all_carried t told (carried_with_losses i (plain i t) ok legal)).0
