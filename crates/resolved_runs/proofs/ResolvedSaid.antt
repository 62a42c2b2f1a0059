-- What stations say, and the fates of datagrams, with resolution, stand for plain ones.
use Rattle.std.proofs.Common.{◌≡◌, ◌≢◌, ◌≤◌, ◌+◌, ℕ, Bool, true, false, cond, ◌||◌, ◌==◌, List, [], ◌∷◌, ◌++◌}
use Rattle.std.proofs.Common.{refl, sym, ap, ◌∙◌, subst, arith, append_assoc}
use Rattle.std.specs.List.{AllByRecursion as Each}
use Rattle.std.proofs.lemmas.Bool.{eqb-false}
use Rattle.at_base.specs.declared.address.Addr.{Addr}
use Rattle.ddp.specs.Bodies.{body, hops, target}
use Rattle.table_image.specs.Internet.{Internet}
use Rattle.audit.specs.Routing.{Hand, Here, On, Nowhere, hand}
use Rattle.audit.specs.Rules.{Passes}
use Rattle.station.specs.declared.output.DropCause.TheVariants.{HopLimit, NoRoute}
use Rattle.station.specs.declared.output.Next.{Next}
use Rattle.station.specs.declared.output.Next.TheVariants as next
use Rattle.cable_model.specs.declared.entry.How.TheVariants as how
use Rattle.cable_model.specs.Holdings.{holds}
use Rattle.cable_model.specs.Pending.{Pair}
use Rattle.cable_model.specs.Transcript.{Entry, Sent, Reached, Dropped, next_stamp}
use Rattle.cable_model.specs.Transcript.{stamps}
use Rattle.cable_model.proofs.Stamps.{next_after}
use Rattle.legal_runs.specs.Answers.{ByRouter, MayLeave as Ways, IsMade, OnCable, Straight, ToThem, ToThese}
use Rattle.legal_runs.specs.Legs.{Leg, fate, fate_by, final, is_copy, leg, leg_bytes, passed}
use Rattle.legal_runs.specs.Losses.{Another, Nothing as NoneSaid, Said}
use Rattle.legal_runs.specs.Stations.{has_address}
use Rattle.legal_runs.proofs.Frames.{Framed, target_inside, target_stays, whole, whole_inside}
use Rattle.resolved_runs.specs.Fates.{fate_with_by}
use Rattle.resolved_runs.specs.Fitting.{SeatsFit}
use Rattle.resolved_runs.specs.Resolved.{resolved_leg, resolved_said}
use Rattle.resolved_runs.specs.ResolvedRuns.{resolved_fate}
use Rattle.resolved_runs.proofs.Fits.{Fits, hand_owner, owner_fits, target_fits}
use Rattle.resolved_runs.proofs.ResolvedLegs.{IsReady, leg_done}
use Rattle.resolved_runs.proofs.Steps.{Done, done_none, done_then, done_told}
use Rattle.resolved_runs.proofs.Steps.{one_dropped, one_reached, one_sent}
use Rattle.resolved_runs.proofs.Told.{IsTold}
use Rattle.resolved_runs.proofs.PlainStamps.{said_less}

module _ (i : Internet) (ok : Passes i) (fit : SeatsFit i) where
  -- ---- Legs that are ready

  hops_few : (bytes : List ℕ) → hops bytes ≤ 15
  hops_few bytes = omega arith

  ready : (l : Leg) → Framed (leg_bytes l) → Fits (target (leg_bytes l)) → ((a : Addr) → l.next ≡ next.Station a → Fits a) → IsReady l
  ready l framed fits next = record { inside = target_inside (leg_bytes l) framed; fits = fits; next = next }

  pub made_ready : (l : Leg) → IsMade i l → IsReady l
  made_ready l made =
      let fresh = made.fresh in
      let few : l.hops ≤ 15 = omega (arith, fresh) in
      ready l (record { inside = l.body; count = l.hops; whole = whole l.body made.whole; few = few; is = refl })
      (subst Fits (sym (target_stays l.hops few l.body)) (target_fits l.body made.whole.each)) (λ a e. by a e made.goes)
    where
      same_station : (a b : Addr) → l.next ≡ next.Station a → l.next ≡ next.Station b → a ≡ b
      same_station a b e f = let both : next.Station a ≡ next.Station b = sym e ∙ f in cc

      by : (a : Addr) → l.next ≡ next.Station a → Ways i l → Fits a
      by a e (Straight f holds n m) = subst Fits (same_station (target l.body) a f e) (target_fits l.body made.whole.each)
      by a e (ByRouter b r f own n) = subst Fits (same_station b a f e) (owner_fits i ok l.cable b r own)
      by a e (ToThem f h n) = cc
      by a e (OnCable f n m) = cc
      by a e (ToThese g lt f n m) = cc

  pub all_ready : (ls : List Leg) → Each (IsMade i) ls → Each IsReady ls
  all_ready [] made = tt
  all_ready (l ∷ ls) made = (made_ready l made.0, all_ready ls made.1)

  -- ---- What stations say

  pub said_done : (u : List Entry) (ls : List Leg) → IsTold i u → Each IsReady ls
      → (es : List Entry) × Said i (next_stamp u) ls es × Done i u (resolved_said i u ls) es
  said_done u [] told each = ([], NoneSaid (next_stamp u), done_none i u)
  said_done u (l ∷ ls) told each =
      let s : Entry = Sent l.station l.body in
      let v : List Entry = u ++ s ∷ [] in
      let first = one_sent i u l.station l.body in
      let told_v : IsTold i v = done_told i u (s ∷ []) (s ∷ []) told first in
      let xs : List Entry = resolved_leg i v l in
      let ps : List Entry = leg i (next_stamp v) l in
      let d : Done i v xs ps = leg_done i ok fit v l told_v each.0 in
      let same : v ++ xs ≡ u ++ s ∷ xs = append_assoc u (s ∷ []) xs in
      let told_w : IsTold i (u ++ s ∷ xs) = subst (IsTold i) same (done_told i v xs ps told_v d) in
      let rest = said_done (u ++ s ∷ xs) ls told_w each.1 in
      let more = subst (λ w. Done i w (resolved_said i (u ++ s ∷ xs) ls) rest.0) (sym same) rest.2 in
      let n = next_after u s in
      let far = d.next in
      let on = ap next_stamp same in (
        s ∷ (ps ++ rest.0),
        Another (next_stamp u) (next_stamp v) l ls rest.0 (omega (arith, n))
            (said_less i (next_stamp v + stamps ps) (next_stamp (u ++ s ∷ xs)) ls rest.0 (omega (arith, far, on)) rest.1),
        done_then i u (s ∷ []) (s ∷ []) (xs ++ resolved_said i (u ++ s ∷ xs) ls) (ps ++ rest.0) first
            (done_then i v xs ps (resolved_said i (u ++ s ∷ xs) ls) rest.0 d more),
      )

  -- ---- Fates

  module _ (u : List Entry) (p : Pair) (told : IsTold i u) (framed : Framed p.frame.bytes) (fits : Fits (target p.frame.bytes)) where
    pub passed_ready : (r c : ℕ) (whom : Next) → (hops p.frame.bytes == 15) ≡ false → ((a : Addr) → whom ≡ next.Station a → Fits a)
        → IsReady (passed r p c whom)
    passed_ready r c whom more next =
        let top = hops_few p.frame.bytes in
        let less = eqb-false (hops p.frame.bytes) 15 more in
        let few : hops p.frame.bytes + 1 ≤ 15 = below (hops p.frame.bytes) top less in
        ready (passed r p c whom)
        (record {
          inside = body p.frame.bytes;
          count = hops p.frame.bytes + 1;
          whole = whole_inside p.frame.bytes framed;
          few = few;
          is = refl;
        })
        (subst Fits (sym (target_stays (hops p.frame.bytes + 1) few (body p.frame.bytes) ∙ target_inside p.frame.bytes framed)) fits) next
      where
        below : (n : ℕ) → n ≤ 15 → n ≢ 15 → n + 1 ≤ 15
        below n le ne = omega (arith, le, ne)

    on_leg : (r c : ℕ) (whom : Next) → ((a : Addr) → whom ≡ next.Station a → Fits a)
        → Done i u (cond (hops p.frame.bytes == 15) (Dropped r HopLimit (body p.frame.bytes) ∷ []) (resolved_leg i u (passed r p c whom)))
        (cond (hops p.frame.bytes == 15) (Dropped r HopLimit (body p.frame.bytes) ∷ []) (leg i (next_stamp u) (passed r p c whom)))
    on_leg r c whom next = by (hops p.frame.bytes == 15) refl
      where
        by : (b : Bool) → (hops p.frame.bytes == 15) ≡ b
            → Done i u (cond b (Dropped r HopLimit (body p.frame.bytes) ∷ []) (resolved_leg i u (passed r p c whom)))
            (cond b (Dropped r HopLimit (body p.frame.bytes) ∷ []) (leg i (next_stamp u) (passed r p c whom)))
        by true e = one_dropped i u r HopLimit (body p.frame.bytes)
        by false e = leg_done i ok fit u (passed r p c whom) told (passed_ready r c whom e next)

    pub final_fits : (a : Addr) → final (target p.frame.bytes) ≡ next.Station a → Fits a
    final_fits a e = by ((target p.frame.bytes).node == 255) e
      where
        by : (b : Bool) → cond b next.All (next.Station (target p.frame.bytes)) ≡ next.Station a → Fits a
        by true g = cc
        by false g = let same : target p.frame.bytes ≡ a = cc in subst Fits same fits

    by_hand : (r n : ℕ) (h : Hand) → hand i r n ≡ h → Done i u (fate_with_by i (resolved_leg i u) r p h) (fate_by i (next_stamp u) r p h)
    by_hand r n Nowhere e = one_dropped i u r NoRoute (body p.frame.bytes)
    by_hand r n (Here c) e = by ((target p.frame.bytes).node == 0 || has_address i r c (target p.frame.bytes))
      where
        by : (b : Bool) → Done i u
            (cond b (Reached c r how.Own (body p.frame.bytes) ∷ [])
            (cond (hops p.frame.bytes == 15) (Dropped r HopLimit (body p.frame.bytes) ∷ [])
            (resolved_leg i u (passed r p c (final (target p.frame.bytes))))))
            (cond b (Reached c r how.Own (body p.frame.bytes) ∷ [])
            (cond (hops p.frame.bytes == 15) (Dropped r HopLimit (body p.frame.bytes) ∷ [])
            (leg i (next_stamp u) (passed r p c (final (target p.frame.bytes))))))
        by true = one_reached i u c r how.Own (body p.frame.bytes)
        by false = on_leg r c (final (target p.frame.bytes)) final_fits
    by_hand r n (On s c a) e =
        on_leg r c (next.Station a) (λ b f.
        let same : a ≡ b = cc in subst Fits same (owner_fits i ok c a s (hand_owner i r n s c a e)))

    pub fate_done : Done i u (resolved_fate i u p) (fate i (next_stamp u) p)
    fate_done = by (is_copy i p)
      where
        by : (b : Bool) → Done i u
            (cond b (fate_with_by i (resolved_leg i u) p.seat.station p (hand i p.seat.station (target p.frame.bytes).net)) [])
            (cond b (fate_by i (next_stamp u) p.seat.station p (hand i p.seat.station (target p.frame.bytes).net)) [])
        by true = by_hand p.seat.station (target p.frame.bytes).net (hand i p.seat.station (target p.frame.bytes).net) refl
        by false = done_none i u
