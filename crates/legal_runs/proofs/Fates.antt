-- The fate of a copy.
use Rattle.std.proofs.Common.{◌≡◌, ◌≢◌, ℕ, ◌+◌, ◌<◌, ◌≤◌, Bool, true, false, not, ◌&&◌, ◌||◌, ◌==◌, cond, [], ◌∷◌, Option, Some, None}
use Rattle.std.proofs.Common.{length, refl, sym, ap, ◌∙◌, subst, arith, true≢false, eqb-true, ltb-true}
use Rattle.std.proofs.lemmas.Bool.{eqb-false, ne_eqb, or_parts}
use Rattle.at_base.specs.Address.{same_address}
use Rattle.at_base.specs.declared.address.Addr.{Addr}
use Rattle.ddp.specs.Bodies.{body, hops, target}
use Rattle.table_image.specs.Internet.{Internet}
use Rattle.audit.specs.Routing.{Here, On, distance, hand, home, owner}
use Rattle.audit.specs.Rules.{Passes}
use Rattle.audit.specs.Walks.{Stops, StepsTo as GoesBy}
use Rattle.audit.proofs.WalkSteps.{nowhere, steps}
use Rattle.station.specs.declared.output.DropCause.TheVariants.{HopLimit}
use Rattle.cable_model.specs.declared.entry.How.TheVariants as how
use Rattle.cable_model.specs.Pending.{Pair}
use Rattle.cable_model.specs.Transcript.{Reached, Dropped}
use Rattle.legal_runs.specs.Answers.{MayLeave, Straight, ByRouter, ToThem}
use Rattle.legal_runs.specs.Legs.{fate, fate_by, final, is_copy, is_datagram, is_unicast, leg, passed}
use Rattle.legal_runs.specs.Stations.{cable_holds, has_address, is_on, is_router}
use Rattle.legal_runs.proofs.Does.{Does, HopsFine, does_drop, does_reach}
use Rattle.legal_runs.proofs.Frames.{Framed, target_inside, whole_inside}
use Rattle.legal_runs.proofs.Legs.{leg_does, same_address_self}
use Rattle.legal_runs.proofs.Seated.{home_holds, port_seated}
use Rattle.station.specs.declared.output.Next.{Next}
use Rattle.station.specs.declared.output.Next.TheVariants as next

-- A copy is taken by a router and isn't for network 0.
pub copy_router : (i : Internet) (p : Pair) → is_copy i p ≡ true → (p.seat.station < length i.routers) × ((target p.frame.bytes).net ≢ 0)
copy_router i p e =
    let h = parts (is_datagram p.frame.kind) (is_unicast p.frame.to) (is_router i p.seat.station) ((target p.frame.bytes).net == 0)
    (has_address i p.seat.station p.seat.cable (target p.frame.bytes)) e in
    (ltb-true _ _ h.0, λ z. true≢false (sym (zero_is (target p.frame.bytes).net z) ∙ h.1))
  where
    parts : (k u r z h : Bool) → (k && u && r && not z && not h) ≡ true → (r ≡ true) × (z ≡ false)
    parts true true true false h e = (refl, refl)
    parts true true true true h e = cc
    parts true true false z h e = cc
    parts true false r z h e = cc
    parts false u r z h e = cc

    zero_is : (n : ℕ) → n ≡ 0 → (n == 0) ≡ true
    zero_is n e = ap (λ m. m == 0) e

module _ (i : Internet) (ok : Passes i) (N A : ℕ → Type 0) (stamp : ℕ) (p : Pair) (f : Framed p.frame.bytes) where
  same : target (body p.frame.bytes) ≡ target p.frame.bytes
  same = target_inside p.frame.bytes f

  home_same : (o : Option ℕ) → home i (target p.frame.bytes).net ≡ o → home i (target (body p.frame.bytes)).net ≡ o
  home_same o e = ap (λ (a : Addr). home i a.net) same ∙ e

  -- A copy with hops left is put on its cable or handed to the next router.
  passed_on : (r c : ℕ) (whom : Next) → hops p.frame.bytes ≤ 14 → is_on i r c ≡ true → MayLeave i (passed r p c whom)
      → ((a : Addr) (s d : ℕ) → whom ≡ next.Station a → owner i c a ≡ Some s → same_address (target (body p.frame.bytes)) a ≡ false
      → home i (target (body p.frame.bytes)).net ≡ Some d → (hops p.frame.bytes + 1) + distance i s (target (body p.frame.bytes)).net ≤ 14)
      → (home i (target (body p.frame.bytes)).net ≡ Some c → A c)
      → ((a : Addr) (s : ℕ) → whom ≡ next.Station a → owner i c a ≡ Some s → same_address (target (body p.frame.bytes)) a ≡ false → N s)
      → Does i N A (body p.frame.bytes) (hops p.frame.bytes + 1)
      (cond (hops p.frame.bytes == 15) (Dropped r HopLimit (body p.frame.bytes) ∷ []) (leg i stamp (passed r p c whom)))
  passed_on r c whom few seated goes near there to =
      subst (λ b. Does i N A (body p.frame.bytes) (hops p.frame.bytes + 1) (cond b (Dropped r HopLimit (body p.frame.bytes) ∷ [])
      (leg i stamp (passed r p c whom))))
      (sym (ne_eqb (hops p.frame.bytes) 15 (λ e. absurd (omega (arith, e, few)))))
      (leg_does i ok N A stamp (passed r p c whom) (whole_inside p.frame.bytes f) (omega (arith, few)) seated goes near there to)

  -- A copy that is put on its target's cable.
  arrived : (r c : ℕ) → hops p.frame.bytes ≤ 14 → is_on i r c ≡ true → A c → home i (target p.frame.bytes).net ≡ Some c
      → Does i N A (body p.frame.bytes) (hops p.frame.bytes + 1) (fate_by i stamp r p (Here c))
  arrived r c few seated at home_is =
      (elim ((target p.frame.bytes).node == 0 || has_address i r c (target p.frame.bytes)) as
      (λ b. ((target p.frame.bytes).node == 0 || has_address i r c (target p.frame.bytes)) ≡ b
      → Does i N A (body p.frame.bytes) (hops p.frame.bytes + 1)
      (cond b (Reached c r how.Own (body p.frame.bytes) ∷ [])
      (cond (hops p.frame.bytes == 15) (Dropped r HopLimit (body p.frame.bytes) ∷ [])
      (leg i stamp (passed r p c (final (target p.frame.bytes))))))) [
        | true ↦ λ e. does_reach i ok N A c r how.Own (body p.frame.bytes) (hops p.frame.bytes + 1) (home_same (Some c) home_is) at
        | false ↦ λ e. by (or_parts ((target p.frame.bytes).node == 0) _ e).0 ((target p.frame.bytes).node == 255) refl
      ]) refl
    where
      node_same : (target (body p.frame.bytes)).node ≡ (target p.frame.bytes).node
      node_same = ap (λ (a : Addr). a.node) same

      there : cable_holds i c (target (body p.frame.bytes)).net ≡ true
      there = home_holds i (target (body p.frame.bytes)).net c (home_same (Some c) home_is)

      by : ((target p.frame.bytes).node == 0) ≡ false → (b : Bool) → ((target p.frame.bytes).node == 255) ≡ b
          → Does i N A (body p.frame.bytes) (hops p.frame.bytes + 1)
          (cond (hops p.frame.bytes == 15) (Dropped r HopLimit (body p.frame.bytes) ∷ [])
          (leg i stamp (passed r p c (cond b next.All (next.Station (target p.frame.bytes))))))
      by single true e =
          passed_on r c next.All few seated (ToThem refl there (node_same ∙ eqb-true _ _ e))
          (λ a s d n own apart h. absurd (all_is_none a n)) (λ h. at)
          (λ a s n own apart. absurd (all_is_none a n))
        where
          all_is_none : (a : Addr) → next.All ≡ next.Station a → ⊥
          all_is_none a n = cc
      by single false e =
          passed_on r c (next.Station (target p.frame.bytes)) few seated
          (Straight (ap next.Station (sym same)) there (λ z. eqb-false _ _ single (sym node_same ∙ z))
          (λ z. eqb-false _ _ e (sym node_same ∙ z)))
          (λ a s d n own apart h. absurd (no_other a n apart)) (λ h. at) (λ a s n own apart. absurd (no_other a n apart))
        where
          no_other : (a : Addr) → next.Station (target p.frame.bytes) ≡ next.Station a
              → same_address (target (body p.frame.bytes)) a ≡ false → ⊥
          no_other a n apart =
              let it : target p.frame.bytes ≡ a = cc in
              let self : same_address (target (body p.frame.bytes)) a ≡ true =
              ap (same_address (target (body p.frame.bytes))) (sym (same ∙ it)) ∙ same_address_self (target (body p.frame.bytes)) in
              true≢false (sym self ∙ apart)

  -- A copy to a listed network.
  listed : (c : ℕ) → is_copy i p ≡ true → home i (target p.frame.bytes).net ≡ Some c → HopsFine i p
      → (hand i p.seat.station (target p.frame.bytes).net ≡ Here c → A c)
      → ((s d : ℕ) (a : Addr) → hand i p.seat.station (target p.frame.bytes).net ≡ On s d a → N s)
      → Does i N A (body p.frame.bytes) (hops p.frame.bytes + 1)
      (fate_by i stamp p.seat.station p (hand i p.seat.station (target p.frame.bytes).net))
  listed c copy home_is fine at to =
      elim (steps i ok p.seat.station (target p.frame.bytes).net c (copy_router i p copy).0 home_is) as
      (λ _. Does i N A (body p.frame.bytes) (hops p.frame.bytes + 1)
      (fate_by i stamp p.seat.station p (hand i p.seat.station (target p.frame.bytes).net))) [
        | Stops here none port ↦
            let far = fine c copy home_is in
            subst (λ h. Does i N A (body p.frame.bytes) (hops p.frame.bytes + 1) (fate_by i stamp p.seat.station p h)) (sym here)
            (arrived p.seat.station c (omega (arith, far, none)) (port_seated i p.seat.station c port) (at here) home_is)
        | GoesBy s d a on own less nearer mine its other ↦
            let far = fine c copy home_is in
            subst (λ h. Does i N A (body p.frame.bytes) (hops p.frame.bytes + 1) (fate_by i stamp p.seat.station p h)) (sym on)
            (passed_on p.seat.station d (next.Station a) (omega (arith, far, nearer)) (port_seated i p.seat.station d mine)
            (ByRouter a s refl own (λ z. (copy_router i p copy).1 (ap (λ (x : Addr). x.net) (sym same) ∙ z)))
            (λ b t e n own_b apart h.
            let it : a ≡ b = cc in
            let one : s ≡ t = same_owner d a b s t it own own_b in
            let dist : distance i t (target (body p.frame.bytes)).net ≡ distance i s (target p.frame.bytes).net =
            ap (λ x. distance i x (target (body p.frame.bytes)).net) (sym one) ∙ ap (λ (x : Addr). distance i s x.net) same in
            omega (arith, far, nearer, dist))
            (λ h. absurd (other (some_one (home i (target (body p.frame.bytes)).net) d c h (home_same (Some c) home_is))))
            (λ b t n own_b apart.
            let it : a ≡ b = cc in
            subst N (same_owner d a b s t it own own_b) (to s d a on)))
      ]
    where
      same_owner : (d : ℕ) (a b : Addr) (s t : ℕ) → a ≡ b → owner i d a ≡ Some s → owner i d b ≡ Some t → s ≡ t
      same_owner d a b s t e own own_b = let them : Some s ≡ Some t = sym own ∙ (ap (owner i d) e ∙ own_b) in cc

      some_one : (o : Option ℕ) (c d : ℕ) → o ≡ Some c → o ≡ Some d → c ≡ d
      some_one o c d e f = cc

  unlisted : is_copy i p ≡ true → home i (target p.frame.bytes).net ≡ None
      → Does i N A (body p.frame.bytes) (hops p.frame.bytes + 1)
      (fate_by i stamp p.seat.station p (hand i p.seat.station (target p.frame.bytes).net))
  unlisted copy none =
      subst (λ h. Does i N A (body p.frame.bytes) (hops p.frame.bytes + 1) (fate_by i stamp p.seat.station p h))
      (sym (nowhere i ok p.seat.station (target p.frame.bytes).net (copy_router i p copy).0 none))
      (does_drop i ok N A p.seat.station (body p.frame.bytes) (hops p.frame.bytes + 1) (home_same None none))

  -- The entries of a copy's fate are the entries of one datagram, that of its body.
  pub fate_does : is_copy i p ≡ true → HopsFine i p
      → ((c : ℕ) → home i (target p.frame.bytes).net ≡ Some c → hand i p.seat.station (target p.frame.bytes).net ≡ Here c → A c)
      → ((s d : ℕ) (a : Addr) → hand i p.seat.station (target p.frame.bytes).net ≡ On s d a → N s)
      → Does i N A (body p.frame.bytes) (hops p.frame.bytes + 1) (fate i stamp p)
  fate_does copy fine at to =
      subst (λ b. Does i N A (body p.frame.bytes) (hops p.frame.bytes + 1)
      (cond b (fate_by i stamp p.seat.station p (hand i p.seat.station (target p.frame.bytes).net)) [])) (sym copy)
      (by (home i (target p.frame.bytes).net) refl)
    where
      by : (o : Option ℕ) → home i (target p.frame.bytes).net ≡ o → Does i N A (body p.frame.bytes) (hops p.frame.bytes + 1)
          (fate_by i stamp p.seat.station p (hand i p.seat.station (target p.frame.bytes).net))
      by (Some c) h = listed c copy h fine (at c h) to
      by None h = unlisted copy h
