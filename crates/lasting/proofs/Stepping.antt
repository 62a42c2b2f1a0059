-- What a tick makes of all stations, from what a tick, a frame and the giving up of an address make of one.
use Rattle.std.proofs.Common.{◌≡◌, inl, inr, ℕ, zero, suc, ◌+◌, ◌<◌, ◌≤◌, List, [], ◌∷◌}
use Rattle.std.proofs.Common.{sym, ap, ◌∙◌, subst, slice_get, length, arith}
use Rattle.std.specs.Prelude.{fold, slice_set}
use Rattle.std.proofs.lemmas.Bool.{cases_eq}
use Rattle.std.proofs.lemmas.List.{length-set}
use Rattle.aarp.specs.Mapping.{given_up as given_up_of}
use Rattle.at_base.specs.declared.address.Addr.{Addr}
use Rattle.audit.proofs.WalkLists.{At, at_one, at_within}
use Rattle.lasting.proofs.Idling.{get_set, get_set_other}
use Rattle.live_cables.specs.Finding.{held_at}
use Rattle.live_cables.specs.Living.{Wires}
use Rattle.live_node.specs.Living.{LivingNode, LiveHears as NodeHears}
use Rattle.live_node.specs.Ticking.{LiveTicks as NodeTicks}
use Rattle.live_router.specs.Living.{Living, LiveHears as RouterHears}
use Rattle.live_router.specs.Ticking.{LiveTicks as RouterTicks}
use Rattle.planned_stations.specs.Planning.{ports_of}
use Rattle.station.specs.Hearing.{Hearing}
use Rattle.station.specs.Members.{EitherHears, EitherTicks}
use Rattle.station.specs.declared.member.Member.{Member}
use Rattle.station.specs.declared.output.Output.{Output}
use Rattle.world.specs.Doing.{given_up}
use Rattle.world.specs.Passing.{AreAged, HasPassed, HavePassed}
use Rattle.world.specs.Taking.{AreTaken, IsTaken}
use Rattle.world.specs.Ticking.{IsTick}
use Rattle.world.specs.Worlds.{Worldly}

-- each station has become one that stands so to it
pub record AllStep (Step : Member Living LivingNode → Member Living LivingNode → Type 0) (old new : List (Member Living LivingNode)) : Type 0 where
  pub count : length new ≡ length old
  pub each : (k : ℕ) (a b : Member Living LivingNode) → At old k a → At new k b → Step a b

-- What a tick makes of a station, `Ticked`, and what stays of it where it hears frames and gives up addresses, `Stayed`.
module _ (Ticked Stayed : Member Living LivingNode → Member Living LivingNode → Type 0)
    (joins : (a b c : Member Living LivingNode) → Ticked a b → Stayed b c → Ticked a c)
    (joined : (a b c : Member Living LivingNode) → Stayed a b → Stayed b c → Stayed a c)
    (self : (m : Member Living LivingNode) → Stayed m m)
    (gives_up : (m : Member Living LivingNode) (a : Addr) → Stayed m (given_up m a))
    (ticks : (m after : Member Living LivingNode) (added : List Output) → EitherTicks RouterTicks NodeTicks m added after → Ticked m after)
    (hears : (m after : Member Living LivingNode) (x : Hearing) (added : List Output) → EitherHears RouterHears NodeHears m x added after
    → Stayed m after) where
  all_given : (m : Member Living LivingNode) (addrs : List Addr) → Stayed m (fold given_up m addrs)
  all_given m [] = self m
  all_given m (a ∷ addrs) = joined m (given_up m a) (fold given_up (given_up m a) addrs) (gives_up m a) (all_given (given_up m a) addrs)

  aged : (seat ports : ℕ) (m now : Member Living LivingNode) (old new : Wires) → AreAged seat ports m now old new → Stayed m now
  aged seat zero m now old new h = subst (Stayed m) (sym h.0) (self m)
  aged seat (suc ports) m now old new (before, mid, first, last) =
      joined m before now (aged seat ports m before old mid first)
      (subst (Stayed before) (sym last.told) (all_given before (given_up_of (held_at mid.maps (seat + ports)))))

  passed_one : (number seat : ℕ) (m now : Member Living LivingNode) (old new : Wires) → HasPassed number seat m now old new → Ticked m now
  passed_one number seat m now old new (ticked, mid, tick, ages) =
      joins m ticked now (ticks m ticked tick.outputs tick.ticks) (aged seat (ports_of ticked) ticked now mid new ages)

  -- The first stations have passed a tick, and the others are as they were.
  record HaveCome (number : ℕ) (old new : List (Member Living LivingNode)) : Type 0 where
    count : length new ≡ length old
    later : (k : ℕ) → number ≤ k → slice_get new k ≡ slice_get old k
    each : (k : ℕ) (a b : Member Living LivingNode) → k < number → At old k a → At new k b → Ticked a b

  all_come : (number seat : ℕ) (stations now : List (Member Living LivingNode)) (old new : Wires) → HavePassed number seat stations now old new
      → HaveCome number stations now
  all_come zero seat stations now old new h = record {
    count = ap length h.1;
    later = λ k le. ap (λ l. slice_get l k) h.1;
    each = λ k a b lt ea eb. absurd (omega (arith, lt));
  }
  all_come (suc number) next stations now old new (seat, before, mid, passes, m, after, em, passed, set, at) =
      let h = all_come number seat stations before old mid passes in
      let was : At stations number m = sym (h.later number (omega arith)) ∙ em in
      let one = passed_one number seat m after mid new passed in
      record {
        count = ap length set ∙ (length-set before number after ∙ h.count);
        later = λ k le.
            ap (λ l. slice_get l k) set
            ∙ (get_set_other before number k after (λ s. absurd (omega (arith, s, le))) ∙ h.later k (omega (arith, le)));
        each = λ k a b lt ea eb.
            elim (cases_eq k number) [
              | inl here ↦
                  let there : At (slice_set before number after) number b =
                  subst (λ n. At (slice_set before number after) n b) here (subst (λ l. At l k b) set eb) in
                  let is : after ≡ b = at_one (slice_set before number after) number after b (get_set before number after m em) there in
                  let same : m ≡ a = at_one stations number m a was (subst (λ n. At stations n a) here ea) in
                  subst (λ z. Ticked z b) same (subst (Ticked m) is one)
              | inr other ↦
                  h.each k a b (omega (arith, lt, other)) ea
                  (sym (get_set_other before number k after (λ s. absurd (other s))) ∙ subst (λ l. At l k b) set eb)
            ];
      }

  one_taken : (stations before now : List (Member Living LivingNode)) (old new : Wires) → AllStep Ticked stations before
      → IsTaken before now old new → AllStep Ticked stations now
  one_taken stations before now old new h t =
      let one = t.by in
      let took = one.does.2.took in
      let stays = hears one.m one.after _ took.added took.heard in
      record {
        count = ap length one.set ∙ (length-set before t.station one.after ∙ h.count);
        each = λ k a b ea eb.
            elim (cases_eq k t.station) [
              | inl here ↦
                  let there : At (slice_set before t.station one.after) t.station b =
                  subst (λ n. At (slice_set before t.station one.after) n b) here (subst (λ l. At l k b) one.set eb) in
                  let is : one.after ≡ b =
                  at_one (slice_set before t.station one.after) t.station one.after b (get_set before t.station one.after one.m one.there) there in
                  subst (Ticked a) is
                  (joins a one.m one.after (h.each t.station a one.m (subst (λ n. At stations n a) here ea) one.there) stays)
              | inr other ↦
                  h.each k a b ea (sym (get_set_other before t.station k one.after (λ s. absurd (other s))) ∙ subst (λ l. At l k b) one.set eb)
            ];
      }

  all_taken : (n : ℕ) (stations before now : List (Member Living LivingNode)) (old new : Wires) → AllStep Ticked stations before
      → AreTaken n before now old new → AllStep Ticked stations now
  all_taken zero stations before now old new h t = subst (AllStep Ticked stations) (sym t.0) h
  all_taken (suc n) stations before now old new h (between, mid, first, last) =
      one_taken stations between now mid new (all_taken n stations before between old mid h first) last

  -- in a tick
  pub tick_steps : (old new : Worldly) → IsTick old new → AllStep Ticked old.stations new.stations
  tick_steps old new t =
      let p = t.plays in
      let b = p.begins in
      let come = all_come (length old.stations) b.seats old.stations p.passed (record old.wires { losing = t.losing }) b.wires b.passes in
      all_taken p.takings old.stations p.passed new.stations p.acted new.wires (record {
        count = come.count;
        each = λ k x y ex ey. come.each k x y (at_within old.stations k x ex) ex ey;
      }) p.takes
