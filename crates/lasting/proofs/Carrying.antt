-- What holds of each station and of the cables is carried through the steps of a tick.
use Rattle.std.proofs.Common.{◌≡◌, inl, inr, ℕ, zero, suc, ◌+◌, ◌<◌, ◌≤◌, List, [], ◌∷◌, ◌++◌, Option, Some, None, Result, Ok, Err}
use Rattle.std.proofs.Common.{refl, sym, ap, ◌∙◌, subst, slice_get, length, arith}
use Rattle.std.specs.Prelude.{fold, slice_set}
use Rattle.std.proofs.lemmas.Bool.{cases_eq, cases_lt}
use Rattle.aarp.specs.Mapping.{given_up as given_up_of}
use Rattle.at_base.specs.ErrorNumber.{number_of}
use Rattle.at_base.specs.declared.address.Addr.{Addr}
use Rattle.at_base.specs.declared.error.Error.{Error}
use Rattle.audit.proofs.WalkLists.{At, at_one}
use Rattle.internet_file.specs.Files.{Planned}
use Rattle.internet_file.specs.declared.action.Action.{Action}
use Rattle.internet_file.specs.declared.action.Do.{Do}
use Rattle.lasting.proofs.Idling.{get_set, get_set_other}
use Rattle.live_cables.specs.Finding.{held_at}
use Rattle.live_cables.specs.Living.{GivesOut, PassesFor, TakesIn, Wires}
use Rattle.live_node.specs.Living.{LivingNode, LiveHears as NodeHears}
use Rattle.live_node.specs.Ticking.{LiveTicks as NodeTicks}
use Rattle.live_router.specs.Living.{Living, LiveHears as RouterHears}
use Rattle.live_router.specs.Ticking.{LiveTicks as RouterTicks}
use Rattle.planned_stations.specs.Planning.{ports_of}
use Rattle.station.specs.Members.{EitherHears, EitherTicks}
use Rattle.station.specs.declared.member.Member.{Member}
use Rattle.station.specs.declared.member.Member.TheVariants.{Router as RouterMember, Node as NodeMember}
use Rattle.station.specs.declared.output.Output.{Output}
use Rattle.world.specs.Acting.{AreDone}
use Rattle.world.specs.Doing.{IsDone, IsDoneBy, acted_by, given_up, number_from, settled_own, station_for}
use Rattle.world.specs.Passing.{AreAged, HasPassed, HavePassed}
use Rattle.world.specs.Taking.{AreTaken}
use Rattle.world.specs.Ticking.{IsTick}
use Rattle.world.specs.Worlds.{Worldly}

-- `Is` holds of each station, and `Inv` of the cables after the mappings of the first seats have passed a tick, so many of them.
-- The seats of the first `routers` stations begin at `first`.
module _ (Is : ℕ → Member Living LivingNode → Type 0) (Inv : ℕ → Wires → Type 0) (first : ℕ → ℕ) (routers : ℕ)
    (begins : first 0 ≡ 0)
    (next : (k : ℕ) (m : Member Living LivingNode) → Is k m → k < routers → first (suc k) ≡ first k + ports_of m)
    (owns : (n : ℕ) (w : Wires) (own : List (Option Addr)) → Inv n w → Inv n (record w { own = own }))
    (gives_up : (k : ℕ) (m : Member Living LivingNode) (a : Addr) → Is k m → Is k (given_up m a))
    (passes : (seat : ℕ) (old new : Wires) → PassesFor seat old new → Inv seat old → Inv (suc seat) new)
    (ticks : (k n : ℕ) (m after : Member Living LivingNode) (os : List Output) (old new : Wires) → Is k m
    → EitherTicks RouterTicks NodeTicks m os after → GivesOut k os old new → Inv n old → Inv n new × Is k after)
    (acts : (k n : ℕ) (m : Member Living LivingNode) (action : Do) (os : List Output) (old new : Wires) → Is k m → acted_by m action ≡ Ok os
    → GivesOut k os old new → Inv n old → Inv n new)
    (takes : (stamp k n : ℕ) (m after : Member Living LivingNode) (old new : Wires) → Is k m
    → TakesIn stamp k (ports_of m) (λ heard added. EitherHears RouterHears NodeHears m heard added after) old new → Inv n old
    → Inv n new × Is k after) where
  abbrev pub AreAll : List (Member Living LivingNode) → Type 0
  AreAll stations = (k : ℕ) (m : Member Living LivingNode) → At stations k m → Is k m

  -- a station is replaced
  replaced : (stations : List (Member Living LivingNode)) (number : ℕ) (m after : Member Living LivingNode) → At stations number m → AreAll stations
      → Is number after → AreAll (slice_set stations number after)
  replaced stations number m after em all is k b eb =
      elim (cases_eq k number) [
        | inl same ↦
            let there : At (slice_set stations number after) number b = subst (λ n. At (slice_set stations number after) n b) same eb in
            let one : after ≡ b = at_one (slice_set stations number after) number after b (get_set stations number after m em) there in
            subst (λ n. Is n b) (sym same) (subst (Is number) one is)
        | inr other ↦ all k b (sym (get_set_other stations number k after (λ s. absurd (other s))) ∙ eb)
      ]

  -- ---- Stations pass a tick

  -- a station gives up addresses
  all_given : (k : ℕ) (m : Member Living LivingNode) (addrs : List Addr) → Is k m → Is k (fold given_up m addrs)
  all_given k m [] is = is
  all_given k m (a ∷ addrs) is = all_given k (given_up m a) addrs (gives_up k m a is)

  -- the mappings of a station's seats pass a tick
  aged : (k seat ports : ℕ) (m now : Member Living LivingNode) (old new : Wires) → AreAged seat ports m now old new → Is k m → Inv seat old
      → Inv (seat + ports) new × Is k now
  aged k seat zero m now old new h is inv =
      let same : seat + 0 ≡ seat = omega arith in
      (subst (λ n. Inv n new) (sym same) (subst (Inv seat) (sym h.1) inv), subst (Is k) (sym h.0) is)
  aged k seat (suc ports) m now old new (before, mid, first_ones, last) is inv =
      let w = aged k seat ports m before old mid first_ones is inv in
      let same : seat + suc ports ≡ suc (seat + ports) = omega arith in (
        subst (λ n. Inv n new) (sym same) (passes (seat + ports) mid new last.passes w.0),
        subst (Is k) (sym last.told) (all_given k before (given_up_of (held_at mid.maps (seat + ports))) w.1),
      )

  -- a station passes a tick
  one_passed : (k seat : ℕ) (m after : Member Living LivingNode) (old new : Wires) → HasPassed k seat m after old new → Is k m → Inv seat old
      → (n : ℕ) × (n ≡ seat + ports_of after) × Inv n new × Is k after
  one_passed k seat m after old new (ticked, mid, tick, ages) is inv =
      let w = ticks k seat m ticked tick.outputs (record old { own = settled_own ticked seat (ports_of ticked) old.own }) mid is tick.ticks tick.gives
      (owns seat old (settled_own ticked seat (ports_of ticked) old.own) inv) in
      let v = aged k seat (ports_of ticked) ticked after mid new ages w.1 w.0 in
      (seat + ports_of ticked, ap (λ n. seat + n) (sym (aged_ports (ports_of ticked) ticked mid ages)), v.0, v.1)
    where
      given_ports : (m : Member Living LivingNode) (addrs : List Addr) → ports_of (fold given_up m addrs) ≡ ports_of m
      given_ports m [] = refl
      given_ports m (a ∷ addrs) = given_ports (given_up m a) addrs ∙ one m
        where
          one : (m : Member Living LivingNode) → ports_of (given_up m a) ≡ ports_of m
          one (RouterMember l) = refl
          one (NodeMember n) = refl

      through : (ports : ℕ) (m now : Member Living LivingNode) (old new : Wires) → AreAged seat ports m now old new → ports_of now ≡ ports_of m
      through zero m now old new h = ap ports_of h.0
      through (suc ports) m now old new (before, mid, first_ones, last) =
          ap ports_of last.told ∙ (given_ports before (given_up_of (held_at mid.maps (seat + ports))) ∙ through ports m before old mid first_ones)

      aged_ports : (ports : ℕ) (ticked : Member Living LivingNode) (mid : Wires) → AreAged seat ports ticked after mid new
          → ports_of after ≡ ports_of ticked
      aged_ports ports ticked mid h = through ports ticked after mid new h

  -- The first stations have passed a tick, and the others are as they were.
  pub record HaveCome (number seat : ℕ) (now : List (Member Living LivingNode)) (w : Wires) : Type 0 where
    pub all : AreAll now
    pub inv : Inv seat w
    pub exact : number ≤ routers → seat ≡ first number
    pub enough : routers ≤ number → first routers ≤ seat

  -- the first stations pass a tick
  all_come : (number seat : ℕ) (stations now : List (Member Living LivingNode)) (old new : Wires) → HavePassed number seat stations now old new
      → AreAll stations → Inv 0 old → HaveCome number seat now new
  all_come zero seat stations now old new h all inv = record {
    all = subst AreAll (sym h.1) all;
    inv = subst (λ n. Inv n new) (sym h.0) (subst (Inv 0) (sym h.2) inv);
    exact = λ le. h.0 ∙ sym begins;
    enough = λ le. let none : routers ≡ 0 = omega (arith, le) in let at : first routers ≡ 0 = ap first none ∙ begins in omega (arith, at);
  }
  all_come (suc number) after_seat stations now old new (seat, before, mid, passed, m, after, em, one, set, at) all inv =
      let w = all_come number seat stations before old mid passed all inv in
      let v = one_passed number seat m after mid new one (w.all number m em) w.inv in
      let step : number < routers → first (suc number) ≡ first number + ports_of after = λ lt. next number after v.3 lt in
      record {
        all = subst AreAll (sym set) (replaced before number m after em w.all v.3);
        inv = subst (λ n. Inv n new) (v.1 ∙ sym at) v.2;
        exact = λ le. let here = w.exact (omega (arith, le)) in let more = step (omega (arith, le)) in omega (arith, here, more, at);
        enough = λ le.
            elim (cases_lt number routers) [
              | inl lt ↦
                  let here = w.exact (omega (arith, lt)) in
                  let more = step lt in
                  let last : routers ≡ suc number = omega (arith, lt, le) in
                  let same : first routers ≡ first (suc number) = ap first last in
                  omega (arith, here, more, at, same)
              | inr ge ↦ let here = w.enough ge in omega (arith, here, at)
            ];
      }

  -- ---- Actions

  -- a station carries out an operation
  done_by : (k n : ℕ) (m : Member Living LivingNode) (action : Do) (index : ℕ) (old new : Wires × List (ℕ × ℕ)) → Is k m
      → IsDoneBy m k action index old new → Inv n old.0 → Inv n new.0
  done_by k n m action index old new is h inv = by (acted_by m action) refl h
    where
      by : (r : Result (List Output) Error) → acted_by m action ≡ r
          → (elim r as (λ r. Type 0) [
            | Ok os ↦ GivesOut k os old.0 new.0 × (new.1 ≡ old.1)
            | Err e ↦ (new.0 ≡ old.0) × (new.1 ≡ old.1 ++ (number_from index, number_of e) ∷ [])
          ])
          → Inv n new.0
      by (Err e) made g = subst (Inv n) (sym g.0) inv
      by (Ok os) made g = acts k n m action os old.0 new.0 is made g.0 inv

  -- an action is carried out
  one_done : (n : ℕ) (plan : Planned) (now : List (Member Living LivingNode)) (index : ℕ) (old new : Wires × List (ℕ × ℕ)) → AreAll now
      → IsDone plan now index old new → Inv n old.0 → Inv n new.0
  one_done n plan now index old new all h inv = of (slice_get plan.actions index) h
    where
      at_station : (action : Action) (o : Option (Member Living LivingNode)) → slice_get now (station_for plan action) ≡ o
          → (elim o as (λ o. Type 0) [
            | None ↦ (new.0 ≡ old.0) × (new.1 ≡ old.1)
            | Some m ↦ IsDoneBy m (station_for plan action) action.action index old new
          ]) → Inv n new.0
      at_station action None e g = subst (Inv n) (sym g.0) inv
      at_station action (Some m) e g = done_by (station_for plan action) n m action.action index old new (all (station_for plan action) m e) g inv

      of : (o : Option Action)
          → (elim o as (λ o. Type 0) [
            | None ↦ (new.0 ≡ old.0) × (new.1 ≡ old.1)
            | Some action ↦ (elim (slice_get now (station_for plan action)) as (λ o. Type 0) [
              | None ↦ (new.0 ≡ old.0) × (new.1 ≡ old.1)
              | Some m ↦ IsDoneBy m (station_for plan action) action.action index old new
            ])
          ]) → Inv n new.0
      of None g = subst (Inv n) (sym g.0) inv
      of (Some action) g = at_station action (slice_get now (station_for plan action)) refl g

  -- the actions of the tick are carried out
  all_done : (n : ℕ) (plan : Planned) (now : List (Member Living LivingNode)) (tick actions : ℕ) (schedule left : List ℕ)
      (old new : Wires × List (ℕ × ℕ)) → AreAll now → AreDone plan now tick actions schedule left old new → Inv n old.0 → Inv n new.0
  all_done n plan now tick zero schedule left old new all h inv = subst (Inv n) (sym (ap (λ (x : Wires × List (ℕ × ℕ)). x.0) h.1)) inv
  all_done n plan now tick (suc actions) schedule left old new all (rest, index, mid, split, due, does, more) inv =
      all_done n plan now tick actions rest left mid new all more (one_done n plan now index old mid all does inv)

  -- ---- Takings

  -- frames are taken
  all_taken : (n count : ℕ) (before now : List (Member Living LivingNode)) (old new : Wires) → AreAll before → AreTaken count before now old new
      → Inv n old → Inv n new × AreAll now
  all_taken n zero before now old new all h inv = (subst (Inv n) (sym h.1) inv, subst AreAll (sym h.0) all)
  all_taken n (suc count) before now old new all (between, mid, first_ones, last) inv =
      let w = all_taken n count before between old mid all first_ones inv in
      let one = last.by in
      let v = takes last.stamp last.station n one.m one.after mid new (w.1 last.station one.m one.there) one.does w.0 in
      (v.0, subst AreAll (sym one.set) (replaced between last.station one.m one.after one.there w.1 v.1))

  -- in a tick
  pub ticked : (old new : Worldly) → (t : IsTick old new) → AreAll old.stations → Inv 0 (record old.wires { losing = t.losing })
      → (n : ℕ) × Inv n new.wires × AreAll new.stations × (routers ≤ length old.stations → first routers ≤ n)
  ticked old new t all inv =
      let p = t.plays in
      let b = p.begins in
      let come = all_come (length old.stations) b.seats old.stations p.passed (record old.wires { losing = t.losing }) b.wires b.passes all inv in
      let acted = all_done b.seats old.plan p.passed new.now b.actions old.schedule new.schedule (b.wires, old.refused) (p.acted, new.refused) come.all b.does
      come.inv in
      let w = all_taken b.seats p.takings p.passed new.stations p.acted new.wires come.all p.takes acted in
      (b.seats, w.0, w.1, come.enough)
