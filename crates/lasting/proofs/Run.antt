-- Worlds that have run from their beginning: what all of them have; and if they have settled, they stay so.
use Rattle.std.proofs.Common.{◌%◌, ◌+◌, ◌++◌, ◌∷◌, Result, Ok, Err}
use Rattle.std.proofs.Common.{◌≡◌, inl, inr, ℕ, List, [], refl, sym, ap, ◌∙◌, subst, length, arith}
use Rattle.std.specs.Prelude.{OnOk}
use Rattle.std.proofs.Math.Nat.{mod-add-mod}
use Rattle.std.proofs.lemmas.Bool.{cases_lt}
use Rattle.at_base.specs.declared.error.Error.{Error}
use Rattle.audit.proofs.WalkLists.{At, at_below}
use Rattle.cable_model.specs.Transcript.{ArePutOnce}
use Rattle.internet_file.specs.Files.{Planned}
use Rattle.internet_file.specs.declared.router.Router.{Router as PlannedRouter}
use Rattle.lasting.proofs.Always.{always_resting, numbered_on}
use Rattle.lasting.proofs.Counted.{tick_counts}
use Rattle.lasting.proofs.Images.{AreRouters, router_at}
use Rattle.lasting.proofs.Placed.{ArePlaced, IsNode, IsPlaced, begun_placed, still_placed, tick_keeps}
use Rattle.lasting.proofs.Rested.{IsResting}
use Rattle.lasting.proofs.Tabled.{route_map}
use Rattle.lasting.proofs.Ticking.{stays}
use Rattle.lasting.specs.Begun.{AreNextTicks, HasRun, IsBegun, IsNextTick}
use Rattle.lasting.specs.Resting.{AreOther, AreOtherAfter, HasSameDistances, IsBelow, IsNumbered, StaysSettled, last_of}
use Rattle.lasting.specs.Settled.{AreCleanTicks, HasSettled, IsSettledWorld, LosesNothingWhereRowsAge}
use Rattle.lasting.specs.Standing.{AreStanding, IsStandingAsNode, IsStandingAsRouter}
use Rattle.live_cables.specs.Living.{Wires, happened}
use Rattle.live_node.specs.Living.{LivingNode}
use Rattle.live_router.specs.Living.{Living}
use Rattle.planned_stations.specs.Seating.{plan_seats}
use Rattle.station.specs.declared.member.Member.{Member}
use Rattle.station.specs.declared.member.Member.TheVariants.{Router as RouterMember, Node as NodeMember}
use Rattle.table_image.specs.declared.version.Version.TheVariants.{V1}
use Rattle.world.specs.Frozen.{frozen_as}
use Rattle.world.specs.Ticking.{IsTick}
use Rattle.world.specs.Worlds.{Worldly}

-- ---- One tick more

one_more : (w v : Worldly) (us : List Worldly) → AreNextTicks w us → IsNextTick (last_of w us) v
    → AreNextTicks w (us ++ v ∷ []) × (v ≡ last_of w (us ++ v ∷ []))
one_more w v [] ticks t = ((t, tt), refl)
one_more w v (u ∷ us) (first, ticks) t = let h = one_more u v us ticks t in ((first, h.0), h.1)

pub run_on : (old new : Worldly) → HasRun old → IsNextTick old new → HasRun new
run_on old new run t =
    let h = one_more run.first new run.ticks run.passed (subst (λ w. IsNextTick w new) run.last t) in
    record { first = run.first; ticks = run.ticks ++ new ∷ []; begun = run.begun; passed = h.0; last = h.1 }

-- a world that has run has run after a tick that answers Ok
pub runs_on : {A : Type 0} (r : Result A Error) (old new : Worldly) → HasRun old → new.plan ≡ old.plan → OnOk r (new.now ≡ old.now + 1)
    → OnOk r (IsTick old new) → OnOk r (HasRun new)
runs_on (Ok x) old new run plan now tick = run_on old new run (record { plan = plan; now = now; tick = tick })
runs_on (Err e) old new run plan now tick = tt

-- ---- From the beginning on

-- Frames are numbered, the seats are the plan's, and the stations are those of the plan, all routers in the phase of the tick.
pub record HasCome (w : Worldly) : Type 0 where
  pub numbered : IsNumbered w
  pub seats : w.wires.cabling.seats ≡ plan_seats w.plan
  pub placed : ArePlaced w.plan (w.now % 100) w.stations

begun_come : (w : Worldly) → IsBegun w → HasCome w
begun_come w b = record {
  numbered = record {
    once = subst (λ (x : Wires). ArePutOnce (happened x)) (sym b.wires) (λ stamp. omega arith);
    below = subst (λ (x : Wires). IsBelow (happened x)) (sym b.wires) tt;
  };
  seats = ap (λ (x : Wires). x.cabling.seats) b.wires;
  placed = subst (λ n. ArePlaced w.plan (n % 100) w.stations) (sym b.now) (begun_placed w.plan w.stations b.stations);
}

tick_comes : (old new : Worldly) → HasCome old → IsNextTick old new → HasCome new
tick_comes old new h t = record {
  numbered = numbered_on old new h.numbered t.tick;
  seats = (tick_counts old new t.tick).seats ∙ (h.seats ∙ ap plan_seats (sym t.plan));
  placed =
      subst (λ (p : Planned). ArePlaced p (new.now % 100) new.stations) (sym t.plan)
      (subst (λ n. ArePlaced old.plan n new.stations) (mod-add-mod old.now 100 1 ∙ ap (λ n. n % 100) (sym t.now))
      (still_placed old.plan (old.now % 100) old.stations new.stations h.placed (tick_keeps old new t.tick)));
}

all_come : (w : Worldly) (vs : List Worldly) → HasCome w → AreNextTicks w vs → HasCome (last_of w vs)
all_come w [] h ticks = h
all_come w (v ∷ vs) h (t, ticks) = all_come v vs (tick_comes w v h t) ticks

pub has_come : (w : Worldly) → HasRun w → HasCome w
has_come w run = subst HasCome (sym run.last) (all_come run.first run.ticks (begun_come run.first run.begun) run.passed)

-- ---- Where a world has settled

module _ (w : Worldly) (come : HasCome w) (s : IsSettledWorld w) where
  routers : AreRouters w.plan.routers w.stations
  routers k r m er em = by m (come.placed.routers k r m er em)
    where
      by : (m : Member Living LivingNode) → IsPlaced w.plan.cables (w.now % 100) r m → (l : Living) × (m ≡ RouterMember l)
      by (RouterMember l) h = (l, refl)
      by (NodeMember n) h = absurd h

  as_router : (k : ℕ) (r : PlannedRouter) (m : Member Living LivingNode) → At w.plan.routers k r → At w.stations k m
      → IsPlaced w.plan.cables (w.now % 100) r m → HasSettled m → IsStandingAsRouter w.plan.cables (w.now % 100) r m
  as_router k r (RouterMember l) er em p h =
      let x = router_at w.plan.routers w.stations w.wires.maps k r l routers er em in
      record {
        phase = p.0;
        settled = h.0;
        ranges = p.1;
        table = route_map (frozen_as V1 w) s.passes k _ x.1 l.router.routes refl s.bounded;
        good = h.1;
      }
  as_router k r (NodeMember n) er em p h = absurd p

  as_node : (m : Member Living LivingNode) → IsNode m → HasSettled m → IsStandingAsNode m
  as_node (RouterMember l) n h = absurd n
  as_node (NodeMember n) o h = h

  pub standing : AreStanding w.plan (w.now % 100) w.stations
  standing = record {
    whole = let many = come.placed.as_many in omega (arith, many);
    routers = λ k r m er em. as_router k r m er em (come.placed.routers k r m er em) (s.stations k m em);
    nodes = λ k m le em. as_node m (come.placed.nodes k m le em) (s.stations k m em);
    as_many = come.placed.as_many;
  }

  pub rests : IsResting (w.now % 100) w
  rests = record {
    seats = come.seats;
    pending = s.pending;
    plain = λ d h. s.plain h.0 d h.1;
    spared = λ seat k h le e over. s.spared seat k h e over;
    standing = standing;
    passes = s.passes;
    settled = s.settled;
    bounded = s.bounded;
  }

-- a world that rests has settled
pub settles : (phase : ℕ) (w : Worldly) → IsResting phase w → IsSettledWorld w
settles phase w h = record {
  pending = h.pending;
  plain = λ k d e. h.plain d (k, e);
  spared = λ seat k x e over. h.spared seat k x (omega arith) e over;
  stations = λ k m em.
      elim (cases_lt k (length w.plan.routers)) [
        | inl lt ↦ let r = at_below w.plan.routers k lt in of_router r.0 m (h.standing.routers k r.0 m r.1 em)
        | inr le ↦ of_node m (h.standing.nodes k m le em)
      ];
  passes = h.passes;
  settled = h.settled;
  bounded = h.bounded;
}
  where
    of_router : (r : PlannedRouter) (m : Member Living LivingNode) → IsStandingAsRouter w.plan.cables phase r m → HasSettled m
    of_router r (RouterMember l) x = (x.settled, x.good)
    of_router r (NodeMember n) x = absurd x

    of_node : (m : Member Living LivingNode) → IsStandingAsNode m → HasSettled m
    of_node (RouterMember l) x = absurd x
    of_node (NodeMember n) x = x

pub tick_stays : (old new : Worldly) → HasRun old → IsSettledWorld old → AreOther old.plan new.now → IsNextTick old new → StaysSettled old new
tick_stays old new run s others t =
    let come = has_come old run in
    stays old new (old.now % 100) (rests old come s) others t.tick ⊥ (λ no. absurd no) t.plan

pub stays_settled : (w : Worldly) (vs : List Worldly) → HasRun w → IsSettledWorld w → AreOtherAfter w.plan w.now
    → LosesNothingWhereRowsAge w.plan w.now → AreCleanTicks w vs
    → IsSettledWorld (last_of w vs) × HasSameDistances (frozen_as V1 w) (frozen_as V1 (last_of w vs))
stays_settled w vs run s others lossless ticks =
    let come = has_come w run in
    let h = always_resting w vs (rests w come s) others lossless ticks come.numbered in
    (settles h.0 (last_of w vs) h.1, h.2)
