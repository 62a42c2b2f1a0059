-- After a tick the stations stand as before it, where all rows that aren't direct are Good.
use Rattle.std.proofs.Common.{◌≡◌, ◌≢◌, ℕ, ◌≤◌, ◌==◌, false, List, [], sym, ap, ◌∙◌, subst, length, map, arith, if◌then◌else◌}
use Rattle.std.proofs.lemmas.Bool.{ne_eqb}
use Rattle.aarp.specs.Choosing.{Choice}
use Rattle.audit.proofs.WalkLists.{At, at_below}
use Rattle.cable_model.specs.Logs.{pending_on}
use Rattle.internet_file.specs.Files.{Planned}
use Rattle.internet_file.specs.declared.router.Router.{Router as PlannedRouter}
use Rattle.lasting.proofs.Alike.{IsLike}
use Rattle.lasting.proofs.Ground.{image_router, router_first}
use Rattle.lasting.proofs.Idling.{AreSparedFrom}
use Rattle.lasting.proofs.Likeness.{node_was, router_was}
use Rattle.lasting.proofs.Nodes.{still_quiet}
use Rattle.lasting.proofs.Passed.{HasTickedTo}
use Rattle.lasting.proofs.Refreshing.{IsFreshAt}
use Rattle.lasting.proofs.Rested.{IsResting}
use Rattle.lasting.proofs.Ticking.{both, stays}
use Rattle.lasting.specs.Resting.{AreOther}
use Rattle.lasting.specs.Settled.{IsNoNextRouter}
use Rattle.lasting.specs.Standing.{AreStanding, IsStandingAsNode, IsStandingAsRouter, IsStandingRouter}
use Rattle.live_node.specs.Living.{LivingNode}
use Rattle.live_router.specs.Living.{Living}
use Rattle.live_router.specs.Ticking.{phase_after, routes_aged}
use Rattle.planned_stations.specs.Seating.{plan_seats}
use Rattle.rtmp.specs.Routes.{aged}
use Rattle.station.specs.declared.member.Member.{Member}
use Rattle.station.specs.declared.member.Member.TheVariants.{Router as RouterMember, Node as NodeMember}
use Rattle.table_image.specs.declared.version.Version.TheVariants.{V1}
use Rattle.world.specs.Frozen.{frozen_as}
use Rattle.world.specs.Losing.{loses_at}
use Rattle.world.specs.Ticking.{IsTick}
use Rattle.world.specs.Worlds.{Worldly}

-- all rows of the routers that aren't direct are Good
abbrev pub AreFresh : List (Member Living LivingNode) → Type 0
AreFresh stations = (k : ℕ) (b : Living) (l : ℕ) → At stations k (RouterMember b) → IsFreshAt l b.router.routes

module _ (old new : Worldly) (phase : ℕ) (rest : IsResting phase old) (others : AreOther old.plan new.now) (tick : IsTick old new)
    (Lossless : Type 0) (none : Lossless → (cable : ℕ) → loses_at old.plan new.now cable ≡ false) where
  count : length new.stations ≡ length old.stations
  count = (both old new phase rest others tick Lossless none).0.count

  alike : (k : ℕ) (a b : Member Living LivingNode) → At old.stations k a → At new.stations k b → IsLike (frozen_as V1 old) k a b
  alike = (both old new phase rest others tick Lossless none).0.alike

  pub ticked : (k : ℕ) (a b : Member Living LivingNode) → At old.stations k a → At new.stations k b → HasTickedTo a b
  ticked = (both old new phase rest others tick Lossless none).1

  -- the router that a router was, which stood
  pub stood : (k : ℕ) (b : Living) → At new.stations k (RouterMember b)
      → (a : Living) × At old.stations k (RouterMember a) × IsLike (frozen_as V1 old) k (RouterMember a) (RouterMember b)
      × HasTickedTo (RouterMember a) (RouterMember b) × ((r : PlannedRouter) × At old.plan.routers k r × IsStandingRouter old.plan.cables phase r a)
  stood k b eb =
      let was = router_was old.plan phase old.stations new.stations old.wires.maps new.wires.maps rest.standing count alike k b eb in
      let r = at_below old.plan.routers k (router_first old.plan phase old.stations old.wires.maps rest.standing k was.0 was.1) in
      (was.0, was.1, was.2, ticked k (RouterMember was.0) (RouterMember b) was.1 eb, (r.0, r.1, rest.standing.routers k r.0 (RouterMember was.0) r.1 was.1))

  standing : AreFresh new.stations → AreStanding old.plan (phase_after phase) new.stations
  standing fresh = record {
    whole = let few = rest.standing.whole in let many = count in omega (arith, few, many);
    as_many = count ∙ rest.standing.as_many;
    routers = λ k r m er em. router k r m er em;
    nodes = λ k m le em. node k m le em;
  }
    where
      router : (k : ℕ) (r : PlannedRouter) (m : Member Living LivingNode) → At old.plan.routers k r → At new.stations k m
          → IsStandingAsRouter old.plan.cables (phase_after phase) r m
      router k r (NodeMember n) er em =
          let was = node_was old.plan phase old.stations new.stations old.wires.maps new.wires.maps rest.standing count alike k n em in
          absurd (rest.standing.routers k r (NodeMember was.0) er was.1)
      router k r (RouterMember b) er em =
          let w = stood k b em in
          let h : IsStandingRouter old.plan.cables phase r w.0 = rest.standing.routers k r (RouterMember w.0) er w.1 in
          let x = image_router old.plan phase old.stations old.wires.maps rest.standing k r w.0 er w.1 in
          record {
            phase = w.3.0 ∙ ap phase_after h.phase;
            settled = ap (λ ps. Rattle.std.specs.List.list_all (λ (c : Choice). c.is_settled) ps) w.2.0.ports ∙ h.settled;
            ranges = ap (map (λ (c : Choice). c.range)) w.2.0.ports ∙ h.ranges;
            table = (w.2.1 _ x.1).table;
            good = λ n c ec direct. fresh k b n em c ec direct;
          }

      node : (k : ℕ) (m : Member Living LivingNode) → length old.plan.routers ≤ k → At new.stations k m → IsStandingAsNode m
      node k (RouterMember b) le em = let w = stood k b em in absurd (rest.standing.nodes k (RouterMember w.0) le w.1)
      node k (NodeMember n) le em =
          let was = node_was old.plan phase old.stations new.stations old.wires.maps new.wires.maps rest.standing count alike k n em in
          still_quiet was.0 n was.2.0 (rest.standing.nodes k (NodeMember was.0) le was.1)

  -- the world is as settled as before, if nothing is under way
  pub rests_again : new.plan ≡ old.plan → pending_on new.wires.cabling ≡ [] → AreSparedFrom (IsNoNextRouter new.stations (plan_seats new.plan)) 0 new.wires.maps
      → AreFresh new.stations → IsResting (phase_after phase) new
  rests_again same pending spared fresh =
      let s = stays old new phase rest others tick Lossless none same in
      let t = (both old new phase rest others tick Lossless none).0 in
      record {
        seats = t.wires.0 ∙ ap plan_seats (sym same);
        pending = pending;
        plain = t.wires.1.held;
        spared = spared;
        standing = subst (λ (p : Planned). AreStanding p (phase_after phase) new.stations) (sym same) (standing fresh);
        passes = s.passes;
        settled = s.settled;
        bounded = s.bounded;
      }

  -- rows that don't age stay Good
  pub fresh_between : phase_after phase ≢ 0 → AreFresh new.stations
  fresh_between other k b l eb =
      let w = stood k b eb in
      let h = w.4.2 in
      let off : (phase_after w.0.phase == 0) ≡ false =
      ne_eqb (phase_after w.0.phase) 0 (λ e. other (ap phase_after (sym h.phase) ∙ e)) in
      let same : routes_aged (phase_after w.0.phase) w.0.router.routes ≡ w.0.router.routes =
      ap (λ z. if z then aged w.0.router.routes else w.0.router.routes) off in
      w.3.1 l (subst (IsFreshAt l) (sym same) (λ c ec direct. h.good l c ec direct))
