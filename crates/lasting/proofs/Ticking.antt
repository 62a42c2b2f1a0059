-- A tick of a world that has settled.
use Rattle.std.proofs.Common.{◌≡◌, ℕ, Some, sym, ap, ◌∙◌, subst, slice_get, length, is_some, arith, false}
use Rattle.audit.specs.Rules.{Passes}
use Rattle.cable_model.specs.Logs.{pending_on}
use Rattle.cable_model.specs.Pending.{Pair}
use Rattle.lasting.proofs.Bounded.{still_bounded}
use Rattle.lasting.proofs.Given.{IsFineOn}
use Rattle.lasting.proofs.Ground.{grounded, laid}
use Rattle.lasting.proofs.Likeness.{image_moved, nodes_as_many, nodes_served}
use Rattle.lasting.proofs.Passed.{HasGoodRows}
use Rattle.lasting.proofs.Rested.{IsResting}
use Rattle.lasting.proofs.Served.{served_passes}
use Rattle.lasting.proofs.Telling.{IsToldOf}
use Rattle.lasting.proofs.Turning.{AreTicked, IsThrough, all_done, all_passed, all_taken}
use Rattle.lasting.specs.Resting.{AreOther, KeepsDistances, StaysSettled}
use Rattle.lasting.specs.Standing.{IsStandingRouter}
use Rattle.live_cables.proofs.Pending.{Has}
use Rattle.live_cables.specs.Living.{Wires}
use Rattle.live_node.specs.Living.{LivingNode}
use Rattle.live_router.specs.Living.{Living}
use Rattle.planned_stations.specs.Seating.{plan_seats}
use Rattle.settled.proofs.Moved.{owner_same, still_passes}
use Rattle.settled.proofs.Stays.{still_settled}
use Rattle.station.specs.declared.member.Member.{Member}
use Rattle.station.specs.declared.member.Member.TheVariants.{Router as RouterMember, Node as NodeMember}
use Rattle.settled.specs.Settling.{IsSettled}
use Rattle.internet_file.specs.Files.{Planned}
use Rattle.table_image.specs.Bounds.{IsBounded}
use Rattle.table_image.specs.Internet.{Internet, internet}
use Rattle.table_image.specs.declared.version.Version.TheVariants.{V1}
use Rattle.audit.proofs.WalkLists.{At, at_below}
use Rattle.freeze.specs.Frozen.{frozen_in}
use Rattle.lasting.proofs.Ground.{router_first}
use Rattle.world.specs.Frozen.{frozen_as}
use Rattle.world.specs.Losing.{loses_at}
use Rattle.world.specs.Ticking.{IsTick}
use Rattle.world.specs.Worlds.{Worldly}

module _ (old new : Worldly) (phase : ℕ) (rest : IsResting phase old) (others : AreOther old.plan new.now) (tick : IsTick old new)
    (Lossless : Type 0) (none : Lossless → (cable : ℕ) → loses_at old.plan new.now cable ≡ false) where
  i : Internet
  i = frozen_as V1 old

  start : Wires
  start = record old.wires { losing = tick.losing }

  -- the rows of each router are Good
  pub good : (k : ℕ) (m : Member Living LivingNode) → At old.stations k m → HasGoodRows m
  good k (NodeMember n) em = tt
  good k (RouterMember l) em =
      let r = at_below old.plan.routers k (router_first old.plan phase old.stations old.wires.maps rest.standing k l em) in
      let h : IsStandingRouter old.plan.cables phase r.0 l = rest.standing.routers k r.0 (RouterMember l) r.1 em in
      h.good

  no_pair : (p : Pair) → Has (pending_on old.wires.cabling) p → ⊥
  no_pair p h = let e = subst (λ l. slice_get l h.0 ≡ Some p) rest.pending h.1 in cc

  pub fine : IsFineOn (IsToldOf (frozen_as V1 old)) Lossless old.wires.cabling
  fine = record { pending = λ p h. absurd (no_pair p h); held = rest.plain }

  -- the stations after the tick are like those before it
  pub both : IsThrough (frozen_as V1 old) rest.passes rest.settled rest.bounded (plan_seats old.plan) old.stations
      (grounded old.plan phase old.stations old.wires.maps rest.standing rest.passes rest.settled rest.bounded) Lossless new.stations new.wires
      × AreTicked (frozen_as V1 old) rest.passes rest.settled rest.bounded (plan_seats old.plan) old.stations
      (grounded old.plan phase old.stations old.wires.maps rest.standing rest.passes rest.settled rest.bounded) Lossless new.stations
  both =
      let ground = grounded old.plan phase old.stations old.wires.maps rest.standing rest.passes rest.settled rest.bounded in
      let p = tick.plays in
      let b = p.begins in
      let first =
      all_passed (frozen_as V1 old) rest.passes rest.settled rest.bounded (plan_seats old.plan) old.stations ground Lossless good (laid old.plan phase old.stations old.wires.maps rest.standing) (length old.stations) b.seats
      p.passed (record old.wires { losing = tick.losing }) b.wires
      (rest.seats, fine, λ l cable. tick.loses cable ∙ none l cable) rest.spared b.passes (omega arith) in
      let second =
      all_done (frozen_as V1 old) rest.passes rest.settled rest.bounded (plan_seats old.plan) old.stations ground Lossless old.plan new.now others b.actions
      p.passed old.schedule new.schedule (b.wires, old.refused) (p.acted, new.refused) first.0.wires b.does in
      all_taken (frozen_as V1 old) rest.passes rest.settled rest.bounded (plan_seats old.plan) old.stations ground Lossless p.takings p.passed new.stations
      p.acted new.wires (record { wires = second.0; count = first.0.count; alike = first.0.alike }) first.1 p.takes

  abbrev after : Internet
  after = frozen_in V1 old.plan new.stations new.wires.maps

  abbrev StaysIn : Internet → Type 0
  StaysIn j = Passes j × IsSettled j × IsBounded j × KeepsDistances (frozen_as V1 old) j

  stays_in : StaysIn after
  stays_in =
      let t = both.0 in
      let moved = image_moved old.plan phase old.stations new.stations old.wires.maps new.wires.maps rest.standing t.count t.alike in
      let many = nodes_as_many old.plan phase old.stations new.stations old.wires.maps new.wires.maps rest.standing t.count t.alike in
      let served = nodes_served old.plan phase old.stations new.stations old.wires.maps new.wires.maps rest.standing t.count t.alike in
      let mid : Internet = internet V1 after.cables after.routers (frozen_as V1 old).nodes in
      let passes = still_passes (frozen_as V1 old) mid rest.passes moved in (
        served_passes mid after.nodes passes many (λ k a b ea eb.
            let w = served k a b ea eb in
            (w.0, λ x e. ap is_some (sym (owner_same (frozen_as V1 old) mid rest.passes moved b.cable x)) ∙ w.1 x e)),
        still_settled (frozen_as V1 old) mid rest.passes rest.settled moved,
        still_bounded (frozen_as V1 old) mid after.nodes rest.bounded moved many (λ k a b ea eb. (served k a b ea eb).0),
        record { routers = moved; as_many = many; nodes = λ k a b ea eb. (served k a b ea eb).0 },
      )

  -- and so the image stays settled
  pub stays : new.plan ≡ old.plan → StaysSettled old new
  stays same =
      let w : StaysIn (frozen_as V1 new) =
      subst StaysIn (ap (λ (p : Planned). frozen_in V1 p new.stations new.wires.maps) (sym same)) stays_in in
      record { passes = w.0; settled = w.1; bounded = w.2; keeps = w.3 }
