-- Routers of a world are on the ranges of their plan's cables, all in one phase, from its beginning on.
use Rattle.std.proofs.Common.{◌≡◌, ℕ, zero, suc, ◌+◌, ◌≤◌, List, [], ◌∷◌, ◌++◌}
use Rattle.std.proofs.Common.{refl, ap, ◌∙◌, subst, length, map, arith}
use Rattle.std.proofs.lemmas.List.{length-append, length-map}
use Rattle.aarp.specs.Choosing.{begun}
use Rattle.at_base.specs.Range.{Span}
use Rattle.at_base.specs.declared.address.Addr.{Addr}
use Rattle.at_base.specs.declared.address.Hw.{Hw}
use Rattle.audit.proofs.WalkLists.{At, at_below, at_within}
use Rattle.internet_file.specs.Files.{Planned}
use Rattle.internet_file.specs.Stations.{cable_at}
use Rattle.internet_file.specs.declared.cable.Cable.{Cable}
use Rattle.internet_file.specs.declared.node.Node.{Node as PlannedNode}
use Rattle.internet_file.specs.declared.port.Port.{Port}
use Rattle.internet_file.specs.declared.router.Router.{Router as PlannedRouter}
use Rattle.lasting.proofs.Stepping.{AllStep, tick_steps}
use Rattle.lasting.proofs.Ranges.{HasSameRanges, ranges_of, router_hears, router_ticks}
use Rattle.live_node.specs.Living.{LivingNode, LiveHears as NodeHears}
use Rattle.live_node.specs.Ticking.{LiveTicks as NodeTicks}
use Rattle.live_router.specs.Living.{Living, LiveHears as RouterHears}
use Rattle.live_router.specs.Ticking.{LiveTicks as RouterTicks, phase_after}
use Rattle.planned_stations.specs.Beginning.{AreBegun, AreNodesBegun, port_begun, range_of, router_begun}
use Rattle.station.specs.Hearing.{Hearing}
use Rattle.station.specs.Members.{EitherHears, EitherTicks}
use Rattle.station.specs.declared.member.Member.{Member}
use Rattle.station.specs.declared.member.Member.TheVariants.{Router as RouterMember, Node as NodeMember}
use Rattle.station.specs.declared.output.Output.{Output}
use Rattle.world.specs.Doing.{given_up}
use Rattle.world.specs.Ticking.{IsTick}
use Rattle.world.specs.Worlds.{Worldly}

-- ---- One station

-- The station stays of its kind; a router's ports keep their ranges, and its phase becomes this one.
abbrev pub Keeps : (ℕ → ℕ) → Member Living LivingNode → Member Living LivingNode → Type 0
Keeps next (RouterMember a) (RouterMember b) = (b.phase ≡ next a.phase) × HasSameRanges a b
Keeps next (NodeMember a) (NodeMember b) = Unit {0}
Keeps next (RouterMember a) (NodeMember b) = ⊥
Keeps next (NodeMember a) (RouterMember b) = ⊥

abbrev pub Stays : Member Living LivingNode → Member Living LivingNode → Type 0
Stays a b = Keeps (λ phase. phase) a b

keeps_self : (m : Member Living LivingNode) → Stays m m
keeps_self (RouterMember a) = (refl, refl)
keeps_self (NodeMember a) = tt

keeps_then : (next : ℕ → ℕ) (a b c : Member Living LivingNode) → Keeps next a b → Stays b c → Keeps next a c
keeps_then next (RouterMember a) (RouterMember b) (RouterMember c) x y = (y.0 ∙ x.0, y.1 ∙ x.1)
keeps_then next (NodeMember a) (NodeMember b) (NodeMember c) x y = tt
keeps_then next (RouterMember a) (NodeMember b) c x y = absurd x
keeps_then next (NodeMember a) (RouterMember b) c x y = absurd x
keeps_then next (RouterMember a) (RouterMember b) (NodeMember c) x y = absurd y
keeps_then next (NodeMember a) (NodeMember b) (RouterMember c) x y = absurd y

hears_keeps : (m after : Member Living LivingNode) (x : Hearing) (added : List Output) → EitherHears RouterHears NodeHears m x added after
    → Stays m after
hears_keeps (RouterMember a) (RouterMember b) x added h = router_hears a b x added h
hears_keeps (NodeMember a) (NodeMember b) x added h = tt
hears_keeps (RouterMember a) (NodeMember b) x added h = absurd h
hears_keeps (NodeMember a) (RouterMember b) x added h = absurd h

ticks_keep : (m after : Member Living LivingNode) (added : List Output) → EitherTicks RouterTicks NodeTicks m added after
    → Keeps phase_after m after
ticks_keep (RouterMember a) (RouterMember b) added h = router_ticks a b added h
ticks_keep (NodeMember a) (NodeMember b) added h = tt
ticks_keep (RouterMember a) (NodeMember b) added h = absurd h
ticks_keep (NodeMember a) (RouterMember b) added h = absurd h

given_up_keeps : (m : Member Living LivingNode) (a : Addr) → Stays m (given_up m a)
given_up_keeps (RouterMember l) a = (refl, refl)
given_up_keeps (NodeMember n) a = tt

-- in a tick each station stays of its kind, and routers are in the next phase
pub tick_keeps : (old new : Worldly) → IsTick old new → AllStep (Keeps phase_after) old.stations new.stations
tick_keeps old new t =
    tick_steps (Keeps phase_after) Stays (keeps_then phase_after) (keeps_then (λ phase. phase)) keeps_self given_up_keeps ticks_keep hears_keeps old
    new t

-- ---- The plan

-- The station is a router in this phase, on the ranges of the planned router's cables.
abbrev pub IsPlaced : List Cable → ℕ → PlannedRouter → Member Living LivingNode → Type 0
IsPlaced cables phase r (RouterMember l) =
    (l.phase ≡ phase) × (ranges_of l.router.ports ≡ map (λ p. range_of (cable_at cables p.cable)) r.port)
IsPlaced cables phase r (NodeMember n) = ⊥

abbrev pub IsNode : Member Living LivingNode → Type 0
IsNode (RouterMember l) = ⊥
IsNode (NodeMember n) = Unit {0}

-- The stations are first the routers of the plan, in this phase and on the ranges of their cables, and then its nodes.
pub record ArePlaced (plan : Planned) (phase : ℕ) (stations : List (Member Living LivingNode)) : Type 0 where
  pub as_many : length stations ≡ length plan.routers + length plan.nodes
  pub routers : (k : ℕ) (r : PlannedRouter) (m : Member Living LivingNode) → At plan.routers k r → At stations k m → IsPlaced plan.cables phase r m
  pub nodes : (k : ℕ) (m : Member Living LivingNode) → length plan.routers ≤ k → At stations k m → IsNode m

begun_range : (range : Span) (tries : List Addr) (hw : Hw) → (begun range tries hw).range ≡ range
begun_range range [] hw = refl
begun_range range (a ∷ tries) hw = refl

begun_ranges : (cables : List Cable) (ports : List Port)
    → ranges_of (map (port_begun cables) ports) ≡ map (λ p. range_of (cable_at cables p.cable)) ports
begun_ranges cables [] = refl
begun_ranges cables (p ∷ ports) =
    let range = range_of (cable_at cables p.cable) in
    ap (λ (s : Span). s ∷ ranges_of (map (port_begun cables) ports)) (begun_range range p.tries p.hardware)
    ∙ ap (λ (l : List Span). range ∷ l) (begun_ranges cables ports)

begun_routers : (cables : List Cable) (rs : List PlannedRouter) (ns : List LivingNode) (k : ℕ) (r : PlannedRouter) (m : Member Living LivingNode)
    → At rs k r → At (map (λ r. RouterMember (router_begun cables r)) rs ++ map NodeMember ns) k m → IsPlaced cables 0 r m
begun_routers cables [] ns k r m er em = cc
begun_routers cables (x ∷ rs) ns zero r m er em =
    let is : x ≡ r = cc in
    let made : RouterMember (router_begun cables x) ≡ m = cc in
    subst (IsPlaced cables 0 r) made (subst (λ z. IsPlaced cables 0 z (RouterMember (router_begun cables x))) is (refl, begun_ranges cables x.port))
begun_routers cables (x ∷ rs) ns (suc k) r m er em = begun_routers cables rs ns k r m er em

begun_nodes : (cables : List Cable) (rs : List PlannedRouter) (ns : List LivingNode) (k : ℕ) (m : Member Living LivingNode) → length rs ≤ k
    → At (map (λ r. RouterMember (router_begun cables r)) rs ++ map NodeMember ns) k m → IsNode m
begun_nodes cables [] [] k m le em = cc
begun_nodes cables [] (n ∷ ns) zero m le em = let made : NodeMember n ≡ m = cc in subst IsNode made tt
begun_nodes cables [] (n ∷ ns) (suc k) m le em = begun_nodes cables [] ns k m (omega arith) em
begun_nodes cables (x ∷ rs) ns zero m le em = absurd (omega (arith, le))
begun_nodes cables (x ∷ rs) ns (suc k) m le em = begun_nodes cables rs ns k m (omega (arith, le)) em

nodes_many : (cables : List Cable) (ns : List PlannedNode) (ls : List LivingNode) → AreNodesBegun cables ns ls → length ls ≡ length ns
nodes_many cables [] [] h = refl
nodes_many cables (n ∷ ns) (l ∷ ls) h = ap suc (nodes_many cables ns ls h.1)
nodes_many cables [] (l ∷ ls) h = absurd h
nodes_many cables (n ∷ ns) [] h = absurd h

-- before the first tick all routers are in phase 0
pub begun_placed : (plan : Planned) (stations : List (Member Living LivingNode)) → AreBegun plan stations → ArePlaced plan 0 stations
begun_placed plan stations b =
    let of_router : PlannedRouter → Member Living LivingNode = λ r. RouterMember (router_begun plan.cables r) in
    let of_node : LivingNode → Member Living LivingNode = λ n. NodeMember n in
    let rs = map of_router plan.routers in
    let ms = map of_node b.nodes in
    let all = ap length b.are in
    let sum = length-append rs ms in
    let routers = length-map plan.routers of_router in
    let nodes = length-map b.nodes of_node in
    let many = nodes_many plan.cables plan.nodes b.nodes b.each in
    record {
      as_many = omega (arith, all, sum, routers, nodes, many);
      routers = λ k r m er em. begun_routers plan.cables plan.routers b.nodes k r m er (subst (λ l. At l k m) b.are em);
      nodes = λ k m le em. begun_nodes plan.cables plan.routers b.nodes k m le (subst (λ l. At l k m) b.are em);
    }

-- and a tick leads to the next one
pub still_placed : (plan : Planned) (phase : ℕ) (old new : List (Member Living LivingNode)) → ArePlaced plan phase old
    → AllStep (Keeps phase_after) old new → ArePlaced plan (phase_after phase) new
still_placed plan phase old new h x = record {
  as_many = x.count ∙ h.as_many;
  routers = λ k r m er em.
      let was = was_at k m em in
      by r was.0 m (h.routers k r was.0 er was.1) (x.each k was.0 m was.1 em);
  nodes = λ k m le em.
      let was = was_at k m em in
      of was.0 m (h.nodes k was.0 le was.1) (x.each k was.0 m was.1 em);
}
  where
    was_at : (k : ℕ) (m : Member Living LivingNode) → At new k m → (a : Member Living LivingNode) × At old k a
    was_at k m em =
        let low = at_within new k m em in
        let same = x.count in
        at_below old k (omega (arith, low, same))

    by : (r : PlannedRouter) (a b : Member Living LivingNode) → IsPlaced plan.cables phase r a → Keeps phase_after a b
        → IsPlaced plan.cables (phase_after phase) r b
    by r (RouterMember a) (RouterMember b) p k = (k.0 ∙ ap phase_after p.0, k.1 ∙ p.1)
    by r (RouterMember a) (NodeMember b) p k = absurd k
    by r (NodeMember a) b p k = absurd p

    of : (a b : Member Living LivingNode) → IsNode a → Keeps phase_after a b → IsNode b
    of (NodeMember a) (NodeMember b) p k = tt
    of (NodeMember a) (RouterMember b) p k = absurd k
    of (RouterMember a) b p k = absurd p
