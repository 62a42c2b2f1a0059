-- Nodes that have settled ask about their cables at most three times, five ticks apart, and then no more.
use Rattle.std.proofs.Common.{◌≡◌, ◌⊎◌, inl, inr, ℕ, zero, suc, ◌+◌, ◌-◌, ◌*◌, ◌≤◌, ◌==◌, ◌&&◌, Bool, true, false, not, List, [], ◌∷◌, ◌++◌}
use Rattle.std.proofs.Common.{Option, Some, None, refl, sym, ap, ◌∙◌, subst, length, map, arith, nat_lt, is_some, true≢false}
use Rattle.std.proofs.Common.{ltb-true, eqb-true, eq-eqb, if◌then◌else◌}
use Rattle.std.proofs.lemmas.Bool.{cases_eq}
use Rattle.aarp.specs.Choosing.{Choice, settled}
use Rattle.at_base.specs.declared.address.Addr.{Addr}
use Rattle.audit.proofs.WalkLists.{At, at_below, at_within}
use Rattle.ddp.specs.Datagram.{Datagram}
use Rattle.end_node.specs.Taking.{taken}
use Rattle.internet_file.specs.declared.cable.Cable.{Cable}
use Rattle.internet_file.specs.declared.node.Node.{Node as PlannedNode}
use Rattle.internet_file.specs.declared.router.Router.{Router as PlannedRouter}
use Rattle.lasting.proofs.Nodes.{answers_stay, tick_same}
use Rattle.lasting.proofs.Stepping.{AllStep, tick_steps}
use Rattle.lasting.specs.Begun.{AreNextTicks, HasRun}
use Rattle.lasting.specs.Resting.{last_of}
use Rattle.lasting.specs.Standing.{asks_on}
use Rattle.live_node.specs.Living.{LivingNode, LiveHears as NodeHears, informed, is_waiting, routed, taught, told}
use Rattle.live_node.specs.Ticking.{LiveTicks as NodeTicks, asked_after, choice_after, wait_after}
use Rattle.live_router.specs.Living.{Living, LiveHears as RouterHears}
use Rattle.live_router.specs.Ticking.{LiveTicks as RouterTicks}
use Rattle.planned_stations.specs.Beginning.{AreNodesBegun, router_begun}
use Rattle.rtmp.specs.Data.{RoutingData, routing_in}
use Rattle.station.specs.Hearing.{Hearing}
use Rattle.station.specs.Members.{EitherHears, EitherTicks}
use Rattle.station.specs.Ways.{is_to}
use Rattle.station.specs.declared.member.Member.{Member}
use Rattle.station.specs.declared.member.Member.TheVariants.{Router as RouterMember, Node as NodeMember}
use Rattle.station.specs.declared.output.Output.{Output}
use Rattle.world.specs.Doing.{given_up}
use Rattle.world.specs.Worlds.{Worldly}
use Rattle.zip_zones.specs.Formats.{zones_in}
use Rattle.zip_zones.specs.declared.packet.NetInfo.{NetInfo}
use Rattle.zip_zones.specs.declared.packet.Packet.{Packet}
use Rattle.zip_zones.specs.declared.packet.Packet.TheVariants.{Query, Reply, GetNetInfo, NetInfoReply, ExtendedReply}

-- ---- One node

-- the number of ticks after which a node asks no more, that has asked so often and waits so long
abbrev left : Bool → ℕ → ℕ → ℕ
left answered asked wait = if not answered && nat_lt asked 3 then (3 - asked) * 5 + wait - 4 else 0

abbrev pub ticks_left : LivingNode → ℕ
ticks_left l = left l.answered l.asked l.wait

left_le : (answered : Bool) (asked wait : ℕ) → left answered asked wait ≤ (3 - asked) * 5 + wait - 4
left_le answered asked wait = by (not answered && nat_lt asked 3)
  where
    by : (b : Bool) → (if b then (3 - asked) * 5 + wait - 4 else 0) ≤ (3 - asked) * 5 + wait - 4
    by true = omega arith
    by false = omega arith

-- a tick
tick_left : (own : Option Addr) (l : LivingNode)
    → (left l.answered (asked_after own l) (wait_after own l) ≤ ticks_left l)
    × (is_some own ≡ true → left l.answered (asked_after own l) (wait_after own l) ≤ ticks_left l - 1)
tick_left own l = by (is_some own) l.answered (nat_lt l.asked 3) (l.wait == 0) refl refl refl refl
  where
    by : (s a f z : Bool) → is_some own ≡ s → l.answered ≡ a → nat_lt l.asked 3 ≡ f → (l.wait == 0) ≡ z
        → (left l.answered (asked_after own l) (wait_after own l) ≤ ticks_left l)
        × (is_some own ≡ true → left l.answered (asked_after own l) (wait_after own l) ≤ ticks_left l - 1)
    by s true f z es ea ef ez = rw ea (omega arith, λ on. omega arith)
    by false false f z es ea ef ez =
        let asked : asked_after own l ≡ l.asked = rw es refl in
        let wait : wait_after own l ≡ l.wait = rw es refl in
        (rw (asked, wait) (omega arith), λ on. absurd (true≢false (sym on ∙ es)))
    by true false false z es ea ef ez =
        let asked : asked_after own l ≡ l.asked = rw (es, ea, ef) refl in
        let wait : wait_after own l ≡ l.wait = rw (es, ea, ef) refl in
        rw (asked, wait, ea, ef) (omega arith, λ on. omega arith)
    by true false true true es ea ef ez =
        let few = ltb-true l.asked 3 ef in
        let none = eqb-true l.wait 0 ez in
        let asked : asked_after own l ≡ l.asked + 1 = rw (es, ea, ef, ez) refl in
        let wait : wait_after own l ≡ 4 = rw (es, ea, ef, ez) refl in
        let next = left_le false (l.asked + 1) 4 in
        let before : ticks_left l ≡ (3 - l.asked) * 5 + l.wait - 4 = rw (ea, ef) refl in
        let after : left l.answered (asked_after own l) (wait_after own l) ≡ left false (l.asked + 1) 4 = rw (asked, wait, ea) refl in
        (omega (arith, few, none, next, before, after), λ on. omega (arith, few, none, next, before, after))
    by true false true false es ea ef ez =
        let asked : asked_after own l ≡ l.asked = rw (es, ea, ef, ez) refl in
        let wait : wait_after own l ≡ l.wait - 1 = rw (es, ea, ef, ez) refl in
        let before : ticks_left l ≡ (3 - l.asked) * 5 + l.wait - 4 = rw (ea, ef) refl in
        let after : left l.answered (asked_after own l) (wait_after own l) ≡ (3 - l.asked) * 5 + (l.wait - 1) - 4 = rw (asked, wait, ea, ef) refl in
        elim (cases_eq l.wait 0) [
          | inl none ↦ absurd (true≢false (sym (eq-eqb l.wait 0 none) ∙ ez))
          | inr some ↦ (omega (arith, before, after), λ on. omega (arith, before, after, some))
        ]

-- A node was taught: its port stays, and how often it has asked; it may have been answered.
record IsTaught (a b : LivingNode) : Type 0 where
  port : b.node.port ≡ a.node.port
  asked : b.asked ≡ a.asked
  wait : b.wait ≡ a.wait
  answered : (b.answered ≡ a.answered) ⊎ (b.answered ≡ true)

taught_same : (l : LivingNode) → IsTaught l l
taught_same l = record { port = refl; asked = refl; wait = refl; answered = inl refl }

informed_is : (l : LivingNode) (info : NetInfo) → IsTaught l (informed l info)
informed_is l info = by (is_waiting l)
  where
    by : (b : Bool) → IsTaught l (if b then record l { node = record l.node { zone = Rattle.std.specs.Option.unwrap_or info.default l.node.zone }; answered = true } else l)
    by true = record { port = refl; asked = refl; wait = refl; answered = inr refl }
    by false = taught_same l

told_is : (l : LivingNode) (o : Option Packet) → IsTaught l (told l o)
told_is l None = taught_same l
told_is l (Some (Query nets)) = taught_same l
told_is l (Some (Reply count entries)) = taught_same l
told_is l (Some (GetNetInfo unused asked)) = taught_same l
told_is l (Some (NetInfoReply info)) = informed_is l info
told_is l (Some (ExtendedReply total entries)) = taught_same l

routed_is : (l : LivingNode) (o : Option RoutingData) → IsTaught l (routed l o)
routed_is l None = taught_same l
routed_is l (Some p) = record { port = refl; asked = refl; wait = refl; answered = inl refl }

taught_is : (l : LivingNode) (o : Option Datagram) → IsTaught l (taught l o)
taught_is l None = taught_same l
taught_is l (Some d) = by (is_to 1 1 d) (is_to 6 6 d)
  where
    by : (x y : Bool) → IsTaught l (if x then routed l (routing_in d.payload) else if y then told l (zones_in d.payload) else l)
    by true y = routed_is l (routing_in d.payload)
    by false true = told_is l (zones_in d.payload)
    by false false = taught_same l

taught_left : (a b : LivingNode) → b.asked ≡ a.asked → b.wait ≡ a.wait → (b.answered ≡ a.answered) ⊎ (b.answered ≡ true)
    → ticks_left b ≤ ticks_left a
taught_left a b asked wait (inl same) = rw (asked, wait, same) (omega arith)
taught_left a b asked wait (inr now) = rw now (omega arith)

-- ---- One station

abbrev IsSettledNode : LivingNode → Type 0
IsSettledNode n = n.node.port.is_settled ≡ true

-- a node has fewer ticks left, if it has settled
abbrev Ticked : Member Living LivingNode → Member Living LivingNode → Type 0
Ticked (NodeMember a) (NodeMember b) = (ticks_left b ≤ ticks_left a) × (IsSettledNode a → IsSettledNode b × (ticks_left b ≤ ticks_left a - 1))
Ticked (RouterMember a) (RouterMember b) = Unit {0}
Ticked (RouterMember a) (NodeMember b) = ⊥
Ticked (NodeMember a) (RouterMember b) = ⊥

-- a node has no more of them
abbrev Stayed : Member Living LivingNode → Member Living LivingNode → Type 0
Stayed (NodeMember a) (NodeMember b) = (ticks_left b ≤ ticks_left a) × (IsSettledNode a → IsSettledNode b)
Stayed (RouterMember a) (RouterMember b) = Unit {0}
Stayed (RouterMember a) (NodeMember b) = ⊥
Stayed (NodeMember a) (RouterMember b) = ⊥

joins : (a b c : Member Living LivingNode) → Ticked a b → Stayed b c → Ticked a c
joins (NodeMember a) (NodeMember b) (NodeMember c) x y =
    let one = x.0 in
    let two = y.0 in (
      omega (arith, one, two),
      λ s.
          let w = x.1 s in
          let less = w.1 in
          (y.1 w.0, omega (arith, less, two)),
    )
joins (RouterMember a) (RouterMember b) (RouterMember c) x y = tt
joins (RouterMember a) (NodeMember b) c x y = absurd x
joins (NodeMember a) (RouterMember b) c x y = absurd x
joins (RouterMember a) (RouterMember b) (NodeMember c) x y = absurd y
joins (NodeMember a) (NodeMember b) (RouterMember c) x y = absurd y

joined : (a b c : Member Living LivingNode) → Stayed a b → Stayed b c → Stayed a c
joined (NodeMember a) (NodeMember b) (NodeMember c) x y =
    let one = x.0 in
    let two = y.0 in
    (omega (arith, one, two), λ s. y.1 (x.1 s))
joined (RouterMember a) (RouterMember b) (RouterMember c) x y = tt
joined (RouterMember a) (NodeMember b) c x y = absurd x
joined (NodeMember a) (RouterMember b) c x y = absurd x
joined (RouterMember a) (RouterMember b) (NodeMember c) x y = absurd y
joined (NodeMember a) (NodeMember b) (RouterMember c) x y = absurd y

self : (m : Member Living LivingNode) → Stayed m m
self (RouterMember l) = tt
self (NodeMember n) = (omega arith, λ s. s)

gives_up : (m : Member Living LivingNode) (a : Addr) → Stayed m (given_up m a)
gives_up (RouterMember l) a = tt
gives_up (NodeMember n) a = (omega arith, λ s. s)

ticks : (m after : Member Living LivingNode) (added : List Output) → EitherTicks RouterTicks NodeTicks m added after → Ticked m after
ticks (RouterMember a) (RouterMember b) added h = tt
ticks (RouterMember a) (NodeMember b) added h = absurd h
ticks (NodeMember a) (RouterMember b) added h = absurd h
ticks (NodeMember a) (NodeMember b) added h =
    let own = settled (choice_after a) in
    let w = tick_left own a in
    let answered = ap (λ (l : LivingNode). l.answered) h.left in
    let asked = ap (λ (l : LivingNode). l.asked) h.left in
    let wait = ap (λ (l : LivingNode). l.wait) h.left in
    let is : ticks_left b ≡ left a.answered (asked_after own a) (wait_after own a) = rw (answered, asked, wait) refl in
    let first = w.0 in (
      omega (arith, is, first),
      λ s.
          let same = (tick_same a.node.port s).0 in
          let there : is_some own ≡ true = ap (λ (c : Choice). is_some (settled c)) same ∙ rw s refl in
          let less = w.1 there in
          let port : b.node.port ≡ a.node.port = ap (λ (l : LivingNode). l.node.port) h.left ∙ same in
          (ap (λ (c : Choice). c.is_settled) port ∙ s, omega (arith, is, less)),
    )

hears : (m after : Member Living LivingNode) (x : Hearing) (added : List Output) → EitherHears RouterHears NodeHears m x added after
    → Stayed m after
hears (RouterMember a) (RouterMember b) x added h = tt
hears (RouterMember a) (NodeMember b) x added h = absurd h
hears (NodeMember a) (RouterMember b) x added h = absurd h
hears (NodeMember a) (NodeMember b) x added h =
    let before : LivingNode = record a { node = h.answered } in
    let t = taught_is before (taken a.node x) in
    let after : LivingNode = taught before (taken a.node x) in
    let is : b ≡ after = h.learns in (
      subst (λ (z : LivingNode). ticks_left z ≤ ticks_left a) (sym is) (taught_left a after t.asked t.wait t.answered),
      λ s.
          let port : b.node.port ≡ a.node.port =
          ap (λ (l : LivingNode). l.node.port) is ∙ (t.port ∙ (answers_stay a.node h.answered x added s h.answers).port) in
          ap (λ (c : Choice). c.is_settled) port ∙ s,
    )

-- ---- A world

abbrev HaveLeft : ℕ → List (Member Living LivingNode) → Type 0
HaveLeft most stations = (k : ℕ) (n : LivingNode) → At stations k (NodeMember n) → ticks_left n ≤ most

abbrev AreSettledNodes : List (Member Living LivingNode) → Type 0
AreSettledNodes stations = (k : ℕ) (n : LivingNode) → At stations k (NodeMember n) → IsSettledNode n

node_was : (old new : List (Member Living LivingNode)) → AllStep Ticked old new → (k : ℕ) (n : LivingNode) → At new k (NodeMember n)
    → (a : LivingNode) × At old k (NodeMember a) × Ticked (NodeMember a) (NodeMember n)
node_was old new h k n e =
    let low = at_within new k (NodeMember n) e in
    let same = h.count in
    let m = at_below old k (omega (arith, low, same)) in
    by m.0 m.1
  where
    by : (m : Member Living LivingNode) → At old k m → (a : LivingNode) × At old k (NodeMember a) × Ticked (NodeMember a) (NodeMember n)
    by (NodeMember a) em = (a, em, h.each k (NodeMember a) (NodeMember n) em e)
    by (RouterMember a) em = absurd (h.each k (RouterMember a) (NodeMember n) em e)

steps : (old new : Worldly) → Rattle.world.specs.Ticking.IsTick old new → AllStep Ticked old.stations new.stations
steps old new t = tick_steps Ticked Stayed joins joined self gives_up ticks hears old new t

begun_left : (cables : List Cable) (rs : List PlannedRouter) (ns : List PlannedNode) (ls : List LivingNode) → AreNodesBegun cables ns ls
    → HaveLeft 11 (map (λ r. RouterMember (router_begun cables r)) rs ++ map NodeMember ls)
begun_left cables [] [] [] h k n e = cc
begun_left cables [] [] (l ∷ ls) h k n e = absurd h
begun_left cables [] (p ∷ ns) [] h k n e = absurd h
begun_left cables [] (p ∷ ns) (l ∷ ls) h zero n e =
    let made : l ≡ n = cc in
    let eleven : ticks_left l ≡ 11 = ap (λ (z : LivingNode). ticks_left z) h.0.is in
    subst (λ (z : LivingNode). ticks_left z ≤ 11) made (omega (arith, eleven))
begun_left cables [] (p ∷ ns) (l ∷ ls) h (suc k) n e = begun_left cables [] ns ls h.1 k n e
begun_left cables (r ∷ rs) ns ls h zero n e = cc
begun_left cables (r ∷ rs) ns ls h (suc k) n e = begun_left cables rs ns ls h k n e

still_left : (most : ℕ) (old new : List (Member Living LivingNode)) → AllStep Ticked old new → HaveLeft most old → HaveLeft most new
still_left most old new h few k n e =
    let w = node_was old new h k n e in
    let before = few k w.0 w.1 in
    let less = w.2.0 in
    omega (arith, before, less)

run_left : (w : Worldly) (vs : List Worldly) → HaveLeft 11 w.stations → AreNextTicks w vs → HaveLeft 11 (last_of w vs).stations
run_left w [] few more = few
run_left w (v ∷ vs) few (t, more) = run_left v vs (still_left 11 w.stations v.stations (steps w v t.tick) few) more

-- nodes that have settled have one tick less each time
fall : (w : Worldly) (vs : List Worldly) (most : ℕ) → AreSettledNodes w.stations → HaveLeft most w.stations → AreNextTicks w vs
    → HaveLeft (most - length vs) (last_of w vs).stations
fall w [] most have less ticks = λ k n e. let low = less k n e in omega (arith, low)
fall w (v ∷ vs) most have few (t, more) =
    let h = steps w v t.tick in
    let next : AreSettledNodes v.stations = λ k n e.
    let a = node_was w.stations v.stations h k n e in
    (a.2.1 (have k a.0 a.1)).0 in
    let fewer : HaveLeft (most - 1) v.stations = λ k n e.
    let a = node_was w.stations v.stations h k n e in
    let less = (a.2.1 (have k a.0 a.1)).1 in
    let before = few k a.0 a.1 in
    omega (arith, less, before) in
    let on = fall v vs (most - 1) next fewer more in
    λ k n e.
    let low = on k n e in
    omega (arith, low)

silent : (n : LivingNode) → ticks_left n ≤ 0 → asks_on n ≡ false
silent n none = by n.answered (nat_lt n.asked 3) refl refl
  where
    by : (a f : Bool) → n.answered ≡ a → nat_lt n.asked 3 ≡ f → asks_on n ≡ false
    by true f ea ef = rw ea refl
    by false false ea ef = rw (ea, ef) refl
    by false true ea ef =
        let few = ltb-true n.asked 3 ef in
        let is : ticks_left n ≡ (3 - n.asked) * 5 + n.wait - 4 = rw (ea, ef) refl in
        absurd (omega (arith, few, is, none))

pub fall_silent : (w : Worldly) (vs : List Worldly) → HasRun w → AreSettledNodes w.stations → AreNextTicks w vs → 11 ≤ length vs
    → (k : ℕ) (n : LivingNode) → At (last_of w vs).stations k (NodeMember n) → asks_on n ≡ false
fall_silent w vs run have more enough k n e =
    let b = run.begun in
    let first : HaveLeft 11 run.first.stations =
    subst (HaveLeft 11) (sym b.stations.are)
    (begun_left run.first.plan.cables run.first.plan.routers run.first.plan.nodes b.stations.nodes b.stations.each) in
    let here : HaveLeft 11 w.stations =
    subst (λ (z : Worldly). HaveLeft 11 z.stations) (sym run.last) (run_left run.first run.ticks first run.passed) in
    let low = fall w vs 11 have here more k n e in
    silent n (omega (arith, low, enough))
