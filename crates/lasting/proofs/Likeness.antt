-- Stations that are like those of an image have one in which no more than rows and the routers of nodes moved.
use Rattle.std.proofs.Common.{◌≡◌, ℕ, ◌+◌, ◌-◌, ◌≤◌, true, List, drop, length, map}
use Rattle.std.proofs.Common.{Some, None, refl, sym, ap, ◌∙◌, subst, arith, is_some}
use Rattle.std.proofs.lemmas.List.{length-map}
use Rattle.aarp.specs.Choosing.{Choice}
use Rattle.aarp.specs.Mapping.{Mappings}
use Rattle.at_base.specs.declared.address.Addr.{Addr}
use Rattle.audit.proofs.WalkLists.{At, at_below, at_map, at_one, at_within}
use Rattle.audit.specs.Routing.{owner}
use Rattle.freeze.specs.Freezing.{address_of, frozen_list, frozen_name, frozen_node, frozen_router, frozen_row}
use Rattle.freeze.specs.Frozen.{cables_by, frozen_in, seats_after}
use Rattle.internet_file.specs.Files.{Planned}
use Rattle.internet_file.specs.declared.node.Node.{Node as PlannedNode}
use Rattle.internet_file.specs.declared.router.Router.{Router as PlannedRouter}
use Rattle.lasting.proofs.Alike.{IsLike}
use Rattle.lasting.proofs.Images.{AreNodes, AreRouters, dropped, node_at, nodes_count, ports_any, router_at, routers_count}
use Rattle.lasting.specs.Resting.{IsSameNode}
use Rattle.lasting.specs.Standing.{AreStanding}
use Rattle.live_node.specs.Living.{LivingNode}
use Rattle.live_router.specs.Living.{Living}
use Rattle.settled.specs.Moved.{IsMoved, IsMovedRouter, IsMovedTo}
use Rattle.station.specs.declared.member.Member.{Member}
use Rattle.station.specs.declared.member.Member.TheVariants.{Router as RouterMember, Node as NodeMember}
use Rattle.table_image.specs.Internet.{Internet}
use Rattle.table_image.specs.declared.node.Node.{Node}
use Rattle.table_image.specs.declared.router.Router.{Router}
use Rattle.table_image.specs.declared.version.Version.TheVariants.{V1}
use Rattle.lasting.proofs.Ground.{image_count, image_node, image_router, last_nodes}

module _ (plan : Planned) (phase : ℕ) (stations now : List (Member Living LivingNode)) (maps later : List Mappings)
    (standing : AreStanding plan phase stations) (count : length now ≡ length stations)
    (alike : (k : ℕ) (a b : Member Living LivingNode) → At stations k a → At now k b → IsLike (frozen_in V1 plan stations maps) k a b) where
  abbrev before : Internet
  before = frozen_in V1 plan stations maps

  abbrev after : Internet
  after = frozen_in V1 plan now later

  -- the router or the node that a station was
  pub router_was : (k : ℕ) (b : Living) → At now k (RouterMember b) → (a : Living) × At stations k (RouterMember a) × IsLike before k (RouterMember a) (RouterMember b)
  router_was k b eb =
      let low = at_within now k (RouterMember b) eb in
      let m = at_below stations k (omega (arith, low, count)) in
      by m.0 m.1
    where
      by : (m : Member Living LivingNode) → At stations k m → (a : Living) × At stations k (RouterMember a) × IsLike before k (RouterMember a) (RouterMember b)
      by (RouterMember a) e = (a, e, alike k (RouterMember a) (RouterMember b) e eb)
      by (NodeMember a) e = absurd (alike k (NodeMember a) (RouterMember b) e eb)

  pub node_was : (k : ℕ) (b : LivingNode) → At now k (NodeMember b) → (a : LivingNode) × At stations k (NodeMember a) × IsLike before k (NodeMember a) (NodeMember b)
  node_was k b eb =
      let low = at_within now k (NodeMember b) eb in
      let m = at_below stations k (omega (arith, low, count)) in
      by m.0 m.1
    where
      by : (m : Member Living LivingNode) → At stations k m → (a : LivingNode) × At stations k (NodeMember a) × IsLike before k (NodeMember a) (NodeMember b)
      by (NodeMember a) e = (a, e, alike k (NodeMember a) (NodeMember b) e eb)
      by (RouterMember a) e = absurd (alike k (RouterMember a) (NodeMember b) e eb)

  now_routers : AreRouters plan.routers now
  now_routers k r m er em = by m em
    where
      by : (m : Member Living LivingNode) → At now k m → (l : Living) × (m ≡ RouterMember l)
      by (RouterMember l) e = (l, refl)
      by (NodeMember n) e =
          let w = node_was k n e in
          absurd (standing.routers k r (NodeMember w.0) er w.1)

  now_nodes : AreNodes (drop (length plan.routers) now)
  now_nodes k m em = by m (sym (dropped (length plan.routers) now k) ∙ em)
    where
      by : (m : Member Living LivingNode) → At now (length plan.routers + k) m → (n : LivingNode) × (m ≡ NodeMember n)
      by (NodeMember n) e = (n, refl)
      by (RouterMember l) e =
          let w = router_was (length plan.routers + k) l e in
          absurd (standing.nodes (length plan.routers + k) (RouterMember w.0) (omega arith) w.1)

  enough : length plan.routers ≤ length now
  enough = let few = standing.whole in omega (arith, few, count)

  pub after_count : length after.routers ≡ length plan.routers
  after_count = routers_count plan.routers now later now_routers enough

  router_moved : (k : ℕ) (a b : Router) → At before.routers k a → At after.routers k b → IsMovedRouter before k a b
  router_moved k a b ea eb =
      let low = at_within before.routers k a ea in
      let many = image_count plan phase stations maps standing in
      let r = at_below plan.routers k (omega (arith, low, many)) in
      let few = enough in
      let m = at_below now k (omega (arith, low, many, few)) in
      by r.0 r.1 m.0 m.1 (now_routers k r.0 m.0 r.1 m.1)
    where
      by : (r : PlannedRouter) → At plan.routers k r → (m : Member Living LivingNode) → At now k m → ((l : Living) × (m ≡ RouterMember l)) → IsMovedRouter before k a b
      by r er m em (l, is) =
          let el : At now k (RouterMember l) = em ∙ ap (λ z. Some z) is in
          let was = router_was k l el in
          let x = image_router plan phase stations maps standing k r was.0 er was.1 in
          let y = router_at plan.routers now later k r l now_routers er el in
          let first : frozen_router V1 (cables_by r) was.0.router x.0 ≡ a = at_one before.routers k _ a x.1 ea in
          let second : frozen_router V1 (cables_by r) l.router y.0 ≡ b = at_one after.routers k _ b y.1 eb in
          let rows = was.2.1 a ea in
          let b_rows : b.rows ≡ map frozen_row l.router.routes = sym (ap (λ (z : Router). z.rows) second) in
          record {
            ports =
                sym (ap (λ (z : Router). z.ports) first)
                ∙ (ports_any (cables_by r) was.0.router.ports x.0 y.0
                ∙ (ap (λ ps. (frozen_router V1 (cables_by r) (record l.router { ports = ps }) y.0).ports) (sym was.2.0.ports)
                ∙ ap (λ (z : Router). z.ports) second));
            lists =
                sym (ap (λ (z : Router). z.lists) first)
                ∙ (ap (map frozen_list) (sym was.2.0.zones) ∙ ap (λ (z : Router). z.lists) second);
            count = rows.count ∙ (sym (length-map l.router.routes frozen_row) ∙ sym (ap length b_rows));
            rows = λ n p q ep eq.
                let h = at_map frozen_row l.router.routes n q (subst (λ l. At l n q) b_rows eq) in
                subst (IsMoved before k a p) (sym h.2) (rows.each n p h.0 ep h.1);
          }

  -- the image has moved, but for the routers of its nodes
  pub image_moved : IsMovedTo before (record { version = V1; cables = after.cables; routers = after.routers; nodes = before.nodes })
  image_moved = record {
    version = refl;
    cables = refl;
    nodes = refl;
    count = image_count plan phase stations maps standing ∙ sym after_count;
    each = router_moved;
  }

  few_nodes : length plan.nodes ≤ length (drop (length plan.routers) stations)
  few_nodes = let many = standing.as_many in omega (arith, many, Rattle.std.proofs.lemmas.List.length-drop (length plan.routers) stations)

  few_now : length plan.nodes ≤ length (drop (length plan.routers) now)
  few_now = let many = standing.as_many in omega (arith, many, count, Rattle.std.proofs.lemmas.List.length-drop (length plan.routers) now)

  pub nodes_as_many : length before.nodes ≡ length after.nodes
  nodes_as_many =
      nodes_count plan.nodes (drop (length plan.routers) stations) _ (last_nodes plan phase stations maps standing) few_nodes
      ∙ sym (nodes_count plan.nodes (drop (length plan.routers) now) _ now_nodes few_now)

  -- and each node has all but its router as before
  pub nodes_served : (k : ℕ) (a b : Node) → At before.nodes k a → At after.nodes k b
      → IsSameNode a b × ((x : Addr) → b.router ≡ Some x → is_some (owner before b.cable x) ≡ true)
  nodes_served k a b ea eb =
      let low = at_within before.nodes k a ea in
      let many = nodes_count plan.nodes (drop (length plan.routers) stations) (seats_after plan.routers maps) (last_nodes plan phase stations maps standing) few_nodes in
      let n = at_below plan.nodes k (omega (arith, low, many)) in
      let all = standing.as_many in
      let m = at_below now (length plan.routers + k) (omega (arith, low, many, all, count)) in
      by n.0 n.1 m.0 m.1 (now_nodes k m.0 (dropped (length plan.routers) now k ∙ m.1))
    where
      by : (n : PlannedNode) → At plan.nodes k n → (m : Member Living LivingNode) → At now (length plan.routers + k) m
          → ((l : LivingNode) × (m ≡ NodeMember l)) → IsSameNode a b × ((x : Addr) → b.router ≡ Some x → is_some (owner before b.cable x) ≡ true)
      by n en m em (l, is) =
          let el : At now (length plan.routers + k) (NodeMember l) = em ∙ ap (λ z. Some z) is in
          let was = node_was (length plan.routers + k) l el in
          let x = image_node plan phase stations maps standing k n was.0 en was.1 in
          let y = node_at plan.nodes (drop (length plan.routers) now) (seats_after plan.routers later) k n l now_nodes en (dropped (length plan.routers) now k ∙ el) in
          let first : frozen_node V1 (n.cable - 1) was.0.node None ≡ a = at_one before.nodes k _ a x ea in
          let second : frozen_node V1 (n.cable - 1) l.node None ≡ b = at_one after.nodes k _ b y eb in
          let like = was.2.0 in
          let served = was.2.1 k a (omega (arith, image_count plan phase stations maps standing)) ea in (
            record {
              cable = sym (ap (λ (z : Node). z.cable) second) ∙ ap (λ (z : Node). z.cable) first;
              address = sym (ap (λ (z : Node). z.address) second) ∙ (ap address_of like.port ∙ ap (λ (z : Node). z.address) first);
              hardware = sym (ap (λ (z : Node). z.hardware) second) ∙ (ap (λ (c : Choice). c.hw) like.port ∙ ap (λ (z : Node). z.hardware) first);
              zone = sym (ap (λ (z : Node). z.zone) second) ∙ (like.zone ∙ ap (λ (z : Node). z.zone) first);
              names = sym (ap (λ (z : Node). z.names) second) ∙ (ap (map frozen_name) like.names ∙ ap (λ (z : Node). z.names) first);
              mappings = sym (ap (λ (z : Node). z.mappings) second) ∙ ap (λ (z : Node). z.mappings) first;
            },
            λ a2 e.
                let cable : a.cable ≡ b.cable = sym (ap (λ (z : Node). z.cable) first) ∙ ap (λ (z : Node). z.cable) second in
                subst (λ c. is_some (owner before c a2) ≡ true) cable (served a2 (ap (λ (z : Node). z.router) second ∙ e)),
          )
