-- The plan of a file is sound.
use Rattle.std.proofs.Common.{◌≡◌, ℕ, true, ◌&&◌, List, [], ◌∷◌, length, refl, sym, subst}
use Rattle.std.specs.Prelude.{Some, Ok, codes, nat_le, ℤ, pos, negsuc}
use Rattle.std.specs.List.{list_all}
use Rattle.std.proofs.lemmas.Bool.{and_parts}
use Rattle.toml.specs.Data.{Data, Members, as_integer, as_str, as_table, get_member}
use Rattle.at_base.specs.Limits.{max_zones}
use Rattle.at_base.specs.Range.{Span, is_between, is_range}
use Rattle.at_base.specs.declared.address.Addr.{Addr}
use Rattle.at_base.specs.declared.error.Part.TheVariants.{Cable as CablePart, Router as RouterPart, Node as NodePart}
use Rattle.at_base.specs.declared.error.Part.TheVariants.{Lose, Action as ActionPart}
use Rattle.text.specs.Words.{given}
use Rattle.internet_file.specs.Actions.{action_of, doing, loss_of}
use Rattle.internet_file.specs.Cables.{cable_of, zones}
use Rattle.file_entries.specs.Entries.{all, at, entry}
use Rattle.file_entries.specs.Entries.{entries_at}
use Rattle.internet_file.specs.Files.{Planned, actions_in, cables_in, losses_in, nodes_in, routers_in}
use Rattle.internet_file.specs.Sound.{IsSound, is_action, is_cable, is_loss, is_node, is_port, is_router, may_try, may_try_on}
use Rattle.internet_file.specs.Stations.{are_apart, cable_at, names_in, node_keys, node_of, port_in, port_of, ports, router_of, tries, try_of}
use Rattle.file_entries.specs.Values.{any_address, hardware, list, list_within, number, one_of, range, span_of, within, zone}
use Rattle.internet_file.specs.declared.action.Action.{Action}
use Rattle.internet_file.specs.declared.cable.Cable.{Cable}
use Rattle.internet_file.specs.declared.loss.Loss.{Loss}
use Rattle.internet_file.specs.declared.node.Node.{Node}
use Rattle.internet_file.specs.declared.port.Port.{Port}
use Rattle.internet_file.specs.declared.router.Router.{Router}
use Rattle.file_entries.proofs.Given.{all_is, cond_is, each_all, given_is, joined, part_all, part_is, some_is}

-- ---- Numbers

low_is : (low high : ℕ) (z : ℤ) (k : ℕ) → within low high z ≡ Some k → nat_le low k ≡ true
low_is low high (pos n) k e =
    let c = cond_is (nat_le low n && nat_le n high) n k e in
    subst (λ m. nat_le low m ≡ true) c.1 (and_parts (nat_le low n) (nat_le n high) c.0).0
low_is low high (negsuc n) k e = absurd cc

one_is : {T : Type 0} (entries : List T) (d : Data) (k : ℕ) → one_of entries d ≡ Some k
    → is_between 1 (length entries) k ≡ true
one_is entries d k e =
    let g = given_is (number 1 200 d) _ k e in
    let c = cond_is (nat_le g.0 (length entries)) g.0 k g.2 in
    let n = given_is (as_integer d) _ g.0 g.1 in
    subst (λ m. is_between 1 (length entries) m ≡ true) c.1
    (joined (nat_le 1 g.0) (nat_le g.0 (length entries)) (low_is 1 200 n.0 g.0 n.2) c.0)

within_is : (low high : ℕ) (d : Data) (ds : List Data) → list_within low high d ≡ Some ds
    → is_between low high (length ds) ≡ true
within_is low high d ds e =
    let g = given_is (list d) _ ds e in
    let c = cond_is (is_between low high (length g.0)) g.0 ds g.2 in
    subst (λ (x : List Data). is_between low high (length x) ≡ true) c.1 c.0

-- ---- Cables

span_is : (ds : List Data) (s : Span) → span_of ds ≡ Some s → is_range s.start s.end ≡ true
span_is [] s e = absurd cc
span_is (a ∷ []) s e = absurd cc
span_is (a ∷ b ∷ []) s e =
    let first = given_is (number 0 65535 a) _ s e in
    let last = given_is (number 0 65535 b) _ s first.2 in
    let c = cond_is (is_range first.0 last.0) (record { start = first.0; end = last.0 }) s last.2 in
    subst (λ (x : Span). is_range x.start x.end ≡ true) c.1 c.0
span_is (a ∷ b ∷ c ∷ ds) s e = absurd cc

zones_are : (d : Data) (names : List (List ℕ)) → zones d ≡ Some names → is_between 1 max_zones (length names) ≡ true
zones_are d names e =
    let items = given_is (list_within 1 max_zones d) (all zone) names e in
    let read = each_all 1 (λ k. zone) (λ name. true) (λ k d name e. refl) items.0 names (all_is (λ k. zone) items.0 names items.2) in
    subst (λ n. is_between 1 max_zones n ≡ true) (sym read.1) (within_is 1 max_zones d items.0 items.1)

cable_is : (d : Data) (c : Cable) → cable_of d ≡ Some c → is_cable c ≡ true
cable_is d c e =
    let ms = given_is (entry (codes "range" ∷ codes "zones" ∷ []) d) _ c e in
    let networks = given_is (at (codes "range") range ms.0) _ c ms.2 in
    let names = given_is (at (codes "zones") zones ms.0) _ c networks.2 in
    let value = given_is (get_member (codes "range") ms.0) range networks.0 networks.1 in
    let items = given_is (list value.0) span_of networks.0 value.2 in
    let listed = given_is (get_member (codes "zones") ms.0) zones names.0 names.1 in
    subst (λ (x : Cable). is_cable x ≡ true) (some_is names.2)
    (joined (is_range networks.0.start networks.0.end) (is_between 1 max_zones (length names.0))
    (span_is items.0 networks.0 items.2) (zones_are listed.0 names.0 listed.2))

-- ---- Ports

try_is : (s : Span) (d : Data) (a : Addr) → try_of s d ≡ Some a → may_try s a ≡ true
try_is s d a e =
    let g = given_is (any_address d) _ a e in
    let c = cond_is (is_between s.start s.end g.0.net && is_between 1 253 g.0.node) g.0 a g.2 in
    subst (λ (x : Addr). may_try s x ≡ true) c.1 c.0

tries_are : (cables : List Cable) (k : ℕ) (d : Data) (addresses : List Addr) → tries cables k d ≡ Some addresses
    → may_try_on (cable_at cables k) addresses ≡ true
tries_are cables k d addresses e =
    let cable = given_is (cable_at cables k) _ addresses e in
    let items = given_is (list_within 0 16 d) _ addresses cable.2 in
    rw (cable.1) (each_all 1 (λ k. try_of cable.0.range) (may_try cable.0.range) (λ k. try_is cable.0.range) items.0 addresses
    (all_is (λ k. try_of cable.0.range) items.0 addresses items.2)).0

in_is : (cables : List Cable) (ms : Members) (p : Port) → port_in cables ms ≡ Some p → is_port cables p ≡ true
in_is cables ms p e =
    let k = given_is (at (codes "cable") (one_of cables) ms) _ p e in
    let hw = given_is (at (codes "hardware") hardware ms) _ p k.2 in
    let addresses = given_is (at (codes "try") (tries cables k.0) ms) _ p hw.2 in
    let number = given_is (get_member (codes "cable") ms) (one_of cables) k.0 k.1 in
    let value = given_is (get_member (codes "try") ms) (tries cables k.0) addresses.0 addresses.1 in
    subst (λ (x : Port). is_port cables x ≡ true) (some_is addresses.2)
    (joined (is_between 1 (length cables) k.0) (may_try_on (cable_at cables k.0) addresses.0)
    (one_is cables number.0 k.0 number.2) (tries_are cables k.0 value.0 addresses.0 value.2))

port_is : (cables : List Cable) (d : Data) (p : Port) → port_of cables d ≡ Some p → is_port cables p ≡ true
port_is cables d p e =
    let ms = given_is (entry (codes "cable" ∷ codes "hardware" ∷ codes "try" ∷ []) d) (port_in cables) p e in
    in_is cables ms.0 p ms.2

-- ---- Stations

of_ports : (cables : List Cable) (d : Data) (ps : List Port) → ports cables d ≡ Some ps
    → is_router cables (record { port = ps }) ≡ true
of_ports cables d ps e =
    let items = given_is (list_within 1 16 d) _ ps e in
    let read = given_is (all (port_of cables) items.0) _ ps items.2 in
    let c = cond_is (are_apart cables read.0) read.0 ps read.2 in
    let passed = each_all 1 (λ k. port_of cables) (is_port cables) (λ k. port_is cables) items.0 read.0
    (all_is (λ k. port_of cables) items.0 read.0 read.1) in
    let count = subst (λ n. is_between 1 16 n ≡ true) (sym passed.1) (within_is 1 16 d items.0 items.1) in
    subst (λ (x : List Port). is_router cables (record { port = x }) ≡ true) c.1
    (joined (is_between 1 16 (length read.0) && list_all (is_port cables) read.0) (are_apart cables read.0)
    (joined (is_between 1 16 (length read.0)) (list_all (is_port cables) read.0) count passed.0) c.0)

router_is : (cables : List Cable) (d : Data) (r : Router) → router_of cables d ≡ Some r → is_router cables r ≡ true
router_is cables d r e =
    let ms = given_is (entry (codes "port" ∷ []) d) _ r e in
    let ps = given_is (at (codes "port") (ports cables) ms.0) _ r ms.2 in
    let value = given_is (get_member (codes "port") ms.0) (ports cables) ps.0 ps.1 in
    subst (λ (x : Router). is_router cables x ≡ true) (some_is ps.2) (of_ports cables value.0 ps.0 value.2)

node_is : (cables : List Cable) (d : Data) (n : Node) → node_of cables d ≡ Some n → is_node cables n ≡ true
node_is cables d n e =
    let ms = given_is (entry node_keys d) _ n e in
    let p = given_is (port_in cables ms.0) _ n ms.2 in
    let z = given_is (at (codes "zone") zone ms.0) _ n p.2 in
    let names = given_is (names_in ms.0) _ n z.2 in
    subst (λ (x : Node). is_node cables x ≡ true) (some_is names.2) (in_is cables ms.0 p.0 p.1)

-- ---- Losses and actions

loss_is : (ticks : ℕ) (cables : List Cable) (d : Data) (l : Loss) → loss_of ticks cables d ≡ Some l → is_loss cables l ≡ true
loss_is ticks cables d l e =
    let ms = given_is (entry (codes "cable" ∷ codes "first" ∷ codes "last" ∷ []) d) _ l e in
    let k = given_is (at (codes "cable") (one_of cables) ms.0) _ l ms.2 in
    let first = given_is (at (codes "first") (number 1 ticks) ms.0) _ l k.2 in
    let last = given_is (at (codes "last") (number first.0 ticks) ms.0) _ l first.2 in
    let value = given_is (get_member (codes "cable") ms.0) (one_of cables) k.0 k.1 in
    subst (λ (x : Loss). is_loss cables x ≡ true) (some_is last.2) (one_is cables value.0 k.0 value.2)

action_is : (ticks : ℕ) (nodes : List Node) (d : Data) (a : Action) → action_of ticks nodes d ≡ Some a
    → is_action nodes a ≡ true
action_is ticks nodes d a e =
    let ms = given_is (as_table d) _ a e in
    let tick = given_is (at (codes "at") (number 1 ticks) ms.0) _ a ms.2 in
    let k = given_is (at (codes "node") (one_of nodes) ms.0) _ a tick.2 in
    let what = given_is (given (at (codes "do") as_str ms.0) (doing ms.0)) _ a k.2 in
    let value = given_is (get_member (codes "node") ms.0) (one_of nodes) k.0 k.1 in
    subst (λ (x : Action). is_action nodes x ≡ true) (some_is what.2) (one_is nodes value.0 k.0 value.2)

-- ---- The plan

pub sound : (ms : Members) (p : Planned) → cables_in ms ≡ Ok p.cables → routers_in p.cables ms ≡ Ok p.routers
    → nodes_in p.cables ms ≡ Ok p.nodes → losses_in p.ticks p.cables ms ≡ Ok p.losses
    → actions_in p.ticks p.nodes ms ≡ Ok p.actions → IsSound p
unfolding cables_in routers_in nodes_in losses_in actions_in
sound ms p c r n l a =
    let cables = part_all 200 CablePart (λ k. cable_of) is_cable (λ k. cable_is) (entries_at (codes "cable") ms) p.cables c in
    let routers = part_all 200 RouterPart (λ k. router_of p.cables) (is_router p.cables) (λ k. router_is p.cables)
    (entries_at (codes "router") ms) p.routers r in
    let nodes = part_all 200 NodePart (λ k. node_of p.cables) (is_node p.cables) (λ k. node_is p.cables)
    (entries_at (codes "node") ms) p.nodes n in
    let losses = each_all 1 (λ k. loss_of p.ticks p.cables) (is_loss p.cables) (λ k. loss_is p.ticks p.cables)
    (entries_at (codes "lose") ms) p.losses
    (part_is Lose (λ k. loss_of p.ticks p.cables) (entries_at (codes "lose") ms) p.losses l) in
    let actions = each_all 1 (λ k. action_of p.ticks p.nodes) (is_action p.nodes) (λ k. action_is p.ticks p.nodes)
    (entries_at (codes "action") ms) p.actions
    (part_is ActionPart (λ k. action_of p.ticks p.nodes) (entries_at (codes "action") ms) p.actions a) in
    record {
      few_cables = cables.1;
      few_routers = routers.1;
      few_nodes = nodes.1;
      cables = cables.0;
      routers = routers.0;
      nodes = nodes.0;
      losses = losses.0;
      actions = actions.0;
    }
