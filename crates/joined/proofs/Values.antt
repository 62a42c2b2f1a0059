-- Joined internets are those of an image.
use Rattle.std.proofs.Common.{◌≡◌, ℕ, ◌+◌, ◌^◌, ◌<◌, ◌≤◌, ◌||◌, Bool, true, false, nat_lt, List, [], ◌∷◌, ◌++◌, length, refl, sym, subst, arith}
use Rattle.std.proofs.lemmas.List.{length-append}
use Rattle.std.proofs.lemmas.Bool.{ltb-false}
use Rattle.std.specs.List.{AllByRecursion as Each}
use Rattle.at_base.specs.Address.{address_number}
use Rattle.at_base.specs.Grammar.{Grammar, one, two}
use Rattle.at_base.specs.Limits.{max_cables, max_lists, max_mappings, max_nodes, max_ports, max_routers}
use Rattle.at_base.specs.Spelling.{IsValue, ListPasses}
use Rattle.image_parts.proofs.Values.{counted_value, image_value}
use Rattle.joined.proofs.Same.{same_is_equal}
use Rattle.joined.specs.Joining.{are_too_many, greater, have_same_cables, joined}
use Rattle.table_image.proofs.Bounds.{counted_each, counted_few, front_cables, image_bounded}
use Rattle.table_image.specs.Flaws.{Wrong}
use Rattle.table_image.specs.Internet.{Internet}
use Rattle.table_image.specs.Spelling.{cable_spelling, counted, image_spelling, mapping_spelling, mappings_spelling, node_spelling}
use Rattle.table_image.specs.Spelling.{port_spelling, router_spelling, zone_list_spelling, zone_spelling, zones_spelling}
use Rattle.table_image.specs.Versions.{zone_limit}
use Rattle.table_image.specs.declared.cable.Cable.{Cable}
use Rattle.table_image.specs.declared.mapping.Mapping.{Mapping}
use Rattle.table_image.specs.declared.node.Node.{Node}
use Rattle.table_image.specs.declared.port.Port.{Port}
use Rattle.table_image.specs.declared.router.Router.{Router}
use Rattle.table_image.specs.declared.version.Version.{Version}
use Rattle.table_image.specs.declared.version.Version.TheVariants.{V1, V2}
use Rattle.table_image.specs.declared.zone_list.ZoneList.{ZoneList}

-- ---- Lists

-- What passes one test passes another that follows from it.
list_passes : {B : Type 0} (here there : ℕ → B → Type 0) (next : B → ℕ) → ((low : ℕ) (x : B) → here low x → there low x)
    → (low : ℕ) (xs : List B) → ListPasses here next low xs → ListPasses there next low xs
list_passes here there next goes low [] h = tt
list_passes here there next goes low (x ∷ xs) h = (goes low x h.0, list_passes here there next goes (next x) xs h.1)

-- Each item passes where none depends on the one before it.
each_passes : {B : Type 0} (holds : B → Type 0) (low : ℕ) (xs : List B) → ListPasses (λ low. holds) (λ x. 0) low xs → Each holds xs
each_passes holds low [] h = tt
each_passes holds low (x ∷ xs) h = (h.0, each_passes holds 0 xs h.1)

each_goes : {B : Type 0} (here there : B → Type 0) → ((x : B) → here x → there x) → (xs : List B) → Each here xs → Each there xs
each_goes here there goes [] h = tt
each_goes here there goes (x ∷ xs) h = (goes x h.0, each_goes here there goes xs h.1)

each_of_both : {B : Type 0} (holds : B → Type 0) (xs ys : List B) → Each holds xs → Each holds ys → Each holds (xs ++ ys)
each_of_both holds [] ys h k = k
each_of_both holds (x ∷ xs) ys h k = (h.0, each_of_both holds xs ys h.1 k)

-- ---- What version 1 can hold, version 2 can hold

zones_grow : (zones : List (List ℕ)) → IsValue (zones_spelling V1) zones → IsValue (zones_spelling V2) zones
unfolding zones_spelling
zones_grow zones h =
    let few = counted_few one (zone_limit V1) (λ low. zone_spelling) (λ name. 0) zones h in
    counted_value one (zone_limit V2) (λ low. zone_spelling) (λ name. 0) zones (omega arith) (omega arith)
    (counted_each one (zone_limit V1) (λ low. zone_spelling) (λ name. 0) zones h)

cable_grows : (c : Cable) → IsValue (cable_spelling V1) c → IsValue (cable_spelling V2) c
unfolding cable_spelling
cable_grows c h = (h.0, (h.1.0, (zones_grow c.zones h.1.1.0, h.1.1.1)))

-- A version 1 image has no mappings.
none_grow : (known : List Mapping) → IsValue (mappings_spelling V1) known → IsValue (mappings_spelling V2) known
unfolding mappings_spelling
none_grow known h =
    subst (λ (ms : List Mapping). IsValue (mappings_spelling V2) ms) h
    (counted_value two max_mappings mapping_spelling (λ m. address_number m.address + 1) [] (omega arith) (omega arith) tt)

port_grows : (cables : ℕ) (p : Port) → IsValue (port_spelling V1 cables) p → IsValue (port_spelling V2 cables) p
unfolding port_spelling
port_grows cables p h = (h.0, (h.1.0, (h.1.1.0, (none_grow p.mappings h.1.1.1.0, h.1.1.1.1))))

list_grows : (low : ℕ) (l : ZoneList) → IsValue (zone_list_spelling V1 low) l → IsValue (zone_list_spelling V2 low) l
unfolding zone_list_spelling
list_grows low l h = (h.0, (h.1.0, (h.1.1.0, (zones_grow l.zones h.1.1.1.0, h.1.1.1.1))))

-- A counted list whose items pass another format too is one of that format.
counted_goes : {B : Type 0} (limit : ℕ) (here there : ℕ → Grammar Wrong true B) (next : B → ℕ) → limit < 2 ^ 8
    → ((low : ℕ) (x : B) → IsValue (here low) x → IsValue (there low) x)
    → (xs : List B) → IsValue (counted one limit here next) xs → IsValue (counted one limit there next) xs
counted_goes limit here there next small goes xs h =
    counted_value one limit there next xs (counted_few one limit here next xs h) small
    (list_passes (λ low. IsValue (here low)) (λ low. IsValue (there low)) next goes 0 xs (counted_each one limit here next xs h))

router_grows : (cables : ℕ) (r : Router) → IsValue (router_spelling V1 cables) r → IsValue (router_spelling V2 cables) r
unfolding router_spelling
router_grows cables r h =
    let ports = counted_goes max_ports (λ low. port_spelling V1 cables) (λ low. port_spelling V2 cables) (λ p. 0) (omega arith)
    (λ low. port_grows cables) r.ports h.0 in
    let lists = counted_goes max_lists (zone_list_spelling V1) (zone_list_spelling V2) (λ l. l.start + 1) (omega arith) list_grows
    r.lists h.1.1.0 in
    (ports, (h.1.0, (lists, h.1.1.1)))

node_grows : (cables : ℕ) (n : Node) → IsValue (node_spelling V1 cables) n → IsValue (node_spelling V2 cables) n
unfolding node_spelling
node_grows cables n h =
    let mappings = none_grow n.mappings h.1.1.1.1.1.1.0 in
    (h.0, (h.1.0, (h.1.1.0, (h.1.1.1.0, (h.1.1.1.1.0, (h.1.1.1.1.1.0, (mappings, h.1.1.1.1.1.1.1)))))))

-- What version 2 can hold where version 1 can, the greater version can hold where one of both can.
by_first : (holds : Version → Type 0) → (holds V1 → holds V2) → (v w : Version) → holds v → holds (greater v w)
by_first holds grows V1 V1 h = h
by_first holds grows V1 V2 h = grows h
by_first holds grows V2 w h = h

by_second : (holds : Version → Type 0) → (holds V1 → holds V2) → (v w : Version) → holds w → holds (greater v w)
by_second holds grows V1 w h = h
by_second holds grows V2 V1 h = grows h
by_second holds grows V2 V2 h = h

-- ---- Images

-- The parts of an image are valid, each by itself.
record AreValid (v : Version) (i : Internet) : Type 0 where
  cables : Each (λ c. IsValue (cable_spelling v) c) i.cables
  routers : Each (λ r. IsValue (router_spelling v (length i.cables)) r) i.routers
  nodes : Each (λ n. IsValue (node_spelling v (length i.cables)) n) i.nodes

parts_valid : (i : Internet) → IsValue image_spelling i → AreValid i.version i
unfolding image_spelling
parts_valid i h =
    let v = i.version in
    let count = length i.cables in
    record {
      cables = each_passes (λ c. IsValue (cable_spelling v) c) 0 i.cables (counted_each one max_cables (λ low. cable_spelling v) (λ c. 0)
          i.cables (front_cables v i.cables h.0));
      routers = each_passes (λ r. IsValue (router_spelling v count) r) 0 i.routers (counted_each one max_routers
          (λ low. router_spelling v count) (λ r. 0) i.routers h.1.0);
      nodes = each_passes (λ n. IsValue (node_spelling v count) n) 0 i.nodes (counted_each one max_nodes
          (λ low. node_spelling v count) (λ n. 0) i.nodes h.1.1.0);
    }

all_grow : (i : Internet) → AreValid V1 i → AreValid V2 i
all_grow i h = record {
  cables = each_goes (λ c. IsValue (cable_spelling V1) c) (λ c. IsValue (cable_spelling V2) c) cable_grows i.cables h.cables;
  routers = each_goes (λ r. IsValue (router_spelling V1 (length i.cables)) r) (λ r. IsValue (router_spelling V2 (length i.cables)) r)
      (router_grows (length i.cables)) i.routers h.routers;
  nodes = each_goes (λ n. IsValue (node_spelling V1 (length i.cables)) n) (λ n. IsValue (node_spelling V2 (length i.cables)) n)
      (node_grows (length i.cables)) i.nodes h.nodes;
}

-- Internets of images over the same cables, which have few enough routers and nodes, are joined that of an image.
joined_value : (a b : Internet) → IsValue image_spelling a → IsValue image_spelling b → a.cables ≡ b.cables
    → length a.routers + length b.routers ≤ max_routers → length a.nodes + length b.nodes ≤ max_nodes
    → IsValue image_spelling (joined a b)
joined_value a b ha hb same few_routers few_nodes =
    let v = greater a.version b.version in
    let h = by_first (λ v. AreValid v a) (all_grow a) a.version b.version (parts_valid a ha) in
    let k = by_second (λ v. AreValid v b) (all_grow b) a.version b.version (parts_valid b hb) in
    let count = length a.cables in
    let is_router : Router → Type 0 = λ r. IsValue (router_spelling v count) r in
    let is_node : Node → Type 0 = λ n. IsValue (node_spelling v count) n in
    let routers : Each is_router b.routers =
    subst (λ (cs : List Cable). Each (λ r. IsValue (router_spelling v (length cs)) r) b.routers) (sym same) k.routers in
    let nodes : Each is_node b.nodes =
    subst (λ (cs : List Cable). Each (λ n. IsValue (node_spelling v (length cs)) n) b.nodes) (sym same) k.nodes in
    let all_routers : length (a.routers ++ b.routers) ≤ max_routers = rw (length-append a.routers b.routers) few_routers in
    let all_nodes : length (a.nodes ++ b.nodes) ≤ max_nodes = rw (length-append a.nodes b.nodes) few_nodes in
    image_value (joined a b) (image_bounded a ha).cables all_routers all_nodes h.cables
    (each_of_both is_router a.routers b.routers h.routers routers) (each_of_both is_node a.nodes b.nodes h.nodes nodes)

few_enough : (a b : Internet) → are_too_many a b ≡ false
    → (length a.routers + length b.routers ≤ max_routers) × (length a.nodes + length b.nodes ≤ max_nodes)
few_enough a b e =
    let h = or_false (nat_lt max_routers (length a.routers + length b.routers)) (nat_lt max_nodes (length a.nodes + length b.nodes)) e in
    (ltb-false _ _ h.0, ltb-false _ _ h.1)
  where
    or_false : (x y : Bool) → (x || y) ≡ false → (x ≡ false) × (y ≡ false)
    or_false true y e = cc
    or_false false y e = (refl, e)

-- Images that are found to have the same cables, and few enough routers and nodes, are joined an image.
pub found_value : (a b : Internet) → IsValue image_spelling a → IsValue image_spelling b → have_same_cables a b ≡ true
    → are_too_many a b ≡ false → IsValue image_spelling (joined a b)
found_value a b ha hb same few =
    let h = few_enough a b few in joined_value a b ha hb ((same_is_equal a b).0 same) h.0 h.1
