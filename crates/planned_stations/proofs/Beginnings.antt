-- A router's zone table accepts the lists of its cables.
use Rattle.std.proofs.Common.{◌≡◌, ◌⊎◌, inl, inr, ℕ, suc, ◌+◌, ◌-◌, ◌<◌, ◌≤◌, Bool, true, false, not, ◌||◌, IsTrue, List, [], ◌∷◌, length}
use Rattle.std.proofs.Common.{Option, Some, None, drop, take, slice_index_or, refl, sym, ap, ◌∙◌, subst, arith}
use Rattle.std.proofs.Common.{nat_le}
use Rattle.std.proofs.Common.{◌↔◌, ◌++◌, IfErr, IsOkUnless, OnOk, Ok, Err, Result, append_assoc, leb-true, map, slice_get, zero}
use Rattle.std.specs.Prelude.{is_some}
use Rattle.std.proofs.lemmas.Bool.{and_parts, and_from}
use Rattle.std.proofs.lemmas.List.{take_all}
use Rattle.std.specs.List.{list_all, list_any}
use Rattle.at_base.specs.Limits.{max_zones}
use Rattle.at_base.specs.Range.{Span, is_between, is_range, overlaps}
use Rattle.at_base.specs.declared.error.Error.{Error}
use Rattle.at_base.specs.declared.error.Error.TheVariants.{BadRange, Full, Memory}
use Rattle.internet_file.specs.Sound.{is_cable, is_port, may_try_on}
use Rattle.internet_file.specs.Stations.{are_apart, cable_at, meet}
use Rattle.internet_file.specs.declared.cable.Cable.{Cable}
use Rattle.station.specs.declared.member.Member.{Member}
use Rattle.station.specs.declared.member.Member.TheVariants as member
use Rattle.internet_file.specs.Files.{Planned}
use Rattle.internet_file.specs.declared.node.Node.{Node}
use Rattle.internet_file.specs.declared.router.Router.{Router}
use Rattle.internet_file.specs.declared.port.Port.{Port}
use Rattle.live_node.specs.Living.{LivingNode}
use Rattle.live_router.specs.Living.{Living}
use Rattle.planned_stations.specs.Beginning.{AreBegun, AreNodesBegun, IsNodeBegun, are_free, is_free, port_begun, router_begun, with_cable}
use Rattle.planned_stations.specs.Planning.{planned_ports, ports_of}
use Rattle.at_base.proofs.Spans.{length_with, no_other, put_cases}
use Rattle.zip_zones.specs.Zones.{Known, is_full_for, known_for, overlaps_another, set_list, with_known}

-- ---- Lists of a table

false_left : (a b : Bool) → (a || b) ≡ false → a ≡ false
false_left true b e = absurd cc
false_left false b e = refl

false_right : (a b : Bool) → (a || b) ≡ false → b ≡ false
false_right true b e = absurd cc
false_right false b e = e

not_is : (b : Bool) → IsTrue (not b) → b ≡ false
not_is true h = absurd cc
not_is false h = refl

-- A property of no list of a table and not of a further list is a property of none of the table with that list.
none_with : (f : Known → Bool) (known : Known) (table : List Known) → f known ≡ false → list_any f table ≡ false
    → list_any f (with_known known table) ≡ false
none_with f known [] e none = rw e refl
none_with f known (k ∷ table) e none =
    let first = false_left (f k) (list_any f table) none in
    let rest = false_right (f k) (list_any f table) none in
    put_cases (λ k. k.range) (λ l. list_any f l ≡ false) known k table (λ t. rw (first, none_with f known table e rest) refl)
    (λ s. rw (e, rest) refl) (λ t s. rw (e, first, rest) refl)

-- ---- The ports after the first

-- The cables of the remaining ports stay free, because none of them overlaps the first port's cable.
free_after : (cables : List Cable) (table : List Known) (p : Port) (ps : List Port)
    → IsTrue (list_all (λ q. not (meet cables p q)) ps) → IsTrue (are_free cables table ps)
    → IsTrue (are_free cables (with_cable table (cable_at cables p.cable)) ps)
free_after cables table p [] apart free = refl
free_after cables table p (q ∷ ps) apart free =
    let others = and_parts (not (meet cables p q)) (list_all (λ q. not (meet cables p q)) ps) apart in
    let frees = and_parts (is_free table (cable_at cables q.cable)) (are_free cables table ps) free in
    and_from (is_free (with_cable table (cable_at cables p.cable)) (cable_at cables q.cable))
    (are_free cables (with_cable table (cable_at cables p.cable)) ps)
    (one (cable_at cables p.cable) refl (cable_at cables q.cable) refl others.0 frees.0)
    (free_after cables table p ps others.1 frees.1)
  where
    one : (a : Option Cable) → cable_at cables p.cable ≡ a → (b : Option Cable) → cable_at cables q.cable ≡ b
        → IsTrue (not (meet cables p q)) → IsTrue (is_free table b) → IsTrue (is_free (with_cable table a) b)
    one a ea None eb apart free = refl
    one None ea (Some c) eb apart free = free
    one (Some d) ea (Some c) eb apart free =
        let meets : meet cables p q ≡ overlaps d.range c.range = rw (ea, eb) refl in
        let away : overlaps d.range c.range ≡ false = sym meets ∙ not_is (meet cables p q) apart in
        rw (none_with (λ k. overlaps k.range c.range) (set_list d.range d.zones) table away
        (not_is (list_any (λ k. overlaps k.range c.range) table) free)) refl

-- The ports are valid, and the table accepts the lists of their cables.
abbrev pub Fit : List Cable → List Known → List Port → Type 0
Fit cables table ports =
    IsTrue (list_all (is_port cables) ports)
    × (IsTrue (list_all is_cable cables)
    × (IsTrue (are_apart cables ports) × (IsTrue (are_free cables table ports) × (length table + length ports ≤ 200))))

longer : (table : List Known) (c : Option Cable) → length (with_cable table c) ≤ length table + 1
longer table None = omega arith
longer table (Some c) = length_with (λ k. k.range) (set_list c.range c.zones) table

fits_after : (cables : List Cable) (table : List Known) (p : Port) (ps : List Port) → Fit cables table (p ∷ ps)
    → Fit cables (with_cable table (cable_at cables p.cable)) ps
fits_after cables table p ps h =
    let ports = and_parts (is_port cables p) (list_all (is_port cables) ps) h.0 in
    let apart = and_parts (list_all (λ q. not (meet cables p q)) ps) (are_apart cables ps) h.1.1.0 in
    let frees = and_parts (is_free table (cable_at cables p.cable)) (are_free cables table ps) h.1.1.1.0 in
    let more = longer table (cable_at cables p.cable) in
    let room = h.1.1.1.1 in
    (ports.1, (h.1.0, (apart.1, (free_after cables table p ps apart.0 frees.1, omega (arith, more, room)))))

others : {X : Type 0} (x : X) (xs : List X) → take (length (x ∷ xs) - 1) (drop 1 (x ∷ xs)) ≡ xs
others x xs = ap (λ n. take n xs) (omega arith) ∙ take_all (length xs) xs (omega arith)

pub fits_rest : (cables : List Cable) (table new : List Known) (ports : List Port) (d : Port) → 1 ≤ length ports → Fit cables table ports
    → d ≡ slice_index_or ports 0 d → new ≡ with_cable table (cable_at cables d.cable)
    → Fit cables new (take (length ports - 1) (drop 1 ports))
fits_rest cables table new [] d some h first is = absurd (omega (arith, some))
fits_rest cables table new (p ∷ ps) d some h first is =
    let same : new ≡ with_cable table (cable_at cables p.cable) =
    is ∙ ap (λ (q : Port). with_cable table (cable_at cables q.cable)) first in
    subst (Fit cables new) (sym (others p ps)) (subst (λ t. Fit cables t ps) (sym same) (fits_after cables table p ps h))

pub rest_shorter : {X : Type 0} (xs : List X) → 1 ≤ length xs → length (take (length xs - 1) (drop 1 xs)) < length xs
rest_shorter [] some = absurd (omega (arith, some))
rest_shorter (x ∷ xs) some = subst (λ l. length l < suc (length xs)) (sym (others x xs)) (omega arith)

-- ---- A table that accepts a list

pub at_index : {X : Type 0} (xs : List X) (i : ℕ) (x : X) → i < length xs → x ≡ slice_index_or xs i x → slice_get xs i ≡ Some x
at_index [] i x lt is = absurd (omega (arith, lt))
at_index (y ∷ ys) zero x lt is = ap Some (sym is)
at_index (y ∷ ys) (suc i) x lt is = at_index ys i x (omega (arith, lt)) is

pub all_index : {X : Type 0} (f : X → Bool) (xs : List X) (i : ℕ) (x : X) → i < length xs → x ≡ slice_index_or xs i x
    → IsTrue (list_all f xs) → IsTrue (f x)
all_index f [] i x lt is h = absurd (omega (arith, lt))
all_index f (y ∷ ys) zero x lt is h = subst (λ z. IsTrue (f z)) (sym is) (and_parts (f y) (list_all f ys) h).0
all_index f (y ∷ ys) (suc i) x lt is h = all_index f ys i x (omega (arith, lt)) is (and_parts (f y) (list_all f ys) h).1

-- The number of a port's cable is that of one of the cables.
pub port_there : (cables : List Cable) (p : Port) → IsTrue (is_port cables p) → p.cable - 1 < length cables
port_there cables p h =
    let number = and_parts (is_between 1 (length cables) p.cable) (may_try_on (cable_at cables p.cable) p.tries) h in
    let bounds = and_parts (nat_le 1 p.cable) (nat_le p.cable (length cables)) number.0 in
    let low = leb-true 1 p.cable bounds.0 in
    let high = leb-true p.cable (length cables) bounds.1 in
    omega (arith, low, high)

few_zones : (c : Cable) → IsTrue (is_cable c) → length c.zones ≤ max_zones
few_zones c h =
    let parts = and_parts (is_range c.range.start c.range.end) (is_between 1 max_zones (length c.zones)) h in
    leb-true (length c.zones) max_zones (and_parts (nat_le 1 (length c.zones)) (nat_le (length c.zones) max_zones) parts.1).1

-- Setting the list of a cable, of which the table has no network, can only fail because of memory.
pub set_for_memory : (r : Result (Unit {0}) Error) (c : Cable) (names : List (List ℕ)) (table : List Known)
    → IfErr r (λ e. (e ≡ BadRange) ⊎ (e ≡ Full) ⊎ (e ≡ Memory))
    → (r ≡ Err BadRange) ↔ (overlaps_another c.range table ≡ true)
    → (r ≡ Err Full) ↔ ((overlaps_another c.range table ≡ false) × ((max_zones < length names) ⊎ (is_full_for c.range table ≡ true)))
    → names ≡ c.zones → IsTrue (is_cable c) → IsTrue (is_free table (Some c)) → length table < 200 → IsOkUnless r Memory
set_for_memory (Ok u) c names table which range full same valid free room = tt
set_for_memory (Err e) c names table which range full same valid free room =
    let none = no_other (λ k. k.range) c.range table (not_is (list_any (λ k. overlaps k.range c.range) table) free) in
    let few = few_zones c valid in
    elim which [
      | inl b ↦ let other = range.0 (ap Err b) in absurd cc
      | inr (inl f) ↦
          elim (full.0 (ap Err f)).1 [
            | inl many ↦ let count = ap length same in absurd (omega (arith, many, count, few))
            | inr over ↦ elim (not_over c.range table room over) [ ]
          ]
      | inr (inr m) ↦ m
    ]
  where
    not_over : (range : Span) (t : List Known) → length t < 200 → is_full_for range t ≡ true → ⊥
    not_over range t room over =
        let parts = and_parts (not (is_some (known_for range t))) (nat_le 200 (length t)) over in
        let most = leb-true 200 (length t) parts.1 in
        absurd (omega (arith, most, room))

-- An empty table has no network of any cable.
pub all_free : (cables : List Cable) (ports : List Port) → IsTrue (are_free cables [] ports)
all_free cables [] = refl
all_free cables (p ∷ ps) =
    and_from (is_free [] (cable_at cables p.cable)) (are_free cables [] ps) (one (cable_at cables p.cable)) (all_free cables ps)
  where
    one : (c : Option Cable) → IsTrue (is_free [] c)
    one None = refl
    one (Some c) = refl

-- ---- Nodes before the first tick

-- The stations, followed by nodes as they are before the first tick.
abbrev pub WithNodes : List Cable → List Node → List (Member Living LivingNode) → List (Member Living LivingNode) → Type 0
WithNodes cables nodes before new = (lives : List LivingNode) × AreNodesBegun cables nodes lives × (new ≡ before ++ map member.Node lives)

pub node_then : (cables : List Cable) (nodes : List Node) (d : Node) (l : LivingNode) (before between new : List (Member Living LivingNode))
    → 1 ≤ length nodes → d ≡ slice_index_or nodes 0 d → IsNodeBegun cables d l → between ≡ before ++ member.Node l ∷ []
    → (r : Result (Unit {0}) Error) → OnOk r (WithNodes cables (take (length nodes - 1) (drop 1 nodes)) between new)
    → OnOk r (WithNodes cables nodes before new)
node_then cables nodes d l before between new some first begins pushed (Err e) h = tt
node_then cables [] d l before between new some first begins pushed (Ok u) h = absurd (omega (arith, some))
node_then cables (n ∷ ns) d l before between new some first begins pushed (Ok u) h = (
  l ∷ h.0,
  (subst (λ n. IsNodeBegun cables n l) first begins, subst (λ ns. AreNodesBegun cables ns h.0) (others n ns) h.1),
  h.2 ∙ ap (λ b. b ++ map member.Node h.0) pushed ∙ append_assoc before (member.Node l ∷ []) (map member.Node h.0),
)

-- ---- Ports

length-map : {X Y : Type 0} (f : X → Y) (xs : List X) → length (map f xs) ≡ length xs
length-map f [] = refl
length-map f (x ∷ xs) = ap suc (length-map f xs)

nodes_ports : (cables : List Cable) (ns : List Node) (ls : List LivingNode) → AreNodesBegun cables ns ls
    → map ports_of (map member.Node ls) ≡ map (λ n. 1) ns
nodes_ports cables [] [] h = refl
nodes_ports cables [] (l ∷ ls) h = elim h [ ]
nodes_ports cables (n ∷ ns) [] h = elim h [ ]
nodes_ports cables (n ∷ ns) (l ∷ ls) h = ap (λ ps. 1 ∷ ps) (nodes_ports cables ns ls h.1)

all_ports : (cables : List Cable) (rs : List Router) (ns : List Node) (ls : List LivingNode) → AreNodesBegun cables ns ls
    → map ports_of (map (λ r. member.Router (router_begun cables r)) rs ++ map member.Node ls)
    ≡ map (λ (r : Router). length r.port) rs ++ map (λ n. 1) ns
all_ports cables [] ns ls h = nodes_ports cables ns ls h
all_ports cables (r ∷ rs) ns ls h =
    ap (λ n. n ∷ map ports_of (map (λ r. member.Router (router_begun cables r)) rs ++ map member.Node ls))
    (length-map (port_begun cables) r.port)
    ∙ ap (λ ps. length r.port ∷ ps) (all_ports cables rs ns ls h)

-- The stations before the first tick have the ports of the plan.
pub begun_ports : (p : Planned) (ms : List (Member Living LivingNode)) → AreBegun p ms → map ports_of ms ≡ planned_ports p
begun_ports p ms h = ap (map ports_of) h.are ∙ all_ports p.cables p.routers p.nodes h.nodes h.each
