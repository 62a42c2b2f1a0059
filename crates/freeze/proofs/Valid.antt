-- The contents of the stations of a sound plan are a valid image.
use Rattle.std.proofs.Common.{◌≡◌, ℕ, zero, suc, ◌+◌, ◌-◌, ◌≤◌, Bool, true, false, ◌&&◌, ◌||◌, IsTrue, List, [], ◌∷◌, ◌++◌, length, map}
use Rattle.std.proofs.Common.{nat_le, nat_lt, refl, ap, arith, subst, lt-ltb, true≢false, drop, slice_get, slice_index_or, take, IfSome}
use Rattle.std.specs.List.{list_all, list_any}
use Rattle.std.proofs.lemmas.Bool.{and_parts, and_from, leb-true}
use Rattle.aarp.specs.Mapping.{Mappings}
use Rattle.at_base.specs.Range.{is_between}
use Rattle.at_base.specs.Grammar.{one}
use Rattle.freeze.proofs.Eaches.{others}
use Rattle.freeze.specs.Frozen.{cables_by, frozen_nodes, frozen_routers, has_long_list}
use Rattle.freeze.specs.Valid.{AreFew, AreRouters, HavePorts, IsNotInV1, is_node_on, is_on}
use Rattle.station.specs.declared.member.Member.{Member}
use Rattle.station.specs.declared.member.Member.TheVariants as member
use Rattle.internet_file.specs.Sound.{is_node, is_port, is_router, is_seated, may_try_on}
use Rattle.internet_file.specs.Stations.{are_apart, cable_at}
use Rattle.internet_file.specs.declared.cable.Cable.{Cable}
use Rattle.internet_file.specs.declared.node.Node.{Node}
use Rattle.internet_file.specs.declared.port.Port.{Port}
use Rattle.internet_file.specs.declared.router.Router.{Router}
use Rattle.at_base.specs.declared.address.Addr.{Addr}
use Rattle.live_node.specs.Living.{LivingNode}
use Rattle.live_router.specs.Living.{Living}
use Rattle.planned_stations.specs.Planning.{ports_of}
use Rattle.at_base.specs.Limits.{max_mappings}
use Rattle.table_image.specs.declared.router.Router.{Router as ImageRouter}
use Rattle.table_image.specs.declared.version.Version.{Version}
use Rattle.table_image.specs.declared.version.Version.TheVariants.{V1, V2}

-- ---- Ports and cables

pub length-map : {X Y : Type 0} (f : X → Y) (xs : List X) → length (map f xs) ≡ length xs
length-map f [] = refl
length-map f (x ∷ xs) = ap suc (length-map f xs)

-- The cables of a router's ports are among `count` cables.
pub cables_on : (count : ℕ) (r : Router) → IsTrue (is_on count r) → IsTrue (list_all (λ c. nat_lt c count) (cables_by r))
cables_on count r h = by r.port h
  where
    by : (ps : List Port) → IsTrue (list_all (λ p. nat_lt (p.cable - 1) count) ps)
        → IsTrue (list_all (λ c. nat_lt c count) (map (λ p. p.cable - 1) ps))
    by [] h = refl
    by (p ∷ ps) h =
        let parts = and_parts (nat_lt (p.cable - 1) count) (list_all (λ p. nat_lt (p.cable - 1) count) ps) h in
        and_from (nat_lt (p.cable - 1) count) (list_all (λ c. nat_lt c count) (map (λ p. p.cable - 1) ps)) parts.0
        (by ps parts.1)

-- ---- Sound plans

-- A cable that stations may be on is one of the cables.
on_one : (cables : List Cable) (k : ℕ) (tries : List Addr) → IsTrue (is_seated cables k tries)
    → IsTrue (nat_lt (k - 1) (length cables))
on_one cables k tries h =
    let number = and_parts (is_between 1 (length cables) k) (may_try_on (cable_at cables k) tries) h in
    let bounds = and_parts (nat_le 1 k) (nat_le k (length cables)) number.0 in
    let low = leb-true 1 k bounds.0 in
    let high = leb-true k (length cables) bounds.1 in
    lt-ltb (k - 1) (length cables) (omega (arith, low, high))

ports_on : (cables : List Cable) (ps : List Port) → IsTrue (list_all (is_port cables) ps)
    → IsTrue (list_all (λ p. nat_lt (p.cable - 1) (length cables)) ps)
ports_on cables [] h = refl
ports_on cables (p ∷ ps) h =
    let parts = and_parts (is_port cables p) (list_all (is_port cables) ps) h in
    and_from (nat_lt (p.cable - 1) (length cables)) (list_all (λ p. nat_lt (p.cable - 1) (length cables)) ps)
    (on_one cables p.cable p.tries parts.0) (ports_on cables ps parts.1)

-- A router of a plan is on its cables.
pub one_on : (cables : List Cable) (r : Router) → IsTrue (is_router cables r) → IsTrue (is_on (length cables) r)
one_on cables r h =
    let whole = and_parts (is_between 1 16 (length r.port) && list_all (is_port cables) r.port) (are_apart cables r.port) h in
    let ports = and_parts (is_between 1 16 (length r.port)) (list_all (is_port cables) r.port) whole.0 in
    ports_on cables r.port ports.1

pub routers_on : (cables : List Cable) (rs : List Router) → IsTrue (list_all (is_router cables) rs)
    → IsTrue (list_all (is_on (length cables)) rs)
routers_on cables [] h = refl
routers_on cables (r ∷ rs) h =
    let parts = and_parts (is_router cables r) (list_all (is_router cables) rs) h in
    and_from (is_on (length cables) r) (list_all (is_on (length cables)) rs) (one_on cables r parts.0)
    (routers_on cables rs parts.1)

pub nodes_on : (cables : List Cable) (ns : List Node) → IsTrue (list_all (is_node cables) ns)
    → IsTrue (list_all (is_node_on (length cables)) ns)
nodes_on cables [] h = refl
nodes_on cables (n ∷ ns) h =
    let parts = and_parts (is_node cables n) (list_all (is_node cables) ns) h in
    and_from (is_node_on (length cables) n) (list_all (is_node_on (length cables)) ns) (on_one cables n.cable n.tries parts.0)
    (nodes_on cables ns parts.1)

-- ---- Stations

-- Stations with the planned ports start with the routers.
pub have_ports : (rs : List Router) (more : List ℕ) (ms : List (Member Living LivingNode))
    → map ports_of ms ≡ map (λ r. length r.port) rs ++ more → HavePorts rs ms
have_ports [] more ms e = tt
have_ports (r ∷ rs) more [] e = tt
have_ports (r ∷ rs) more (m ∷ ms) e = (cc, have_ports rs more ms cc)

pub few_routers : (v : Version) (rs : List Router) (ms : List (Member Living LivingNode)) (seats : List Mappings)
    → length (frozen_routers v rs ms seats) ≤ length rs
few_routers v [] ms seats = omega arith
few_routers v (r ∷ rs) [] seats = omega arith
few_routers v (r ∷ rs) (member.Router l ∷ ms) seats =
    let rest = few_routers v rs ms (drop (length r.port) seats) in omega (arith, rest)
few_routers v (r ∷ rs) (member.Node n ∷ ms) seats =
    let rest = few_routers v rs ms (drop (length r.port) seats) in omega (arith, rest)

pub few_nodes : (v : Version) (ns : List Node) (ms : List (Member Living LivingNode)) (seats : List Mappings)
    → length (frozen_nodes v ns ms seats) ≤ length ns
few_nodes v [] ms seats = omega arith
few_nodes v (n ∷ ns) [] seats = omega arith
few_nodes v (n ∷ ns) (member.Node l ∷ ms) seats = let rest = few_nodes v ns ms (drop 1 seats) in omega (arith, rest)
few_nodes v (n ∷ ns) (member.Router r ∷ ms) seats = let rest = few_nodes v ns ms (drop 1 seats) in omega (arith, rest)

-- ---- Seats

pub few_after : (n : ℕ) (seats : List Mappings) → AreFew seats → AreFew (drop n seats)
few_after zero seats few = few
few_after (suc n) [] few = tt
few_after (suc n) (m ∷ seats) few = few_after n seats few.1

pub few_at_first : (seats : List Mappings) → AreFew seats → IfSome (slice_get seats 0) (λ m. length m.known ≤ max_mappings)
few_at_first [] few = tt
few_at_first (m ∷ seats) few = few.0

-- ---- Versions

-- What isn't so of two things in version 1 isn't so of either.
pub neither_in : (v : Version) (a b : Bool) → IsNotInV1 v (a || b) → IsNotInV1 v a × IsNotInV1 v b
neither_in V1 true b not_so = absurd (true≢false not_so)
neither_in V1 false b not_so = (refl, not_so)
neither_in V2 a b not_so = (tt, tt)

-- ---- Routers, one after the other

-- If the routers before were valid, those after are, for stations that have the ports of the plan and that the version
-- can hold.
abbrev pub StayValid : Version → List Router → List (Member Living LivingNode) → List Mappings → List ImageRouter
    → List ImageRouter → Type 0
StayValid v rs ms seats old new = (count : ℕ) → IsTrue (list_all (is_on count) rs) → HavePorts rs ms
    → IsNotInV1 v (list_any has_long_list ms) → AreFew seats → AreRouters v count old → AreRouters v count new

-- The same of one router.
abbrev pub StaysValid : Version → Router → Member Living LivingNode → List Mappings → List ImageRouter → List ImageRouter → Type 0
StaysValid v r m seats old new = (count : ℕ) → IsTrue (is_on count r) → ports_of m ≡ length r.port
    → IsNotInV1 v (has_long_list m) → AreFew seats → AreRouters v count old → AreRouters v count new

pub one_by_one : (v : Version) (rs : List Router) (r : Router) (ms : List (Member Living LivingNode)) (m : Member Living LivingNode)
    (seats more : List Mappings) (old mid new : List ImageRouter) → 1 ≤ length rs → r ≡ slice_index_or rs 0 r → 1 ≤ length ms
    → m ≡ slice_index_or ms 0 m → (AreFew seats → AreFew more) → StaysValid v r m seats old mid
    → StayValid v (take (length rs - 1) (drop 1 rs)) (take (length ms - 1) (drop 1 ms)) more mid new → StayValid v rs ms seats old new
one_by_one v [] r ms m seats more old mid new some is any is_m few first rest = absurd (omega (arith, some))
one_by_one v (x ∷ xs) r [] m seats more old mid new some is any is_m few first rest = absurd (omega (arith, any))
one_by_one v (x ∷ xs) r (y ∷ ys) m seats more old mid new some is any is_m few first rest = λ count on ports short full values.
    let here = subst (λ q. StaysValid v q y seats old mid) is (subst (λ q. StaysValid v r q seats old mid) is_m first) in
    let there = subst (λ q. StayValid v q ys more mid new) (others x xs)
    (subst (λ q. StayValid v (take (length (x ∷ xs) - 1) (drop 1 (x ∷ xs))) q more mid new) (others y ys) rest) in
    let each = and_parts (is_on count x) (list_all (is_on count) xs) on in
    let neither = neither_in v (has_long_list y) (list_any has_long_list ys) short in
    there count each.1 ports.1 neither.1 (few full) (here count each.0 ports.0 neither.0 full values)

-- A number that equals another is within its bounds.
pub less : {a b c d : ℕ} → a ≡ b → b ≤ c → c ≤ d → a ≤ d
less {a} {b} {c} {d} e f g = omega (arith, e, f, g)
