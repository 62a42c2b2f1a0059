-- An internet without its mappings passes the rules of the audit that don't look at mappings just as the internet does, and is settled
-- where it is.
use Rattle.std.proofs.Common.{◌≡◌, ℕ, zero, suc, Bool, true, false, ◌&&◌, ◌||◌, not, ◌==◌, if◌then◌else◌, cond, List, [], ◌∷◌, ◌++◌}
use Rattle.std.proofs.Common.{Option, Some, None, refl, sym, ap, ◌∙◌, slice_get, length, map, take, is_some, find, option_and_then, nat_lt}
use Rattle.std.proofs.Common.{option_map}
use Rattle.std.specs.List.{list_any}
use Rattle.at_base.specs.Address.{same_address}
use Rattle.at_base.specs.declared.address.Addr.{Addr}
use Rattle.at_base.specs.declared.address.Hw.{Hw}
use Rattle.at_base.specs.declared.error.Place.{Place}
use Rattle.at_base.specs.declared.error.Place.TheVariants as place
use Rattle.audit.specs.Places.{index_of, on}
use Rattle.audit.specs.Routing.{owner, router_of}
use Rattle.audit.specs.Rules.{Passes, bad_address, bad_direct, bad_node, bad_port, bad_service, bad_step, breaks_rows, c10, c2}
use Rattle.audit.specs.Rules.{c8, c9, cable_of, has_its_zone, is_false, is_no_other, lack_breaks, next_router, node_has}
use Rattle.audit.specs.Rules.{not_one_less, router_has, row_breaks, same_row}
use Rattle.audit.specs.declared.rule.Rule.{Rule}
use Rattle.audit.specs.declared.rule.Rule.TheVariants.{CablesInOrder, StationsAddressed, RowsCoverCables, DirectRowsDirect, DistancesFit}
use Rattle.audit.specs.declared.rule.Rule.TheVariants.{NextRoutersExist, DistancesFall, ZoneListsAgree, NodesServed, MappingsTrue}
use Rattle.rtmp.specs.States.{is_usable}
use Rattle.settled.specs.Offers.{is_nearer, is_nearer_offer, is_on, leaves_by, offers_nearer, same_range}
use Rattle.settled.specs.Settling.{IsSettled, changes, may_change}
use Rattle.table_image.specs.Internet.{Internet, internet}
use Rattle.table_image.specs.Rows.{is_direct}
use Rattle.table_image.specs.Seats.{Seat, node_seats, port_seat, router_seats, seats}
use Rattle.table_image.specs.declared.node.Node.{Node}
use Rattle.table_image.specs.declared.port.Port.{Port}
use Rattle.table_image.specs.declared.router.Router.{Router}
use Rattle.table_image.specs.declared.row.Row.{Row}
use Rattle.table_image.specs.declared.version.Version.TheVariants.{V1}

-- a port, a router and a node without mappings
abbrev pub port_alone : Port → Port
port_alone p = record { cable = p.cable; address = p.address; hardware = p.hardware; mappings = [] }

-- a router without them
abbrev pub router_alone : Router → Router
router_alone r = record { ports = map port_alone r.ports; rows = r.rows; lists = r.lists }

-- a node without them
abbrev pub node_alone : Node → Node
node_alone n = record {
  cable = n.cable;
  address = n.address;
  hardware = n.hardware;
  zone = n.zone;
  router = n.router;
  names = n.names;
  mappings = [];
}

-- an internet without mappings, which is one of version 1
abbrev pub mapless : Internet → Internet
mapless i = internet V1 i.cables (map router_alone i.routers) (map node_alone i.nodes)

-- ---- Lists whose elements were changed in what a test doesn't look at

-- whether an element passes
any_through : {X : Type 0} (f : X → X) (t u : X → Bool) → ((x : X) → t (f x) ≡ u x) → (xs : List X) → list_any t (map f xs) ≡ list_any u xs
any_through f t u h [] = refl
any_through f t u h (x ∷ xs) = ap (λ b. b || list_any t (map f xs)) (h x) ∙ ap (λ b. u x || b) (any_through f t u h xs)

-- the same of the first elements
any_of_first : {X : Type 0} (f : X → X) (t u : X → Bool) → ((x : X) → t (f x) ≡ u x) → (n : ℕ) (xs : List X)
    → list_any t (take n (map f xs)) ≡ list_any u (take n xs)
any_of_first f t u h zero [] = refl
any_of_first f t u h zero (x ∷ xs) = refl
any_of_first f t u h (suc n) [] = refl
any_of_first f t u h (suc n) (x ∷ xs) = ap (λ b. b || list_any t (take n (map f xs))) (h x) ∙ ap (λ b. u x || b) (any_of_first f t u h n xs)

-- and of an element at a place
on_through : {X : Type 0} (f : X → X) (t u : X → Bool) → ((x : X) → t (f x) ≡ u x) → (xs : List X) (k : ℕ)
    → on (slice_get (map f xs) k) t ≡ on (slice_get xs k) u
on_through f t u h [] k = refl
on_through f t u h (x ∷ xs) zero = h x
on_through f t u h (x ∷ xs) (suc k) = on_through f t u h xs k

-- and of what there may be
on_same : {X : Type 0} (o : Option X) (t u : X → Bool) → ((x : X) → t x ≡ u x) → on o t ≡ on o u
on_same None t u h = refl
on_same (Some x) t u h = h x

-- no element passes a test that none passes
on_never : {X : Type 0} (o : Option X) → on o (λ x. false) ≡ false
on_never None = refl
on_never (Some x) = refl

-- what comes of an element
then_through : {X Y : Type 0} (f : X → X) (g h : X → Option Y) → ((x : X) → g (f x) ≡ h x) → (xs : List X) (k : ℕ)
    → option_and_then g (slice_get (map f xs) k) ≡ option_and_then h (slice_get xs k)
then_through f g h e [] k = refl
then_through f g h e (x ∷ xs) zero = e x
then_through f g h e (x ∷ xs) (suc k) = then_through f g h e xs k

-- the place of the first element that passes
index_through : {X : Type 0} (f : X → X) (t u : X → Bool) → ((x : X) → t (f x) ≡ u x) → (xs : List X) → index_of t (map f xs) ≡ index_of u xs
index_through f t u h [] = refl
index_through f t u h (x ∷ xs) =
    ap (λ b. cond b (Some zero) (option_map suc (index_of t (map f xs)))) (h x)
    ∙ ap (λ o. cond (u x) (Some zero) (option_map suc o)) (index_through f t u h xs)

-- there are as many elements
map_count : {X : Type 0} (f : X → X) (xs : List X) → length (map f xs) ≡ length xs
map_count f [] = refl
map_count f (x ∷ xs) = ap suc (map_count f xs)

-- ---- Seats and owners

-- the seats of ports are the same
port_seats_alone : (r : ℕ) (ports : List Port) → map (port_seat r) (map port_alone ports) ≡ map (port_seat r) ports
port_seats_alone r [] = refl
port_seats_alone r (p ∷ ports) = ap (λ l. port_seat r p ∷ l) (port_seats_alone r ports)

-- those of routers
router_seats_alone : (n : ℕ) (xs : List Router) → router_seats n (map router_alone xs) ≡ router_seats n xs
router_seats_alone n [] = refl
router_seats_alone n (x ∷ xs) =
    ap (λ l. l ++ router_seats (suc n) (map router_alone xs)) (port_seats_alone n x.ports)
    ∙ ap (λ l. map (port_seat n) x.ports ++ l) (router_seats_alone (suc n) xs)

-- those of nodes
node_seats_alone : (n : ℕ) (xs : List Node) → node_seats n (map node_alone xs) ≡ node_seats n xs
node_seats_alone n [] = refl
node_seats_alone n (x ∷ xs) =
    ap (λ l. record { station = n; cable = x.cable; address = x.address; hardware = x.hardware } ∷ l) (node_seats_alone (suc n) xs)

-- the seats are the same
pub seats_alone : (i : Internet) → seats (mapless i) ≡ seats i
seats_alone i =
    ap (λ l. l ++ node_seats (length (map router_alone i.routers)) (map node_alone i.nodes)) (router_seats_alone zero i.routers)
    ∙ (ap (λ n. router_seats zero i.routers ++ node_seats n (map node_alone i.nodes)) (map_count router_alone i.routers)
    ∙ ap (λ l. router_seats zero i.routers ++ l) (node_seats_alone (length i.routers) i.nodes))

-- and so are the owners of addresses
owner_alone : (i : Internet) (c : ℕ) (a : Addr) → owner (mapless i) c a ≡ owner i c a
owner_alone i c a =
    ap (λ l. router_of (mapless i) (find (λ s. s.cable == c && same_address s.address a) l)) (seats_alone i)
    ∙ within (find (λ s. s.cable == c && same_address s.address a) (seats i))
  where
    within : (o : Option Seat) → router_of (mapless i) o ≡ router_of i o
    within None = refl
    within (Some s) = ap (λ n. cond (nat_lt s.station n) (Some s.station) None) (map_count router_alone i.routers)

-- ---- C2

-- whether a router has an address
router_has_alone : (a : Addr) (h : Hw) (r : Router) → router_has a h (router_alone r) ≡ router_has a h r
router_has_alone a h r = any_through port_alone _ _ (λ p. refl) r.ports

-- whether a port is bad
port_same : (i : Internet) (r p : ℕ) (router : Router) (port : Port)
    → bad_port (mapless i) r p (router_alone router) (port_alone port) ≡ bad_port i r p router port
port_same i r p router port =
    ap (λ b. bad_address i port.cable port.address port.hardware || b || list_any (λ (q : Port). q.cable == port.cable) (take p (map port_alone router.ports)))
    (any_of_first router_alone _ _ (router_has_alone port.address port.hardware) r i.routers)
    ∙ ap (λ b. bad_address i port.cable port.address port.hardware || list_any (router_has port.address port.hardware) (take r i.routers) || b)
    (any_of_first port_alone (λ (q : Port). q.cable == port.cable) (λ (q : Port). q.cable == port.cable) (λ q. refl) p router.ports)

-- whether a node is bad
node_same : (i : Internet) (k : ℕ) (node : Node) → bad_node (mapless i) k (node_alone node) ≡ bad_node i k node
node_same i k node =
    ap (λ b. bad_address i node.cable node.address node.hardware || b || list_any (node_has node.address node.hardware) (take k (map node_alone i.nodes)))
    (any_through router_alone _ _ (router_has_alone node.address node.hardware) i.routers)
    ∙ ap (λ b. bad_address i node.cable node.address node.hardware || list_any (router_has node.address node.hardware) i.routers || b)
    (any_of_first node_alone (node_has node.address node.hardware) (node_has node.address node.hardware) (λ q. refl) k i.nodes)

-- the rule
c2_alone : (i : Internet) (p : Place) → c2 (mapless i) p ≡ c2 i p
c2_alone i (place.Port zero p) = refl
c2_alone i (place.Port (suc r) zero) = refl
c2_alone i (place.Port (suc r) (suc p)) =
    on_through router_alone _ _ (λ router. on_through port_alone _ _ (λ port. port_same i r p router port) router.ports p) i.routers r
c2_alone i (place.Node zero) = refl
c2_alone i (place.Node (suc k)) = on_through node_alone _ _ (λ node. node_same i k node) i.nodes k
c2_alone i (place.Cable k) = refl
c2_alone i (place.Row r k) = refl
c2_alone i (place.Missing r k) = refl
c2_alone i (place.List r k) = refl

-- ---- C3 to C7

-- the next router of a row
next_alone : (i : Internet) (router : Router) (row : Row) → next_router (mapless i) (router_alone router) row ≡ next_router i router row
next_alone i router row = then_through port_alone _ _ (λ port. owner_alone i port.cable row.next) router.ports row.port

-- the row of another router with the same range
row_alone : (xs : List Router) (s : ℕ) (row : Row) → same_row (slice_get (map router_alone xs) s) row ≡ same_row (slice_get xs s) row
row_alone [] s row = refl
row_alone (x ∷ xs) zero row = refl
row_alone (x ∷ xs) (suc s) row = row_alone xs s row

-- whether the next router is one nearer
step_alone : (i : Internet) (row : Row) (o : Option ℕ) → bad_step (mapless i) row o ≡ bad_step i row o
step_alone i row None = refl
step_alone i row (Some s) = ap (not_one_less row) (row_alone i.routers s row)

-- whether a row breaks a rule
row_same : (rule : Rule) (i : Internet) (r : ℕ) (router : Router) (row : Row)
    → row_breaks rule (mapless i) r (router_alone router) row ≡ row_breaks rule i r router row
row_same CablesInOrder i r router row = refl
row_same StationsAddressed i r router row = refl
row_same RowsCoverCables i r router row = refl
row_same DirectRowsDirect i r router row =
    on_same (cable_of i row) _ _ (λ c. ap (bad_direct row) (index_through port_alone (λ (p : Port). p.cable == c) (λ (p : Port). p.cable == c) (λ p. refl) router.ports))
row_same DistancesFit i r router row = refl
row_same NextRoutersExist i r router row = ap (λ o. not (is_direct row) && is_no_other r o) (next_alone i router row)
row_same DistancesFall i r router row =
    ap (λ o. not (is_direct row) && bad_step (mapless i) row o) (next_alone i router row)
    ∙ ap (λ b. not (is_direct row) && b) (step_alone i row (next_router i router row))
row_same ZoneListsAgree i r router row = refl
row_same NodesServed i r router row = refl
row_same MappingsTrue i r router row = refl

-- whether a row that is lacking does
lack_same : (rule : Rule) (i : Internet) (r k : ℕ) → lack_breaks rule (mapless i) r k ≡ lack_breaks rule i r k
lack_same RowsCoverCables i zero k = refl
lack_same RowsCoverCables i (suc r) zero = refl
lack_same RowsCoverCables i (suc r) (suc k) = on_through router_alone _ _ (λ x. refl) i.routers r
lack_same CablesInOrder i r k = refl
lack_same StationsAddressed i r k = refl
lack_same DirectRowsDirect i r k = refl
lack_same DistancesFit i r k = refl
lack_same NextRoutersExist i r k = refl
lack_same DistancesFall i r k = refl
lack_same ZoneListsAgree i r k = refl
lack_same NodesServed i r k = refl
lack_same MappingsTrue i r k = refl

-- the rules
rows_alone : (rule : Rule) (i : Internet) (p : Place) → breaks_rows rule (mapless i) p ≡ breaks_rows rule i p
rows_alone rule i (place.Row zero k) = refl
rows_alone rule i (place.Row (suc r) zero) = refl
rows_alone rule i (place.Row (suc r) (suc k)) =
    on_through router_alone _ _ (λ router. on_same (slice_get router.rows k) _ _ (λ row. row_same rule i r router row)) i.routers r
rows_alone rule i (place.Missing r k) = lack_same rule i r k
rows_alone rule i (place.Cable k) = refl
rows_alone rule i (place.Port r p) = refl
rows_alone rule i (place.Node k) = refl
rows_alone rule i (place.List r k) = refl

-- ---- C8 and C9

-- zone lists
c8_alone : (i : Internet) (p : Place) → c8 (mapless i) p ≡ c8 i p
c8_alone i (place.List zero k) = refl
c8_alone i (place.List (suc r) zero) = refl
c8_alone i (place.List (suc r) (suc k)) = on_through router_alone _ _ (λ x. refl) i.routers r
c8_alone i (place.Missing zero k) = refl
c8_alone i (place.Missing (suc r) zero) = refl
c8_alone i (place.Missing (suc r) (suc k)) = on_through router_alone _ _ (λ x. refl) i.routers r
c8_alone i (place.Cable k) = refl
c8_alone i (place.Port r p) = refl
c8_alone i (place.Node k) = refl
c8_alone i (place.Row r k) = refl

-- whether a node is badly served
service_same : (i : Internet) (node : Node) → bad_service (mapless i) (node_alone node) ≡ bad_service i node
service_same i node =
    ap (λ b. b || not (has_its_zone i node)) (on_same node.router _ _ (λ a. ap (λ o. not (is_some o)) (owner_alone i node.cable a)))

-- nodes
c9_alone : (i : Internet) (p : Place) → c9 (mapless i) p ≡ c9 i p
c9_alone i (place.Node zero) = refl
c9_alone i (place.Node (suc k)) = on_through node_alone _ _ (service_same i) i.nodes k
c9_alone i (place.Cable k) = refl
c9_alone i (place.Port r p) = refl
c9_alone i (place.Row r k) = refl
c9_alone i (place.Missing r k) = refl
c9_alone i (place.List r k) = refl

-- ---- C10

-- no mapping is false where there is none
c10_alone : (i : Internet) (p : Place) → c10 (mapless i) p ≡ false
c10_alone i (place.Port zero p) = refl
c10_alone i (place.Port (suc r) zero) = refl
c10_alone i (place.Port (suc r) (suc p)) =
    on_through router_alone _ (λ router. false)
    (λ router. on_through port_alone (λ (port : Port). list_any (is_false (mapless i) port.cable) port.mappings) (λ port. false) (λ port. refl) router.ports p
    ∙ on_never (slice_get router.ports p)) i.routers r
    ∙ on_never (slice_get i.routers r)
c10_alone i (place.Node zero) = refl
c10_alone i (place.Node (suc k)) =
    on_through node_alone (λ (node : Node). list_any (is_false (mapless i) node.cable) node.mappings) (λ node. false) (λ node. refl) i.nodes k
    ∙ on_never (slice_get i.nodes k)
c10_alone i (place.Cable k) = refl
c10_alone i (place.Row r k) = refl
c10_alone i (place.Missing r k) = refl
c10_alone i (place.List r k) = refl

-- ---- All rules

-- neither of two is true
pick : (b : Bool) (x y : Bool) → x ≡ false → y ≡ false → (if b then x else y) ≡ false
pick true x y e f = e
pick false x y e f = f

-- without its mappings an internet that passes does so
pub passes_alone : (i : Internet) → Passes i → Passes (mapless i)
passes_alone i ok rule p =
    pick (rule == 1) _ _ (ok 1 p) (pick (rule == 2) _ _ (c2_alone i p ∙ ok 2 p) (pick (rule == 3) _ _ (rows_alone RowsCoverCables i p ∙ ok 3 p)
    (pick (rule == 4) _ _ (rows_alone DirectRowsDirect i p ∙ ok 4 p) (pick (rule == 5) _ _ (rows_alone DistancesFit i p ∙ ok 5 p)
    (pick (rule == 6) _ _ (rows_alone NextRoutersExist i p ∙ ok 6 p) (pick (rule == 7) _ _ (rows_alone DistancesFall i p ∙ ok 7 p)
    (pick (rule == 8) _ _ (c8_alone i p ∙ ok 8 p) (pick (rule == 9) _ _ (c9_alone i p ∙ ok 9 p) (pick (rule == 10) _ _ (c10_alone i p) refl)))))))))

-- and where it does so without them, and its mappings are true, it passes
pub passes_with : (i : Internet) → Passes (mapless i) → ((p : Place) → c10 i p ≡ false) → Passes i
passes_with i ok mapped rule p =
    pick (rule == 1) _ _ (ok 1 p) (pick (rule == 2) _ _ (sym (c2_alone i p) ∙ ok 2 p) (pick (rule == 3) _ _ (sym (rows_alone RowsCoverCables i p) ∙ ok 3 p)
    (pick (rule == 4) _ _ (sym (rows_alone DirectRowsDirect i p) ∙ ok 4 p) (pick (rule == 5) _ _ (sym (rows_alone DistancesFit i p) ∙ ok 5 p)
    (pick (rule == 6) _ _ (sym (rows_alone NextRoutersExist i p) ∙ ok 6 p) (pick (rule == 7) _ _ (sym (rows_alone DistancesFall i p) ∙ ok 7 p)
    (pick (rule == 8) _ _ (sym (c8_alone i p) ∙ ok 8 p) (pick (rule == 9) _ _ (sym (c9_alone i p) ∙ ok 9 p) (pick (rule == 10) _ _ (mapped p) refl)))))))))

-- ---- Settled internets

-- whether a row leaves by a cable
leaves_alone : (cable : ℕ) (router : Router) (row : Row) → leaves_by cable (router_alone router) row ≡ leaves_by cable router row
leaves_alone cable router row = on_through port_alone _ _ (λ p. refl) router.ports row.port

-- whether a router offers a range nearer
offers_alone : (cable : ℕ) (row : Row) (router : Router) → offers_nearer cable row (router_alone router) ≡ offers_nearer cable row router
offers_alone cable row router =
    ap (λ b. b && list_any (is_nearer_offer cable row (router_alone router)) router.rows)
    (any_through port_alone (λ (p : Port). p.cable == cable) (λ (p : Port). p.cable == cable) (λ p. refl) router.ports)
    ∙ ap (λ b. is_on cable router && b) (rows router.rows)
  where
    rows : (xs : List Row) → list_any (is_nearer_offer cable row (router_alone router)) xs ≡ list_any (is_nearer_offer cable row router) xs
    rows [] = refl
    rows (x ∷ xs) =
        ap (λ b. (((same_range x row && is_usable x.state) && not b) && is_nearer row x)
        || list_any (is_nearer_offer cable row (router_alone router)) xs) (leaves_alone cable router x)
        ∙ ap (λ b. is_nearer_offer cable row router x || b) (rows xs)

-- whether a row may change
change_alone : (i : Internet) (router : Router) (row : Row) → may_change (mapless i) (router_alone router) row ≡ may_change i router row
change_alone i router row =
    ap (λ b. not (is_usable row.state) || (not (is_direct row) && b))
    (any_through port_alone (λ (port : Port). list_any (offers_nearer port.cable row) (map router_alone i.routers))
    (λ (port : Port). list_any (offers_nearer port.cable row) i.routers)
    (λ port. any_through router_alone _ _ (λ s. offers_alone port.cable row s) i.routers) router.ports)

-- whether a place may change
changes_alone : (i : Internet) (p : Place) → changes (mapless i) p ≡ changes i p
changes_alone i (place.Row zero k) = refl
changes_alone i (place.Row (suc r) zero) = refl
changes_alone i (place.Row (suc r) (suc k)) =
    on_through router_alone _ _ (λ router. on_same (slice_get router.rows k) _ _ (λ row. change_alone i router row)) i.routers r
changes_alone i (place.Missing r k) = refl
changes_alone i (place.Cable k) = refl
changes_alone i (place.Port r p) = refl
changes_alone i (place.Node k) = refl
changes_alone i (place.List r k) = refl

-- an internet is settled if and only if it is so without its mappings
pub settled_alone : (i : Internet) → IsSettled i → IsSettled (mapless i)
settled_alone i s p = changes_alone i p ∙ s p

-- and so the other way round
pub settled_with : (i : Internet) → IsSettled (mapless i) → IsSettled i
settled_with i s p = sym (changes_alone i p) ∙ s p
