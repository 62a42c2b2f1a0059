-- The rules of the audit that don't look at rows: they hold of an internet as of one like it without its rows.
use Rattle.std.proofs.Common.{◌≡◌, ℕ, zero, suc, Bool, ◌&&◌, ◌||◌, not, ◌==◌, List, [], ◌∷◌, ◌++◌, Option, Some, None, length, map, take}
use Rattle.std.proofs.Common.{refl, ap, ◌∙◌, slice_get, is_some, find, cond, nat_lt}
use Rattle.std.specs.List.{list_any}
use Rattle.at_base.specs.Address.{same_address}
use Rattle.at_base.specs.declared.address.Addr.{Addr}
use Rattle.at_base.specs.declared.error.Place.{Place}
use Rattle.at_base.specs.declared.error.Place.TheVariants as place
use Rattle.audit.specs.Places.{on}
use Rattle.audit.specs.Routing.{owner, router_of}
use Rattle.audit.specs.Rules.{c2, c8, c9, c10, bad_address, bad_port, router_has, node_has, has_its_zone}
use Rattle.audit.specs.Rules.{is_mapped, is_false, c1}
use Rattle.audit.specs.ZoneLists.{bad_list, lacks_list}
use Rattle.table_image.specs.Internet.{Internet}
use Rattle.table_image.specs.Seats.{Seat, seats, router_seats, node_seats, port_seat}
use Rattle.table_image.specs.declared.mapping.Mapping.{Mapping}
use Rattle.table_image.specs.declared.router.Router.{Router}

-- a router without its rows, and an internet without the rows of its routers
abbrev pub bare : Router → Router
bare router = record { ports = router.ports; rows = []; lists = router.lists }

abbrev pub bared : Internet → Internet
bared i = record { version = i.version; cables = i.cables; routers = map bare i.routers; nodes = i.nodes }

-- ---- lists whose elements were changed in what a test doesn't look at

any_same : {X : Type 0} (t u : X → Bool) (xs : List X) → ((x : X) → t x ≡ u x) → list_any t xs ≡ list_any u xs
any_same t u [] h = refl
any_same t u (x ∷ xs) h = ap (λ b. b || list_any t xs) (h x) ∙ ap (λ b. u x || b) (any_same t u xs h)

any_through : {X : Type 0} (f : X → X) (t : X → Bool) → ((x : X) → t (f x) ≡ t x) → (xs : List X) → list_any t (map f xs) ≡ list_any t xs
any_through f t h [] = refl
any_through f t h (x ∷ xs) = ap (λ b. b || list_any t (map f xs)) (h x) ∙ ap (λ b. t x || b) (any_through f t h xs)

any_of_first : {X : Type 0} (f : X → X) (t : X → Bool) → ((x : X) → t (f x) ≡ t x) → (n : ℕ) (xs : List X)
    → list_any t (take n (map f xs)) ≡ list_any t (take n xs)
any_of_first f t h zero [] = refl
any_of_first f t h zero (x ∷ xs) = refl
any_of_first f t h (suc n) [] = refl
any_of_first f t h (suc n) (x ∷ xs) = ap (λ b. b || list_any t (take n (map f xs))) (h x) ∙ ap (λ b. t x || b) (any_of_first f t h n xs)

on_same : {X : Type 0} (o : Option X) (t u : X → Bool) → ((x : X) → t x ≡ u x) → on o t ≡ on o u
on_same None t u h = refl
on_same (Some x) t u h = h x

on_through : {X : Type 0} (f : X → X) (t : X → Bool) → ((x : X) → t (f x) ≡ t x) → (xs : List X) (k : ℕ)
    → on (slice_get (map f xs) k) t ≡ on (slice_get xs k) t
on_through f t h [] k = refl
on_through f t h (x ∷ xs) zero = h x
on_through f t h (x ∷ xs) (suc k) = on_through f t h xs k

map_count : {X : Type 0} (f : X → X) (xs : List X) → length (map f xs) ≡ length xs
map_count f [] = refl
map_count f (x ∷ xs) = ap suc (map_count f xs)

-- ---- seats and owners

seats_through : (n : ℕ) (xs : List Router) → router_seats n (map bare xs) ≡ router_seats n xs
seats_through n [] = refl
seats_through n (x ∷ xs) = ap (λ l. map (port_seat n) x.ports ++ l) (seats_through (suc n) xs)

pub seats_bare : (i : Internet) → seats (bared i) ≡ seats i
seats_bare i =
    ap (λ l. l ++ node_seats (length (map bare i.routers)) i.nodes) (seats_through zero i.routers)
    ∙ ap (λ n. router_seats zero i.routers ++ node_seats n i.nodes) (map_count bare i.routers)

pub owner_bare : (i : Internet) (c : ℕ) (a : Addr) → owner (bared i) c a ≡ owner i c a
owner_bare i c a =
    ap (λ l. router_of (bared i) (find (λ s. s.cable == c && same_address s.address a) l)) (seats_bare i)
    ∙ within (find (λ s. s.cable == c && same_address s.address a) (seats i))
  where
    within : (o : Option Seat) → router_of (bared i) o ≡ router_of i o
    within None = refl
    within (Some s) = ap (λ n. cond (nat_lt s.station n) (Some s.station) None) (map_count bare i.routers)

-- ---- the rules

pub c1_bare : (i : Internet) (p : Place) → c1 (bared i) p ≡ c1 i p
c1_bare i p = refl

pub c2_bare : (i : Internet) (p : Place) → c2 (bared i) p ≡ c2 i p
c2_bare i (place.Port zero p) = refl
c2_bare i (place.Port (suc r) zero) = refl
c2_bare i (place.Port (suc r) (suc p)) =
    on_through bare (λ router. on (slice_get router.ports p) (bad_port (bared i) r p router)) (λ x. refl) i.routers r
    ∙ on_same (slice_get i.routers r) _ _ (λ router.
    on_same (slice_get router.ports p) _ _ (λ port.
    ap (λ b. bad_address i port.cable port.address port.hardware || b || list_any (λ q. q.cable == port.cable) (take p router.ports))
    (any_of_first bare (router_has port.address port.hardware) (λ x. refl) r i.routers)))
c2_bare i (place.Node zero) = refl
c2_bare i (place.Node (suc k)) =
    on_same (slice_get i.nodes k) _ _ (λ node.
    ap (λ b. bad_address i node.cable node.address node.hardware || b || list_any (node_has node.address node.hardware) (take k i.nodes))
    (any_through bare (router_has node.address node.hardware) (λ x. refl) i.routers))
c2_bare i (place.Cable k) = refl
c2_bare i (place.Row r k) = refl
c2_bare i (place.Missing r k) = refl
c2_bare i (place.List r k) = refl

pub c8_bare : (i : Internet) (p : Place) → c8 (bared i) p ≡ c8 i p
c8_bare i (place.List zero k) = refl
c8_bare i (place.List (suc r) zero) = refl
c8_bare i (place.List (suc r) (suc k)) =
    on_through bare (λ router. on (slice_get router.lists k) (bad_list i)) (λ x. refl) i.routers r
c8_bare i (place.Missing zero k) = refl
c8_bare i (place.Missing (suc r) zero) = refl
c8_bare i (place.Missing (suc r) (suc k)) =
    on_through bare (λ router. on (slice_get i.cables k) (lacks_list router)) (λ x. refl) i.routers r
c8_bare i (place.Cable k) = refl
c8_bare i (place.Port r p) = refl
c8_bare i (place.Node k) = refl
c8_bare i (place.Row r k) = refl

pub c9_bare : (i : Internet) (p : Place) → c9 (bared i) p ≡ c9 i p
c9_bare i (place.Node zero) = refl
c9_bare i (place.Node (suc k)) =
    on_same (slice_get i.nodes k) _ _ (λ node.
    ap (λ b. b || not (has_its_zone i node)) (on_same node.router _ _ (λ a. ap (λ o. not (is_some o)) (owner_bare i node.cable a))))
c9_bare i (place.Cable k) = refl
c9_bare i (place.Port r p) = refl
c9_bare i (place.Row r k) = refl
c9_bare i (place.Missing r k) = refl
c9_bare i (place.List r k) = refl

pub c10_bare : (i : Internet) (p : Place) → c10 (bared i) p ≡ c10 i p
c10_bare i (place.Port zero p) = refl
c10_bare i (place.Port (suc r) zero) = refl
c10_bare i (place.Port (suc r) (suc p)) =
    on_through bare (λ router. on (slice_get router.ports p) (λ port. list_any (is_false (bared i) port.cable) port.mappings)) (λ x. refl) i.routers r
    ∙ on_same (slice_get i.routers r) _ _ (λ router.
    on_same (slice_get router.ports p) _ _ (λ port. any_same _ _ port.mappings (false_bare port.cable)))
  where
    false_bare : (cable : ℕ) (m : Mapping) → is_false (bared i) cable m ≡ is_false i cable m
    false_bare cable m = ap (λ l. not (list_any (is_mapped cable m) l)) (seats_bare i)
c10_bare i (place.Node zero) = refl
c10_bare i (place.Node (suc k)) =
    on_same (slice_get i.nodes k) _ _ (λ node. any_same _ _ node.mappings (λ m.
    ap (λ l. not (list_any (is_mapped node.cable m) l)) (seats_bare i)))
c10_bare i (place.Cable k) = refl
c10_bare i (place.Row r k) = refl
c10_bare i (place.Missing r k) = refl
c10_bare i (place.List r k) = refl
