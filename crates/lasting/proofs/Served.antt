-- An internet whose nodes have other routers, each a router's port on the node's cable, passes as before.
use Rattle.std.proofs.Common.{◌≡◌, ℕ, zero, suc, Bool, true, false, ◌&&◌, ◌||◌, not, ◌==◌, if◌then◌else◌, List, [], ◌∷◌, ◌++◌, Option, Some, None}
use Rattle.std.proofs.Common.{refl, sym, ap, ◌∙◌, slice_get, length, map, take, is_some, find, option_and_then, arith}
use Rattle.std.specs.List.{list_any}
use Rattle.std.proofs.lemmas.Bool.{or_parts}
use Rattle.at_base.specs.Address.{same_address}
use Rattle.at_base.specs.Text.{same_name}
use Rattle.at_base.specs.declared.address.Addr.{Addr}
use Rattle.at_base.specs.declared.error.Place.{Place}
use Rattle.at_base.specs.declared.error.Place.TheVariants as place
use Rattle.audit.proofs.WalkLists.{At, at_below, at_within}
use Rattle.audit.specs.Places.{on}
use Rattle.audit.specs.Routing.{owner, router_of}
use Rattle.audit.specs.Rules.{Passes, bad_address, bad_service, bad_step, c10, c2, c6, c7, c9, has_its_zone, is_false, is_mapped, is_no_other, next_router, node_has, router_has}
use Rattle.lasting.specs.Resting.{IsSameNode}
use Rattle.table_image.specs.Internet.{Internet}
use Rattle.table_image.specs.Rows.{is_direct}
use Rattle.table_image.specs.Seats.{node_seats, router_seats, seats}
use Rattle.table_image.specs.declared.node.Node.{Node}
use Rattle.table_image.specs.declared.port.Port.{Port}
use Rattle.table_image.specs.declared.router.Router.{Router}
use Rattle.table_image.specs.declared.row.Row.{Row}

-- a node without its router, and an internet without those of its nodes
abbrev bare : Node → Node
bare n = record n { router = None }

abbrev unserved : Internet → Internet
unserved i = record { version = i.version; cables = i.cables; routers = i.routers; nodes = map bare i.nodes }

-- ---- lists whose elements were changed in what a test doesn't look at

any_same : {X : Type 0} (t u : X → Bool) (xs : List X) → ((x : X) → t x ≡ u x) → list_any t xs ≡ list_any u xs
any_same t u [] h = refl
any_same t u (x ∷ xs) h = ap (λ b. b || list_any t xs) (h x) ∙ ap (λ b. u x || b) (any_same t u xs h)

any_of_first : (t : Node → Bool) → ((x : Node) → t (bare x) ≡ t x) → (n : ℕ) (xs : List Node)
    → list_any t (take n (map bare xs)) ≡ list_any t (take n xs)
any_of_first t h zero [] = refl
any_of_first t h zero (x ∷ xs) = refl
any_of_first t h (suc n) [] = refl
any_of_first t h (suc n) (x ∷ xs) = ap (λ b. b || list_any t (take n (map bare xs))) (h x) ∙ ap (λ b. t x || b) (any_of_first t h n xs)

on_same : {X : Type 0} (o : Option X) (t u : X → Bool) → ((x : X) → t x ≡ u x) → on o t ≡ on o u
on_same None t u h = refl
on_same (Some x) t u h = h x

on_through : (t : Node → Bool) → ((x : Node) → t (bare x) ≡ t x) → (xs : List Node) (k : ℕ) → on (slice_get (map bare xs) k) t ≡ on (slice_get xs k) t
on_through t h [] k = refl
on_through t h (x ∷ xs) zero = h x
on_through t h (x ∷ xs) (suc k) = on_through t h xs k

seats_through : (n : ℕ) (xs : List Node) → node_seats n (map bare xs) ≡ node_seats n xs
seats_through n [] = refl
seats_through n (x ∷ xs) = ap (λ l. record { station = n; cable = x.cable; address = x.address; hardware = x.hardware } ∷ l) (seats_through (suc n) xs)

seats_bare : (i : Internet) → seats (unserved i) ≡ seats i
seats_bare i = ap (λ l. router_seats 0 i.routers ++ l) (seats_through (length i.routers) i.nodes)

owner_bare : (i : Internet) (c : ℕ) (a : Addr) → owner (unserved i) c a ≡ owner i c a
owner_bare i c a = ap (λ l. router_of i (find (λ s. s.cable == c && same_address s.address a) l)) (seats_bare i)

next_bare : (i : Internet) (router : Router) (row : Row) → next_router (unserved i) router row ≡ next_router i router row
next_bare i router row = by (slice_get router.ports row.port)
  where
    by : (o : Option Port) → option_and_then (λ (p : Port). owner (unserved i) p.cable row.next) o ≡ option_and_then (λ (p : Port). owner i p.cable row.next) o
    by None = refl
    by (Some p) = owner_bare i p.cable row.next

-- ---- the rules

c2_bare : (i : Internet) (p : Place) → c2 (unserved i) p ≡ c2 i p
c2_bare i (place.Node zero) = refl
c2_bare i (place.Node (suc k)) =
    on_through (λ node. bad_address i node.cable node.address node.hardware || list_any (router_has node.address node.hardware) i.routers
    || list_any (node_has node.address node.hardware) (take k (map bare i.nodes))) (λ x. refl) i.nodes k
    ∙ on_same (slice_get i.nodes k) _ _ (λ node.
    ap (λ b. bad_address i node.cable node.address node.hardware || list_any (router_has node.address node.hardware) i.routers || b)
    (any_of_first (node_has node.address node.hardware) (λ x. refl) k i.nodes))
c2_bare i (place.Port r p) = same i r p
  where
    same : (i : Internet) (r p : ℕ) → c2 (unserved i) (place.Port r p) ≡ c2 i (place.Port r p)
    same i zero p = refl
    same i (suc r) zero = refl
    same i (suc r) (suc p) = refl
c2_bare i (place.Cable k) = refl
c2_bare i (place.Row r k) = refl
c2_bare i (place.Missing r k) = refl
c2_bare i (place.List r k) = refl

c6_bare : (i : Internet) (p : Place) → c6 (unserved i) p ≡ c6 i p
c6_bare i (place.Row zero k) = refl
c6_bare i (place.Row (suc r) zero) = refl
c6_bare i (place.Row (suc r) (suc k)) =
    on_same (slice_get i.routers r) _ _ (λ router. on_same (slice_get router.rows k) _ _ (λ row.
    ap (λ o. not (is_direct row) && is_no_other r o) (next_bare i router row)))
c6_bare i (place.Missing r k) = refl
c6_bare i (place.Cable k) = refl
c6_bare i (place.Port r p) = refl
c6_bare i (place.Node k) = refl
c6_bare i (place.List r k) = refl

c7_bare : (i : Internet) (p : Place) → c7 (unserved i) p ≡ c7 i p
c7_bare i (place.Row zero k) = refl
c7_bare i (place.Row (suc r) zero) = refl
c7_bare i (place.Row (suc r) (suc k)) =
    on_same (slice_get i.routers r) _ _ (λ router. on_same (slice_get router.rows k) _ _ (λ row.
    ap (λ o. not (is_direct row) && bad_step i row o) (next_bare i router row)))
c7_bare i (place.Missing r k) = refl
c7_bare i (place.Cable k) = refl
c7_bare i (place.Port r p) = refl
c7_bare i (place.Node k) = refl
c7_bare i (place.List r k) = refl

c10_bare : (i : Internet) (p : Place) → c10 (unserved i) p ≡ c10 i p
c10_bare i (place.Port zero p) = refl
c10_bare i (place.Port (suc r) zero) = refl
c10_bare i (place.Port (suc r) (suc p)) =
    on_same (slice_get i.routers r) _ _ (λ router.
    on_same (slice_get router.ports p) _ _ (λ port. any_same _ _ port.mappings (λ m.
    ap (λ l. not (list_any (is_mapped port.cable m) l)) (seats_bare i))))
c10_bare i (place.Node zero) = refl
c10_bare i (place.Node (suc k)) =
    on_through (λ node. list_any (is_false (unserved i) node.cable) node.mappings) (λ x. refl) i.nodes k
    ∙ on_same (slice_get i.nodes k) _ _ (λ node. any_same _ _ node.mappings (λ m.
    ap (λ l. not (list_any (is_mapped node.cable m) l)) (seats_bare i)))
c10_bare i (place.Cable k) = refl
c10_bare i (place.Row r k) = refl
c10_bare i (place.Missing r k) = refl
c10_bare i (place.List r k) = refl

pick : (b x y : Bool) → x ≡ false → y ≡ false → (if b then x else y) ≡ false
pick true x y e f = e
pick false x y e f = f

same_bare : (xs ys : List Node) → length xs ≡ length ys → ((k : ℕ) (a b : Node) → At xs k a → At ys k b → IsSameNode a b) → map bare xs ≡ map bare ys
same_bare [] [] n h = refl
same_bare [] (y ∷ ys) n h = absurd (omega arith)
same_bare (x ∷ xs) [] n h = absurd (omega arith)
same_bare (x ∷ xs) (y ∷ ys) n h =
    ap (λ z. z ∷ map bare xs) (one (h zero x y refl refl)) ∙ ap (λ l. bare y ∷ l) (same_bare xs ys (omega (arith, n)) (λ k a b ea eb. h (suc k) a b ea eb))
  where
    one : {a b : Node} → IsSameNode a b → bare a ≡ bare b
    one {a} {b} w =
        sym (ap (λ c. record { cable = c; address = b.address; hardware = b.hardware; zone = b.zone; router = None; names = b.names; mappings = b.mappings }) w.cable
        ∙ (ap (λ c. record { cable = a.cable; address = c; hardware = b.hardware; zone = b.zone; router = None; names = b.names; mappings = b.mappings }) w.address
        ∙ (ap (λ c. record { cable = a.cable; address = a.address; hardware = c; zone = b.zone; router = None; names = b.names; mappings = b.mappings }) w.hardware
        ∙ (ap (λ c. record { cable = a.cable; address = a.address; hardware = a.hardware; zone = c; router = None; names = b.names; mappings = b.mappings }) w.zone
        ∙ (ap (λ c. record { cable = a.cable; address = a.address; hardware = a.hardware; zone = a.zone; router = None; names = c; mappings = b.mappings }) w.names
        ∙ ap (λ c. record { cable = a.cable; address = a.address; hardware = a.hardware; zone = a.zone; router = None; names = a.names; mappings = c }) w.mappings)))))

module _ (i : Internet) (nodes : List Node) (ok : Passes i) (count : length i.nodes ≡ length nodes)
    (each : (k : ℕ) (a b : Node) → At i.nodes k a → At nodes k b
    → IsSameNode a b × ((x : Addr) → b.router ≡ Some x → is_some (owner i b.cable x) ≡ true)) where
  abbrev pub served : Internet
  served = record { version = i.version; cables = i.cables; routers = i.routers; nodes = nodes }

  alike : unserved i ≡ unserved served
  alike = ap (λ ns. record { version = i.version; cables = i.cables; routers = i.routers; nodes = ns })
      (same_bare i.nodes nodes count (λ k a b ea eb. (each k a b ea eb).0))

  owner_same : (c : ℕ) (a : Addr) → owner served c a ≡ owner i c a
  owner_same c a = sym (owner_bare served c a) ∙ (ap (λ k. owner k c a) (sym alike) ∙ owner_bare i c a)

  node_ok : (k : ℕ) (b : Node) → At nodes k b → bad_service served b ≡ false
  node_ok k b eb =
      let low = at_within nodes k b eb in
      let a = at_below i.nodes k (omega (arith, low, count)) in
      let w = each k a.0 b a.1 eb in
      let good : bad_service i a.0 ≡ false = sym (ap (λ o. on o (bad_service i)) a.1) ∙ ok 9 (place.Node (suc k)) in
      let zone : not (has_its_zone i a.0) ≡ false = (or_parts _ _ good).1 in
      let here : not (has_its_zone i b) ≡ false =
      ap (λ c. not (on (slice_get i.cables c) (λ z. list_any (same_name b.zone) z.zones))) w.0.cable
      ∙ (ap (λ n. not (on (slice_get i.cables a.0.cable) (λ z. list_any (same_name n) z.zones))) w.0.zone ∙ zone) in
      ap (λ x. x || not (has_its_zone i b)) (router_ok b.router refl w.1) ∙ here
    where
      router_ok : (o : Option Addr) → b.router ≡ o → ((x : Addr) → b.router ≡ Some x → is_some (owner i b.cable x) ≡ true)
          → on o (λ a. not (is_some (owner served b.cable a))) ≡ false
      router_ok None e h = refl
      router_ok (Some x) e h = ap (λ o. not (is_some o)) (owner_same b.cable x) ∙ ap not (h x e)

  c9_ok : (p : Place) → c9 served p ≡ false
  c9_ok (place.Node zero) = refl
  c9_ok (place.Node (suc k)) = by (slice_get nodes k) refl
    where
      by : (o : Option Node) → slice_get nodes k ≡ o → on o (bad_service served) ≡ false
      by None e = refl
      by (Some b) e = node_ok k b e
  c9_ok (place.Cable k) = refl
  c9_ok (place.Port r p) = refl
  c9_ok (place.Row r k) = refl
  c9_ok (place.Missing r k) = refl
  c9_ok (place.List r k) = refl

  through : (test : Internet → Place → Bool) (n : ℕ) → ((k : Internet) (p : Place) → test (unserved k) p ≡ test k p)
      → ((p : Place) → test i p ≡ false) → (p : Place) → test served p ≡ false
  through test n bares h p = sym (bares served p) ∙ (ap (λ k. test k p) (sym alike) ∙ (bares i p ∙ h p))

  -- it passes
  pub served_passes : Passes served
  served_passes rule p =
      pick (rule == 1) _ _ (ok 1 p) (pick (rule == 2) _ _ (through c2 2 c2_bare (ok 2) p) (pick (rule == 3) _ _ (ok 3 p) (pick (rule == 4) _ _ (ok 4 p)
      (pick (rule == 5) _ _ (ok 5 p) (pick (rule == 6) _ _ (through c6 6 c6_bare (ok 6) p) (pick (rule == 7) _ _ (through c7 7 c7_bare (ok 7) p)
      (pick (rule == 8) _ _ (ok 8 p) (pick (rule == 9) _ _ (c9_ok p) (pick (rule == 10) _ _ (through c10 10 c10_bare (ok 10) p) refl)))))))))
