-- What a router of a settled internet hears of a neighbour changes no more of a row than its next router, which is as
-- near, and its state.
use Rattle.std.proofs.Common.{◌≡◌, ℕ, suc, ◌+◌, ◌≤◌, Bool, true, false, if◌then◌else◌, ◌&&◌, ◌||◌, not, ◌==◌, Some}
use Rattle.std.proofs.Common.{refl, sym, ap, ◌∙◌, subst, arith, slice_get, nat_le, nat_lt, eqb-true, eq-eqb, true≢false}
use Rattle.std.proofs.lemmas.Bool.{and_parts, and_from, or_parts, leb-true, le-leb, ne_eqb, or_right, ltb-false}
use Rattle.std.proofs.lemmas.Option.{same_Some}
use Rattle.at_base.specs.Address.{same_address, is_none}
use Rattle.at_base.specs.declared.address.Addr.{Addr}
use Rattle.at_base.specs.declared.error.Place.TheVariants as place
use Rattle.audit.specs.Places.{on}
use Rattle.audit.specs.Routing.{owner}
use Rattle.audit.specs.Rules.{bad_address, bad_port, same_row, Passes}
use Rattle.audit.proofs.Owners.{only_router}
use Rattle.audit.proofs.RowOrder.{only_row}
use Rattle.audit.proofs.WalkLists.{At, at_one}
use Rattle.rtmp.specs.Routes as routes
use Rattle.rtmp.specs.States.{is_usable}
use Rattle.rtmp.specs.declared.row.Row.{Row as RouteRow}
use Rattle.rtmp.specs.declared.state.State.TheVariants.{Bad}
use Rattle.rtmp.specs.declared.table.Change.{Change}
use Rattle.rtmp.specs.declared.table.Change.TheVariants.{Ignored, Changed}
use Rattle.settled.proofs.Next.{ends_of, near_enough, row_test, same_when}
use Rattle.settled.proofs.Tests.{any_at}
use Rattle.settled.specs.Exchange.{image_row}
use Rattle.settled.specs.Moved.{IsMoved, IsWay}
use Rattle.settled.specs.Offers.{is_on, same_range}
use Rattle.settled.specs.Settling.{IsSettled}
use Rattle.table_image.specs.Bounds.{IsBounded}
use Rattle.table_image.specs.Internet.{Internet}
use Rattle.table_image.specs.RouteRows.{route_row}
use Rattle.table_image.specs.Rows.{is_direct}
use Rattle.table_image.specs.declared.port.Port.{Port}
use Rattle.table_image.specs.declared.row.Row.{Row}
use Rattle.table_image.specs.declared.router.Router.{Router}

-- addresses that are the same are equal
same_addresses : (y z : Addr) → same_address y z ≡ true → y ≡ z
same_addresses y z e =
    let w = and_parts (y.net == z.net) (y.node == z.node) e in
    let address : ℕ → ℕ → Addr = λ net node. record { net = net; node = node } in
    ap (λ n. address n y.node) (eqb-true _ _ w.0) ∙ ap (address z.net) (eqb-true _ _ w.1)

-- the tests of a row that hears of its range at distance t
abbrev takes : RouteRow → ℕ → Bool
takes row t = nat_le t 14 && (not (is_usable row.state) || nat_le (t + 1) row.distance)

abbrev believes : RouteRow → Addr → ℕ → Bool
believes row s port = same_address row.next s && row.port == port

-- what hearing gives, by the tests: whether the row is direct, takes what is nearer, and believes its own router
abbrev by_own : Bool → RouteRow → ℕ → Addr → ℕ → RouteRow × Change
by_own o row t s port =
    if o then (if nat_le t 14 then routes.heard_row row.range t s port else record row { state = Bad }, Changed) else (row, Ignored)

abbrev by_near : Bool → Bool → RouteRow → ℕ → Addr → ℕ → RouteRow × Change
by_near n o row t s port = if n then (routes.heard_row row.range t s port, Changed) else by_own o row t s port

abbrev by_direct : Bool → Bool → Bool → RouteRow → ℕ → Addr → ℕ → RouteRow × Change
by_direct d n o row t s port = if d then (row, Ignored) else by_near n o row t s port

-- what holds of a row after hearing, by what it was
after_is : (row : RouteRow) (t : ℕ) (s : Addr) (port : ℕ) (P : RouteRow → Type 0) → (routes.is_direct row ≡ true → P row)
    → (routes.is_direct row ≡ false → takes row t ≡ true → P (routes.heard_row row.range t s port))
    → (routes.is_direct row ≡ false → takes row t ≡ false → believes row s port ≡ true
    → P (if nat_le t 14 then routes.heard_row row.range t s port else record row { state = Bad }))
    → (routes.is_direct row ≡ false → P row) → P (routes.after_hearing row t s port).0
after_is row t s port P direct near own left =
    elim (routes.is_direct row) as (λ d. routes.is_direct row ≡ d → P (by_direct d (takes row t) (believes row s port) row t s port).0) [
      | true ↦ λ e. direct e
      | false ↦ λ e. elim (takes row t) as (λ n. takes row t ≡ n → P (by_near n (believes row s port) row t s port).0) [
        | true ↦ λ f. near e f
        | false ↦ λ f. elim (believes row s port) as (λ o. believes row s port ≡ o → P (by_own o row t s port).0) [
          | true ↦ λ g. own e f g
          | false ↦ λ g. left e
        ] refl
      ] refl
    ] refl

module _ (i : Internet) (ok : Passes i) (settled : IsSettled i) (bounded : IsBounded i) where
  -- a port's own address is its router's on the cable
  own_address : (s q : ℕ) (their : Router) (port : Port) → At i.routers s their → At their.ports q port
      → owner i port.cable port.address ≡ Some s
  own_address s q their port er ep =
      sym (only_router port.cable port.address i s their (λ p. ok 2 p) er
      (any_at (λ (p : Port). p.cable == port.cable && same_address p.address port.address) their.ports q port ep
      (and_from _ _ (eq-eqb port.cable port.cable refl)
      (and_from _ _ (eq-eqb port.address.net port.address.net refl) (eq-eqb port.address.node port.address.node refl)))))

  -- and isn't 0.0
  named : (s q : ℕ) (their : Router) (port : Port) → At i.routers s their → At their.ports q port → is_none port.address ≡ false
  named s q their port er ep =
      let bad : bad_port i s q their port ≡ false =
      sym (ap (λ o. on o (λ router. on (slice_get router.ports q) (bad_port i s q router))) er ∙ ap (λ o. on o (bad_port i s q their)) ep)
      ∙ ok 2 (place.Port (suc s) (suc q)) in
      let address : bad_address i port.cable port.address port.hardware ≡ false = (or_parts _ _ (or_parts _ _ bad).0).0 in
      let node : (port.address.node == 0) ≡ false = (or_parts _ _ (or_parts _ _ (or_parts _ _ address).0).0).1 in
      ap (λ b. port.address.net == 0 && b) node ∙ and_false (port.address.net == 0)
    where
      and_false : (b : Bool) → (b && false) ≡ false
      and_false true = refl
      and_false false = refl

  -- a row that hears of its range from a neighbour, as that one's row has it
  pub hears : (r k : ℕ) (x : Router) (a b : Row) → At i.routers r x → At x.rows k a → IsMoved i r x a b
      → (n : ℕ) (p : Port) → At x.ports n p → (s q l : ℕ) (their : Router) (port : Port) (o : Row) → (r ≡ s → ⊥)
      → At i.routers s their → At their.ports q port → port.cable ≡ p.cable → At their.rows l o → same_range o a ≡ true
      → IsMoved i r x a (image_row (routes.after_hearing (route_row b) o.distance port.address n).0)
  hears r k x a b er ek m n p ep s q l their port o other es eq there el same =
      after_is (route_row b) o.distance port.address n (λ c. IsMoved i r x a (image_row c)) (λ d. m) taken believed (λ d. m)
    where
      at_home : owner i p.cable port.address ≡ Some s
      at_home = subst (λ c. owner i c port.address ≡ Some s) there (own_address s q their port es eq)

      here : is_on p.cable their ≡ true
      here = any_at (λ (z : Port). z.cable == p.cable) their.ports q port eq (eq-eqb port.cable p.cable there)

      far : is_direct b ≡ false → a.distance ≤ suc o.distance
      far d = near_enough i ok settled r k x a er ek (m.direct ∙ d) n p ep s l their o es el here same

      ranges : (o.start ≡ b.start) × (o.end ≡ b.end)
      ranges = let w = ends_of o a same in (w.0 ∙ m.start, w.1 ∙ m.end)

      theirs : (row : Row) → o.start ≡ row.start → o.end ≡ row.end → same_row (slice_get i.routers s) row ≡ Some o
      theirs row start end =
          ap (λ q. same_row q row) es
          ∙ sym (only_row their.rows row l o (bounded.each s their es).rising el (same_when o row start end))

      way : (row : Row) → row.start ≡ b.start → row.end ≡ b.end → row.port ≡ n → row.next ≡ port.address → row.distance ≡ o.distance + 1
          → IsWay i r x row
      way row start end by next d =
          record {
            port = p;
            port_at = ap (slice_get x.ports) by ∙ ep;
            next = s;
            owned = ap (owner i p.cable) next ∙ at_home;
            other = ne_eqb r s other;
            nearer = o;
            found = theirs row (ranges.0 ∙ sym start) (ranges.1 ∙ sym end);
            one_less = sym d;
          }

      taken : routes.is_direct (route_row b) ≡ false → takes (route_row b) o.distance ≡ true
          → IsMoved i r x a (image_row (routes.heard_row (route_row b).range o.distance port.address n))
      taken d t =
          let enough : nat_le (o.distance + 1) b.distance ≡ true =
          ap (λ u. not u || nat_le (o.distance + 1) b.distance) (sym m.usable) ∙ (and_parts (nat_le o.distance 14) (not (is_usable b.state) || nat_le (o.distance + 1) b.distance) t).1 in
          let low = leb-true (o.distance + 1) b.distance enough in
          let high = far d in
          let stays = m.distance in
          record {
            start = m.start;
            end = m.end;
            distance = omega (arith, low, high, stays);
            usable = refl;
            direct = m.direct ∙ (d ∙ sym (named s q their port es eq));
            stays = λ e. absurd (true≢false (sym e ∙ (m.direct ∙ d)));
            leads = λ e. way (image_row (routes.heard_row (route_row b).range o.distance port.address n)) refl refl refl refl refl;
          }

      believed : routes.is_direct (route_row b) ≡ false → takes (route_row b) o.distance ≡ false
          → believes (route_row b) port.address n ≡ true
          → IsMoved i r x a
          (image_row (if nat_le o.distance 14 then routes.heard_row (route_row b).range o.distance port.address n
          else record (route_row b) { state = Bad }))
      believed d none own =
          let w = m.leads d in
          let parts = and_parts (same_address b.next port.address) (b.port == n) own in
          let next : b.next ≡ port.address = same_addresses b.next port.address parts.0 in
          let by : w.port ≡ p =
          at_one x.ports n w.port p (subst (λ y. At x.ports y w.port) (eqb-true b.port n parts.1) w.port_at) ep in
          let its : Some w.next ≡ Some s = sym (ap (λ (y : Port). owner i y.cable b.next) (sym by) ∙ w.owned) ∙ (ap (owner i p.cable) next ∙ at_home) in
          let who : w.next ≡ s = same_Some w.next s its in
          let row : Some w.nearer ≡ Some o =
          sym (ap (λ y. same_row (slice_get i.routers y) b) (sym who) ∙ w.found) ∙ theirs b ranges.0 ranges.1 in
          let is : w.nearer ≡ o = same_Some w.nearer o row in
          let less : o.distance + 1 ≡ b.distance = ap (λ (y : Row). y.distance + 1) (sym is) ∙ w.one_less in
          let small = near_row in
          let stays = m.distance in
          absurd (true≢false (sym (and_from (nat_le o.distance 14) _ (le-leb o.distance 14 (omega (arith, less, small, stays)))
          (or_right (not (is_usable b.state)) (nat_le (o.distance + 1) b.distance)
          (le-leb (o.distance + 1) b.distance (omega (arith, less))))) ∙ none))
        where
          near_row : a.distance ≤ 14
          near_row =
              ltb-false 14 a.distance (sym (row_test i ok r k x a (λ router row. nat_lt 14 row.distance) er ek) ∙ ok 5 (place.Row (suc r) (suc k)))
