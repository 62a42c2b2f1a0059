-- The next hop of a datagram by a router's rows, compared with the image's.
use Rattle.std.proofs.Common.{◌≡◌, ℕ, Bool, true, false, cond, ◌&&◌, List, [], ◌∷◌, Option, Some, None, option_map, map, find, refl, sym}
use Rattle.std.proofs.Common.{ap, ◌∙◌, slice_get}
use Rattle.at_base.specs.Range.{is_between}
use Rattle.at_base.specs.declared.address.Addr.{Addr}
use Rattle.rtmp.specs.States.{is_usable}
use Rattle.rtmp.specs.Routes.{row_for as table_row_for}
use Rattle.table_image.specs.Internet.{Internet}
use Rattle.table_image.specs.RouteRows.{route_row}
use Rattle.table_image.specs.Rows.{is_direct}
use Rattle.table_image.specs.declared.port.Port.{Port}
use Rattle.table_image.specs.declared.router.Router.{Router}
use Rattle.table_image.specs.declared.row.Row.{Row}
use Rattle.audit.specs.Routing.{Here, On, hand, hand_at, hand_by, hand_over, hand_to, owner, row_for}
use Rattle.audit.proofs.WalkLists.{At}
use Rattle.router.specs.Holding.{hand as router_hand, hand_by as router_hand_by}
use Rattle.router.specs.declared.hand.Hand.TheVariants as by

-- A search in a mapped list has the mapped result of a search in the list.
pub find_map : {X Y : Type 0} (f : X → Y) (t : Y → Bool) (xs : List X) → find t (map f xs) ≡ option_map f (find (λ x. t (f x)) xs)
find_map f t [] = refl
find_map f t (x ∷ xs) = one (t (f x)) (find_map f t xs)
  where
    one : (b : Bool) → find t (map f xs) ≡ option_map f (find (λ x. t (f x)) xs)
        → cond b (Some (f x)) (find t (map f xs)) ≡ option_map f (cond b (Some x) (find (λ x. t (f x)) xs))
    one true rest = refl
    one false rest = rest

-- The row that a routing table finds is the image's row.
rows_agree : (rows : List Row) (n : ℕ) → table_row_for n (map route_row rows) ≡ option_map route_row (row_for rows n)
rows_agree rows n = find_map route_row (λ r. is_usable r.state && is_between r.range.start r.range.end n) rows

-- If by the image the router hands datagrams to an address over a cable, it does so by its port on that cable.
pub record HandsOn (router : Router) (n d : ℕ) (a : Addr) : Type 0 where
  pub place : ℕ
  pub port : Port
  pub at : At router.ports place port
  pub on : port.cable ≡ d
  pub handed : router_hand (map route_row router.rows) n ≡ by.On place a

module _ (i : Internet) (router : Router) (n s d : ℕ) (a : Addr) where
  by_owner : (o : Option ℕ) (row : Row) (port : Port) → hand_to o port.cable row.next ≡ On s d a → (port.cable ≡ d) × (row.next ≡ a)
  by_owner None row port e = cc
  by_owner (Some r) row port e = (cc, cc)

  by_port : (row : Row) (port : Port) (direct : Bool) → At router.ports row.port port → is_direct row ≡ direct
      → router_hand (map route_row router.rows) n ≡ cond direct (by.Here row.port) (by.On row.port row.next)
      → cond direct (Here port.cable) (hand_to (owner i port.cable row.next) port.cable row.next) ≡ On s d a → HandsOn router n d a
  by_port row port true at direct hands e = cc
  by_port row port false at direct hands e =
      let w = by_owner (owner i port.cable row.next) row port e in
      record { place = row.port; port = port; at = at; on = w.0; handed = hands ∙ ap (by.On row.port) w.1 }

  by_row : (row : Row) (o : Option Port) → slice_get router.ports row.port ≡ o → row_for router.rows n ≡ Some row
      → hand_over i row o ≡ On s d a → HandsOn router n d a
  by_row row None at found e = cc
  by_row row (Some port) at found e =
      let hands = ap router_hand_by (rows_agree router.rows n ∙ ap (option_map route_row) found) in
      by_port row port (is_direct row) at refl hands e

  by_rows : (o : Option Row) → row_for router.rows n ≡ o → hand_by i router o ≡ On s d a → HandsOn router n d a
  by_rows None found e = cc
  by_rows (Some row) found e = by_row row (slice_get router.ports row.port) refl found e

  pub hands_on : (r : ℕ) → At i.routers r router → hand i r n ≡ On s d a → HandsOn router n d a
  hands_on r known e = by_rows (row_for router.rows n) refl (sym (ap (λ o. hand_at i o n) known) ∙ e)
