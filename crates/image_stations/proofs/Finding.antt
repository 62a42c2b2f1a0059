-- A search of two lists of seats, one after the other.
use Rattle.std.proofs.Common.{◌≡◌, ℕ, Bool, true, false, cond, List, [], ◌∷◌, ◌++◌, refl, sym, ap, ◌∙◌, suc, ◌+◌, ◌≤◌}
use Rattle.std.proofs.Common.{length, map, drop, take, ◌-◌, is_some, nat_lt, slice_index_or, arith}
use Rattle.std.proofs.lemmas.List.{take_all}
use Rattle.std.proofs.lemmas.Option.{none-some}
use Rattle.std.proofs.Common.{Option, Some, None, option_map, find}
use Rattle.at_base.specs.declared.address.Addr.{Addr}
use Rattle.audit.specs.Routing.{owner, router_of}
use Rattle.table_image.specs.Seats.{Seat, port_seat, router_seats, seat_at, seats}
use Rattle.image_stations.specs.Finding.{is_at, is_routers, spot_in, spot_of}
use Rattle.image_stations.specs.declared.whereabouts.Spot.{Spot}
use Rattle.table_image.specs.Internet.{Internet}
use Rattle.table_image.specs.declared.router.Router.{Router}

module _ (named : Option ℕ) (a : Addr) where
  -- A spot that is found in the first list is found in the whole.
  pub found_first : (xs ys : List Seat) (s : Spot) → spot_in xs named a ≡ Some s → spot_in (xs ++ ys) named a ≡ Some s
  found_first [] ys s h = absurd (none-some s h)
  found_first (x ∷ xs) ys s h = by (found_first xs ys s) (is_at named a x) h
    where
      by : (spot_in xs named a ≡ Some s → spot_in (xs ++ ys) named a ≡ Some s) → (b : Bool)
          → option_map spot_of (cond b (Some x) (find (is_at named a) xs)) ≡ Some s
          → option_map spot_of (cond b (Some x) (find (is_at named a) (xs ++ ys))) ≡ Some s
      by rest true h = h
      by rest false h = rest h

  -- If the first list has none, the result is that of the second list.
  pub found_later : (xs ys : List Seat) → spot_in xs named a ≡ None → spot_in (xs ++ ys) named a ≡ spot_in ys named a
  found_later [] ys h = refl
  found_later (x ∷ xs) ys h = by (found_later xs ys) (is_at named a x) h
    where
      by : (spot_in xs named a ≡ None → spot_in (xs ++ ys) named a ≡ spot_in ys named a) → (b : Bool)
          → option_map spot_of (cond b (Some x) (find (is_at named a) xs)) ≡ None
          → option_map spot_of (cond b (Some x) (find (is_at named a) (xs ++ ys))) ≡ spot_in ys named a
      by rest true h = absurd (none-some (spot_of x) (sym h))
      by rest false h = rest h

-- If the first router has none, the result is that of the other routers.
pub routers_later : (named : Option ℕ) (a : Addr) (from : ℕ) (rs : List Router) (d : Router) → 1 ≤ length rs
    → spot_in (map (port_seat from) (slice_index_or rs 0 d).ports) named a ≡ None
    → spot_in (router_seats from rs) named a ≡ spot_in (router_seats (from + 1) (take (length rs - 1) (drop 1 rs))) named a
routers_later named a from [] d some h = absurd (omega (arith, some))
routers_later named a from (x ∷ rs) d some h =
    found_later named a (map (port_seat from) x.ports) (router_seats (suc from) rs) h
    ∙ ap (λ n. spot_in (router_seats n rs) named a) (omega arith)
    ∙ ap (λ (l : List Router). spot_in (router_seats (from + 1) l) named a)
    (sym (ap (λ n. take n rs) (omega arith) ∙ take_all (length rs) rs (omega arith)))

-- A router has the address if and only if the station that has it is a router.
pub router_spot : (i : Internet) (cable : ℕ) (a : Addr) → is_some (owner i cable a) ≡ is_routers i (spot_in (seats i) (Some cable) a)
router_spot i cable a = by (seat_at i cable a)
  where
    by : (o : Option Seat) → is_some (router_of i o) ≡ is_routers i (option_map spot_of o)
    by None = refl
    by (Some s) =
        elim (nat_lt s.station (length i.routers)) as (λ b. is_some (cond b (Some s.station) None) ≡ b) [ true ↦ refl | false ↦ refl ]
