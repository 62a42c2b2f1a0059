-- The consequences of the rules for one cable, row or address.
use Rattle.std.proofs.Common.{◌≡◌, ℕ, ◌+◌, ◌<◌, ◌≤◌, Bool, true, false, cond, Option, Some, None, length, refl, sym, ◌∙◌, subst, arith}
use Rattle.std.proofs.Common.{slice_get, nat_lt, ◌==◌, is_some, option_and_then, eqb-true, true≢false}
use Rattle.std.proofs.lemmas.Bool.Decides.{nat_tests}
use Rattle.std.proofs.lemmas.Bool.{or_parts, and_parts, not-false, ltb-true}
use Rattle.at_base.specs.declared.address.Addr.{Addr}
use Rattle.table_image.specs.Internet.{Internet}
use Rattle.table_image.specs.Seats.{Seat, seat_at}
use Rattle.audit.specs.Routing.{router_of, owner}
use Rattle.at_base.specs.Range.{is_between}
use Rattle.table_image.specs.Rows.{is_direct}
use Rattle.table_image.specs.declared.cable.Cable.{Cable}
use Rattle.table_image.specs.declared.port.Port.{Port}
use Rattle.table_image.specs.declared.row.Row.{Row}
use Rattle.table_image.specs.declared.router.Router.{Router}
use Rattle.audit.specs.Rules.{bad_cable, is_for, bad_direct, is_no_other, not_one_less, next_router}
use Rattle.audit.proofs.WalkLists.{At}

pub record GoodCable (before : ℕ) (c : Cable) : Type 0 where
  pub low : 0 < c.start
  pub up : c.start ≤ c.end
  pub high : c.end ≤ 0xFEFF
  pub after : before < c.start

pub good_cable : (before : ℕ) (c : Cable) → bad_cable before c ≡ false → GoodCable before c
good_cable before c e =
    record {
      low = grind (arith, nat_tests);
      up = grind (arith, nat_tests);
      high = grind (arith, nat_tests);
      after =
          grind (arith, nat_tests);
    }

pub between_is : (a b n : ℕ) → is_between a b n ≡ true → (a ≤ n) × (n ≤ b)
between_is a b n e = (grind (arith, nat_tests), grind (arith, nat_tests))

pub is_between_when : (a b n : ℕ) → a ≤ n → n ≤ b → is_between a b n ≡ true
is_between_when a b n low high = grind (arith, nat_tests)

pub for_is : (row : Row) (c : Cable) → is_for row c ≡ true → (row.start ≡ c.start) × (row.end ≡ c.end)
for_is row c e = (grind (arith, nat_tests), grind (arith, nat_tests))

pub same_bool : (a b : Bool) → (a ≡ true → b ≡ true) → (b ≡ true → a ≡ true) → a ≡ b
same_bool true b f g = sym (f refl)
same_bool false true f g = g refl
same_bool false false f g = refl

pub some_of : (o : Option ℕ) → is_some o ≡ true → (k : ℕ) × (o ≡ Some k)
some_of None e = cc
some_of (Some k) e = (k, refl)

pub not_both : (o : Option ℕ) (k : ℕ) → o ≡ None → o ≡ Some k → ⊥
not_both o k e f = cc

-- a direct row is for a cable where the router has a port, by that port and at distance 0
pub direct_is : (row : Row) (o : Option ℕ) → is_direct row ≡ true → bad_direct row o ≡ false → (p : ℕ) × (o ≡ Some p) × (row.port ≡ p)
    × (row.distance ≡ 0)
direct_is row None d e = absurd (true≢false (sym d ∙ (or_parts (row.distance == 0) (is_direct row) e).1))
direct_is row (Some p) d e =
    let h = and_parts _ _ (not-false _ e) in let g = and_parts _ _ h.0 in
    (p, refl, eqb-true _ _ g.1, eqb-true _ _ g.0)

-- a row that isn't direct is for a cable where the router has no port
pub indirect_is : (row : Row) (o : Option ℕ) → is_direct row ≡ false → bad_direct row o ≡ false → o ≡ None
indirect_is row None d e = refl
indirect_is row (Some p) d e = absurd (true≢false (sym (and_parts _ _ (not-false _ e)).1 ∙ d))

pub other_is : (r : ℕ) (o : Option ℕ) → is_no_other r o ≡ false → (s : ℕ) × (o ≡ Some s)
other_is r None e = cc
other_is r (Some s) e = (s, refl)

pub one_less_is : (row : Row) (o : Option Row) → not_one_less row o ≡ false → (other : Row) × (o ≡ Some other)
    × (other.distance + 1 ≡ row.distance)
one_less_is row None e = cc
one_less_is row (Some other) e = (other, refl, eqb-true _ _ (not-false _ e))

-- the next router owns the row's next address on the cable of the row's port
pub next_is : (i : Internet) (router : Router) (row : Row) (s : ℕ) → next_router i router row ≡ Some s → (port : Port)
    × At router.ports row.port port × (owner i port.cable row.next ≡ Some s)
next_is i router row s e =
    elim (slice_get router.ports row.port) as (λ o. option_and_then (λ port. owner i port.cable row.next) o ≡ Some s → (port : Port)
    × (o ≡ Some port) × (owner i port.cable row.next ≡ Some s)) [
      | None ↦ λ h. cc
      | Some port ↦ λ h. (port, refl, h)
    ] e

-- an owner is the station of a seat that is found, and a router
pub owner_is : (i : Internet) (c : ℕ) (a : Addr) (r : ℕ) → owner i c a ≡ Some r → ((s : Seat) × (seat_at i c a ≡ Some s) × (s.station ≡ r))
    × (r < length i.routers)
owner_is i c a r e = go (seat_at i c a) refl e
  where
    pick : (s : Seat) (b : Bool) → nat_lt s.station (length i.routers) ≡ b → cond b (Some s.station) None ≡ Some r → (s.station ≡ r)
        × (r < length i.routers)
    pick s true f h = let same : s.station ≡ r = cc in (same, subst (λ n. n < length i.routers) same (ltb-true _ _ f))
    pick s false f h = cc

    go : (o : Option Seat) → seat_at i c a ≡ o → router_of i o ≡ Some r → ((s : Seat) × (seat_at i c a ≡ Some s) × (s.station ≡ r))
        × (r < length i.routers)
    go None f h = cc
    go (Some s) f h = let w = pick s (nat_lt s.station (length i.routers)) refl h in ((s, f, w.0), w.1)
