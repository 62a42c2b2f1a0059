-- Poisoned rows keep their ports.
use Rattle.std.proofs.Common.{◌≡◌, ℕ, Bool, true, false, ◌&&◌, not, List, [], ◌∷◌, refl, sym, subst}
use Rattle.std.specs.Prelude.{nat_lt, if◌then◌else◌}
use Rattle.std.specs.List.{list_all}
use Rattle.at_base.specs.Address.{same_address}
use Rattle.at_base.specs.declared.address.Addr.{Addr}
use Rattle.rtmp.specs.Routes.{is_direct, poisoned, poisoned_row}
use Rattle.rtmp.specs.declared.row.Row.{Row}
use Rattle.rtmp.specs.declared.state.State.TheVariants.{Bad}
use Rattle.router.proofs.Ports.{both}

-- if both parts are true, their conjunction is
joined : (a b : Bool) → a ≡ true → b ≡ true → (a && b) ≡ true
joined true true e f = refl
joined true false e f = f
joined false b e f = e

-- a poisoned row keeps its port
port_stays : (next : Addr) (r : Row) → (poisoned_row next r).port ≡ r.port
port_stays next r = by (not (is_direct r) && same_address r.next next)
  where
    by : (b : Bool) → (if b then record r { state = Bad } else r).port ≡ r.port
    by true = refl
    by false = refl

-- if the port of each row is below n, so is that of each poisoned row
pub poisoned_seated : (n : ℕ) (next : Addr) (rows : List Row) → list_all (λ r. nat_lt r.port n) rows ≡ true
    → list_all (λ r. nat_lt r.port n) (poisoned next rows) ≡ true
poisoned_seated n next [] h = refl
poisoned_seated n next (r ∷ rows) h =
    joined (nat_lt (poisoned_row next r).port n) (list_all (λ x. nat_lt x.port n) (poisoned next rows))
    (subst (λ p. nat_lt p n ≡ true) (sym (port_stays next r))
    (both (nat_lt r.port n) (list_all (λ x. nat_lt x.port n) rows) h).0)
    (poisoned_seated n next rows (both (nat_lt r.port n) (list_all (λ x. nat_lt x.port n) rows) h).1)
