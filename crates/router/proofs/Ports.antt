-- The ports in a router's routing table are ports of the router.
use Rattle.std.proofs.Common.{◌≡◌, ℕ, ◌<◌, Bool, true, false, ◌&&◌, cond, List, [], ◌∷◌, Option, Some, None, refl, IfSome}
use Rattle.std.specs.Prelude.{find, nat_lt}
use Rattle.std.specs.List.{list_all}
use Rattle.std.proofs.lemmas.Bool.{ltb-true}
use Rattle.at_base.specs.Range.{is_between}
use Rattle.rtmp.specs.Routes.{is_direct, row_for}
use Rattle.rtmp.specs.States.{is_usable}
use Rattle.rtmp.specs.declared.row.Row.{Row}
use Rattle.router.specs.Holding.{IsHandIn, hand, hand_by}
use Rattle.router.specs.declared.hand.Hand.TheVariants.{Here, On}

-- if a conjunction is true, both parts are
pub both : (a b : Bool) → (a && b) ≡ true → (a ≡ true) × (b ≡ true)
both true true e = (refl, refl)
both true false e = absurd cc
both false b e = absurd cc

-- if the port of each row is below n, so is that of the row that is found
row_in : (n : ℕ) (test : Row → Bool) (rows : List Row) → list_all (λ r. nat_lt r.port n) rows ≡ true
    → IfSome (find test rows) (λ r. r.port < n)
row_in n test [] h = tt
row_in n test (r ∷ rows) h =
    by (test r) (row_in n test rows (both (nat_lt r.port n) (list_all (λ x. nat_lt x.port n) rows) h).1)
  where
    by : (b : Bool) → IfSome (find test rows) (λ x. x.port < n) → IfSome (cond b (Some r) (find test rows)) (λ x. x.port < n)
    by true others = ltb-true r.port n (both (nat_lt r.port n) (list_all (λ x. nat_lt x.port n) rows) h).0
    by false others = others

by_row : (n : ℕ) (row : Option Row) → IfSome row (λ r. r.port < n) → IsHandIn n (hand_by row)
by_row n None h = tt
by_row n (Some r) h = by_next (is_direct r)
  where
    by_next : (b : Bool) → IsHandIn n (cond b (Here r.port) (On r.port r.next))
    by_next true = h
    by_next false = h

pub hand_in : (n : ℕ) (rows : List Row) (net : ℕ) → list_all (λ r. nat_lt r.port n) rows ≡ true → IsHandIn n (hand rows net)
hand_in n rows net h =
    by_row n (row_for net rows) (row_in n (λ row. is_usable row.state && is_between row.range.start row.range.end net) rows h)
