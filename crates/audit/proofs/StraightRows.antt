-- Where rows stand side by side with the cables and are good there, no rule about rows is broken.
use Rattle.std.proofs.Common.{◌≡◌, ℕ, suc, Bool, true, false, not, ◌&&◌, ◌||◌, ◌==◌, ◌+◌, Option, Some, None, length, is_some, refl, sym, ap}
use Rattle.std.proofs.Common.{◌∙◌, arith, slice_get, nat_lt, eqb-true, eq-eqb}
use Rattle.std.specs.Option.{option_and_then}
use Rattle.std.proofs.lemmas.Bool.{and_parts}
use Rattle.at_base.specs.Address.{same_address}
use Rattle.rtmp.specs.States.{is_usable}
use Rattle.table_image.specs.Bounds.{IsBounded}
use Rattle.table_image.specs.Internet.{Internet}
use Rattle.table_image.specs.Rows.{is_direct}
use Rattle.table_image.specs.declared.cable.Cable.{Cable}
use Rattle.table_image.specs.declared.row.Row.{Row}
use Rattle.table_image.specs.declared.router.Router.{Router}
use Rattle.audit.specs.Firsts.{FirstPlace}
use Rattle.audit.specs.Places.{on}
use Rattle.audit.specs.Rules.{c1, is_for, cable_of, bad_direct, bad_step, max_distance, next_router, port_on, lacks_row, not_one_less, same_row}
use Rattle.audit.specs.Rules.{row_breaks, breaks_rows, lack_breaks}
use Rattle.audit.specs.Routing.{owner}
use Rattle.audit.specs.Straight.{IsFound, is_one_nearer, has_nearer_next, is_straight, IsStraight, AreStraight}
use Rattle.audit.specs.declared.rule.Rule.{Rule}
use Rattle.audit.specs.declared.straight.NextFound.{NextFound}
use Rattle.audit.specs.declared.rule.Rule.TheVariants.{CablesInOrder, StationsAddressed, RowsCoverCables, DirectRowsDirect, DistancesFit}
use Rattle.audit.specs.declared.rule.Rule.TheVariants.{NextRoutersExist, DistancesFall, ZoneListsAgree, NodesServed, MappingsTrue}
use Rattle.audit.proofs.CableOrder.{only_cable}
use Rattle.audit.proofs.Finding.{any_from}
use Rattle.audit.proofs.MappingsTrue.{address_is}
use Rattle.audit.proofs.RowPlaces.{no_bad_row}
use Rattle.audit.proofs.RowOrder.{only_row}
use Rattle.audit.proofs.StepsNext.{step_keeps_next}
use Rattle.audit.proofs.WalkLists.{At, at_within, at_below, at_one}

-- a router that was found for one row is the next router of each row with its port and its next address
pub found_again : (i : Internet) (router : Router) (it : NextFound) (row : Row) → IsFound i router it → it.port ≡ row.port
    → same_address it.address row.next ≡ true → it.router ≡ next_router i router row
found_again i router it row found port same =
    let address = sym (address_is it.address row.next same) in
    found
    ∙ (ap (λ a. option_and_then (λ p. owner i p.cable a) (slice_get router.ports it.port)) address
    ∙ ap (λ k. option_and_then (λ p. owner i p.cable row.next) (slice_get router.ports k)) port)

-- what is said of a straight row, part by part
record Parts (i : Internet) (router : Router) (k : ℕ) (row : Row) : Type 0 where
  pub c : Cable
  pub at : At i.cables k c
  pub for : is_for row c ≡ true
  pub usable : is_usable row.state ≡ true
  pub fits : nat_lt max_distance row.distance ≡ false
  pub direct : bad_direct row (port_on router k) ≡ false
  pub step : (is_direct row || has_nearer_next i router k row) ≡ true

-- what a test found that holds for an element
found : {X : Type 0} (o : Option X) (test : X → Bool) → on o test ≡ true → (x : X) × (o ≡ Some x) × (test x ≡ true)
found None test e = cc
found (Some x) test e = (x, refl, e)

no : (b : Bool) → not b ≡ true → b ≡ false
no true e = cc
no false e = refl

parts : (i : Internet) (router : Router) (k : ℕ) (row : Row) → is_straight i router k row ≡ true → Parts i router k row
parts i router k row e =
    let four = and_parts _ _ e in
    let three = and_parts _ _ four.0 in
    let two = and_parts _ _ three.0 in
    let one = and_parts _ _ two.0 in
    let cable = found (slice_get i.cables k) (is_for row) one.0 in
    record {
      c = cable.0;
      at = cable.1;
      for = cable.2;
      usable = one.1;
      fits = no _ two.1;
      direct = no _ three.1;
      step = four.1;
    }

-- rows with the same index, of straight rows, have the same range
same_range : (i : Internet) (one other : Router) (k : ℕ) (row its : Row) → Parts i one k row → Parts i other k its
    → (its.start == row.start && its.end == row.end) ≡ true
same_range i one other k row its p q =
    let is : q.c ≡ p.c = at_one i.cables k q.c p.c q.at p.at in
    let mine = and_parts (row.start == p.c.start) (row.end == p.c.end) p.for in
    let its_own = and_parts (its.start == q.c.start) (its.end == q.c.end) q.for in
    let start : its.start ≡ row.start =
    eqb-true its.start q.c.start its_own.0 ∙ (ap (λ c. c.start) is ∙ sym (eqb-true row.start p.c.start mine.0)) in
    let end : its.end ≡ row.end =
    eqb-true its.end q.c.end its_own.1 ∙ (ap (λ c. c.end) is ∙ sym (eqb-true row.end p.c.end mine.1)) in
    ap (λ b. b && (its.end == row.end)) (eq-eqb its.start row.start start) ∙ eq-eqb its.end row.end end

-- a straight row that isn't direct goes to a router that is one nearer
step_keeps : (i : Internet) (router : Router) (k : ℕ) (row : Row) → IsBounded i → AreStraight i → Parts i router k row
    → (not (is_direct row) && bad_step i row (next_router i router row)) ≡ false
step_keeps i router k row b s p = by (is_direct row) p.step
  where
    nearer : has_nearer_next i router k row ≡ true → bad_step i row (next_router i router row) ≡ false
    nearer e =
        let next = found (next_router i router row) (λ s. on (slice_get i.routers s) (is_one_nearer k row)) e in
        let it = found (slice_get i.routers next.0) (is_one_nearer k row) next.2 in
        let other = found (slice_get it.0.rows k) (λ other. other.distance + 1 == row.distance) it.2 in
        let q = parts i it.0 k other.0 ((s next.0 it.0 it.1).1 k other.0 other.1) in
        let same = same_range i router it.0 k row other.0 p q in
        let mine = sym (only_row it.0.rows row k other.0 (b.each next.0 it.0 it.1).rising other.1 same) in
        ap (bad_step i row) next.1
        ∙ (ap (λ o. not_one_less row (same_row o row)) it.1 ∙ (ap (not_one_less row) mine ∙ ap not other.2))

    by : (d : Bool) → (d || has_nearer_next i router k row) ≡ true → (not d && bad_step i row (next_router i router row)) ≡ false
    by true e = refl
    by false e = nearer e

-- a straight row breaks no rule
row_keeps : (rule : Rule) (i : Internet) (r : ℕ) (router : Router) (k : ℕ) (row : Row) → IsBounded i → FirstPlace (c1 i) None
    → AreStraight i → At i.routers r router → At router.rows k row → Parts i router k row → row_breaks rule i r router row ≡ false
row_keeps CablesInOrder i r router k row b cables s here at p = refl
row_keeps StationsAddressed i r router k row b cables s here at p = refl
row_keeps RowsCoverCables i r router k row b cables s here at p =
    let found : is_some (cable_of i row) ≡ true = ap is_some (sym (only_cable i row k p.c cables p.at p.for)) in
    ap not (ap (λ b. b && is_some (cable_of i row)) p.usable ∙ found)
row_keeps DirectRowsDirect i r router k row b cables s here at p =
    ap (λ o. on o (λ c. bad_direct row (port_on router c))) (sym (only_cable i row k p.c cables p.at p.for)) ∙ p.direct
row_keeps DistancesFit i r router k row b cables s here at p = p.fits
row_keeps NextRoutersExist i r router k row b cables s here at p =
    step_keeps_next i r router k row here at (b.each r router here).rising (step_keeps i router k row b s p)
row_keeps DistancesFall i r router k row b cables s here at p = step_keeps i router k row b s p
row_keeps ZoneListsAgree i r router k row b cables s here at p = refl
row_keeps NodesServed i r router k row b cables s here at p = refl
row_keeps MappingsTrue i r router k row b cables s here at p = refl

-- a router with straight rows lacks none
none_lacking : (i : Internet) (router : Router) (k : ℕ) (c : Cable) → IsStraight i router → At i.cables k c → lacks_row router c ≡ false
none_lacking i router k c s at =
    let few = at_within i.cables k c at in
    let same = s.0 in
    let row = at_below router.rows k (omega (arith, few, same)) in
    let p = parts i router k row.0 (s.1 k row.0 row.1) in
    let is : p.c ≡ c = at_one i.cables k p.c c p.at at in
    let for : is_for row.0 c ≡ true = ap (is_for row.0) (sym is) ∙ p.for in
    ap not (any_from (λ row. is_for row c) router.rows k row.0 row.1 for)

row_place : (rule : Rule) (i : Internet) (r k : ℕ) → IsBounded i → FirstPlace (c1 i) None → AreStraight i → (o : Option Router)
    → slice_get i.routers r ≡ o → on o (λ router. on (slice_get router.rows k) (row_breaks rule i r router)) ≡ false
row_place rule i r k b cables s None e = refl
row_place rule i r k b cables s (Some router) e = inner (slice_get router.rows k) refl
  where
    inner : (o : Option Row) → slice_get router.rows k ≡ o → on o (row_breaks rule i r router) ≡ false
    inner None f = refl
    inner (Some row) f = row_keeps rule i r router k row b cables s e f (parts i router k row ((s r router e).1 k row f))

missing_place : (i : Internet) (r k : ℕ) → AreStraight i → (o : Option Router) → slice_get i.routers r ≡ o
    → on o (λ router. on (slice_get i.cables k) (lacks_row router)) ≡ false
missing_place i r k s None e = refl
missing_place i r k s (Some router) e = inner (slice_get i.cables k) refl
  where
    inner : (o : Option Cable) → slice_get i.cables k ≡ o → on o (lacks_row router) ≡ false
    inner None f = refl
    inner (Some c) f = none_lacking i router k c (s r router e) f

lack : (rule : Rule) (i : Internet) (r k : ℕ) → AreStraight i → lack_breaks rule i (suc r) (suc k) ≡ false
lack CablesInOrder i r k s = refl
lack StationsAddressed i r k s = refl
lack RowsCoverCables i r k s = missing_place i r k s (slice_get i.routers r) refl
lack DirectRowsDirect i r k s = refl
lack DistancesFit i r k s = refl
lack NextRoutersExist i r k s = refl
lack DistancesFall i r k s = refl
lack ZoneListsAgree i r k s = refl
lack NodesServed i r k s = refl
lack MappingsTrue i r k s = refl

-- an internet with straight rows keeps each rule about rows
pub straight_keeps : (rule : Rule) (i : Internet) → IsBounded i → FirstPlace (c1 i) None → AreStraight i
    → FirstPlace (breaks_rows rule i) None
straight_keeps rule i b cables s =
    no_bad_row rule i (length i.routers) (omega arith) (λ r lt k.
    (row_place rule i r k b cables s (slice_get i.routers r) refl, lack rule i r k s))
