-- Next routers offer the ranges of the rows that point at them, in an internet that passes and is settled.
use Rattle.std.proofs.Common.{◌≡◌, ℕ, zero, suc, ◌+◌, ◌<◌, ◌≤◌, inl, inr, Bool, true, false, not, ◌&&◌, Some, refl, sym, ap, ◌∙◌, subst}
use Rattle.std.proofs.Common.{arith, slice_get, ◌==◌, is_some, eqb-true, eq-eqb, true≢false}
use Rattle.std.specs.List.{list_any}
use Rattle.std.proofs.lemmas.Bool.{and_parts, and_from, or_parts, not-false, cases_Bool, cases_lt, lt-ltb}
use Rattle.at_base.specs.declared.error.Place.TheVariants as place
use Rattle.audit.specs.Places.{on, index_of}
use Rattle.audit.specs.Routing.{owner}
use Rattle.audit.specs.Rules.{at_row, cable_of, bad_range, port_on, bad_direct, next_router, is_no_other, same_row, bad_step, Passes}
use Rattle.audit.proofs.WalkFacts.{some_of, not_both, direct_is, indirect_is, other_is, one_less_is, next_is, owner_is}
use Rattle.audit.proofs.WalkLists.{At, at_below, at_one, index_at, index_found, find_at}
use Rattle.audit.proofs.WalkSteps.{owner_has_port}
use Rattle.rtmp.specs.States.{is_usable}
use Rattle.settled.proofs.Tests.{any_at}
use Rattle.settled.specs.Offers.{same_range, is_on, leaves_by, is_offer, is_nearer_offer, offers_nearer, has_nearer_offer}
use Rattle.settled.specs.Offers.{IsOfferedByNext}
use Rattle.settled.specs.Settling.{may_change, IsSettled}
use Rattle.table_image.specs.Internet.{Internet}
use Rattle.table_image.specs.Rows.{is_direct}
use Rattle.table_image.specs.declared.cable.Cable.{Cable}
use Rattle.table_image.specs.declared.port.Port.{Port}
use Rattle.table_image.specs.declared.row.Row.{Row}
use Rattle.table_image.specs.declared.router.Router.{Router}

-- rows of the same range start and end alike
pub ends_of : (a b : Row) → same_range a b ≡ true → (a.start ≡ b.start) × (a.end ≡ b.end)
ends_of a b e = let w = and_parts _ _ e in (eqb-true _ _ w.0, eqb-true _ _ w.1)

pub same_when : (a b : Row) → a.start ≡ b.start → a.end ≡ b.end → same_range a b ≡ true
same_when a b e f = and_from _ _ (eq-eqb _ _ e) (eq-eqb _ _ f)

same_chain : (a b c : Row) → same_range a b ≡ true → same_range b c ≡ true → same_range a c ≡ true
same_chain a b c e f =
    let x = ends_of a b e in let y = ends_of b c f in same_when a c (x.0 ∙ y.0) (x.1 ∙ y.1)

-- the row of a next router that is one nearer
pub record IsStep (i : Internet) (r : ℕ) (router : Router) (row : Row) : Type 0 where
  pub port : Port
  pub port_at : At router.ports row.port port
  pub next : ℕ
  pub owned : owner i port.cable row.next ≡ Some next
  pub other : (r == next) ≡ false
  pub their : Router
  pub their_at : At i.routers next their
  pub on_cable : is_on port.cable their ≡ true
  pub place : ℕ
  pub offered : Row
  pub offered_at : At their.rows place offered
  pub same : same_range offered row ≡ true
  pub nearer : offered.distance + 1 ≡ row.distance

-- a router on the cable that offers the range of the row there, at a distance of at most so many routers
pub record IsTold (i : Internet) (cable : ℕ) (row : Row) (most : ℕ) : Type 0 where
  pub teller : ℕ
  pub their : Router
  pub their_at : At i.routers teller their
  pub on_cable : is_on cable their ≡ true
  pub place : ℕ
  pub offered : Row
  pub offered_at : At their.rows place offered
  pub offer : is_offer cable row their offered ≡ true
  pub near : offered.distance ≤ most

module _ (i : Internet) (ok : Passes i) where
  pub row_test : (r k : ℕ) (router : Router) (row : Row) (test : Router → Row → Bool) → At i.routers r router → At router.rows k row
      → at_row i r k test ≡ test router row
  row_test r k router row test er ek =
      ap (λ o. on o (λ router. on (slice_get router.rows k) (test router))) er ∙ ap (λ o. on o (test router)) ek

  -- a row is usable, and for a cable
  pub row_good : (r k : ℕ) (router : Router) (row : Row) → At i.routers r router → At router.rows k row → (is_usable row.state ≡ true)
      × ((c : ℕ) × (cable_of i row ≡ Some c))
  row_good r k router row er ek =
      let good = not-false (is_usable row.state && is_some (cable_of i row)) (sym (row_test r k router row (bad_range i) er ek)
      ∙ ok 3 (place.Row (suc r) (suc k))) in
      let parts = and_parts (is_usable row.state) (is_some (cable_of i row)) good in
      (parts.0, some_of (cable_of i row) parts.1)

  pub direct_good : (r k : ℕ) (router : Router) (row : Row) (c : ℕ) → At i.routers r router → At router.rows k row → cable_of i row ≡ Some c
      → bad_direct row (port_on router c) ≡ false
  direct_good r k router row c er ek of =
      let test : Router → Row → Bool = λ router row. on (cable_of i row) (λ c. bad_direct row (port_on router c)) in
      let here : at_row i r k test ≡ bad_direct row (port_on router c) =
      row_test r k router row test er ek ∙ ap (λ o. on o (λ c. bad_direct row (port_on router c))) of in
      sym here ∙ ok 4 (place.Row (suc r) (suc k))

  pub next_good : (r k : ℕ) (router : Router) (row : Row) → At i.routers r router → At router.rows k row → is_direct row ≡ false
      → is_no_other r (next_router i router row) ≡ false
  next_good r k router row er ek indirect =
      let rule : (not (is_direct row) && is_no_other r (next_router i router row)) ≡ false =
      sym (row_test r k router row (λ router row. not (is_direct row) && is_no_other r (next_router i router row)) er ek)
      ∙ ok 6 (place.Row (suc r) (suc k)) in
      ap (λ b. not b && is_no_other r (next_router i router row)) (sym indirect) ∙ rule

  pub step_good : (r k : ℕ) (router : Router) (row : Row) → At i.routers r router → At router.rows k row → is_direct row ≡ false
      → bad_step i row (next_router i router row) ≡ false
  step_good r k router row er ek indirect =
      let rule : (not (is_direct row) && bad_step i row (next_router i router row)) ≡ false =
      sym (row_test r k router row (λ router row. not (is_direct row) && bad_step i row (next_router i router row)) er ek)
      ∙ ok 7 (place.Row (suc r) (suc k)) in
      ap (λ b. not b && bad_step i row (next_router i router row)) (sym indirect) ∙ rule

  pub step : (r k : ℕ) (router : Router) (row : Row) → At i.routers r router → At router.rows k row → is_direct row ≡ false → IsStep i r router row
  step r k router row er ek indirect =
      let other = other_is r (next_router i router row) (next_good r k router row er ek indirect) in
      let s = other.0 in
      let n = next_is i router row s other.1 in
      let port = n.0 in
      let their = at_below i.routers s (owner_is i port.cable row.next s n.2).1 in
      let has = owner_has_port i port.cable row.next s n.2 in
      let theirs = at_one i.routers s has.router their.0 has.known their.1 in
      let near = one_less_is row (same_row (slice_get i.routers s) row)
      (sym (ap (bad_step i row) other.1) ∙ step_good r k router row er ek indirect) in
      let found : same_row (Some their.0) row ≡ Some near.0 = sym (ap (λ o. same_row o row) their.1) ∙ near.1 in
      let w = find_at (λ x. x.start == row.start && x.end == row.end) their.0.rows near.0 found in
      record {
        port = port;
        port_at = n.1;
        next = s;
        owned = n.2;
        other = sym (ap (is_no_other r) other.1) ∙ next_good r k router row er ek indirect;
        their = their.0;
        their_at = their.1;
        on_cable =
            any_at (λ p. p.cable == port.cable) their.0.ports has.place has.port
            (subst (λ (r : Router). At r.ports has.place has.port) theirs has.at) (eq-eqb _ _ has.on);
        place = w.0;
        offered = near.0;
        offered_at = w.1;
        same = w.2;
        nearer = near.2;
      }

  -- a direct row that leaves by a cable is for that cable
  pub home_is : (s k : ℕ) (router : Router) (o : Row) (cable : ℕ) → At i.routers s router → At router.rows k o → is_direct o ≡ true
      → leaves_by cable router o ≡ true → cable_of i o ≡ Some cable
  home_is s k router o cable er ek direct by =
      let good = (row_good s k router o er ek).1 in
      let d = direct_is o (port_on router good.0) direct (direct_good s k router o good.0 er ek good.1) in
      let w = index_at (λ (p : Port). p.cable == good.0) router.ports d.0 d.1 in
      let here : (w.0.cable == cable) ≡ true =
      sym (ap (λ q. on q (λ (p : Port). p.cable == cable)) (ap (slice_get router.ports) d.2 ∙ w.1)) ∙ by in
      good.1 ∙ ap Some (sym (eqb-true _ _ w.2) ∙ eqb-true _ _ here)

  -- rows of the same range are for the same cable
  pub alike : (a b : Row) → same_range a b ≡ true → cable_of i a ≡ cable_of i b
  alike a b e =
      let w = ends_of a b e in
      ap (λ n. index_of (λ (c : Cable). n == c.start && a.end == c.end) i.cables) w.0
      ∙ ap (λ n. index_of (λ (c : Cable). b.start == c.start && n == c.end) i.cables) w.1

  -- where the row of a router on the cable doesn't leave by it, or else from there on, a router on the cable offers its
  -- range there, no farther
  pub told : (row : Row) (cable fuel : ℕ) → (cable_of i row ≡ Some cable → ⊥) → (s k : ℕ) (router : Router) (o : Row)
      → At i.routers s router → At router.rows k o → is_on cable router ≡ true → same_range o row ≡ true → o.distance < fuel
      → IsTold i cable row o.distance
  told row cable zero apart s k router o er ek here same low = absurd (omega (arith, low))
  told row cable (suc fuel) apart s k router o er ek here same low =
      elim (cases_Bool (leaves_by cable router o)) [
        | inr not_by ↦ record {
          teller = s;
          their = router;
          their_at = er;
          on_cable = here;
          place = k;
          offered = o;
          offered_at = ek;
          offer = offer_when row cable s k router o er ek same not_by;
          near = omega arith;
        }
        | inl by ↦ elim (cases_Bool (is_direct o)) [
          | inl direct ↦ absurd (apart (sym (alike o row same) ∙ home_is s k router o cable er ek direct by))
          | inr indirect ↦
              let n = step s k router o er ek indirect in
              let there : n.port.cable ≡ cable = leaves_is cable router o n.port n.port_at by in
              let w =
              told row cable fuel apart n.next n.place n.their n.offered n.their_at n.offered_at
              (subst (λ c. is_on c n.their ≡ true) there n.on_cable) (same_chain n.offered o row n.same same)
              (let less = n.nearer in omega (arith, less, low)) in
              record {
                teller = w.teller;
                their = w.their;
                their_at = w.their_at;
                on_cable = w.on_cable;
                place = w.place;
                offered = w.offered;
                offered_at = w.offered_at;
                offer = w.offer;
                near = let less = n.nearer in let near = w.near in omega (arith, less, near);
              }
        ]
      ]
    where
      offer_when : (row : Row) (cable s k : ℕ) (router : Router) (o : Row) → At i.routers s router → At router.rows k o
          → same_range o row ≡ true → leaves_by cable router o ≡ false → is_offer cable row router o ≡ true
      offer_when row cable s k router o er ek same not_by =
          and_from _ _ (and_from _ _ same (row_good s k router o er ek).0) (ap not not_by)

      leaves_is : (cable : ℕ) (router : Router) (o : Row) (port : Port) → At router.ports o.port port → leaves_by cable router o ≡ true
          → port.cable ≡ cable
      leaves_is cable router o port at by = eqb-true _ _ (sym (ap (λ q. on q (λ (p : Port). p.cable == cable)) at) ∙ by)

  -- a row that isn't direct isn't for the cable of a port of its router
  pub away : (r k : ℕ) (router : Router) (row : Row) (n : ℕ) (port : Port) → At i.routers r router → At router.rows k row
      → is_direct row ≡ false → At router.ports n port → cable_of i row ≡ Some port.cable → ⊥
  away r k router row n port er ek indirect ep of =
      let none = indirect_is row (port_on router port.cable) indirect (direct_good r k router row port.cable er ek of) in
      let some = index_found (λ (p : Port). p.cable == port.cable) router.ports n port ep (eq-eqb port.cable port.cable refl) in
      not_both (port_on router port.cable) some.0 none some.1

  -- a router that offers the range of a row, nearer by two or more, on a cable of the row's router
  nearer_one : (router : Router) (row : Row) (n : ℕ) (port : Port) (most : ℕ) → At router.ports n port
      → IsTold i port.cable row most → suc most < row.distance → has_nearer_offer i router row ≡ true
  nearer_one router row n port most ep told less =
      any_at (λ (p : Port). list_any (offers_nearer p.cable row) i.routers) router.ports n port ep
      (any_at (offers_nearer port.cable row) i.routers told.teller told.their told.their_at
      (and_from _ _ told.on_cable
      (any_at (is_nearer_offer port.cable row told.their) told.their.rows told.place told.offered told.offered_at
      (and_from _ _ told.offer (lt-ltb (suc told.offered.distance) row.distance (let near = told.near in omega (arith, near, less)))))))

  -- so no router offers the range of a settled row nearer
  pub none_nearer : IsSettled i → (r k : ℕ) (router : Router) (row : Row) → At i.routers r router → At router.rows k row
      → is_direct row ≡ false → has_nearer_offer i router row ≡ false
  none_nearer settled r k router row er ek indirect =
      let whole : may_change i router row ≡ false =
      sym (row_test r k router row (may_change i) er ek) ∙ settled (place.Row (suc r) (suc k)) in
      let second : (not (is_direct row) && has_nearer_offer i router row) ≡ false = (or_parts _ _ whole).1 in
      ap (λ b. not b && has_nearer_offer i router row) (sym indirect) ∙ second

  pub offered_by_next : IsSettled i → (r k : ℕ) (router : Router) (row : Row) → At i.routers r router → At router.rows k row
      → is_direct row ≡ false → IsOfferedByNext i router row
  offered_by_next settled r k router row er ek indirect =
      let n = step r k router row er ek indirect in
      let apart : cable_of i row ≡ Some n.port.cable → ⊥ = away r k router row row.port n.port er ek indirect n.port_at in
      let less = n.nearer in
      record {
        port = n.port;
        port_at = n.port_at;
        next = n.next;
        owned = n.owned;
        their = n.their;
        their_at = n.their_at;
        on_cable = n.on_cable;
        place = n.place;
        offered = n.offered;
        offered_at = n.offered_at;
        offer =
            elim (cases_Bool (leaves_by n.port.cable n.their n.offered)) [
              | inr not_by ↦ and_from _ _
                  (and_from _ _ n.same (row_good n.next n.place n.their n.offered n.their_at n.offered_at).0) (ap not not_by)
              | inl by ↦ elim (cases_Bool (is_direct n.offered)) [
                | inl direct ↦ absurd (apart (sym (alike n.offered row n.same)
                    ∙ home_is n.next n.place n.their n.offered n.port.cable n.their_at n.offered_at direct by))
                | inr further ↦
                    let m = step n.next n.place n.their n.offered n.their_at n.offered_at further in
                    let there : m.port.cable ≡ n.port.cable =
                    eqb-true _ _ (sym (ap (λ q. on q (λ (p : Port). p.cable == n.port.cable)) m.port_at) ∙ by) in
                    let w =
                    told row n.port.cable (suc m.offered.distance) apart m.next m.place m.their m.offered m.their_at m.offered_at
                    (subst (λ c. is_on c m.their ≡ true) there m.on_cable) (same_chain m.offered n.offered row m.same n.same)
                    (omega arith) in
                    let nearer = nearer_one router row row.port n.port m.offered.distance n.port_at w (let two = m.nearer in omega (arith, two, less)) in
                    absurd (true≢false (sym nearer ∙ none_nearer settled r k router row er ek indirect))
              ]
            ];
        nearer = less;
      }

  -- no router on a cable of the row's router has its range nearer by two or more, by whichever port
  pub near_enough : IsSettled i → (r k : ℕ) (router : Router) (row : Row) → At i.routers r router → At router.rows k row
      → is_direct row ≡ false → (n : ℕ) (port : Port) → At router.ports n port → (s l : ℕ) (their : Router) (o : Row)
      → At i.routers s their → At their.rows l o → is_on port.cable their ≡ true → same_range o row ≡ true → row.distance ≤ suc o.distance
  near_enough settled r k router row er ek indirect n port ep s l their o es el here same =
      elim (cases_lt (suc o.distance) row.distance) [
        | inr ge ↦ ge
        | inl lt ↦
            let w =
            told row port.cable (suc o.distance) (away r k router row n port er ek indirect ep) s l their o es el here same (omega arith) in
            absurd (true≢false (sym (nearer_one router row n port o.distance ep w lt) ∙ none_nearer settled r k router row er ek indirect))
      ]
