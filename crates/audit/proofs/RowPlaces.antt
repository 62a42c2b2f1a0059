-- The order in which the rules about rows try places.
use Rattle.std.proofs.Common.{◌≡◌, ℕ, zero, suc, ◌<◌, ◌≤◌, inl, inr, false, Some, None, length, slice_get, refl, ap, ◌∙◌, arith}
use Rattle.std.proofs.lemmas.Bool.{cases_lt}
use Rattle.at_base.specs.declared.error.Place.{Place}
use Rattle.at_base.specs.declared.error.Place.TheVariants as place
use Rattle.table_image.specs.Internet.{Internet}
use Rattle.audit.specs.Places.{on}
use Rattle.audit.specs.Verdicts.{IsBefore}
use Rattle.audit.specs.Firsts.{FirstNumber, FirstPlace}
use Rattle.audit.specs.Rules.{lacks_row, row_breaks, lack_breaks, breaks_rows}
use Rattle.audit.specs.declared.rule.Rule.{Rule}
use Rattle.audit.specs.declared.rule.Rule.TheVariants.{CablesInOrder, StationsAddressed, RowsCoverCables, DirectRowsDirect, DistancesFit}
use Rattle.audit.specs.declared.rule.Rule.TheVariants.{NextRoutersExist, DistancesFall, ZoneListsAgree, NodesServed, MappingsTrue}
use Rattle.audit.proofs.Firsts.{on_past}

-- a place with the router or cable number 0 lacks no row
no_router : (rule : Rule) (i : Internet) (k : ℕ) → lack_breaks rule i zero k ≡ false
no_router CablesInOrder i k = refl
no_router StationsAddressed i k = refl
no_router RowsCoverCables i k = refl
no_router DirectRowsDirect i k = refl
no_router DistancesFit i k = refl
no_router NextRoutersExist i k = refl
no_router DistancesFall i k = refl
no_router ZoneListsAgree i k = refl
no_router NodesServed i k = refl
no_router MappingsTrue i k = refl

no_cable : (rule : Rule) (i : Internet) (r : ℕ) → lack_breaks rule i (suc r) zero ≡ false
no_cable CablesInOrder i r = refl
no_cable StationsAddressed i r = refl
no_cable RowsCoverCables i r = refl
no_cable DirectRowsDirect i r = refl
no_cable DistancesFit i r = refl
no_cable NextRoutersExist i r = refl
no_cable DistancesFall i r = refl
no_cable ZoneListsAgree i r = refl
no_cable NodesServed i r = refl
no_cable MappingsTrue i r = refl

-- past the last router, no row is lacking
past_lack : (rule : Rule) (i : Internet) (r k : ℕ) → length i.routers ≤ r → lack_breaks rule i (suc r) (suc k) ≡ false
past_lack CablesInOrder i r k past = refl
past_lack StationsAddressed i r k past = refl
past_lack RowsCoverCables i r k past = on_past i.routers r (λ router. on (slice_get i.cables k) (lacks_row router)) past
past_lack DirectRowsDirect i r k past = refl
past_lack DistancesFit i r k past = refl
past_lack NextRoutersExist i r k past = refl
past_lack DistancesFall i r k past = refl
past_lack ZoneListsAgree i r k past = refl
past_lack NodesServed i r k past = refl
past_lack MappingsTrue i r k past = refl

-- no place of router r breaks the rule
abbrev pub Keeps : Rule → Internet → ℕ → Type 0
Keeps rule i r = (k : ℕ) → (breaks_rows rule i (place.Row (suc r) (suc k)) ≡ false)
    × (breaks_rows rule i (place.Missing (suc r) (suc k)) ≡ false)

-- k is the first cable without a row that breaks the rule at router r; no row of r breaks it, and no earlier router
-- does
pub first_missing_place : (rule : Rule) (i : Internet) (r k : ℕ) → ((s : ℕ) → s < r → Keeps rule i s)
    → ((l : ℕ) → breaks_rows rule i (place.Row (suc r) (suc l)) ≡ false)
    → FirstNumber (λ k. breaks_rows rule i (place.Missing (suc r) (suc k))) (Some k)
    → FirstPlace (breaks_rows rule i) (Some (place.Missing (suc r) (suc k)))
first_missing_place rule i r k earlier rows here = (here.0, before)
  where
    before : (q : Place) → IsBefore q (place.Missing (suc r) (suc k)) → breaks_rows rule i q ≡ false
    before (place.Row zero l) h = refl
    before (place.Row (suc s) zero) h = refl
    before (place.Row (suc s) (suc l)) h =
        elim (cases_lt s r) [
          | inl lt ↦ (earlier s lt l).0
          | inr ge ↦ let same : s ≡ r = omega (arith, h) in ap (λ n. breaks_rows rule i (place.Row (suc n) (suc l))) same ∙ rows l
        ]
    before (place.Missing zero l) h = no_router rule i l
    before (place.Missing (suc s) zero) h = no_cable rule i s
    before (place.Missing (suc s) (suc l)) (inl lt) = (earlier s (omega arith) l).1
    before (place.Missing (suc s) (suc l)) (inr w) =
        ap (λ n. breaks_rows rule i (place.Missing n (suc l))) w.0 ∙ here.1 l (omega (arith, w.1))
    before (place.List s l) h = refl
    before (place.Cable l) h = refl
    before (place.Port s l) h = refl
    before (place.Node l) h = refl

-- no router breaks the rule, where n is past the last one
pub no_bad_row : (rule : Rule) (i : Internet) (n : ℕ) → length i.routers ≤ n → ((s : ℕ) → s < n → Keeps rule i s)
    → FirstPlace (breaks_rows rule i) None
no_bad_row rule i n past each (place.Row zero k) = refl
no_bad_row rule i n past each (place.Row (suc s) zero) = refl
no_bad_row rule i n past each (place.Row (suc s) (suc k)) =
    elim (cases_lt s n) [
      | inl lt ↦ (each s lt k).0
      | inr ge ↦ on_past i.routers s (λ router. on (slice_get router.rows k) (row_breaks rule i s router)) (omega arith)
    ]
no_bad_row rule i n past each (place.Missing zero k) = no_router rule i k
no_bad_row rule i n past each (place.Missing (suc s) zero) = no_cable rule i s
no_bad_row rule i n past each (place.Missing (suc s) (suc k)) =
    elim (cases_lt s n) [
      | inl lt ↦ (each s lt k).1
      | inr ge ↦ past_lack rule i s k (omega arith)
    ]
no_bad_row rule i n past each (place.List r k) = refl
no_bad_row rule i n past each (place.Cable k) = refl
no_bad_row rule i n past each (place.Port r k) = refl
no_bad_row rule i n past each (place.Node k) = refl
