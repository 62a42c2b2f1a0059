-- The places of rows that may change.
use Rattle.std.proofs.Common.{◌≡◌, ℕ, zero, suc, ◌<◌, ◌≤◌, inl, inr, false, None, length, slice_get, refl, arith}
use Rattle.std.proofs.lemmas.Bool.{cases_lt}
use Rattle.at_base.specs.declared.error.Place.TheVariants as place
use Rattle.audit.specs.Firsts.{FirstPlace}
use Rattle.audit.specs.Places.{on}
use Rattle.audit.proofs.Firsts.{on_past}
use Rattle.settled.specs.Settling.{changes, may_change}
use Rattle.table_image.specs.Internet.{Internet}

-- no row may change, where n is past the last router and none of an earlier one may
pub none_changes : (i : Internet) (n : ℕ) → length i.routers ≤ n
    → ((s : ℕ) → s < n → (k : ℕ) → changes i (place.Row (suc s) (suc k)) ≡ false) → FirstPlace (changes i) None
none_changes i n past each (place.Row zero k) = refl
none_changes i n past each (place.Row (suc s) zero) = refl
none_changes i n past each (place.Row (suc s) (suc k)) =
    elim (cases_lt s n) [
      | inl lt ↦ each s lt k
      | inr ge ↦ on_past i.routers s (λ router. on (slice_get router.rows k) (may_change i router)) (omega arith)
    ]
none_changes i n past each (place.Missing r k) = refl
none_changes i n past each (place.List r k) = refl
none_changes i n past each (place.Cable k) = refl
none_changes i n past each (place.Port r p) = refl
none_changes i n past each (place.Node k) = refl
