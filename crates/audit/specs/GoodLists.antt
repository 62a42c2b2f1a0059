-- Zone lists that keep rule C8.
use Rattle.std.specs.Prelude.{◌≡◌, ℕ, suc, ◌<◌, false, List, Some, slice_get}
use Rattle.at_base.specs.declared.error.Place.TheVariants as place
use Rattle.table_image.specs.Internet.{Internet}
use Rattle.table_image.specs.declared.zone_list.ZoneList.{ZoneList}
use Rattle.audit.specs.Rules.{c8}
use Rattle.audit.specs.ZoneLists.{bad_list}

-- none of the lists is bad
abbrev pub AreGood : Internet → List ZoneList → Type 0
AreGood i lists = (k : ℕ) (l : ZoneList) → slice_get lists k ≡ Some l → bad_list i l ≡ false

-- no list of the routers below r breaks rule C8
abbrev pub AreGoodBelow : Internet → ℕ → Type 0
AreGoodBelow i r = (s : ℕ) → s < r → (k : ℕ) → c8 i (place.List (suc s) (suc k)) ≡ false

-- neither list k of router r nor the lack of one for cable k breaks rule C8
abbrev pub KeepsList : Internet → ℕ → ℕ → Type 0
KeepsList i r k = (c8 i (place.List (suc r) (suc k)) ≡ false) × (c8 i (place.Missing (suc r) (suc k)) ≡ false)

-- no place of router r breaks rule C8
abbrev pub KeepsLists : Internet → ℕ → Type 0
KeepsLists i r = (k : ℕ) → KeepsList i r k
