-- The image of one router is of a version that holds it.
use Rattle.std.proofs.Common.{◌≡◌, Bool, true, false, ◌||◌, cond, Err, IsOkUnless, Ok, Result, refl, subst, sym}
use Rattle.std.specs.Result.{OkIff}
use Rattle.at_base.specs.declared.error.Error.{Error}
use Rattle.at_base.specs.declared.error.Error.TheVariants.{Memory}
use Rattle.freeze.specs.Valid.{IsNotInV1}
use Rattle.table_image.specs.declared.version.Version.{Version}
use Rattle.table_image.specs.declared.version.Version.TheVariants.{V1, V2}

-- what is made of valid parts has no other refusal than memory
pub made_of_one : {X : Type 0} (r : Result X Error) (P : Type 0) (x : X) → OkIff r P x → P → IsOkUnless r Memory
made_of_one (Ok y) P x h p = tt
made_of_one (Err e) P x h p = elim (h p) [ ]

by_case : (a b : Bool) → IsNotInV1 (cond (a || b) V2 V1) a × IsNotInV1 (cond (a || b) V2 V1) b
by_case true b = (tt, tt)
by_case false true = (tt, tt)
by_case false false = (refl, refl)

-- neither is so in version 1, where version 2 is taken if one of them is so
pub in_version : (a b : Bool) (v : Version) → v ≡ cond (a || b) V2 V1 → IsNotInV1 v a × IsNotInV1 v b
in_version a b v is = subst (λ w. IsNotInV1 w a × IsNotInV1 w b) (sym is) (by_case a b)
