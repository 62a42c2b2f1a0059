use Rattle.std.proofs.Common.{◌≤◌, ◌∙◌, length, sym, subst}
use Rattle.freeze.proofs.Values.{cable_value}
use Rattle.table_image.specs.Versions.{zone_limit}
use Rattle.freeze.proofs.cables.freeze_cable.Goals as goal

pub returns-clause-valid : goal.returns-clause-valid
returns-clause-valid c v few =
    let is = c.from_vec.ensures ∙ (c.in_ok-from_slice.ensures {u = tt}).items in
    cable_value v _ (subst (λ zs. length zs ≤ zone_limit v) (sym is) few) c.fit_cable.ensures
