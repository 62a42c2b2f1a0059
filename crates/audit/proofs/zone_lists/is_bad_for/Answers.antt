use Rattle.std.proofs.Common.{◌≤◌, ◌∙◌, ap, sym, subst, not, length, List, ℕ, arith}
use Rattle.at_base.specs.Limits.{max_zones}
use Rattle.audit.specs.ZoneLists.{has_double, is_list_for}
use Rattle.audit.proofs.CableOrder.{no_double}
use Rattle.audit.proofs.Finding.{index_within}
use Rattle.audit.proofs.Firsts.{item_at, end_of}
use Rattle.audit.proofs.ListPlaces.{bad_for}
use Rattle.audit.proofs.SameZones.{AreZones}
use Rattle.audit.proofs.zone_lists.is_bad_for.Goals as goal

pub are_zones_of-requires-clause-once : goal.are_zones_of-requires-clause-once
are_zones_of-requires-clause-once c =
    let found = c.in-Some.ensures in
    let at = item_at c.args.image.now.cables _ c.args.c _ c.cables.ensures.value found.lookup.3.0 found.lookup.1 in
    ap has_double c.as_slice.ensures ∙ no_double c.args.image.now c.args.c c.in-Some.cable.now c.requires.cables at

pub are_zones_of-requires-clause-few : goal.are_zones_of-requires-clause-few
are_zones_of-requires-clause-few c =
    let found = c.in-Some.ensures in
    let at = item_at c.args.image.now.cables _ c.args.c _ c.cables.ensures.value found.lookup.3.0 found.lookup.1 in
    let P : List (List ℕ) → Type 0 = λ zones. length zones ≤ max_zones in
    subst P (sym c.as_slice.ensures) (c.cables.ensures.bounded.each_cable c.args.c c.in-Some.cable.now at).few

pub returns-in-Some : goal.returns-in-Some
returns-in-Some c =
    let found = c.in-Some.ensures in
    let at = item_at c.args.image.now.cables _ c.args.c _ c.cables.ensures.value found.lookup.3.0 found.lookup.1 in
    ap not (c.are_zones_of.ensures ∙ (ap (λ zones. AreZones zones c.as_slice-in-Some.result.now) c.as_slice.ensures
    ∙ ap (AreZones c.in-Some.cable.now.zones) c.as_slice-in-Some.ensures))
    ∙ bad_for c.args.image.now c.args.list.now c.args.c c.in-Some.cable.now c.requires.complete c.requires.cable at

pub returns-in-None : goal.returns-in-None
returns-in-None c =
    let none = c.in-None.ensures in
    let past = end_of c.args.image.now.cables _ c.args.c c.cables.ensures.value none.lookup.3 in
    let within = index_within (is_list_for c.args.list.now) c.args.image.now.cables c.args.c c.requires.cable in
    absurd (omega (arith, past, within))
