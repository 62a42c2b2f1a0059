-- Lists that are spelled like cables keep the rule about zone lists.
use Rattle.std.proofs.Common.{◌≡◌, ℕ, ◌≤◌, true, false, not, None, Some, length, slice_get, sym, ap, ◌∙◌}
use Rattle.table_image.specs.Internet.{Internet}
use Rattle.table_image.specs.declared.cable.Cable.{Cable}
use Rattle.table_image.specs.declared.zone_list.ZoneList.{ZoneList}
use Rattle.table_image.specs.declared.router.Router.{Router}
use Rattle.audit.specs.Places.{on}
use Rattle.audit.specs.Firsts.{FirstPlace}
use Rattle.audit.specs.GoodLists.{KeepsList}
use Rattle.audit.specs.Rules.{c1}
use Rattle.audit.specs.ZoneLists.{is_list_for, bad_list, lacks_list}
use Rattle.audit.proofs.CableOrder.{only_list_cable, no_double}
use Rattle.audit.proofs.Finding.{any_from}
use Rattle.audit.proofs.Firsts.{on_past, on_some, part_at}
use Rattle.audit.proofs.ListPlaces.{bad_for}
use Rattle.audit.proofs.SameZones.{AreZones, the_zones}

-- list k of a router, which is spelled like cable k, is good, and cable k has a list
pub spelled_list : (i : Internet) (r k : ℕ) (router : Router) (l : ZoneList) (c : Cable) → FirstPlace (c1 i) None
    → slice_get i.routers r ≡ Some router → slice_get router.lists k ≡ Some l → slice_get i.cables k ≡ Some c → l.complete ≡ true
    → is_list_for l c ≡ true → l.zones ≡ c.zones → KeepsList i r k
spelled_list i r k router l c kept at there cable complete for same =
    let zones = the_zones c.zones (no_double i k c kept cable) ∙ ap (AreZones c.zones) (sym same) in
    let good : bad_list i l ≡ false =
    sym (bad_for i l k c complete (sym (only_list_cable i l k c kept cable for)) cable) ∙ ap not (sym zones) in
    let has = any_from (λ l. is_list_for l c) router.lists k l there for in (
      part_at i.routers r router (λ router. router.lists) k l (λ router. bad_list i) false at there good,
      on_some i.routers r router (λ router. on (slice_get i.cables k) (lacks_list router)) false at
          (on_some i.cables k c (lacks_list router) false cable (ap not has)),
    )

-- no list past the router's last one breaks the rule, nor does a cable past the last one
pub past_lists : (i : Internet) (r k : ℕ) (router : Router) → slice_get i.routers r ≡ Some router → length router.lists ≤ k
    → length i.cables ≤ k → KeepsList i r k
past_lists i r k router at lists cables = (
  on_some i.routers r router (λ router. on (slice_get router.lists k) (bad_list i)) false at
      (on_past router.lists k (bad_list i) lists),
  on_some i.routers r router (λ router. on (slice_get i.cables k) (lacks_list router)) false at
      (on_past i.cables k (lacks_list router) cables),
)
