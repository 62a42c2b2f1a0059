use Rattle.std.proofs.Common.{◌≡◌, ◌++◌, suc, ◌∷◌, ap, sym, ◌∙◌, drop, slice_get, Some}
use Rattle.std.proofs.Math.Seq.{drop-cons}
use Rattle.std.proofs.lemmas.Option.{slice_get-get_or}
use Rattle.table_image.specs.declared.zone_list.ZoneList.{ZoneList}
use Rattle.image_zones.specs.ZoneMaps.{zone_map}
use Rattle.image_zones.proofs.ZoneTables.{front_of_lists}
use Rattle.image_zones.proofs.zone_maps.put_all.Goals as goal

pub put-requires-clause-map : goal.put-requires-clause-map
put-requires-clause-map c =
    let lists = c.args.lists.now in
    let l = c.list-item.result in
    let i = c.loop-list.list-index in
    let next : drop i lists ≡ l ∷ drop (suc i) lists = drop-cons lists i l c.loop-list-test.true
    ∙ ap (λ (x : ZoneList). x ∷ drop (suc i) lists) (sym c.list-item.is) in
    let whole : c.loop-list.table ++ zone_map (l ∷ drop (suc i) lists) ≡ zone_map lists =
    ap (λ more. c.loop-list.table ++ zone_map more) (sym next) ∙ c.loop-list.invariant in
    front_of_lists c.loop-list.table l (drop (suc i) lists) lists whole c.requires.map

pub put-requires-clause-few : goal.put-requires-clause-few
put-requires-clause-few c =
    let there = slice_get-get_or c.args.lists.now c.loop-list.list-index c.list-item.result c.loop-list-test.true in
    let is : slice_get c.args.lists.now c.loop-list.list-index ≡ Some c.list-item.result = there
    ∙ ap (λ (x : ZoneList). Some x) (sym c.list-item.is) in
    c.requires.zones c.loop-list.list-index c.list-item.result is
