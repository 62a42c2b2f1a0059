use Rattle.std.proofs.Common.{◌∙◌, ◌≤◌, [], ap, arith, length, subst, sym}
use Rattle.std.specs.List.{list_any}
use Rattle.at_base.specs.Spelling.{IsValue}
use Rattle.freeze.proofs.OfOne.{in_version, made_of_one}
use Rattle.freeze.proofs.Valid.{length-map, one_on}
use Rattle.freeze.specs.Frozen.{frozen_of, is_long}
use Rattle.freeze.specs.Valid.{AreNodes, AreRouters}
use Rattle.image_parts.proofs.Values.{image_value}
use Rattle.table_image.specs.Internet.{internet}
use Rattle.table_image.specs.Spelling.{image_spelling}
use Rattle.zip_zones.specs.Zones.{most_names}
use Rattle.freeze.proofs.alone.image_of_one.Goals as goal

pub returns-clause-refused : goal.returns-clause-refused
returns-clause-refused g c =
    let plan = c.args.plan.now in
    let h = c.args.router.now in
    let v = c.version_for-version.result in
    let short = in_version (list_any (λ c. is_long (length c.zones)) plan.cables) (is_long (most_names h.zones)) v c.version_for-version.ensures in
    let cables_are = c.in_ok-cables.ensures {u = tt} in
    let routers_are = c.in_ok-routers.ensures {u = tt} in
    let cs = c.in_ok-cables.cables.items in
    let rs = c.in_ok-routers.routers.items in
    let count = ap length cables_are.ok ∙ length-map frozen_of plan.cables in
    let few_c = subst (λ n. n ≤ 200) (sym count) c.recall_sound.ensures.few_cables in
    let one = ap length routers_are.ok in
    let ns = c.new.result.items in
    let none = c.new.ensures.items in
    let few_n = ap length none in
    let i = internet v cs rs ns in
    made_of_one c.make.result (IsValue image_spelling i) i c.make.ensures.made
    (image_value i few_c (omega (arith, one)) (omega (arith, few_n)) (cables_are.valid v short.0)
    (subst (λ n. AreRouters v n rs) (sym count) (routers_are.valid (length plan.cables) (one_on plan.cables c.args.planned.now c.requires.sound) c.requires.ports short.1))
    (subst (λ l. AreNodes v (length cs) l) (sym none) tt))
