use Rattle.std.proofs.Common.{◌≤◌, ◌∙◌, Err, IsOkUnless, Ok, Result, ap, drop, length, subst, sym}
use Rattle.std.specs.List.{list_any}
use Rattle.std.specs.Result.{OkIff}
use Rattle.at_base.specs.declared.error.Error.{Error}
use Rattle.at_base.specs.declared.error.Error.TheVariants.{Memory}
use Rattle.at_base.specs.Spelling.{IsValue}
use Rattle.freeze.proofs.Valid.{few_nodes, few_routers, length-map, less, neither_in}
use Rattle.image_parts.proofs.Values.{image_value}
use Rattle.freeze.specs.Frozen.{frozen_of, has_long_list, is_long, seats_after}
use Rattle.freeze.specs.Valid.{AreNodes, AreRouters}
use Rattle.table_image.specs.Internet.{internet}
use Rattle.table_image.specs.Spelling.{image_spelling}
use Rattle.freeze.proofs.image.fitting_image.Goals as goal

made : {X : Type 0} (r : Result X Error) (P : Type 0) (x : X) → OkIff r P x → P → IsOkUnless r Memory
made (Ok y) P x h p = tt
made (Err e) P x h p = elim (h p) [ ]

pub returns-clause-refused : goal.returns-clause-refused
returns-clause-refused g c =
    let plan = c.args.plan.now in
    let stations = c.args.stations.now in
    let seats = c.args.mappers.now in
    let v = c.args.version in
    let nodes = drop (length plan.routers) stations in
    let short =
    neither_in v (list_any (λ c. is_long (length c.zones)) plan.cables) (list_any has_long_list stations) c.requires.fits in
    let cables_are = (c.in_ok-cables.ensures {u = tt}) in
    let routers_are = (c.in_ok-routers.ensures {u = tt}) in
    let nodes_are = (c.in_ok-nodes.ensures {u = tt}) in
    let cs = c.in_ok-cables.cables.items in
    let rs = c.in_ok-routers.routers.items in
    let ns = c.in_ok-nodes.nodes.items in
    let count = ap length cables_are.ok ∙ length-map frozen_of plan.cables in
    let few_c = subst (λ n. n ≤ 200) (sym count) c.recall_sound.ensures.few_cables in
    let few_r = less (ap length routers_are.ok) (few_routers v plan.routers stations seats) c.recall_sound.ensures.few_routers in
    let few_n = less (ap length nodes_are.ok) (few_nodes v plan.nodes nodes (seats_after plan.routers seats)) c.recall_sound.ensures.few_nodes in
    let i = internet v cs rs ns in
    made c.make.result (IsValue image_spelling i) i c.make.ensures.made
    (image_value i few_c few_r few_n (cables_are.valid v short.0)
    (subst (λ n. AreRouters v n rs) (sym count) (routers_are.valid short.1 c.requires.few))
    (subst (λ n. AreNodes v n ns) (sym count) (nodes_are.valid c.requires.few)))
