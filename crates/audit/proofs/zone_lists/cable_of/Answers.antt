use Rattle.std.proofs.Common.{◌∙◌, ap, sym, position}
use Rattle.audit.specs.ZoneLists.{is_list_for}
use Rattle.audit.proofs.CableOrder.{only_list_cable}
use Rattle.audit.proofs.Finding.{index_position}
use Rattle.audit.proofs.Firsts.{item_at}
use Rattle.audit.proofs.zone_lists.cable_of.Goals as goal

pub returns-then-is_for : goal.returns-then-is_for
returns-then-is_for c =
    let found = c.in-Some.ensures in
    let at = item_at c.args.image.now.cables _ c.args.hint _ c.cables-cables.ensures.value found.lookup.3.0 found.lookup.1 in
    only_list_cable c.args.image.now c.args.list.now c.args.hint c.in-Some.c.now c.requires at (sym c.is_for.ensures ∙ c.if-is_for.true)

pub returns : goal.returns
returns c = c.search_cables.ensures
    ∙ (ap (position (is_list_for c.args.list.now)) c.cables-cables.ensures.value
    ∙ index_position (is_list_for c.args.list.now) c.args.image.now.cables)
