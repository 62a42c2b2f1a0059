use Rattle.audit.proofs.Firsts.{item_at}
use Rattle.audit.proofs.SpelledLists.{spelled_list}
use Rattle.audit.proofs.zone_lists.is_spelled_at.Goals as goal

pub returns-in-Some : goal.returns-in-Some
returns-in-Some c alike =
    let i = c.args.image.now in
    let router = c.args.router.now in
    let found = c.in-Some.ensures in
    let there = item_at router.lists _ c.args.k _ c.as_slice.ensures found.lookup.3.0 found.lookup.1 in
    let is = c.is_spelled_like.ensures in
    spelled_list i c.args.r c.args.k router c.in-Some.list.now c.args.cable.now c.requires.cables c.requires.at there c.requires.cable
    (is.complete alike) (is.range alike) (is.zones alike)
