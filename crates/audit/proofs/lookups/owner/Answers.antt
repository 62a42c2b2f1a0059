use Rattle.std.proofs.Common.{◌∙◌, ap, sym, position}
use Rattle.audit.proofs.Finding.{index_position}
use Rattle.audit.proofs.Firsts.{item_at}
use Rattle.audit.proofs.Owners.{has_seat, owner_is, only_router}
use Rattle.audit.proofs.lookups.owner.Goals as goal

pub returns-then-has_seat : goal.returns-then-has_seat
returns-then-has_seat c =
    let found = c.in-Some.ensures in
    let at = item_at c.args.image.now.routers _ c.args.hint _ c.routers-routers.ensures.value found.lookup.3.0 found.lookup.1 in
    only_router c.args.cable c.args.address c.args.image.now c.args.hint c.in-Some.router.now c.requires at (sym c.has_seat.ensures
    ∙ c.if-has_seat.true)

pub returns : goal.returns
returns c =
    let has = has_seat c.args.cable c.args.address in
    c.search_routers.ensures
    ∙ (ap (position has) c.routers-routers.ensures.value
    ∙ (index_position has c.args.image.now.routers ∙ owner_is c.args.cable c.args.address c.args.image.now))
