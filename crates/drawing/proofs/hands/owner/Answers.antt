use Rattle.std.proofs.Common.{◌∙◌, ap, position}
use Rattle.audit.proofs.Finding.{index_position}
use Rattle.audit.proofs.Owners.{has_seat, owner_is}
use Rattle.drawing.proofs.hands.owner.Goals as goal

pub returns-clause-value : goal.returns-clause-value
returns-clause-value c =
    let has = has_seat c.args.cable c.args.address in
    c.search_routers.ensures
    ∙ (ap (position has) c.routers.ensures.value
    ∙ (index_position has c.args.image.now.routers ∙ owner_is c.args.cable c.args.address c.args.image.now))
