use Rattle.std.proofs.Common.{◌∙◌, sym}
use Rattle.audit.proofs.Filter.{not_seen}
use Rattle.audit.proofs.stations.earlier_router_has.Goals as goal

pub returns-then-not-may_have : goal.returns-then-not-may_have
returns-then-not-may_have c =
    let unmarked = c.if-not-may_have.true in
    sym (not_seen c.args.seen.now c.args.image.now.routers c.args.r c.args.address c.args.hardware.now c.requires.seen
    (sym c.may_have.ensures ∙ unmarked))
