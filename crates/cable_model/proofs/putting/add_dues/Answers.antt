use Rattle.std.proofs.Common.{ap, ◌∙◌}
use Rattle.cable_model.proofs.Indexed.{all_rest, dues_there}
use Rattle.cable_model.specs.Order.{all_placed}
use Rattle.cable_model.specs.Outcomes.{is_for_as, link_of}
use Rattle.cable_model.specs.Places.{dues_at, has_key}
use Rattle.cable_model.specs.Waits.{due_key}
use Rattle.cable_model.specs.declared.seats.Key.TheVariants.{Cable}
use Rattle.cable_model.proofs.putting.add_dues.Goals as goal

pub returns-clause-added : goal.returns-clause-added
returns-clause-added c =
    let ss = c.args.seats.now in
    let test = is_for_as (link_of c.args.to.now) c.args.to.now c.args.sender in
    c.add_those.ensures.added
    ∙ ap (all_placed due_key c.args.due.now.dues)
    (ap (λ link. dues_at (is_for_as link c.args.to.now c.args.sender) c.as_slice.result.now c.args.stamp c.args.put c.on-indices.result.now)
    c.link_of-link.ensures
    ∙ (ap (λ seats. dues_at test seats c.args.stamp c.args.put c.on-indices.result.now) c.as_slice.ensures
    ∙ (ap (dues_at test ss c.args.stamp c.args.put) c.on-indices.ensures.value
    ∙ dues_there (has_key (Cable c.args.cable)) test ss c.args.stamp c.args.put 0 ss (all_rest ss))))
