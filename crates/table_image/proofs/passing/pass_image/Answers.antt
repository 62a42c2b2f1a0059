use Rattle.std.proofs.Common.{rules, refl, ap}
use Rattle.table_image.specs.Spelling.{image_spelling}
use Rattle.table_image.specs.declared.context.Context.{Context}
use Rattle.table_image.proofs.passing.pass_image.Goals as goal

pub returns : goal.returns
unfolding image_spelling
returns c =
    let front = c.in_ok-context.ensures in
    let routers = rw (← front.2) at c.in_ok-_routers.ensures in
    let nodes = rw (← front.2) at c.in_ok-_nodes.ensures in (
      record { version = front.0.0; cables = front.0.1; routers = routers.0; nodes = nodes.0 },
      rw (front.1, routers.1, nodes.1) refl,
      ap (λ (x : Context). x.cables) front.2,
    )

pub returns-in_err-_nodes : goal.returns-in_err-_nodes
unfolding image_spelling
returns-in_err-_nodes c =
    let front = c.in_ok-context.ensures in
    let routers = rw (← front.2) at c.in_ok-_routers.ensures in
    let nodes = rw (← front.2) at c.in_err-_nodes.ensures in
    rw (front.1, routers.1, nodes) (search rules)
