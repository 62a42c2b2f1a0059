use Rattle.audit.proofs.StraightRows.{straight_keeps}
use Rattle.audit.proofs.rows.bad_row.Goals as goal

pub returns-then-straight : goal.returns-then-straight
returns-then-straight c =
    straight_keeps c.args.rule c.args.image.now c.routers-routers.ensures.bounded c.requires.cables (c.requires.rows c.if-straight.true)
