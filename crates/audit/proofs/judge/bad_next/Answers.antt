use Rattle.audit.proofs.StepsNext.{steps_keep_next}
use Rattle.audit.proofs.judge.bad_next.Goals as goal

pub returns-in-None : goal.returns-in-None
returns-in-None c = steps_keep_next c.args.image.now c.routers-routers.ensures.bounded (rw c.in-None.is at c.requires.steps)
