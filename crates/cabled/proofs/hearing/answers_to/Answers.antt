use Rattle.cabled.proofs.Few.{asked_few}
use Rattle.router.specs.Forwarding.{course}
use Rattle.cabled.proofs.hearing.answers_to.Goals as goal

pub returns-in_ok-queue-in-Real-clause-few : goal.returns-in_ok-queue-in-Real-clause-few
returns-in_ok-queue-in-Real-clause-few g c =
    let made = (c.in_ok-made-in-Real.ensures {u = tt}).ok in
    let queue = (c.in_ok-queue-in-Real.ensures {u = tt}).ok in
    rw (queue, made)
    (asked_few c.args.router.now
    (course c.args.router.now.ports c.args.router.now.routes c.args.heard.now.port c.args.heard.now.link c.args.view.now.hops
    c.args.view.now.target).ending c.args.view.now)
