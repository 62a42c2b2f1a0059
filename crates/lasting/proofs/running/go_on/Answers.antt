use Rattle.lasting.proofs.Run.{runs_on}
use Rattle.lasting.proofs.running.go_on.Goals as goal

pub returns-clause-ran : goal.returns-clause-ran
returns-clause-ran g c =
    λ run. runs_on c.tick.result c.args.world.now c.tick.new.self run c.tick.ensures.plan c.tick.ensures.now c.tick.ensures.ticked.plays
