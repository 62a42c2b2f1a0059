use Rattle.routing.proofs.Coming.{no_ticks}
use Rattle.routing.proofs.counting.Counting.pass.Goals as goal

pub returns-then-count-eq0-clause-came : goal.returns-then-count-eq0-clause-came
returns-then-count-eq0-clause-came g c = no_ticks g.C.Cabled.acts c.args.time c.args.count _ _ _ c.if-count-eq0.true
