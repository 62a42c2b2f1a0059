use Rattle.std.proofs.Common.{arith}
use Rattle.text.proofs.Going.{on_ok}
use Rattle.routing.proofs.Coming.{no_ticks, ticks_happened}
use Rattle.routing.proofs.counting.Counting.+pass_all.Goals as goal

pub returns-then-count-eq0-clause-came : goal.returns-then-count-eq0-clause-came
returns-then-count-eq0-clause-came g t c = no_ticks g.C.Cabled.acts c.args.time c.args.count _ _ _ c.if-count-eq0.true

pub returns-clause-came : goal.returns-clause-came
returns-clause-came g t c =
    on_ok c.pass_all.result c.pass_all.ensures.came
    (λ others.
    ticks_happened g.C.Cabled.acts c.args.time c.args.count _ c.tick.new.self _ _ _ _ _ _ _ _ (omega (arith, c.if-count-eq0.false)) c.self.view_is
    (c.in_ok-tick.ensures {u = tt}).came others)
