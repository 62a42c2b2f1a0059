use Rattle.frozen.specs.Events.{Drained}
use Rattle.frozen.specs.Promises.{AreAllAskedFor, AreAllCarried, AreAllHeard, HasHops, IsEachOnce, LooksUp}
use Rattle.frozen.proofs.frozen.Frozen.drain.Given as goal

abbrev pub invariant-loop-turn : goal.invariant-loop-turn
invariant-loop-turn g l =
    Drained l.initial.self l._turn l.self × IsEachOnce l.self × HasHops l.self × AreAllCarried l.self
    × AreAllAskedFor l.self × AreAllHeard l.self × (LooksUp l.initial.self → LooksUp l.self)
