use Rattle.std.proofs.Common.{◌≡◌, take}
use Rattle.std.specs.List.{AllByRecursion as Each}
use Rattle.frozen.specs.Events.{Happened}
use Rattle.frozen.specs.Promises.{AreAllAskedFor, AreAllCarried, AreAllHeard, HasHops, IsEachOnce, LooksUp, OnlyAsks}
use Rattle.frozen.proofs.frozen.Frozen.run.Given as goal

abbrev pub invariant-loop-event : goal.invariant-loop-event
invariant-loop-event g l =
    (l.done ≡ l.event-index) × Happened l.initial.self (take l.event-index l.events) l.self × IsEachOnce l.self × HasHops l.self
    × AreAllCarried l.self × AreAllAskedFor l.self × AreAllHeard l.self
    × (LooksUp l.initial.self → Each (OnlyAsks l.initial.self.internet) l.events → LooksUp l.self)
