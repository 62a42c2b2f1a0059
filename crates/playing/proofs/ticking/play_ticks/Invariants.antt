use Rattle.std.proofs.Common.{◌≡◌, None}
use Rattle.playing.specs.Lives.{HasLived}
use Rattle.playing.proofs.ticking.play_ticks.Given as goal

abbrev pub invariant-loop-tick : goal.invariant-loop-tick
invariant-loop-tick g l = record {
  plan : l.world.plan ≡ l.initial.world.plan;
  passed : l.world.now ≡ l._tick;
  going : l.world.stopped ≡ None;
  lived : HasLived l.initial.world l.initial.counts.items → HasLived l.world l.counts.items;
}
