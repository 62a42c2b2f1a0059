use Rattle.std.proofs.Common.{◌++◌, Ok, subst, sym, ℕ}
use Rattle.capture_feed.proofs.Leading.{underway_ends, underway_more}
use Rattle.capture_feed.proofs.feed.Feed.feed.Goals as goal
use Rattle.capture_feed.specs.Feeds.{IsFed, IsStep}
use Rattle.capture_feed.specs.Reads.{left_of}
use Rattle.pcapng.specs.declared.fault.Fault.{Fault}

pub loop-after-preserved : goal.loop-after-preserved
loop-after-preserved g c =
    let now = c.loop-after.self in
    let step = subst (λ o. IsStep g.L.Listen.heard now.at (now.kept ++ c.loop-after.rest.now) c.loop-after.listener (left_of {E = ℕ × Fault} (Ok o))
    c.step.new.self.at c.step.new.self.kept c.step.new.listener) c.in-Ok-Some.field-0-is c.in-Ok-Some.ensures.step in (
      c.in-Ok-Some.ensures.open,
      underway_more g.L.Listen.heard _ _ _ now.at c.step.new.self.at (now.kept ++ c.loop-after.rest.now) c.step.new.self.kept _ _ _
          c.loop-after.invariant.1 step.0 step.1,
    )

pub returns-in-Ok-None-clause-fed : goal.returns-in-Ok-None-clause-fed
returns-in-Ok-None-clause-fed g c = λ is_open.
    let now = c.loop-after.self in
    let step = subst (λ o. IsStep g.L.Listen.heard now.at (now.kept ++ c.loop-after.rest.now) c.loop-after.listener (left_of {E = ℕ × Fault} (Ok o))
    c.step.new.self.at c.step.new.self.kept c.step.new.listener) c.in-Ok-None.field-0-is c.in-Ok-None.ensures.step in
    subst (λ r. IsFed g.L.Listen.heard c.args.self.now.at (c.args.self.now.kept ++ c.args.piece.now) c.args.listener.now r c.step.new.self.at
    c.step.new.self.kept c.step.new.listener) (sym c.in-Ok-None.ensures.open)
    (underway_ends g.L.Listen.heard _ _ _ now.at c.step.new.self.at (now.kept ++ c.loop-after.rest.now) c.step.new.self.kept _ _
    c.loop-after.invariant.1 step)
