use Rattle.std.proofs.Common.{◌==◌, ◌++◌, Bool, List, ℕ, ap, length, refl, subst, sym, ◌∙◌, arith, true}
use Rattle.frozen.specs.Events.{DrainsTo, Undrained}
use Rattle.text.proofs.Going.{goes_none, goes_then, on_both, on_ok}
use Rattle.frozen_trace.proofs.Growth.{drain_full, drain_on, drain_out, drain_stops, drained_grows, prints, told_none, told_then}
use Rattle.frozen.specs.Runs.{pending_in}
use Rattle.text.specs.Going.{Goes}
use Rattle.frozen_trace.specs.Traces.{Draining, Stopping, all_printed, refused_line, told}
use Rattle.frozen_trace.proofs.playing.play_drain.Goals as goal

pub loop-turn-init : goal.loop-turn-init
loop-turn-init g c = (
  Undrained c.args.run.now,
  subst (λ (t : List ℕ). Goes (g.W.Write.contents c.args.output.now.writer) c.args.output.now.text.items t
      (g.W.Write.contents c.args.output.now.writer) c.args.output.now.text.items) (sym (told_none c.args.run.now))
      (goes_none (g.W.Write.contents c.args.output.now.writer) c.args.output.now.text.items),
  c.requires.known,
  refl,
)

pub print_from-requires : goal.print_from-requires
print_from-requires g c =
    let taken = c.in-Ok.ensures.drained in
    let grown = drained_grows c.loop-turn.run c.drain.new.self taken.number taken.drained in
    let printed =
    prints c.loop-turn.run c.drain.new.self grown.0 c.loop-turn.lines c.transcript-before.result.now grown.1
    c.loop-turn.invariant.2 c.transcript-before.ensures in
    record { inside = printed.inside; known = printed.frames }

pub returns-then-none_left-clause-played : goal.returns-then-none_left-clause-played
returns-then-none_left-clause-played g c =
    let run = c.args.run.now in
    let old = c.loop-turn.run in
    let new = c.drain.new.self in
    let taken = c.in-Ok.ensures.drained in
    let held = c.loop-turn.invariant in
    let first = drained_grows run old c.loop-turn._turn held.0 in
    let grown = drained_grows old new taken.number taken.drained in
    let printed = prints old new grown.0 c.loop-turn.lines c.transcript-before.result.now grown.1 held.2 c.transcript-before.ensures in (
      told run new,
      Draining run new c.args.most true
          (drain_out run old new c.loop-turn._turn c.args.most c.loop-turn-test.true held.0
          (subst (λ (b : Bool). DrainsTo old 1 b new) c.if-none_left.true taken)),
      subst (λ (t : List ℕ). Goes (g.W.Write.contents c.args.output.now.writer) c.args.output.now.text.items t
          (g.W.Write.contents c.print_from.new.output.writer) c.print_from.new.output.text.items)
          (ap (λ (t : List ℕ). told run old ++ t) printed.told_is ∙ sym (told_then run old new first.0 grown.0 first.1 grown.1))
          (goes_then _ _ _ c.args.output.now.text.items _ _ _ _ held.1 c.in_ok-print_from-in-Ok.ensures.gone),
    )

pub returns-in-Err-clause-played : goal.returns-in-Err-clause-played
returns-in-Err-clause-played g c =
    let run = c.args.run.now in
    let old = c.loop-turn.run in
    let new = c.drain.new.self in
    let held = c.loop-turn.invariant in
    let stop = drain_stops run old new c.loop-turn._turn c.args.most c.in-Err.error c.loop-turn-test.true held.0 c.in-Err.ensures.stopped in
    on_both c.refuse.result c.refuse.ensures.own c.refuse.ensures.gone
    (λ own p. (
      told run new ++ refused_line c.in-Err.error,
      Stopping run new c.args.most c.in-Err.error own stop.1,
      subst (λ r. Goes (g.W.Write.contents c.args.output.now.writer) c.args.output.now.text.items
          (told run r ++ refused_line c.in-Err.error)
          (g.W.Write.contents c.refuse.new.output.writer) c.refuse.new.output.text.items) (sym stop.0)
          (goes_then _ _ _ c.args.output.now.text.items _ _ _ _ held.1 p),
    ))

pub returns-in-Err-clause-known : goal.returns-in-Err-clause-known
returns-in-Err-clause-known g c =
    let stop =
    drain_stops c.args.run.now c.loop-turn.run c.drain.new.self c.loop-turn._turn c.args.most c.in-Err.error
    c.loop-turn-test.true c.loop-turn.invariant.0 c.in-Err.ensures.stopped in
    on_ok c.refuse.result c.refuse.ensures.own (λ own. c.loop-turn.invariant.2 ∙ ap all_printed (sym stop.0))

pub loop-turn-preserved : goal.loop-turn-preserved
loop-turn-preserved g c =
    let run = c.args.run.now in
    let old = c.loop-turn.run in
    let new = c.drain.new.self in
    let taken = c.in-Ok.ensures.drained in
    let held = c.loop-turn.invariant in
    let first = drained_grows run old c.loop-turn._turn held.0 in
    let grown = drained_grows old new taken.number taken.drained in
    let printed = prints old new grown.0 c.loop-turn.lines c.transcript-before.result.now grown.1 held.2 c.transcript-before.ensures in (
      drain_on run old new c.loop-turn._turn held.0 (subst (λ (b : Bool). DrainsTo old 1 b new) c.if-none_left.false taken),
      subst (λ (t : List ℕ). Goes (g.W.Write.contents c.args.output.now.writer) c.args.output.now.text.items t
          (g.W.Write.contents c.print_from.new.output.writer) c.print_from.new.output.text.items)
          (ap (λ (t : List ℕ). told run old ++ t) printed.told_is ∙ sym (told_then run old new first.0 grown.0 first.1 grown.1))
          (goes_then _ _ _ c.args.output.now.text.items _ _ _ _ held.1 c.in_ok-print_from-in-Ok.ensures.gone),
      c.in_ok-print_from-in-Ok.ensures.known,
      c.in_ok-print_from-in-Ok.ensures.prints.stays ∙ held.3,
    )

pub returns-clause-played : goal.returns-clause-played
returns-clause-played g c =
    let run = c.args.run.now in
    let new = c.loop-turn.run in
    let held = c.loop-turn.invariant in (
      told run new,
      Draining run new c.args.most (length (pending_in new) == 0)
          (drain_full run new c.loop-turn._turn c.args.most
          (omega (arith, c.loop-turn-test.false, c.loop-turn.auto._turn-end)) held.0),
      held.1,
    )
