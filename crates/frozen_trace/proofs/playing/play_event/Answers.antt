use Rattle.std.proofs.Common.{List, ℕ, ap, sym, subst, ◌∙◌}
use Rattle.text.proofs.Going.{on_ok, on_both}
use Rattle.frozen_trace.proofs.Growth.{happens_grows, prints, refusing}
use Rattle.text.specs.Going.{Goes}
use Rattle.frozen_trace.specs.Traces.{Happening, all_printed, refused_line, told}
use Rattle.frozen_trace.proofs.playing.play_event.Goals as goal

pub print_from-requires : goal.print_from-requires
print_from-requires g c =
    let grown = happens_grows c.args.run.now c.event.new.self c.args.event.now c.in-Ok.ensures.happens in
    let printed =
    prints c.args.run.now c.event.new.self grown.0 c.args.lines.now c.transcript-before.result.now grown.1 c.requires.known
    c.transcript-before.ensures in
    record { inside = printed.inside; known = printed.frames }

pub returns-in-Ok-clause-played : goal.returns-in-Ok-clause-played
returns-in-Ok-clause-played g c =
    let old = c.args.run.now in
    let new = c.event.new.self in
    let grown = happens_grows old new c.args.event.now c.in-Ok.ensures.happens in
    let printed =
    prints old new grown.0 c.args.lines.now c.transcript-before.result.now grown.1 c.requires.known c.transcript-before.ensures in
    on_ok c.print_from.result c.print_from.ensures.gone
    (λ p. (
      told old new,
      Happening old new c.args.event.now c.in-Ok.ensures.ok c.in-Ok.ensures.happens,
      subst (λ (t : List ℕ). Goes (g.W.Write.contents c.args.output.now.writer) c.args.output.now.text.items t
          (g.W.Write.contents c.print_from.new.output.writer) c.print_from.new.output.text.items) printed.told_is p,
    ))

pub returns-in-Err-clause-played : goal.returns-in-Err-clause-played
returns-in-Err-clause-played g c =
    on_both c.refuse.result c.refuse.ensures.own c.refuse.ensures.gone
    (λ own p. (
      refused_line c.in-Err.error,
      refusing c.args.run.now c.event.new.self c.args.event.now c.in-Err.error c.in-Err.ensures.kept c.in-Err.ensures.refused own,
      p,
    ))

pub returns-in-Err-clause-known : goal.returns-in-Err-clause-known
returns-in-Err-clause-known g c =
    on_ok c.refuse.result c.refuse.ensures.own
    (λ own. c.requires.known ∙ ap all_printed (sym c.in-Err.ensures.kept))
