use Rattle.std.proofs.Common.{[], List, ◌-◌, ap, drop, length, map, subst, sym, take, ◌∙◌}
use Rattle.std.proofs.lemmas.List.{take-append-drop}
use Rattle.cable_model.specs.Logs.{entry_at, transcript as said}
use Rattle.cable_model.specs.Transcript.{Entry}
use Rattle.cable_model.specs.declared.entry.Entry.{Entry as Line}
use Rattle.frozen_trace.proofs.EntryLines.{cables_append, from_on, printed}
use Rattle.text.proofs.Going.{on_ok}
use Rattle.text.specs.Going.{Goes}
use Rattle.frozen_trace.specs.Traces.{cables_of}
use Rattle.trace_lines.specs.Lines.{Printed, lines as lines_of, with_cables}
use Rattle.trace_lines.specs.Stations.{addresses_of}
use Rattle.frozen.specs.Runs.{cabling}
use Rattle.frozen_trace.proofs.printing.print_from.Goals as goal

pub returns-clause-gone : goal.returns-clause-gone
returns-clause-gone g c =
    let r = c.args.run.now in
    let f = entry_at (cabling r).kept in
    let n = c.args.from in
    on_ok c.print_entries.result c.print_entries.ensures.gone
    (λ p. subst (λ (es : List Entry). Goes (g.W.Write.contents c.args.output.now.writer) c.args.output.now.text.items
    (lines_of c.args.lines.now.addresses c.args.lines.now.cables es)
    (g.W.Write.contents c.print_entries.new.output.writer) c.print_entries.new.output.text.items)
    (ap (λ (t : List Line). map f (take (length t - n) (drop n t))) c.transcript.ensures
    ∙ from_on f (cabling r).lines n c.requires.inside) p)

pub returns-clause-known : goal.returns-clause-known
returns-clause-known g c =
    let r = c.args.run.now in
    let f = entry_at (cabling r).kept in
    let n = c.args.from in
    on_ok c.print_entries.result c.print_entries.ensures.further
    (λ p. p
    ∙ ap (λ (es : List Entry). printed c.args.lines.now.addresses (with_cables c.args.lines.now.cables es))
    (ap (λ (t : List Line). map f (take (length t - n) (drop n t))) c.transcript.ensures
    ∙ from_on f (cabling r).lines n c.requires.inside)
    ∙ ap (λ (l : Printed). printed l.addresses (with_cables l.cables (drop n (said (cabling r))))) c.requires.known
    ∙ ap (printed (addresses_of r.internet)) (sym (cables_append [] (take n (said (cabling r))) (drop n (said (cabling r))))
    ∙ ap cables_of (take-append-drop n (said (cabling r)))))
