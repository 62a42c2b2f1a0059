use Rattle.std.proofs.Common.{◌++◌, [], ◌∷◌, List, ℕ, ap, get_or, map, refl, sym, subst, take, ◌∙◌}
use Rattle.cable_model.specs.Logs.{entry_at}
use Rattle.cable_model.specs.Transcript.{Entry}
use Rattle.cable_model.specs.declared.entry.Entry.TheVariants as named
use Rattle.frozen_trace.proofs.EntryLines.{cables_append, lines_one, one_further, printed, there}
use Rattle.text.proofs.Going.{goes_none, goes_then}
use Rattle.text.specs.Going.{Goes}
use Rattle.trace_lines.specs.Lines.{Printed, line, lines as lines_of, with_cable, with_cables}
use Rattle.frozen.specs.Runs.{cabling}
use Rattle.frozen_trace.proofs.printing.print_entries.Goals as goal

pub loop-entry-init : goal.loop-entry-init
loop-entry-init g c = (
  goes_none (g.W.Write.contents c.args.output.now.writer) c.args.output.now.text.items,
  refl,
  refl,
)

pub loop-entry-preserved : goal.loop-entry-preserved
loop-entry-preserved g c =
    let es = c.args.entries.now in
    let k = c.loop-entry.entry-index in
    let e = get_or es k (named.Sent 0 0) in
    let i = c.args.lines.now.addresses in
    let known = c.args.lines.now.cables in
    let f = entry_at (cabling c.args.run.now).kept in
    let before : List Entry = map f (take k es) in
    let more = one_further f es k e (there es k (named.Sent 0 0) c.loop-entry-test.true) in
    let held = c.loop-entry.invariant in
    let one =
    goes_then _ _ _ c.args.output.now.text.items _ _ _ _ held.0
    (subst (λ (l : Printed). Goes (g.W.Write.contents c.loop-entry.output.writer) c.loop-entry.output.text.items
    (line l.addresses l.cables (f e) ++ 10 ∷ []) (g.W.Write.contents c.print_entry.new.output.writer)
    c.print_entry.new.output.text.items) held.1 c.in_ok-print_entry.ensures.gone) in (
      subst (λ (t : List ℕ). Goes (g.W.Write.contents c.args.output.now.writer) c.args.output.now.text.items t
          (g.W.Write.contents c.print_entry.new.output.writer) c.print_entry.new.output.text.items)
          (sym (ap (lines_of i known) more ∙ lines_one i known before (f e))) one,
      c.in_ok-print_entry.ensures.further
          ∙ ap (λ (l : Printed). printed l.addresses (with_cable l.cables (f e))) held.1
          ∙ ap (printed i) (sym (ap (with_cables known) more ∙ cables_append known before (f e ∷ []))),
      c.in_ok-print_entry.ensures.prints.stays ∙ held.2,
    )
