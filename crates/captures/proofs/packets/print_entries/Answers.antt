use Rattle.std.proofs.Common.{List, ℕ, ap, arith, get_or, map, subst, sym, take, ◌∙◌}
use Rattle.cable_model.specs.Logs.{entry_at}
use Rattle.cable_model.specs.Transcript.{Entry}
use Rattle.cable_model.specs.declared.entry.Entry.TheVariants as named
use Rattle.captures.proofs.Further.{entries_one, one_further, times_after, times_one}
use Rattle.captures.specs.Packets.{Scene, entries_bytes, entry_bytes, time_after}
use Rattle.text.proofs.Going.{goes_as, goes_then}
use Rattle.text.specs.Going.{Goes}
use Rattle.captures.proofs.packets.print_entries.Goals as goal

pub loop-entry-preserved : goal.loop-entry-preserved
loop-entry-preserved g c =
    let es = c.args.entries.now in
    let k = c.loop-entry.entry-index in
    let f = entry_at (g.S.Said.kept c.args.said.now) in
    let e = f (get_or es k (named.Sent 0 0)) in
    let scene : Scene = record { seats = c.args.seats.now; lost = c.args.lost.now } in
    let before : List Entry = map f (take k es) in
    let more = one_further f es k (named.Sent 0 0) c.loop-entry-test.true in
    let held = c.loop-entry.invariant in
    let soon = c.in_ok-next.ensures.soon in
    let one =
    goes_then _ _ _ c.args.output.now.text.items _ _ _ _ held.0
    (subst (λ (t : ℕ). Goes (g.W.Write.contents c.loop-entry.output.writer) c.loop-entry.output.text.items
    (entry_bytes scene t e) (g.W.Write.contents c.print_entry.new.output.writer)
    c.print_entry.new.output.text.items) held.1 c.in_ok-next.ensures.gone) in (
      goes_as (sym (ap (entries_bytes scene c.args.time) more ∙ entries_one scene c.args.time before e)) one,
      c.in_ok-next.ensures.later ∙ ap (λ (t : ℕ). time_after t e) held.1
          ∙ sym (ap (times_after c.args.time) more ∙ times_one c.args.time before e),
      omega (arith, held.2, soon),
      c.in_ok-next.ensures.prints.stays ∙ held.3,
    )
