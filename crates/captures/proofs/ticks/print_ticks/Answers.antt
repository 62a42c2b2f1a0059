use Rattle.std.proofs.Common.{◌+◌, ap, ap₂, arith, drop, get_or, map, sym, take, ◌∙◌}
use Rattle.std.proofs.lemmas.List.{drop-map, length-take-le, take-map, take_more}
use Rattle.cable_model.specs.Logs.{entry_at}
use Rattle.captures.proofs.Further.{left_after, left_one, ticks_one}
use Rattle.captures.specs.Packets.{tick_bytes, ticks_bytes}
use Rattle.text.proofs.Going.{goes_as, goes_then}
use Rattle.captures.proofs.ticks.print_ticks.Goals as goal

pub loop-k-preserved : goal.loop-k-preserved
loop-k-preserved g c =
    let f = entry_at (g.S.Said.kept c.args.said.now) in
    let seats = c.args.seats.now in
    let counts = c.args.counts.now in
    let k = c.loop-k.k in
    let n = get_or counts k 0 in
    let before = take k counts in
    let all = map f c.args.entries.now in
    let held = c.loop-k.invariant in
    let counted = take_more counts k 0 c.loop-k-test.true in
    let here = ap (map f) c.first_of.ensures ∙ sym (take-map f n c.loop-k.left.now) ∙ ap (take n) held.1 in
    let number = length-take-le k counts (omega (arith, c.loop-k-test.true)) in
    let one = goes_as (ap₂ (tick_bytes seats) (ap (λ i. c.args.tick + i) (sym number)) here) c.in_ok-print_tick.ensures.gone in (
      goes_as (sym (ap (λ ns. ticks_bytes seats c.args.tick ns all) counted ∙ ticks_one seats c.args.tick before n all))
          (goes_then _ _ _ c.args.output.now.text.items _ _ _ _ held.0 one),
      ap (map f) c.after-left.ensures ∙ sym (drop-map f n c.loop-k.left.now) ∙ ap (drop n) held.1
          ∙ sym (ap (λ ns. left_after ns all) counted ∙ left_one before n all),
      c.in_ok-print_tick.ensures.prints.stays ∙ held.2,
    )
