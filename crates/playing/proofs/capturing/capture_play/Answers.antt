use Rattle.std.proofs.Common.{ap, arith, length, ◌∙◌}
use Rattle.playing.proofs.Counted.{counted}
use Rattle.playing.proofs.capturing.capture_play.Goals as goal

-- There is a count for each tick, and the number of ticks fits 32 bits.
pub write_capture-requires : goal.write_capture-requires
write_capture-requires g c =
    let played = c.args.played.now in
    let counts = ap length c.as_slice.ensures.value ∙ ap length c.requires.lived.1 in
    let number = counts ∙ counted played.world c.requires.lived.0 ∙ c.requires.whole in
    let ticks = c.ticks-ticks.ensures ∙ ap (λ p. p.ticks) c.plan.ensures in
    record { short = omega (arith, number, ticks) }
