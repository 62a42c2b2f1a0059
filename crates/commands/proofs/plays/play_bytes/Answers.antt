use Rattle.std.proofs.Common.{◌≡◌, ◌⊎◌, rules}
use Rattle.at_base.specs.declared.error.Error.TheVariants.{Memory, WriteFault}
use Rattle.commands.proofs.Unplayed.{told_before, unwritten}
use Rattle.commands.proofs.plays.play_bytes.Goals as goal

pub returns-in-Ok-hand_over-clause-order : goal.returns-in-Ok-hand_over-clause-order
returns-in-Ok-hand_over-clause-order g c =
    told_before c.args.version (g.R.Read.remaining c.args.input.now) c.in-Ok.told.played _
    (g.W.Write.contents c.args.output.now.writer) (g.W.Write.contents c.hand_over.new.output.writer)
    c.args.output.now.text.items c.as_slice.result.now c.in-Ok.ensures.played (search rules)
    c.in-Ok-hand_over.ensures.hands.order

pub returns-in-Err-hand_over-clause-refused : goal.returns-in-Err-hand_over-clause-refused
returns-in-Err-hand_over-clause-refused g c =
    let late : (c.of.result.error ≡ Memory) ⊎ (c.of.result.error ≡ WriteFault) = search rules in
    unwritten c.args.version (g.R.Read.remaining c.args.input.now) (g.R.Read.remaining c.play_file.new.input) c.in-Ok.told.played c.of.result c.in-Ok.ensures.played late
    c.of.ensures.reason

pub returns-in-Err-hand_over-clause-order : goal.returns-in-Err-hand_over-clause-order
returns-in-Err-hand_over-clause-order g c =
    told_before c.args.version (g.R.Read.remaining c.args.input.now) c.in-Ok.told.played _
    (g.W.Write.contents c.args.output.now.writer) (g.W.Write.contents c.hand_over.new.output.writer)
    c.args.output.now.text.items c.as_slice.result.now c.in-Ok.ensures.played (search rules)
    c.in-Err-hand_over.ensures.hands.order
