use Rattle.std.proofs.Common.{◌≡◌, rules}
use Rattle.at_base.specs.declared.error.Error.TheVariants.{WriteFault}
use Rattle.commands.proofs.Unplayed.{unmade}
use Rattle.commands.proofs.making.make_bytes.Goals as goal

pub returns-in-Err-hand_over-clause-refused : goal.returns-in-Err-hand_over-clause-refused
returns-in-Err-hand_over-clause-refused g c =
    let made = c.in-Ok.ensures.made in
    let write : c.of.result.error ≡ WriteFault = search rules in
    unmade (g.R.Read.remaining c.args.input.now) (g.R.Read.remaining c.make_file.new.input) made.0 c.in-Ok.made.it c.of.result made.1 made.2 write c.of.ensures.reason
