use Rattle.std.proofs.Common.{rules}
use Rattle.commands.proofs.Returned.{back}
use Rattle.commands.proofs.Unplayed.{text_unplayed}
use Rattle.commands.proofs.plays.play_file.Goals as goal

pub returns-in-Err-play_text-clause-refused : goal.returns-in-Err-play_text-clause-refused
returns-in-Err-play_text-clause-refused g c =
    text_unplayed (g.R.Read.remaining c.args.input.now) (g.R.Read.remaining c.read_text.new.input) c.in-Ok.text.items
    c.in-Err-play_text.refused (search rules)
    (back _ _ c.in-Ok.text.items c.in-Err-play_text.refused c.in-Ok.ensures.read c.in-Err-play_text.ensures.back)
    c.in-Ok.ensures.text c.in-Err-play_text.ensures.refused
