use Rattle.std.proofs.Common.{ap}
use Rattle.text.proofs.Going.{goes_as, goes_on}
use Rattle.drawing.specs.Drawing.{parts_text}
use Rattle.text.proofs.Going.{on_ok}
use Rattle.drawing.proofs.printing.print_drawing.Goals as goal

pub returns-clause-gone : goal.returns-clause-gone
returns-clause-gone g c =
    let same = ap (λ f. parts_text c.args.image.now f c.args.to) c.mark_of.ensures in
    let t1 = goes_on c.in_ok-print_head.ensures.gone (goes_as same c.in_ok-print_parts.ensures.gone) in
    let t2 = goes_on t1 c.in_ok-print_all_arrows.ensures.gone in
    on_ok c.print_text.result c.print_text.ensures.gone (λ last. goes_on t2 last)
