use Rattle.drawing.proofs.Parts.{goes_each_from}
use Rattle.drawing.specs.Hands.{arrow_line}
use Rattle.text.proofs.Going.{on_ok}
use Rattle.drawing.proofs.printing.+print_arrows.Goals as goal

pub returns-in_ok-print_arrow-in-len1-up-clause-gone : goal.returns-in_ok-print_arrow-in-len1-up-clause-gone
returns-in_ok-print_arrow-in-len1-up-clause-gone g t c =
    on_ok c.print_arrows.result c.print_arrows.ensures.gone
    (λ others.
    goes_each_from (arrow_line c.args.image.now c.args.net) c.args.r c.args.routers.now c.first-item.result _ _ _ _ _ _
    c.in-len1-up.len_at_least c.first-item.is c.in_ok-print_arrow-in-len1-up.ensures.gone others)
