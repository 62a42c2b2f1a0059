use Rattle.std.proofs.Common.{length}
use Rattle.station.proofs.MadeLawful.{lawful_with}
use Rattle.router.proofs.router.Router.react.Goals as goal

pub returns-clause-lawful : goal.returns-clause-lawful
returns-clause-lawful g c =
    let n = length c.args.self.now.ports in
    let fate = c.in_ok-fate.ensures {u = tt} in
    let handled = c.in_ok-handled.ensures {u = tt} in
    lawful_with n c.in_ok-fate.fate c.in_ok-handled.handled.made.items fate.other
    (fate.good n c.requires.by) handled.good handled.few
