use Rattle.cable_model.proofs.HoldOn.{found_closed, found_held, found_open}
use Rattle.cable_model.proofs.holding.find_held.Goals as goal

pub returns-clause-some : goal.returns-clause-some
returns-clause-some c = λ seats book. found_held seats c.args.log.now book c.args.stamp c.of_frame.result c.of_frame.ensures

pub returns-clause-none : goal.returns-clause-none
returns-clause-none c = λ seats book. found_closed seats c.args.log.now book c.args.stamp c.of_frame.result c.of_frame.ensures

pub returns-clause-value : goal.returns-clause-value
returns-clause-value c = λ seats book. found_open seats c.args.log.now book c.args.stamp c.of_frame.result c.of_frame.ensures
