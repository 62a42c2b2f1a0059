use Rattle.std.proofs.Common.{ap}
use Rattle.cable_model.proofs.PutOn.{book_released}
use Rattle.station.specs.declared.heard.Kind.TheVariants.{Ddp}
use Rattle.cable_model.proofs.putting.put_held.Goals as goal

pub returns-clause-book : goal.returns-clause-book
returns-clause-book c =
    book_released c.args.seats.now c.args.log.now _ c.args.held.stamp c.args.held.cable c.args.held.station c.args.to Ddp
    c.args.held.bytes c.requires.book c.add_frame.ensures.lines c.add_frame.ensures.kept c.add_frame.ensures.waiting c.requires.names
    c.add_frame.ensures.due (ap (λ w. w.dues) c.add_frame.ensures.holdings) c.requires.held c.add_frame.ensures.next_stamp
