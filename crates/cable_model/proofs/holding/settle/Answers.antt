use Rattle.cable_model.proofs.Settled.{none_settled, one_settled, still_earlier}
use Rattle.cable_model.proofs.holding.settle.Goals as goal

pub returns-in_default-clause-settled : goal.returns-in_default-clause-settled
returns-in_default-clause-settled g c =
    none_settled g.R.Resolve.holds c.args.station c.args.log.now c.take_waiting.new.log c.args.resolver.now c.in_default.ensures.none
    c.in_default.ensures.same

pub returns-in_default-clause-book : goal.returns-in_default-clause-book
returns-in_default-clause-book g c = c.take_waiting.ensures.book c.args.seats.now c.requires.book

pub give_up-requires-clause-earlier : goal.give_up-requires-clause-earlier
give_up-requires-clause-earlier g c =
    still_earlier c.if_held-gone.result c.take_waiting.new.log.next_stamp c.add_hold.new.log.next_stamp c.add_hold.ensures.next_stamp
    (c.if_held-gone.ensures.earlier c.args.seats.now (c.take_waiting.ensures.book c.args.seats.now c.requires.book))

pub ask-requires-clause-book : goal.ask-requires-clause-book
ask-requires-clause-book g c =
    c.give_up.ensures.book c.args.seats.now
    (c.add_hold.ensures.book c.args.seats.now (c.take_waiting.ensures.book c.args.seats.now c.requires.book))

pub returns-clause-settled : goal.returns-clause-settled
returns-clause-settled g c =
    one_settled g.R.Resolve.holds c.args.seats.now c.args.station c.args.log.now c.take_waiting.new.log c.add_hold.new.log c.give_up.new.log
    c.ask.new.log c.in-Some.waiting c.hold-by.result c.if_held-gone.result c.args.resolver.now c.hold-by.new.self c.requires.book
    c.in-Some.ensures.some c.in-Some.ensures.same c.hold-by.ensures
    (c.if_held-gone.ensures.value c.args.seats.now (c.take_waiting.ensures.book c.args.seats.now c.requires.book)) c.add_hold.ensures.tells
    c.add_hold.ensures.kept c.add_hold.ensures.next_stamp c.give_up.ensures.tells c.give_up.ensures.kept c.give_up.ensures.next_stamp
    c.ask.ensures.tells c.ask.ensures.stored
