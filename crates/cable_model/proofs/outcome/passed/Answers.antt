use Rattle.std.proofs.Common.{rules, ◌≡◌, true, false, [], ap, append-nil, sym, ◌∙◌}
use Rattle.cable_model.proofs.Legs.{left_grows, nowhere_grows, nowhere_is}
use Rattle.cable_model.proofs.Steps.{grows_then}
use Rattle.cable_model.specs.Logs.{bytes_at}
use Rattle.cable_model.specs.Outcomes.{Places, goes_nowhere}
use Rattle.cable_model.specs.Ways.{is_nowhere_way, way_of}
use Rattle.cable_model.proofs.outcome.passed.Goals as goal

pub returns-then-is_nowhere-clause-grows : goal.returns-then-is_nowhere-clause-grows
returns-then-is_nowhere-clause-grows g c =
    let places : Places = record { finds = g.R.Resolve.finds c.args.resolver.now; lists = g.R.Resolve.lists c.args.resolver.now } in
    let w : c.way_of-way.result ≡ way_of places c.args.exit.cable c.args.next c.args.bytes = search rules in
    let none : is_nowhere_way c.way_of-way.result ≡ true = search rules in
    nowhere_grows places c.args.exit c.args.next c.args.bytes c.way_of-way.result c.args.log.now c.args.log.now.next_stamp w none

pub leave-requires-clause-book : goal.leave-requires-clause-book
leave-requires-clause-book g c = c.keep-number.ensures.book c.args.seats.now c.requires.book

pub returns-clause-grows : goal.returns-clause-grows
returns-clause-grows g c =
    let places : Places = record { finds = g.R.Resolve.finds c.args.resolver.now; lists = g.R.Resolve.lists c.args.resolver.now } in
    let w : c.way_of-way.result ≡ way_of places c.args.exit.cable c.args.next c.args.bytes = search rules in
    grows_then c.args.log.now c.keep-number.new.log c.leave.new.log [] _ [] _
    (c.keep-number.ensures.grows c.args.seats.now c.requires.book)
    (left_grows places c.args.exit c.args.next c.args.bytes (bytes_at c.keep-number.new.log.kept.items c.keep-number.result)
    c.way_of-way.result c.keep-number.new.log c.leave.new.log c.keep-number.new.log.next_stamp c.args.log.now.next_stamp w
    c.keep-number.ensures.next_stamp c.keep-number.ensures.bytes c.leave.ensures.grows)

pub returns-then-is_nowhere-clause-stored : goal.returns-then-is_nowhere-clause-stored
returns-then-is_nowhere-clause-stored g c =
    let places : Places = record { finds = g.R.Resolve.finds c.args.resolver.now; lists = g.R.Resolve.lists c.args.resolver.now } in
    let w : c.way_of-way.result ≡ way_of places c.args.exit.cable c.args.next c.args.bytes = search rules in
    let none : is_nowhere_way c.way_of-way.result ≡ true = search rules in
    let goes : goes_nowhere places c.args.exit.cable c.args.next c.args.bytes ≡ true =
    sym (nowhere_is places c.args.exit.cable c.args.next c.args.bytes) ∙ (ap is_nowhere_way (sym w) ∙ none) in
    rw goes (sym (append-nil c.args.log.now.kept.items))

pub returns-clause-stored : goal.returns-clause-stored
returns-clause-stored g c =
    let places : Places = record { finds = g.R.Resolve.finds c.args.resolver.now; lists = g.R.Resolve.lists c.args.resolver.now } in
    let w : c.way_of-way.result ≡ way_of places c.args.exit.cable c.args.next c.args.bytes = search rules in
    let some : is_nowhere_way c.way_of-way.result ≡ false = search rules in
    let goes : goes_nowhere places c.args.exit.cable c.args.next c.args.bytes ≡ false =
    sym (nowhere_is places c.args.exit.cable c.args.next c.args.bytes) ∙ (ap is_nowhere_way (sym w) ∙ some) in
    rw goes (ap (λ v. v.items) c.leave.ensures.kept ∙ c.keep-number.ensures.stored)
