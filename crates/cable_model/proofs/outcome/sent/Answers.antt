use Rattle.std.proofs.Common.{rules, ◌≡◌, ◌∙◌, ap, [], ◌∷◌}
use Rattle.cable_model.proofs.Legs.{left_grows}
use Rattle.cable_model.proofs.Steps.{grows_then}
use Rattle.cable_model.specs.Books.{Grows}
use Rattle.cable_model.specs.Logs.{bytes_at}
use Rattle.cable_model.specs.Outcomes.{Places}
use Rattle.cable_model.specs.Transcript.{Sent}
use Rattle.cable_model.specs.Ways.{way_of}
use Rattle.ddp.specs.Bodies.{body}
use Rattle.cable_model.proofs.outcome.sent.Goals as goal

pub leave-requires-clause-book : goal.leave-requires-clause-book
leave-requires-clause-book g c =
    c.note.ensures.book c.args.seats.now (c.keep-number.ensures.book c.args.seats.now c.requires.book)

pub returns-clause-grows : goal.returns-clause-grows
returns-clause-grows g c =
    let places : Places = record { finds = g.R.Resolve.finds c.args.resolver.now; lists = g.R.Resolve.lists c.args.resolver.now } in
    let w : c.way_of-way.result ≡ way_of places c.args.exit.cable c.args.next c.args.bytes = search rules in
    let noted : Grows c.keep-number.new.log c.note.new.log (Sent c.args.exit.station (body c.args.bytes) ∷ []) [] =
    rw (← c.keep-number.ensures.bytes) c.note.ensures.grows in
    grows_then c.args.log.now c.keep-number.new.log c.leave.new.log [] _ [] _
    (c.keep-number.ensures.grows c.args.seats.now c.requires.book)
    (grows_then c.keep-number.new.log c.note.new.log c.leave.new.log (Sent c.args.exit.station (body c.args.bytes) ∷ []) _ [] _ noted
    (left_grows places c.args.exit c.args.next c.args.bytes (bytes_at c.note.new.log.kept.items c.keep-number.result)
    c.way_of-way.result c.note.new.log c.leave.new.log c.note.new.log.next_stamp c.args.log.now.next_stamp w
    (c.note.ensures.next_stamp ∙ c.keep-number.ensures.next_stamp)
    (ap (λ k. bytes_at k.items c.keep-number.result) c.note.ensures.kept ∙ c.keep-number.ensures.bytes) c.leave.ensures.grows))
