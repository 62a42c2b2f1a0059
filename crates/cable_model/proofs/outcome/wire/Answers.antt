use Rattle.std.proofs.Common.{[], ◌∷◌}
use Rattle.cable_model.proofs.Steps.{grows_then}
use Rattle.cable_model.specs.Books.{Grows}
use Rattle.cable_model.specs.Outcomes.{framed}
use Rattle.cable_model.specs.Ways.{sender_at}
use Rattle.station.specs.declared.heard.Kind.TheVariants.{Aarp}
use Rattle.cable_model.proofs.outcome.wire.Goals as goal

pub put-requires-clause-book : goal.put-requires-clause-book
put-requires-clause-book c = c.keep-number.ensures.book c.args.seats.now c.requires.book

pub returns-clause-grows : goal.returns-clause-grows
returns-clause-grows c =
    let put : Grows c.keep-number.new.log c.put.new.log
    (framed (sender_at c.args.exit c.args.log.now.next_stamp) c.args.to Aarp c.args.bytes ∷ []) [] =
    rw (← c.keep-number.ensures.bytes, ← c.keep-number.ensures.next_stamp) c.put.ensures.grows in
    grows_then c.args.log.now c.keep-number.new.log c.put.new.log [] _ [] _
    (c.keep-number.ensures.grows c.args.seats.now c.requires.book) put
