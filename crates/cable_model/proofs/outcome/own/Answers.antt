use Rattle.std.proofs.Common.{[], ◌∷◌}
use Rattle.cable_model.proofs.Steps.{grows_then}
use Rattle.cable_model.specs.Books.{Grows}
use Rattle.cable_model.specs.Transcript.{Reached}
use Rattle.cable_model.specs.declared.entry.How.TheVariants.{Own}
use Rattle.ddp.specs.Bodies.{body}
use Rattle.cable_model.proofs.outcome.own.Goals as goal

pub returns-clause-grows : goal.returns-clause-grows
returns-clause-grows c = λ seats book.
    let noted : Grows c.keep-number.new.log c.note.new.log
    (Reached c.args.exit.cable c.args.exit.station Own (body c.args.bytes) ∷ []) [] =
    rw (← c.keep-number.ensures.bytes) c.note.ensures.grows in
    grows_then c.args.log.now c.keep-number.new.log c.note.new.log [] _ [] _ (c.keep-number.ensures.grows seats book) noted

pub returns-clause-book : goal.returns-clause-book
returns-clause-book c = λ seats book. c.note.ensures.book seats (c.keep-number.ensures.book seats book)
