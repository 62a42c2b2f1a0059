use Rattle.std.proofs.Common.{refl}
use Rattle.cable_model.proofs.Quiet.{book_noted}
use Rattle.cable_model.proofs.log.note.Goals as goal

pub returns-clause-book : goal.returns-clause-book
returns-clause-book c = λ seats book.
    book_noted seats _ _ c.args.line book c.push_reserved.ensures.items refl refl refl refl refl c.requires.names c.requires.quiet
