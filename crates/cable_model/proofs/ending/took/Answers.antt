use Rattle.std.proofs.Common.{rules, refl, ap, arith, length, not}
use Rattle.cable_model.proofs.Ended.{book_took}
use Rattle.cable_model.proofs.Stamps.{put_below}
use Rattle.cable_model.proofs.Stored.{filter_few}
use Rattle.cable_model.specs.Books.{said}
use Rattle.cable_model.specs.Waits.{is_at}
use Rattle.cable_model.proofs.ending.took.Goals as goal

pub returns-clause-book : goal.returns-clause-book
returns-clause-book c = λ seats book.
    let less = put_below (said c.args.log.now) c.args.stamp c.requires.put in
    book_took seats c.args.log.now _ c.args.stamp c.args.station book
    c.push_reserved.ensures.items refl refl refl (ap (λ w. w.dues) c.remove.ensures) refl (omega (arith, less, book.next)) c.requires.put

pub returns-clause-uses : goal.returns-clause-uses
returns-clause-uses c =
    let left = ap (λ w. length w.dues) c.remove.ensures in
    let few = filter_few (λ d. not (is_at c.args.stamp c.args.station d)) c.args.log.now.due.dues in
    let room = ap (λ w. w.room) c.remove.ensures in
    record {
      lines = search rules;
      kept = omega arith;
      waiting = omega arith;
      due = omega (arith, left, few);
      next_stamp = omega arith;
      lines_room = search rules;
      kept_room = refl;
      waiting_room = refl;
      due_room = omega (arith, room);
      grown = search rules;
      steady = search rules;
      holdings = omega arith;
      holdings_room = omega arith;
    }
