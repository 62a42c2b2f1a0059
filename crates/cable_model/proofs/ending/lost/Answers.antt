use Rattle.std.proofs.Common.{rules, refl, ap, arith, length, not, ◌==◌}
use Rattle.cable_model.proofs.Ended.{book_lost}
use Rattle.cable_model.proofs.Stored.{filter_few}
use Rattle.cable_model.proofs.ending.lost.Goals as goal

pub returns-clause-book : goal.returns-clause-book
returns-clause-book c = λ seats book.
    book_lost seats c.args.log.now _ c.args.stamp book
    c.push_reserved.ensures.items refl refl refl (ap (λ w. w.dues) c.remove_frame.ensures) (ap (λ w. w.dues) c.remove_frame-2.ensures)
    c.requires.earlier

pub returns-clause-uses : goal.returns-clause-uses
returns-clause-uses c =
    let left = ap (λ w. length w.dues) c.remove_frame.ensures in
    let few = filter_few (λ d. not (c.args.stamp == d.stamp)) c.args.log.now.due.dues in
    let room = ap (λ w. w.room) c.remove_frame.ensures in
    let gone = ap (λ w. length w.dues) c.remove_frame-2.ensures in
    let fewer = filter_few (λ d. not (c.args.stamp == d.stamp)) c.args.log.now.holdings.dues in
    let same = ap (λ w. w.room) c.remove_frame-2.ensures in
    record {
      lines = search rules;
      kept = omega arith;
      waiting = omega arith;
      due = omega (arith, left, few);
      next_stamp = omega arith;
      lines_room = search rules;
      kept_room = refl;
      waiting_room = refl;
      due_room = omega (arith, room);
      grown = search rules;
      steady = search rules;
      holdings = omega (arith, gone, fewer);
      holdings_room = omega (arith, same);
    }
