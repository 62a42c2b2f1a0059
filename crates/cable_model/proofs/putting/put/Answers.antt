use Rattle.std.proofs.Common.{refl, ap, arith, length, not, ◌==◌, ◌+◌}
use Rattle.cable_model.proofs.PutOn.{book_put}
use Rattle.cable_model.proofs.Stored.{filter_few}
use Rattle.cable_model.proofs.putting.put.Goals as goal

pub returns-clause-book : goal.returns-clause-book
returns-clause-book c =
    book_put c.args.seats.now c.args.log.now _ c.args.log.now.next_stamp c.args.cable c.args.sender c.args.to c.args.kind c.args.bytes
    c.requires.book c.add_frame.ensures.lines c.add_frame.ensures.kept c.add_frame.ensures.waiting c.requires.names
    c.add_frame.ensures.due (ap (λ w. w.dues) c.add_frame.ensures.holdings) refl (ap (λ n. n + 1) c.add_frame.ensures.next_stamp)

pub returns-clause-uses : goal.returns-clause-uses
returns-clause-uses c =
    let a = c.add_frame.ensures in
    let left = ap (λ w. length w.dues) a.holdings in
    let few = filter_few (λ d. not (c.args.log.now.next_stamp == d.stamp)) c.args.log.now.holdings.dues in
    let same = ap (λ w. w.room) a.holdings in
    let kept = ap (λ k. length k.items) a.kept in
    let waiting = ap (λ w. w.len) a.waiting in
    record {
      lines = omega (arith, a.one);
      kept = omega (arith, kept);
      waiting = omega (arith, waiting);
      due = omega (arith, a.few);
      next_stamp = omega (arith, a.next_stamp);
      lines_room = a.lines_room;
      kept_room = ap (λ k. k.room) a.kept;
      waiting_room = ap (λ w. w.cap) a.waiting;
      due_room = a.due_room;
      grown = omega (arith, a.one);
      steady = omega (arith, a.one, a.next_stamp);
      holdings = omega (arith, left, few);
      holdings_room = omega (arith, same);
    }
