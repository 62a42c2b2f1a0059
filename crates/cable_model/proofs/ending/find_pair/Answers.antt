use Rattle.std.proofs.Common.{List}
use Rattle.cable_model.proofs.Finds.{IsFound, at_named, found_passes, is_found, of_stamp}
use Rattle.cable_model.specs.Books.{IsBook}
use Rattle.cable_model.specs.Outcomes.{is_named}
use Rattle.cable_model.specs.Waits.{is_at}
use Rattle.cable_model.specs.declared.seat.Seat.{Seat}
use Rattle.cable_model.proofs.ending.find_pair.Goals as goal

pub returns : goal.returns
returns c =
    let t = is_at c.args.stamp c.args.station in
    let u = is_named c.args.stamp c.args.station in
    let f : (seats : List Seat) (book : IsBook seats c.args.log.now)
    → IsFound seats c.args.log.now book c.args.stamp t u c.find.result = λ seats book. is_found seats c.args.log.now book c.args.stamp t u
    (at_named seats c.args.log.now book c.args.stamp c.args.station) (of_stamp c.args.stamp c.args.station) c.find.result c.find.ensures in
    record {
      value = λ seats book. (f seats book).value;
      due = λ seats book. (f seats book).due;
      pending = λ seats book. (f seats book).pending;
      of_it = found_passes t c.args.log.now.due.dues c.find.result c.find.ensures;
      put = λ seats book. (f seats book).put;
    }
