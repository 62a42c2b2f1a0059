use Rattle.std.proofs.Common.{◌==◌, eqb-true, List}
use Rattle.cable_model.proofs.Finds.{IsFound, found_is, found_passes, is_found, stamp_named}
use Rattle.cable_model.specs.Books.{IsBook}
use Rattle.cable_model.specs.Outcomes.{has_stamp}
use Rattle.cable_model.specs.declared.seat.Seat.{Seat}
use Rattle.cable_model.proofs.ending.find_frame.Goals as goal

pub returns : goal.returns
returns c =
    let stamp = c.args.stamp in
    let f : (seats : List Seat) (book : IsBook seats c.args.log.now)
    → IsFound seats c.args.log.now book stamp (λ d. stamp == d.stamp) (has_stamp stamp) c.of_frame.result =
    λ seats book. is_found seats c.args.log.now book stamp (λ d. stamp == d.stamp) (has_stamp stamp)
    (stamp_named seats c.args.log.now book stamp) (λ d e. eqb-true stamp d.stamp e) c.of_frame.result c.of_frame.ensures in
    record {
      value = λ seats book. (f seats book).value;
      due = λ seats book. (f seats book).due;
      pending = λ seats book. (f seats book).pending;
      of_it = found_is stamp c.of_frame.result
          (found_passes (λ d. stamp == d.stamp) c.args.log.now.due.dues c.of_frame.result c.of_frame.ensures);
      put = λ seats book. (f seats book).put;
    }
