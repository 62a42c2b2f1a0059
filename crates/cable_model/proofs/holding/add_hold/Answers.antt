use Rattle.std.proofs.Common.{rules, ◌≡◌, refl, ap, arith, length, ◌∙◌}
use Rattle.cable_model.proofs.HoldOn.{book_held}
use Rattle.cable_model.proofs.Order.{length_placed}
use Rattle.cable_model.specs.Order.{placed}
use Rattle.cable_model.specs.Waits.{due_key}
use Rattle.cable_model.proofs.holding.add_hold.Goals as goal

pub returns-clause-book : goal.returns-clause-book
returns-clause-book c = λ seats book.
    let here : c.len-put.result ≡ length c.args.log.now.lines.items = search rules in
    book_held seats c.args.log.now _ c.args.station c.args.waiting book c.push_reserved.ensures.items refl refl c.requires.names refl refl
    (c.add.ensures.dues
    ∙ ap (λ n. placed due_key (record { stamp = c.args.log.now.next_stamp; station = c.args.station; put = n; seat = 0 })
    c.args.log.now.holdings.dues) here)

pub returns-clause-held : goal.returns-clause-held
returns-clause-held c =
    let one = length_placed due_key
    (record { stamp = c.args.log.now.next_stamp; station = c.args.station; put = c.len-put.result; seat = 0 })
    c.args.log.now.holdings.dues in
    let long = ap length c.add.ensures.dues in
    record {
      lines_room = search rules;
      due = refl;
      more = omega (arith, long, one);
      holdings_room = c.add.ensures.room;
    }
