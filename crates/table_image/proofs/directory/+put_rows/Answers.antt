use Rattle.std.proofs.Common.{arith}
use Rattle.std.proofs.lemmas.Result.{on_ok_weaker}
use Rattle.table_image.proofs.Places.{rows_more, rows_over}
use Rattle.table_image.specs.Seats.{seats}
use Rattle.table_image.proofs.directory.+put_rows.Goals as goal

pub returns-then-from-eq-CABLES : goal.returns-then-from-eq-CABLES
returns-then-from-eq-CABLES t c =
    rows_over (seats c.args.image.now) c.args.from c.args.rows.now.items (omega (arith, c.if-from-eq-CABLES.true))

pub returns : goal.returns
returns t c =
    on_ok_weaker c.put_rows.result
    (λ rest.
    rows_more (seats c.args.image.now) c.args.from _ c.in_ok-row.row c.args.rows.now.items c.push_row.new.rows.items
    c.put_rows.new.rows.items (omega (arith, c.requires.few, c.if-from-eq-CABLES.false))
    (omega (arith, c.requires.few, c.if-from-eq-CABLES.false)) c.in_ok-row.ensures c.in_ok-push_row.ensures rest)
    c.put_rows.ensures
