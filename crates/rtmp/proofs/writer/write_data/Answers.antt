-- The packet that is written has the own range and the rows of its number.
use Rattle.std.proofs.Common.{◌≡◌, ◌||◌, ◌==◌, ◌*◌, length, true, nat_lt, ◌∙◌, arith}
use Rattle.rtmp.specs.Sending.{rows_sent}
use Rattle.rtmp.proofs.Sent.{laid, numbered, there_first, there_later}
use Rattle.rtmp.proofs.writer.write_data.Goals as goal
use Rattle.rtmp.proofs.writer.write_data.Goals.{else-number-gt0-via-then-number-gt0+else-sent-left_out}
use Rattle.rtmp.proofs.writer.write_data.Goals.{else-number-gt0-via-else-number-gt0}

pub returns-clause-made : goal.returns-clause-made
returns-clause-made g c =
    let rows = g.T.RouteTable.rows c.args.table.now in
    let len = length (rows_sent c.args.horizon c.args.port rows) in
    let there : (c.args.number == 0 || nat_lt (c.args.number * 96) len) ≡ true = elim c.else-number-gt0.branch [
      | else-number-gt0-via-then-number-gt0+else-sent-left_out w ↦ there_later c.args.number len
          (omega (arith, w.if-sent-left_out.false, c.count_sent-sent.ensures.value))
      | else-number-gt0-via-else-number-gt0 w ↦ there_first c.args.number len w.if-number-gt0.false
    ] in
    let front = (c.in_ok-put_front.ensures {u = tt}) in
    let parts =
    laid c.args.me c.args.own _ _ _ c.put_rows.new.bytes.items (c.in_ok-bytes.ensures {u = tt}).items front.put
    (c.in_ok-put_rows.ensures {u = tt}).put in
    numbered c.args.horizon c.args.port c.args.own c.args.me c.args.number rows c.from_vec.result there c.count_sent-sent.ensures.map (omega arith)
    (omega arith) front.valid (c.from_vec.ensures ∙ parts)
