use Rattle.std.proofs.Common.{◌∙◌, ◌++◌, ap, sym, arith}
use Rattle.text.proofs.Going.{on_ok, put_then}
use Rattle.ethertalk.proofs.Values.{frame_length}
use Rattle.pcapng.proofs.Laid.{packet_laid}
use Rattle.pcapng.specs.Captures.{block_of, frame_of}
use Rattle.pcapng.proofs.blocks.put_packet.Goals as goal

pub returns : goal.returns
returns c =
    let t = c.args.text.now.items in
    let p = c.args.packet.now in
    let fits = c.recall_fits.ensures in
    let front = rw (c.packet_front-front.ensures) at c.in_ok-put_bytes.ensures in
    let t1 = put_then t _ _ front c.in_ok-put_packet_frame.ensures in
    let t2 = put_then t _ _ t1 c.in_ok-put_filling.ensures in
    let t3 = put_then t _ _ t2 c.in_ok-put_options.ensures in
    let len = sym (frame_length (frame_of p c.args.bytes.now) fits.to fits.from) in
    let laid = packet_laid (block_of p c.args.bytes.now) _ _ fits.interface fits.time (omega arith) len c.packet_total-total.ensures in
    on_ok c.put_four.result c.put_four.ensures (λ last. put_then t _ _ t3 last ∙ ap (λ l. t ++ l) laid)
