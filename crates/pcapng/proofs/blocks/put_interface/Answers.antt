use Rattle.std.proofs.Common.{◌∙◌, ◌+◌, ◌++◌, ap}
use Rattle.text.proofs.Going.{on_ok, put_then}
use Rattle.pcapng.proofs.Laid.{interface_laid}
use Rattle.pcapng.proofs.blocks.put_interface.Goals as goal

pub returns : goal.returns
returns c =
    let t = c.args.text.now.items in
    let t1 = put_then t _ _ c.in_ok-put_interface_front.ensures c.in_ok-put_name.ensures in
    let t2 = put_then t _ _ t1 c.in_ok-put_four.ensures in
    let laid = interface_laid c.args.name.now _ c.requires (ap (λ n. 28 + n) c.filled-total.ensures) in
    on_ok c.put_four-2.result c.put_four-2.ensures (λ last. put_then t _ _ t2 last ∙ ap (λ l. t ++ l) laid)
