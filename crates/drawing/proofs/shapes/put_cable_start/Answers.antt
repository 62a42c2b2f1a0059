use Rattle.text.proofs.Going.{put_then}
use Rattle.text.proofs.Going.{on_ok}
use Rattle.drawing.proofs.shapes.put_cable_start.Goals as goal

pub returns : goal.returns
returns c =
    let t = c.args.text.now.items in
    let t1 = put_then t _ _ c.in_ok-extend_from_slice.ensures.items c.in_ok-put_number.ensures in
    let t2 = put_then t _ _ t1 c.in_ok-extend_from_slice-2.ensures.items in
    on_ok c.put_number-2.result c.put_number-2.ensures (λ last. put_then t _ _ t2 last)
