use Rattle.text.proofs.Going.{put_then}
use Rattle.text.proofs.Going.{on_ok}
use Rattle.drawing.proofs.routes.put_arrow_label.Goals as goal

pub returns : goal.returns
returns c =
    let t = c.args.text.now.items in
    let more = put_then t _ _ c.in_ok-extend_from_slice.ensures.items c.in_ok-put_address.ensures.ok in
    on_ok c.put_letters.result c.put_letters.ensures (λ last. put_then t _ _ more last)
