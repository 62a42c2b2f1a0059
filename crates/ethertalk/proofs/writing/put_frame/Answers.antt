use Rattle.std.proofs.Common.{◌∙◌, ◌++◌, ap}
use Rattle.text.proofs.Going.{put_then}
use Rattle.ethertalk.proofs.Laid.{frame_laid}
use Rattle.ethertalk.specs.Frames.{framed}
use Rattle.ethertalk.proofs.writing.put_frame.Goals as goal

pub returns : goal.returns
returns c =
    let t = c.args.text.now.items in
    let headers = rw (c.headers_of.ensures) at c.in_ok-extend_from_slice.ensures.items in
    let t1 = put_then t _ _ c.in_ok-put_addresses.ensures headers in
    put_then t _ _ t1 c.in_ok-extend_from_slice-2.ensures.items ∙ ap (λ l. t ++ l) (frame_laid (framed c.args.frame.now))
