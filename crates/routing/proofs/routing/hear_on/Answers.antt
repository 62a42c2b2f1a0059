use Rattle.std.proofs.Common.{◌∙◌, Some, ap, option_map, sym}
use Rattle.ethertalk.specs.Frames.{framed}
use Rattle.text.proofs.Going.{on_ok}
use Rattle.routing.proofs.Blocks.{frame_happened}
use Rattle.routing.proofs.routing.hear_on.Goals as goal

pub returns-in-Some-clause-came : goal.returns-in-Some-clause-came
returns-in-Some-clause-came g c =
    on_ok c.hear.result c.hear.ensures.came
    (λ came.
    frame_happened g.C.Cabled.acts c.args.seen.now.time _ _ c.args.port _ (framed c.in-Some.frame) _ _ _ _
    (sym c.frame_in.ensures ∙ ap (λ o. option_map framed o) c.in-Some.is) came)
