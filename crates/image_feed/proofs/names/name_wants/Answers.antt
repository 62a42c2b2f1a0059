use Rattle.std.proofs.Common.{◌∙◌, Err, ap}
use Rattle.table_image.specs.declared.flaw.Fault.{Fault}
use Rattle.image_feed.proofs.Waiting.{wants_first}
use Rattle.image_feed.proofs.names.name_wants.Goals as goal

pub returns-in-Err : goal.returns-in-Err
returns-in-Err c =
    wants_first c.args.bytes.now c.in-Some.length.now c.in-Some.ensures.value
    (c.in-Err.ensures {u = tt} ∙ ap (λ (f : Fault). Err f) (c.is_cut.ensures.yes c.if-is_cut.true))
