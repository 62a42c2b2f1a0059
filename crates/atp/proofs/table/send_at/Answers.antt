use Rattle.std.proofs.Common.{◌≡◌, Some, refl, ap, ◌∙◌}
use Rattle.slab.specs.Slab.{with_value}
use Rattle.atp.specs.Requesting.{sent}
use Rattle.atp.proofs.Slots.{put}
use Rattle.atp.proofs.table.send_at.Goals as goal

pub returns-in-Some : goal.returns-in-Some
returns-in-Some c = λ t e.
    let there : Some c.in-Some.transaction.now ≡ Some t = c.in-Some.ensures.value ∙ e in
    let same : c.in-Some.transaction.now ≡ t = cc in
    put c.args.table.now _ c.args.key t (sent t) c.requires e refl refl
    (ap (with_value c.args.table.now c.args.key) (c.send.ensures ∙ ap sent same))
