use Rattle.std.proofs.Common.{◌≡◌, Some, ap, ◌∙◌}
use Rattle.slab.specs.Slab.{with_value}
use Rattle.atp.specs.InPlace.{packet_value}
use Rattle.atp.proofs.Slots.{put}
use Rattle.atp.proofs.Steps.{taken, taken_id, taken_ask}
use Rattle.atp.proofs.table.hear_in.Goals as goal

pub returns-in-Some-clause-changed : goal.returns-in-Some-clause-changed
returns-in-Some-clause-changed c = λ t e.
    let p = packet_value c.args.packet.now in
    let there : Some c.in-Some.transaction.now ≡ Some t = c.in-Some.ensures.value ∙ e in
    let same : c.in-Some.transaction.now ≡ t = cc in
    put c.args.table.now _ c.args.key t (taken p t) c.requires.table e (taken_id p t) (taken_ask p t)
    (ap (with_value c.args.table.now c.args.key) (c.hear.ensures ∙ ap (taken p) same))
