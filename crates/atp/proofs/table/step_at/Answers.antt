use Rattle.std.proofs.Common.{sym, ap}
use Rattle.slab.specs.Slab.{with_value}
use Rattle.atp.specs.Repeating.{stepped}
use Rattle.atp.proofs.Slots.{put}
use Rattle.atp.proofs.Steps.{stepped_id, stepped_ask}
use Rattle.atp.proofs.table.step_at.Goals as goal

pub returns-in-Some-clause-table : goal.returns-in-Some-clause-table
returns-in-Some-clause-table c =
    let t = c.in-Some.transaction.now in
    let after = put c.args.table.now _ c.args.key t (stepped c.args.step t) c.requires (sym c.in-Some.ensures.value)
    (stepped_id c.args.step t) (stepped_ask c.args.step t) (ap (with_value c.args.table.now c.args.key) c.step.ensures) in
    after.table
