use Rattle.std.proofs.Common.{suc}
use Rattle.std.proofs.lemmas.Result.{on_err_weaker}
use Rattle.live_cables.proofs.Parts.{one_more}
use Rattle.live_cables.proofs.Shed.{part_more}
use Rattle.live_cables.proofs.holding.+shed_all.Goals as goal

pub returns-in-Ok-clause-part : goal.returns-in-Ok-clause-part
returns-in-Ok-clause-part t c =
    let rest = c.shed_all.ensures.part in (
      suc rest.0,
      part_more c.args.stamps.now rest.0 _ c.shed_one.new.cables _ c.in-len1-up.len_at_least c.in-Ok.ensures.shed rest.1,
      on_err_weaker c.shed_all.result (one_more c.args.stamps.now rest.0 c.in-len1-up.len_at_least) rest.2,
    )
