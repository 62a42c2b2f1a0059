use Rattle.std.proofs.Common.{sym}
use Rattle.image_feed.proofs.Last.{last_is}
use Rattle.image_feed.proofs.growth.last_or.Goals as goal

pub returns-then-items-gt0 : goal.returns-then-items-gt0
returns-then-items-gt0 g c =
    sym (last_is c.index-items-items.result c.args.items.now c.args.hint.now c.if-items-gt0.true c.index-items-items.is)
