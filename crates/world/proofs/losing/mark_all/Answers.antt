use Rattle.world.proofs.Losses.{marked_long, marked_more}
use Rattle.world.proofs.losing.mark_all.Goals as goal

pub loop-index-preserved : goal.loop-index-preserved
loop-index-preserved c =
    let before = c.loop-index.losing.items in
    let k = c.loop-index.index in
    let after = c.mark.new.losing.items in
    let first = c.args.losing.now.items in
    let less = c.loop-index-test.true in
    let long = c.loop-index.invariant.0 in (
      marked_long c.args.now c.args.losses.now k _ first before after less c.requires long c.mark.ensures,
      marked_more c.args.now c.args.losses.now k _ first before after less c.requires long c.mark.ensures c.loop-index.invariant.1,
    )
