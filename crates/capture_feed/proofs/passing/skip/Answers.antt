use Rattle.capture_feed.proofs.Skipping.{skipped}
use Rattle.capture_feed.proofs.passing.skip.Goals as goal

pub returns : goal.returns
returns c =
    skipped c.args.before c.args.piece.now c.split_at.result.0.now c.split_at.result.1.now c.min-skipped.result c.requires
    c.min-skipped.ensures c.split_at.ensures.front c.split_at.ensures.back
