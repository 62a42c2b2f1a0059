use Rattle.text.proofs.Going.{put_then}
use Rattle.text.proofs.Going.{on_ok}
use Rattle.drawing.proofs.labels.put_change.Goals as goal

pub returns : goal.returns
returns c =
    on_ok c.put_part.result c.put_part.ensures
    (λ last. put_then c.args.text.now.items _ _ c.in_ok-put_letters.ensures last)
