use Rattle.text.proofs.Going.{put_then}
use Rattle.text.proofs.Going.{on_ok}
use Rattle.drawing.proofs.labels.put_marked_end.Goals as goal

pub returns : goal.returns
returns c =
    rw (← c.ending.ensures)
    (on_ok c.put_letters.result c.put_letters.ensures
    (λ last. put_then c.args.text.now.items _ _ c.in_ok-put_mark.ensures last))
