use Rattle.text.proofs.Going.{put_then}
use Rattle.text.proofs.Going.{on_ok}
use Rattle.tables_text.proofs.entries.put_words.Goals as goal

pub returns : goal.returns
returns c =
    let t1 = put_then c.args.text.now.items _ _ c.in_ok-extend_from_slice.ensures.items c.in_ok-put_entity.ensures in
    let t2 = put_then c.args.text.now.items _ _ t1 c.in_ok-extend_from_slice-2.ensures.items in
    on_ok c.put_entity-2.result c.put_entity-2.ensures
    (λ last. put_then c.args.text.now.items _ _ t2 last)
