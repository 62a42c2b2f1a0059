use Rattle.text.proofs.Going.{put_then}
use Rattle.text.proofs.Going.{on_ok}
use Rattle.tables_text.proofs.entries.put_name.Goals as goal

pub returns : goal.returns
returns c =
    let t1 = put_then c.args.text.now.items _ _ c.in_ok-put_words.ensures c.in_ok-put_numbers.ensures in
    on_ok c.put_letters.result c.put_letters.ensures
    (λ last. put_then c.args.text.now.items _ _ t1 last)
