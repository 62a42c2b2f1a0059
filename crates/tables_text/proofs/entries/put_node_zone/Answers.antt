use Rattle.text.proofs.Going.{put_then}
use Rattle.text.proofs.Going.{on_ok}
use Rattle.tables_text.proofs.entries.put_node_zone.Goals as goal

pub returns : goal.returns
returns c =
    let t1 = put_then c.args.text.now.items _ _ c.in_ok-extend_from_slice.ensures.items c.in_ok-put_hardware.ensures in
    let t2 = put_then c.args.text.now.items _ _ t1 c.in_ok-extend_from_slice-2.ensures.items in
    let t3 = put_then c.args.text.now.items _ _ t2 c.in_ok-put_zone.ensures in
    on_ok c.put_letters.result c.put_letters.ensures
    (λ last. put_then c.args.text.now.items _ _ t3 last)
