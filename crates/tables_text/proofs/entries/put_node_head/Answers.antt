use Rattle.text.proofs.Going.{put_then}
use Rattle.text.proofs.Going.{on_ok}
use Rattle.tables_text.proofs.entries.put_node_head.Goals as goal

pub returns : goal.returns
returns c =
    let t1 = put_then c.args.text.now.items _ _ c.in_ok-put_node_place.ensures c.in_ok-put_node_zone.ensures in
    on_ok c.put_router_key.result c.put_router_key.ensures
    (λ last. put_then c.args.text.now.items _ _ t1 last)
