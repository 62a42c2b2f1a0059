use Rattle.std.proofs.Common.{◌%◌, sym, ap, ◌∙◌, get_or, List, ℕ}
use Rattle.std.proofs.lemmas.List.{drop_more}
use Rattle.rtmp.specs.Indexing.{spoiled, spoiled_row}
use Rattle.rtmp.proofs.Spoiled.{apart_map, spoiled_range}
use Rattle.rtmp.proofs.index.spoil_rows.Goals as goal

pub loop-number-preserved : goal.loop-number-preserved
loop-number-preserved c =
    let next = c.args.next in
    let rows = c.loop-number.rows.items in
    let net = get_or c.args.numbers.now c.loop-number.number-index 0 % 65536 in
    let left = drop_more c.args.numbers.now c.loop-number.number-index 0 c.loop-number-test.true in
    rw c.spoil_row.ensures (
      apart_map (spoiled_row next net) (spoiled_range next net) 0 rows c.loop-number.invariant.0,
      ap (λ (l : List ℕ). spoiled next l rows) (sym left) ∙ c.loop-number.invariant.1,
    )
