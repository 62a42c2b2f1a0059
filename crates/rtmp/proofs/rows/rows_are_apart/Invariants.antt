use Rattle.std.proofs.Common.{◌≡◌, drop}
use Rattle.std.specs.List.{list_all}
use Rattle.at_base.specs.Range.{is_range}
use Rattle.rtmp.specs.Routes.{are_above}
use Rattle.rtmp.proofs.rows.rows_are_apart.Given as goal

abbrev pub invariant-loop-row : goal.invariant-loop-row
invariant-loop-row l =
    (are_above 0 l.rows ≡ are_above l.end (drop l.row-index l.rows))
    × (list_all (λ r. is_range r.range.start r.range.end) l.rows
    ≡ list_all (λ r. is_range r.range.start r.range.end) (drop l.row-index l.rows))
