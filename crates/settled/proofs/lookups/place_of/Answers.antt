use Rattle.std.proofs.Common.{rules, of_calls, nat_lt}
use Rattle.std.proofs.lemmas.Fn.{always_returns_same}
use Rattle.std.proofs.lemmas.List.Sorted.{IsPartitionedBy-ltb}
use Rattle.settled.proofs.Alike.{not_falling, only_at_point}
use Rattle.settled.proofs.lookups.place_of.Goals as goal
use Rattle.table_image.specs.declared.row.Row.{Row}

pub returns : goal.returns
returns c =
    let rows = c.args.rows.now in
    only_at_point rows c.args.start c.partition_point.result c.requires (c.partition_point.ensures.partitioned (λ (row : Row).
    nat_lt row.start c.args.start)
    (always_returns_same _ _ _ (λ a r f k. search (rules, of_calls)))
    (IsPartitionedBy-ltb (λ (row : Row). row.start) rows c.args.start (not_falling rows c.requires)))
