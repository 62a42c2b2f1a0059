use Rattle.std.proofs.Common.{rules, of_calls, nat_lt, ltb-true, ltb-false, arith}
use Rattle.std.proofs.lemmas.Fn.{always_returns_same}
use Rattle.std.proofs.lemmas.List.Sorted.{IsPartitionedBy-ltb}
use Rattle.at_base.proofs.Numbers.{before_is, rising_at}
use Rattle.at_base.proofs.index.place_of.Goals as goal

pub returns-clause-place : goal.returns-clause-place
returns-clause-place c =
    let numbers = c.args.numbers.now in
    let point = c.partition_point.ensures.partitioned (λ m. nat_lt m c.args.number)
    (always_returns_same _ _ _ (λ a r f k. search (rules, of_calls)))
    (IsPartitionedBy-ltb (λ m. m) numbers c.args.number (rising_at 0 numbers c.requires)) in
    before_is (λ m. m) c.args.number numbers c.partition_point.result c.partition_point.ensures.bound
    (λ k e l. ltb-true _ _ (point.0 k e (omega arith) l)) (λ k e l m. ltb-false _ _ (point.1 k e l m))
