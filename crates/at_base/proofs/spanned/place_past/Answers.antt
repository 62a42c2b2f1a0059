use Rattle.std.proofs.Common.{rules, of_calls, suc, nat_le, arith}
use Rattle.std.proofs.lemmas.Fn.{always_returns_same}
use Rattle.std.proofs.lemmas.Bool.{leb-true, leb-false}
use Rattle.std.proofs.lemmas.List.Sorted.{IsPartitionedBy-leb}
use Rattle.at_base.proofs.Numbers.{before_is}
use Rattle.at_base.proofs.Spans.{starts_rise}
use Rattle.at_base.proofs.spanned.place_past.Goals as goal

pub returns-clause-place : goal.returns-clause-place
returns-clause-place g c =
    let span = g.T.Spanned.span in
    let items = c.args.items.now in
    let point = c.partition_point.ensures.partitioned (λ a. nat_le (span a).start c.args.net)
    (always_returns_same _ _ _ (λ a r f k. search (rules, of_calls)))
    (IsPartitionedBy-leb (λ a. (span a).start) items c.args.net (starts_rise span 0 items c.requires)) in
    before_is (λ a. (span a).start) (suc c.args.net) items c.partition_point.result c.partition_point.ensures.bound
    (λ k e l. omega (arith, leb-true _ _ (point.0 k e (omega arith) l))) (λ k e l m. omega (arith, leb-false _ _ (point.1 k e l m)))
