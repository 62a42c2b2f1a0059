use Rattle.at_base.specs.Reading.{read, list_at}
use Rattle.table_image.specs.Flaws.{faults}
use Rattle.table_image.proofs.Loop.{Passed}
use Rattle.table_image.proofs.item.pass_list.Given as goal

abbrev pub invariant-loop : goal.invariant-loop
invariant-loop g l =
    Passed (λ low. read faults (g.T.Item.spelling l.context low)) g.T.Item.next l.low l.count l.counter l.rest
    (list_at (λ low. read faults (g.T.Item.spelling l.context low)) g.T.Item.next 0 l.count l.bytes)
