use Rattle.std.proofs.Common.{◌≡◌, ℕ, ◌+◌, ◌%◌, List, Option, sym, ◌∙◌}
use Rattle.atp.specs.Requesting.{IsNextId, known}
use Rattle.atp.specs.declared.transaction.Transaction.{Transaction}
use Rattle.end_node.proofs.node.EndNode.ask_by.Goals as goal

-- The next ID of a copy of the transactions is that of the original.
next_of_copy : (first next id : ℕ) (slots copied : List (Option Transaction)) → next ≡ first
    → ((other : ℕ) → known other copied ≡ known other slots) → IsNextId next copied id → IsNextId first slots id
next_of_copy first next id slots copied is same n =
    let moved : IsNextId next slots id = (
      n.0,
      n.1,
      sym (same id) ∙ n.2,
      λ k low.
          let before = n.3 k low in (before.0, sym (same ((next + k) % 65536)) ∙ before.1),
    ) in
    rw is at moved

pub returns-clause-id : goal.returns-clause-id
returns-clause-id c =
    let old = c.self.inside.requester in
    let copied = c.in_ok-requester.requester in
    let same = c.in_ok-requester.ensures in
    rw (sym c.self.view_is)
    (next_of_copy old.next copied.next c.in_ok-id.id old.slots copied.slots same.next same.same c.in_ok-id.ensures.id)
