use Rattle.std.proofs.Common.{[], arith, length, ap}
use Rattle.std.proofs.lemmas.List.{length-map}
use Rattle.cable_model.proofs.Order.{length_all_placed}
use Rattle.cable_model.specs.Books.{pair_at, said}
use Rattle.cable_model.specs.Pending.{pending}
use Rattle.cable_model.specs.Waits.{pair_key}
use Rattle.cable_model.proofs.cables.Cables.pending_count.Goals as goal

pub returns : goal.returns
returns c =
    let log = c.self.inside.log in
    let ss = c.self.inside.seats in
    let mapped = length-map log.due.dues (pair_at ss (said log)) in
    let same = ap length c.self.invariant.0.book.pending in
    let all = length_all_placed pair_key [] (pending ss (said log)) in
    rw (← c.self.view_is) (omega (arith, c.len.ensures, mapped, same, all))
