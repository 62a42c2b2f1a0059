use Rattle.std.proofs.Common.{ap}
use Rattle.live_cables.proofs.Whole.{whole_settled}
use Rattle.live_cables.proofs.live.LiveCables.settled.Goals as goal

pub invariant_of-result : goal.invariant_of-result
invariant_of-result c =
    let cables = c.in_ok-cables.ensures.ok in
    let near = c.in_ok-settled.ensures.ok in
    whole_settled c.args.limit c.in_ok-cables.cables c.in_ok-settled.field-0 c.args.seats.now c.args.own.items c.args.mappers.items
    (ap (λ k. k.seats) cables) (ap (λ k. k.limit) cables) (ap (λ k. k.rooms) cables) (ap (λ k. k.seats) near) (ap (λ k. k.own) near)
    (ap (λ k. k.maps) near) c.requires.own c.requires.maps c.requires.few
