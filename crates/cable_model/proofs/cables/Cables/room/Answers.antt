use Rattle.std.proofs.Common.{arith, ap, ◌≡◌, ◌*◌}
use Rattle.cable_model.proofs.Takes.{roomy}
use Rattle.cable_model.proofs.cables.Cables.room.Goals as goal
use Rattle.cable_model.specs.Places.{widest}

pub invariant_of-self : goal.invariant_of-self
invariant_of-self c = roomy c.make_spare.ensures.same c.self.invariant

pub invariant_of-self-2 : goal.invariant_of-self-2
invariant_of-self-2 c =
    let s = c.self.inside.seats in
    let k = (roomy c.make_spare.ensures.same c.self.invariant).0 in
    let room = c.in-Ok.ensures in
    let frames : c.args.more * c.widest.result ≡ c.args.more * widest s = ap (λ n. c.args.more * n) c.widest.ensures.value in (
      k,
      c.self.invariant.1,
      λ some. record {
        lines = room.lines;
        kept = c.make_spare.ensures.shelf;
        due = omega (arith, room.due, frames);
        within = room.within;
      },
    )
