use Rattle.std.proofs.Common.{ℕ, [], ◌∷◌, arith, length}
use Rattle.station.proofs.MadeLawful.{lawful_after}
use Rattle.station.specs.Made.{AreMade}
use Rattle.router.proofs.router.Router.carry.Goals as goal

none_made : (n : ℕ) → AreMade n []
unfolding AreMade
none_made n = λ k d lt. absurd (omega (arith, lt))

pub returns-in_ok-room-clause-ok : goal.returns-in_ok-room-clause-ok
returns-in_ok-room-clause-ok g c =
    let n = length c.args.self.now.ports in
    let o = c.in-Some.output in
    let f = c.in_ok-fate.ensures {u = tt} in
    let made = rw (c.in-Some.is) at f.ok in
    let other = rw (c.in-Some.is) at f.other in
    let good = rw (c.in-Some.is) at f.good n c.requires.by in
    record {
      added = o ∷ [];
      grown = rw (c.room.ensures.kept) at c.add.ensures.added;
      holds = made;
      lawful = lawful_after n o [] other good (none_made n) (omega arith);
    }
