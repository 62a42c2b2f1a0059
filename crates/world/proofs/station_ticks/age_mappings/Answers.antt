use Rattle.std.proofs.Common.{◌≡◌, Err, inl, inr, sym, ap, arith, fold}
use Rattle.at_base.specs.declared.error.Error.TheVariants.{Full}
use Rattle.world.proofs.Going.{did_play}
use Rattle.world.specs.Doing.{given_up}
use Rattle.world.proofs.station_ticks.age_mappings.Goals as goal

-- Nothing is held at the seat.
pub returns-then-is_idle-clause-aged : goal.returns-then-is_idle-clause-aged
returns-then-is_idle-clause-aged g c = record {
  passes = c.is_idle.ensures.passes c.if-is_idle.true;
  told = sym (ap (fold given_up c.args.station.now) (c.is_idle.ensures.given_up c.if-is_idle.true));
}

pub returns-then-is_idle-clause-did : goal.returns-then-is_idle-clause-did
returns-then-is_idle-clause-did g c =
    did_play 5 _ _ _ (c.is_idle.ensures.done c.if-is_idle.true).plays (c.is_idle.ensures.done c.if-is_idle.true) (λ e. cc) tt

pub returns-in-Ok-clause-did : goal.returns-in-Ok-clause-did
returns-in-Ok-clause-did g c = did_play 5 _ _ _ c.pass.ensures.plays c.in-Ok.ensures.done (λ e. cc) tt

pub returns-in-Err-clause-did : goal.returns-in-Err-clause-did
returns-in-Err-clause-did g c =
    did_play 5 _ _ _ c.pass.ensures.plays tt
    (λ e. let same : c.in-Err.error ≡ Full = cc in let one = c.in-Err.ensures.full (ap Err same) in omega (arith, one))
    c.in-Err.ensures.refused

pub returns-in-Err-clause-full : goal.returns-in-Err-clause-full
returns-in-Err-clause-full g c = (
  λ same. c.in-Err.ensures.full (ap Err same),
  λ none. elim c.in-Err.ensures.refused [
    | inl is ↦ is
    | inr is ↦ absurd (c.in-Err.ensures.memory (ap Err is) none)
  ],
)
