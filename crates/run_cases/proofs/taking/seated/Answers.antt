use Rattle.std.proofs.Common.{refl, ap}
use Rattle.run_cases.proofs.FirstTwo.{seats_of}
use Rattle.run_cases.proofs.taking.seated.Goals as goal

pub returns-clause-seats : goal.returns-clause-seats
returns-clause-seats c =
    seats_of _ _ _ _ (ap (λ cables. cables.seats) ((c.in_ok-cables.ensures {u = tt}).ok)) refl refl refl refl refl
