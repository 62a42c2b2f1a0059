-- A station's outputs before the first.
use Rattle.std.proofs.Common.{◌≡◌, List, [], ◌∷◌, arith}
use Rattle.station.specs.Made.{AreMade}
use Rattle.station.specs.declared.output.Output.{Output}

-- Where there are no outputs, each was made.
pub none_made : (os : List Output) → os ≡ [] → AreMade 1 os
unfolding AreMade
none_made [] e = λ k d lt. absurd (omega (arith, lt))
none_made (o ∷ os) e = absurd cc
