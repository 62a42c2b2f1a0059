-- There are at most as many replies to a lookup as names.
use Rattle.std.proofs.Common.{ℕ, ◌≤◌, Bool, true, false, cond, List, [], ◌∷◌, length, arith}
use Rattle.std.specs.Prelude.{filter, map}
use Rattle.nbp.specs.Registered.{answers, is_asked_for, tuple_of}
use Rattle.nbp.specs.declared.names.Named.{Named}

pub few_answers : (object kind : List ℕ) (names : List Named) → length (answers object kind names) ≤ length names
few_answers object kind [] = omega arith
few_answers object kind (n ∷ names) =
    by (is_asked_for object kind n) (few_answers object kind names)
  where
    by : (b : Bool) → length (answers object kind names) ≤ length names
        → length (map tuple_of (cond b (n ∷ filter (is_asked_for object kind) names) (filter (is_asked_for object kind) names)))
        ≤ length (n ∷ names)
    by true others = omega (arith, others)
    by false others = omega (arith, others)
