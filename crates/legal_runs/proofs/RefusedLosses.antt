-- Transcripts that aren't legal with losses: each has an entry that doesn't fit after those before it.
use Rattle.std.proofs.Common.{◌≡◌, ℕ, [], Contains, List, arith, refl, take}
use Rattle.std.specs.List.{AllByRecursion as Each}
use Rattle.audit.specs.Example.{three_cables}
use Rattle.cable_model.specs.Pending.{Pair, pending}
use Rattle.cable_model.proofs.Counting.{contained_at, each_at}
use Rattle.legal_runs.specs.Example.{echo}
use Rattle.legal_runs.specs.IllegalLosses.{lost_after, lost_twice, lost_unknown, stamp_falls, stamp_twice, taken_after}
use Rattle.legal_runs.specs.LossyRuns.{IsLegalWithLosses}
use Rattle.legal_runs.specs.Stations.{cable_seats}
use Rattle.legal_runs.proofs.InOrder.{are_in_order}

-- Nothing is in the empty list.
nothing_there : (p : Pair) → Contains [] p → ⊥
nothing_there p there = let lt = there.1 in absurd (omega (arith, lt))

-- A pending pair has a stamp that all pending pairs have.
stamp_of : (ps : List Pair) (p : Pair) (n : ℕ) → Contains ps p → Each (λ q. q.frame.stamp ≡ n) ps → p.frame.stamp ≡ n
stamp_of ps p n there all = let at = contained_at ps p there in each_at (λ q. q.frame.stamp ≡ n) ps at.0 p at.1 all

pub not_lost_after : IsLegalWithLosses three_cables lost_after → ⊥
not_lost_after legal =
    let w = (are_in_order three_cables lost_after legal).1.1.1.1.0 in
    let same = w.same in
    let other = stamp_of (pending (cable_seats three_cables) (take 4 echo)) w.pair 1 w.there (refl, tt) in
    absurd (omega (arith, same, other))

pub not_unknown : IsLegalWithLosses three_cables lost_unknown → ⊥
not_unknown legal =
    let w = (are_in_order three_cables lost_unknown legal).1.1.0 in
    let same = w.same in
    let other = stamp_of (pending (cable_seats three_cables) (take 2 echo)) w.pair 0 w.there (refl, tt) in
    absurd (omega (arith, same, other))

pub not_lost_twice : IsLegalWithLosses three_cables lost_twice → ⊥
not_lost_twice legal = let w = (are_in_order three_cables lost_twice legal).1.1.1.0 in nothing_there w.pair w.there

pub not_taken_after : IsLegalWithLosses three_cables taken_after → ⊥
not_taken_after legal = let w = (are_in_order three_cables taken_after legal).1.1.1.0.0 in nothing_there w.pair w.there

pub not_same_stamp : IsLegalWithLosses three_cables stamp_twice → ⊥
not_same_stamp legal = let le = (are_in_order three_cables stamp_twice legal).1.1.1.0 in absurd (omega (arith, le))

pub not_falling : IsLegalWithLosses three_cables stamp_falls → ⊥
not_falling legal = let le = (are_in_order three_cables stamp_falls legal).1.1.1.0 in absurd (omega (arith, le))
