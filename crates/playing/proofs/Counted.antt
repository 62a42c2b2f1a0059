-- How many ticks a world's history has.
use Rattle.std.proofs.Common.{◌≡◌, ℕ, ◌+◌, ◌-◌, ◌∷◌, [], ap, length, sym, ◌∙◌}
use Rattle.std.proofs.lemmas.List.{length-append}
use Rattle.playing.specs.Lives.{Lives, counts}
use Rattle.playing.specs.Lives.Lives.{Begun, Passed}
use Rattle.world.specs.Worlds.{Worldly}

-- There is a count for each tick.
pub counted : (w : Worldly) (lived : Lives w) → length (counts w lived) ≡ w.now
counted w (Begun v begun scheduled early none wires) = sym early
counted w (Passed old new lived plan now ticks does) =
    length-append (counts old lived) ((length new.wires.cabling.lines - length old.wires.cabling.lines) ∷ [])
    ∙ ap (λ (n : ℕ). n + 1) (counted old lived) ∙ sym now
