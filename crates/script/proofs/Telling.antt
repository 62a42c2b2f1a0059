-- If each line that isn't skipped has a valid step, no line is bad.
use Rattle.std.proofs.Common.{◌≡◌, ℕ, ◌<◌, zero, suc, Bool, true, false, not, List, [], ◌∷◌, Option, Some, None, filter}
use Rattle.std.proofs.Common.{get_or, length, map, refl, sym, ◌∙◌, arith}
use Rattle.std.proofs.lemmas.List.Quantifiers.{position-Some}
use Rattle.script.specs.Lines.{is_skipped, step}
use Rattle.script.specs.Scripts.{IsBadAt, IsScript, is_bad, lines}
use Rattle.script.specs.declared.step.Step.{Step}

-- The lines that aren't skipped.
abbrev told_in : List (List ℕ) → List (List ℕ)
told_in ls = filter (λ line. not (is_skipped line)) ls

-- One line, by whether it is skipped and which step it has.
one : (line : List ℕ) (ls : List (List ℕ)) (steps : List Step) (skipped : Bool) (says : Option Step) → is_skipped line ≡ skipped
    → step line ≡ says → map step (told_in (line ∷ ls)) ≡ map Some steps
    → (is_bad line ≡ false) × ((rest : List Step) × (map step (told_in ls) ≡ map Some rest))
one line ls steps true says skip said all = (rw skip refl, (steps, rw skip at all))
one line ls [] false says skip said all = let odd = rw skip at all in absurd cc
one line ls (s ∷ steps) false None skip said all = let odd = rw (skip, said) at all in absurd cc
one line ls (s ∷ steps) false (Some t) skip said all =
    let both = rw (skip, said) at all in (rw (skip, said) refl, (steps, cc))

-- No line is bad.
pub none_bad : (ls : List (List ℕ)) (steps : List Step) (k : ℕ) → map step (told_in ls) ≡ map Some steps → k < length ls
    → is_bad (get_or ls k []) ≡ false
none_bad [] steps k all inside = absurd (omega (arith, inside))
none_bad (l ∷ ls) steps zero all inside = (one l ls steps (is_skipped l) (step l) refl refl all).0
none_bad (l ∷ ls) steps (suc k) all inside =
    let rest = (one l ls steps (is_skipped l) (step l) refl refl all).1 in none_bad ls rest.0 k rest.1 (omega (arith, inside))

-- A script has no bad line.
pub no_bad_line : (text : List ℕ) (steps : List Step) (n : ℕ) → IsScript text steps → IsBadAt text n → ⊥
no_bad_line text steps n all bad =
    let first = position-Some is_bad (lines text) bad.0 [] bad.1 in
    let odd : true ≡ false = sym first.1 ∙ none_bad (lines text) steps bad.0 all first.0 in
    absurd cc
