-- A `request` line: the name is the rest of the line.
use Rattle.std.proofs.Common.{◌≡◌, ◌==◌, ℕ, List, ◌∷◌, Some, refl}
use Rattle.std.specs.List.{join_with_byte}
use Rattle.std.proofs.lemmas.List.Splits.{join_with_byte-slice_split}
use Rattle.events.specs.declared.event.Event.TheVariants.{Request}
use Rattle.script.specs.declared.step.Step.TheVariants.{Event}
use Rattle.script.specs.Words.{via, words}
use Rattle.text.specs.Words.{address, byte, given}
use Rattle.script.specs.Lines.{name, request}
use Rattle.text.proofs.Cutting.{first_part}

pub name_is_rest : (all : List (List ℕ)) (a b c text : List ℕ) → all ≡ a ∷ b ∷ c ∷ words text
    → request all ≡ given (address a) (λ node. given (via b) (λ by. given (byte c) (λ id. given (name text) (λ tuple.
    Some (Event (Request node by id tuple))))))
name_is_rest all a b c text e =
    let first = first_part (λ b. b == 32) text in
    let joined : join_with_byte 32 (first.0 ∷ first.1) ≡ text = rw first.2 at (join_with_byte-slice_split 32 text) in
    rw (e, first.2, joined) refl
