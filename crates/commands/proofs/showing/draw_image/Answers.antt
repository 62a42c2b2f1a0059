-- What is drawn is of the image that the bytes spell.
use Rattle.std.proofs.Common.{Option, Some, None}
use Rattle.std.specs.Prelude.{IfSome}
use Rattle.commands.proofs.showing.draw_image.Goals as goal

-- what follows of a value that is there
mapped : {A : Type 0} (o : Option A) (P Q : A → Type 0) → IfSome o P → ((a : A) → P a → Q a) → IfSome o Q
mapped None P Q p follows = p
mapped (Some a) P Q p follows = follows a p

pub returns-in-Ok-print_drawn-clause-written : goal.returns-in-Ok-print_drawn-clause-written
returns-in-Ok-print_drawn-clause-written g c =
    let drawn = (c.in-Ok-print_drawn.ensures {u = tt}).printed in
    mapped (g.R.Read.remaining c.args.input.now) _ _ (c.in-Ok.ensures {u = tt}).found
    (λ bytes spells. (c.in-Ok.image, drawn.0, drawn.1, spells, drawn.2, drawn.3, drawn.4))
