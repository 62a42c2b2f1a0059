use Rattle.std.proofs.Common.{◌==◌}
use Rattle.text.proofs.Cutting.{first_part}
use Rattle.script.proofs.words.Words.end.Goals as goal

pub returns-in-Some-clause-none : goal.returns-in-Some-clause-none
returns-in-Some-clause-none c =
    let first = first_part (λ b. b == 32) c.in-Some.field-0.now in
    (first.0, first.1, cc first.2)
