use Rattle.std.proofs.Common.{◌≡◌, ◌==◌, Some, None}
use Rattle.std.proofs.lemmas.List.{take_rest}
use Rattle.std.specs.List.{position}
use Rattle.text.proofs.Cutting.{split_there, not_split}
use Rattle.text.proofs.cut.cut.Goals as goal

pub returns-in-Some-clause-parts : goal.returns-in-Some-clause-parts
returns-in-Some-clause-parts c =
    let there : position (λ b. b == c.args.byte) c.args.text.now ≡ Some c.in-Some.k = cc in
    rw take_rest (split_there (λ b. b == c.args.byte) c.args.text.now c.in-Some.k 0 there)

pub returns-in-None-clause-parts : goal.returns-in-None-clause-parts
returns-in-None-clause-parts c =
    let none : position (λ b. b == c.args.byte) c.args.text.now ≡ None = cc in
    not_split (λ b. b == c.args.byte) c.args.text.now none
