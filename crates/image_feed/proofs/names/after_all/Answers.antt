use Rattle.std.proofs.Common.{◌≡◌, ◌∙◌, ℕ, List, Ok, length, take, ap, arith, subst}
use Rattle.std.proofs.Math.Seq.{take-length}
use Rattle.image_feed.proofs.Passing.{names_at}
use Rattle.image_feed.proofs.names.after_all.Goals as goal

pub returns : goal.returns
returns c =
    let names = c.args.names.now in
    let rest = c.after_same-count.result.1.now in
    let all : c.after_same-count.result.0 ≡ length names = omega (arith, c.after_same-count.ensures.fits, c.if-count-names.false) in
    subst (λ (n : ℕ). names_at n c.args.bytes.now ≡ Ok (take n names, rest)) all c.after_same-count.ensures.names
    ∙ ap (λ (l : List (List ℕ)). Ok (l, rest)) (take-length names)
