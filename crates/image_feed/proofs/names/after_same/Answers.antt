use Rattle.std.proofs.Common.{◌≡◌, ◌∙◌, Ok, List, ℕ, suc, ◌+◌, ◌++◌, ◌∷◌, [], take, get_or, arith, ap, sym}
use Rattle.std.proofs.Math.Seq.{take-suc}
use Rattle.image_feed.proofs.Passing.{names_next}
use Rattle.image_feed.proofs.names.after_same.Goals as goal

pub loop-name-preserved : goal.loop-name-preserved
loop-name-preserved c =
    let i = c.loop-name.count in
    let same : i ≡ c.loop-name.name-index = c.loop-name.invariant.0 in
    let one : i + 1 ≡ suc i = omega arith in
    let read : c.name-item.result ≡ get_or c.args.names.now i c.name-item.result = rw same c.name-item.is in
    let longer : take i c.args.names.now ++ c.name-item.result ∷ [] ≡ take (i + 1) c.args.names.now =
    rw one (ap (λ (y : List ℕ). take i c.args.names.now ++ y ∷ []) read
    ∙ sym (take-suc c.args.names.now i c.name-item.result (omega (arith, same, c.loop-name-test.true)))) in (
      ap (λ n. n + 1) same,
      names_next i c.args.bytes.now (take i c.args.names.now) c.loop-name.rest.now c.name-item.result c.in-Some.after.now c.loop-name.invariant.1
          (c.in-Some.ensures {u = tt}) ∙ ap (λ (l : List (List ℕ)). Ok (l, c.in-Some.after.now)) longer,
    )
