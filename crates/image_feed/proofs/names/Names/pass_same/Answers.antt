use Rattle.std.proofs.Common.{◌≡◌, ◌≤◌, Ok, take, drop, arith}
use Rattle.std.proofs.lemmas.List.{length-take, take-take}
use Rattle.image_feed.proofs.Passing.{names_at, names_passed}
use Rattle.image_feed.proofs.names.Names.pass_same.Goals as goal

pub returns-clause-leads : goal.returns-clause-leads
returns-clause-leads c =
    let left = c.in-Some.left in
    let more = c.after_same-more.result.0 in
    let others = drop c.in-Same.count c.args.like.now in
    let few : more ≤ left =
    (let fits = rw (c.first-expected.ensures, c.after_first.ensures, length-take left others) at c.after_same-more.ensures.fits in
    omega (arith, fits)) in
    let passed : names_at more c.args.bytes.now ≡ Ok (take more others, c.after_same-more.result.1.now) =
    rw (c.first-expected.ensures, c.after_first.ensures, take-take more left others few) at c.after_same-more.ensures.names in
    λ version. rw (c.in-Some.is, c.in-Same.is)
    (names_passed c.args.like.now c.in-Same.count more left c.args.bytes.now c.after_same-more.result.1.now few passed)
