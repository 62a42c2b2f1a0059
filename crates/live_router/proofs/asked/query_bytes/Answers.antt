use Rattle.std.proofs.Common.{◌≡◌, ℕ, List, length, ap, ◌∙◌, arith}
use Rattle.live_router.proofs.Short.{query_len}
use Rattle.live_router.proofs.asked.query_bytes.Goals as goal

pub returns-in-Ok-clause-short : goal.returns-in-Ok-clause-short
returns-in-Ok-clause-short c =
    let len : length c.in-Ok.bytes ≡ 4 = ap (λ (l : List ℕ). length l) c.in-Ok.ensures.ok ∙ query_len c.args.start in
    omega (arith, len)
