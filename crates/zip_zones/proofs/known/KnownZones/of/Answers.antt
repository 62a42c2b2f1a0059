use Rattle.std.proofs.Common.{ℕ, List, length, ap, ◌∙◌, arith}
use Rattle.zip_zones.proofs.Names.{not_more}
use Rattle.zip_zones.proofs.known.KnownZones.of.Goals as goal

pub overflow_cast-total : goal.overflow_cast-total
overflow_cast-total c =
    let len = c.len-total.ensures ∙ c.in_ok-kept.kept.ok.0 ∙ ap (λ (names : List (List ℕ)). length names) c.in_ok-kept.ensures.ok in
    omega (arith, not_more c.args.names.now, len, c.requires)
