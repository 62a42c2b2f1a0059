use Rattle.std.proofs.Common.{inl, inr, refl, arith, length}
use Rattle.table_image.specs.Flaws.{flaw_after}
use Rattle.table_image.proofs.Whole.{all_takes, place_fits, refuses_first}
use Rattle.image_feed.proofs.whole.refused_for_memory.Goals as goal

pub returns-in-Ok : goal.returns-in-Ok
returns-in-Ok c =
    let found = c.in-Ok.ensures.spells in
    inl (refl, found.0, all_takes c.args.bytes.now found.0 (λ i. omega (arith, c.type_inv.bytes i)) found.1)

pub returns-in-Err : goal.returns-in-Err
returns-in-Err c =
    let flawed = c.in-Err.ensures.flawed in
    let bytes = c.args.bytes.now in
    let fits = place_fits bytes c.in-Err.fault (λ i. omega (arith, c.type_inv.bytes i)) flawed in
    let first = refuses_first bytes c.in-Err.fault (λ i. omega (arith, c.type_inv.bytes i)) flawed in
    inr (flaw_after (length bytes) c.in-Err.fault, first, c.refused_at.ensures fits)
