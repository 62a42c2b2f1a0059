use Rattle.std.proofs.Common.{◌∙◌, ◌++◌, ◌<◌, List, Ok, ap, length, refl, subst, sym, ℕ}
use Rattle.capture_feed.proofs.Growing.{kept_all, refused_on, told_on, waits_few}
use Rattle.capture_feed.specs.Reads.{IsNext}
use Rattle.capture_feed.specs.Stages.{block_next}
use Rattle.pcapng.specs.Heads.{max_block}
use Rattle.capture_feed.proofs.taking.take_here.Goals as goal

pub returns-in-Ok-Some-clause-taken : goal.returns-in-Ok-Some-clause-taken
returns-in-Ok-Some-clause-taken g c =
    let s = c.args.section.now in
    let piece = c.args.piece.now in
    let next = subst (λ o. IsNext (Ok o) s c.read_block.new.section (block_next s piece)) c.in-Ok-Some.field-0-is c.in-Ok-Some.ensures.next in
    (c.requires.none, next.1, (_, (λ more. told_on s piece more _ _ _ next.0), c.hear.ensures))

pub returns-in-Ok-None-clause-taken : goal.returns-in-Ok-None-clause-taken
returns-in-Ok-None-clause-taken g c =
    let s = c.args.section.now in
    let piece = c.args.piece.now in
    let next = subst (λ o. IsNext (Ok o) s c.read_block.new.section (block_next s piece)) c.in-Ok-None.field-0-is c.in-Ok-None.ensures.next in
    let few = waits_few s piece next.0 in
    let all = kept_all _ _ _ _ (c.fill.ensures.all ∙ ap (λ (l : List ℕ). l ++ piece) c.requires.none) few c.fill.ensures.rest in
    (next.1, all, next.0, subst (λ (l : List ℕ). length l < max_block) (sym all) few, refl)

pub returns-in-Err-clause-taken : goal.returns-in-Err-clause-taken
returns-in-Err-clause-taken g c = (λ more. refused_on c.args.section.now c.args.piece.now more _ c.in-Err.ensures.next.0, refl)
