use Rattle.std.proofs.Common.{◌∙◌, ◌++◌, Ok, ap, arith, refl, subst, sym}
use Rattle.std.proofs.lemmas.List.{length-append}
use Rattle.capture_feed.proofs.Growing.{filled_refused, filled_told, filled_waits, some_kept, waits_few}
use Rattle.capture_feed.specs.Reads.{IsNext}
use Rattle.capture_feed.specs.Stages.{block_next}
use Rattle.capture_feed.proofs.taking.take_kept.Goals as goal

pub returns-in-Ok-Some-clause-taken : goal.returns-in-Ok-Some-clause-taken
returns-in-Ok-Some-clause-taken g c =
    let s = c.args.section.now in
    let k = c.fill_up.new.kept.items in
    let some = subst (λ o. IsNext (Ok o) s c.read_block.new.section (block_next s c.as_slice.result.now)) c.in-Ok-Some.field-0-is c.in-Ok-Some.ensures.next in
    let next = sym (ap (block_next s) c.as_slice.ensures.value) ∙ some.0 in
    (c.clear.ensures.items, some.1, (_, (λ more. filled_told s k _ _ c.in-Ok.ensures.filled _ _ _ more next), c.hear.ensures))

pub returns-in-Ok-None-clause-taken : goal.returns-in-Ok-None-clause-taken
returns-in-Ok-None-clause-taken g c =
    let s = c.args.section.now in
    let k = c.fill_up.new.kept.items in
    let none = subst (λ o. IsNext (Ok o) s c.read_block.new.section (block_next s c.as_slice.result.now)) c.in-Ok-None.field-0-is c.in-Ok-None.ensures.next in
    let next = sym (ap (block_next s) c.as_slice.ensures.value) ∙ none.0 in
    let all = filled_waits s k _ _ c.in-Ok.ensures.filled next in
    (none.1, all, sym (ap (block_next s) all) ∙ next, waits_few s k next, refl)

pub returns-in-Err-read_block-clause-taken : goal.returns-in-Err-read_block-clause-taken
returns-in-Err-read_block-clause-taken g c =
    let s = c.args.section.now in
    let k = c.fill_up.new.kept.items in
    let next = sym (ap (block_next s) c.as_slice.ensures.value) ∙ c.in-Err-read_block.ensures.next.0 in
    (λ more. filled_refused s k _ _ c.in-Ok.ensures.filled _ more next, refl)

pub returns-in-Ok-Some-clause-less : goal.returns-in-Ok-Some-clause-less
returns-in-Ok-Some-clause-less g c =
    let s = c.args.section.now in
    let k = c.fill_up.new.kept.items in
    let all = c.args.kept.now.items ++ c.args.piece.now in
    let some = subst (λ o. IsNext (Ok o) s c.read_block.new.section (block_next s c.as_slice.result.now)) c.in-Ok-Some.field-0-is c.in-Ok-Some.ensures.next in
    let next = sym (ap (block_next s) c.as_slice.ensures.value) ∙ some.0 in
    let low = some_kept s k _ all c.in-Ok.ensures.filled _ _ _ next in
    omega (arith, low, length-append c.args.kept.now.items c.args.piece.now)
