use Rattle.std.proofs.Common.{◌≡◌, ◌∙◌, List, suc, ◌+◌, ◌++◌, ◌∷◌, [], take, get_or, append_assoc, arith, ap, sym}
use Rattle.std.proofs.Math.Seq.{take-suc}
use Rattle.table_image.specs.Spelling.{zone_list_spelling}
use Rattle.table_image.specs.declared.zone_list.ZoneList.{ZoneList}
use Rattle.image_feed.specs.Growing.{items_on}
use Rattle.image_feed.proofs.Leading.{items_step}
use Rattle.image_feed.proofs.lists.after_same.Goals as goal

pub loop-list-preserved : goal.loop-list-preserved
loop-list-preserved c =
    let i = c.loop-list.count in
    let lists = c.args.lists.now in
    let list = c.list-item.result in
    let same : i ≡ c.loop-list.list-index = c.loop-list.invariant.0 in
    let one : i + 1 ≡ suc i = omega arith in
    let read : list ≡ get_or lists i list = rw same c.list-item.is in
    let longer : take i lists ++ list ∷ [] ≡ take (i + 1) lists =
    rw one (ap (λ (l : ZoneList). take i lists ++ l ∷ []) read
    ∙ sym (take-suc lists i list (omega (arith, same, c.loop-list-test.true)))) in (
      ap (λ n. n + 1) same,
      omega (arith, c.loop-list.invariant.1, c.if-count-most.false),
      λ front n more.
          (let shift : i + 1 + n ≡ i + suc n = omega arith in
          rw (shift, c.next_low-last.ensures) (c.loop-list.invariant.2 front (suc n) more
          ∙ (items_step (zone_list_spelling c.args.version) (λ l. l.start + 1) (front ++ take i lists) c.loop-list.last n c.loop-list.rest.now list c.in-Some.after.now
          (c.in-Some.ensures {u = tt}) more
          ∙ ap (λ (l : List ZoneList). items_on (zone_list_spelling c.args.version) (λ l. l.start + 1) l (list.start + 1) n (c.in-Some.after.now ++ more))
          (append_assoc front (take i lists) (list ∷ []) ∙ ap (λ (l : List ZoneList). front ++ l) longer)))),
    )
