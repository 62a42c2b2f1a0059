use Rattle.std.proofs.Common.{◌≡◌, ◌∙◌, List, ℕ, ◌+◌, ◌-◌, ◌++◌, None, Some, take, arith, ap, refl, sym}
use Rattle.std.proofs.Math.Seq.{take-add}
use Rattle.table_image.specs.Spelling.{zone_list_spelling}
use Rattle.table_image.specs.declared.zone_list.ZoneList.{ZoneList}
use Rattle.image_feed.specs.declared.front.Front.TheVariants.{Same}
use Rattle.image_feed.specs.declared.lists.Lists.{Lists}
use Rattle.image_feed.specs.Fronts.{front_of}
use Rattle.image_feed.specs.Growing.{items_on}
use Rattle.image_feed.proofs.Ends.{IsBetween, between_on}
use Rattle.image_feed.proofs.Leading.{none_of}
use Rattle.image_feed.proofs.lists.Lists.pass_all.Goals as goal

pub returns-clause-leads : goal.returns-clause-leads
returns-clause-leads c =
    let like = c.args.like.now in
    let was = c.args.self.now in
    let k = c.in-Same.count in
    let n = c.in-Some.left in
    let m = c.after_same-more.result.0 in
    let rest = c.after_same-more.result.2.now in
    let new : Lists = record { left = Some (n - m); front = Same (k + m); low = c.after_same-more.result.1; head = was.head; names = was.names } in
    let fresh = c.if-not-is_fresh.ensures {u = tt} in
    let head : was.head ≡ None = none_of was.head (sym c.is_some.ensures ∙ c.if-is_some.false) in
    let between : IsBetween was = record { head = head; left = fresh.left refl; front = fresh.front refl } in
    let anew : IsBetween new = record { head = head; left = fresh.left refl; front = fresh.front refl } in
    let parts : n ≡ m + (n - m) = omega (arith, c.after_same-more.ensures.most) in
    let said = rw c.after_first-expected.ensures at c.after_same-more.ensures.leads in
    λ more.
    between_on c.args.version like was n (c.args.bytes.now ++ more) c.in-Some.is between
    ∙ (ap (λ (f : List ZoneList). items_on (zone_list_spelling c.args.version) (λ l. l.start + 1) f was.low n (c.args.bytes.now ++ more))
    (ap (front_of like) c.in-Same.is)
    ∙ (ap (λ (j : ℕ). items_on (zone_list_spelling c.args.version) (λ l. l.start + 1) (take k like) was.low j (c.args.bytes.now ++ more)) parts
    ∙ (said (take k like) (n - m) more
    ∙ (ap (λ (f : List ZoneList). items_on (zone_list_spelling c.args.version) (λ l. l.start + 1) f new.low (n - m) (rest ++ more)) (sym (take-add k m like))
    ∙ sym (between_on c.args.version like new (n - m) (rest ++ more) refl anew)))))
