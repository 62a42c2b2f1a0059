use Rattle.std.proofs.Common.{◌≡◌, ◌∙◌, Some, None, refl, sym}
use Rattle.image_feed.proofs.Leading.{none_of}
use Rattle.image_feed.proofs.Ends.{list_passed}
use Rattle.image_feed.proofs.lists.Lists.pass_same.Goals as goal

pub returns-clause-passed : goal.returns-clause-passed
returns-clause-passed c =
    let was = c.args.self.now in
    let new = record was { left = Some c.args.after; front = c.push_same.new.self; low = c.next_low-self.result } in
    let head : was.head ≡ None = none_of was.head (sym c.is_some.ensures ∙ c.if-is_some.false) in
    let fresh = c.if-not-is_fresh.ensures {u = tt} in
    list_passed c.args.version c.args.like.now was new c.args.after c.in-Some.list.now c.args.bytes.now c.in-Some-after_whole.rest.now c.requires refl
    (record { head = head; left = fresh.left refl; front = fresh.front refl }) (record { head = head; left = fresh.left refl; front = fresh.front refl })
    c.next_low-self.ensures (c.in_ok-push_same.ensures {u = tt}).pushed (c.in-Some-after_whole.ensures {u = tt})
