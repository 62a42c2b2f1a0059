use Rattle.std.proofs.Common.{◌≡◌, ◌&&◌, true, Bool, Some, Bor, List, ℕ, ap, sym, refl, subst, is_some}
use Rattle.image_feed.specs.Growing.{Advances, head_on, none_left}
use Rattle.image_feed.specs.Parts.{names_part, node_head, node_on}
use Rattle.image_feed.proofs.Leading.{second_goes}
use Rattle.image_feed.proofs.node.GrowingNodeGrowing.advance.Goals as goal

pub returns : goal.returns
returns c =
    let v = c.args.context.version in
    let cables = c.args.context.cables in
    let was = c.args.self.now in
    let new = c.advance_lists.new.self in
    let h = c.in-Some.field-0 in
    let lists = none_left new.names.left && none_left new.mappings.left in
    let same : new.head ≡ c.read_head.new.head = c.advance_lists.ensures.head in
    let head : new.head ≡ Some h = rw same c.in-Some.is in
    let some : is_some new.head ≡ true = rw head refl in
    subst (λ (w : Bool). Advances {X = Bor (List ℕ)} (λ rest. rest.now) (node_on v cables was) c.args.bytes.now (node_on v cables new) w c.advance_lists.result)
    (sym (ap (λ (b : Bool). b && lists) some))
    (second_goes {X = Bor (List ℕ)} (λ rest. rest.now) (head_on (node_head cables) was.head) (head_on (node_head cables) new.head)
    (names_part v was) (names_part v new) c.args.bytes.now c.in_ok-rest.rest.now h lists c.advance_lists.result
    (rw same c.in_ok-rest.ensures.0) (λ y. rw head refl) (c.advance_lists.ensures.next h))
