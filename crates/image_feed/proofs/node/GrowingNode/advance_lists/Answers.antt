use Rattle.std.proofs.Common.{◌≡◌, ◌+◌, ◌&&◌, Ok, Bor, List, ℕ, true, sym}
use Rattle.at_base.specs.Grammar.{one}
use Rattle.at_base.specs.Limits.{max_names}
use Rattle.table_image.specs.Spelling.{name_spelling}
use Rattle.table_image.specs.declared.node.Node.{Node}
use Rattle.table_image.specs.declared.node.NodeName.{NodeName}
use Rattle.image_feed.specs.declared.several.Several.{Several}
use Rattle.table_image.specs.declared.flaw.Fault.{Fault}
use Rattle.std.proofs.Common.{Result}
use Rattle.image_feed.specs.Growing.{counted_on, none_left}
use Rattle.image_feed.specs.Parts.{known_part, mappings_on}
use Rattle.image_feed.proofs.Leading.{advances_bind, counted_whole, first_waits, second_goes, stops_bind}
use Rattle.image_feed.proofs.node.GrowingNode.advance_lists.Goals as goal

-- what reading gives of the names
abbrev names_on : Several NodeName → List ℕ → Result (List NodeName × List ℕ) Fault
names_on s bytes = counted_on one max_names name_spelling (λ n. n.enumerator + 1) s.left s.items.items s.low bytes

pub returns-in-Err-clause-next : goal.returns-in-Err-clause-next
returns-in-Err-clause-next c = λ h.
    (let was = c.args.self.now in
    stops_bind {B = Node × List ℕ} (λ n. known_part c.args.context.version was h n.0 n.1) (names_on was.names) c.args.bytes.now c.in-Err.stop
    (c.in-Err.ensures {u = tt}))

pub returns-then-not-is_whole-clause-next : goal.returns-then-not-is_whole-clause-next
returns-then-not-is_whole-clause-next c = λ h.
    (let was = c.args.self.now in
    let names = c.advance.new.self in
    first_waits {X = Bor (List ℕ)} (λ rest. rest.now) (names_on was.names) (names_on names) (known_part c.args.context.version was h)
    c.args.bytes.now c.in-Ok.rest (none_left names.left) (none_left names.left && none_left was.mappings.left) (c.in-Ok.ensures {u = tt})
    (sym (c.if-not-is_whole.ensures {u = tt})))

pub returns-clause-next : goal.returns-clause-next
returns-clause-next c = λ h.
    (let v = c.args.context.version in
    let was = c.args.self.now in
    let names = c.advance.new.self in
    let mappings = c.advance_mappings.new.mappings in
    let new = record was { names = names; mappings = mappings } in
    let whole : none_left names.left ≡ true = sym (c.if-not-is_whole.ensures {u = tt}) in
    let said = c.in-Ok.ensures {u = tt} in
    let bound = advances_bind {B = Node × List ℕ} (λ m. Ok (
      record {
        cable = h.cable;
        address = h.address;
        hardware = h.hardware;
        zone = h.zone;
        router = h.router;
        names = names.items.items;
        mappings = m.0;
      },
      m.1,
    )) {X = Bor (List ℕ)} (λ rest. rest.now) (mappings_on v was.mappings) (mappings_on v mappings) c.in-Ok.rest.now (none_left mappings.left)
    c.advance_mappings.result c.advance_mappings.ensures in
    rw whole
    (second_goes {X = Bor (List ℕ)} (λ rest. rest.now) (names_on was.names) (names_on names) (known_part v was h) (known_part v new h)
    c.args.bytes.now c.in-Ok.rest.now names.items.items (none_left mappings.left) c.advance_mappings.result said.0
    (counted_whole one max_names name_spelling (λ n. n.enumerator + 1) names.left names.items.items names.low whole) bound))
