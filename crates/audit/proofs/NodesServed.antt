-- If the rule about nodes is kept, each node is served.
use Rattle.std.proofs.Common.{◌≡◌, ℕ, suc, Bool, true, false, not, Option, Some, None, slice_get, is_some, refl, sym, ap, ◌∙◌}
use Rattle.std.specs.List.{list_any}
use Rattle.std.proofs.lemmas.Bool.{or_parts, not-false}
use Rattle.at_base.specs.Text.{same_name}
use Rattle.at_base.specs.declared.address.Addr.{Addr}
use Rattle.at_base.specs.declared.error.Place.TheVariants as place
use Rattle.table_image.specs.Internet.{Internet}
use Rattle.table_image.specs.declared.cable.Cable.{Cable}
use Rattle.table_image.specs.declared.node.Node.{Node}
use Rattle.audit.specs.Places.{on}
use Rattle.audit.specs.Routing.{owner}
use Rattle.audit.specs.Rules.{bad_service, has_bad_router, has_its_zone, Passes}
use Rattle.audit.specs.Served.{IsServed}
use Rattle.audit.proofs.WalkFacts.{some_of}

-- if an element passes a test, it exists
there : {X : Type 0} (o : Option X) (test : X → Bool) → on o test ≡ true → (x : X) × (o ≡ Some x) × (test x ≡ true)
there None test e = cc
there (Some x) test e = (x, refl, e)

-- a node that isn't badly served is served
pub is_served : (i : Internet) (node : Node) → bad_service i node ≡ false → IsServed i node
is_served i node good = record { router = its_router; zone = its_zone }
  where
    parts : (has_bad_router i node ≡ false) × (not (has_its_zone i node) ≡ false)
    parts = or_parts (has_bad_router i node) (not (has_its_zone i node)) good

    its_router : (a : Addr) → node.router ≡ Some a → (r : ℕ) × (owner i node.cable a ≡ Some r)
    its_router a e =
        some_of (owner i node.cable a) (not-false (is_some (owner i node.cable a))
        (sym (ap (λ (o : Option Addr). on o (λ a. not (is_some (owner i node.cable a)))) e) ∙ parts.0))

    its_zone : (c : Cable) × (slice_get i.cables node.cable ≡ Some c) × (list_any (same_name node.zone) c.zones ≡ true)
    its_zone = there (slice_get i.cables node.cable) (λ c. list_any (same_name node.zone) c.zones)
        (not-false (has_its_zone i node) parts.1)

-- if all rules are kept, each node is served
pub nodes_served : (i : Internet) (k : ℕ) (node : Node) → Passes i → slice_get i.nodes k ≡ Some node → IsServed i node
nodes_served i k node ok at =
    is_served i node (sym (ap (λ o. on o (bad_service i)) at) ∙ ok 9 (place.Node (suc k)))
