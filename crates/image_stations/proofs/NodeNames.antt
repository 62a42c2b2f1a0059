-- The names of a node in an image within its limits are valid names of a node.
use Rattle.std.proofs.Common.{◌≡◌, ℕ, suc, ◌<◌, true, ◌&&◌, List, [], ◌∷◌, refl, ap, ◌∙◌, arith, map}
use Rattle.std.proofs.lemmas.Bool.{lt-ltb}
use Rattle.std.proofs.lemmas.List.{length-map}
use Rattle.std.proofs.lemmas.List.Elements.{All-from_recursion}
use Rattle.std.specs.List.{AllByRecursion as Recursively}
use Rattle.audit.proofs.WalkLists.{At}
use Rattle.image_stations.specs.Holders.{named}
use Rattle.nbp.specs.Registered.{IsNamed, IsNames, are_above}
use Rattle.table_image.specs.Bounds.{Every, IsBounded, IsNodeName, Rises}
use Rattle.table_image.specs.Internet.{Internet}
use Rattle.table_image.specs.declared.node.Node.{Node}
use Rattle.table_image.specs.declared.node.NodeName.{NodeName}

rise : (low : ℕ) (names : List NodeName) → ((k : ℕ) (n : NodeName) → At names k n → low < n.enumerator)
    → Rises (λ (n : NodeName). n.enumerator) names → are_above low (map named names) ≡ true
rise low [] first rises = refl
rise low (n ∷ names) first rises =
    ap (λ b. b && are_above n.enumerator (map named names)) (lt-ltb low n.enumerator (first 0 n refl))
    ∙ rise n.enumerator names (λ k m at. rises 0 (suc k) n m refl at (omega arith))
    (λ j k a b at_a at_b lt. rises (suc j) (suc k) a b at_a at_b (omega (arith, lt)))

one : (n : NodeName) → IsNodeName n → IsNamed (named n)
one n h = record { socket_low = h.socket_low; socket_high = h.socket_high; enumerator = h.enumerator; object = h.object; kind = h.kind }

each : (names : List NodeName) → Every IsNodeName names → Recursively IsNamed (map named names)
each [] h = tt
each (n ∷ names) h = (one n (h 0 n refl), each names (λ k m at. h (suc k) m at))

pub names_are : (i : Internet) (k : ℕ) (node : Node) → IsBounded i → At i.nodes k node → IsNames (map named node.names)
names_are i k node bounded known =
    let limits = bounded.each_node k node known in
    record {
      few = let few = limits.names in let same = length-map node.names named in omega (arith, few, same);
      rising = rise 0 node.names (λ k n at. let low = (limits.each_name k n at).enumerator in omega (arith, low)) limits.rising;
      each =
          All-from_recursion IsNamed (map named node.names) (each node.names limits.each_name);
    }
