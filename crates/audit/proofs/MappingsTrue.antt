-- If the rule about mappings is kept, each mapping is that of one seat on its owner's cable.
use Rattle.std.proofs.Common.{◌≡◌, ℕ, suc, ◌&&◌, ◌==◌, true, false, List, Some, slice_get, refl, sym, ap, ◌∙◌, eqb-true, eq-eqb}
use Rattle.std.specs.List.{list_any}
use Rattle.std.proofs.lemmas.Bool.{and_parts, and_from, not-false}
use Rattle.at_base.proofs.Texts.{same_bytes_is, same_bytes_self}
use Rattle.at_base.specs.Address.{same_address}
use Rattle.at_base.specs.declared.address.Addr.{Addr}
use Rattle.at_base.specs.declared.address.Hw.{Hw}
use Rattle.at_base.specs.declared.error.Place.TheVariants as place
use Rattle.table_image.specs.Internet.{Internet}
use Rattle.table_image.specs.Seats.{seats}
use Rattle.table_image.specs.declared.mapping.Mapping.{Mapping}
use Rattle.table_image.specs.declared.port.Port.{Port}
use Rattle.table_image.specs.declared.router.Router.{Router}
use Rattle.table_image.specs.declared.node.Node.{Node}
use Rattle.audit.specs.Mapped.{IsMapped, MappingsAreTrue}
use Rattle.audit.specs.Places.{on}
use Rattle.audit.specs.Rules.{same_hardware, is_mapped, is_false, Passes}
use Rattle.audit.proofs.Finding.{any_at}
use Rattle.audit.proofs.SeatUnique.{unique}
use Rattle.audit.proofs.WalkLists.{none_passes}

-- ---- equal addresses

abbrev make_address : ℕ → ℕ → Addr
make_address net node = record { net = net; node = node }

abbrev make_hardware : List ℕ → Hw
make_hardware bytes = record { 0 = bytes }

pub address_is : (a b : Addr) → same_address a b ≡ true → b ≡ a
address_is a b e =
    let h = and_parts (a.net == b.net) (a.node == b.node) e in
    ap (λ net. make_address net b.node) (sym (eqb-true a.net b.net h.0)) ∙ ap (make_address a.net) (sym (eqb-true a.node b.node h.1))

hardware_is : (a b : Hw) → same_hardware a b ≡ true → b ≡ a
hardware_is a b e = ap make_hardware (sym (same_bytes_is a.0 b.0 e))

address_when : (a b : Addr) → a ≡ b → same_address a b ≡ true
address_when a b e =
    ap (same_address a) (sym e) ∙ and_from (a.net == a.net) (a.node == a.node) (eq-eqb a.net a.net refl) (eq-eqb a.node a.node refl)

hardware_when : (a b : Hw) → a ≡ b → same_hardware a b ≡ true
hardware_when a b e = ap (same_hardware a) (sym e) ∙ same_bytes_self a.0

-- ---- a mapping that isn't false

is_of_one : (i : Internet) (cable : ℕ) (m : Mapping) → Passes i → is_false i cable m ≡ false → IsMapped i cable m
is_of_one i cable m ok good =
    let found = any_at (is_mapped cable m) (seats i) (not-false (list_any (is_mapped cable m) (seats i)) good) in
    let seat = found.1 in
    let both = and_parts (seat.cable == cable && same_address m.address seat.address) (same_hardware m.hardware seat.hardware) found.3 in
    let first = and_parts (seat.cable == cable) (same_address m.address seat.address) both.0 in
    let here : seat.cable ≡ cable = eqb-true seat.cable cable first.0 in
    let address = address_is m.address seat.address first.1 in
    let hardware = hardware_is m.hardware seat.hardware both.1 in
    let one = unique i ok in
    record {
      index = found.0;
      seat = seat;
      at = found.2;
      here = here;
      address = address;
      hardware = hardware;
      only_address = λ k s at e. one.by_address k found.0 s seat at found.2 (address_when s.address seat.address (e ∙ sym address));
      only_hardware = λ k s at on_cable e.
          one.by_hardware k found.0 s seat at found.2 (on_cable ∙ sym here)
          (hardware_when s.hardware seat.hardware (e ∙ sym hardware));
    }

-- if all rules are kept, each mapping is that of one seat on its owner's cable
pub mappings_true : (i : Internet) → Passes i → MappingsAreTrue i
mappings_true i ok = record { ports = of_port; nodes = of_node }
  where
    of_port : (r p k : ℕ) (router : Router) (port : Port) (m : Mapping) → slice_get i.routers r ≡ Some router
        → slice_get router.ports p ≡ Some port → slice_get port.mappings k ≡ Some m → IsMapped i port.cable m
    of_port r p k router port m er ep em =
        let here = ap (λ o. on o (λ (router : Router). on (slice_get router.ports p)
        (λ (port : Port). list_any (is_false i port.cable) port.mappings))) er
        ∙ ap (λ o. on o (λ (port : Port). list_any (is_false i port.cable) port.mappings)) ep in
        let none = sym here ∙ ok 10 (place.Port (suc r) (suc p)) in
        is_of_one i port.cable m ok (none_passes (is_false i port.cable) port.mappings none k m em)

    of_node : (n k : ℕ) (node : Node) (m : Mapping) → slice_get i.nodes n ≡ Some node → slice_get node.mappings k ≡ Some m
        → IsMapped i node.cable m
    of_node n k node m at em =
        let here = ap (λ o. on o (λ (node : Node). list_any (is_false i node.cable) node.mappings)) at in
        let none = sym here ∙ ok 10 (place.Node (suc n)) in
        is_of_one i node.cable m ok (none_passes (is_false i node.cable) node.mappings none k m em)
