-- A node that knows its own address passes; a wrong hardware address and a station on another cable are excluded.
use Rattle.std.proofs.Common.{◌≡◌, ℕ, zero, suc, Some, slice_get, slice_index, refl, sym, ap, ◌∙◌}
use Rattle.at_base.specs.declared.address.Hw.{Hw}
use Rattle.table_image.specs.Seats.{Seat, seats}
use Rattle.table_image.specs.declared.mapping.Mapping.{Mapping}
use Rattle.audit.specs.Example.{knowing, knows_itself, wrong_hardware, other_cable, hardware}
use Rattle.audit.specs.Mapped.{MappingsAreTrue}
use Rattle.audit.specs.Rules.{Passes}
use Rattle.audit.proofs.ExamplePlaces.{passes}

pub itself : Passes (knowing knows_itself)
itself = passes (knowing knows_itself)
    (record { one = refl; two = refl; three = refl; four = refl; five = refl; six = refl; eight = refl; nine = refl; ten = refl }) refl

-- the only seat on the first cable has the hardware address that ends in 5
only_five : (m : Mapping) (k : ℕ) (s : Seat) → slice_get (seats (knowing m)) k ≡ Some s → s.cable ≡ 0 → s.hardware ≡ hardware 5
only_five m zero s at here = cc
only_five m (suc zero) s at here = cc
only_five m (suc (suc k)) s at here = cc

differ : hardware 5 ≡ hardware 6 → ⊥
differ e = let byte : slice_index (hardware 5).0 5 ≡ slice_index (hardware 6).0 5 = ap (λ (h : Hw). slice_index h.0 5) e in cc

pub not_its_hardware : ¬ MappingsAreTrue (knowing wrong_hardware)
not_its_hardware true =
    let mapped = true.nodes 0 0 _ _ refl refl in
    differ (sym (only_five wrong_hardware mapped.index mapped.seat mapped.at mapped.here) ∙ mapped.hardware)

pub not_its_cable : ¬ MappingsAreTrue (knowing other_cable)
not_its_cable true =
    let mapped = true.nodes 0 0 _ _ refl refl in
    differ (sym (only_five other_cable mapped.index mapped.seat mapped.at mapped.here) ∙ mapped.hardware)
