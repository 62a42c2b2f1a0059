-- The stations of each cable, with their addresses there.
use Rattle.std.specs.Prelude.{ℕ, zero, suc, Bool, ◌==◌, List, [], ◌∷◌, filter, map, slice_index_or}
use Rattle.at_base.specs.Address.{same_address}
use Rattle.at_base.specs.Text.{same_bytes}
use Rattle.at_base.specs.declared.address.Addr.{Addr}
use Rattle.at_base.specs.declared.address.Hw.{Hw}
use Rattle.table_image.specs.Internet.{Internet}
use Rattle.table_image.specs.Seats.{Seat, seats}
use Rattle.table_image.specs.declared.directory.Place.{Place}

-- The place of a seat: its address and its hardware address.
abbrev pub place_of : Seat → Place
place_of s = record { address = s.address; hardware = s.hardware }

-- The places of those seats that are on the cable.
abbrev pub places_on : ℕ → List Seat → List Place
places_on cable seats = map place_of (filter (λ s. s.cable == cable) seats)

-- The places on n cables, from this cable on.
abbrev pub places_from : List Seat → ℕ → ℕ → List (List Place)
places_from seats cable zero = []
places_from seats cable (suc n) = places_on cable seats ∷ places_from seats (suc cable) n

-- The number of cables that a byte can name.
unfoldable pub byte_cables : ℕ
byte_cables = 256

-- The directory of an internet: the places on each cable that a byte can name, in the order of the stations.
abbrev pub directory : Internet → List (List Place)
directory i = places_from (seats i) 0 byte_cables

-- The places that a directory has on a cable.
abbrev pub on_cable : List (List Place) → ℕ → List Place
on_cable d cable = slice_index_or d cable []

-- Whether a place has the address.
abbrev pub has_address : Addr → Place → Bool
has_address a p = same_address p.address a

-- Whether a place has the hardware address.
abbrev pub has_hardware : Hw → Place → Bool
has_hardware hw p = same_bytes p.hardware.0 hw.0
