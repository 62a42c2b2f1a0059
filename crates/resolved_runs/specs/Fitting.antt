-- The seats of an internet fit AARP packets, as those of every image do: a hardware address has six bytes.
use Rattle.std.specs.Prelude.{◌≡◌, ℕ, Some, length, slice_get}
use Rattle.table_image.specs.Internet.{Internet}
use Rattle.table_image.specs.Seats.{Seat, seats}

-- The hardware address of each seat has six bytes.
abbrev pub SeatsFit : Internet → Type 0
SeatsFit i = (k : ℕ) (s : Seat) → slice_get (seats i) k ≡ Some s → length s.hardware.0 ≡ 6
