-- Every lookup in the tables of an internet is answered.
use Rattle.std.proofs.Common.{◌≡◌, false, refl, Option, Some, None}
use Rattle.cable_model.specs.Outgoing.{IsAnswering, is_later}
use Rattle.legal_runs.specs.Legs.{found_at, places_of}
use Rattle.table_image.specs.Internet.{Internet}
use Rattle.table_image.specs.Seats.{Seat, seat_at}

pub always_answered : (i : Internet) → IsAnswering (places_of i)
always_answered i = λ cable a. by (seat_at i cable a)
  where
    by : (o : Option Seat) → is_later (found_at o) ≡ false
    by None = refl
    by (Some s) = refl
