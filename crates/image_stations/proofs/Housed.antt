-- What a search in the directory of an internet finds is where the station is.
use Rattle.std.proofs.Common.{◌≡◌, ℕ, ◌<◌, List, Option, Some, None, find, option_map, refl, sym, ap, ◌∙◌}
use Rattle.std.proofs.lemmas.Option.{none-some, same_Some}
use Rattle.at_base.specs.declared.address.Addr.{Addr}
use Rattle.cable_model.specs.declared.resolve.Found.TheVariants.{At, Nobody}
use Rattle.legal_runs.specs.Legs.{found_at}
use Rattle.table_image.proofs.Places.{place_at}
use Rattle.table_image.specs.Directory.{directory, has_address, on_cable, place_of}
use Rattle.table_image.specs.Internet.{Internet}
use Rattle.table_image.specs.Seats.{Seat, seat_at}
use Rattle.table_image.specs.declared.directory.Place.{Place}

module _ (i : Internet) (cable : ℕ) (a : Addr) (d : List (List Place)) where
  -- The result of a search in the directory is the place of the seat with the address.
  result_is : (o : Option Place) → cable < 256 → d ≡ directory i → find (has_address a) (on_cable d cable) ≡ o
      → option_map place_of (seat_at i cable a) ≡ o
  result_is o lt is at =
      sym (place_at cable a i lt) ∙ (ap (λ (rows : List (List Place)). find (has_address a) (on_cable rows cable)) (sym is) ∙ at)

  -- A place was found, and the station is there.
  pub station_there : (p : Place) → cable < 256 → d ≡ directory i → find (has_address a) (on_cable d cable) ≡ Some p
      → At p.hardware ≡ found_at (seat_at i cable a)
  station_there p lt is at = by (seat_at i cable a) (result_is (Some p) lt is at)
    where
      by : (o : Option Seat) → option_map place_of o ≡ Some p → At p.hardware ≡ found_at o
      by None e = absurd (none-some p e)
      by (Some s) e = ap (λ (q : Place). At q.hardware) (sym (same_Some (place_of s) p e))

  -- No place was found, and no station has the address.
  pub nobody_there : cable < 256 → d ≡ directory i → find (has_address a) (on_cable d cable) ≡ None
      → Nobody ≡ found_at (seat_at i cable a)
  nobody_there lt is at = by (seat_at i cable a) (result_is None lt is at)
    where
      by : (o : Option Seat) → option_map place_of o ≡ None → Nobody ≡ found_at o
      by None e = refl
      by (Some s) e = absurd (none-some (place_of s) (sym e))
