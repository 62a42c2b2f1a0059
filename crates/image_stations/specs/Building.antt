-- Stations that are made one by one.
use Rattle.std.specs.Prelude.{◌≡◌, ℕ, List, length, Some, slice_get}
use Rattle.end_node.specs.Holding.{NodeHolding}
use Rattle.image_stations.specs.Holders.{HoldsStation}
use Rattle.station.specs.declared.member.Member.{Member}
use Rattle.router.specs.Holding.{Holding}
use Rattle.table_image.specs.Internet.{Internet}

-- These are the first n stations of an internet, each with the contents that the image has for it.
pub record AreFirst (i : Internet) (n : ℕ) (stations : List (Member Holding NodeHolding)) : Type 0 where
  pub number : length stations ≡ n
  pub each : (s : ℕ) (m : Member Holding NodeHolding) → slice_get stations s ≡ Some m → HoldsStation i s m
