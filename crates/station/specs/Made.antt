-- Facts about the outputs that a station makes.
use Rattle.std.specs.Prelude.{◌≡◌, ℕ, ◌+◌, ◌<◌, ◌≤◌, true, List, [], ◌++◌, Option, IfSome, length}
use Rattle.std.specs.Prelude.{IsOk, IsOkUnless, OnOk, Result}
use Rattle.std.specs.List.{All}
use Rattle.at_base.specs.declared.error.Error.{Error}
use Rattle.at_base.specs.declared.error.Error.TheVariants.{Memory}
use Rattle.at_base.specs.Limits.{max_data}
use Rattle.station.specs.Lawful.{IsGood, IsNext, is_made}
use Rattle.station.specs.declared.output.Output.{Output}
use Rattle.station.specs.declared.way.Way.{Way}

-- the way, if there is one, is on one of the first n ports
abbrev pub IsWayIn : ℕ → Option Way → Type 0
IsWayIn n way = IfSome way (λ w. (w.port < n) × IsNext w.next)

-- the output was made by a station with n ports
abbrev pub IsMadeIn : ℕ → Output → Type 0
IsMadeIn n o = (is_made o ≡ true) × IsGood n o

-- each output was made by a station with n ports
unfoldable pub AreMade : ℕ → List Output → Type 0
AreMade n outputs = All (IsMadeIn n) outputs

-- each payload fits into a datagram
abbrev pub AreShort : List (List ℕ) → Type 0
AreShort payloads = All (λ p. length p ≤ max_data) payloads

-- A call added these outputs, at most `most`, to those before. It needed no memory where there are none, and is refused
-- only for memory.
pub record Puts {A : Type 0} (most : ℕ) (added old new : List Output) (result : Result A Error) : Type 0 where
  pub put : OnOk result (new ≡ old ++ added)
  pub few : length new ≤ length old + most
  pub silent : added ≡ [] → IsOk result
  pub refused : IsOkUnless result Memory

-- So did a call of a station with n ports, and each output is made by such a station, if those before were.
pub record Makes {A : Type 0} (n most : ℕ) (added old new : List Output) (result : Result A Error) : Type 0 where
  pub put : OnOk result (new ≡ old ++ added)
  pub few : length new ≤ length old + most
  pub good : AreMade n old → AreMade n new
  pub silent : added ≡ [] → IsOk result
  pub refused : IsOkUnless result Memory

-- The same without the promise that no memory is needed.
pub record Adds {A : Type 0} (n most : ℕ) (added old new : List Output) (result : Result A Error) : Type 0 where
  pub put : OnOk result (new ≡ old ++ added)
  pub few : OnOk result (length new ≤ length old + most)
  pub good : AreMade n old → AreMade n new
  pub refused : IsOkUnless result Memory
