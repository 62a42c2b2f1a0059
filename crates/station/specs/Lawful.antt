-- The laws of stations: the outputs that a station may have.
use Rattle.std.specs.Prelude.{◌≡◌, ℕ, ◌+◌, ◌<◌, ◌≤◌, Bool, true, false, not, IsTrue, List, [], ◌∷◌, ◌++◌, nat_lt}
use Rattle.std.specs.List.{All, list_all}
use Rattle.at_base.specs.Spelling.{Spells}
use Rattle.aarp.specs.Packets.{Whole as AarpPacket, packet}
use Rattle.ddp.specs.Datagram.{Datagram, datagram}
use Rattle.station.specs.declared.output.Next.{Next}
use Rattle.station.specs.declared.output.Next.TheVariants as next
use Rattle.station.specs.declared.output.Output.{Output}
use Rattle.station.specs.declared.output.Output.TheVariants.{Made, Passed, Kept, Dropped, Wire}

-- the outputs of a station, in order, and the number of further outputs for which there is room
pub record Queue : Type 0 where
  pub items : List Output
  pub spare : ℕ

-- the station made the output itself
abbrev pub is_made : Output → Bool
is_made (Made port next bytes) = true
is_made (Passed port next bytes) = false
is_made (Kept port bytes) = false
is_made (Dropped cause bytes) = false
is_made (Wire port to bytes) = true

-- 1 if the flag is true, else 0
abbrev pub one : Bool → ℕ
one true = 1
one false = 0

-- the number of elements that pass a test
abbrev pub count : {X : Type 0} → (X → Bool) → List X → ℕ
count test [] = 0
count test (x ∷ xs) = one (test x) + count test xs

-- the group, if next is one, exists: it is 0 to 252
abbrev pub IsNext : Next → Type 0
IsNext (next.Station a) = Unit {0}
IsNext next.All = Unit {0}
IsNext (next.Group g) = g < 253

-- each element is a byte
abbrev pub are_bytes : List ℕ → Bool
are_bytes bytes = list_all (λ b. nat_lt b 256) bytes

-- The bytes are exactly one datagram.
pub record IsWhole (bytes : List ℕ) : Type 0 where
  pub value : Datagram
  pub spelled : Spells datagram bytes value
  pub each : IsTrue (are_bytes bytes)

-- The bytes are exactly one AARP packet.
pub record IsPacket (bytes : List ℕ) : Type 0 where
  pub value : AarpPacket
  pub spelled : Spells packet bytes value

-- The output of a station with this many ports names one of them, and holds a datagram or an AARP packet.
abbrev pub IsGood : ℕ → Output → Type 0
IsGood ports (Made port next bytes) = (port < ports) × IsNext next × IsWhole bytes
IsGood ports (Passed port next bytes) = (port < ports) × IsNext next × IsWhole bytes
IsGood ports (Kept port bytes) = (port < ports) × IsWhole bytes
IsGood ports (Dropped cause bytes) = IsWhole bytes
IsGood ports (Wire port to bytes) = (port < ports) × IsPacket bytes

-- The outputs of one call are lawful: at most 256 that the station made itself, at most one other, and each one good.
pub record AreLawful (ports : ℕ) (added : List Output) : Type 0 where
  pub made : count is_made added ≤ 256
  pub others : count (λ o. not (is_made o)) added ≤ 1
  pub each : All (IsGood ports) added

-- A call of a station with this many ports added outputs that are lawful and for which a fact holds.
pub record PutsOut (ports : ℕ) (old new : List Output) (Holds : List Output → Type 0) : Type 0 where
  pub added : List Output
  pub grown : new ≡ old ++ added
  pub holds : Holds added
  pub lawful : AreLawful ports added
