-- Datagrams that are neither routing data nor of ZIP, by the type in their bytes.
use Rattle.std.specs.Prelude.{◌≢◌, ℕ, ◌%◌, List, drop, take}
use Rattle.std.specs.Int.{from_be_bytes, w8}
use Rattle.internet_file.specs.declared.action.Do.{Do}
use Rattle.internet_file.specs.declared.action.Do.TheVariants.{Lookup, Send}
use Rattle.station.specs.declared.heard.Kind.{Kind}
use Rattle.station.specs.declared.heard.Kind.TheVariants.{Aarp, Ddp}
use Rattle.station.specs.declared.output.Output.{Output}
use Rattle.station.specs.declared.output.Output.TheVariants as output

-- the DDP type in the bytes of a datagram: their thirteenth byte
abbrev pub kind_byte : List ℕ → ℕ
kind_byte bytes = from_be_bytes w8 (take 1 (drop 12 bytes)) % 256

-- The datagram in the bytes is neither routing data (type 1) nor of ZIP (type 6).
abbrev pub IsPlain : List ℕ → Type 0
IsPlain bytes = (kind_byte bytes ≢ 1) × (kind_byte bytes ≢ 6)

-- The type, which is one byte, is neither that of routing data nor that of ZIP.
abbrev pub IsPlainKind : ℕ → Type 0
IsPlainKind kind = (kind % 256 ≢ 1) × (kind % 256 ≢ 6)

-- a frame of this kind with these bytes is an AARP frame, or has a plain datagram
abbrev pub IsPlainFrame : Kind → List ℕ → Type 0
IsPlainFrame Ddp bytes = IsPlain bytes
IsPlainFrame Aarp bytes = Unit {0}

-- an output of a station has a plain datagram, if any
abbrev pub IsPlainOutput : Output → Type 0
IsPlainOutput (output.Made port to bytes) = IsPlain bytes
IsPlainOutput (output.Passed port to bytes) = IsPlain bytes
IsPlainOutput (output.Kept port bytes) = Unit {0}
IsPlainOutput (output.Dropped cause bytes) = Unit {0}
IsPlainOutput (output.Wire port to bytes) = Unit {0}

-- The operation sends no datagram of type 1 or 6.
abbrev pub IsOtherDo : Do → Type 0
IsOtherDo (Send to socket source kind hex) = IsPlainKind kind
IsOtherDo (Lookup id object kind zone) = Unit {0}
