-- A datagram in place: each field is found by its offset. (Inside AppleTalk, the chapter on DDP)
use Rattle.std.specs.Prelude.{ℕ, ◌/◌, ◌≤◌, List, ◌++◌, length, take, drop, slice_index, Result, Ok, Err, nat_lt, if◌then◌else◌}
use Rattle.std.specs.Int.{w16, to_be_bytes}
use Rattle.at_base.specs.declared.error.Error.{Error}
use Rattle.at_base.specs.declared.error.Error.TheVariants.{Truncated, BadLength}
use Rattle.at_base.specs.Checksum.{sum_of}
use Rattle.at_base.specs.Spelling.{Spells}
use Rattle.ddp.specs.Datagram.{Datagram, datagram}
use Rattle.ddp.specs.Bodies.{word_at, named_length, hops, target}

-- the datagram in the bytes, if its data goes to the end of the bytes
abbrev pub datagram_in : List ℕ → Datagram
datagram_in bytes = record {
  reserved = slice_index bytes 0 / 64;
  hops = hops bytes;
  checksum = word_at 2 bytes;
  target = target bytes;
  source = record { net = word_at 6 bytes; node = slice_index bytes 9 };
  target_socket = slice_index bytes 10;
  source_socket = slice_index bytes 11;
  kind = slice_index bytes 12;
  payload = drop 13 bytes;
}

-- the bytes are exactly one datagram
pub record IsDatagram (bytes : List ℕ) : Type 0 where
  pub whole : Spells datagram bytes (datagram_in bytes)
  pub least : 13 ≤ length bytes
  pub most : length bytes ≤ 599

-- the length of the datagram at the front of the bytes, or what is wrong with its length
abbrev pub extent : List ℕ → Result ℕ Error
extent bytes =
    if nat_lt (length bytes) 13 then Err Truncated
    else if nat_lt (named_length bytes) 13 then Err BadLength
    else if nat_lt 599 (named_length bytes) then Err BadLength
    else if nat_lt (length bytes) (named_length bytes) then Err Truncated
    else Ok (named_length bytes)

-- the bytes with the sum of those after the checksum field in that field, and nothing else changed
abbrev pub with_sum : List ℕ → List ℕ
with_sum bytes = take 2 bytes ++ (to_be_bytes w16 (sum_of (drop 4 bytes)) ++ drop 4 bytes)
