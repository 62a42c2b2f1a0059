-- The fields of a datagram on its way, as functions of its bytes. Its body stays the same, while its hop count rises
-- and padding may be added or removed. (Inside AppleTalk, the chapter on DDP)
use Rattle.std.specs.Prelude.{ℕ, ◌+◌, ◌*◌, ◌/◌, ◌%◌, List, [], ◌∷◌, take, slice_index}
use Rattle.at_base.specs.declared.address.Addr.{Addr}

-- the number in the two bytes from index i on
abbrev pub word_at : ℕ → List ℕ → ℕ
word_at i bytes = slice_index bytes i * 256 + slice_index bytes (i + 1)

-- the length in the header, in bytes
abbrev pub named_length : List ℕ → ℕ
named_length bytes = slice_index bytes 0 % 4 * 256 + slice_index bytes 1

-- the hop count of the datagram
abbrev pub hops : List ℕ → ℕ
hops bytes = slice_index bytes 0 / 4 % 16

-- the destination: its network and node
abbrev pub target : List ℕ → Addr
target bytes = record { net = word_at 4 bytes; node = slice_index bytes 8 }

-- the bytes with hop count n, and nothing else changed
abbrev pub with_hops : ℕ → List ℕ → List ℕ
with_hops n [] = []
with_hops n (b ∷ bytes) = (b / 64 * 64 + n * 4 + b % 4) ∷ bytes

-- the body of a datagram: its bytes without padding, with hop count 0
abbrev pub body : List ℕ → List ℕ
body bytes = with_hops 0 (take (named_length bytes) bytes)
