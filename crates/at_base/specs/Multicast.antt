-- The hardware addresses that more than one station of a cable receives, and the group of a zone. (Inside AppleTalk,
-- the chapters on AARP and ZIP; that a group is this sum is this project's own)
use Rattle.std.specs.Prelude.{ℕ, Bool, ◌&&◌, ◌%◌, if◌then◌else◌, List, [], ◌∷◌, Option, Some, None, map, nat_lt, take, slice_index}
use Rattle.std.specs.Char.{to_ascii_uppercase}
use Rattle.at_base.specs.Checksum.{sum_of}
use Rattle.at_base.specs.Text.{same_bytes}
use Rattle.at_base.specs.declared.address.Hw.{Hw}

-- the group of stations that hears a zone; names that differ only in case have one group
abbrev pub group_of : List ℕ → ℕ
group_of zone = sum_of (map to_ascii_uppercase zone) % 253

-- the hardware address of every station of a cable
abbrev pub all_hw : Hw
all_hw = record { 0 = 9 ∷ 0 ∷ 7 ∷ 255 ∷ 255 ∷ 255 ∷ [] }

-- the hardware address of a group
abbrev pub group_hw : ℕ → Hw
group_hw group = record { 0 = 9 ∷ 0 ∷ 7 ∷ 0 ∷ 0 ∷ group ∷ [] }

-- the address is that of every station of a cable
abbrev pub is_all : Hw → Bool
is_all to = same_bytes to.0 (9 ∷ 0 ∷ 7 ∷ 255 ∷ 255 ∷ 255 ∷ [])

-- the address is that of one of the 253 groups
abbrev pub is_group : Hw → Bool
is_group to = same_bytes (take 5 to.0) (9 ∷ 0 ∷ 7 ∷ 0 ∷ 0 ∷ []) && nat_lt (slice_index to.0 5) 253

-- the group whose hardware address this is, if it is one's
abbrev pub group_in : Hw → Option ℕ
group_in to = if is_group to then Some (slice_index to.0 5) else None
