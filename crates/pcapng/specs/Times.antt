-- The times of blocks, in microseconds from the beginning of 1970, rounded down.
use Rattle.std.specs.Prelude.{ℕ, ◌+◌, ◌-◌, ◌*◌, ◌/◌, ◌^◌, min, nat_le, nat_lt, if◌then◌else◌}

-- the greatest time
abbrev pub max_time : ℕ
max_time = 2 ^ 64 - 1

-- units of 10 to the power of minus p seconds, in microseconds
abbrev pub decimal_micros : ℕ → ℕ → ℕ
decimal_micros units p = if nat_le p 6 then units * 10 ^ (6 - p) else units / 10 ^ (p - 6)

-- units of 2 to the power of minus p seconds, in microseconds
abbrev pub binary_micros : ℕ → ℕ → ℕ
binary_micros units p = units * 1000000 / 2 ^ p

-- units of a resolution, in microseconds: the powers are those of 10, and from 128 on those of 2
abbrev pub micros : ℕ → ℕ → ℕ
micros units resolution = if nat_lt resolution 128 then decimal_micros units resolution else binary_micros units (resolution - 128)

-- the time with an offset in seconds, a number of 64 bits in two's complement: what is below 0 is 0, and what is above the
-- greatest time is that one
abbrev pub after : ℕ → ℕ → ℕ
after time offset =
    if nat_lt offset (2 ^ 63) then min (time + offset * 1000000) max_time else min (time - (2 ^ 64 - offset) * 1000000) max_time

-- the time of so many units of a resolution, with an offset
abbrev pub time_of : ℕ → ℕ → ℕ → ℕ
time_of units resolution offset = after (micros units resolution) offset
