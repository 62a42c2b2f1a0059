-- The time of a capture, in ticks.
use Rattle.std.specs.Prelude.{ℕ, ◌-◌, ◌/◌, Option, Some, None, max, min, nat_lt, if◌then◌else◌}
use Rattle.capture_feed.specs.declared.clock.Clock.{Clock}

-- a clock before the first time
abbrev pub unset : Clock
unset = record { shows = None }

-- what a clock shows before this time counts: the time itself, where it is the first one or more than ten seconds back
abbrev pub last_by : Option ℕ → ℕ → ℕ
last_by None now = now
last_by (Some last) now = if nat_lt 10000000 (last - now) then now else last

-- the ticks, of 200 milliseconds, that begin after that, up to this time; at most 400
abbrev pub ticks_by : Clock → ℕ → ℕ
ticks_by clock now = min (now / 200000 - last_by clock.shows now / 200000) 400

-- the clock shows the greatest time
abbrev pub after : Clock → ℕ → Clock
after clock now = record { shows = Some (max (last_by clock.shows now) now) }
