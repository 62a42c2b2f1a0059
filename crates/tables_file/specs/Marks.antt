-- Hardware addresses that are made up where a file gives none.
use Rattle.std.specs.Prelude.{ℕ, zero, suc, ◌+◌, Bool, false, ◌&&◌, ◌||◌, ◌==◌, ◌/◌, ◌%◌, if◌then◌else◌, List, [], ◌∷◌, Option, Some, None, codes}
use Rattle.std.specs.List.{list_any}
use Rattle.toml.specs.Data.{Data, Members, as_table}
use Rattle.at_base.specs.declared.address.Hw.{Hw}
use Rattle.file_entries.specs.Entries.{at, entries_at}
use Rattle.file_entries.specs.Values.{hardware}
use Rattle.text.specs.Words.{given}

-- A hardware address that is made up: 2, which no group's address begins with, the two bytes of a mark, a kind of
-- station, and two numbers of the station.
abbrev pub made_up : ℕ → ℕ → ℕ → ℕ → Hw
made_up mark kind one two = record { 0 = 2 ∷ mark / 256 ∷ mark % 256 ∷ kind ∷ one % 256 ∷ two % 256 ∷ [] }

-- The address begins with 2 and the mark.
abbrev pub begins_with : ℕ → List ℕ → Bool
begins_with mark (two ∷ high ∷ low ∷ rest) = two == 2 && high == mark / 256 && low == mark % 256
begins_with mark _ = false

-- The hardware address, if there is one, begins with 2 and the mark.
abbrev pub bears : ℕ → Option Hw → Bool
bears mark None = false
bears mark (Some h) = begins_with mark h.0

-- The hardware address that the entry of a port or a node gives.
abbrev pub given_in : Data → Option Hw
given_in d = given (as_table d) (at (codes "hardware") hardware)

-- The entry of a port or a node gives a hardware address that begins with 2 and the mark.
abbrev pub gives : ℕ → Data → Bool
gives mark d = bears mark (given_in d)

-- The entries of the ports in a router's table.
abbrev pub ports_of : Option Members → List Data
ports_of None = []
ports_of (Some ms) = entries_at (codes "port") ms

-- The entries of a router's ports.
abbrev pub ports_in : Data → List Data
ports_in d = ports_of (as_table d)

-- A port of the router gives a hardware address that begins with 2 and the mark.
abbrev pub gives_one : ℕ → Data → Bool
gives_one mark d = list_any (gives mark) (ports_in d)

-- A port or a node of the file gives a hardware address that begins with 2 and the mark.
abbrev pub is_taken : ℕ → Members → Bool
is_taken mark ms = list_any (gives_one mark) (entries_at (codes "router") ms) || list_any (gives mark) (entries_at (codes "node") ms)

-- The least of these marks that isn't taken: `mark` and as many after it as the first number says, or the one after
-- them.
abbrev pub free_from : ℕ → ℕ → Members → ℕ
free_from zero mark ms = mark
free_from (suc more) mark ms = if is_taken mark ms then free_from more (mark + 1) ms else mark

-- The mark of a file: the least one that isn't taken, of those that fit two bytes.
unfoldable pub mark_of : Members → ℕ
mark_of ms = free_from 65535 0 ms
