-- The networks of ZIP queries, and the entries of replies. (Inside AppleTalk, the chapter on ZIP)
use Rattle.std.specs.Prelude.{List, None, Option, Some, if◌then◌else◌, not, true, ℕ, ◌&&◌, ◌+◌, ◌==◌}
use Rattle.at_base.specs.declared.error.Error.{Error}
use Rattle.at_base.specs.declared.error.Error.TheVariants.{BadField, BadName}
use Rattle.at_base.specs.declared.error.Field.TheVariants.{Network}
use Rattle.at_base.specs.Grammar.{Grammar, done, field, part, number, two}
use Rattle.at_base.specs.Packets.{any, text}
use Rattle.at_base.specs.Text.{is_name}
use Rattle.zip_zones.specs.declared.entry.Entry.{Entry}
use Rattle.zip_zones.specs.declared.entries.Nets.{Nets}
use Rattle.zip_zones.specs.declared.entries.Nets.TheVariants.{Any, One}

-- the format of a network
unfoldable pub network : Grammar Error true ℕ
network = field (number two any) (λ n. n) (λ n. done n)

-- the test that a name is a valid zone name
abbrev pub wrong_name : List ℕ → Option Error
wrong_name name = if is_name name then None else Some BadName

-- the test of an entry's network: unless low is 0, it is one less than low
abbrev pub wrong_net : ℕ → ℕ → Option Error
wrong_net low net = if not (low == 0) && not (net + 1 == low) then Some (BadField Network) else None

-- the format of an entry, a network and the name of one of its zones: the first one if low is 0, else one of the
-- network low - 1
unfoldable pub entry : ℕ → Grammar Error true Entry
entry low =
    field (number two (wrong_net low)) (λ e. e.net) (λ net.
    part (text 1 wrong_name) (λ e. e.name) (λ name.
    done (record { net = net; name = name })))

-- the number that an entry passes to the next one: 0, or its network plus 1 where all entries are of one network
abbrev pub next_net : Nets → Entry → ℕ
next_net Any e = 0
next_net One e = e.net + 1
