-- The formats of ZIP packets. (Inside AppleTalk, the chapter on ZIP)
use Rattle.std.specs.Prelude.{ℕ, ◌/◌, Bool, true, false, ◌||◌, ◌==◌, List, [], ◌∷◌, length, replicate, Option, Some, None, if◌then◌else◌}
use Rattle.at_base.specs.declared.error.Error.{Error}
use Rattle.at_base.specs.declared.error.Error.TheVariants.{BadField, Truncated}
use Rattle.at_base.specs.declared.error.Field.TheVariants.{Function as FunctionField, Lengths}
use Rattle.at_base.specs.Grammar.{Grammar, done, field, part, list, many, number, room, run, one, two}
use Rattle.at_base.specs.Packets.{any, only, packets, text}
use Rattle.at_base.specs.Reading.{read, value_of}
use Rattle.zip_zones.specs.declared.entry.Entry.{Entry}
use Rattle.zip_zones.specs.declared.entries.Nets.TheVariants.{Any, One}
use Rattle.zip_zones.specs.declared.packet.Function.{Function}
use Rattle.zip_zones.specs.declared.packet.Function.TheVariants as f
use Rattle.zip_zones.specs.declared.packet.NetInfo.{NetInfo}
use Rattle.zip_zones.specs.declared.packet.Packet.{Packet}
use Rattle.zip_zones.specs.declared.packet.Packet.TheVariants as p
use Rattle.zip_zones.specs.Packets.{network}
use Rattle.zip_zones.specs.Packets.{entry, next_net, wrong_name}

-- ---- functions

-- the number of a function
abbrev pub number_of : Function → ℕ
number_of f.Query = 1
number_of f.Reply = 2
number_of f.GetNetInfo = 5
number_of f.NetInfoReply = 6
number_of f.ExtendedReply = 8

-- the function with a number, which has one
abbrev pub function_of : ℕ → Function
function_of n =
    if n == 1 then f.Query else if n == 2 then f.Reply else if n == 5 then f.GetNetInfo else if n == 6 then f.NetInfoReply else
    f.ExtendedReply

-- the test that a function has this number
abbrev pub wrong_function : ℕ → Option Error
wrong_function n = if n == 1 || n == 2 || n == 5 || n == 6 || n == 8 then None else Some (BadField FunctionField)

-- ---- the parts of a packet, each of which only packets of one function have

-- the function of a packet
abbrev pub function_in : Packet → Function
function_in (p.Query nets) = f.Query
function_in (p.Reply count entries) = f.Reply
function_in (p.GetNetInfo unused asked) = f.GetNetInfo
function_in (p.NetInfoReply info) = f.NetInfoReply
function_in (p.ExtendedReply total entries) = f.ExtendedReply

-- the networks of a query
abbrev pub networks_of : Packet → List ℕ
networks_of (p.Query nets) = nets
networks_of _ = []

-- the number before the entries of a reply
abbrev pub count_of : Packet → ℕ
count_of (p.Reply count entries) = count
count_of (p.ExtendedReply total entries) = total
count_of _ = 0

-- the entries of a reply
abbrev pub entries_of : Packet → List Entry
entries_of (p.Reply count entries) = entries
entries_of (p.ExtendedReply total entries) = entries
entries_of _ = []

-- the bytes before the requested zone
abbrev pub unused_of : Packet → List ℕ
unused_of (p.GetNetInfo unused asked) = unused
unused_of _ = []

-- the requested zone
abbrev pub asked_of : Packet → List ℕ
asked_of (p.GetNetInfo unused asked) = asked
asked_of _ = []

-- an empty NetInfo
abbrev pub no_info : NetInfo
no_info = record { flags = 0; start = 0; end = 0; asked = []; group = record { 0 = replicate 6 0 }; default = None }

-- the contents of a NetInfo reply
abbrev pub info_of : Packet → NetInfo
info_of (p.NetInfoReply info) = info
info_of _ = no_info

-- ---- the formats

-- the bytes of a name, if there is one
abbrev pub name_or_none : Option (List ℕ) → List ℕ
name_or_none None = []
name_or_none (Some name) = name

-- the format of the default zone, if the packet has one
unfoldable pub default_zone : Bool → Grammar Error true (Option (List ℕ))
default_zone false = done None
default_zone true = part (text 1 wrong_name) name_or_none (λ name. done (Some name))

-- the test that a reply has a name
abbrev pub at_least_one : List Entry → Option Error
at_least_one [] = Some Truncated
at_least_one (e ∷ es) = None

-- the format of a packet after its function
unfoldable pub body : Function → Grammar Error false Packet
body f.Query =
    field (number one any) (λ p. length (networks_of p)) (λ count.
    list (λ low. network) (λ n. 0) count networks_of (λ nets. done (p.Query nets)))
body f.Reply =
    field (number one any) count_of (λ count.
    many entry (next_net Any) (λ es. None) entries_of (λ es. p.Reply count es))
body f.GetNetInfo =
    field (run 5 any) unused_of (λ unused.
    part (text 0 any) asked_of (λ asked. done (p.GetNetInfo unused asked)))
body f.NetInfoReply =
    field (number one any) (λ p. (info_of p).flags) (λ flags.
    field (number two any) (λ p. (info_of p).start) (λ start.
    field (number two any) (λ p. (info_of p).end) (λ end.
    part (text 0 any) (λ p. (info_of p).asked) (λ asked.
    field (number one (only 6 Lengths)) (λ p. 6) (λ len.
    field (run 6 any) (λ p. (info_of p).group.0) (λ group.
    part (default_zone (flags / 128 == 1)) (λ p. (info_of p).default) (λ default.
    done (p.NetInfoReply (record {
      flags = flags;
      start = start;
      end = end;
      asked = asked;
      group = record { 0 = group };
      default =
          default;
    })))))))))
body f.ExtendedReply =
    field (number one any) count_of (λ total.
    many entry (next_net One) at_least_one entries_of (λ es. p.ExtendedReply total es))

-- the format of a packet: two bytes at least; the function, and its body
unfoldable pub packet : Grammar Error false Packet
packet = room 2 (field (number one wrong_function) (λ p. number_of (function_in p)) (λ n. body (function_of n)))

-- the packet at the front of the bytes, if any
unfoldable pub zones_in : List ℕ → Option Packet
zones_in payload = value_of (read packets packet payload)
