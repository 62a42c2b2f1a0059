-- ZIP packets as they are written. (Inside AppleTalk, the chapter on ZIP)
use Rattle.std.specs.Prelude.{◌≡◌, ℕ, ◌+◌, ◌≤◌, Bool, ◌==◌, List, [], ◌∷◌, ◌++◌, length, map, find, Option, Some, None}
use Rattle.std.specs.Prelude.{is_some, if◌then◌else◌}
use Rattle.std.specs.List.{All}
use Rattle.std.specs.Option.{unwrap_or}
use Rattle.at_base.specs.declared.address.Hw.{Hw}
use Rattle.at_base.specs.Multicast.{group_hw, group_of}
use Rattle.at_base.specs.Range.{Span}
use Rattle.at_base.specs.Spelling.{Begins, bytes_of}
use Rattle.at_base.specs.Text.{is_name, same_name}
use Rattle.at_base.specs.Limits.{max_data}
use Rattle.zip_zones.specs.declared.entry.Entry.{Entry}
use Rattle.zip_zones.specs.declared.packet.NetInfo.{NetInfo}
use Rattle.zip_zones.specs.declared.packet.Packet.{Packet}
use Rattle.zip_zones.specs.declared.packet.Packet.TheVariants as p
use Rattle.zip_zones.specs.Formats.{packet}
use Rattle.zip_zones.specs.Packets.{network}
use Rattle.zip_zones.specs.Packets.{entry}

-- the bytes of networks, one after the other
abbrev pub networks_bytes : List ℕ → List ℕ
networks_bytes [] = []
networks_bytes (net ∷ nets) = bytes_of network net ++ networks_bytes nets

-- an entry for each of the names of a network
abbrev pub entries_of : ℕ → List (List ℕ) → List Entry
entries_of net names = map (λ name. record { net = net; name = name }) names

-- the bytes of entries, one after the other
abbrev pub entries_bytes : List Entry → List ℕ
entries_bytes [] = []
entries_bytes (e ∷ es) = bytes_of (entry 0) e ++ entries_bytes es

-- the number of bytes of the entries of names: two for the network, one for the length of the name, and the name
abbrev pub entries_size : List (List ℕ) → ℕ
entries_size [] = 0
entries_size (name ∷ names) = 3 + length name + entries_size names

-- each payload fits into the 586 bytes of a datagram's data
abbrev pub AreShort : List (List ℕ) → Type 0
AreShort payloads = All (λ payload. length payload ≤ max_data) payloads

-- the extended reply with these names of a network that has total zones
abbrev pub extended_reply : ℕ → ℕ → List (List ℕ) → Packet
extended_reply net total names = p.ExtendedReply total (entries_of net names)

-- the GetNetInfo request of a node, with the zone that it wants
abbrev pub question : List ℕ → Packet
question asked = p.GetNetInfo (0 ∷ 0 ∷ 0 ∷ 0 ∷ 0 ∷ []) asked

-- ---- replies to GetNetInfo

-- the zone in the list that a text names, in any case
abbrev pub listed : List ℕ → List (List ℕ) → Option (List ℕ)
listed asked names = if is_name asked then find (same_name asked) names else None

-- the first name of a list, which is the default zone
abbrev pub first_of : List (List ℕ) → List ℕ
first_of [] = []
first_of (name ∷ names) = name

-- the hardware address of a zone's group
abbrev pub zone_group : List ℕ → Hw
zone_group zone = group_hw (group_of zone)

-- the flags of a reply: 80 (hex) if the requested zone isn't listed, and 20 if the cable has one zone
abbrev pub flags_for : Bool → ℕ → ℕ
flags_for found count = (if found then 0 else 128) + (if count == 1 then 32 else 0)

-- the default zone, if the requested zone isn't listed
abbrev pub default_for : Bool → List ℕ → Option (List ℕ)
default_for found first = if found then None else Some first

-- the reply to a request for a zone on a cable whose list has these names
abbrev pub net_info : List ℕ → Span → List (List ℕ) → NetInfo
net_info asked range names = record {
  flags = flags_for (is_some (listed asked names)) (length names);
  start = range.start;
  end = range.end;
  asked = asked;
  group = zone_group (unwrap_or (listed asked names) (first_of names));
  default = default_for (is_some (listed asked names)) (first_of names);
}

-- ---- reading back what was written

-- the bytes begin with this packet, and with no other
abbrev pub BeginsWith : List ℕ → Packet → Type 0
BeginsWith bytes p = Begins packet bytes p × ((q : Packet) → Begins packet bytes q → q ≡ p)
