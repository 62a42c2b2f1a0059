-- The bytes that are written are those of the packet's format.
use Rattle.std.proofs.Common.{◌≡◌, ℕ, ◌+◌, ◌/◌, ◌==◌, ◌≤◌, Bool, true, false, List, [], ◌∷◌, ◌++◌, length, refl, ap}
use Rattle.std.proofs.Common.{append_assoc, if◌then◌else◌, arith}
use Rattle.std.specs.Prelude.{is_some}
use Rattle.std.specs.Int.{byte_at, to_be_bytes, w16}
use Rattle.std.proofs.lemmas.List.{append-nil, length-append}
use Rattle.at_base.specs.Packets.{any, text}
use Rattle.at_base.specs.Spelling.{bytes_of, list_bytes}
use Rattle.zip_zones.specs.declared.entry.Entry.{Entry}
use Rattle.zip_zones.specs.declared.entries.Nets.TheVariants.{One}
use Rattle.zip_zones.specs.declared.packet.NetInfo.{NetInfo}
use Rattle.zip_zones.specs.declared.packet.Packet.TheVariants as p
use Rattle.zip_zones.specs.Formats.{body, default_zone, packet}
use Rattle.zip_zones.specs.Packets.{network}
use Rattle.zip_zones.specs.Packets.{entry, next_net}
use Rattle.zip_zones.specs.Written.{default_for, entries_bytes, entries_of, entries_size, flags_for, networks_bytes, question}

-- ---- queries

networks_listed : (nets : List ℕ) → list_bytes (λ low. bytes_of network) (λ n. 0) 0 nets ≡ networks_bytes nets
networks_listed [] = refl
networks_listed (n ∷ nets) = ap (λ (l : List ℕ). bytes_of network n ++ l) (networks_listed nets)

pub query_written : (nets : List ℕ) → length nets ≤ 255 → (1 ∷ length nets ∷ []) ++ networks_bytes nets ≡ bytes_of packet (p.Query nets)
unfolding packet body
query_written nets few =
    let len : byte_at 0 (length nets) ≡ length nets = omega arith in
    rw (len, networks_listed nets, append-nil (networks_bytes nets)) refl

-- ---- extended replies

one_entry : (low : ℕ) (e : Entry) → bytes_of (entry low) e ≡ bytes_of (entry 0) e
unfolding entry
one_entry low e = refl

entries_listed : (low : ℕ) (es : List Entry) → list_bytes (λ n. bytes_of (entry n)) (next_net One) low es ≡ entries_bytes es
entries_listed low [] = refl
entries_listed low (e ∷ es) = rw (one_entry low e, entries_listed (e.net + 1) es) refl

pub extended_written : (total : ℕ) (es : List Entry) → total ≤ 255
    → (8 ∷ total ∷ []) ++ entries_bytes es ≡ bytes_of packet (p.ExtendedReply total es)
unfolding packet body
extended_written total es small =
    let number : byte_at 0 total ≡ total = omega arith in
    rw (number, entries_listed 0 es) refl

-- an entry has three bytes and its name
entry_sized : (net : ℕ) (name : List ℕ) → length (bytes_of (entry 0) (record { net = net; name = name })) ≡ 3 + length name
unfolding entry text
entry_sized net name =
    omega (arith, ap (λ (l : List ℕ). length l) (append-nil name), ap (λ (l : List ℕ). length l) (append-nil (name ++ [])))

pub entries_sized : (net : ℕ) (names : List (List ℕ)) → length (entries_bytes (entries_of net names)) ≡ entries_size names
entries_sized net [] = refl
entries_sized net (name ∷ names) =
    let e : Entry = record { net = net; name = name } in
    omega (
      arith,
      length-append (bytes_of (entry 0) e) (entries_bytes (entries_of net names)),
      entry_sized net name,
      entries_sized net names,
    )

-- ---- GetNetInfo requests

pub question_written : (asked : List ℕ)
    → (5 ∷ 0 ∷ 0 ∷ 0 ∷ 0 ∷ 0 ∷ []) ++ bytes_of (text 0 any) asked ≡ bytes_of packet (question asked)
unfolding packet body
question_written asked = rw (append-nil (bytes_of (text 0 any) asked)) refl

-- ---- NetInfo replies

-- the first flag says whether the reply has a default zone
pub flag_tells : (found : Bool) (count : ℕ) (first : List ℕ) → (flags_for found count / 128 == 1) ≡ is_some (default_for found first)
flag_tells found count first = by_flags found (count == 1)
  where
    by_flags : (f c : Bool) → (((if f then 0 else 128) + (if c then 32 else 0)) / 128 == 1) ≡ is_some (default_for f first)
    by_flags true true = refl
    by_flags true false = refl
    by_flags false true = refl
    by_flags false false = refl

no_more : (t g d : List ℕ) → (t ++ 6 ∷ g) ++ d ≡ t ++ (6 ∷ (g ++ (d ++ [])))
no_more t g d = rw (append-nil d, append_assoc t (6 ∷ g) d) refl

pub info_written : (info : NetInfo) → info.flags ≤ 255 → (info.flags / 128 == 1) ≡ is_some info.default
    → ((((6 ∷ info.flags ∷ []) ++ to_be_bytes w16 info.start ++ to_be_bytes w16 info.end) ++ bytes_of (text 0 any) info.asked)
    ++ 6 ∷ info.group.0) ++ bytes_of (default_zone (is_some info.default)) info.default ≡ bytes_of packet (p.NetInfoReply info)
unfolding packet body
info_written info small tells =
    let flags : byte_at 0 info.flags ≡ info.flags = omega arith in
    rw (flags, tells)
    (ap (λ (l : List ℕ). 6 ∷ info.flags ∷ to_be_bytes w16 info.start ++ (to_be_bytes w16 info.end ++ l))
    (no_more (bytes_of (text 0 any) info.asked) info.group.0 (bytes_of (default_zone (is_some info.default)) info.default)))
