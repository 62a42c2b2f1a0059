-- Reading back what was written.
use Rattle.std.proofs.Common.{◌≡◌, ℕ, ◌+◌, ◌/◌, ◌<◌, ◌≤◌, ◌==◌, Bool, true, false, not, ◌&&◌, List, [], ◌∷◌, ◌++◌, suc, length, None}
use Rattle.std.proofs.Common.{refl, eq-eqb, if◌then◌else◌, arith}
use Rattle.std.specs.Prelude.{is_some, nat_lt}
use Rattle.std.specs.List.{All}
use Rattle.std.proofs.lemmas.Bool.{le-ltb}
use Rattle.std.proofs.lemmas.Bool.Decides.{nat_tests}
use Rattle.std.proofs.lemmas.List.{append-nil}
use Rattle.at_base.specs.declared.error.Field.TheVariants.{NameLength}
use Rattle.at_base.specs.Packets.{any, packets, text, within}
use Rattle.at_base.specs.Range.{IsRange, Span}
use Rattle.at_base.specs.Spelling.{Begins, Follows, IsValue, ListPasses, bytes_of}
use Rattle.at_base.specs.Text.{IsName, is_name}
use Rattle.at_base.proofs.Ranges.{ends_of}
use Rattle.at_base.proofs.Readers.{begins_one}
use Rattle.zip_zones.specs.declared.entries.Nets.TheVariants.{One}
use Rattle.zip_zones.specs.declared.packet.Packet.{Packet}
use Rattle.zip_zones.specs.declared.packet.Packet.TheVariants as p
use Rattle.zip_zones.specs.Formats.{body, default_zone, packet}
use Rattle.zip_zones.specs.Packets.{network}
use Rattle.zip_zones.specs.Packets.{entry, next_net, wrong_name, wrong_net}
use Rattle.zip_zones.specs.Written.{BeginsWith, default_for, entries_of, extended_reply, first_of, flags_for, listed, net_info, question}
use Rattle.zip_zones.proofs.Shape.{packet_lawful}

-- a valid packet is the one with which its bytes begin, whatever may follow them
begins_with : (p : Packet) (rest : List ℕ) → IsValue packet p → Follows packet p rest → BeginsWith (bytes_of packet p ++ rest) p
begins_with p rest h f =
    let b : Begins packet (bytes_of packet p ++ rest) p = (rest, refl, h, f) in
    (b, λ q c. begins_one packets packet packet_lawful (bytes_of packet p ++ rest) p q b c)

-- ---- texts and names

right_length : (least n : ℕ) → least ≤ n → n ≤ 32 → within least 32 NameLength n ≡ None
right_length least n some few =
    let a : nat_lt n least ≡ false = le-ltb _ _ some in
    let b : nat_lt 32 n ≡ false = le-ltb _ _ few in
    rw (a, b) refl

asked_value : (asked : List ℕ) → length asked ≤ 32 → IsValue (text 0 any) asked
unfolding text
asked_value asked few = ((omega arith, right_length 0 (length asked) (omega arith) few), ((refl, refl), refl))

name_bounds : (name : List ℕ) → is_name name ≡ true → (1 ≤ length name) × (length name ≤ 32)
name_bounds name h = (grind (arith, nat_tests), grind (arith, nat_tests))

name_value : (name : List ℕ) → IsName name → IsValue (text 1 wrong_name) name
unfolding text
name_value name h =
    let b = name_bounds name h in
    ((omega (arith, b), right_length 1 (length name) b.0 b.1), ((refl, rw h refl), refl))

-- ---- queries

networks_value : (nets : List ℕ) → All (λ net. net < 65536) nets → ListPasses (λ low. IsValue network) (λ net. 0) 0 nets
unfolding network
networks_value [] each = tt
networks_value (net ∷ nets) each =
    (((each 0 net (omega arith), refl), refl), networks_value nets (λ k d i. each (suc k) d (omega (arith, i))))

query_value : (nets : List ℕ) → length nets ≤ 255 → All (λ net. net < 65536) nets → IsValue packet (p.Query nets)
unfolding packet body
query_value nets few each = ((omega arith, refl), ((omega arith, refl), (refl, networks_value nets each, refl)))

pub query_read : (nets rest : List ℕ) → length nets ≤ 255 → All (λ net. net < 65536) nets
    → BeginsWith (bytes_of packet (p.Query nets) ++ rest) (p.Query nets)
unfolding packet body
query_read nets rest few each = begins_with (p.Query nets) rest (query_value nets few each) tt

-- ---- GetNetInfo requests

question_value : (asked : List ℕ) → length asked ≤ 32 → IsValue packet (question asked)
unfolding packet body
question_value asked few = ((omega arith, refl), ((refl, refl), (asked_value asked few, refl)))

pub question_read : (asked rest : List ℕ) → length asked ≤ 32 → BeginsWith (bytes_of packet (question asked) ++ rest) (question asked)
unfolding packet body
question_read asked rest few = begins_with (question asked) rest (question_value asked few) tt

-- ---- NetInfo replies

flags_fit : (found : Bool) (count : ℕ) → flags_for found count < 256
flags_fit found count = by_flags found (count == 1)
  where
    by_flags : (f c : Bool) → (if f then 0 else 128) + (if c then 32 else 0) < 256
    by_flags true true = omega arith
    by_flags true false = omega arith
    by_flags false true = omega arith
    by_flags false false = omega arith

default_by : (found one : Bool) (first : List ℕ) → IsName first
    → IsValue (default_zone (((if found then 0 else 128) + (if one then 32 else 0)) / 128 == 1)) (default_for found first)
unfolding default_zone
default_by true true first h = refl
default_by true false first h = refl
default_by false true first h = (name_value first h, refl)
default_by false false first h = (name_value first h, refl)

first_named : (names : List (List ℕ)) → 0 < length names → All IsName names → IsName (first_of names)
first_named [] some each = absurd (omega arith)
first_named (name ∷ names) some each = each 0 name (omega arith)

info_value : (asked : List ℕ) (range : Span) (names : List (List ℕ)) → length asked ≤ 32 → IsRange range.start range.end
    → 0 < length names → All IsName names → IsValue packet (p.NetInfoReply (net_info asked range names))
unfolding packet body
info_value asked range names few valid some each =
    let found = is_some (listed asked names) in
    let e = ends_of range.start range.end valid in
    let default = default_by found (length names == 1) (first_of names) (first_named names some each) in (
      (omega arith, refl),
      (
        (flags_fit found (length names), refl),
        (
          (omega (arith, e), refl),
          ((omega (arith, e), refl), (asked_value asked few, ((omega arith, refl), ((refl, refl), (default, refl))))),
        ),
      ),
    )

info_follows : (asked : List ℕ) (range : Span) (names : List (List ℕ)) (rest : List ℕ)
    → Follows packet (p.NetInfoReply (net_info asked range names)) rest
unfolding packet body
info_follows asked range names rest = tt

pub answer_read : (asked : List ℕ) (range : Span) (names : List (List ℕ)) (rest : List ℕ) → length asked ≤ 32
    → IsRange range.start range.end → 0 < length names → All IsName names
    → BeginsWith (bytes_of packet (p.NetInfoReply (net_info asked range names)) ++ rest) (p.NetInfoReply (net_info asked range names))
answer_read asked range names rest few valid some each =
    begins_with (p.NetInfoReply (net_info asked range names)) rest (info_value asked range names few valid some each)
    (info_follows asked range names rest)

-- ---- extended replies

and_false : (b : Bool) → (b && false) ≡ false
and_false true = refl
and_false false = refl

-- the network of an entry may be that of the one before it
next_right : (net : ℕ) → wrong_net (net + 1) net ≡ None
next_right net = let same : (net + 1 == net + 1) ≡ true = eq-eqb _ _ refl in rw (same, and_false (not (net + 1 == 0))) refl

entries_value : (low net : ℕ) (names : List (List ℕ)) → wrong_net low net ≡ None → net < 65536 → All IsName names
    → ListPasses (λ n. IsValue (entry n)) (next_net One) low (entries_of net names)
unfolding entry
entries_value low net [] right fits each = tt
entries_value low net (name ∷ names) right fits each = (
  ((fits, right), (name_value name (each 0 name (omega arith)), refl)),
  entries_value (net + 1) net names (next_right net) fits (λ k d i. each (suc k) d (omega (arith, i))),
)

extended_value : (net total : ℕ) (names : List (List ℕ)) → net < 65536 → total < 256 → 0 < length names → All IsName names
    → IsValue packet (extended_reply net total names)
unfolding packet body
extended_value net total [] fits few some each = absurd (omega arith)
extended_value net total (name ∷ names) fits few some each =
    ((omega arith, refl), ((few, refl), (entries_value 0 net (name ∷ names) refl fits each, refl, refl)))

pub extended_read : (net total : ℕ) (names : List (List ℕ)) → net < 65536 → total < 256 → 0 < length names → All IsName names
    → BeginsWith (bytes_of packet (extended_reply net total names)) (extended_reply net total names)
unfolding packet body
extended_read net total names fits few some each =
    rw (← append-nil (bytes_of packet (extended_reply net total names)))
    (begins_with (extended_reply net total names) [] (extended_value net total names fits few some each) refl)
