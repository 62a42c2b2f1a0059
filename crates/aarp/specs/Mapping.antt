-- The mapping of addresses to hardware addresses, and the datagrams that wait for one.
-- (Inside AppleTalk, the chapter on AARP; the counts and limits are this project's own)
use Rattle.std.specs.Prelude.{◌≡◌, ℕ, ◌+◌, ◌*◌, ◌^◌, ◌<◌, ◌≤◌, Bool, ◌&&◌, not, IsTrue, List, [], ◌∷◌, ◌++◌, length, map, filter, take, find}
use Rattle.std.specs.Prelude.{position, remove, slice_get, Option, Some, None, option_and_then, option_to_list, nat_lt, nat_le, if◌then◌else◌}
use Rattle.std.specs.List.{flat_map, list_any, list_all, IsDistinct}
use Rattle.std.specs.Option.{option_map_or}
use Rattle.at_base.specs.declared.address.Addr.{Addr}
use Rattle.at_base.specs.declared.address.Hw.{Hw}
use Rattle.at_base.specs.Address.{same_address}
use Rattle.at_base.specs.Limits.{max_held, max_mappings}
use Rattle.aarp.specs.declared.held.Held.{Held}

-- The mappings that a port knows, the one learnt last first: at most 512, or one more while a frame is taken that tells
-- it; and the datagrams that it holds, oldest first, at most 16.
pub record Mappings : Type 0 where
  pub known : List (Addr × Hw)
  pub held : List Held

-- the address of the datagram was requested from one to ten times
abbrev pub is_counted : Held → Bool
is_counted h = nat_le 1 h.asked && nat_le h.asked 10

-- The invariants of a mapper: each address has at most one mapping, at most 513 are known, at most 16 datagrams wait,
-- and the address of each was requested from one to ten times.
pub record IsMappings (m : Mappings) : Type 0 where
  pub distinct : IsDistinct same_address (map (λ p. p.0) m.known)
  pub few : length m.known ≤ max_mappings + 1
  pub counted : IsTrue (list_all is_counted m.held)
  pub waiting : length m.held ≤ max_held

-- the mapping of an address, if it is known
abbrev pub mapping_of : Addr → List (Addr × Hw) → Option Hw
mapping_of a [] = None
mapping_of a (m ∷ known) = if same_address a m.0 then Some m.1 else mapping_of a known

-- the mappings after one was learnt: it comes first, and above 512 the oldest is discarded
abbrev pub learnt : Addr → Hw → List (Addr × Hw) → List (Addr × Hw)
learnt a hw known = take max_mappings ((a, hw) ∷ filter (λ m. not (same_address a m.0)) known)

-- the mappings after one was learnt ahead of its taking: it comes first, and none is discarded
abbrev pub met : Addr → Hw → List (Addr × Hw) → List (Addr × Hw)
met a hw known = (a, hw) ∷ known

-- the mappings without that of an address
abbrev pub forgotten : Addr → List (Addr × Hw) → List (Addr × Hw)
forgotten a known = filter (λ m. not (same_address a m.0)) known

-- the number of an address: a lower network comes first, and on one network a lower node
abbrev pub address_number : Addr → ℕ
address_number a = a.net * 256 + a.node

-- the mappings with one more, before the first whose address isn't lower
abbrev pub placed : Addr × Hw → List (Addr × Hw) → List (Addr × Hw)
placed m [] = m ∷ []
placed m (n ∷ known) = if nat_lt (address_number n.0) (address_number m.0) then n ∷ placed m known else m ∷ n ∷ known

-- the mappings by rising address
abbrev pub by_address : List (Addr × Hw) → List (Addr × Hw)
by_address [] = []
by_address (m ∷ known) = placed m (by_address known)

-- each address has a greater number than the one before it, and the first one's number is at least low
abbrev pub AddressesRise : ℕ → List (Addr × Hw) → Type 0
AddressesRise low [] = Unit {0}
AddressesRise low (m ∷ known) = (low ≤ address_number m.0) × AddressesRise (address_number m.0 + 1) known

-- A mapping's numbers fit: its network is below 2^16, its node below 2^8, and its hardware address has six bytes.
pub record FitsMapping (m : Addr × Hw) : Type 0 where
  pub net : m.0.net < 2 ^ 16
  pub node : m.0.node < 2 ^ 8
  pub hardware : length m.1.0 ≡ 6

-- the datagram is held for the address
abbrev pub is_for : Addr → Held → Bool
is_for a h = same_address h.next a

-- the number of requests for an address, or 1 if nothing is held for it
abbrev pub asked_for : Addr → List Held → ℕ
asked_for a held = counted (find (is_for a) held)
  where
    counted : Option Held → ℕ
    counted None = 1
    counted (Some h) = h.asked

-- the datagram with the request count of its address
abbrev pub counted : Held → List Held → Held
counted h held = record h { asked = asked_for h.next held }

-- the datagrams after one more is held: above 16 the oldest is dropped
abbrev pub holding : Held → List Held → List Held
holding h held = kept (held ++ counted h held ∷ [])
  where
    kept : List Held → List Held
    kept [] = []
    kept (first ∷ rest) = if nat_lt (length rest) max_held then first ∷ rest else rest

-- the datagram that is dropped when one more is held, if 16 are held already
abbrev pub pushed_out : Held → List Held → Option Held
pushed_out h held = if nat_lt (length held) max_held then None else slice_get held 0

-- the oldest datagram held for an address, if any
abbrev pub released : Addr → List Held → Option Held
released a held = option_and_then (slice_get held) (position (is_for a) held)

-- the datagrams without the oldest one held for an address
abbrev pub without_oldest : Addr → List Held → List Held
without_oldest a held = option_map_or (remove held) (position (is_for a) held) held

-- each address once, at its first place
abbrev pub each_once : List Addr → List Addr
each_once [] = []
each_once (a ∷ rest) = a ∷ filter (λ b. not (same_address a b)) (each_once rest)

-- the addresses, with one more at the end if it isn't among them
abbrev pub noted : Addr → List Addr → List Addr
noted a addresses = if list_any (same_address a) addresses then addresses else addresses ++ a ∷ []

-- the address of the datagram was requested fewer than ten times
abbrev pub is_asked_again : Held → Bool
is_asked_again h = nat_lt h.asked 10

-- the datagram after one more request for its address
abbrev pub asked_once_more : Held → Held
asked_once_more h = record h { asked = h.asked + 1 }

-- the datagrams after a tick: those whose address is requested again, with their counts raised; the others are given up
abbrev pub waited : List Held → List Held
waited held = map asked_once_more (filter is_asked_again held)

-- the addresses to request in a tick, each once, in the order of the oldest datagram held for them
abbrev pub to_ask : List Held → List Addr
to_ask held = each_once (map (λ h. h.next) (filter is_asked_again held))

-- the addresses that are given up in a tick, each once, in the order of the oldest datagram held for them
abbrev pub given_up : List Held → List Addr
given_up held = each_once (map (λ h. h.next) (filter (λ h. not (is_asked_again h)) held))

-- the stamp of a datagram, if it has one
abbrev pub stamp_of : Held → List ℕ
stamp_of h = option_to_list h.stamp

-- the stamps of the datagrams that are given up in a tick, oldest first
abbrev pub shed : List Held → List ℕ
shed held = flat_map stamp_of (filter (λ h. not (is_asked_again h)) held)
