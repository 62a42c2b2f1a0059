-- Packets of routing data: the router that sends them, the range of its port's cable, and the distances of other
-- ranges.
-- (Inside AppleTalk, the chapter on RTMP)
use Rattle.std.specs.Prelude.{ℕ, ◌+◌, ◌%◌, Bool, true, false, not, ◌&&◌, ◌==◌, List, [], ◌∷◌, map, Option, Some, None, nat_le, nat_lt}
use Rattle.std.specs.Prelude.{if◌then◌else◌}
use Rattle.at_base.specs.declared.address.Addr.{Addr}
use Rattle.at_base.specs.declared.error.Field.TheVariants.{IdLength, Version}
use Rattle.at_base.specs.declared.error.Error.{Error}
use Rattle.at_base.specs.declared.error.Error.TheVariants.{Truncated, BadField, BadRange}
use Rattle.at_base.specs.Range.{Span, is_range}
use Rattle.at_base.specs.Packets.{any, only, packets}
use Rattle.at_base.specs.Reading.{read, value_of}
use Rattle.at_base.specs.Grammar.{Grammar, done, field, part, room, many, number, one, two}
use Rattle.rtmp.specs.declared.tuple.Tuple.{Tuple}
use Rattle.rtmp.specs.declared.tuple.AnyTuple.{AnyTuple}
use Rattle.rtmp.specs.declared.tuple.AnyTuple.TheVariants.{Extended, Nonextended}
use Rattle.rtmp.specs.declared.tuple.Nonextended.{Nonextended as Hearing}
use Rattle.rtmp.specs.declared.tuple.Nonextended.TheVariants.{Skipped, AsRanges}
use Rattle.rtmp.specs.declared.written.Written.{Written}
use Rattle.rtmp.specs.declared.written.Extension.{Extension}

-- a packet of routing data: the router that sends it, and its tuples as they are written
pub record RoutingData : Type 0 where
  pub router : Addr
  pub written : List Written

-- the fields of an extended tuple's extension, or zeros for a tuple that isn't extended
abbrev pub extension_or : Option Extension → Extension
extension_or None = record { range = record { start = 0; end = 0 }; version = 0 }
extension_or (Some e) = e

-- the test of a tuple's third byte: the first tuple must be extended
abbrev pub wrong_third : ℕ → ℕ → Option Error
wrong_third low third = if low == 0 && nat_lt third 128 then Some (BadField Version) else None

-- the test of an extended tuple: the first tuple has distance 0 and version byte 82, and each range is valid
abbrev pub wrong_extension : ℕ → ℕ → ℕ → ℕ → ℕ → Option Error
wrong_extension low start third end version =
    if low == 0 && not (third % 32 == 0 && version == 0x82) then Some (BadField Version)
    else if is_range start end then None else Some BadRange

-- the format of the part after a tuple's third byte, which only an extended tuple has
abbrev pub extension_at : ℕ → ℕ → ℕ → Bool → Grammar Error true (Option Extension)
extension_at low start third false = done None
extension_at low start third true =
    field (number two any) (λ e. (extension_or e).range.end) (λ end.
    field (number one (wrong_extension low start third end)) (λ e. (extension_or e).version) (λ version.
    done (Some (record { range = record { start = start; end = end }; version = version }))))

-- the format of a tuple: the first one of a packet if low is 0, else a later one
unfoldable pub written_tuple : ℕ → Grammar Error true Written
written_tuple low =
    field (number two any) (λ t. t.start) (λ start.
    field (number one (wrong_third low)) (λ t. t.third) (λ third.
    part (extension_at low start third (nat_le 128 third)) (λ t. t.extension) (λ extension.
    done (record { start = start; third = third; extension = extension }))))

-- the test that a packet has a tuple
abbrev pub at_least_one : List Written → Option Error
at_least_one [] = Some Truncated
at_least_one (t ∷ ts) = None

-- the format of a packet: the router's network, the length of its node in bits, its node, and tuples up to the end of
-- the input
unfoldable pub routing_data : Grammar Error false RoutingData
routing_data =
    room 4 (
    field (number two any) (λ p. p.router.net) (λ net.
    field (number one (only 8 IdLength)) (λ p. 8) (λ length_of_node.
    field (number one any) (λ p. p.router.node) (λ node.
    many written_tuple (λ t. 1) at_least_one (λ p. p.written)
    (λ written. record { router = record { net = net; node = node }; written = written })))))

-- a tuple with its kind: an extended one has a range, and another one has a network
abbrev pub any_of : Written → AnyTuple
any_of t = said t.extension
  where
    said : Option Extension → AnyTuple
    said None = Nonextended t.start (t.third % 32)
    said (Some e) = Extended (record { range = e.range; distance = t.third % 32 })

-- what is heard of a tuple: of an extended one its range and distance, and of another one nothing, or, as a range, its
-- network, if a range may have it
abbrev pub heard_tuple : Hearing → AnyTuple → Option Tuple
heard_tuple h (Extended t) = Some t
heard_tuple Skipped (Nonextended net distance) = None
heard_tuple AsRanges (Nonextended net distance) =
    if is_range net net then Some (record { range = record { start = net; end = net }; distance = distance }) else None

-- what is heard of a packet's tuples, in order
abbrev pub tuples_heard : Hearing → List Written → List Tuple
tuples_heard h [] = []
tuples_heard h (t ∷ ts) = with_next (heard_tuple h (any_of t)) (tuples_heard h ts)
  where
    with_next : Option Tuple → List Tuple → List Tuple
    with_next None rest = rest
    with_next (Some x) rest = x ∷ rest

-- the extended tuples of a packet, in order
abbrev pub tuples_of : List Written → List Tuple
tuples_of ts = tuples_heard Skipped ts

-- the range of the sender's port, which is that of the first tuple
abbrev pub own_range : RoutingData → Span
own_range p = range_in (tuples_of p.written)
  where
    range_in : List Tuple → Span
    range_in [] = record { start = 0; end = 0 }
    range_in (t ∷ ts) = t.range

-- a tuple as this project writes it: extended, with version byte 82
abbrev pub written_of : Tuple → Written
written_of t = record { start = t.range.start; third = 128 + t.distance; extension = Some (record { range = t.range; version = 0x82 }) }

-- the packet of a router that sends these tuples
abbrev pub data_of : Addr → List Tuple → RoutingData
data_of router tuples = record { router = router; written = map written_of tuples }

-- the packet of routing data that is the bytes, if they are one
unfoldable pub routing_in : List ℕ → Option RoutingData
routing_in payload = value_of (read packets routing_data payload)
