-- How a station chooses its address: it probes for one address after another until no other station objects.
-- (Inside AppleTalk, the chapter on AARP; the order of the addresses and the count of probes are this project's own)
use Rattle.std.specs.Prelude.{ℕ, ◌+◌, ◌-◌, Bool, true, false, not, ◌&&◌, ◌||◌, ◌==◌, List, [], ◌∷◌, Option, Some, None, nat_lt, nat_le, if◌then◌else◌}
use Rattle.at_base.specs.declared.address.Addr.{Addr}
use Rattle.at_base.specs.declared.address.Hw.{Hw}
use Rattle.at_base.specs.Address.{same_address}
use Rattle.at_base.specs.Text.{same_bytes}
use Rattle.at_base.specs.Range.{Span, is_between, same_range}
use Rattle.aarp.specs.declared.chooser.Care.{Care}
use Rattle.aarp.specs.declared.packet.Packet.{Packet}
use Rattle.aarp.specs.declared.packet.Function.{Function}
use Rattle.aarp.specs.declared.packet.Function.TheVariants.{Request, Response, Probe}

-- What a choice minds of the other stations on a real cable: for how many ticks it still listens before its first probe;
-- whether it heard, while it listened, that the cable has another range than its own; and whether of two stations that
-- probe for one address at once only the one with the greater hardware address goes on to its next.
pub record Minding : Type 0 where
  pub listens : ℕ
  pub is_elsewhere : Bool
  pub one_goes_on : Bool

-- nothing of this is minded, as in a play
abbrev pub minding_nothing : Minding
minding_nothing = record { listens = 0; is_elsewhere = false; one_goes_on = false }

-- the greatest number of ticks for which a choice listens
abbrev pub most_listened : ℕ
most_listened = 60

-- what is minded at first by a choice with this care
abbrev pub minding : Care → Minding
minding c = record { listens = if c.listens then most_listened else 0; is_elsewhere = false; one_goes_on = c.one_goes_on }

-- The state of a station's choice on a cable of this range: the address that it tries or has (tentative), the addresses
-- to try after it (left), the number of probes sent for it, whether the choice is settled, and what it minds.
pub record Choice : Type 0 where
  pub range : Span
  pub hw : Hw
  pub tentative : Addr
  pub left : List Addr
  pub probes : ℕ
  pub is_settled : Bool
  pub minds : Minding

-- the choice, which minds the other stations with this care from now on
abbrev pub minded : Care → Choice → Choice
minded care c = record c { minds = minding care }

-- a station on a cable of this range may have the address
abbrev pub is_on : Span → Addr → Bool
is_on range a = is_between range.start range.end a.net && nat_le 1 a.node && nat_le a.node 253

-- the address to try after a: the next node; after node 253 node 1 of the next network; after the last network node 1
-- of the range's start
abbrev pub upwards : Span → Addr → Addr
upwards range a =
    if nat_lt a.node 253 then record { net = a.net; node = a.node + 1 }
    else if nat_lt a.net range.end then record { net = a.net + 1; node = 1 }
    else record { net = range.start; node = 1 }

-- a new choice that minds this, with the first address to try, or, if there is none, with node 1 of the range's start
abbrev pub begun_minding : Minding → Span → List Addr → Hw → Choice
begun_minding minds range [] hw = record {
  range = range;
  hw = hw;
  tentative = record { net = range.start; node = 1 };
  left = [];
  probes = 0;
  is_settled = false;
  minds = minds;
}
begun_minding minds range (a ∷ left) hw =
    record { range = range; hw = hw; tentative = a; left = left; probes = 0; is_settled = false; minds = minds }

-- a new choice as in a play
abbrev pub begun : Span → List Addr → Hw → Choice
begun range tries hw = begun_minding minding_nothing range tries hw

-- a settled choice with this address, as after ten probes
abbrev pub decided : Span → Addr → Hw → Choice
decided range a hw =
    record { range = range; hw = hw; tentative = a; left = []; probes = 10; is_settled = true; minds = minding_nothing }

-- the choice with its next address: the next one to try, or, if none is left, the one after the tentative address
abbrev pub moved : Choice → Choice
moved c = to c.left
  where
    to : List Addr → Choice
    to [] = record c { tentative = upwards c.range c.tentative; probes = 0 }
    to (a ∷ left) = record c { tentative = a; left = left; probes = 0 }

-- the target hardware address of a probe: zeros
abbrev pub nobody : Hw
nobody = record { 0 = 0 ∷ 0 ∷ 0 ∷ 0 ∷ 0 ∷ 0 ∷ [] }

-- the probe for the tentative address
abbrev pub probe_for : Choice → Packet
probe_for c = record { function = Probe; source_hw = c.hw; source = c.tentative; target_hw = nobody; target = c.tentative }

-- The choice after a tick, and the packet that it sends: none while it listens, and none where the cable has another
-- range; a probe in each of ten ticks; in the eleventh it settles.
abbrev pub ticked : Choice → Choice × Option Packet
ticked c =
    if c.is_settled then (c, None)
    else if nat_lt 0 c.minds.listens then (record c { minds = record c.minds { listens = c.minds.listens - 1 } }, None)
    else if c.minds.is_elsewhere then (c, None)
    else if nat_lt c.probes 10 then (record c { probes = c.probes + 1 }, Some (probe_for c))
    else (record c { is_settled = true }, None)

-- the choice after routing data said what range the cable has: what is heard first while it listens decides, and then it
-- listens no more
abbrev pub told_range : Span → Choice → Choice
told_range range c =
    if nat_lt 0 c.minds.listens
    then record c { minds = record c.minds { listens = 0; is_elsewhere = not (same_range range c.range) } }
    else c

-- the bytes come before the others: at the first place where they differ, the byte is less
abbrev pub come_before : List ℕ → List ℕ → Bool
come_before [] others = false
come_before (b ∷ bytes) [] = false
come_before (b ∷ bytes) (o ∷ others) = nat_lt b o || b == o && come_before bytes others

-- a station with the hardware address mine goes on to its next address where one with the hardware address theirs probes
-- for the same: if they differ, or, where only one goes on, if mine is the greater
abbrev pub gives_way : Bool → Hw → Hw → Bool
gives_way false theirs mine = not (same_bytes theirs.0 mine.0)
gives_way true theirs mine = come_before theirs.0 mine.0

-- the packet shows that another station has the address, or probes for it too and isn't the one that goes on
abbrev pub is_conflict : Bool → Addr → Hw → Packet → Bool
is_conflict one_goes_on tentative hw p = objects p.function
  where
    objects : Function → Bool
    objects Request = false
    objects Response = same_address p.source tentative
    objects Probe = same_address p.target tentative && gives_way one_goes_on p.source_hw hw

-- the choice after a packet was received
abbrev pub heard : Packet → Choice → Choice
heard p c = if not c.is_settled && is_conflict c.minds.one_goes_on c.tentative c.hw p then moved c else c

-- the address of a settled station, if it is settled
abbrev pub settled : Choice → Option Addr
settled c = if c.is_settled then Some c.tentative else None

-- a packet of this function asks for a response from the station that has its target address
abbrev pub wants : Function → Bool
wants Request = true
wants Response = false
wants Probe = true

-- the response of a settled station to a request or a probe for its address
abbrev pub answer : Choice → Packet → Option Packet
answer c p =
    if c.is_settled && wants p.function && same_address p.target c.tentative
    then Some (record { function = Response; source_hw = c.hw; source = c.tentative; target_hw = p.source_hw; target = p.source })
    else None
