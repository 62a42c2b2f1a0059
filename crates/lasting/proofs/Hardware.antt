-- What a live router hears, and a tick, leave the hardware addresses of its ports as they are.
use Rattle.std.proofs.Common.{◌≡◌, ℕ, zero, suc, ◌&&◌, Bool, true, false, not, List, [], ◌∷◌, Option, Some, None, refl, sym, ap, ◌∙◌, map, slice_get, nat_lt}
use Rattle.std.specs.Prelude.{slice_set, if◌then◌else◌}
use Rattle.aarp.specs.Choosing.{Choice, begun, heard as choice_heard, is_conflict, moved, ticked}
use Rattle.aarp.specs.declared.packet.Packet.{Packet}
use Rattle.at_base.specs.Range.{Span}
use Rattle.at_base.specs.declared.address.Addr.{Addr}
use Rattle.at_base.specs.declared.address.Hw.{Hw}
use Rattle.internet_file.specs.declared.cable.Cable.{Cable}
use Rattle.internet_file.specs.declared.port.Port.{Port}
use Rattle.lasting.proofs.Ranges.{datagram_ports, taught_ranges}
use Rattle.live_router.specs.Living.{LiveHears, Living, heard_live}
use Rattle.live_router.specs.Ticking.{LiveTicks, ports_ticked, ticked_live}
use Rattle.planned_stations.specs.Beginning.{port_begun, range_of}
use Rattle.internet_file.specs.Stations.{cable_at}
use Rattle.router.specs.Answers.{heard_kind}
use Rattle.router.specs.Holding.{Holding}
use Rattle.router.specs.Resolution.{ports_after, with_choice}
use Rattle.station.specs.Hearing.{Hearing}
use Rattle.station.specs.Resolution.{packet_at}
use Rattle.station.specs.Values.{datagram_at}
use Rattle.station.specs.declared.heard.Kind.{Kind}
use Rattle.station.specs.declared.heard.Kind.TheVariants.{Aarp, Ddp}
use Rattle.station.specs.declared.output.Output.{Output}

-- the hardware addresses of ports
abbrev pub hardware_of : List Choice → List Hw
hardware_of ports = map (λ c. c.hw) ports

-- ---- One port

-- a tick leaves a choice's hardware address
ticked_hw : (c : Choice) → (ticked c).0.hw ≡ c.hw
ticked_hw c = by c.is_settled (nat_lt 0 c.minds.listens) c.minds.is_elsewhere (nat_lt c.probes 10) refl refl refl refl
  where
    by : (s l w p : Bool) → c.is_settled ≡ s → nat_lt 0 c.minds.listens ≡ l → c.minds.is_elsewhere ≡ w → nat_lt c.probes 10 ≡ p
        → (ticked c).0.hw ≡ c.hw
    by true l w p e f g h = rw e refl
    by false true w p e f g h = rw (e, f) refl
    by false false true p e f g h = rw (e, f, g) refl
    by false false false true e f g h = rw (e, f, g, h) refl
    by false false false false e f g h = rw (e, f, g, h) refl

-- so does a move to the next address
moved_hw : (c : Choice) → (moved c).hw ≡ c.hw
moved_hw c = by c.left refl
  where
    by : (left : List Addr) → c.left ≡ left → (moved c).hw ≡ c.hw
    by [] e = rw e refl
    by (a ∷ left) e = rw e refl

-- and an AARP packet
heard_hw : (p : Packet) (c : Choice) → (choice_heard p c).hw ≡ c.hw
heard_hw p c = by (not c.is_settled && is_conflict c.minds.one_goes_on c.tentative c.hw p)
  where
    by : (b : Bool) → (if b then moved c else c).hw ≡ c.hw
    by true = moved_hw c
    by false = refl

-- ---- All ports

-- a tick leaves those of all ports
ticked_all : (ports : List Choice) → hardware_of (ports_ticked ports) ≡ hardware_of ports
ticked_all [] = refl
ticked_all (c ∷ cs) =
    ap (λ (h : Hw). h ∷ hardware_of (ports_ticked cs)) (ticked_hw c) ∙ ap (λ (l : List Hw). c.hw ∷ l) (ticked_all cs)

-- so does another choice with the same one
set_all : (ports : List Choice) (k : ℕ) (c d : Choice) → slice_get ports k ≡ Some c → d.hw ≡ c.hw → hardware_of (slice_set ports k d) ≡ hardware_of ports
set_all [] k c d e same = refl
set_all (x ∷ ports) zero c d e same =
    let is : x ≡ c = cc in
    ap (λ (h : Hw). h ∷ hardware_of ports) (same ∙ ap (λ (z : Choice). z.hw) (sym is))
set_all (x ∷ ports) (suc k) c d e same = ap (λ (l : List Hw). x.hw ∷ l) (set_all ports k c d e same)

-- and an AARP packet
after_all : (ports : List Choice) (p : ℕ) (o : Option Packet) → hardware_of (ports_after ports p o) ≡ hardware_of ports
after_all ports p None = refl
after_all ports p (Some sent) = by (slice_get ports p) refl
  where
    by : (o : Option Choice) → slice_get ports p ≡ o → hardware_of (with_choice ports p sent o) ≡ hardware_of ports
    by None e = refl
    by (Some c) e = set_all ports p c (choice_heard sent c) e (heard_hw sent c)

-- ---- A router

-- a frame leaves them
kind_all : (h : Holding) (x : Hearing) (k : Kind) → hardware_of (heard_kind k h x).1.ports ≡ hardware_of h.ports
kind_all h x Ddp = ap hardware_of (datagram_ports h x (datagram_at x.bytes))
kind_all h x Aarp = after_all h.ports x.port (packet_at x.bytes)

-- where a live router hears a frame, they stay
pub hears_same : (l new : Living) (x : Hearing) (added : List Output) → LiveHears l x added new
    → hardware_of new.router.ports ≡ hardware_of l.router.ports
hears_same l new x added h =
    let is : new ≡ (heard_live l x).1 = ap (λ (r : List Output × Living). r.1) h in
    ap (λ (z : Living). hardware_of z.router.ports) is
    ∙ (ap hardware_of (taught_ranges l.router (heard_kind x.kind l.router x).1 _) ∙ kind_all l.router x x.kind)

-- and where it passes a tick
pub ticks_same : (l new : Living) (added : List Output) → LiveTicks l added new → hardware_of new.router.ports ≡ hardware_of l.router.ports
ticks_same l new added h =
    let is : new ≡ (ticked_live l).1 = ap (λ (r : List Output × Living). r.1) h in
    ap (λ (z : Living). hardware_of z.router.ports) is ∙ ticked_all l.router.ports

-- ---- Before the first tick

-- a new choice has the given hardware address
begun_hw : (range : Span) (tries : List Addr) (hw : Hw) → (begun range tries hw).hw ≡ hw
begun_hw range [] hw = refl
begun_hw range (a ∷ tries) hw = refl

-- so do new choices
pub begun_same : (cables : List Cable) (ports : List Port) → hardware_of (map (port_begun cables) ports) ≡ map (λ p. p.hardware) ports
begun_same cables [] = refl
begun_same cables (p ∷ ports) =
    ap (λ (h : Hw). h ∷ hardware_of (map (port_begun cables) ports)) (begun_hw (range_of (cable_at cables p.cable)) p.tries p.hardware)
    ∙ ap (λ (l : List Hw). p.hardware ∷ l) (begun_same cables ports)
