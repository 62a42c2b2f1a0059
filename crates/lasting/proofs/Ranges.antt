-- What a live router hears, and a tick, leave the ranges of its ports as they are; its phase advances in ticks alone.
use Rattle.std.proofs.Common.{◌≡◌, ℕ, zero, suc, ◌&&◌, Bool, true, false, not, List, [], ◌∷◌, Option, Some, None, refl, sym, ap, ◌∙◌, map, slice_get, nat_lt}
use Rattle.std.specs.Prelude.{slice_set, if◌then◌else◌}
use Rattle.aarp.specs.Choosing.{Choice, heard as choice_heard, is_conflict, moved, ticked}
use Rattle.aarp.specs.declared.packet.Packet.{Packet}
use Rattle.at_base.specs.Range.{Span}
use Rattle.at_base.specs.declared.address.Addr.{Addr}
use Rattle.ddp.specs.Datagram.{Datagram}
use Rattle.live_router.specs.Living.{LiveHears, Living, heard_live, taught}
use Rattle.live_router.specs.Ticking.{LiveTicks, phase_after, ports_ticked, ticked_live}
use Rattle.router.specs.Answers.{heard_datagram, heard_kind}
use Rattle.router.specs.Holding.{Holding}
use Rattle.router.specs.Resolution.{ports_after, with_choice}
use Rattle.station.specs.Hearing.{Hearing}
use Rattle.station.specs.Resolution.{packet_at}
use Rattle.station.specs.Values.{datagram_at}
use Rattle.station.specs.declared.heard.Kind.{Kind}
use Rattle.station.specs.declared.heard.Kind.TheVariants.{Aarp, Ddp}
use Rattle.station.specs.declared.output.Output.{Output}

-- the ranges of the cables of ports
abbrev pub ranges_of : List Choice → List Span
ranges_of ports = map (λ c. c.range) ports

-- ---- One port

ticked_range : (c : Choice) → (ticked c).0.range ≡ c.range
ticked_range c = by c.is_settled (nat_lt 0 c.minds.listens) c.minds.is_elsewhere (nat_lt c.probes 10) refl refl refl refl
  where
    by : (s l w p : Bool) → c.is_settled ≡ s → nat_lt 0 c.minds.listens ≡ l → c.minds.is_elsewhere ≡ w → nat_lt c.probes 10 ≡ p
        → (ticked c).0.range ≡ c.range
    by true l w p e f g h = rw e refl
    by false true w p e f g h = rw (e, f) refl
    by false false true p e f g h = rw (e, f, g) refl
    by false false false true e f g h = rw (e, f, g, h) refl
    by false false false false e f g h = rw (e, f, g, h) refl

moved_range : (c : Choice) → (moved c).range ≡ c.range
moved_range c = by c.left refl
  where
    by : (left : List Addr) → c.left ≡ left → (moved c).range ≡ c.range
    by [] e = rw e refl
    by (a ∷ left) e = rw e refl

heard_range : (p : Packet) (c : Choice) → (choice_heard p c).range ≡ c.range
heard_range p c = by (not c.is_settled && is_conflict c.minds.one_goes_on c.tentative c.hw p)
  where
    by : (b : Bool) → (if b then moved c else c).range ≡ c.range
    by true = moved_range c
    by false = refl

-- ---- All ports

ticked_ranges : (ports : List Choice) → ranges_of (ports_ticked ports) ≡ ranges_of ports
ticked_ranges [] = refl
ticked_ranges (c ∷ cs) =
    ap (λ (s : Span). s ∷ ranges_of (ports_ticked cs)) (ticked_range c) ∙ ap (λ (l : List Span). c.range ∷ l) (ticked_ranges cs)

set_ranges : (ports : List Choice) (k : ℕ) (c d : Choice) → slice_get ports k ≡ Some c → d.range ≡ c.range
    → ranges_of (slice_set ports k d) ≡ ranges_of ports
set_ranges [] k c d e same = refl
set_ranges (x ∷ ports) zero c d e same =
    let is : x ≡ c = cc in
    ap (λ (s : Span). s ∷ ranges_of ports) (same ∙ ap (λ (z : Choice). z.range) (sym is))
set_ranges (x ∷ ports) (suc k) c d e same = ap (λ (l : List Span). x.range ∷ l) (set_ranges ports k c d e same)

after_ranges : (ports : List Choice) (p : ℕ) (o : Option Packet) → ranges_of (ports_after ports p o) ≡ ranges_of ports
after_ranges ports p None = refl
after_ranges ports p (Some sent) = by (slice_get ports p) refl
  where
    by : (o : Option Choice) → slice_get ports p ≡ o → ranges_of (with_choice ports p sent o) ≡ ranges_of ports
    by None e = refl
    by (Some c) e = set_ranges ports p c (choice_heard sent c) e (heard_range sent c)

-- ---- A router

pub taught_ranges : (h after : Holding) (o : Option (ℕ × Datagram)) → (taught h after o).ports ≡ after.ports
taught_ranges h after None = refl
taught_ranges h after (Some e) = refl

pub datagram_ports : (h : Holding) (x : Hearing) (o : Option Datagram) → (heard_datagram h x o).1.ports ≡ h.ports
datagram_ports h x None = refl
datagram_ports h x (Some d) = refl

kind_ranges : (h : Holding) (x : Hearing) (k : Kind) → ranges_of (heard_kind k h x).1.ports ≡ ranges_of h.ports
kind_ranges h x Ddp = ap ranges_of (datagram_ports h x (datagram_at x.bytes))
kind_ranges h x Aarp = after_ranges h.ports x.port (packet_at x.bytes)

-- the router has the ranges of its ports as before
abbrev pub HasSameRanges : Living → Living → Type 0
HasSameRanges a b = ranges_of b.router.ports ≡ ranges_of a.router.ports

pub router_hears : (l new : Living) (x : Hearing) (added : List Output) → LiveHears l x added new → (new.phase ≡ l.phase) × HasSameRanges l new
router_hears l new x added h =
    let is : new ≡ (heard_live l x).1 = ap (λ (r : List Output × Living). r.1) h in (
      ap (λ (z : Living). z.phase) is,
      ap (λ (z : Living). ranges_of z.router.ports) is
          ∙ (ap ranges_of (taught_ranges l.router (heard_kind x.kind l.router x).1 _) ∙ kind_ranges l.router x x.kind),
    )

pub router_ticks : (l new : Living) (added : List Output) → LiveTicks l added new → (new.phase ≡ phase_after l.phase) × HasSameRanges l new
router_ticks l new added h =
    let is : new ≡ (ticked_live l).1 = ap (λ (r : List Output × Living). r.1) h in (
      ap (λ (z : Living). z.phase) is,
      ap (λ (z : Living). ranges_of z.router.ports) is ∙ ticked_ranges l.router.ports,
    )
