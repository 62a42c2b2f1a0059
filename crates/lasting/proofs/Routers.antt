-- What a live router whose ports are settled makes of frames and of ticks.
use Rattle.std.proofs.Common.{◌≡◌, ℕ, zero, suc, Bool, true, false, cond, List, [], ◌∷◌, ◌++◌}
use Rattle.std.proofs.Common.{Option, Some, None, refl, sym, ap, ◌∙◌, subst, slice_get}
use Rattle.std.specs.Prelude.{slice_set}
use Rattle.std.specs.List.{list_all, AllByRecursion as Each}
use Rattle.std.proofs.lemmas.Bool.{and_parts}
use Rattle.aarp.specs.Choosing.{Choice, heard as choice_heard}
use Rattle.aarp.specs.declared.packet.Packet.{Packet}
use Rattle.at_base.specs.Spelling.{bytes_of}
use Rattle.at_base.specs.declared.address.Addr.{Addr}
use Rattle.ddp.specs.Datagram.{Datagram}
use Rattle.lasting.proofs.Answered.{router_plain}
use Rattle.lasting.proofs.Plainly.{not_routing, not_zones, read_plain}
use Rattle.lasting.specs.Hears.{data_datagram}
use Rattle.lasting.specs.Plain.{IsPlain, IsPlainFrame, IsPlainKind, IsPlainOutput}
use Rattle.lasting.specs.Hears.{HearsData, HearsPlain, IsLikeRouter, Ticks}
use Rattle.live_cables.proofs.Learning.{set_same}
use Rattle.live_router.proofs.Settled.{AreSettled, none_joined, none_settles, settled_silent, settled_stay}
use Rattle.live_router.specs.Living.{LiveHears, Living, heard_live, routes_taught, taught}
use Rattle.live_router.specs.Ticking.{LiveTicks, phase_after, routes_aged, sent_by, ticked_live, zones_aged, all_joined}
use Rattle.router.specs.Answers.{heard_datagram, heard_kind}
use Rattle.router.specs.Ending.{ended_by, ended_datagram, ended_kind}
use Rattle.router.specs.Forwarding.{course}
use Rattle.router.specs.Holding.{Holding}
use Rattle.router.specs.Resolution.{ports_after, with_choice}
use Rattle.router.specs.declared.course.Ending.{Ending}
use Rattle.rtmp.specs.Data.{RoutingData, routing_data, routing_in}
use Rattle.station.specs.Hearing.{Hearing}
use Rattle.station.specs.Resolution.{packet_at}
use Rattle.station.specs.Values.{datagram_at}
use Rattle.station.specs.Ways.{checks}
use Rattle.station.specs.declared.heard.Kind.{Kind}
use Rattle.station.specs.declared.heard.Kind.TheVariants.{Aarp, Ddp}
use Rattle.station.specs.declared.heard.Link.TheVariants as link
use Rattle.station.specs.declared.output.Output.{Output}

pub same_then : (a b c : Living) → IsLikeRouter a b → IsLikeRouter b c → IsLikeRouter a c
same_then a b c x y = record { ports = y.ports ∙ x.ports; zones = y.zones ∙ x.zones }

-- ---- Settled ports

pub one_settled : (ports : List Choice) (k : ℕ) (c : Choice) → AreSettled ports → slice_get ports k ≡ Some c → c.is_settled ≡ true
one_settled [] k c a e = cc
one_settled (x ∷ xs) zero c a e =
    let is : x ≡ c = cc in
    subst (λ (z : Choice). z.is_settled ≡ true) is (and_parts x.is_settled (list_all (λ (z : Choice). z.is_settled) xs) a).0
one_settled (x ∷ xs) (suc k) c a e = one_settled xs k c (and_parts x.is_settled (list_all (λ (z : Choice). z.is_settled) xs) a).1 e

-- settled ports hear AARP packets and stay
pub ports_stay : (ports : List Choice) (p : ℕ) (o : Option Packet) → AreSettled ports → ports_after ports p o ≡ ports
ports_stay ports p None a = refl
ports_stay ports p (Some sent) a = by (slice_get ports p) refl
  where
    by : (o : Option Choice) → slice_get ports p ≡ o → with_choice ports p sent o ≡ ports
    by None e = refl
    by (Some c) e =
        let same : choice_heard sent c ≡ c = rw (one_settled ports p c a e) refl in
        ap (slice_set ports p) same ∙ set_same ports p c e

-- ---- Plain frames

record Teaches (h now : Holding) : Type 0 where
  routes : now.routes ≡ h.routes
  zones : now.zones ≡ h.zones
  ports : now.ports ≡ h.ports

teaches_none : (h after : Holding) (o : Option (ℕ × Datagram)) → ((e : ℕ × Datagram) → o ≡ Some e → IsPlainKind e.1.kind) → Teaches h after
    → Teaches h (taught h after o)
teaches_none h after None p t = t
teaches_none h after (Some e) p t =
    let kind = p e refl in
    record { routes = rw (not_routing e.1 kind) refl; zones = rw (not_zones e.1 kind) refl; ports = t.ports }

ended_is : (o : Option Ending) (d : Datagram) (e : ℕ × Datagram) → ended_by o d ≡ Some e → e.1 ≡ d
ended_is None d e h = cc
ended_is (Some w) d e h = by (checks d) h
  where
    by : (b : Bool) → cond b (Some (w.port, d)) None ≡ Some e → e.1 ≡ d
    by true g = let is : (w.port, d) ≡ e = cc in ap (λ (p : ℕ × Datagram). p.1) (sym is)
    by false g = cc

module _ (h : Holding) (x : Hearing) where
  plain_datagram : (o : Option Datagram) → datagram_at x.bytes ≡ o → IsPlain x.bytes
      → Teaches h (taught h (heard_datagram h x o).1 (ended_datagram h x o))
  plain_datagram None e p = record { routes = refl; zones = refl; ports = refl }
  plain_datagram (Some d) e p =
      let kind = read_plain x.bytes d p e in
      let c = course h.ports h.routes x.port x.link d.hops d.target in
      teaches_none h (heard_datagram h x (Some d)).1 (ended_by c.ending d)
      (λ w g. subst (λ (z : Datagram). IsPlainKind z.kind) (sym (ended_is c.ending d w g)) kind)
      (record { routes = refl; zones = refl; ports = refl })

  plain_kind : (k : Kind) → IsPlainFrame k x.bytes → AreSettled h.ports → Teaches h (taught h (heard_kind k h x).1 (ended_kind k h x))
  plain_kind Ddp p a = plain_datagram (datagram_at x.bytes) refl p
  plain_kind Aarp p a = record { routes = refl; zones = refl; ports = ports_stay h.ports x.port (packet_at x.bytes) a }

pub hears_plain : (l new : Living) (x : Hearing) (added : List Output) → AreSettled l.router.ports → IsPlainFrame x.kind x.bytes
    → LiveHears l x added new → HearsPlain l added new
hears_plain l new x added a p h =
    let t = plain_kind l.router x x.kind p a in
    let outputs : added ≡ (heard_kind x.kind l.router x).0 = ap (λ (r : List Output × Living). r.0) h in
    let is : new ≡ (heard_live l x).1 = ap (λ (r : List Output × Living). r.1) h in
    record {
      plain = subst (Each IsPlainOutput) (sym outputs) (router_plain l.router x x.kind p);
      like = record {
        ports = ap (λ (z : Living). z.router.ports) is ∙ t.ports;
        zones = ap (λ (z : Living). z.router.zones) is ∙ t.zones;
      };
      routes = ap (λ (z : Living). z.router.routes) is ∙ t.routes;
      phase = ap (λ (z : Living). z.phase) is;
    }

-- ---- Routing data

module _ (l new : Living) (port : ℕ) (bytes : List ℕ) (added : List Output) (me : Addr) (packet : RoutingData)
    (read : datagram_at bytes ≡ Some (data_datagram me packet)) (told : routing_in (bytes_of routing_data packet) ≡ Some packet) where
  abbrev frame : Hearing
  frame = record { port = port; link = link.All; kind = Ddp; bytes = bytes }

  abbrev after_datagram : Option Datagram → List Output × Living
  after_datagram o =
      ((heard_datagram l.router frame o).0, record l { router = taught l.router (heard_datagram l.router frame o).1 (ended_datagram l.router frame o) })

  pub hears_data : LiveHears l (record { port = port; link = link.All; kind = Ddp; bytes = bytes }) added new → HearsData port packet l added new
  hears_data h =
      let is : (added, new) ≡ after_datagram (Some (data_datagram me packet)) = h ∙ ap after_datagram read in
      record {
        silent = ap (λ (r : List Output × Living). r.0) is;
        like = record {
          ports = ap (λ (r : List Output × Living). r.1.router.ports) is;
          zones = ap (λ (r : List Output × Living). r.1.router.zones) is;
        };
        routes =
            ap (λ (r : List Output × Living). r.1.router.routes) is
            ∙ ap (routes_taught port l.router.routes (slice_get l.router.ports port)) told;
        phase = ap (λ (r : List Output × Living). r.1.phase) is;
      }

-- ---- Ticks

pub ticks : (l new : Living) (added : List Output) → AreSettled l.router.ports → LiveTicks l added new → Ticks l added new
ticks l new added a h =
    let is : new ≡ (ticked_live l).1 = ap (λ (r : List Output × Living). r.1) h in
    let joined : l.router.routes ≡ all_joined 0 l.router.ports l.router.routes = none_joined 0 l.router.ports l.router.routes (none_settles l.router.ports a) in
    record {
      phase = ap (λ (z : Living). z.phase) is;
      ports = ap (λ (z : Living). z.router.ports) is ∙ sym (settled_stay l.router.ports a);
      routes = ap (λ (z : Living). z.router.routes) is ∙ ap (routes_aged (phase_after l.phase)) (sym joined);
      zones = ap (λ (z : Living). z.router.zones) is ∙ ap (λ rows. zones_aged (phase_after l.phase) rows l.router.zones) (sym joined);
      sends =
          ap (λ (r : List Output × Living). r.0) h
          ∙ (ap (λ (os : List Output). os ++ sent_by (phase_after l.phase) (ticked_live l).1.router) (settled_silent 0 l.router.ports a)
          ∙ ap (λ (z : Living). sent_by (phase_after l.phase) z.router) (sym is));
    }
