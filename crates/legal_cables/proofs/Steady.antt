-- A station whose addresses are settled holds the image's contents after an AARP frame too.
use Rattle.std.proofs.Common.{◌≡◌, ℕ, List, Option, Some, None, refl, sym, ap, ◌∙◌, subst, map, slice_get, slice_set}
use Rattle.aarp.specs.Choosing.{Choice, heard}
use Rattle.aarp.specs.declared.packet.Packet.{Packet}
use Rattle.audit.proofs.WalkLists.{at_map}
use Rattle.table_image.specs.Internet.{Internet}
use Rattle.table_image.specs.declared.port.Port.{Port}
use Rattle.station.specs.Hearing.{Hearing}
use Rattle.station.specs.Resolution.{packet_at}
use Rattle.station.specs.declared.heard.Kind.TheVariants.{Aarp}
use Rattle.station.specs.declared.output.Output.{Output}
use Rattle.end_node.specs.Answers as node_answers
use Rattle.end_node.specs.Holding.{NodeHolding}
use Rattle.image_stations.specs.Holders.{HoldsNode, HoldsRouter, choice_on}
use Rattle.live_cables.proofs.Learning.{set_same}
use Rattle.router.specs.Answers as router_answers
use Rattle.router.specs.Holding.{Holding}
use Rattle.router.specs.Resolution.{ports_after}

module _ (i : Internet) where
  -- Settled ports stay.
  ports_stay : (ports : List Port) (held : List Choice) (n : ℕ) (o : Option Packet)
      → held ≡ map (λ (p : Port). choice_on i p.cable p.address p.hardware) ports → ports_after held n o ≡ held
  ports_stay ports held n None e = refl
  ports_stay ports held n (Some sent) e = by (slice_get held n) refl
    where
      by : (c : Option Choice) → slice_get held n ≡ c → ports_after held n (Some sent) ≡ held
      by None at = rw at refl
      by (Some c) at =
          let w = at_map (λ (p : Port). choice_on i p.cable p.address p.hardware) ports n c (sym (ap (λ l. slice_get l n) e) ∙ at) in
          let stays : heard sent c ≡ c = ap (heard sent) w.2 ∙ sym w.2 in
          rw at (ap (slice_set held n) stays ∙ set_same held n c at)

  pub router_steady : (r : ℕ) (old new : Holding) (x : Hearing) (added : List Output) → HoldsRouter i r old
      → router_answers.Hears old x added new → x.kind ≡ Aarp → HoldsRouter i r new
  router_steady r old new x added holds hears kind =
      let is : new ≡ record old { ports = ports_after old.ports x.port (packet_at x.bytes) } =
      ap (λ (y : List Output × Holding). y.1) (hears ∙ ap (λ k. router_answers.heard_kind k old x) kind) in
      subst (HoldsRouter i r) (sym is) (record {
        router = holds.router;
        known = holds.known;
        ports = ports_stay holds.router.ports old.ports x.port (packet_at x.bytes) holds.ports ∙ holds.ports;
        routes = holds.routes;
        zones = holds.zones;
      })

  pub node_steady : (k : ℕ) (old new : NodeHolding) (x : Hearing) (added : List Output) → HoldsNode i k old
      → node_answers.Hears old x added new → x.kind ≡ Aarp → HoldsNode i k new
  node_steady k old new x added holds hears kind =
      let is : record new { asks = old.asks } ≡ (node_answers.heard_packet old (packet_at x.bytes)).1 =
      ap (λ (y : List Output × NodeHolding). y.1) (hears.0 ∙ ap (λ k. node_answers.heard_kind k old x) kind) in
      let stays = by (packet_at x.bytes) in
      record {
        node = stays.node;
        known = stays.known;
        port = ap (λ (y : NodeHolding). y.port) is ∙ stays.port;
        zone = ap (λ (y : NodeHolding). y.zone) is ∙ stays.zone;
        router = ap (λ (y : NodeHolding). y.router) is ∙ stays.router;
        names = ap (λ (y : NodeHolding). y.names) is ∙ stays.names;
      }
    where
      by : (o : Option Packet) → HoldsNode i k (node_answers.heard_packet old o).1
      by None = holds
      by (Some sent) = record {
        node = holds.node;
        known = holds.known;
        port = ap (heard sent) holds.port;
        zone = holds.zone;
        router = holds.router;
        names = holds.names;
      }
