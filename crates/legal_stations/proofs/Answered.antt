-- The datagrams of a lookup and of a forward request, as legs.
use Rattle.std.proofs.Common.{option_and_then, ◌≡◌, ℕ, Bool, List, [], ◌∷◌, Some, IsTrue, refl, sym, ap, ◌∙◌, arith}
use Rattle.at_base.specs.declared.address.Addr.{Addr}
use Rattle.ddp.specs.declared.header.Header.{Header}
use Rattle.ddp.proofs.Written.{Fitting}
use Rattle.table_image.specs.Internet.{Internet}
use Rattle.table_image.specs.declared.port.Port.{Port}
use Rattle.audit.specs.Routing.{On, hand, home, owner}
use Rattle.audit.specs.Rules.{Passes}
use Rattle.audit.proofs.WalkLists.{At}
use Rattle.cable_model.specs.Outcomes.{cable_of}
use Rattle.cable_model.proofs.Counting.{map_at}
use Rattle.image_stations.specs.Holders.{HoldsRouter, choice_on}
use Rattle.legal_runs.specs.Answers.{ByRouter, IsForward, IsLookup, IsMade, ToThese}
use Rattle.legal_runs.specs.Legs.{Leg}
use Rattle.legal_runs.specs.Requests.{is_forward, is_lookup, key_in}
use Rattle.legal_runs.specs.Stations.{cable_seats, is_on}
use Rattle.at_base.specs.Multicast.{group_of}
use Rattle.legal_runs.proofs.Seated.{listed_some, port_seated}
use Rattle.nbp.specs.declared.packet.Function.{Function}
use Rattle.nbp.specs.declared.packet.Function.TheVariants.{Lookup, ForwardRequest}
use Rattle.nbp.specs.Packets.{NbpPacket, key, packet_of}
use Rattle.nbp.specs.declared.expansion.Ask.TheVariants as ask
use Rattle.nbp.proofs.Shape.{same_key}
use Rattle.router.specs.Holding.{Holding, hand as router_hand, own_at}
use Rattle.aarp.specs.Choosing.{settled}
use Rattle.router.specs.Requests.{any_router, asked, every_node, looked_by, renamed, request_header}
use Rattle.router.specs.Ways.{way_by}
use Rattle.router.specs.declared.request.Request.{Request}
use Rattle.station.specs.Lawful.{are_bytes}
use Rattle.station.specs.Ways.{replying, way_from}
use Rattle.station.specs.declared.output.Next.{Next}
use Rattle.station.specs.declared.output.Next.TheVariants as next
use Rattle.station.specs.declared.output.Output.{Output}
use Rattle.station.specs.declared.output.Output.TheVariants.{Made}
use Rattle.legal_stations.proofs.Handed.{hands_on}
use Rattle.legal_stations.proofs.Looking.{IsOnCable}
use Rattle.legal_stations.proofs.RouterPorts.{Fits, IsPort, cable_is, has_port, listed_fits, port_fits}
use Rattle.legal_stations.proofs.Requested.{Requested}
use Rattle.legal_stations.proofs.Sealed.{body_is, carried, sealed, target_is}

-- The leg of a datagram that router r made.
abbrev pub leg_by : Internet → ℕ → ℕ → Next → List ℕ → Leg
leg_by i r port to bytes = record { station = r; cable = cable_of (cable_seats i) r port; next = to; body = bytes; hops = 0 }

-- Router r made one datagram; `Is` holds of its leg, and it leaves in an allowed way if it consists of bytes.
pub record Answered (i : Internet) (r : ℕ) (Is : Leg → Type 0) (outputs : List Output) : Type 0 where
  pub port : ℕ
  pub to : Next
  pub bytes : List ℕ
  pub is : outputs ≡ Made port to bytes ∷ []
  pub kind : Is (leg_by i r port to bytes)
  pub made : IsTrue (are_bytes bytes) → IsMade i (leg_by i r port to bytes)

-- The request of a packet.
abbrev pub request_of : Bool → (p : NbpPacket) → Requested p → Request
request_of summed p it = record { summed = summed; id = p.id; tuple = it.tuple }

-- The header of a request, with its source.
abbrev header_from : Bool → Addr → Addr → Header
header_from summed to source =
    record { summed = summed; target = to; source = source; target_socket = 2; source_socket = 2; kind = 2 }

header_fits : (summed : Bool) (to source : Addr) → Fits to → Fits source → Fitting (header_from summed to source)
header_fits summed to source h g = record {
  target_net = h.net;
  source_net = g.net;
  target_node = h.node;
  source_node = g.node;
  target_socket = omega arith;
  source_socket = omega arith;
  kind = omega arith;
}

module _ (i : Internet) (ok : Passes i) (r : ℕ) (h : Holding) (holder : HoldsRouter i r h)
    (summed : Bool) (p : NbpPacket) (it : Requested p) where
  own_is : (q : ℕ) (port : Port) → At holder.router.ports q port → own_at h.ports q ≡ Some port.address
  own_is q port at =
      ap (λ ports. own_at ports q) holder.ports
      ∙ ap (λ o. option_and_then settled o) (map_at (λ (p : Port). choice_on i p.cable p.address p.hardware) holder.router.ports q port at)

  seated : (q : ℕ) (port : Port) → At holder.router.ports q port → IsPort i r holder.router q port
  seated q port at = record { known = holder.known; at = at }

  -- The request with another function has the packet's key.
  same : (f : Function) → key (packet_of f p.id it.tuple) ≡ key p
  same f = same_key f p.function p.id it.tuple ∙ ap key (sym it.is)

  -- A lookup by a port on a cable.
  pub looked : (q c : ℕ) → IsOnCable holder.router q c
      → Answered i r (IsLookup i (key p) r c) (looked_by h (request_of summed p it) q)
  looked q c on =
      let place = seated q on.port on.at in
      let small : Fits every_node = record { net = omega arith; node = omega arith } in
      let fits = header_fits summed every_node on.port.address small (port_fits i ok r holder.router q on.port place) in
      let header = header_from summed every_node on.port.address in
      let bytes = sealed header Lookup p.id it.tuple fits it.id it.fits in
      let carries = carried header Lookup p.id it.tuple fits it.id it.fits refl refl in
      let to = target_is header Lookup p.id it.tuple fits it.id it.fits in
      let there = cable_is i ok r holder.router q on.port place in
      record {
        port = q;
        to = next.Group (group_of it.tuple.zone);
        bytes = bytes;
        is =
            ap (λ o. replying (way_from o q (next.Group (group_of it.tuple.zone)) (request_header (request_of summed p it) every_node))
            (renamed Lookup (request_of summed p it) ∷ [])) (own_is q on.port on.at);
        kind = record {
          here = there ∙ on.on;
          by = refl;
          kind = ap is_lookup carries;
          key = ap key_in carries ∙ same Lookup;
          next = ap (λ z. next.Group (group_of z)) (sym it.zone);
        };
        made = λ fine. record {
          seated = ap (is_on i r) there ∙ port_seated i r on.port.cable (has_port i r holder.router q on.port place);
          whole = body_is header Lookup p.id it.tuple fits it.id it.fits fine;
          fresh = refl;
          goes = ToThese (group_of it.tuple.zone) (omega arith) refl (ap (λ (a : Addr). a.net) to) (ap (λ (a : Addr). a.node) to);
        };
      }

  -- A forward request to a network of a cable, by way of another router.
  pub forwarded : (n c s d : ℕ) (a : Addr) → home i n ≡ Some c → hand i r n ≡ On s d a → owner i d a ≡ Some s
      → Answered i r (IsForward i (key p) r c) (asked h (request_of summed p it) (ask.Forward n))
  forwarded n c s d a listed handed own =
      let w = hands_on i holder.router n s d a r holder.known handed in
      let place = seated w.place w.port w.at in
      let small : Fits (any_router n) = record { net = listed_fits i ok n c listed; node = omega arith } in
      let fits = header_fits summed (any_router n) w.port.address small (port_fits i ok r holder.router w.place w.port place) in
      let header = header_from summed (any_router n) w.port.address in
      let bytes = sealed header ForwardRequest p.id it.tuple fits it.id it.fits in
      let carries = carried header ForwardRequest p.id it.tuple fits it.id it.fits refl refl in
      let to = target_is header ForwardRequest p.id it.tuple fits it.id it.fits in
      let net = ap (λ (a : Addr). a.net) to in
      let there : cable_of (cable_seats i) r w.place ≡ d = cable_is i ok r holder.router w.place w.port place ∙ w.on in
      let some = listed_some i ok n c listed in
      record {
        port = w.place;
        to = next.Station a;
        bytes = bytes;
        is =
            ap (λ rows. replying (way_by (router_hand rows n) (own_at h.ports) (request_header (request_of summed p it) (any_router n)))
            (renamed ForwardRequest (request_of summed p it) ∷ [])) holder.routes
            ∙ (ap (λ x. replying (way_by x (own_at h.ports) (request_header (request_of summed p it) (any_router n)))
            (renamed ForwardRequest (request_of summed p it) ∷ [])) w.handed
            ∙ ap (λ o. replying (way_from o w.place (next.Station a) (request_header (request_of summed p it) (any_router n)))
            (renamed ForwardRequest (request_of summed p it) ∷ [])) (own_is w.place w.port w.at));
        kind = record {
          kind = ap is_forward carries;
          key = ap key_in carries ∙ same ForwardRequest;
          to = ap (home i) net ∙ listed;
          node = ap (λ (a : Addr). a.node) to;
          router = s;
          address = a;
          handed = ap (hand i r) net ∙ (handed ∙ ap (λ e. On s e a) (sym there));
          next = refl;
        };
        made = λ fine. record {
          seated =
              ap (is_on i r) (cable_is i ok r holder.router w.place w.port place)
              ∙ port_seated i r w.port.cable (has_port i r holder.router w.place w.port place);
          whole = body_is header ForwardRequest p.id it.tuple fits it.id it.fits fine;
          fresh = refl;
          goes = ByRouter a s refl (ap (λ e. owner i e a) there ∙ own) (λ none. omega (arith, some, net, none));
        };
      }
