-- A forward request for a zone that ends at a router with a port on its cable makes one lookup there.
use Rattle.std.proofs.Common.{◌≡◌, ℕ, Bool, true, cond, List, [], ◌∷◌, Some, IsTrue, position, sym, ap, ◌∙◌, subst, arith}
use Rattle.std.specs.List.{All}
use Rattle.at_base.specs.Range.{Span, is_between}
use Rattle.at_base.specs.Text.{is_name}
use Rattle.ddp.specs.Datagram.{Datagram}
use Rattle.table_image.specs.Internet.{Internet}
use Rattle.audit.specs.Routing.{home}
use Rattle.audit.specs.Rules.{Passes}
use Rattle.audit.specs.Walks.{HasPort}
use Rattle.audit.proofs.WalkLists.{index_at}
use Rattle.image_stations.specs.Holders.{HoldsRouter}
use Rattle.legal_stations.specs.Made.{legs}
use Rattle.legal_runs.specs.Answers.{IsLookup, IsMade}
use Rattle.legal_runs.specs.Legs.{Leg}
use Rattle.legal_runs.specs.Requests.{zone_of}
use Rattle.legal_runs.proofs.Seated.{listed_some}
use Rattle.nbp.specs.declared.packet.Function.{Function}
use Rattle.nbp.specs.declared.packet.Function.TheVariants.{ForwardRequest, Reply}
use Rattle.nbp.specs.Packets.{NbpPacket, key, names_in}
use Rattle.router.specs.Holding.{Holding}
use Rattle.router.specs.Requests.{looked_on, looked_up, made_by, made_of, requests_made}
use Rattle.station.specs.Lawful.{IsGood, are_bytes}
use Rattle.station.specs.Ways.{is_summed}
use Rattle.station.specs.declared.output.Next.{Next}
use Rattle.station.specs.declared.output.Output.{Output}
use Rattle.station.specs.declared.output.Output.TheVariants.{Made}
use Rattle.legal_stations.proofs.Answered.{leg_by, looked, request_of}
use Rattle.legal_stations.proofs.Looking.{IsOnCable, first_port, port_there, some_port}
use Rattle.legal_stations.proofs.Requested.{Requested, requested}

-- A good output that was made consists of bytes.
pub bytes_of_made : (n : ℕ) (port : ℕ) (to : Next) (bytes : List ℕ) (outputs : List Output) → All (IsGood n) (Made port to bytes ∷ outputs)
    → IsTrue (are_bytes bytes)
bytes_of_made n port to bytes outputs good = (good 0 (Made port to bytes) (omega arith)).2.each

-- The outputs that a router makes from a packet with one tuple.
pub made_is : (h : Holding) (d : Datagram) (p : NbpPacket) (it : Requested p) (f : Function) → p.function ≡ f
    → requests_made h d (Some p) ≡ made_of h f (request_of (is_summed d) p it) d.target.net
made_is h d p it f e =
    ap (λ (q : NbpPacket). made_by h d p q.tuples) it.is ∙ ap (λ f. made_of h f (request_of (is_summed d) p it) d.target.net) e

module _ (i : Internet) (ok : Passes i) (r : ℕ) (h : Holding) (holder : HoldsRouter i r h) where
  -- The router has the port on which it looks up names for a network of its own cable.
  place_is : (n c : ℕ) → home i n ≡ Some c → HasPort i r c → (q : ℕ)
      × (position (λ c. is_between c.range.start c.range.end n) h.ports ≡ Some q) × IsOnCable holder.router q c
  place_is n c listed port =
      let test : Span → Bool = λ s. is_between s.start s.end n in
      let w = index_at (λ c. is_between c.start c.end n) i.cables c listed in
      let found = some_port i holder.router c w.0 w.1 test r holder.known port w.2 in
      let on = port_there i holder.router c w.0 w.1 test ok n (listed_some i ok n c listed) w.2 (λ s e. e) found.0 found.1 in (
        found.0,
        ap (λ ports. position (λ c. is_between c.range.start c.range.end n) ports) holder.ports
            ∙ (first_port i test holder.router.ports ∙ found.1),
        on,
      )

  pub looked_up_there : (n c : ℕ) (d : Datagram) (p : NbpPacket) → IsTrue (are_bytes d.payload) → names_in d.payload ≡ Some p
      → p.function ≡ ForwardRequest → is_name (zone_of (key p)) ≡ true → home i d.target.net ≡ Some c → HasPort i r c
      → All (IsGood n) (requests_made h d (Some p))
      → (l : Leg) × (legs i r (requests_made h d (Some p)) ≡ l ∷ []) × IsLookup i (key p) r c l × IsMade i l
  looked_up_there n c d p bytes read function name listed port good =
      let it = requested d.payload p bytes read (λ e. other p.function function e) in
      let place = place_is d.target.net c listed port in
      let a = looked i ok r h holder (is_summed d) p it place.0 c place.2 in
      let named : is_name it.tuple.zone ≡ true = ap is_name (sym it.zone) ∙ name in
      let request = request_of (is_summed d) p it in
      let made : requests_made h d (Some p) ≡ Made a.port a.to a.bytes ∷ [] =
      made_is h d p it ForwardRequest function
      ∙ (ap (λ b. cond b (looked_up h request d.target.net) []) named ∙ (ap (looked_on h request) place.1 ∙ a.is)) in
      let fine = bytes_of_made n a.port a.to a.bytes [] (subst (All (IsGood n)) made good) in
      (leg_by i r a.port a.to a.bytes, ap (legs i r) made, a.kind, a.made fine)
    where
      other : (f : Function) → f ≡ ForwardRequest → f ≡ Reply → ⊥
      other f e g = cc
