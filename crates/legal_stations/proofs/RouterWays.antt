-- The ways by which a router replies.
use Rattle.std.proofs.Common.{◌≡◌, ℕ, ◌<◌, Bool, true, false, not, ◌&&◌, ◌==◌, cond, List, [], ◌∷◌, Option, Some, None, refl, sym, ap}
use Rattle.std.proofs.Common.{arith, slice_get, subst, ◌∙◌}
use Rattle.std.specs.List.{AllByRecursion as Each}
use Rattle.std.proofs.lemmas.Bool.{eqb-false}
use Rattle.at_base.specs.Range.{is_between}
use Rattle.at_base.specs.Spelling.{IsValue}
use Rattle.at_base.specs.declared.address.Addr.{Addr}
use Rattle.audit.specs.Places.{on}
use Rattle.audit.specs.Routing.{owner}
use Rattle.audit.specs.Rules.{Passes}
use Rattle.audit.proofs.WalkLists.{At}
use Rattle.cable_model.specs.Outcomes.{cable_of}
use Rattle.cable_model.proofs.Counting.{map_at}
use Rattle.ddp.specs.Datagram.{Datagram, datagram, datagram_of}
use Rattle.ddp.specs.declared.header.Header.{Header}
use Rattle.ddp.proofs.Shape.{value_laid}
use Rattle.ddp.proofs.Written.{Fitting}
use Rattle.legal_stations.proofs.RouterPorts.{port_fits}
use Rattle.image_stations.specs.Holders.{HoldsRouter, choice_on, range_of}
use Rattle.legal_runs.specs.Answers.{ByRouter, OnCable}
use Rattle.legal_runs.specs.Stations.{cable_holds, cable_seats, is_on}
use Rattle.legal_runs.proofs.Seated.{home_holds}
use Rattle.router.specs.Holding.{Holding, hand as hand_in, own_at}
use Rattle.router.specs.Requests.{every_node}
use Rattle.router.specs.Ways.{is_answered, way_back, way_by}
use Rattle.router.specs.Zones.{info_way}
use Rattle.router.specs.declared.hand.Hand.{Hand}
use Rattle.station.specs.Lawful.{IsGood}
use Rattle.station.specs.Ports.{have}
use Rattle.station.specs.Ways.{replying, reply_header, straight, way_from}
use Rattle.station.specs.declared.output.Next.TheVariants as next
use Rattle.station.specs.declared.way.Way.{Way}
use Rattle.table_image.specs.Internet.{Internet}
use Rattle.table_image.specs.declared.port.Port.{Port}
use Rattle.legal_stations.proofs.Datagrams.{names_of}
use Rattle.legal_stations.proofs.Hands.{hands_agree}
use Rattle.legal_stations.specs.Agreeing.{BothHere, BothNowhere, BothOn}
use Rattle.legal_stations.proofs.Leaving.{AsksNothing, IsQuiet, IsWay, Leaves, MayGo, goes_straight, is_quiet, replies_leave, replies_quiet}
use Rattle.legal_stations.proofs.Ports.{cable_is, own_is, port_addressed, seated}

-- If there is a way, it is one for datagrams of this type.
abbrev pub Replies : Internet → ℕ → ℕ → Option Way → Type 0
Replies i s kind None = Unit {0}
Replies i s kind (Some w) = IsWay i s w × (w.header.kind ≡ kind)

-- Replies of a type other than NBP leave in an allowed way and are no requests.
pub replies_are : (i : Internet) (s n kind : ℕ) → (kind == 2) ≡ false → (o : Option Way) → Replies i s kind o → (ps : List (List ℕ))
    → Each (IsGood n) (replying o ps) → Each (Leaves i s) (replying o ps) × Each AsksNothing (replying o ps)
replies_are i s n kind other o is ps good = (
  replies_leave i s n o (way o is) ps good,
  replies_quiet i s n o (way o is) ps good (quiet o is ps),
)
  where
    way : (o : Option Way) → Replies i s kind o → MayGo i s o
    way None is = tt
    way (Some w) is = is.0

    quiet : (o : Option Way) → Replies i s kind o → (ps : List (List ℕ)) → Each (IsQuiet o) ps
    quiet o is [] = tt
    quiet None is (p ∷ ps) = (tt, quiet None is ps)
    quiet (Some w) is (p ∷ ps) = (
      ap (λ k. is_quiet (names_of (datagram_of (record w.header { kind = k }) p))) is.1
          ∙ none w.header p kind other,
      quiet (Some w) is ps,
    )
      where
        none : (h : Header) (p : List ℕ) (kind : ℕ) → (kind == 2) ≡ false
            → is_quiet (names_of (datagram_of (record h { kind = kind }) p)) ≡ true
        none h p kind other =
            ap (λ b. is_quiet (cond (b && h.target_socket == 2) (names_of (record
            (datagram_of h p) { kind = 2; target_socket = 2 })) None)) other

-- An address that gets a reply has a network and a node.
answered : (net node : ℕ) (mine : Bool) → (not (net == 0) && not (node == 0) && not mine) ≡ true
    → ((net == 0) ≡ false) × ((node == 0) ≡ false)
answered net node mine e = by (net == 0) (node == 0) mine e
  where
    by : (a b c : Bool) → (not a && not b && not c) ≡ true → (a ≡ false) × (b ≡ false)
    by false false c e = (refl, refl)
    by true b c e = cc
    by false true c e = cc

module _ (i : Internet) (ok : Passes i) (r : ℕ) (h : Holding) (holds : HoldsRouter i r h) (d : Datagram) (v : IsValue datagram d) where
  -- The header of a reply fits.
  reply_fits : (to : Addr) → to.net < 65536 → to.node < 256 → (q : ℕ) (port : Port) → At holds.router.ports q port
      → Fitting (record (reply_header d to) { source = port.address })
  reply_fits to net node q port at =
      let l = value_laid d v in
      let own = port_fits i ok r holds.router q port (record { known = holds.known; at = at }) in
      record {
        target_net = net;
        source_net = own.net;
        target_node = node;
        source_node = own.node;
        target_socket = l.source_socket;
        source_socket = l.target_socket;
        kind = l.kind;
      }

  seat_there : (q : ℕ) (port : Port) → At holds.router.ports q port → is_on i r (cable_of (cable_seats i) r q) ≡ true
  seat_there q port at =
      ap (is_on i r) (cable_is i ok r holds.router holds.known q port at) ∙ seated i ok r holds.router holds.known q port at

  abbrev back : Hand → Option Addr → Option Way
  back to source = way_by to (λ leaving. source) (reply_header d d.source)

  -- The way back, from the address of a port.
  back_goes : (q : ℕ) (port : Port) → At holds.router.ports q port → (d.source.net == 0) ≡ false → (d.source.node == 0) ≡ false
      → Replies i r d.kind (back (hand_in h.routes d.source.net) (Some port.address))
  back_goes q port at some single =
      let l = value_laid d v in
      let fits = reply_fits d.source l.source_net l.source_node q port at in
      elim (hands_agree i ok r h holds d.source.net) as
      (λ _. Replies i r d.kind (back (hand_in h.routes d.source.net) (Some port.address))) [
        | BothNowhere ours theirs ↦ subst (λ u. Replies i r d.kind (back u (Some port.address))) (sym ours) tt
        | BothHere q2 port2 at2 ours theirs listed ↦
            subst (λ u. Replies i r d.kind (back u (Some port.address))) (sym ours) (
              record {
                fits = fits;
                seated = seat_there q2 port2 at2;
                goes = λ leg on to for. goes_straight i d.source port2.cable (home_holds i d.source.net port2.cable listed) single leg
                    (on ∙ cable_is i ok r holds.router holds.known q2 port2 at2) to for;
              },
              refl,
            )
        | BothOn q2 port2 s t at2 ours theirs own ↦
            subst (λ u. Replies i r d.kind (back u (Some port.address))) (sym ours) (
              record {
                fits = fits;
                seated = seat_there q2 port2 at2;
                goes = λ leg on to for. ByRouter t s to
                    (ap (λ c. owner i c t) (on ∙ cable_is i ok r holds.router holds.known q2 port2 at2) ∙ own)
                    (λ z. eqb-false d.source.net 0 some (sym (ap (λ (a : Addr). a.net) for) ∙ z));
              },
              refl,
            )
      ]

  pub way_back_goes : (q : ℕ) (port : Port) → At holds.router.ports q port → Replies i r d.kind (way_back h q d)
  way_back_goes q port at = by (is_answered h.ports d.source) refl
    where
      by : (b : Bool) → is_answered h.ports d.source ≡ b
          → Replies i r d.kind (cond b (back (hand_in h.routes d.source.net) (own_at h.ports q)) None)
      by true e =
          let w = answered d.source.net d.source.node (have d.source h.ports) e in
          subst (λ o. Replies i r d.kind (back (hand_in h.routes d.source.net) o)) (sym (own_is i ok r h holds q port at))
          (back_goes q port at w.0 w.1)
      by false e = tt

  -- ---- Replies to a node about its cable

  -- The address choice of a port.
  pub choice_is : (q : ℕ) (port : Port) → At holds.router.ports q port
      → slice_get h.ports q ≡ Some (choice_on i port.cable port.address port.hardware)
  choice_is q port at =
      ap (λ ports. slice_get ports q) holds.ports
      ∙ map_at (λ (p : Port). choice_on i p.cable p.address p.hardware) holds.router.ports q port at

  -- A network in the range of a port's cable.
  range_holds : (q : ℕ) (port : Port) → At holds.router.ports q port → (n : ℕ)
      → is_between (range_of (slice_get i.cables port.cable)).start (range_of (slice_get i.cables port.cable)).end n
      ≡ cable_holds i port.cable n
  range_holds q port at n =
      let known = (port_addressed i ok r holds.router holds.known q port at).known in
      ap (λ o. is_between (range_of o).start (range_of o).end n) known ∙ sym (ap (λ o. on o (λ c. is_between c.start c.end n)) known)

  abbrev told : Bool → Bool → ℕ → Option Addr → Option Way
  told near some q source =
      cond near (cond some (way_from source q (straight d.source) (reply_header d d.source)) None)
      (way_from source q next.All (reply_header d every_node))

  pub info_way_goes : (q : ℕ) (port : Port) → At holds.router.ports q port
      → Replies i r d.kind (info_way h q (range_of (slice_get i.cables port.cable)) d)
  info_way_goes q port at =
      subst (λ o. Replies i r d.kind (told near (is_answered h.ports d.source) q o)) (sym (own_is i ok r h holds q port at))
      (by near (is_answered h.ports d.source) refl refl)
    where
      near : Bool
      near =
          is_between (range_of (slice_get i.cables port.cable)).start (range_of (slice_get i.cables port.cable)).end d.source.net

      by : (b c : Bool) → near ≡ b → is_answered h.ports d.source ≡ c → Replies i r d.kind (told b c q (Some port.address))
      by true true e f =
          let l = value_laid d v in
          let w = answered d.source.net d.source.node (have d.source h.ports) f in (
            record {
              fits = reply_fits d.source l.source_net l.source_node q port at;
              seated = seat_there q port at;
              goes = λ leg on to for. goes_straight i d.source port.cable (sym (range_holds q port at d.source.net) ∙ e) w.1 leg
                  (on ∙ cable_is i ok r holds.router holds.known q port at) to for;
            },
            refl,
          )
      by true false e f = tt
      by false c e f = (
        record {
          fits = reply_fits every_node (omega arith) (omega arith) q port at;
          seated = seat_there q port at;
          goes = λ leg on to for. OnCable to (ap (λ (a : Addr). a.net) for) (ap (λ (a : Addr). a.node) for);
        },
        refl,
      )
