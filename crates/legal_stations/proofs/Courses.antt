-- The course of a datagram that a router takes: its fate, and whether it ends at the router.
use Rattle.std.proofs.Common.{◌≡◌, ℕ, Bool, true, false, not, ◌&&◌, ◌||◌, ◌==◌, cond, [], Some, None, length, refl, sym, ap, ◌∙◌}
use Rattle.std.proofs.Common.{subst, true≢false, lt-ltb, eqb-true}
use Rattle.at_base.specs.Address.{same_address}
use Rattle.at_base.specs.declared.address.Addr.{Addr}
use Rattle.audit.specs.Routing.{hand, home}
use Rattle.audit.specs.Rules.{Passes}
use Rattle.table_image.specs.Seats.{port_seat}
use Rattle.audit.proofs.WalkLists.{at_within}
use Rattle.cable_model.specs.Outcomes.{link_of}
use Rattle.cable_model.specs.Pending.{Pair}
use Rattle.ddp.specs.Bodies.{target}
use Rattle.image_stations.specs.Holders.{HoldsRouter}
use Rattle.legal_runs.specs.Answers.{ends_at}
use Rattle.legal_runs.specs.Legs.{is_copy, is_datagram, is_unicast}
use Rattle.resolved_runs.specs.Fates.{fate_with, fate_with_by}
use Rattle.legal_stations.specs.Fated.{NoFate}
use Rattle.legal_runs.specs.Stations.{has_address, is_router}
use Rattle.legal_runs.proofs.Legs.{same_address_is, seat_home}
use Rattle.legal_runs.proofs.Passing.{copy_end, keeps}
use Rattle.router.specs.Forwarding.{course, course_by, ended, ends_at_once, heard_as, is_own}
use Rattle.router.specs.Holding.{Holding, hand as hand_in, own_at}
use Rattle.router.specs.declared.course.Course.{Course}
use Rattle.station.specs.Ports.{has}
use Rattle.station.specs.declared.heard.Link.{Link}
use Rattle.station.specs.declared.heard.Link.TheVariants as link
use Rattle.table_image.specs.Internet.{Internet}
use Rattle.legal_stations.proofs.Arrivals.{Arrives}
use Rattle.legal_stations.proofs.Datagrams.{Inside}
use Rattle.legal_stations.proofs.Fates.{Came, EndsOn, Outcome, came, handed, own_end, own_unicast}
use Rattle.legal_stations.proofs.Ports.{has_at, has_is, seat_of_port}

-- The test for a copy agrees with the test for a datagram that is passed on.
copy_test : (k u r z o : Bool) → k ≡ true → r ≡ true → (k && u && r && not z && not o) ≡ not (not u || z || o)
copy_test true u true z o ek er = by u z o
  where
    by : (u z o : Bool) → (true && u && true && not z && not o) ≡ not (not u || z || o)
    by true true o = refl
    by true false true = refl
    by true false false = refl
    by false z o = refl
copy_test false u r z o ek er = cc
copy_test true u false z o ek er = cc

-- A datagram in a frame to one station that isn't passed on, and isn't for network 0, is for the station's address.
third : (u z o : Bool) → (not u || z || o) ≡ true → u ≡ true → z ≡ false → o ≡ true
third true false o e a b = e
third true true o e a b = cc
third false z o e a b = cc

ends_test : (u r o c : Bool) → u ≡ true → r ≡ true → o ≡ true → (u && r && (o || c)) ≡ true
ends_test true true true c a b d = refl
ends_test false r o c a b d = cc
ends_test true false o c a b d = cc
ends_test true true false c a b d = cc

not_zero : (n : ℕ) (b : Bool) → (n == 0) ≡ b → (n ≡ 0 → ⊥) → b ≡ false
not_zero n true e some = absurd (some (eqb-true n 0 e))
not_zero n false e some = refl

module _ (i : Internet) (ok : Passes i) (p : Pair) (h : Holding) (holds : HoldsRouter i p.seat.station h) (a : Arrives i ok p)
    (x : Inside p.frame.bytes) where
  abbrev r : ℕ
  r = p.seat.station

  abbrev to : Addr
  to = target p.frame.bytes

  abbrev their : Came i ok p h holds a x
  their = came i ok p h holds a x

  -- The router's address on the cable on which the frame came.
  own_there : has x.d.target (own_at h.ports p.seat.port) ≡ has_address i r p.seat.cable to
  own_there =
      has_at i ok r h holds p.seat.port their.port their.at x.d.target
      ∙ (ap (λ c. has_address i r c x.d.target) (sym their.cable) ∙ ap (has_address i r p.seat.cable) (sym x.target_is))

  router_here : is_router i r ≡ true
  router_here = lt-ltb r (length i.routers) (at_within i.routers r holds.router holds.known)

  abbrev at_once : Bool
  at_once = ends_at_once h.ports p.seat.port (link_of p.frame.to) x.d.target

  -- A datagram is a copy if and only if it is passed on.
  copy_is : is_copy i p ≡ not at_once
  copy_is =
      copy_test (is_datagram p.frame.kind) (is_unicast p.frame.to) (is_router i r) (to.net == 0) (has_address i r p.seat.cable to)
      (ap is_datagram a.fine.kind) router_here
      ∙ (ap (λ u. not (not u || to.net == 0 || has_address i r p.seat.cable to)) (sym (own_unicast p.frame.to))
      ∙ (ap (λ (t : Addr). not (not (is_own (link_of p.frame.to)) || t.net == 0 || has_address i r p.seat.cable to)) x.target_is
      ∙ ap (λ o. not (not (is_own (link_of p.frame.to)) || x.d.target.net == 0 || o)) (sym own_there)))

  -- The address of a port is at home on its cable.
  home_there : has_address i r p.seat.cable to ≡ true → home i to.net ≡ Some their.port.cable
  home_there e =
      let same : same_address to their.port.address ≡ true =
      sym (has_is i ok r holds.router holds.known p.seat.port their.port their.at to)
      ∙ (ap (λ c. has_address i r c to) (sym their.cable) ∙ e) in
      let k = seat_of_port i r p.seat.port holds.router their.port holds.known their.at in
      ap (λ (t : Addr). home i t.net) (same_address_is to their.port.address same)
      ∙ seat_home i ok their.port.cable their.port.address (port_seat r their.port)
      (record { place = k.0; at = k.1; cable_is = refl; address = refl })

  not_sent_on : is_unicast p.frame.to ≡ false → ends_at i p ≡ false
  not_sent_on u = ap (λ b. b && is_router i r && (has_address i r p.seat.cable to || (is_copy i p && keeps i p))) u

  -- A datagram that ends immediately.
  once_ends : (l : Link) → link_of p.frame.to ≡ l → at_once ≡ true
      → (own_end (heard_as p.seat.port l x.d.target) ≡ ends_at i p) × EndsOn i ok p h holds a x (heard_as p.seat.port l x.d.target)
  once_ends link.Own e once =
      let u : is_unicast p.frame.to ≡ true = sym (own_unicast p.frame.to) ∙ ap is_own e in
      let some : (x.d.target.net == 0) ≡ false =
      not_zero x.d.target.net (x.d.target.net == 0) refl (λ z. a.fine.some u (ap (λ (t : Addr). t.net) x.target_is ∙ z)) in
      let own = third (is_own (link_of p.frame.to)) (x.d.target.net == 0) (has x.d.target (own_at h.ports p.seat.port)) once
      (ap is_own e) some in
      let here : has_address i r p.seat.cable to ≡ true = sym own_there ∙ own in (
        sym (ends_test (is_unicast p.frame.to) (is_router i r) (has_address i r p.seat.cable to)
            (is_copy i p && keeps i p) u router_here here),
        (their.port, their.at, λ v. home_there here),
      )
  once_ends link.All e once = by (x.d.target.node == 255)
    where
      never : ends_at i p ≡ false
      never = not_sent_on (sym (own_unicast p.frame.to) ∙ ap is_own e)

      by : (b : Bool) → (own_end (cond b (ended p.seat.port false) None) ≡ ends_at i p)
          × EndsOn i ok p h holds a x (cond b (ended p.seat.port false) None)
      by true = (sym never, (their.port, their.at, λ v. absurd (true≢false (sym v))))
      by false = (sym never, tt)
  once_ends (link.Group g) e once = (sym (not_sent_on (sym (own_unicast p.frame.to) ∙ ap is_own e)), tt)

  -- The course of the datagram.
  abbrev pub the_course : Course
  the_course = course h.ports h.routes p.seat.port (link_of p.frame.to) x.d.hops x.d.target

  pub course_comes : Outcome i ok p h holds a x the_course (λ leg. fate_with i leg p) (ends_at i p)
  course_comes =
      subst (λ b. Outcome i ok p h holds a x the_course
      (λ leg. cond b (fate_with_by i leg r p (hand i r to.net)) []) (ends_at i p)) (sym copy_is)
      (by at_once refl)
    where
      by : (b : Bool) → at_once ≡ b
          → Outcome i ok p h holds a x
          (cond b (record { step = None; ending = heard_as p.seat.port (link_of p.frame.to) x.d.target })
          (course_by h.ports (hand_in h.routes x.d.target.net) x.d.hops x.d.target))
          (λ leg. cond (not b) (fate_with_by i leg r p (hand i r to.net)) []) (ends_at i p)
      by true e =
          let w = once_ends (link_of p.frame.to) refl e in
          record { fate_is = NoFate (λ leg. refl); ends = w.0; on = w.1 }
      by false e =
          subst (λ own. Outcome i ok p h holds a x (course_by h.ports (hand_in h.routes x.d.target.net) x.d.hops x.d.target)
          (λ leg. fate_with_by i leg r p (hand i r to.net)) own) (sym (copy_end i p (copy_is ∙ ap not e)))
          (handed i ok p h holds a x)
