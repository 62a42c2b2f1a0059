-- The fate of a datagram that a router takes, by the image's tables.
use Rattle.std.proofs.Common.{◌≡◌, ℕ, ◌+◌, Bool, true, false, not, ◌&&◌, ◌||◌, ◌==◌, cond, if◌then◌else◌, List, []}
use Rattle.std.proofs.Common.{◌∷◌, Option, Some, None, refl, sym, ap, ◌∙◌, subst, true≢false, slice_index}
use Rattle.at_base.specs.declared.address.Addr.{Addr}
use Rattle.at_base.specs.declared.address.Hw.{Hw}
use Rattle.audit.specs.Routing.{Hand, Here, On, hand, home}
use Rattle.audit.specs.Rules.{Passes}
use Rattle.audit.proofs.WalkLists.{At}
use Rattle.cable_model.specs.Outcomes.{link_of}
use Rattle.cable_model.specs.Pending.{Pair}
use Rattle.at_base.specs.Multicast.{is_all, is_group}
use Rattle.cable_model.specs.Transcript.{Entry, Reached}
use Rattle.cable_model.specs.Transcript as entry
use Rattle.cable_model.specs.declared.entry.How.TheVariants as how
use Rattle.cable_model.specs.declared.seat.Seat.{Seat}
use Rattle.ddp.specs.Bodies.{body, hops, target, with_hops}
use Rattle.image_stations.specs.Holders.{HoldsRouter}
use Rattle.legal_runs.specs.Answers.{keeps_by}
use Rattle.legal_runs.specs.Legs.{Leg, is_unicast, passed}
use Rattle.resolved_runs.specs.Fates.{fate_with_by}
use Rattle.legal_stations.specs.Fated.{DroppedHere, IsFate, KeptHere, PassedOn}
use Rattle.station.specs.declared.output.DropCause.{DropCause}
use Rattle.station.specs.declared.output.Output.TheVariants.{Dropped, Passed}
use Rattle.legal_runs.specs.Stations.{has_address}
use Rattle.legal_runs.proofs.Frames.{inside_is, set_again}
use Rattle.router.specs.Forwarding.{arrived, bytes_in, course_by, ended, fate, goes, handed_on, is_own, onward}
use Rattle.router.specs.Holding.{Holding, hand as hand_in, own_at}
use Rattle.router.specs.declared.course.Course.{Course}
use Rattle.router.specs.declared.course.Ending.{Ending}
use Rattle.router.specs.declared.course.Step.TheVariants as step
use Rattle.station.specs.Ports.{has}
use Rattle.station.specs.declared.heard.Link.TheVariants as link
use Rattle.station.specs.declared.output.DropCause.TheVariants.{HopLimit, NoRoute}
use Rattle.station.specs.declared.output.Next.{Next}
use Rattle.station.specs.declared.output.Next.TheVariants as next
use Rattle.table_image.specs.Internet.{Internet}
use Rattle.table_image.specs.declared.port.Port.{Port}
use Rattle.legal_stations.proofs.Arrivals.{Arrives}
use Rattle.legal_stations.proofs.Datagrams.{Inside}
use Rattle.legal_stations.proofs.Hands.{hands_agree}
use Rattle.legal_stations.specs.Agreeing.{BothHere, BothNowhere, BothOn}
use Rattle.legal_stations.proofs.Ports.{cable_is, has_at, port_of, seated}

-- A frame is to the station's own address if and only if it is to one station.
pub own_unicast : (to : Hw) → is_own (link_of to) ≡ is_unicast to
own_unicast to = by (is_all to) (is_group to)
  where
    by : (a g : Bool) → is_own (if a then link.All else if g then link.Group (slice_index to.0 5) else link.Own) ≡ (not a && not g)
    by true g = refl
    by false true = refl
    by false false = refl

-- The datagram ended as one for the router itself.
abbrev pub own_end : Option Ending → Bool
own_end None = false
own_end (Some e) = e.is_own

module _ (i : Internet) (ok : Passes i) (p : Pair) (h : Holding) (holds : HoldsRouter i p.seat.station h) (a : Arrives i ok p)
    (x : Inside p.frame.bytes) where
  abbrev r : ℕ
  r = p.seat.station

  abbrev to : Addr
  to = target p.frame.bytes

  -- The port of the cable on which the frame came.
  pub record Came : Type 0 where
    pub port : Port
    pub at : At holds.router.ports p.seat.port port
    pub cable : p.seat.cable ≡ port.cable

  pub came : Came
  came =
      let mine : a.seat.station ≡ r = ap (λ (s : Seat). s.station) (sym a.seat_is) in
      let of = port_of i ok r holds.router holds.known a.place a.seat a.at mine in
      let number : of.place ≡ p.seat.port = sym of.number ∙ ap (λ (s : Seat). s.port) (sym a.seat_is) in
      record {
        port = of.port;
        at = subst (λ n. At holds.router.ports n of.port) number of.at;
        cable = ap (λ (s : Seat). s.cable) a.seat_is ∙ of.cable;
      }

  -- The datagram ended at a port of the router; if it is for the router itself, the port's cable is the home of the
  -- network.
  abbrev pub EndsOn : Option Ending → Type 0
  EndsOn None = Unit {0}
  EndsOn (Some e) =
      (port : Port) × At holds.router.ports e.port port × (e.is_own ≡ true → home i to.net ≡ Some port.cable)

  -- The result of a course: the outputs of this fate, and whether the datagram ends at the router itself.
  pub record Outcome (c : Course) (es : (Leg → List Entry) → List Entry) (own : Bool) : Type 0 where
    pub fate_is : IsFate i r es (fate c.step x.d)
    pub ends : own_end c.ending ≡ own
    pub on : EndsOn c.ending

  -- ---- The bytes

  bytes_are : bytes_in x.d ≡ p.frame.bytes
  bytes_are = sym x.spelled.1

  body_are : body (bytes_in x.d) ≡ body p.frame.bytes
  body_are = ap body bytes_are

  onward_is : onward x.d ≡ with_hops (hops p.frame.bytes + 1) (body p.frame.bytes)
  onward_is =
      ap (λ n. with_hops (n + 1) (bytes_in x.d)) (sym x.hops_is)
      ∙ (ap (with_hops (hops p.frame.bytes + 1)) (bytes_are ∙ a.framed.is)
      ∙ (set_again (hops p.frame.bytes + 1) a.framed.count a.framed.few a.framed.inside
      ∙ ap (with_hops (hops p.frame.bytes + 1)) (sym (inside_is p.frame.bytes a.framed))))

  -- A datagram that is passed on.
  pass_is : (q : ℕ) (port : Port) → At holds.router.ports q port → (whom : Next)
      → IsFate i r (λ leg. leg (passed r p port.cable whom)) (Passed q whom (onward x.d) ∷ [])
  pass_is q port at whom =
      subst (λ bytes. IsFate i r (λ leg. leg (passed r p port.cable whom)) (Passed q whom bytes ∷ [])) (sym onward_is)
      (PassedOn q (passed r p port.cable whom) refl (cable_is i ok r holds.router holds.known q port at)
      (seated i ok r holds.router holds.known q port at) (λ leg. refl))

  -- A datagram that is dropped.
  drop_is : (cause : DropCause) → IsFate i r (λ leg. entry.Dropped r cause (body p.frame.bytes) ∷ []) (Dropped cause (bytes_in x.d) ∷ [])
  drop_is cause = DroppedHere cause (bytes_in x.d) (λ leg. ap (λ b. entry.Dropped r cause b ∷ []) (sym body_are))

  -- ---- On the target's cable

  module _ (q : ℕ) (port : Port) (at : At holds.router.ports q port) (listed : home i to.net ≡ Some port.cable) where
    abbrev arrived_by : Addr → Bool → Bool → Bool → Course
    arrived_by t kept far all =
        cond kept (record { step = Some (step.Keep q); ending = ended q true })
        (cond far (goes (step.Drop HopLimit))
        (cond all (record { step = Some (step.Pass q next.All); ending = ended q false }) (goes (step.Pass q (next.Station t)))))

    abbrev entries_by : Bool → Bool → Bool → (Leg → List Entry) → List Entry
    entries_by kept far all leg =
        cond kept (Reached port.cable r how.Own (body p.frame.bytes) ∷ [])
        (cond far (entry.Dropped r HopLimit (body p.frame.bytes) ∷ []) (leg (passed r p port.cable (cond all next.All
        (next.Station to)))))

    arrived_so : (kept far all : Bool) → Outcome (arrived_by to kept far all) (entries_by kept far all) kept
    arrived_so true far all = record {
      fate_is =
          KeptHere q (bytes_in x.d) (λ leg.
          ap (λ b. Reached port.cable r how.Own b ∷ []) (sym body_are)
          ∙ ap (λ c. Reached c r how.Own (body (bytes_in x.d)) ∷ []) (sym (cable_is i ok r holds.router holds.known q port at)));
      ends = refl;
      on = (port, at, λ u. listed);
    }
    arrived_so false true all =
        record { fate_is = drop_is HopLimit; ends = refl; on = tt }
    arrived_so false false true = record {
      fate_is = pass_is q port at next.All;
      ends = refl;
      on = (port, at, λ u. absurd (true≢false (sym u)));
    }
    arrived_so false false false = record { fate_is = pass_is q port at (next.Station to); ends = refl; on = tt }

    own_tests : (to.node == 0 || has_address i r port.cable to) ≡ (x.d.target.node == 0 || has x.d.target (own_at h.ports q))
    own_tests =
        ap (λ (t : Addr). t.node == 0 || has_address i r port.cable t) x.target_is
        ∙ ap (λ b. x.d.target.node == 0 || b) (sym (has_at i ok r h holds q port at x.d.target))

    arrived_is : arrived_by to (to.node == 0 || has_address i r port.cable to) (hops p.frame.bytes == 15) (to.node == 255)
        ≡ arrived h.ports q x.d.hops x.d.target
    arrived_is =
        ap (λ b. arrived_by to b (hops p.frame.bytes == 15) (to.node == 255)) own_tests
        ∙ (ap (λ n. arrived_by to (x.d.target.node == 0 || has x.d.target (own_at h.ports q)) (n == 15) (to.node == 255)) x.hops_is
        ∙ ap (λ (t : Addr). arrived_by t (x.d.target.node == 0 || has x.d.target (own_at h.ports q)) (x.d.hops == 15) (t.node == 255))
        x.target_is)

    arrived_comes : Outcome (arrived h.ports q x.d.hops x.d.target) (λ leg. fate_with_by i leg r p (Here port.cable)) (keeps_by i r to
        (Here port.cable))
    arrived_comes =
        subst (λ c. Outcome c (λ leg. fate_with_by i leg r p (Here port.cable)) (keeps_by i r to (Here port.cable))) arrived_is
        (arrived_so (to.node == 0 || has_address i r port.cable to) (hops p.frame.bytes == 15) (to.node == 255))

  -- ---- To the next router

  on_so : (q : ℕ) (port : Port) → At holds.router.ports q port → (s : ℕ) (t : Addr)
      → Outcome (handed_on q t x.d.hops) (λ leg. fate_with_by i leg r p (On s port.cable t)) false
  on_so q port at s t =
      subst (λ n. Outcome (handed_on q t n) (λ leg. fate_with_by i leg r p (On s port.cable t)) false) x.hops_is
      (by (hops p.frame.bytes == 15))
    where
      by : (far : Bool) → Outcome (cond far (goes (step.Drop HopLimit)) (goes (step.Pass q (next.Station t))))
          (λ leg. cond far (entry.Dropped r HopLimit (body p.frame.bytes) ∷ []) (leg (passed r p port.cable (next.Station t)))) false
      by true = record { fate_is = drop_is HopLimit; ends = refl; on = tt }
      by false = record { fate_is = pass_is q port at (next.Station t); ends = refl; on = tt }

  -- ---- By the router's routing decision

  abbrev Comes : Course → Hand → Type 0
  Comes c there = Outcome c (λ leg. fate_with_by i leg r p there) (keeps_by i r to there)

  pub handed : Comes (course_by h.ports (hand_in h.routes x.d.target.net) x.d.hops x.d.target) (hand i r to.net)
  handed =
      subst (λ (t : Addr). Comes (course_by h.ports (hand_in h.routes t.net) x.d.hops x.d.target) (hand i r to.net)) x.target_is
      (elim (hands_agree i ok r h holds to.net) as
      (λ _. Comes (course_by h.ports (hand_in h.routes to.net) x.d.hops x.d.target) (hand i r to.net)) [
        | BothNowhere ours theirs ↦
            subst (λ u. Comes (course_by h.ports u x.d.hops x.d.target) (hand i r to.net)) (sym ours)
            (subst (λ u. Comes (goes (step.Drop NoRoute)) u) (sym theirs)
            (record { fate_is = drop_is NoRoute; ends = refl; on = tt }))
        | BothHere q port at ours theirs listed ↦
            subst (λ u. Comes (course_by h.ports u x.d.hops x.d.target) (hand i r to.net)) (sym ours)
            (subst (λ u. Comes (arrived h.ports q x.d.hops x.d.target) u) (sym theirs) (arrived_comes q port at listed))
        | BothOn q port s t at ours theirs own ↦
            subst (λ u. Comes (course_by h.ports u x.d.hops x.d.target) (hand i r to.net)) (sym ours)
            (subst (λ u. Comes (handed_on q t x.d.hops) u) (sym theirs) (on_so q port at s t))
      ])
