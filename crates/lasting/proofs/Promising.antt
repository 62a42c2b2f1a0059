-- A row that isn't fresh is promised: a frame is pending for its router that tells of it. When nothing is pending, all rows
-- are fresh.
use Rattle.std.proofs.Common.{◌≡◌, ◌≢◌, ◌⊎◌, inl, inr, ℕ, zero, suc, ◌+◌, ◌*◌, List, [], ◌∷◌, Some, take, drop}
use Rattle.std.proofs.Common.{refl, sym, ◌∙◌, subst, slice_get, arith}
use Rattle.std.specs.Prelude.{Contains, slice_set}
use Rattle.std.specs.List.{AllByRecursion as Each}
use Rattle.std.proofs.lemmas.Bool.{cases_eq}
use Rattle.audit.proofs.WalkLists.{At, at_below, at_one, at_within}
use Rattle.audit.specs.Rules.{Passes}
use Rattle.cable_model.proofs.Counting.{contained_at}
use Rattle.cable_model.proofs.Stamps.{once_front}
use Rattle.cable_model.specs.Logs.{pending_on, transcript}
use Rattle.cable_model.specs.Outcomes.{heard_by}
use Rattle.cable_model.specs.Pending.{Pair, pending}
use Rattle.cable_model.specs.Transcript.{ArePutOnce, Frame, Took}
use Rattle.cable_model.specs.declared.seat.Seat.{Seat}
use Rattle.lasting.proofs.Alike.{AreGround, IsLike, StaysFresh, hears_alike, router_refreshes, seat_hears}
use Rattle.lasting.proofs.Given.{IsFineTaking, takes_step}
use Rattle.lasting.proofs.Idling.{get_set, get_set_other}
use Rattle.lasting.proofs.Refreshing.{IsFreshAt}
use Rattle.lasting.proofs.Staying.{same_frame, take_stays}
use Rattle.lasting.proofs.Telling.{IsToldOf}
use Rattle.lasting.proofs.Turning.{IsThrough, all_taken}
use Rattle.lasting.specs.Plain.{IsPlainOutput}
use Rattle.live_cables.proofs.Pending.{Has}
use Rattle.live_cables.specs.Living.{Wires, happened}
use Rattle.live_node.specs.Living.{LivingNode, LiveHears as NodeHears}
use Rattle.live_router.specs.Living.{Living, LiveHears as RouterHears}
use Rattle.planned_stations.specs.Planning.{ports_of}
use Rattle.rtmp.specs.Sending.{rows_sent}
use Rattle.rtmp.specs.declared.request.Horizon.TheVariants.{Split}
use Rattle.rtmp.specs.declared.row.Row.{Row as RouteRow}
use Rattle.settled.specs.Settling.{IsSettled}
use Rattle.station.specs.Members.{EitherHears}
use Rattle.station.specs.declared.member.Member.{Member}
use Rattle.station.specs.declared.member.Member.TheVariants.{Router as RouterMember, Node as NodeMember}
use Rattle.station.specs.declared.output.Output.{Output}
use Rattle.table_image.specs.Bounds.{IsBounded}
use Rattle.table_image.specs.Internet.{Internet}
use Rattle.table_image.specs.declared.row.Row.{Row}
use Rattle.world.specs.Taking.{AreTaken, IsTaken}
use Rattle.lasting.proofs.Turning.{AreTicked}

-- The frame tells of a row, one router nearer.
pub record IsTelling (i : Internet) (x : Row) (f : Frame) : Type 0 where
  pub told : IsToldOf i f
  pub j : ℕ
  pub d : RouteRow
  pub d_at : At (take 96 (drop (told.m * 96) (rows_sent Split told.q told.rows))) j d
  pub start : d.range.start ≡ x.start
  pub far : d.distance + 1 ≡ x.distance

-- A frame that tells of a row is pending for a station.
pub record IsPromise (i : Internet) (w : Wires) (k : ℕ) (x : Row) : Type 0 where
  pub p : Pair
  pub waits : Has (pending_on w.cabling) p
  pub to : p.seat.station ≡ k
  pub telling : IsTelling i x p.frame

module _ (i : Internet) (ok : Passes i) (settled : IsSettled i) (bounded : IsBounded i) (seats : List Seat)
    (stations : List (Member Living LivingNode)) (ground : AreGround i seats stations) where
  abbrev Through : List (Member Living LivingNode) → Wires → Type 0
  Through now w = IsThrough i ok settled bounded seats stations ground (Unit {0}) now w

  abbrev Ticked : List (Member Living LivingNode) → Type 0
  Ticked now = AreTicked i ok settled bounded seats stations ground (Unit {0}) now

  -- each row of each router is fresh, or promised
  abbrev pub AreBright : List (Member Living LivingNode) → Wires → Type 0
  AreBright now w =
      (k : ℕ) (a b : Living) (ea : At stations k (RouterMember a)) → At now k (RouterMember b)
      → (n : ℕ) (x : Row) → At (ground k (RouterMember a) ea).x.rows n x → IsFreshAt n b.router.routes ⊎ IsPromise i w k x

  module _ (before now : List (Member Living LivingNode)) (old new : Wires) (h : Through before old) (t : IsTaken before now old new) where
    heard : (p : Pair) (added : List Output) → Contains (pending_on old.cabling) p → p.seat.station ≡ t.station
        → EitherHears RouterHears NodeHears t.by.m (heard_by p) added t.by.after → (a : Member Living LivingNode) → At stations t.station a
        → Each IsPlainOutput added × IsLike i t.station a t.by.after
        × StaysFresh t.by.m t.by.after
    heard p added there of hears a ea =
        let has = contained_at (pending_on old.cabling) p there in
        let seat = seat_hears old.cabling.seats (transcript old.cabling) p has in
        hears_alike i ok settled bounded seats t.station p (subst (λ s. Has s p.seat) h.wires.0 seat.0) of seat.1 a t.by.m t.by.after
        (ground t.station a ea) added (h.wires.1.pending p has) (h.alike t.station a t.by.m ea t.by.there) hears

    pub step : IsFineTaking (IsToldOf i) (Unit {0}) t.stamp t.station old.cabling new.cabling
    step =
        let low = at_within before t.station t.by.m t.by.there in
        let many = h.count in
        let a = at_below stations t.station (omega (arith, low, many)) in
        takes_step (IsToldOf i) (Unit {0}) t.stamp t.station (ports_of t.by.m) _ old new h.wires.2 h.wires.1 t.by.does
        (λ p added there stamp of hears. (heard p added there of hears a.0 a.1).0)

    still : (k : ℕ) (x : Row) (pr : IsPromise i old k x)
        → ((pr.p.frame.stamp ≡ t.stamp) × (pr.p.seat.station ≡ t.station)) ⊎ IsPromise i new k x
    still k x pr =
        elim (take_stays old.cabling.seats (transcript old.cabling) step.rest t.stamp t.station pr.p pr.waits (step.calm tt)) [
          | inl e ↦ inl e
          | inr w ↦
              inr (record {
                p = pr.p;
                waits =
                    subst (λ s. Has (pending s (transcript new.cabling)) pr.p) (sym step.seats)
                    (subst (λ l. Has (pending old.cabling.seats l) pr.p) (sym step.grown) w);
                to = pr.to;
                telling = pr.telling;
              })
        ]

    -- the router that took a frame
    at_taker : ArePutOnce (happened old) → (a b c : Living) (ea : At stations t.station (RouterMember a)) → t.by.m ≡ RouterMember b
        → t.by.after ≡ RouterMember c → (n : ℕ) (x : Row) → At (ground t.station (RouterMember a) ea).x.rows n x
        → IsFreshAt n b.router.routes ⊎ IsPromise i old t.station x → IsFreshAt n c.router.routes ⊎ IsPromise i new t.station x
    at_taker once a b c ea mb mc n x ex (inl fresh) =
        let took = t.by.does.2.took in
        let s = (heard took.pair took.added took.was_pending took.of_station took.heard (RouterMember a) ea).2 in
        let w = subst (λ z. StaysFresh (RouterMember b) z) mc (subst (λ z. StaysFresh z t.by.after) mb s) in
        inl (w.1 n fresh)
    at_taker once a b c ea mb mc n x ex (inr pr) =
        elim (still t.station x pr) [
          | inr next ↦ inr next
          | inl e ↦
              let took = t.by.does.2.took in
              let q = took.pair in
              let has = contained_at (pending_on old.cabling) q took.was_pending in
              let frame : pr.p.frame ≡ q.frame =
              same_frame old.cabling.seats (transcript old.cabling) pr.p q once pr.waits has (e.0 ∙ sym took.of_stamp) in
              let telling : IsTelling i x q.frame = subst (IsTelling i x) frame pr.telling in
              let seat = seat_hears old.cabling.seats (transcript old.cabling) q has in
              let like = subst (λ z. IsLike i t.station (RouterMember a) z) mb (h.alike t.station (RouterMember a) t.by.m ea t.by.there) in
              let hears : RouterHears b (heard_by q) took.added c =
              subst (λ z. EitherHears RouterHears NodeHears (RouterMember b) (heard_by q) took.added z) mc
              (subst (λ z. EitherHears RouterHears NodeHears z (heard_by q) took.added t.by.after) mb took.heard) in
              let g = ground t.station (RouterMember a) ea in
              inl (router_refreshes i ok settled bounded seats t.station q (subst (λ s. Has s q.seat) h.wires.0 seat.0) took.of_station seat.1 a b c g took.added
              telling.told like.0 (like.1 g.x g.x_at) hears n x ex telling.j telling.d telling.d_at telling.start telling.far)
        ]

    abbrev KeepsAt : Living → Living → ℕ → Type 0
    KeepsAt a c z =
        (ea : At stations z (RouterMember a)) → At now z (RouterMember c) → (n : ℕ) (x : Row) → At (ground z (RouterMember a) ea).x.rows n x
        → ((b : Living) → At before z (RouterMember b) → IsFreshAt n b.router.routes ⊎ IsPromise i old z x)
        → IsFreshAt n c.router.routes ⊎ IsPromise i new z x

    at_station : ArePutOnce (happened old) → (a c : Living) → KeepsAt a c t.station
    at_station once a c ea ec n x ex bright = by t.by.m refl
      where
        after : t.by.after ≡ RouterMember c
        after =
            at_one (slice_set before t.station t.by.after) t.station t.by.after (RouterMember c) (get_set before t.station t.by.after t.by.m t.by.there)
            (subst (λ l. At l t.station (RouterMember c)) t.by.set ec)

        by : (m : Member Living LivingNode) → t.by.m ≡ m → IsFreshAt n c.router.routes ⊎ IsPromise i new t.station x
        by (RouterMember b) mb =
            at_taker once a b c ea mb after n x ex (bright b (subst (At before t.station) mb t.by.there))
        by (NodeMember b) mb =
            let took = t.by.does.2.took in
            absurd (subst (λ z. EitherHears RouterHears NodeHears (NodeMember b) (heard_by took.pair) took.added z) after
            (subst (λ z. EitherHears RouterHears NodeHears z (heard_by took.pair) took.added t.by.after) mb took.heard))

    pub kept : ArePutOnce (happened old) → AreBright before old → AreBright now new
    kept once bright k a c ea ec n x ex =
        elim (cases_eq k t.station) [
          | inl here ↦
              subst (KeepsAt a c) (sym here) (at_station once a c) ea ec n x ex (λ b eb. bright k a b ea eb n x ex)
          | inr other ↦
              let same : At before k (RouterMember c) =
              sym (get_set_other before t.station k t.by.after (λ s. absurd (other s))) ∙ subst (λ l. At l k (RouterMember c)) t.by.set ec in
              by_other other (bright k a c ea same n x ex)
        ]
      where
        by_other : (k ≢ t.station) → IsFreshAt n c.router.routes ⊎ IsPromise i old k x → IsFreshAt n c.router.routes ⊎ IsPromise i new k x
        by_other other (inl fresh) = inl fresh
        by_other other (inr pr) =
            elim (still k x pr) [
              | inr next ↦ inr next
              | inl e ↦ absurd (other (sym pr.to ∙ e.1))
            ]

  -- while frames are taken
  pub all_kept : (n : ℕ) (before now : List (Member Living LivingNode)) (old new : Wires) → Through before old → Ticked before
      → AreTaken n before now old new → ArePutOnce (happened new) → AreBright before old → AreBright now new
  all_kept zero before now old new h ticked t once bright =
      subst (λ l. AreBright l new) (sym t.0) (subst (AreBright before) (sym t.1) bright)
  all_kept (suc n) before now old new h ticked (mid_stations, mid, first, last) once bright =
      let w = all_taken i ok settled bounded seats stations ground (Unit {0}) n before mid_stations old mid h ticked first in
      let s = step mid_stations now mid new w.0 last in
      let once_mid : ArePutOnce (happened mid) = once_front (happened mid) (Took last.stamp last.station ∷ s.rest) (subst ArePutOnce s.grown once) in
      kept mid_stations now mid new w.0 last once_mid (all_kept n before mid_stations old mid h ticked first once_mid bright)

  -- when nothing is pending, all rows are fresh
  pub all_fresh : (now : List (Member Living LivingNode)) (w : Wires) → pending_on w.cabling ≡ [] → AreBright now w
      → (k : ℕ) (a b : Living) (ea : At stations k (RouterMember a)) → At now k (RouterMember b)
      → (n : ℕ) (x : Row) → At (ground k (RouterMember a) ea).x.rows n x → IsFreshAt n b.router.routes
  all_fresh now w none bright k a b ea eb n x ex = by (bright k a b ea eb n x ex)
    where
      by : IsFreshAt n b.router.routes ⊎ IsPromise i w k x → IsFreshAt n b.router.routes
      by (inl fresh) = fresh
      by (inr pr) = let e = subst (λ l. slice_get l pr.waits.0 ≡ Some pr.p) none pr.waits.1 in absurd cc
