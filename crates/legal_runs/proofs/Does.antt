-- The counts of bodies that the entries of a leg or a fate add.
use Rattle.std.proofs.Common.{◌≡◌, ◌≢◌, ℕ, ◌+◌, ◌≤◌, Bool, true, false, not, ◌&&◌, ◌==◌, List, [], ◌∷◌, Some, None, filter}
use Rattle.std.proofs.Common.{refl, sym, ap, ◌∙◌, subst, arith, append-nil, true≢false}
use Rattle.at_base.proofs.Texts.{same_bytes_is}
use Rattle.std.specs.List.{AllByRecursion as Each}
use Rattle.std.proofs.lemmas.Bool.{and_left, false_from_ne_true}
use Rattle.at_base.specs.Text.{same_bytes}
use Rattle.at_base.specs.declared.address.Hw.{Hw}
use Rattle.ddp.specs.Bodies.{body, hops, target}
use Rattle.table_image.specs.Internet.{Internet}
use Rattle.audit.specs.Routing.{distance, home}
use Rattle.audit.specs.Rules.{Passes}
use Rattle.table_image.specs.Seats.{Seat as PlaceOf, seats}
use Rattle.station.specs.declared.output.DropCause.TheVariants.{HopLimit, NoRoute}
use Rattle.cable_model.specs.declared.entry.How.{How}
use Rattle.station.specs.declared.heard.Kind.TheVariants.{Ddp}
use Rattle.cable_model.specs.declared.seat.Seat.{Seat}
use Rattle.cable_model.specs.Pending.{Pair, is_heard, pairs, pairs_of}
use Rattle.cable_model.specs.Transcript.{Entry, Frame, Put, Reached, Dropped, count, one}
use Rattle.cable_model.proofs.Counting.{At, count_none, each_all, each_map, each_more}
use Rattle.legal_runs.specs.Counts.{carries, sent}
use Rattle.legal_runs.specs.Legs.{Leg, is_copy, is_datagram, is_unicast, leg_bytes}
use Rattle.legal_runs.specs.Stations.{cable_seat, cable_seats, has_address, is_on, is_router}
use Rattle.legal_runs.proofs.Frames.{Framed, Whole, body_stays, hops_are, target_stays}
use Rattle.legal_runs.proofs.Seated.{heard_alone}

-- The entry says that the body reached a cable or was dropped.
abbrev pub is_ended : List ℕ → Entry → Bool
is_ended b (Reached cable station how d) = same_bytes b d
is_ended b (Dropped router cause d) = same_bytes b d
is_ended b _ = false

-- How many copies of the body are among the pairs of the entries.
unfoldable pub copies : Internet → List ℕ → List Entry → ℕ
copies i b es = count (carries i b) (pairs (cable_seats i) es)

-- The entry is right: a datagram that reached a cable is at home there, and one that was dropped has no home.
abbrev pub IsRight : Internet → Entry → Type 0
IsRight i (Reached cable station how d) = home i (target d).net ≡ Some cable
IsRight i (Dropped router NoRoute d) = home i (target d).net ≡ None
IsRight i (Dropped router HopLimit d) = ⊥
IsRight i _ = Unit {0}

-- A copy to a listed network has enough hops left.
abbrev pub HopsFine : Internet → Pair → Type 0
HopsFine i p =
    (c : ℕ) → is_copy i p ≡ true → home i (target p.frame.bytes).net ≡ Some c
    → hops p.frame.bytes + distance i p.seat.station (target p.frame.bytes).net ≤ 14

-- An entry of one datagram: it reached a cable of which A holds, or a station put it, with hop count `hop`, on a cable
-- that the station is on.
abbrev pub IsOf : Internet → (ℕ → Type 0) → List ℕ → ℕ → Entry → Type 0
IsOf i A d hop (Reached cable station how b) = (b ≡ d) × A cable
IsOf i A d hop (Put f) = (is_on i f.sender f.cable ≡ true) × (body f.bytes ≡ d) × (f.kind ≡ Ddp) × (hops f.bytes ≡ hop)
IsOf i A d hop (Dropped router cause b) = Unit {0}
IsOf i A d hop _ = ⊥

-- A copy of the datagram goes to a router of which N holds.
abbrev pub IsNext : Internet → (ℕ → Type 0) → List ℕ → Pair → Type 0
IsNext i N d p = is_copy i p ≡ true → N p.seat.station × (target p.frame.bytes ≡ target d)

-- The entries are those of one datagram: its body ends once, or is under way once to a router of which N holds.
pub record Does (i : Internet) (N A : ℕ → Type 0) (d : List ℕ) (hop : ℕ) (es : List Entry) : Type 0 where
  pub adds : (b : List ℕ) → (target b).net ≢ 0 → count (is_ended b) es + copies i b es ≡ one (same_bytes b d)
  pub unsent : (b : List ℕ) → sent b es ≡ 0
  pub right : Each (IsRight i) es
  pub hops_left : Each (HopsFine i) (pairs (cable_seats i) es)
  pub framed : Each (λ p. Framed p.frame.bytes) (pairs (cable_seats i) es)
  pub goes_to : Each (IsNext i N d) (pairs (cable_seats i) es)
  pub of : Each (IsOf i A d hop) es

-- Equal bytes have the same target.
same_target : (b d : List ℕ) → (target b).net ≢ 0 → (target d).net ≡ 0 → same_bytes b d ≡ false
same_target b d some none =
    false_from_ne_true (same_bytes b d) (λ e. some (ap (λ x. (target x).net) (same_bytes_is b d e) ∙ none))

module _ (i : Internet) (ok : Passes i) (N A : ℕ → Type 0) where
  -- ---- Frames that are no copy for anybody

  pairs_put : (f : Frame) → pairs (cable_seats i) (Put f ∷ []) ≡ pairs_of (cable_seats i) (Put f)
  pairs_put f = append-nil (pairs_of (cable_seats i) (Put f))

  -- The frame is no copy for the stations that hear it.
  abbrev pub IsNoCopy : Frame → Type 0
  IsNoCopy f = Each (λ p. is_copy i p ≡ false) (pairs_of (cable_seats i) (Put f))

  -- The frame is no copy for any seat.
  pub none_at_all : (f : Frame) → ((s : Seat) → is_copy i (record { frame = f; seat = s }) ≡ false) → IsNoCopy f
  none_at_all f none =
      each_map (λ p. is_copy i p ≡ false) (λ (s : Seat). record { frame = f; seat = s }) (filter (is_heard f) (cable_seats i))
      (each_all _ _ none)

  -- The frame is no copy for the only seat that hears it.
  pub none_alone : (f : Frame) (k : ℕ) (s : PlaceOf) → At (seats i) k s → s.cable ≡ f.cable → s.hardware.0 ≡ f.to.0
      → is_copy i (record { frame = f; seat = cable_seat i s }) ≡ false → IsNoCopy f
  none_alone f k s at cable hw none =
      subst (Each (λ p. is_copy i p ≡ false)) (sym (heard_alone i ok f k s at cable hw)) (none, tt)

  no_copies : (f : Frame) → IsNoCopy f → (b : List ℕ) → copies i b (Put f ∷ []) ≡ 0
  unfolding copies
  no_copies f none b =
      ap (count (carries i b)) (pairs_put f)
      ∙ count_none (carries i b) (pairs_of (cable_seats i) (Put f))
      (each_more (λ p. is_copy i p ≡ false) (λ p. carries i b p ≡ false) (pairs_of (cable_seats i) (Put f))
      (λ p e. and_left (is_copy i p) (same_bytes b (body p.frame.bytes)) e) none)

  no_hops : (f : Frame) → IsNoCopy f → Each (HopsFine i) (pairs (cable_seats i) (Put f ∷ []))
  no_hops f none =
      subst (Each (HopsFine i)) (sym (pairs_put f))
      (each_more (λ p. is_copy i p ≡ false) (HopsFine i) (pairs_of (cable_seats i) (Put f))
      (λ p e c copy. absurd (true≢false (sym copy ∙ e))) none)

  no_next : (f : Frame) (d : List ℕ) → IsNoCopy f → Each (IsNext i N d) (pairs (cable_seats i) (Put f ∷ []))
  no_next f d none =
      subst (Each (IsNext i N d)) (sym (pairs_put f))
      (each_more (λ p. is_copy i p ≡ false) (IsNext i N d) (pairs_of (cable_seats i) (Put f))
      (λ p e copy. absurd (true≢false (sym copy ∙ e))) none)

  -- ---- Datagrams that reached a cable or were dropped

  pub does_reach : (cable station : ℕ) (how : How) (d : List ℕ) (hop : ℕ) → home i (target d).net ≡ Some cable → A cable
      → Does i N A d hop (Reached cable station how d ∷ [])
  unfolding copies
  does_reach cable station how d hop home_is there = record {
    adds = λ b some. omega arith;
    unsent = λ b. refl;
    right = (home_is, tt);
    hops_left = tt;
    framed = tt;
    goes_to = tt;
    of = ((refl, there), tt);
  }

  pub does_drop : (router : ℕ) (d : List ℕ) (hop : ℕ) → home i (target d).net ≡ None → Does i N A d hop
      (Dropped router NoRoute d ∷ [])
  unfolding copies
  does_drop router d hop no_home = record {
    adds = λ b some. omega arith;
    unsent = λ b. refl;
    right = (no_home, tt);
    hops_left = tt;
    framed = tt;
    goes_to = tt;
    of = (tt, tt);
  }

  -- ---- Frames that are put

  module _ (stamp : ℕ) (l : Leg) (whole : Whole l.body) (few : l.hops ≤ 15)
      (seated : is_on i l.station l.cable ≡ true) where
    -- The frame of the leg to a hardware address.
    abbrev pub frame_to : Hw → Frame
    frame_to to =
        record { stamp = stamp; cable = l.cable; sender = l.station; to = to; kind = Ddp; bytes = leg_bytes l }

    pub frame_body : body (leg_bytes l) ≡ l.body
    frame_body = body_stays l.hops few l.body ∙ whole.same

    is_framed : (to : Hw) → Each (λ p. Framed p.frame.bytes) (pairs (cable_seats i) (Put (frame_to to) ∷ []))
    is_framed to =
        subst (Each (λ p. Framed p.frame.bytes)) (sym (pairs_put (frame_to to)))
        (each_map (λ p. Framed p.frame.bytes) (λ (s : Seat). record { frame = frame_to to; seat = s })
        (filter (is_heard (frame_to to)) (cable_seats i))
        (each_all _ _ (λ s. record { inside = l.body; count = l.hops; whole = whole; few = few; is = refl })))

    -- Whether the frame is a copy for a seat.
    pub copy_is : (to : Hw) (s : Seat) → is_copy i (record { frame = frame_to to; seat = s })
        ≡ (is_datagram Ddp && is_unicast to && is_router i s.station && not ((target l.body).net == 0)
        && not (has_address i s.station s.cable (target l.body)))
    copy_is to s =
        ap (λ a. is_datagram Ddp && is_unicast to && is_router i s.station && not (a.net == 0) && not (has_address i s.station s.cable a))
        (target_stays l.hops few l.body)

    -- No frame, and the datagram reached the cable.
    pub does_end : (how : How) → home i (target l.body).net ≡ Some l.cable → A l.cable
        → Does i N A l.body l.hops (Reached l.cable l.station how (body (leg_bytes l)) ∷ [])
    does_end how home_is there =
        subst (λ b. Does i N A l.body l.hops (Reached l.cable l.station how b ∷ [])) (sym frame_body)
        (does_reach l.cable l.station how l.body l.hops home_is there)

    -- A frame without copies, after the datagram reached the cable.
    pub does_arrive : (how : How) (to : Hw) → home i (target l.body).net ≡ Some l.cable → A l.cable
        → IsNoCopy (frame_to to)
        → Does i N A l.body l.hops (Reached l.cable l.station how (body (leg_bytes l)) ∷ Put (frame_to to) ∷ [])
    unfolding copies
    does_arrive how to home_is there none =
        subst (λ b. Does i N A l.body l.hops (Reached l.cable l.station how b ∷ Put (frame_to to) ∷ []))
        (sym frame_body) (record {
          adds = λ b some. let rest = no_copies (frame_to to) none b in omega (arith, rest);
          unsent = λ b. refl;
          right = (home_is, (tt, tt));
          hops_left = no_hops (frame_to to) none;
          framed = is_framed to;
          goes_to = no_next (frame_to to) l.body none;
          of = ((refl, there), ((seated, frame_body, refl, hops_are l.hops few l.body whole.long), tt));
        })

    -- A frame whose datagram is for this cable only.
    pub does_stay : (to : Hw) → (target l.body).net ≡ 0 → Does i N A l.body l.hops (Put (frame_to to) ∷ [])
    unfolding copies
    does_stay to zero_net = record {
      adds = λ b some.
          let rest = no_copies (frame_to to) none b in
          let other = ap one (same_target b l.body some zero_net) in
          omega (arith, rest, other);
      unsent = λ b. refl;
      right = (tt, tt);
      hops_left = no_hops (frame_to to) none;
      framed = is_framed to;
      goes_to = no_next (frame_to to) l.body none;
      of = ((seated, frame_body, refl, hops_are l.hops few l.body whole.long), tt);
    }
      where
        last : (a b : Bool) → (a && false && b) ≡ false
        last true b = refl
        last false b = refl

        none : IsNoCopy (frame_to to)
        none =
            none_at_all (frame_to to) (λ s.
            copy_is to s
            ∙ (ap (λ n. is_datagram Ddp && is_unicast to && is_router i s.station && not (n == 0) && not
            (has_address i s.station s.cable (target l.body))) zero_net
            ∙ last (is_datagram Ddp && is_unicast to && is_router i s.station) (not (has_address i s.station s.cable (target l.body)))))

    -- A copy for the router that has this seat.
    pub does_go : (k : ℕ) (s : PlaceOf) → At (seats i) k s → s.cable ≡ l.cable
        → is_copy i (record { frame = frame_to s.hardware; seat = cable_seat i s }) ≡ true
        → ((c : ℕ) → home i (target l.body).net ≡ Some c → l.hops + distance i s.station (target l.body).net ≤ 14) → N s.station
        → Does i N A l.body l.hops (Put (frame_to s.hardware) ∷ [])
    unfolding copies
    does_go k s at cable copy near next = record {
      adds = λ b some.
          let here = ap (count (carries i b)) alone in
          let value : one (carries i b only) ≡ one (same_bytes b l.body) =
          ap (λ v. one (v && same_bytes b (body (leg_bytes l)))) copy ∙ ap (λ x. one (same_bytes b x)) frame_body in
          omega (arith, here, value);
      unsent = λ b. refl;
      right = (tt, tt);
      hops_left = subst (Each (HopsFine i)) (sym alone) ((λ c is home_is. fine c home_is), tt);
      framed = is_framed s.hardware;
      goes_to = subst (Each (IsNext i N l.body)) (sym alone) ((λ is. (next, target_stays l.hops few l.body)), tt);
      of = ((seated, frame_body, refl, hops_are l.hops few l.body whole.long), tt);
    }
      where
        only : Pair
        only = record { frame = frame_to s.hardware; seat = cable_seat i s }

        alone : pairs (cable_seats i) (Put (frame_to s.hardware) ∷ []) ≡ only ∷ []
        alone = pairs_put (frame_to s.hardware) ∙ heard_alone i ok (frame_to s.hardware) k s at cable refl

        fine : (c : ℕ) → home i (target (leg_bytes l)).net ≡ Some c
            → hops (leg_bytes l) + distance i s.station (target (leg_bytes l)).net ≤ 14
        fine c home_is =
            let same = target_stays l.hops few l.body in
            let count_is = hops_are l.hops few l.body whole.long in
            let far = near c (ap (λ a. home i a.net) (sym same) ∙ home_is) in
            let dist = ap (λ a. distance i s.station a.net) same in
            omega (arith, count_is, far, dist)
