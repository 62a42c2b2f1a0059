-- A leg with resolution stands for a plain leg.
use Rattle.std.proofs.Common.{◌≡◌, ◌⊎◌, inl, inr, ◌≤◌, ◌-◌, ℕ, zero, suc, Bool, true, false, cond, if◌then◌else◌, nat_lt, ◌&&◌, ◌==◌}
use Rattle.std.proofs.Common.{List, [], ◌∷◌, ◌++◌, Option, Some, None, Contains, refl, sym, ap, ◌∙◌, subst, arith, append-nil, is_some, length}
use Rattle.std.proofs.Common.{eqb-true}
use Rattle.std.specs.List.{list_any}
use Rattle.std.proofs.lemmas.Bool.{and_parts}
use Rattle.aarp.specs.Packets.{packet, written}
use Rattle.aarp.specs.declared.packet.Function.TheVariants.{Request, Response}
use Rattle.at_base.specs.Address.{same_address}
use Rattle.at_base.specs.Limits.{max_held}
use Rattle.at_base.specs.Multicast.{all_hw, group_hw}
use Rattle.at_base.specs.Spelling.{bytes_of}
use Rattle.at_base.specs.declared.address.Addr.{Addr}
use Rattle.at_base.specs.declared.address.Hw.{Hw}
use Rattle.ddp.specs.Bodies.{body, target}
use Rattle.table_image.specs.Internet.{Internet}
use Rattle.table_image.specs.Seats.{Seat, seat_at, seats}
use Rattle.audit.specs.Routing.{home}
use Rattle.audit.specs.Rules.{Passes}
use Rattle.station.specs.declared.heard.Kind.TheVariants.{Aarp, Ddp}
use Rattle.station.specs.declared.output.Next.{Next}
use Rattle.station.specs.declared.output.Next.TheVariants as next
use Rattle.cable_model.specs.Holdings.{is_open, still_held}
use Rattle.cable_model.specs.Outcomes.{Held, Sender, framed, held_by, held_next, leg as leg_on, to_other, to_target}
use Rattle.cable_model.specs.Outgoing.{asked, held_entries, let_go, losses}
use Rattle.cable_model.specs.Transcript.{Entry, Frame, Holding, Put, Reached, Lost, Hold, next_stamp}
use Rattle.cable_model.specs.declared.entry.How.{How}
use Rattle.cable_model.specs.declared.entry.How.TheVariants as how
use Rattle.cable_model.specs.declared.resolve.Found.{Found}
use Rattle.cable_model.specs.declared.resolve.Found.TheVariants.{At, Later}
use Rattle.cable_model.proofs.Stamps.{above_next, next_after}
use Rattle.legal_runs.specs.Legs.{Leg, found_at, leg, leg_bytes, places_of, sender}
use Rattle.legal_runs.proofs.Legs.{same_address_is}
use Rattle.resolved_runs.specs.Fitting.{SeatsFit}
use Rattle.resolved_runs.specs.Mapped.{found_by, known, places_after}
use Rattle.resolved_runs.specs.Plain.{plain_hold, plain_how}
use Rattle.resolved_runs.specs.Resolved.{held_at, held_by_port, request_by, request_bytes, resolved_leg, shed_of, station_seats}
use Rattle.resolved_runs.specs.Resolved.{waiting_entries}
use Rattle.resolved_runs.proofs.Elements.{In, any_in, contained, kept_in}
use Rattle.resolved_runs.proofs.Fits.{Fits, packet_begins, packet_is, request_fits}
use Rattle.resolved_runs.proofs.Steps.{Done, done_none, done_then, done_told, one_aarp, one_held, one_lost, one_new, one_reached, still_more}
use Rattle.resolved_runs.proofs.Told.{IsPacket, IsTold}
use Rattle.resolved_runs.proofs.Truths.{known_true}

-- What is needed of a leg: hops don't change its datagram's target, and its addresses fit.
pub record IsReady (l : Leg) : Type 0 where
  pub inside : target (body (leg_bytes l)) ≡ target (leg_bytes l)
  pub fits : Fits (target (leg_bytes l))
  pub next : (a : Addr) → l.next ≡ next.Station a → Fits a

module _ (i : Internet) (ok : Passes i) (fit : SeatsFit i) where
  -- ---- A datagram that is held

  -- What is let go is nothing, or a datagram that is held.
  pub shed_is : (u : List Entry) (hs : List Holding) → ((h : Holding) → In hs h → Contains (still_held u) h)
      → (let_go u (shed_of hs) ≡ []) ⊎ ((h : Holding) × Contains (still_held u) h × (let_go u (shed_of hs) ≡ Lost h.stamp ∷ []))
  shed_is u [] held = inl refl
  shed_is u (h ∷ hs) held = by (nat_lt (length hs) (max_held - 1))
    where
      may_lose : (b : Bool) → (losses (cond b (Some h.stamp) None) ≡ [])
          ⊎ ((g : Holding) × Contains (still_held u) g × (losses (cond b (Some h.stamp) None) ≡ Lost g.stamp ∷ []))
      may_lose true = inr (h, held h (zero, refl), refl)
      may_lose false = inl refl

      by : (b : Bool) → (let_go u (if b then None else Some h.stamp) ≡ [])
          ⊎ ((g : Holding) × Contains (still_held u) g × (let_go u (if b then None else Some h.stamp) ≡ Lost g.stamp ∷ []))
      by true = inl refl
      by false = may_lose (is_open u h.stamp)

  -- A request that goes out is a packet that fits.
  ask_is : (u : List Entry) (station : ℕ) (w : Held) (stamp : ℕ) → Fits w.next
      → (asked (record { stamp = stamp; cable = w.cable; station = station }) (held_by_port i u station w).ask ≡ [])
      ⊎ ((f : Frame) × (f.kind ≡ Aarp) × (f.stamp ≡ stamp) × IsPacket i f
      × (asked (record { stamp = stamp; cable = w.cable; station = station }) (held_by_port i u station w).ask ≡ Put f ∷ []))
  ask_is u station w stamp fits = by (list_any (λ (h : Holding). same_address w.next h.next) (held_at u station w.cable))
    where
      s : Sender
      s = record { stamp = stamp; cable = w.cable; station = station }

      seat : (ss : List Seat)
          → ((x : Seat) → In ss x → In (seats i) x × ((x.station == station && x.cable == w.cable) ≡ true)) → (asked s (request_bytes ss w.next) ≡ [])
          ⊎ ((f : Frame) × (f.kind ≡ Aarp) × (f.stamp ≡ stamp) × IsPacket i f × (asked s (request_bytes ss w.next) ≡ Put f ∷ []))
      seat [] there = inl refl
      seat (x ∷ ss) there =
          let found = there x (zero, refl) in
          let at = found.0 in
          let good = request_fits i ok fit at.0 x w.next at.1 fits in
          let start = packet_begins (request_by x w.next) in
          inr (
            record { stamp = stamp; cable = w.cable; sender = station; to = all_hw; kind = Aarp; bytes = bytes_of packet (written (request_by x w.next)) },
            refl,
            refl,
            record {
              sent = request_by x w.next;
              read = packet_is (request_by x w.next) good;
              fits = good;
              by = record {
                seat = x;
                there = at;
                station = eqb-true x.station station (and_parts (x.station == station) (x.cable == w.cable) found.1).0;
                cable = eqb-true x.cable w.cable (and_parts (x.station == station) (x.cable == w.cable) found.1).1;
                address = refl;
                hardware = refl;
              };
              on = any_in (λ (s : Seat). s.station == station && s.cable == w.cable) (seats i) x at found.1;
              answers = λ e. absurd (no_response e);
              rest = start.0;
              begins = start.1;
            },
            refl,
          )
        where
          no_response : Request ≡ Response → ⊥
          no_response e = cc

      by : (b : Bool) → (asked s (if b then None else request_bytes (station_seats i station w.cable) w.next) ≡ [])
          ⊎ ((f : Frame) × (f.kind ≡ Aarp) × (f.stamp ≡ stamp) × IsPacket i f
          × (asked s (if b then None else request_bytes (station_seats i station w.cable) w.next) ≡ Put f ∷ []))
      by true = inl refl
      by false =
          seat (station_seats i station w.cable)
          (λ x there. kept_in (λ (s : Seat). s.station == station && s.cable == w.cable) (seats i) x there)

  -- The datagram with which a port's holding begins.
  abbrev held_as : List Entry → ℕ → Held → Holding
  held_as u station w =
      record { stamp = next_stamp u; cable = w.cable; station = station; next = w.next; bytes = w.bytes }

  of_shed : (v xs : List Entry) → IsTold i v
      → (xs ≡ []) ⊎ ((h : Holding) × Contains (still_held v) h × (xs ≡ Lost h.stamp ∷ []))
      → Done i v xs [] × (next_stamp (v ++ xs) ≡ next_stamp v)
  of_shed v xs told (inl none) =
      (subst (λ x. Done i v x []) (sym none) (done_none i v), ap (λ x. next_stamp (v ++ x)) none ∙ ap next_stamp (append-nil v))
  of_shed v xs told (inr (h, there, same)) = (
    subst (λ x. Done i v x []) (sym same) (one_lost i ok v h told there),
    ap (λ x. next_stamp (v ++ x)) same ∙ next_after v (Lost h.stamp),
  )

  of_ask : (v ys : List Entry) (stamp : ℕ) → next_stamp v ≤ stamp
      → (ys ≡ []) ⊎ ((f : Frame) × (f.kind ≡ Aarp) × (f.stamp ≡ stamp) × IsPacket i f × (ys ≡ Put f ∷ []))
      → Done i v ys []
  of_ask v ys stamp le (inl none) = subst (λ x. Done i v x []) (sym none) (done_none i v)
  of_ask v ys stamp le (inr (f, kind, same, packet, is)) =
      subst (λ x. Done i v x []) (sym is) (one_aarp i v f kind (omega (arith, le, same)) packet)

  -- What was held before one more is held is held then.
  shed_later : (u : List Entry) (h : Holding) (xs : List Entry)
      → (xs ≡ []) ⊎ ((g : Holding) × Contains (still_held u) g × (xs ≡ Lost g.stamp ∷ []))
      → (xs ≡ []) ⊎ ((g : Holding) × Contains (still_held (u ++ Hold h ∷ [])) g × (xs ≡ Lost g.stamp ∷ []))
  shed_later u h xs (inl none) = inl none
  shed_later u h xs (inr (g, there, same)) = inr (g, still_more i u (Hold h) g there refl, same)

  pub held_done : (u : List Entry) (station : ℕ) (w : Held) → IsTold i u → Fits w.next → Fits (target w.bytes)
      → Done i u (held_entries u station w (held_by_port i u station w)) (plain_hold (held_as u station w) (seat_at i w.cable w.next))
  held_done u station w told next fits =
      let h : Holding = held_as u station w in
      let ps : List Entry = plain_hold h (seat_at i w.cable w.next) in
      let first : Done i u (Hold h ∷ []) ps = one_held i u h (omega arith) next fits in
      let v : List Entry = u ++ Hold h ∷ [] in
      let told_v : IsTold i v = done_told i u (Hold h ∷ []) ps told first in
      let n : next_stamp v ≡ suc (next_stamp u) = next_after u (Hold h) ∙ above_next (next_stamp u) in
      let xs : List Entry = let_go u (shed_of (held_at u station w.cable)) in
      let lost = of_shed v xs told_v (shed_later u h xs (shed_is u (held_at u station w.cable)
      (λ g there. contained (still_held u) g
      (kept_in (λ (d : Holding). d.station == station && d.cable == w.cable) (still_held u) g there).0))) in
      let ys : List Entry =
      asked (record { stamp = suc (next_stamp u); cable = w.cable; station = station }) (held_by_port i u station w).ask in
      let e = lost.1 in
      let asks : Done i (v ++ xs) ys [] = of_ask (v ++ xs) ys (suc (next_stamp u)) (omega (arith, e, n))
      (ask_is u station w (suc (next_stamp u)) next) in
      let rest : Done i v (xs ++ ys) [] = done_then i v xs [] ys [] lost.0 asks in
      subst (Done i u (Hold h ∷ (xs ++ ys))) (append-nil ps) (done_then i u (Hold h ∷ []) ps (xs ++ ys) [] first rest)

  -- ---- Legs

  -- The entries of a leg for this receiver.
  abbrev on : List Entry → Leg → Next → List Entry
  on u l n =
      leg_on (places_after i u l.station) (sender (next_stamp u) l) n (leg_bytes l)
      ++ waiting_entries i (u ++ leg_on (places_after i u l.station) (sender (next_stamp u) l) n (leg_bytes l)) l.station
      (held_next (places_after i u l.station) l.cable n (leg_bytes l))

  abbrev plain_on : List Entry → Leg → Next → List Entry
  plain_on u l n = leg_on (places_of i) (sender (next_stamp u) l) n (leg_bytes l)

  -- The entries of a datagram that goes out, with the one that says that it reached its cable.
  reached_put : (u : List Entry) (l : Leg) (how : How) (hw : Hw) → IsReady l
      → plain_how how (seat_at i l.cable (target (body (leg_bytes l)))) ≡ how
      → Done i u (Reached l.cable l.station how (body (leg_bytes l)) ∷ framed (sender (next_stamp u) l) hw Ddp (leg_bytes l) ∷ [])
      (Reached l.cable l.station how (body (leg_bytes l)) ∷ framed (sender (next_stamp u) l) hw Ddp (leg_bytes l) ∷ [])
  reached_put u l how hw ready same =
      let r = Reached l.cable l.station how (body (leg_bytes l)) in
      let first : Done i u (r ∷ []) (r ∷ []) =
      subst (λ h. Done i u (r ∷ []) (Reached l.cable l.station h (body (leg_bytes l)) ∷ [])) same
      (one_reached i u l.cable l.station how (body (leg_bytes l))) in
      let n = next_after u r in
      done_then i u (r ∷ []) (r ∷ []) (framed (sender (next_stamp u) l) hw Ddp (leg_bytes l) ∷ [])
      (framed (sender (next_stamp u) l) hw Ddp (leg_bytes l) ∷ []) first
      (one_new i (u ++ r ∷ [])
      (record { stamp = next_stamp u; cable = l.cable; sender = l.station; to = hw; kind = Ddp; bytes = leg_bytes l }) refl
      (omega (arith, n)) ready.fits)

  put_alone : (u : List Entry) (l : Leg) (hw : Hw) → IsReady l
      → Done i u (framed (sender (next_stamp u) l) hw Ddp (leg_bytes l) ∷ []) (framed (sender (next_stamp u) l) hw Ddp (leg_bytes l) ∷ [])
  put_alone u l hw ready =
      one_new i u (record { stamp = next_stamp u; cable = l.cable; sender = l.station; to = hw; kind = Ddp; bytes = leg_bytes l }) refl
      (omega arith) ready.fits

  no_more : (u es ps : List Entry) → Done i u es ps → Done i u (es ++ []) ps
  no_more u es ps d = subst (λ x. Done i u x ps) (sym (append-nil es)) d

  -- A datagram to all stations.
  to_all : (u : List Entry) (l : Leg) → IsReady l → Done i u (on u l next.All) (plain_on u l next.All)
  to_all u l ready = no_more u (plain_on u l next.All) (plain_on u l next.All) (by (is_some (home i (target (leg_bytes l)).net)))
    where
      by : (b : Bool) → Done i u
          (cond b (Reached l.cable l.station how.All (body (leg_bytes l)) ∷ framed (sender (next_stamp u) l) all_hw Ddp (leg_bytes l) ∷ [])
          (framed (sender (next_stamp u) l) all_hw Ddp (leg_bytes l) ∷ []))
          (cond b (Reached l.cable l.station how.All (body (leg_bytes l)) ∷ framed (sender (next_stamp u) l) all_hw Ddp (leg_bytes l) ∷ [])
          (framed (sender (next_stamp u) l) all_hw Ddp (leg_bytes l) ∷ []))
      by true = reached_put u l how.All all_hw ready refl
      by false = put_alone u l all_hw ready

  -- ---- A datagram to one station

  -- The entries where the station is searched with this result.
  abbrev found_on : List Entry → Leg → Addr → Found → List Entry
  found_on u l a f =
      cond (same_address (target (leg_bytes l)) a) (to_target (sender (next_stamp u) l) (leg_bytes l) f)
      (to_other (sender (next_stamp u) l) (leg_bytes l) f)

  -- A datagram to a station whose hardware address is known.
  to_known : (u : List Entry) (l : Leg) (a : Addr) (hw : Hw) → IsReady l
      → Done i u (found_on u l a (At hw) ++ []) (found_on u l a (At hw))
  to_known u l a hw ready = by (same_address (target (leg_bytes l)) a)
    where
      by : (b : Bool) → Done i u
          (cond b (Reached l.cable l.station how.Station (body (leg_bytes l)) ∷ framed (sender (next_stamp u) l) hw Ddp (leg_bytes l) ∷ [])
          (framed (sender (next_stamp u) l) hw Ddp (leg_bytes l) ∷ []) ++ [])
          (cond b (Reached l.cable l.station how.Station (body (leg_bytes l)) ∷ framed (sender (next_stamp u) l) hw Ddp (leg_bytes l) ∷ [])
          (framed (sender (next_stamp u) l) hw Ddp (leg_bytes l) ∷ []))
      by true = reached_put u l how.Station hw ready refl
      by false = put_alone u l hw ready

  -- The datagram that waits for a station.
  abbrev wait_for : Leg → Addr → Held
  wait_for l a = record { cable = l.cable; next = a; bytes = leg_bytes l }

  -- The plain entries of a datagram that is held, where its frame has this stamp.
  plain_reached : (stamp : ℕ) (u : List Entry) (l : Leg) (a : Addr) (o : Option Seat) → stamp ≡ next_stamp u
      → Reached l.cable l.station (plain_how how.Held o) (body (leg_bytes l))
      ∷ plain_hold (record { stamp = stamp; cable = l.cable; station = l.station; next = a; bytes = leg_bytes l }) o
      ≡ to_target (sender (next_stamp u) l) (leg_bytes l) (found_at o)
  plain_reached stamp u l a None same = refl
  plain_reached stamp u l a (Some s) same =
      ap (λ (n : ℕ). Reached l.cable l.station how.Station (body (leg_bytes l)) ∷ framed (sender n l) s.hardware Ddp (leg_bytes l) ∷ []) same

  plain_other : (u : List Entry) (l : Leg) (a : Addr) (o : Option Seat)
      → plain_hold (held_as u l.station (wait_for l a)) o ≡ to_other (sender (next_stamp u) l) (leg_bytes l) (found_at o)
  plain_other u l a None = refl
  plain_other u l a (Some s) = refl

  -- A datagram to a station whose hardware address isn't known.
  to_unknown : (u : List Entry) (l : Leg) (a : Addr) → IsTold i u → IsReady l → Fits a
      → Done i u (found_on u l a Later ++ held_entries (u ++ found_on u l a Later) l.station (wait_for l a)
      (held_by_port i (u ++ found_on u l a Later) l.station (wait_for l a))) (found_on u l a (found_at (seat_at i l.cable a)))
  to_unknown u l a told ready next = by (same_address (target (leg_bytes l)) a) refl
    where
      r : Entry
      r = Reached l.cable l.station how.Held (body (leg_bytes l))

      by : (b : Bool) → same_address (target (leg_bytes l)) a ≡ b
          → Done i u (cond b (r ∷ []) [] ++ held_entries (u ++ cond b (r ∷ []) []) l.station (wait_for l a)
          (held_by_port i (u ++ cond b (r ∷ []) []) l.station (wait_for l a)))
          (cond b (to_target (sender (next_stamp u) l) (leg_bytes l) (found_at (seat_at i l.cable a)))
          (to_other (sender (next_stamp u) l) (leg_bytes l) (found_at (seat_at i l.cable a))))
      by true e =
          let v : List Entry = u ++ r ∷ [] in
          let is : target (body (leg_bytes l)) ≡ a = ready.inside ∙ same_address_is (target (leg_bytes l)) a e in
          let first : Done i u (r ∷ []) (Reached l.cable l.station (plain_how how.Held (seat_at i l.cable a)) (body (leg_bytes l)) ∷ []) =
          subst (λ x. Done i u (r ∷ []) (Reached l.cable l.station (plain_how how.Held (seat_at i l.cable x)) (body (leg_bytes l)) ∷ [])) is
          (one_reached i u l.cable l.station how.Held (body (leg_bytes l))) in
          let told_v : IsTold i v = done_told i u (r ∷ []) _ told first in
          let rest = held_done v l.station (wait_for l a) told_v next ready.fits in
          subst (Done i u (r ∷ held_entries v l.station (wait_for l a) (held_by_port i v l.station (wait_for l a))))
          (plain_reached (next_stamp v) u l a (seat_at i l.cable a) (next_after u r))
          (done_then i u (r ∷ []) _ (held_entries v l.station (wait_for l a) (held_by_port i v l.station (wait_for l a))) _ first rest)
      by false e =
          subst (λ v. Done i u (held_entries v l.station (wait_for l a) (held_by_port i v l.station (wait_for l a)))
          (to_other (sender (next_stamp u) l) (leg_bytes l) (found_at (seat_at i l.cable a)))) (sym (append-nil u))
          (subst (Done i u (held_entries u l.station (wait_for l a) (held_by_port i u l.station (wait_for l a))))
          (plain_other u l a (seat_at i l.cable a)) (held_done u l.station (wait_for l a) told next ready.fits))

  to_station : (u : List Entry) (l : Leg) (a : Addr) → IsTold i u → IsReady l → Fits a → (o : Option Hw)
      → known i u l.station l.cable a ≡ o
      → Done i u (found_on u l a (found_by o) ++ waiting_entries i (u ++ found_on u l a (found_by o)) l.station
      (held_by (found_by o) l.cable a (leg_bytes l))) (found_on u l a (found_at (seat_at i l.cable a)))
  to_station u l a told ready next None knows = to_unknown u l a told ready next
  to_station u l a told ready next (Some hw) knows =
      let s = known_true i ok u told l.cable a hw l.station knows in
      let there : At hw ≡ found_at (seat_at i l.cable a) = ap At s.hardware ∙ sym (ap found_at s.found) in
      subst (λ f. Done i u (found_on u l a (At hw) ++ []) (found_on u l a f)) there (to_known u l a hw ready)

  -- The entries of a leg with resolution stand for those of the plain leg.
  pub leg_done : (u : List Entry) (l : Leg) → IsTold i u → IsReady l → Done i u (resolved_leg i u l) (leg i (next_stamp u) l)
  leg_done u l told ready = by l.next refl
    where
      by : (n : Next) → l.next ≡ n → Done i u (on u l n) (plain_on u l n)
      by (next.Station a) e = to_station u l a told ready (ready.next a e) (known i u l.station l.cable a) refl
      by next.All e = to_all u l ready
      by (next.Group g) e = no_more u (plain_on u l (next.Group g)) (plain_on u l (next.Group g)) (put_alone u l (group_hw g) ready)
