-- After each block of a transcript that is legal with resolution, what is held for stations is asked for.
use Rattle.std.proofs.Common.{◌≡◌, ℕ, Bool, true, false, cond, ◌||◌, ◌&&◌, ◌==◌, List, [], ◌∷◌, ◌++◌, Option, Some, None, Contains}
use Rattle.std.proofs.Common.{refl, sym, ap, ◌∙◌, subst, append_assoc, append-nil, is_some, eqb-true}
use Rattle.std.specs.List.{AllByRecursion as Each}
use Rattle.std.specs.Option.{option_or}
use Rattle.std.proofs.lemmas.Bool.{and_parts, false_from_ne_true}
use Rattle.at_base.specs.Address.{same_address}
use Rattle.at_base.specs.Multicast.{all_hw}
use Rattle.at_base.specs.declared.address.Addr.{Addr}
use Rattle.at_base.specs.declared.address.Hw.{Hw}
use Rattle.ddp.specs.Bodies.{body, hops, target}
use Rattle.table_image.specs.Internet.{Internet}
use Rattle.table_image.specs.Seats.{Seat as PlaceOf}
use Rattle.audit.specs.Routing.{Hand, Here, On, Nowhere, hand, home}
use Rattle.audit.specs.Rules.{Passes}
use Rattle.station.specs.declared.heard.Kind.TheVariants.{Aarp, Ddp}
use Rattle.station.specs.declared.output.DropCause.TheVariants.{HopLimit}
use Rattle.station.specs.declared.output.Next.{Next}
use Rattle.station.specs.declared.output.Next.TheVariants as next
use Rattle.cable_model.specs.declared.entry.How.{How}
use Rattle.cable_model.specs.declared.entry.How.TheVariants as how
use Rattle.cable_model.specs.declared.resolve.Found.{Found}
use Rattle.cable_model.specs.Holdings.{holds_of}
use Rattle.cable_model.specs.Outcomes.{framed, held_by, held_next, leg as leg_on, to_other, to_target}
use Rattle.cable_model.specs.Outgoing.{held_entries}
use Rattle.cable_model.specs.Pending.{Pair, ends, pending}
use Rattle.cable_model.specs.Transcript.{Entry, Frame, Holding, Sent, Put, Reached, Dropped, next_stamp}
use Rattle.legal_runs.specs.Answers.{IsMade}
use Rattle.legal_runs.specs.Carriage.{cable_of_hand}
use Rattle.legal_runs.specs.Legs.{Leg, final, is_copy, leg, leg_bytes, passed, sender}
use Rattle.legal_runs.specs.Stations.{cable_seats, has_address, is_on}
use Rattle.legal_runs.proofs.Frames.{Framed}
use Rattle.resolved_runs.specs.AskedFor.{AreAskedFor, IsAskedFor}
use Rattle.resolved_runs.specs.Fates.{fate_with_by}
use Rattle.resolved_runs.specs.Fitting.{SeatsFit}
use Rattle.resolved_runs.specs.Mapped.{found_by, frame_of, given, known, learnt_in, mapping_in, own_hardware, places_after}
use Rattle.resolved_runs.specs.Resolved.{held_by_port, resolved_leg, resolved_said, waiting_entries}
use Rattle.resolved_runs.specs.ResolvedRuns as resolved
use Rattle.resolved_runs.specs.ResolvedRuns.{IsLegalResolved, ResolvedBlock, resolved_fate, resolved_handled, taking}
use Rattle.resolved_runs.proofs.Asked.{keeps_asked, quiet_asked}
use Rattle.resolved_runs.proofs.AskedHeld.{held_asked}
use Rattle.resolved_runs.proofs.AskedTaken.{taken_asked}
use Rattle.resolved_runs.proofs.Elements.{In, in_list}
use Rattle.resolved_runs.proofs.Erased.{Erases, erases, frame_fits, frame_framed, put}
use Rattle.resolved_runs.proofs.ResolvedSaid.{all_ready, fate_done, final_fits, made_ready, passed_ready}
use Rattle.resolved_runs.proofs.Fits.{Fits, hand_owner, hand_seated, owner_fits}
use Rattle.resolved_runs.proofs.ResolvedLegs.{IsReady, leg_done}
use Rattle.resolved_runs.proofs.Stamped.{frame_is}
use Rattle.resolved_runs.proofs.Standing.{pair_put, pending_in}
use Rattle.resolved_runs.proofs.Steps.{done_told}
use Rattle.resolved_runs.proofs.Told.{IsReached, IsSent, IsTold, IsTook, More}
use Rattle.resolved_runs.proofs.Truths.{packet_told}

module _ (i : Internet) (ok : Passes i) (fit : SeatsFit i) where
  -- The entry holds nothing and ends no pair.
  abbrev IsQuiet : Entry → Type 0
  IsQuiet e = (holds_of e ≡ []) × ((p : Pair) → ends p e ≡ false)

  quiet_all : (u es : List Entry) → Each IsQuiet es → AreAskedFor i u → AreAskedFor i (u ++ es)
  quiet_all u [] each asked = subst (AreAskedFor i) (sym (append-nil u)) asked
  quiet_all u (e ∷ es) each asked =
      subst (AreAskedFor i) (append_assoc u (e ∷ []) es)
      (quiet_all (u ++ e ∷ []) es each.1 (quiet_asked i u e each.0.0 each.0.1 asked))

  quiet : (e : Entry) → holds_of e ≡ [] → ((p : Pair) → ends p e ≡ false) → IsQuiet e
  quiet e h n = (h, n)

  then_asked : (u es fs : List Entry) → AreAskedFor i ((u ++ es) ++ fs) → AreAskedFor i (u ++ (es ++ fs))
  then_asked u es fs asked = subst (AreAskedFor i) (append_assoc u es fs) asked

  -- ---- Legs

  -- A datagram that goes out.
  out_asked : (u : List Entry) (l : Leg) (how : How) (hw : Hw) (b : Bool) → AreAskedFor i u
      → AreAskedFor i (u ++ (cond b (Reached l.cable l.station how (body (leg_bytes l)) ∷ framed (sender (next_stamp u) l) hw Ddp (leg_bytes l) ∷ [])
      (framed (sender (next_stamp u) l) hw Ddp (leg_bytes l) ∷ []) ++ []))
  out_asked u l how hw true asked = quiet_all u _ ((refl, λ p. refl), ((refl, λ p. refl), tt)) asked
  out_asked u l how hw false asked = quiet_all u _ ((refl, λ p. refl), tt) asked

  -- A datagram that is held.
  held_leg_asked : (u : List Entry) (l : Leg) (a : Addr) (b : Bool) → IsTold i u → Fits a → is_on i l.station l.cable ≡ true
      → own_hardware i l.station l.cable a ≡ None → AreAskedFor i u
      → AreAskedFor i (u ++ (cond b (Reached l.cable l.station how.Held (body (leg_bytes l)) ∷ []) []
      ++ held_entries (u ++ cond b (Reached l.cable l.station how.Held (body (leg_bytes l)) ∷ []) []) l.station
      (record { cable = l.cable; next = a; bytes = leg_bytes l })
      (held_by_port i (u ++ cond b (Reached l.cable l.station how.Held (body (leg_bytes l)) ∷ []) []) l.station
      (record { cable = l.cable; next = a; bytes = leg_bytes l }))))
  held_leg_asked u l a false told next seated unknown asked =
      subst (λ v. AreAskedFor i (u ++ held_entries v l.station (record { cable = l.cable; next = a; bytes = leg_bytes l })
      (held_by_port i v l.station (record { cable = l.cable; next = a; bytes = leg_bytes l })))) (sym (append-nil u))
      (held_asked i ok fit u l.station (record { cable = l.cable; next = a; bytes = leg_bytes l }) told asked unknown seated next)
  held_leg_asked u l a true told next seated unknown asked =
      let r : Entry = Reached l.cable l.station how.Held (body (leg_bytes l)) in
      let v : List Entry = u ++ r ∷ [] in
      then_asked u (r ∷ []) _
      (held_asked i ok fit v l.station (record { cable = l.cable; next = a; bytes = leg_bytes l })
      (More u r told (IsReached l.cable l.station how.Held (body (leg_bytes l)))) (quiet_asked i u r refl (λ p. refl) asked)
      unknown seated next)

  -- What isn't known isn't the station's own.
  not_own : (u : List Entry) (station cable : ℕ) (a : Addr) → known i u station cable a ≡ None → own_hardware i station cable a ≡ None
  not_own u station cable a h =
      by (own_hardware i station cable a) (option_or (mapping_in a (given i station cable)) (learnt_in u station cable a u)) h
    where
      by : (o rest : Option Hw) → option_or o rest ≡ None → o ≡ None
      by None rest h = refl
      by (Some hw) rest h = cc

  abbrev found_on : List Entry → Leg → Addr → Found → List Entry
  found_on u l a f =
      cond (same_address (target (leg_bytes l)) a) (to_target (sender (next_stamp u) l) (leg_bytes l) f)
      (to_other (sender (next_stamp u) l) (leg_bytes l) f)

  station_asked : (u : List Entry) (l : Leg) (a : Addr) → IsTold i u → Fits a → is_on i l.station l.cable ≡ true → (o : Option Hw)
      → known i u l.station l.cable a ≡ o → AreAskedFor i u
      → AreAskedFor i (u ++ (found_on u l a (found_by o)
      ++ waiting_entries i (u ++ found_on u l a (found_by o)) l.station (held_by (found_by o) l.cable a (leg_bytes l))))
  station_asked u l a told next seated (Some hw) knows asked =
      out_asked u l how.Station hw (same_address (target (leg_bytes l)) a) asked
  station_asked u l a told next seated None knows asked =
      held_leg_asked u l a (same_address (target (leg_bytes l)) a) told next seated (not_own u l.station l.cable a knows) asked

  leg_asked : (u : List Entry) (l : Leg) → IsTold i u → IsReady l → is_on i l.station l.cable ≡ true → AreAskedFor i u
      → AreAskedFor i (u ++ resolved_leg i u l)
  leg_asked u l told ready seated asked = by l.next refl
    where
      by : (n : Next) → l.next ≡ n
          → AreAskedFor i (u ++ (leg_on (places_after i u l.station) (sender (next_stamp u) l) n (leg_bytes l)
          ++ waiting_entries i (u ++ leg_on (places_after i u l.station) (sender (next_stamp u) l) n (leg_bytes l)) l.station
          (held_next (places_after i u l.station) l.cable n (leg_bytes l))))
      by (next.Station a) e = station_asked u l a told (ready.next a e) seated (known i u l.station l.cable a) refl asked
      by next.All e = out_asked u l how.All all_hw (is_some (home i (target (leg_bytes l)).net)) asked
      by (next.Group g) e = quiet_all u _ ((refl, λ p. refl), tt) asked

  -- ---- What stations say, and fates

  abbrev AreSeated : List Leg → Type 0
  AreSeated ls = Each (λ (l : Leg). is_on i l.station l.cable ≡ true) ls

  made_seated : (ls : List Leg) → Each (IsMade i) ls → AreSeated ls
  made_seated [] made = tt
  made_seated (l ∷ ls) made = (made.0.seated, made_seated ls made.1)

  said_asked : (u : List Entry) (ls : List Leg) → IsTold i u → Each IsReady ls → AreSeated ls → AreAskedFor i u
      → AreAskedFor i (u ++ resolved_said i u ls)
  said_asked u [] told ready seated asked = subst (AreAskedFor i) (sym (append-nil u)) asked
  said_asked u (l ∷ ls) told ready seated asked =
      let s : Entry = Sent l.station l.body in
      let v : List Entry = u ++ s ∷ [] in
      let told_v : IsTold i v = More u s told (IsSent l.station l.body) in
      let xs : List Entry = resolved_leg i v l in
      let asked_v = quiet_asked i u s refl (λ p. refl) asked in
      let same : v ++ xs ≡ u ++ s ∷ xs = append_assoc u (s ∷ []) xs in
      let told_w : IsTold i (u ++ s ∷ xs) =
      subst (IsTold i) same (done_told i v xs (leg i (next_stamp v) l) told_v (leg_done i ok fit v l told_v ready.0)) in
      let asked_w = subst (AreAskedFor i) same (leg_asked v l told_v ready.0 seated.0 asked_v) in
      then_asked u (s ∷ xs) (resolved_said i (u ++ s ∷ xs) ls) (said_asked (u ++ s ∷ xs) ls told_w ready.1 seated.1 asked_w)

  module _ (u : List Entry) (p : Pair) (told : IsTold i u) (framed : Framed p.frame.bytes) (fits : Fits (target p.frame.bytes))
      (asked : AreAskedFor i u) where
    passed_asked : (r c : ℕ) (whom : Next) → is_on i r c ≡ true → ((a : Addr) → whom ≡ next.Station a → Fits a)
        → AreAskedFor i (u ++ cond (hops p.frame.bytes == 15) (Dropped r HopLimit (body p.frame.bytes) ∷ []) (resolved_leg i u (passed r p c whom)))
    passed_asked r c whom seated next = by (hops p.frame.bytes == 15) refl
      where
        by : (b : Bool) → (hops p.frame.bytes == 15) ≡ b
            → AreAskedFor i (u ++ cond b (Dropped r HopLimit (body p.frame.bytes) ∷ []) (resolved_leg i u (passed r p c whom)))
        by true e = quiet_asked i u _ refl (λ p. refl) asked
        by false e = leg_asked u (passed r p c whom) told (passed_ready i ok fit u p told framed fits r c whom e next) seated asked

    hand_asked : (r n : ℕ) (h : Hand) → hand i r n ≡ h → AreAskedFor i (u ++ fate_with_by i (resolved_leg i u) r p h)
    hand_asked r n Nowhere e = quiet_asked i u _ refl (λ p. refl) asked
    hand_asked r n (Here c) e = by ((target p.frame.bytes).node == 0 || has_address i r c (target p.frame.bytes))
      where
        by : (b : Bool) → AreAskedFor i (u ++ cond b (Reached c r how.Own (body p.frame.bytes) ∷ [])
            (cond (hops p.frame.bytes == 15) (Dropped r HopLimit (body p.frame.bytes) ∷ [])
            (resolved_leg i u (passed r p c (final (target p.frame.bytes))))))
        by true = quiet_asked i u _ refl (λ p. refl) asked
        by false =
            passed_asked r c (final (target p.frame.bytes)) (hand_seated i r n c (ap cable_of_hand e))
            (final_fits i ok fit u p told framed fits)
    hand_asked r n (On s c a) e =
        passed_asked r c (next.Station a) (hand_seated i r n c (ap cable_of_hand e)) (λ b f.
        let same : a ≡ b = cc in subst Fits same (owner_fits i ok c a s (hand_owner i r n s c a e)))

    fate_asked : AreAskedFor i (u ++ resolved_fate i u p)
    fate_asked = by (is_copy i p)
      where
        by : (b : Bool) → AreAskedFor i (u ++ cond b
            (fate_with_by i (resolved_leg i u) p.seat.station p (hand i p.seat.station (target p.frame.bytes).net)) [])
        by true = hand_asked p.seat.station (target p.frame.bytes).net (hand i p.seat.station (target p.frame.bytes).net) refl
        by false = subst (AreAskedFor i) (sym (append-nil u)) asked

  -- ---- Blocks

  -- The taking of a datagram ends no AARP frame.
  took_asked : (t : List Entry) (p : Pair) → IsTold i t → Contains (pending (cable_seats i) t) p → p.frame.kind ≡ Ddp → AreAskedFor i t
      → AreAskedFor i (t ++ taking p ∷ [])
  took_asked t p told there kind asked =
      keeps_asked i t (taking p ∷ []) asked refl (λ h s held q.
      ap (λ b. b || false) (false_from_ne_true (p.frame.stamp == q.pair.frame.stamp && p.seat.station == q.pair.seat.station) (λ e.
      let same = frame_of_pair q.pair q.there
      (eqb-true p.frame.stamp q.pair.frame.stamp
      (and_parts (p.frame.stamp == q.pair.frame.stamp) (p.seat.station == q.pair.seat.station) e).0) in
      not_both (sym kind ∙ (ap (λ (f : Frame). f.kind) (sym same) ∙ q.kind)))))
    where
      not_both : Ddp ≡ Aarp → ⊥
      not_both e = cc

      some_same : (x y : Frame) → Some x ≡ Some y → x ≡ y
      some_same x y e = cc

      put_of : (q : Pair) → Contains (pending (cable_seats i) t) q → In t (Put q.frame)
      put_of q there_q = (pair_put (cable_seats i) t q (pending_in i (cable_seats i) t q there_q).0).0

      frame_of_pair : (q : Pair) → Contains (pending (cable_seats i) t) q → p.frame.stamp ≡ q.frame.stamp → q.frame ≡ p.frame
      frame_of_pair q there_q same =
          some_same q.frame p.frame
          (sym (frame_is i t q.frame told (put_of q there_q))
          ∙ (ap (λ n. frame_of n t) (sym same) ∙ frame_is i t p.frame told (put_of p there)))

  block_asked : (t block : List Entry) → ResolvedBlock i t block → Erases i ok fit t → AreAskedFor i t → AreAskedFor i (t ++ block)
  block_asked t block (resolved.Sends l made own) e asked =
      said_asked t (l ∷ []) e.told (made_ready i ok fit l made, tt) (made.seated, tt) asked
  block_asked t block (resolved.Takes p answers there kind made its ans) e asked =
      let u : List Entry = t ++ taking p ∷ [] in
      let told_u : IsTold i u = More t (taking p) e.told (IsTook p there) in
      let framed = frame_framed i ok fit t e p there kind in
      let fits = frame_fits i ok fit t e p there kind in
      let xs : List Entry = resolved_fate i u p in
      let asked_u = took_asked t p e.told there kind asked in
      let asked_v = fate_asked u p told_u framed fits asked_u in
      let told_v : IsTold i (u ++ xs) = done_told i u xs _ told_u (fate_done i ok fit u p told_u framed fits) in
      let all = then_asked u xs (resolved_said i (u ++ xs) answers)
      (said_asked (u ++ xs) answers told_v (all_ready i ok fit answers made) (made_seated answers made) asked_v) in
      subst (AreAskedFor i) (append_assoc t (taking p ∷ []) (resolved_handled i u p answers)) all
  block_asked t block (resolved.Resolves p there kind) e asked =
      taken_asked i ok fit t p e.told asked there (packet_told i t p.frame e.told (put i ok fit t e p there) kind)

  nothing_held : (h : Holding) (s : PlaceOf) → In [] h → IsAskedFor i [] h s
  nothing_held h s (k, e) = cc

  pub asked_for : (t : List Entry) → IsLegalResolved i t → AreAskedFor i t
  asked_for t resolved.Begins = λ h s there found. nothing_held h s (in_list [] h there)
  asked_for t (resolved.Continues front block legal b) =
      block_asked front block b (erases i ok fit front legal) (asked_for front legal)
