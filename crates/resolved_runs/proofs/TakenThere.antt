-- A station that takes a frame is on its cable, also where stations hold datagrams.
use Rattle.std.proofs.Common.{◌≡◌, ℕ, true, false, ◌||◌, ◌&&◌, ◌==◌, List, [], ◌∷◌, ◌++◌, Some, None}
use Rattle.std.proofs.Common.{refl, sym, ap, ◌∙◌, subst, inl, inr, eqb-true, eq-eqb, filter, true≢false}
use Rattle.std.specs.List.{list_any}
use Rattle.std.proofs.lemmas.Bool.{and_parts, or_parts}
use Rattle.table_image.specs.Internet.{Internet}
use Rattle.table_image.specs.Seats.{Seat as PlaceOf, seats}
use Rattle.audit.proofs.Finding.{any_from}
use Rattle.cable_model.specs.Holdings.{released_frame}
use Rattle.cable_model.specs.Pending.{Pair, is_for, is_heard, pairs, pairs_of}
use Rattle.cable_model.specs.Transcript.{Entry, Frame, Sent, Put, Took, Reached, Dropped, Lost, Hold, has_put, is_put}
use Rattle.cable_model.specs.declared.seat.Seat.{Seat}
use Rattle.cable_model.proofs.Counting.{any-append, each_at, each_map}
use Rattle.legal_runs.specs.Carriage.{AreTakenThere, IsOnSome, Stamped, of_stamp}
use Rattle.legal_runs.specs.Stations.{cable_seats, is_on}
use Rattle.legal_runs.proofs.Requested.{HasPlace, placed}
use Rattle.legal_runs.proofs.StampedLists.{of_end, of_front}
use Rattle.resolved_runs.proofs.Elements.{In, each_in, in_one, in_parts, kept_in}
use Rattle.resolved_runs.proofs.Stamped.{new_stamp}
use Rattle.resolved_runs.proofs.Standing.{pair_put, pending_in}
use Rattle.resolved_runs.proofs.Told.{Fact, IsAarp, IsDropped, IsHeld, IsLost, IsNew, IsReached, IsReleased, IsSent, IsTold}
use Rattle.resolved_runs.proofs.Told.{IsTook, More, Nothing}
use Rattle.resolved_runs.proofs.CarriedOrHeld.{of_apart}

module _ (i : Internet) where
  -- The cables of the frames of a transcript, by their stamps.
  record Cabled (u : List Entry) (cs : List (Stamped ℕ)) : Type 0 where
    pub same : (f : Frame) → In u (Put f) → of_stamp f.stamp cs ≡ Some f.cable
    pub none : (n : ℕ) → list_any (has_put n) u ≡ false → of_stamp n cs ≡ None

  abbrev cable_more : Entry → List (Stamped ℕ) → List (Stamped ℕ)
  cable_more (Put f) cs = cs ++ record { stamp = f.stamp; value = f.cable } ∷ []
  cable_more (Sent s b) cs = cs
  cable_more (Took n s) cs = cs
  cable_more (Reached c s how b) cs = cs
  cable_more (Dropped r cause b) cs = cs
  cable_more (Lost n) cs = cs
  cable_more (Hold h) cs = cs

  abbrev cables_of : List Entry → List (Stamped ℕ) → List (Stamped ℕ)
  cables_of [] cs = cs
  cables_of (e ∷ es) cs = cables_of es (cable_more e cs)

  cables_of-append : (es : List Entry) (e : Entry) (cs : List (Stamped ℕ)) → cables_of (es ++ e ∷ []) cs ≡ cable_more e (cables_of es cs)
  cables_of-append [] e cs = refl
  cables_of-append (x ∷ es) e cs = cables_of-append es e (cable_more x cs)

  taken_more : (es : List Entry) (e : Entry) (cs : List (Stamped ℕ)) → AreTakenThere i cs es → AreTakenThere i (cables_of es cs) (e ∷ [])
      → AreTakenThere i cs (es ++ e ∷ [])
  taken_more [] e cs h g = g
  taken_more (Put f ∷ es) e cs h g = taken_more es e (cs ++ record { stamp = f.stamp; value = f.cable } ∷ []) h g
  taken_more (Took n s ∷ es) e cs h g = (h.0, taken_more es e cs h.1 g)
  taken_more (Sent s b ∷ es) e cs h g = taken_more es e cs h g
  taken_more (Reached c s how b ∷ es) e cs h g = taken_more es e cs h g
  taken_more (Dropped r cause b ∷ es) e cs h g = taken_more es e cs h g
  taken_more (Lost n ∷ es) e cs h g = taken_more es e cs h g
  taken_more (Hold d ∷ es) e cs h g = taken_more es e cs h g

  -- An entry that puts no frame leaves the cables.
  cabled_same : (u : List Entry) (e : Entry) (cs : List (Stamped ℕ)) → Cabled u cs → is_put e ≡ false → Cabled (u ++ e ∷ []) cs
  cabled_same u e cs c none = record {
    same = λ f there. elim (in_parts u (e ∷ []) (Put f) there) as (λ _. of_stamp f.stamp cs ≡ Some f.cable) [
      | inl h ↦ c.same f h
      | inr h ↦ absurd (true≢false (sym (ap is_put (in_one e (Put f) h)) ∙ none))
    ];
    none = λ n h. c.none n (or_parts (list_any (has_put n) u) (has_put n e || false) (sym (any-append (has_put n) u (e ∷ [])) ∙ h)).0;
  }

  -- A frame adds its cable.
  cabled_put : (u : List Entry) (f : Frame) (cs : List (Stamped ℕ)) → Cabled u cs → list_any (has_put f.stamp) u ≡ false
      → Cabled (u ++ Put f ∷ []) (cs ++ record { stamp = f.stamp; value = f.cable } ∷ [])
  cabled_put u f cs c new = record {
    same = λ g there. elim (in_parts u (Put f ∷ []) (Put g) there) as
        (λ _. of_stamp g.stamp (cs ++ record { stamp = f.stamp; value = f.cable } ∷ []) ≡ Some g.cable) [
          | inl h ↦ of_front cs _ g.stamp g.cable (c.same g h)
          | inr h ↦ subst (λ (g : Frame). of_stamp g.stamp (cs ++ record { stamp = f.stamp; value = f.cable } ∷ []) ≡ Some g.cable)
              (same_frame f g (in_one (Put f) (Put g) h)) (of_end cs f.stamp f.cable (c.none f.stamp new))
        ];
    none = λ n h.
        let p = or_parts (list_any (has_put n) u) (has_put n (Put f) || false) (sym (any-append (has_put n) u (Put f ∷ [])) ∙ h) in
        of_apart cs f.stamp n f.cable (λ e. absurd (true≢false (sym (eq-eqb n f.stamp (sym e)) ∙ (or_parts (n == f.stamp) false p.1).0)))
        (c.none n p.0);
  }
    where
      same_frame : (f g : Frame) → Put f ≡ Put g → f ≡ g
      same_frame f g e = cc

  -- The seat of a pair is on the cable of its frame.
  pub pair_cable : (t : List Entry) (p : Pair) → In (pairs (cable_seats i) t) p → p.seat.cable ≡ p.frame.cable
  pair_cable t p there =
      let g = (pair_put (cable_seats i) t p there).1 in
      let heard = each_at (λ q. is_heard q.frame q.seat ≡ true) (pairs_of (cable_seats i) (Put p.frame)) g.0 p g.1
      (each_map (λ q. is_heard q.frame q.seat ≡ true) (λ (s : Seat). record { frame = p.frame; seat = s }) _
      (each_in (λ s. is_heard p.frame s ≡ true) (filter (is_heard p.frame) (cable_seats i))
      (λ s h. (kept_in (is_heard p.frame) (cable_seats i) s h).1))) in
      eqb-true _ _ (and_parts (p.seat.cable == p.frame.cable) (is_for p.frame.to p.frame.sender p.seat) heard).0

  -- A pair's station is on the cable of its frame.
  pair_on : (t : List Entry) (p : Pair) → In (pairs (cable_seats i) t) p → is_on i p.seat.station p.frame.cable ≡ true
  pair_on t p there =
      let place = each_at (HasPlace i) (pairs (cable_seats i) t) there.0 p there.1 (placed i t) in
      let s = place.1 in
      any_from (λ (x : PlaceOf). x.station == p.seat.station && x.cable == p.frame.cable) (seats i) place.0 s place.2
      (ap (λ b. b && s.cable == p.frame.cable) (eq-eqb s.station p.seat.station (ap (λ (x : Seat). x.station) (sym place.3)))
      ∙ eq-eqb s.cable p.frame.cable (ap (λ (x : Seat). x.cable) (sym place.3) ∙ pair_cable t p there))

  all_taken : (u : List Entry) → IsTold i u → AreTakenThere i [] u × Cabled u (cables_of u [])
  all_taken u Nothing = (tt, record { same = λ f there. let no = there.1 in cc; none = λ n h. refl })
  all_taken u (More t e told fact) =
      let before = all_taken t told in
      let this = here e fact before.1 in (
        taken_more t e [] before.0 this.0,
        subst (Cabled (t ++ e ∷ [])) (sym (cables_of-append t e [])) this.1,
      )
    where
      cs : List (Stamped ℕ)
      cs = cables_of t []

      here : (e : Entry) → Fact i t e → Cabled t cs → AreTakenThere i cs (e ∷ []) × Cabled (t ++ e ∷ []) (cable_more e cs)
      here e (IsNew f k fresh) c = (tt, cabled_put t f cs c (new_stamp i t (Put f) f (IsNew f k fresh) refl))
      here e (IsAarp f k fresh packet) c = (tt, cabled_put t f cs c (new_stamp i t (Put f) f (IsAarp f k fresh packet) refl))
      here e (IsReleased h s still found) c =
          (tt, cabled_put t (released_frame h s.hardware) cs c (new_stamp i t _ _ (IsReleased h s still found) refl))
      here e (IsTook p still) c =
          let w = pending_in i (cable_seats i) t p still in
          let g = pair_put (cable_seats i) t p w.0 in
          ((subst (IsOnSome i p.seat.station) (sym (c.same p.frame g.0)) (pair_on t p w.0), tt), cabled_same t _ cs c refl)
      here e (IsHeld h fresh) c = (tt, cabled_same t (Hold h) cs c refl)
      here e (IsLost h still) c = (tt, cabled_same t (Lost h.stamp) cs c refl)
      here e (IsSent s b) c = (tt, cabled_same t (Sent s b) cs c refl)
      here e (IsReached k s how b) c = (tt, cabled_same t (Reached k s how b) cs c refl)
      here e (IsDropped r cause b) c = (tt, cabled_same t (Dropped r cause b) cs c refl)

  pub taken_there : (t : List Entry) → IsTold i t → AreTakenThere i [] t
  taken_there t told = (all_taken t told).0
