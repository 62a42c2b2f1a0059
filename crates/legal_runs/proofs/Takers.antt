-- A station that takes a frame is on the cable of that frame.
use Rattle.std.proofs.Common.{◌≡◌, ℕ, suc, Bool, true, false, not, cond, List, [], ◌∷◌, ◌++◌, Some, map, refl, sym, ap, ◌∙◌}
use Rattle.std.proofs.Common.{subst, eqb-true, eq-eqb}
use Rattle.std.specs.Prelude.{◌==◌, ◌&&◌, filter}
use Rattle.std.specs.List.{AllByRecursion as Each}
use Rattle.std.proofs.lemmas.Bool.{and_parts}
use Rattle.table_image.specs.Internet.{Internet}
use Rattle.table_image.specs.Seats.{Seat as PlaceOf, seats}
use Rattle.audit.specs.Rules.{Passes}
use Rattle.audit.proofs.Finding.{any_from}
use Rattle.cable_model.specs.declared.seat.Seat.{Seat}
use Rattle.cable_model.specs.Pending.{Pair, is_for, is_heard, pairs, pairs_of, pending, was_ended}
use Rattle.cable_model.specs.Transcript.{Entry, Frame, Sent, Put, Took, Reached, Dropped, Lost, Hold, above, next_stamp}
use Rattle.cable_model.proofs.Counting.{At, contained_at, each-append, each_at, each_map, filter_at}
use Rattle.cable_model.proofs.Pairs.{EndsNone}
use Rattle.legal_runs.specs.Carriage.{AreTakenThere, IsOnSome, Stamped, of_stamp}
use Rattle.legal_runs.specs.Legal.{IsLegal}
use Rattle.legal_runs.specs.Stations.{cable_seat, cable_seats, is_on}
use Rattle.legal_runs.proofs.InOrder.{rising_rises}
use Rattle.legal_runs.proofs.Rises.{Rises}
use Rattle.legal_runs.proofs.Rising.{GoesOn, IsRising, RisingBlock, SendsOne, Starts, TakesOne, handled_ends_none, legal_rises}
use Rattle.legal_runs.proofs.Rising.{said_ends_none}
use Rattle.legal_runs.proofs.StampedLists.{FreshFrom, fresh_more, of_end, of_front}

-- The cables of the frames after some entries.
abbrev cables_after : List Entry → List (Stamped ℕ) → List (Stamped ℕ)
cables_after [] w = w
cables_after (Put f ∷ es) w = cables_after es (w ++ record { stamp = f.stamp; value = f.cable } ∷ [])
cables_after (Took stamp station ∷ es) w = cables_after es w
cables_after (Sent station body ∷ es) w = cables_after es w
cables_after (Reached cable station how body ∷ es) w = cables_after es w
cables_after (Dropped router cause body ∷ es) w = cables_after es w
cables_after (Lost stamp ∷ es) w = cables_after es w
cables_after (Hold held ∷ es) w = cables_after es w

module _ (i : Internet) where
  there_more : (es fs : List Entry) (w : List (Stamped ℕ)) → AreTakenThere i w es → AreTakenThere i (cables_after es w) fs
      → AreTakenThere i w (es ++ fs)
  there_more [] fs w h g = g
  there_more (Put f ∷ es) fs w h g = there_more es fs (w ++ record { stamp = f.stamp; value = f.cable } ∷ []) h g
  there_more (Took stamp station ∷ es) fs w h g = (h.0, there_more es fs w h.1 g)
  there_more (Sent station body ∷ es) fs w h g = there_more es fs w h g
  there_more (Reached cable station how body ∷ es) fs w h g = there_more es fs w h g
  there_more (Dropped router cause body ∷ es) fs w h g = there_more es fs w h g
  there_more (Lost stamp ∷ es) fs w h g = there_more es fs w h g
  there_more (Hold held ∷ es) fs w h g = there_more es fs w h g

  -- Where nothing is taken, there is nothing to prove.
  quiet_there : (es : List Entry) (w : List (Stamped ℕ)) → Each EndsNone es → AreTakenThere i w es
  quiet_there [] w h = tt
  quiet_there (Put f ∷ es) w h = quiet_there es (w ++ record { stamp = f.stamp; value = f.cable } ∷ []) h.1
  quiet_there (Took stamp station ∷ es) w h = absurd h.0
  quiet_there (Sent station body ∷ es) w h = quiet_there es w h.1
  quiet_there (Reached cable station how body ∷ es) w h = quiet_there es w h.1
  quiet_there (Dropped router cause body ∷ es) w h = quiet_there es w h.1
  quiet_there (Lost stamp ∷ es) w h = quiet_there es w h.1
  quiet_there (Hold held ∷ es) w h = quiet_there es w h.1

  -- ---- The cables of frames, by their stamps

  kept : (es : List Entry) (w : List (Stamped ℕ)) (k c : ℕ) → of_stamp k w ≡ Some c → of_stamp k (cables_after es w) ≡ Some c
  kept [] w k c e = e
  kept (Put f ∷ es) w k c e =
      let more = record { stamp = f.stamp; value = f.cable } ∷ [] in kept es (w ++ more) k c (of_front w more k c e)
  kept (Took stamp station ∷ es) w k c e = kept es w k c e
  kept (Sent station body ∷ es) w k c e = kept es w k c e
  kept (Reached cable station how body ∷ es) w k c e = kept es w k c e
  kept (Dropped router cause body ∷ es) w k c e = kept es w k c e
  kept (Lost stamp ∷ es) w k c e = kept es w k c e
  kept (Hold held ∷ es) w k c e = kept es w k c e

  -- The pair's frame has its cable by its stamp, and the pair's station is on it.
  abbrev IsSeen : List (Stamped ℕ) → Pair → Type 0
  IsSeen w p = (of_stamp p.frame.stamp w ≡ Some p.frame.cable) × (is_on i p.seat.station p.frame.cable ≡ true)

  heard_on : (f : Frame) (ps : List PlaceOf) → ((k : ℕ) (s : PlaceOf) → At ps k s → (j : ℕ) × At (seats i) j s)
      → Each (λ (s : Seat). is_on i s.station f.cable ≡ true) (filter (is_heard f) (map (cable_seat i) ps))
  heard_on f [] there = tt
  heard_on f (s ∷ ps) there = by (heard_on f ps (λ k x at. there (suc k) x at)) (is_heard f (cable_seat i s)) refl
    where
      on : is_heard f (cable_seat i s) ≡ true → is_on i s.station f.cable ≡ true
      on e =
          let same : s.cable ≡ f.cable =
          eqb-true _ _ (and_parts (s.cable == f.cable) (is_for f.to f.sender (cable_seat i s)) e).0 in
          let w = there 0 s refl in
          any_from (λ (x : PlaceOf). x.station == s.station && x.cable == f.cable) (seats i) w.0 s w.1
          (ap (λ b. b && s.cable == f.cable) (eq-eqb s.station s.station refl) ∙ eq-eqb _ _ same)

      by : Each (λ (s : Seat). is_on i s.station f.cable ≡ true) (filter (is_heard f) (map (cable_seat i) ps)) → (b : Bool)
          → is_heard f (cable_seat i s) ≡ b
          → Each (λ (s : Seat). is_on i s.station f.cable ≡ true)
          (cond b (cable_seat i s ∷ filter (is_heard f) (map (cable_seat i) ps)) (filter (is_heard f) (map (cable_seat i) ps)))
      by rest true e = (on e, rest)
      by rest false e = rest

  with_both : (w : List (Stamped ℕ)) (f : Frame) (ss : List Seat) → of_stamp f.stamp w ≡ Some f.cable → Each (λ (s : Seat). is_on i s.station f.cable ≡ true) ss
      → Each (λ (s : Seat). IsSeen w (record { frame = f; seat = s })) ss
  with_both w f [] at h = tt
  with_both w f (s ∷ ss) at h = ((at, h.0), with_both w f ss at h.1)

  seen : (n : ℕ) (es : List Entry) (w : List (Stamped ℕ)) → FreshFrom n w → Rises n es → Each (IsSeen (cables_after es w))
      (pairs (cable_seats i) es)
  seen n [] w fresh new = tt
  seen n (Put f ∷ es) w fresh new =
      let more = w ++ record { stamp = f.stamp; value = f.cable } ∷ [] in
      let after = cables_after es more in
      let at : of_stamp f.stamp after ≡ Some f.cable =
      kept es more f.stamp f.cable (of_end w f.stamp f.cable (fresh f.stamp new.0)) in
      each-append (IsSeen after) (pairs_of (cable_seats i) (Put f)) (pairs (cable_seats i) es)
      (each_map (IsSeen after) (λ (s : Seat). record { frame = f; seat = s }) _
      (with_both after f _ at (heard_on f (seats i) (λ k s e. (k, e)))))
      (seen (above n f.stamp) es more (fresh_more n f.stamp w f.cable fresh) new.1)
  seen n (Took stamp station ∷ es) w fresh new = seen n es w fresh new.1
  seen n (Sent station body ∷ es) w fresh new = seen n es w fresh new.1
  seen n (Reached cable station how body ∷ es) w fresh new = seen n es w fresh new.1
  seen n (Dropped router cause body ∷ es) w fresh new = seen n es w fresh new.1
  seen n (Lost stamp ∷ es) w fresh new = seen n es w fresh new.1
  seen n (Hold held ∷ es) w fresh new = absurd new.0

  -- ---- Transcripts

  block_there : (t block : List Entry) → Rises 0 t → RisingBlock i t block → AreTakenThere i (cables_after t []) block
  block_there t block new (SendsOne l es made own said) =
      quiet_there es (cables_after t []) (said_ends_none i (next_stamp t) (l ∷ []) es said)
  block_there t block new (TakesOne p ls es there made its answers handled) =
      let k = contained_at (pending (cable_seats i) t) p there in
      let j = filter_at (λ q. not (was_ended t q)) (pairs (cable_seats i) t) k.0 p k.1 in
      let fact = each_at (IsSeen (cables_after t [])) (pairs (cable_seats i) t) j.0 p j.1 (seen 0 t [] (λ k le. refl) new) in (
        subst (IsOnSome i p.seat.station) (sym fact.0) fact.1,
        quiet_there es (cables_after t []) (handled_ends_none i (next_stamp t) p ls es handled),
      )

pub takers_there : (i : Internet) (t : List Entry) → IsRising i t → AreTakenThere i [] t
takers_there i t Starts = tt
takers_there i t (GoesOn front block rising b) =
    there_more i front block [] (takers_there i front rising) (block_there i front block (rising_rises i front rising) b)

pub are_taken_there : (i : Internet) (t : List Entry) → Passes i → IsLegal i t → AreTakenThere i [] t
are_taken_there i t ok legal = takers_there i t (legal_rises i t legal)
