-- The pairs of the plain transcript are those of the transcript, and those of the datagrams that were held and never put.
use Rattle.std.proofs.Common.{◌≡◌, ℕ, suc, ◌+◌, ◌≤◌, Bool, true, false, cond, not, ◌||◌, ◌&&◌, ◌==◌, List, [], ◌∷◌, ◌++◌, Option, Some, None}
use Rattle.std.proofs.Common.{ap, append-nil, arith, eq-eqb, filter, is_some, ne_eqb, refl, ◌∙◌}
use Rattle.std.specs.List.{list_any, AllByRecursion as Each}
use Rattle.table_image.specs.Internet.{Internet}
use Rattle.table_image.specs.Seats.{Seat, seat_at}
use Rattle.audit.specs.Rules.{Passes}
use Rattle.station.specs.declared.heard.Kind.TheVariants.{Aarp, Ddp}
use Rattle.cable_model.specs.declared.seat.Seat.{Seat as CableSeat}
use Rattle.cable_model.specs.Holdings.{holds, released_frame}
use Rattle.cable_model.specs.Pending.{Pair, is_heard, pairs, pairs_of}
use Rattle.cable_model.specs.Transcript.{Entry, Frame, Holding, Put, Lost, Hold, count, has_put, next_stamp}
use Rattle.cable_model.specs.Transcript.{one}
use Rattle.cable_model.proofs.Counting.{any-append, count-append, count_agree, count_none, count_without, each-append, each_all, each_map}
use Rattle.cable_model.proofs.Counting.{each_more}
use Rattle.cable_model.proofs.Stamps.{held_below, holds-append, put_below}
use Rattle.legal_runs.specs.Stations.{cable_seat, cable_seats}
use Rattle.legal_runs.proofs.Legs.{seat_there}
use Rattle.legal_runs.proofs.Seated.{heard_alone}
use Rattle.legal_runs.proofs.Tallies.{count_pairs}
use Rattle.std.proofs.lemmas.Bool.{false_from_ne_true}
use Rattle.resolved_runs.specs.Mapped.{frame_of}
use Rattle.resolved_runs.specs.Plain.{hold_of, plain, plain_entry, plain_hold, plain_lost, plain_took}
use Rattle.resolved_runs.proofs.Standing.{hold_none}
use Rattle.resolved_runs.proofs.Steps.{hold_found}
use Rattle.resolved_runs.proofs.Told.{Fact, IsSent, IsReached, IsDropped, IsNew, IsAarp, IsReleased, IsHeld, IsLost, IsTook}
use Rattle.resolved_runs.proofs.Told.{IsPacket, IsTold, Nothing, More}
use Rattle.resolved_runs.proofs.Never.{any_same}
use Rattle.resolved_runs.proofs.Plains.{plain_one, put_aarp, put_direct, put_released}
use Rattle.resolved_runs.proofs.HeldStamps.{IsWaiting, held_once, numbered, waits_still}

-- The frame of a held datagram, and the seat that it is for.
abbrev pub held_pair : Internet → Holding → Seat → Pair
held_pair i h s = record { frame = released_frame h s.hardware; seat = cable_seat i s }

-- The pair of a held datagram passes the test, if a station has its next address.
abbrev pub passes_at : Internet → (Pair → Bool) → Holding → Option Seat → Bool
passes_at i test h None = false
passes_at i test h (Some s) = test (held_pair i h s)

abbrev pub passes : Internet → (Pair → Bool) → Holding → Bool
passes i test h = passes_at i test h (seat_at i h.cable h.next)

-- No frame was put for the datagram, whose pair passes the test.
abbrev pub passes_unput : Internet → (Pair → Bool) → List Entry → Holding → Bool
passes_unput i test t h = not (list_any (has_put h.stamp) t) && passes i test h

module _ (i : Internet) (ok : Passes i) (test : Pair → Bool)
    (datagrams : (p : Pair) → p.frame.kind ≡ Aarp → IsPacket i p.frame → test p ≡ false) where
  hold_counts : (h : Holding) (o : Option Seat) → seat_at i h.cable h.next ≡ o
      → count test (pairs (cable_seats i) (plain_hold h o)) ≡ one (passes_at i test h o)
  hold_counts h None e = refl
  hold_counts h (Some s) e =
      let f = released_frame h s.hardware in
      let w = seat_there i h.cable h.next s e in
      let only = ap (count test) (append-nil (pairs_of (cable_seats i) (Put f)) ∙ heard_alone i ok f w.place s w.at w.cable_is refl) in
      omega (arith, only)

  -- ---- Entries without pairs

  lost_none : (n : ℕ) (o : Option Holding) → pairs (cable_seats i) (plain_lost i n o) ≡ []
  lost_none n None = refl
  lost_none n (Some h) = by (is_some (seat_at i h.cable h.next))
    where
      by : (b : Bool) → pairs (cable_seats i) (cond b (Lost n ∷ []) []) ≡ []
      by true = refl
      by false = refl

  took_none : (n s : ℕ) (o : Option Frame) → pairs (cable_seats i) (plain_took n s o) ≡ []
  took_none n s None = refl
  took_none n s (Some f) =
      elim f.kind as (λ kind. pairs (cable_seats i) (plain_took n s (Some (record f { kind = kind }))) ≡ []) [
        | Aarp ↦ refl
        | Ddp ↦ refl
      ]

  aarp_counts : (f : Frame) → f.kind ≡ Aarp → IsPacket i f → count test (pairs (cable_seats i) (Put f ∷ [])) ≡ 0
  aarp_counts f kind packet =
      count_none test (pairs (cable_seats i) (Put f ∷ []))
      (each-append (λ p. test p ≡ false) (pairs_of (cable_seats i) (Put f)) []
      (each_map (λ p. test p ≡ false) (λ (s : CableSeat). record { frame = f; seat = s }) (filter (is_heard f) (cable_seats i))
      (each_all _ _ (λ s. datagrams (record { frame = f; seat = s }) kind packet))) tt)

  -- ---- Datagrams that were not put

  unput_same : (t : List Entry) (e : Entry) → Each (λ h. has_put h.stamp e ≡ false) (holds t)
      → count (passes_unput i test (t ++ e ∷ [])) (holds t) ≡ count (passes_unput i test t) (holds t)
  unput_same t e other =
      count_agree (passes_unput i test (t ++ e ∷ [])) (passes_unput i test t) (holds t)
      (each_more (λ h. has_put h.stamp e ≡ false) (λ h. passes_unput i test (t ++ e ∷ []) h ≡ passes_unput i test t h) (holds t)
      (λ h x. ap (λ b. not b && passes i test h) (any_same (has_put h.stamp) t e x)) other)

  unput_last : (t : List Entry) (e : Entry) → count (passes_unput i test (t ++ e ∷ [])) (holds (t ++ e ∷ []))
      ≡ count (passes_unput i test (t ++ e ∷ [])) (holds t) + count (passes_unput i test (t ++ e ∷ [])) (holds (e ∷ []))
  unput_last t e =
      ap (count (passes_unput i test (t ++ e ∷ []))) (holds-append t (e ∷ []))
      ∙ count-append (passes_unput i test (t ++ e ∷ [])) (holds t) (holds (e ∷ []))

  new_others : (t : List Entry) (f : Frame) → next_stamp t ≤ f.stamp → Each (λ h. has_put h.stamp (Put f) ≡ false) (holds t)
  new_others t f le =
      each_more (λ h. suc h.stamp ≤ next_stamp t) (λ h. has_put h.stamp (Put f) ≡ false) (holds t)
      (λ h lt. ne_eqb h.stamp f.stamp (λ e. absurd (omega (arith, e, lt, le)))) (held_below t)

  -- What an entry adds to the plain transcript, it adds to the transcript or to what wasn't put.
  abbrev Adds : List Entry → Entry → Type 0
  Adds t e =
      count test (pairs (cable_seats i) (plain_entry i t e)) + count (passes_unput i test t) (holds t)
      ≡ count test (pairs (cable_seats i) (e ∷ [])) + count (passes_unput i test (t ++ e ∷ [])) (holds (t ++ e ∷ []))

  adds_released : (t : List Entry) (d : Holding) (s : Seat) → IsTold i t → IsWaiting t d → seat_at i d.cable d.next ≡ Some s
      → Adds t (Put (released_frame d s.hardware))
  adds_released t d s told w found =
      let f = released_frame d s.hardware in
      let e = Put f in
      let held = hold_found i t d (w.place, w.at) in
      let gone = ap (λ es. count test (pairs (cable_seats i) es)) (put_released t f refl held) in
      let own = hold_counts d (Some s) found in
      let all = unput_last t e in
      let without = count_without (numbered i d.stamp) (passes_unput i test t) (holds t) w.place d (held_once i t told d.stamp) w.at
      (eq-eqb d.stamp _ refl) in
      let value : one (passes_unput i test t d) ≡ one (test (held_pair i d s)) =
      ap (λ b. one (not b && passes i test d)) w.not_put ∙ ap (λ o. one (passes_at i test d o)) found in
      let same = count_agree (passes_unput i test (t ++ e ∷ [])) (λ h. not (numbered i d.stamp h) && passes_unput i test t h) (holds t)
      (each_all _ _ (λ h. ap (λ b. not b && passes i test h) (any-append (has_put h.stamp) t (e ∷ []))
      ∙ shuffle (list_any (has_put h.stamp) t) (h.stamp == d.stamp) (passes i test h))) in
      omega (arith, gone, own, all, without, value, same)
    where
      shuffle : (a b c : Bool) → (not (a || (b || false)) && c) ≡ (not b && (not a && c))
      shuffle true true c = refl
      shuffle true false c = refl
      shuffle false true c = refl
      shuffle false false c = refl

  adds_hold : (t : List Entry) (h : Holding) → next_stamp t ≤ h.stamp → Adds t (Hold h)
  adds_hold t h le =
      let e = Hold h in
      let own = hold_counts h (seat_at i h.cable h.next) refl in
      let all = unput_last t e in
      let same = unput_same t e (each_all _ _ (λ d. refl)) in
      let not_put : list_any (has_put h.stamp) t ≡ false =
      false_from_ne_true (list_any (has_put h.stamp) t) (λ x. let lt = put_below t h.stamp x in absurd (omega (arith, lt, le))) in
      let value : one (passes_unput i test (t ++ e ∷ []) h) ≡ one (passes i test h) =
      ap (λ b. one (not b && passes i test h)) (any_same (has_put h.stamp) t e refl ∙ not_put) in
      omega (arith, own, all, same, value)

  adds : (t : List Entry) (e : Entry) → IsTold i t → Fact i t e → Adds t e
  adds t e told (IsSent s b) =
      let all = unput_last t e in
      let same = unput_same t e (each_all _ _ (λ h. refl)) in
      omega (arith, all, same)
  adds t e told (IsReached c s how b) =
      let all = unput_last t e in
      let same = unput_same t e (each_all _ _ (λ h. refl)) in
      omega (arith, all, same)
  adds t e told (IsDropped r c b) =
      let all = unput_last t e in
      let same = unput_same t e (each_all _ _ (λ h. refl)) in
      omega (arith, all, same)
  adds t e told (IsNew f kind le) =
      let all = unput_last t e in
      let same = unput_same t e (new_others t f le) in
      let put = ap (λ es. count test (pairs (cable_seats i) es)) (put_direct t f kind (hold_none t f.stamp le)) in
      omega (arith, all, same, put)
  adds t e told (IsAarp f kind le packet) =
      let all = unput_last t e in
      let same = unput_same t e (new_others t f le) in
      let put = ap (λ es. count test (pairs (cable_seats i) es)) (put_aarp t f kind) in
      let none = aarp_counts f kind packet in
      omega (arith, all, same, put, none)
  adds t e told (IsReleased d s there found) = adds_released t d s told (waits_still t d there) found
  adds t e told (IsHeld h le) = adds_hold t h le
  adds t e told (IsLost d there) =
      let all = unput_last t e in
      let same = unput_same t e (each_all _ _ (λ h. refl)) in
      let none = ap (count test) (lost_none d.stamp (hold_of d.stamp t)) in
      omega (arith, all, same, none)
  adds t e told (IsTook p there) =
      let all = unput_last t e in
      let same = unput_same t e (each_all _ _ (λ h. refl)) in
      let none = ap (count test) (took_none p.frame.stamp p.seat.station (frame_of p.frame.stamp t)) in
      omega (arith, all, same, none)

  -- The count of the plain transcript's pairs.
  pub plain_pairs : (t : List Entry) → IsTold i t
      → count test (pairs (cable_seats i) (plain i t))
      ≡ count test (pairs (cable_seats i) t) + count (passes_unput i test t) (holds t)
  plain_pairs t Nothing = refl
  plain_pairs t (More u e told fact) =
      let before = plain_pairs u told in
      let whole = ap (λ es. count test (pairs (cable_seats i) es)) (plain_one i u e) ∙ count_pairs i test (plain i u) (plain_entry i u e) in
      let mine = count_pairs i test u (e ∷ []) in
      let step = adds u e told fact in
      omega (arith, before, whole, mine, step)
