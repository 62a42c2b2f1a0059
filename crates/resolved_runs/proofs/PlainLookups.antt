-- The plain transcript has as many lookups: no AARP frame is a lookup, and none is held for a station.
use Rattle.std.proofs.Common.{◌≡◌, ℕ, Bool, true, false, cond, ◌==◌, List, [], ◌∷◌, Option, Some, None}
use Rattle.std.proofs.Common.{ap, arith, is_some, refl, subst, ◌∙◌}
use Rattle.std.specs.List.{AllByRecursion as Each}
use Rattle.std.proofs.lemmas.Bool.{and_left, and_right}
use Rattle.ddp.specs.Bodies.{body}
use Rattle.ddp.specs.Datagram.{datagram}
use Rattle.table_image.specs.Internet.{Internet}
use Rattle.table_image.specs.Seats.{Seat, seat_at}
use Rattle.station.specs.declared.heard.Kind.TheVariants.{Aarp, Ddp}
use Rattle.cable_model.specs.Holdings.{holds, released_frame}
use Rattle.cable_model.specs.Transcript.{Entry, Frame, Holding, Put, Lost, count, one}
use Rattle.cable_model.proofs.Counting.{count-append, each_at}
use Rattle.cable_model.proofs.Stamps.{holds-append}
use Rattle.legal_runs.specs.Lookups.{asks, is_request, looks}
use Rattle.legal_runs.specs.Requests.{is_broadcast, is_lookup, request}
use Rattle.legal_runs.specs.Stations.{is_router}
use Rattle.resolved_runs.specs.Mapped.{frame_of}
use Rattle.resolved_runs.specs.Plain.{hold_of, plain, plain_entry, plain_hold, plain_lost, plain_put, plain_took}
use Rattle.resolved_runs.proofs.Standing.{hold_none}
use Rattle.resolved_runs.proofs.Steps.{hold_found}
use Rattle.resolved_runs.proofs.Told.{Fact, IsSent, IsReached, IsDropped, IsNew, IsAarp, IsReleased, IsHeld, IsLost, IsTook}
use Rattle.resolved_runs.proofs.Told.{IsPacket, IsTold, Nothing, More}
use Rattle.resolved_runs.proofs.HeldPairs.{IsNoLookup}
use Rattle.resolved_runs.proofs.Never.{count_last, each_parts}
use Rattle.resolved_runs.proofs.Plains.{plain_one, put_aarp, put_direct, put_released}
use Rattle.resolved_runs.proofs.HeldStamps.{waits_still}

-- ---- AARP packets

-- What begins as an AARP packet does is too short for a datagram.
no_datagram : (rest : List ℕ) → (is_lookup (request (body (0 ∷ 1 ∷ rest))) ≡ false) × (is_broadcast (request (body (0 ∷ 1 ∷ rest))) ≡ false)
unfolding request datagram
no_datagram rest = (refl, refl)

pub aarp_no_lookup : (i : Internet) (f : Frame) → IsPacket i f → is_lookup (request (body f.bytes)) ≡ false
aarp_no_lookup i f packet = ap (λ b. is_lookup (request (body b))) packet.begins ∙ (no_datagram packet.rest).0

pub aarp_asks_nothing : (i : Internet) (k : List ℕ) (f : Frame) → IsPacket i f → asks i k (body f.bytes) ≡ false
aarp_asks_nothing i k f packet =
    and_left (is_request i (body f.bytes)) _
    (and_left (is_broadcast (request (body f.bytes))) _
    (ap (λ b. is_broadcast (request (body b))) packet.begins ∙ (no_datagram packet.rest).1))

module _ (i : Internet) (k : List ℕ) (c : ℕ) where
  no_look : (f : Frame) → is_lookup (request (body f.bytes)) ≡ false → looks i k c (Put f) ≡ false
  no_look f e =
      and_right (f.cable == c) _ (and_right (is_router i f.sender) _ (and_left (is_lookup (request (body f.bytes))) _ e))

  in_hold : (h : Holding) (o : Option Seat) → seat_at i h.cable h.next ≡ o → IsNoLookup i h → count (looks i k c) (plain_hold h o) ≡ 0
  in_hold h None e none = refl
  in_hold h (Some s) e none = let n = ap one (no_look (released_frame h s.hardware) (none s e)) in omega (arith, n)

  in_lost : (n : ℕ) (o : Option Holding) → count (looks i k c) (plain_lost i n o) ≡ 0
  in_lost n None = refl
  in_lost n (Some h) = by (is_some (seat_at i h.cable h.next))
    where
      by : (b : Bool) → count (looks i k c) (cond b (Lost n ∷ []) []) ≡ 0
      by true = refl
      by false = refl

  in_took : (n s : ℕ) (o : Option Frame) → count (looks i k c) (plain_took n s o) ≡ 0
  in_took n s None = refl
  in_took n s (Some f) =
      elim f.kind as (λ kind. count (looks i k c) (plain_took n s (Some (record f { kind = kind }))) ≡ 0) [
        | Aarp ↦ refl
        | Ddp ↦ refl
      ]

  in_released : (t : List Entry) (d : Holding) (s : Seat) → is_some (hold_of d.stamp t) ≡ true → is_lookup (request (body d.bytes)) ≡ false
      → count (looks i k c) (plain_put t (released_frame d s.hardware) Ddp) ≡ one (looks i k c (Put (released_frame d s.hardware)))
  in_released t d s held none =
      let gone = ap (count (looks i k c)) (put_released t (released_frame d s.hardware) refl held) in
      let n = ap one (no_look (released_frame d s.hardware) none) in
      omega (arith, gone, n)

  in_entry : (t : List Entry) (e : Entry) → Fact i t e → Each (IsNoLookup i) (holds t) → Each (IsNoLookup i) (holds (e ∷ []))
      → count (looks i k c) (plain_entry i t e) ≡ one (looks i k c e)
  in_entry t e (IsSent s b) old new = refl
  in_entry t e (IsReached a s how b) old new = refl
  in_entry t e (IsDropped r cause b) old new = refl
  in_entry t e (IsNew f kind le) old new =
      let put = ap (count (looks i k c)) (put_direct t f kind (hold_none t f.stamp le)) in omega (arith, put)
  in_entry t e (IsAarp f kind le packet) old new =
      let put = ap (count (looks i k c)) (put_aarp t f kind) in
      let n = ap one (no_look f (aarp_no_lookup i f packet)) in
      omega (arith, put, n)
  in_entry t e (IsReleased d s there found) old new =
      let w = waits_still t d there in
      in_released t d s (hold_found i t d (w.place, w.at))
      (each_at (IsNoLookup i) (holds t) w.place d w.at old s found)
  in_entry t e (IsHeld h le) old new = in_hold h (seat_at i h.cable h.next) refl new.0
  in_entry t e (IsLost d there) old new = in_lost d.stamp (hold_of d.stamp t)
  in_entry t e (IsTook p there) old new = in_took p.frame.stamp p.seat.station (frame_of p.frame.stamp t)

  -- Each lookup is one of the plain transcript.
  pub plain_looks : (t : List Entry) → IsTold i t → Each (IsNoLookup i) (holds t) → count (looks i k c) (plain i t) ≡ count (looks i k c) t
  plain_looks t Nothing none = refl
  plain_looks t (More u e told fact) none =
      let parts = each_parts (IsNoLookup i) (holds u) (holds (e ∷ [])) (subst (Each (IsNoLookup i)) (holds-append u (e ∷ [])) none) in
      let before = plain_looks u told parts.0 in
      let whole = ap (count (looks i k c)) (plain_one i u e) ∙ count-append (looks i k c) (plain i u) (plain_entry i u e) in
      let mine = count_last (looks i k c) u e in
      let this = in_entry u e fact parts.0 parts.1 in
      omega (arith, before, whole, mine, this)
