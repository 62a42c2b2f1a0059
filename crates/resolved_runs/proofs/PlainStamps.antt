-- The stamps of a plain transcript, and the losses in it.
use Rattle.std.proofs.Common.{◌≡◌, ◌≤◌, ℕ, Bool, true, false, cond, List, [], ◌∷◌, ◌++◌, Option}
use Rattle.std.proofs.Common.{Some, None, refl, sym, ap, subst, arith, append_assoc, append-nil, is_some}
use Rattle.table_image.specs.Internet.{Internet}
use Rattle.table_image.specs.Seats.{Seat, seat_at}
use Rattle.station.specs.declared.heard.Kind.{Kind}
use Rattle.station.specs.declared.heard.Kind.TheVariants.{Aarp, Ddp}
use Rattle.cable_model.specs.Transcript.{Entry, Frame, Holding, Sent, Put, Took, Reached, Dropped, Lost, Hold, above, next_stamp}
use Rattle.cable_model.specs.Transcript.{stamp_after, stamp_from}
use Rattle.cable_model.proofs.Stamps.{above_more, stamp_from-append}
use Rattle.legal_runs.specs.Legs.{Leg}
use Rattle.legal_runs.specs.Losses.{Another, Ends, Keeps, Loses, Nothing as NoneSaid, Said, WithLosses}
use Rattle.legal_runs.specs.LossyRuns.{Continues, IsLegalWithLosses, Loses as LosesOne}
use Rattle.legal_runs.proofs.Rises.{stamp_from_less}
use Rattle.resolved_runs.specs.Plain.{plain, plain_after, plain_entry}
use Rattle.resolved_runs.specs.Mapped.{frame_of}
use Rattle.resolved_runs.specs.Plain.{hold_of, plain_hold, plain_lost, plain_put, plain_took}
use Rattle.resolved_runs.proofs.Plains.{took_aarp, took_datagram}

-- ---- Stamps

-- What stations said with greater stamps, they said with these.
pub said_less : (i : Internet) (m n : ℕ) (ls : List Leg) (es : List Entry) → m ≤ n → Said i n ls es → Said i m ls es
said_less i m n ls es le (NoneSaid k) = NoneSaid m
said_less i m n ls es le (Another k stamp l more fs g rest) = Another m stamp l more fs (omega (arith, le, g)) rest

module _ (i : Internet) where
  -- The plain entries of an entry have no greater stamps.
  entry_next : (n : ℕ) (u : List Entry) (e : Entry) → stamp_from n (plain_entry i u e) ≤ stamp_after n e
  entry_next n u (Hold h) = by (seat_at i h.cable h.next)
    where
      by : (o : Option Seat) → stamp_from n (plain_hold h o) ≤ above n h.stamp
      by None = above_more n h.stamp
      by (Some s) = omega arith
  entry_next n u (Put f) = by f.kind
    where
      direct : (b : Bool) → stamp_from n (cond b [] (Put f ∷ [])) ≤ above n f.stamp
      direct true = above_more n f.stamp
      direct false = omega arith

      by : (k : Kind) → stamp_from n (plain_put u f k) ≤ above n f.stamp
      by Aarp = above_more n f.stamp
      by Ddp = direct (is_some (hold_of f.stamp u))
  entry_next n u (Took m s) = by (frame_of m u)
    where
      kinds : (f : Frame) (k : Kind) → f.kind ≡ k → stamp_from n (plain_took m s (Some f)) ≤ n
      kinds f Aarp e = let same = ap (stamp_from n) (took_aarp m s f e) in omega (arith, same)
      kinds f Ddp e = let same = ap (stamp_from n) (took_datagram m s f e) in omega (arith, same)

      by : (o : Option Frame) → stamp_from n (plain_took m s o) ≤ n
      by None = omega arith
      by (Some f) = kinds f f.kind refl
  entry_next n u (Lost m) = by (hold_of m u)
    where
      inner : (b : Bool) → stamp_from n (cond b (Lost m ∷ []) []) ≤ n
      inner true = omega arith
      inner false = omega arith

      by : (o : Option Holding) → stamp_from n (plain_lost i m o) ≤ n
      by None = omega arith
      by (Some h) = inner (is_some (seat_at i h.cable h.next))
  entry_next n u (Sent s b) = omega arith
  entry_next n u (Reached c s w b) = omega arith
  entry_next n u (Dropped r c b) = omega arith

  after_next : (n m : ℕ) (u es : List Entry) → n ≤ m → stamp_from n (plain_after i u es) ≤ stamp_from m es
  after_next n m u [] le = le
  after_next n m u (e ∷ es) le =
      let split = stamp_from-append n (plain_entry i u e) (plain_after i (u ++ e ∷ []) es) in
      let this = entry_next n u e in
      let more = stamp_from_less n m (e ∷ []) le in
      let rest = after_next (stamp_from n (plain_entry i u e)) (stamp_after m e) (u ++ e ∷ []) es (omega (arith, this, more)) in
      omega (arith, split, rest)

  pub plain_next : (t : List Entry) → next_stamp (plain i t) ≤ next_stamp t
  plain_next t = after_next 0 0 [] t (omega arith)

  -- ---- Losses alone

  pub lossy_more : (t es fs : List Entry) → es ≡ [] → WithLosses i t es fs → IsLegalWithLosses i t → IsLegalWithLosses i (t ++ fs)
  lossy_more t es fs none (Ends u) legal = subst (IsLegalWithLosses i) (sym (append-nil u)) legal
  lossy_more t es fs none (Keeps u e xs ys w) legal = cc
  lossy_more t es fs none (Loses u p xs ys there w) legal =
      subst (IsLegalWithLosses i) (append_assoc u (Lost p.frame.stamp ∷ []) ys)
      (lossy_more (u ++ Lost p.frame.stamp ∷ []) xs ys none w (Continues u (Lost p.frame.stamp ∷ []) legal (LosesOne p there)))
