-- The plain transcript has as many entries of what was sent, reached its cable or was dropped.
use Rattle.std.proofs.Common.{◌≡◌, ℕ, Bool, true, false, cond, List, [], ◌∷◌, ◌++◌, Option, Some, None, is_some}
use Rattle.std.proofs.Common.{ap, refl, sym, ◌∙◌, arith}
use Rattle.ddp.specs.Bodies.{target}
use Rattle.table_image.specs.Internet.{Internet}
use Rattle.table_image.specs.Seats.{Seat, seat_at}
use Rattle.station.specs.declared.heard.Kind.{Kind}
use Rattle.station.specs.declared.heard.Kind.TheVariants.{Aarp, Ddp}
use Rattle.cable_model.specs.declared.entry.How.{How}
use Rattle.cable_model.specs.Holdings.{released_frame}
use Rattle.cable_model.specs.Transcript.{Entry, Frame, Holding, Sent, Put, Took, Reached, Dropped, Lost, Hold, count, one}
use Rattle.cable_model.proofs.Counting.{count-append}
use Rattle.resolved_runs.specs.Mapped.{frame_of}
use Rattle.resolved_runs.specs.Plain.{hold_of, plain_after, plain_entry, plain_hold, plain_how, plain_lost, plain_put, plain_took}

module _ (i : Internet) where
  -- A test that passes neither frames nor what becomes of them, and that doesn't look at how a cable was reached.
  module _ (test : Entry → Bool) (no_put : (f : Frame) → test (Put f) ≡ false) (no_took : (n s : ℕ) → test (Took n s) ≡ false)
      (no_lost : (n : ℕ) → test (Lost n) ≡ false) (no_hold : (h : Holding) → test (Hold h) ≡ false)
      (same : (c s : ℕ) (a b : How) (d : List ℕ) → test (Reached c s a d) ≡ test (Reached c s b d)) where
    in_one : (e : Entry) → test e ≡ false → count test (e ∷ []) ≡ 0
    in_one e none = let n = ap one none in omega (arith, n)

    in_hold : (h : Holding) (o : Option Seat) → count test (plain_hold h o) ≡ 0
    in_hold h None = refl
    in_hold h (Some s) = in_one (Put (released_frame h s.hardware)) (no_put (released_frame h s.hardware))

    in_put : (t : List Entry) (f : Frame) (k : Kind) → count test (plain_put t f k) ≡ 0
    in_put t f Aarp = refl
    in_put t f Ddp = by (is_some (hold_of f.stamp t))
      where
        by : (b : Bool) → count test (cond b [] (Put f ∷ [])) ≡ 0
        by true = refl
        by false = in_one (Put f) (no_put f)

    in_took : (n s : ℕ) (o : Option Frame) → count test (plain_took n s o) ≡ 0
    in_took n s None = in_one (Took n s) (no_took n s)
    in_took n s (Some f) =
        elim f.kind as (λ k. count test (plain_took n s (Some (record f { kind = k }))) ≡ 0) [
          | Aarp ↦ refl
          | Ddp ↦ in_one (Took n s) (no_took n s)
        ]

    in_lost : (n : ℕ) (o : Option Holding) → count test (plain_lost i n o) ≡ 0
    in_lost n None = in_one (Lost n) (no_lost n)
    in_lost n (Some h) = by (is_some (seat_at i h.cable h.next))
      where
        by : (b : Bool) → count test (cond b (Lost n ∷ []) []) ≡ 0
        by true = in_one (Lost n) (no_lost n)
        by false = refl

    in_entry : (t : List Entry) (e : Entry) → count test (plain_entry i t e) ≡ one (test e)
    in_entry t (Hold h) = in_hold h (seat_at i h.cable h.next) ∙ sym (ap one (no_hold h))
    in_entry t (Put f) = in_put t f f.kind ∙ sym (ap one (no_put f))
    in_entry t (Took n s) = in_took n s (frame_of n t) ∙ sym (ap one (no_took n s))
    in_entry t (Lost n) = in_lost n (hold_of n t) ∙ sym (ap one (no_lost n))
    in_entry t (Sent s b) = omega arith
    in_entry t (Dropped r c b) = omega arith
    in_entry t (Reached c s how b) =
        let e = ap one (same c s (plain_how how (seat_at i c (target b))) how b) in omega (arith, e)

    pub same_entries : (u es : List Entry) → count test (plain_after i u es) ≡ count test es
    same_entries u [] = refl
    same_entries u (e ∷ es) =
        let sum = count-append test (plain_entry i u e) (plain_after i (u ++ e ∷ []) es) in
        let this = in_entry u e in
        let rest = same_entries (u ++ e ∷ []) es in
        omega (arith, sum, this, rest)
