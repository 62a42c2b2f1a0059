-- Frames and held datagrams of a told transcript, by their stamps.
use Rattle.std.proofs.Common.{◌≡◌, ◌≤◌, ℕ, zero, suc, Bool, true, false, cond, ◌==◌, List, [], ◌∷◌, ◌++◌, Some, None, refl, sym, ap}
use Rattle.std.proofs.Common.{◌∙◌, subst, arith, eqb-true, eq-eqb, true≢false, inl, inr}
use Rattle.std.specs.List.{list_any}
use Rattle.std.specs.Option.{option_or}
use Rattle.std.proofs.lemmas.Bool.{false_from_ne_true, or_parts}
use Rattle.table_image.specs.Internet.{Internet}
use Rattle.cable_model.specs.Holdings.{holds, holds_of, released_frame}
use Rattle.cable_model.specs.Transcript.{Entry, Frame, Holding, Sent, Put, Took, Reached, Dropped, Lost, Hold, has_put, next_stamp}
use Rattle.cable_model.proofs.Stamps.{put_below}
use Rattle.resolved_runs.specs.Mapped.{frame_of}
use Rattle.resolved_runs.proofs.Elements.{In, in_one, in_parts}
use Rattle.resolved_runs.proofs.Standing.{held_in, put_releases}
use Rattle.resolved_runs.proofs.Told.{Fact, IsAarp, IsDropped, IsHeld, IsLost, IsNew, IsReached, IsReleased, IsSent, IsTold, IsTook, More, Nothing}

module _ (i : Internet) where
  frame_of-append : (n : ℕ) (es fs : List Entry) → frame_of n (es ++ fs) ≡ option_or (frame_of n es) (frame_of n fs)
  frame_of-append n [] fs = refl
  frame_of-append n (Put f ∷ es) fs = by (f.stamp == n) (frame_of-append n es fs)
    where
      by : (b : Bool) → frame_of n (es ++ fs) ≡ option_or (frame_of n es) (frame_of n fs)
          → cond b (Some f) (frame_of n (es ++ fs)) ≡ option_or (cond b (Some f) (frame_of n es)) (frame_of n fs)
      by true rest = refl
      by false rest = rest
  frame_of-append n (Sent s b ∷ es) fs = frame_of-append n es fs
  frame_of-append n (Took m s ∷ es) fs = frame_of-append n es fs
  frame_of-append n (Reached c s w b ∷ es) fs = frame_of-append n es fs
  frame_of-append n (Dropped r c b ∷ es) fs = frame_of-append n es fs
  frame_of-append n (Lost m ∷ es) fs = frame_of-append n es fs
  frame_of-append n (Hold h ∷ es) fs = frame_of-append n es fs

  no_frame : (n : ℕ) (es : List Entry) → list_any (has_put n) es ≡ false → frame_of n es ≡ None
  no_frame n [] h = refl
  no_frame n (Put f ∷ es) h =
      let p = or_parts (n == f.stamp) (list_any (has_put n) es) h in
      ap (λ b. cond b (Some f) (frame_of n es)) (turn (f.stamp == n) refl p.0) ∙ no_frame n es p.1
    where
      turn : (b : Bool) → (f.stamp == n) ≡ b → (n == f.stamp) ≡ false → (f.stamp == n) ≡ false
      turn true e g = absurd (true≢false (sym (eq-eqb n f.stamp (sym (eqb-true f.stamp n e))) ∙ g))
      turn false e g = e
  no_frame n (Sent s b ∷ es) h = no_frame n es h
  no_frame n (Took m s ∷ es) h = no_frame n es h
  no_frame n (Reached c s w b ∷ es) h = no_frame n es h
  no_frame n (Dropped r c b ∷ es) h = no_frame n es h
  no_frame n (Lost m ∷ es) h = no_frame n es h
  no_frame n (Hold d ∷ es) h = no_frame n es h

  -- A frame that is put has a stamp that no frame had.
  pub new_stamp : (u : List Entry) (e : Entry) (f : Frame) → Fact i u e → e ≡ Put f → list_any (has_put f.stamp) u ≡ false
  new_stamp u e f fact same = here e fact same
    where
      same_stamp : (g : Frame) → Put g ≡ Put f → g.stamp ≡ f.stamp
      same_stamp g e = let one : g ≡ f = cc in ap (λ (x : Frame). x.stamp) one

      fresh_none : (g : Frame) → next_stamp u ≤ g.stamp → Put g ≡ Put f → list_any (has_put f.stamp) u ≡ false
      fresh_none g fresh e =
          false_from_ne_true (list_any (has_put f.stamp) u) (λ h.
          let lt = put_below u f.stamp h in
          let same = same_stamp g e in
          absurd (omega (arith, lt, fresh, same)))

      here : (e : Entry) → Fact i u e → e ≡ Put f → list_any (has_put f.stamp) u ≡ false
      here e (IsNew g k fresh) eq = fresh_none g fresh eq
      here e (IsAarp g k fresh packet) eq = fresh_none g fresh eq
      here e (IsReleased h s held found) eq =
          subst (λ n. list_any (has_put n) u ≡ false) (same_stamp (released_frame h s.hardware) eq)
          (false_from_ne_true (list_any (has_put h.stamp) u) (λ g.
          true≢false (sym (put_releases h.stamp u g) ∙ (held_in u h held).1)))
      here e (IsSent s b) eq = cc
      here e (IsReached c s w b) eq = cc
      here e (IsDropped r c b) eq = cc
      here e (IsHeld h fresh) eq = cc
      here e (IsLost h held) eq = cc
      here e (IsTook p held) eq = cc

  -- A frame is the one with its stamp.
  pub frame_is : (t : List Entry) (f : Frame) → IsTold i t → In t (Put f) → frame_of f.stamp t ≡ Some f
  frame_is t f Nothing (k, e) = cc
  frame_is t f (More u e told fact) there =
      frame_of-append f.stamp u (e ∷ []) ∙ (elim (in_parts u (e ∷ []) (Put f) there) as
      (λ _. option_or (frame_of f.stamp u) (frame_of f.stamp (e ∷ [])) ≡ Some f) [
        | inl before ↦ ap (λ o. option_or o (frame_of f.stamp (e ∷ []))) (frame_is u f told before)
        | inr this ↦
            let same = in_one e (Put f) this in
            ap (λ o. option_or o (frame_of f.stamp (e ∷ []))) (no_frame f.stamp u (new_stamp u e f fact same))
            ∙ (ap (λ x. frame_of f.stamp (x ∷ [])) same ∙ ap (λ b. cond b (Some f) None) (eq-eqb f.stamp f.stamp refl))
      ])

  -- What was held has an entry.
  pub hold_entry : (es : List Entry) (h : Holding) → In (holds es) h → In es (Hold h)
  hold_entry [] h (k, e) = cc
  hold_entry (e ∷ es) h there = elim (in_parts (holds_of e) (holds es) h there) as (λ _. In (e ∷ es) (Hold h)) [
    | inl this ↦ (zero, ap Some (here e this))
    | inr later ↦ let w = hold_entry es h later in (suc w.0, w.1)
  ]
    where
      here : (e : Entry) → In (holds_of e) h → e ≡ Hold h
      here (Hold d) g = ap Hold (in_one d h g)
      here (Put f) (k, g) = cc
      here (Sent s b) (k, g) = cc
      here (Took n s) (k, g) = cc
      here (Reached c s w b) (k, g) = cc
      here (Dropped r c b) (k, g) = cc
      here (Lost n) (k, g) = cc
