-- Putting and giving up the datagrams that are released.
use Rattle.std.proofs.Common.{◌≡◌, ℕ, false, [], ◌∷◌}
use Rattle.std.proofs.Common.{Some, Result, Ok, Err, inl, inr, refl, sym, ap, append-nil, arith, subst}
use Rattle.std.specs.Prelude.{◌↔◌, Contains, IsOkUnless, OnErr, OnOk}
use Rattle.at_base.specs.declared.address.Hw.{Hw}
use Rattle.at_base.specs.declared.error.Error.{Error}
use Rattle.at_base.specs.declared.error.Error.TheVariants.{NotPending}
use Rattle.cable_model.specs.Holdings.{is_open, released_frame, still_held}
use Rattle.cable_model.specs.Logs.{Adds, Cabling, transcript}
use Rattle.cable_model.specs.Transcript.{Holding, Put}
use Rattle.live_cables.specs.Holding.{IsReleased}
use Rattle.live_cables.specs.Steps.{Puts}
use Rattle.live_cables.proofs.Calm.{puts_of, puts_same}

pub adds_none : (c : Cabling) → Adds c c []
adds_none c = record {
  seats = refl;
  limit = refl;
  rooms = refl;
  added = sym (append-nil (transcript c));
  further = ([], sym (append-nil c.lines));
  kept = ([], sym (append-nil c.kept));
}

pub adds_same : (a b : Cabling) → b ≡ a → Adds a b []
adds_same a b e = subst (λ c. Adds a c []) (sym e) (adds_none a)

-- A datagram with a stamp was put, or none was held with it.
pub put_by : (hw : Hw) (stamp : ℕ) (a b : Cabling) (r : Result (Unit {0}) Error)
    → OnOk r ((h : Holding) × Contains (still_held (transcript a)) h × (h.stamp ≡ stamp) × Adds a b (Put (released_frame h hw) ∷ []))
    → (r ≡ Err NotPending ↔ (is_open (transcript a) stamp ≡ false)) → IsOkUnless r NotPending → OnErr r (b ≡ a)
    → IsReleased hw (Some stamp) a b
put_by hw stamp a b (Ok u) ok iff refused kept = inl ok
put_by hw stamp a b (Err e) ok iff refused kept = inr (iff.0 (ap Err refused), adds_same a b kept)

-- ---- Their entries end no pair

pub put_calm : (hw : Hw) (stamp : ℕ) (a b : Cabling) (r : Result (Unit {0}) Error)
    → OnOk r ((h : Holding) × Contains (still_held (transcript a)) h × (h.stamp ≡ stamp) × Adds a b (Put (released_frame h hw) ∷ []))
    → OnErr r (b ≡ a) → Puts a b
put_calm hw stamp a b (Ok u) (h, there, of_stamp, adds) kept = puts_of a b (Put (released_frame h hw) ∷ []) adds refl
put_calm hw stamp a b (Err e) ok kept = puts_same a b kept
