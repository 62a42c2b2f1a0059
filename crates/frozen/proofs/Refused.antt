-- Why a call returned an error, and what follows from both results.
use Rattle.std.proofs.Common.{◌≡◌, ◌<◌, ◌↔◌, ◌⊎◌, ℕ, Bool, true, false, cond, inl, inr, Option, Some, None, Result, Ok}
use Rattle.std.proofs.Common.{Err, IfErr, OnOk, OnErr, nat_lt, refl, sym, ap, ◌∙◌, ◌+◌, ◌++◌, ◌∷◌, [], List, take}
use Rattle.std.proofs.Common.{slice_get}
use Rattle.std.proofs.lemmas.Bool.{lt-ltb, ltb-true}
use Rattle.std.proofs.lemmas.List.{take_more}
use Rattle.std.proofs.lemmas.Option.{get_or_from_slice_get, slice_get_within}
use Rattle.at_base.specs.declared.error.Error.{Error}
use Rattle.frozen.specs.Events.{IsRefused}
use Rattle.at_base.specs.declared.error.Error.TheVariants.{Full, Memory, NotPending}

-- A consequence of both results.
pub of_both : {T : Type 0} (r : Result T Error) (P Q X : Type 0) → OnOk r P → OnErr r Q → (P → X) → (Q → X) → X
of_both (Ok t) P Q X p q f g = f p
of_both (Err e) P Q X p q f g = g q

-- The error of a result.
error_is : {T : Type 0} {e d : Error} → ◌≡◌ {A = Result T Error} (Err e) (Err d) → e ≡ d
error_is {T} {e} {d} h = ap (of e) h
  where
    of : Error → Result T Error → Error
    of d (Ok t) = d
    of d (Err x) = x

-- A result with an equal error.
err_is : {T : Type 0} {e d : Error} → e ≡ d → ◌≡◌ {A = Result T Error} (Err e) (Err d)
err_is h = ap Err h

-- The first error of a take, other than Memory.
abbrev pub reason : Bool → ℕ → ℕ → Option Error
reason b limit n = cond b (cond (nat_lt limit n) (Some Full) None) (Some NotPending)

-- A call returns its first error, or Memory if it has no other.
pub refused_so : {T : Type 0} (r : Result T Error) (b : Bool) (limit n : ℕ)
    → IfErr r (λ e. (e ≡ NotPending) ⊎ (e ≡ Full) ⊎ (e ≡ Memory))
    → ((r ≡ Err NotPending) ↔ (b ≡ false)) → ((r ≡ Err Full) ↔ ((b ≡ true) × (limit < n)))
    → IfErr r (λ e. (reason b limit n ≡ Some e) ⊎ ((e ≡ Memory) × (reason b limit n ≡ None)))
refused_so (Ok t) b limit n h pending full = tt
refused_so {T} (Err e) b limit n h pending full = of_error h
  where
    -- If it has neither of the first two errors, there is no reason.
    passes : (b ≡ true) → (nat_lt limit n ≡ false) → reason b limit n ≡ None
    passes there room = ap (λ c. reason c limit n) there ∙ ap (λ c. cond c (Some Full) None) room

    of_error : (e ≡ NotPending) ⊎ (e ≡ Full) ⊎ (e ≡ Memory) → (reason b limit n ≡ Some e) ⊎ ((e ≡ Memory) × (reason b limit n ≡ None))
    of_error (inl is) = inl (ap (λ c. reason c limit n) (pending.0 (err_is is)) ∙ ap Some (sym is))
    of_error (inr (inl is)) =
        let w = full.0 (err_is is) in
        inl (ap (λ c. reason c limit n) w.0 ∙ (ap (λ c. cond c (Some Full) None) (lt-ltb limit n w.1) ∙ ap Some (sym is)))
    of_error (inr (inr is)) = inr (is, by b (nat_lt limit n) refl refl)
      where
        not_pending : Memory ≡ NotPending → ⊥
        not_pending z = cc

        not_full : Memory ≡ Full → ⊥
        not_full z = cc

        by : (c d : Bool) → b ≡ c → nat_lt limit n ≡ d → reason b limit n ≡ None
        by false d out room = absurd (not_pending (sym is ∙ error_is (pending.1 out)))
        by true true there room = absurd (not_full (sym is ∙ error_is (full.1 (there, ltb-true limit n room))))
        by true false there room = passes there room

-- Two facts of an error.
pub both_err : {T : Type 0} (r : Result T Error) (P Q : Type 0) → OnErr r P → OnErr r Q → OnErr r (P × Q)
both_err (Ok t) P Q p q = tt
both_err (Err e) P Q p q = (p, q)

-- A call that returns Full or Memory.
pub room_refused : {T : Type 0} (r : Result T Error) (limit n : ℕ) → IfErr r (λ e. (e ≡ Full) ⊎ (e ≡ Memory))
    → ((r ≡ Err Full) ↔ (limit < n)) → IfErr r (IsRefused (cond (nat_lt limit n) (Some Full) None))
room_refused (Ok t) limit n h full = tt
room_refused {T} (Err e) limit n h full = of_error h
  where
    so : limit < n → e ≡ Full → cond (nat_lt limit n) (Some Full) None ≡ Some e
    so less is = ap (λ c. cond c (Some Full) None) (lt-ltb limit n less) ∙ ap Some (sym is)

    by : e ≡ Memory → (b : Bool) → nat_lt limit n ≡ b → IsRefused (cond (nat_lt limit n) (Some Full) None) e
    by is true less = let lt = ltb-true limit n less in inl (so lt (error_is (full.1 lt)))
    by is false room = inr (is, ap (λ c. cond c (Some Full) None) room)

    of_error : (e ≡ Full) ⊎ (e ≡ Memory) → IsRefused (cond (nat_lt limit n) (Some Full) None) e
    of_error (inl is) = inl (so (full.0 (err_is is)) is)
    of_error (inr is) = by is (nat_lt limit n) refl

-- A call that returns Ok has room.
pub room_ok : {T : Type 0} (r : Result T Error) (limit n : ℕ) → ((r ≡ Err Full) ↔ (limit < n))
    → OnOk r (cond (nat_lt limit n) (Some Full) None ≡ None)
room_ok (Err e) limit n full = tt
room_ok {T} (Ok t) limit n full = by (nat_lt limit n) refl
  where
    never : ◌≡◌ {A = Result T Error} (Ok t) (Err Full) → ⊥
    never h = cc

    by : (b : Bool) → nat_lt limit n ≡ b → cond b (Some Full) None ≡ None
    by true less = absurd (never (full.1 (ltb-true limit n less)))
    by false room = refl

-- One more event.
pub take_one : {X : Type 0} (xs : List X) (k : ℕ) (x : X) → slice_get xs k ≡ Some x → take (k + 1) xs ≡ take k xs ++ x ∷ []
take_one xs k x at =
    take_more xs k x (slice_get_within xs k x at) ∙ ap (λ y. take k xs ++ y ∷ []) (get_or_from_slice_get xs k x x at)
