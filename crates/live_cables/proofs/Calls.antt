-- The effect of a whole call on live cables.
use Rattle.std.proofs.Common.{◌≡◌, ℕ, ◌+◌, Bool, true, false, not, IsTrue, List, [], ◌∷◌, ◌++◌, refl, sym, ap, ◌∙◌, subst, arith}
use Rattle.std.proofs.Common.{Err, Ok, append-nil, append_assoc, drop, eq-eqb, inl, inr, length}
use Rattle.std.specs.Prelude.{◌⊎◌, ◌↔◌, IfErr, OnErr, OnOk, Result}
use Rattle.at_base.specs.declared.error.Error.{Error}
use Rattle.at_base.specs.declared.error.Error.TheVariants.{Full, Memory, NotPending}
use Rattle.std.specs.List.{All, list_all, list_any, AllByRecursion as Each}
use Rattle.std.proofs.lemmas.Bool.{and_parts}
use Rattle.std.proofs.lemmas.List.{length-map}
use Rattle.std.proofs.lemmas.List.Elements.{All-tail}
use Rattle.cable_model.specs.Logs.{Cabling, entry_at, transcript}
use Rattle.cable_model.specs.Outcomes.{is_named}
use Rattle.cable_model.specs.Pending.{Pair, pending}
use Rattle.cable_model.specs.Transcript.{ArePutOnce, Entry, Sent, Put, Took, Reached, Dropped, Lost, Hold, count}
use Rattle.cable_model.specs.Holdings.{is_open}
use Rattle.cable_model.specs.declared.entry.Entry.{Entry as Line}
use Rattle.cable_model.specs.declared.seat.Seat.{Seat}
use Rattle.cable_model.proofs.Counting.{contained_at, count-append}
use Rattle.live_cables.proofs.Pending.{both, has_any, or_first, or_second}
use Rattle.live_cables.proofs.Played.{allowed_append, due_append, losses-append, nothing_played, played_then}
use Rattle.live_cables.specs.Living.{IsLossDue, IsTakenBy, AddsAllowed, PlaysOn, Stays, Wires, happened, loses}
use Rattle.live_cables.specs.Playing.{AreDue, IsDueThen, IsPlayed, are_allowed, is_in, is_took, losses, may_be}
use Rattle.live_cables.proofs.Losses.{all_losses}
use Rattle.live_cables.specs.Steps.{IsSendable, Loses, Puts, Takes, are_calm, are_gone, is_loss, losses_since}
use Rattle.station.specs.Hearing.{Hearing}
use Rattle.station.specs.Lawful.{IsGood}
use Rattle.station.specs.declared.output.Output.{Output}
use Rattle.station.specs.declared.output.Output.TheVariants as output

-- ---- Entries that end no pair, followed by losses

module _ (seats : List Seat) (losing : ℕ → Bool) where
  calm_due : (t es : List Entry) → are_calm t es ≡ true → AreDue seats t es
  calm_due t [] h = tt
  calm_due t (Sent s x ∷ es) h = (tt, calm_due (t ++ Sent s x ∷ []) es h)
  calm_due t (Put f ∷ es) h = (tt, calm_due (t ++ Put f ∷ []) es h)
  calm_due t (Reached c s w x ∷ es) h = (tt, calm_due (t ++ Reached c s w x ∷ []) es h)
  calm_due t (Dropped r c x ∷ es) h = (tt, calm_due (t ++ Dropped r c x ∷ []) es h)
  calm_due t (Hold d ∷ es) h = (tt, calm_due (t ++ Hold d ∷ []) es h)
  calm_due t (Lost p ∷ es) h =
      (tt, calm_due (t ++ Lost p ∷ []) es (and_parts (is_open t p) (are_calm (t ++ Lost p ∷ []) es) h).1)
  calm_due t (Took p s ∷ es) h = cc

  calm_may : (lost : List ℕ) (t es : List Entry) → are_calm t es ≡ true → are_allowed lost t es ≡ true
  calm_may lost t [] h = refl
  calm_may lost t (Sent s x ∷ es) h = calm_may lost (t ++ Sent s x ∷ []) es h
  calm_may lost t (Put f ∷ es) h = calm_may lost (t ++ Put f ∷ []) es h
  calm_may lost t (Reached c s w x ∷ es) h = calm_may lost (t ++ Reached c s w x ∷ []) es h
  calm_may lost t (Dropped r c x ∷ es) h = calm_may lost (t ++ Dropped r c x ∷ []) es h
  calm_may lost t (Hold d ∷ es) h = calm_may lost (t ++ Hold d ∷ []) es h
  calm_may lost t (Lost p ∷ es) h =
      let parts = and_parts (is_open t p) (are_calm (t ++ Lost p ∷ []) es) h in
      both (may_be lost t (Lost p)) (are_allowed lost (t ++ Lost p ∷ []) es) (or_second (is_in lost p) (is_open t p) parts.0)
      (calm_may lost (t ++ Lost p ∷ []) es parts.1)
  calm_may lost t (Took p s ∷ es) h = cc

  calm_played : (t es : List Entry) → are_calm t es ≡ true → IsPlayed seats losing t es
  calm_played t es h = record { due = calm_due t es h; each = calm_may (losses losing es) t es h }

  lost_due : (t : List Entry) (ss : List ℕ) (es : List Entry) → IsTrue (list_all (is_loss ss) es) → AreDue seats t es
  lost_due t ss [] h = tt
  lost_due t ss (Lost p ∷ es) h = (tt, lost_due (t ++ Lost p ∷ []) ss es (and_parts (is_in ss p) (list_all (is_loss ss) es) h).1)
  lost_due t ss (Sent s x ∷ es) h = cc
  lost_due t ss (Put f ∷ es) h = cc
  lost_due t ss (Reached c s w x ∷ es) h = cc
  lost_due t ss (Dropped r c x ∷ es) h = cc
  lost_due t ss (Took p s ∷ es) h = cc
  lost_due t ss (Hold d ∷ es) h = cc

  lost_may : (ss : List ℕ) (t es : List Entry) → IsTrue (list_all (is_loss ss) es) → IsTrue (are_allowed ss t es)
  lost_may ss t [] h = refl
  lost_may ss t (Lost p ∷ es) h =
      let parts = and_parts (is_in ss p) (list_all (is_loss ss) es) h in
      both (may_be ss t (Lost p)) (are_allowed ss (t ++ Lost p ∷ []) es) (or_first (is_in ss p) (is_open t p) parts.0)
      (lost_may ss (t ++ Lost p ∷ []) es parts.1)
  lost_may ss t (Sent s x ∷ es) h = cc
  lost_may ss t (Put f ∷ es) h = cc
  lost_may ss t (Reached c s w x ∷ es) h = cc
  lost_may ss t (Dropped r c x ∷ es) h = cc
  lost_may ss t (Took p s ∷ es) h = cc
  lost_may ss t (Hold d ∷ es) h = cc

  lost_puts : (ss : List ℕ) (es : List Entry) → IsTrue (list_all (is_loss ss) es) → losses losing es ≡ []
  lost_puts ss [] h = refl
  lost_puts ss (Lost p ∷ es) h = lost_puts ss es (and_parts (is_in ss p) (list_all (is_loss ss) es) h).1
  lost_puts ss (Sent s x ∷ es) h = cc
  lost_puts ss (Put f ∷ es) h = cc
  lost_puts ss (Reached c s w x ∷ es) h = cc
  lost_puts ss (Dropped r c x ∷ es) h = cc
  lost_puts ss (Took p s ∷ es) h = cc
  lost_puts ss (Hold d ∷ es) h = cc

  -- Entries that put no frame on a cable that loses frames change nothing in what is lost.
  more_losses : (a b : List Entry) → losses losing b ≡ [] → losses losing (a ++ b) ≡ losses losing a
  more_losses a b none =
      losses-append losing a b ∙ (ap (λ l. losses losing a ++ l) none ∙ append-nil (losses losing a))

  -- The losses of a call put no frames on cables.
  same_losses : (a ls : List Entry) → IsTrue (list_all (is_loss (losses losing a)) ls) → losses losing (a ++ ls) ≡ losses losing a
  same_losses a ls h = more_losses a ls (lost_puts (losses losing a) ls h)

  -- Allowed entries, followed by others that are allowed and put no frame on a cable that loses frames.
  further_played : (t a b : List Entry) → IsPlayed seats losing t a → losses losing b ≡ [] → AreDue seats (t ++ a) b
      → are_allowed (losses losing a) (t ++ a) b ≡ true → IsPlayed seats losing t (a ++ b)
  further_played t a b x none due each = record {
    due = due_append seats t a b x.due due;
    each =
        subst (λ ss. IsTrue (are_allowed ss t (a ++ b))) (sym (more_losses a b none)) (allowed_append (losses losing a) t a b x.each each);
  }

  ended_played : (t a ls : List Entry) → IsPlayed seats losing t a → IsTrue (list_all (is_loss (losses losing a)) ls)
      → IsPlayed seats losing t (a ++ ls)
  ended_played t a ls x h =
      further_played t a ls x (lost_puts (losses losing a) ls h) (lost_due (t ++ a) (losses losing a) ls h)
      (lost_may (losses losing a) (t ++ a) ls h)

  -- Allowed entries, followed by others that end no pair and put no frame on a cable that loses frames.
  pub calm_after : (t a b : List Entry) → IsPlayed seats losing t a → losses losing b ≡ [] → are_calm (t ++ a) b ≡ true
      → IsPlayed seats losing t (a ++ b)
  calm_after t a b x none calm =
      further_played t a b x none (calm_due (t ++ a) b calm) (calm_may (losses losing a) (t ++ a) b calm)

and_none : (n : ℕ) → n ≡ 0 → 0 + n ≡ 0
and_none n e = omega (arith, e)

pub calm_takes : (t es : List Entry) → are_calm t es ≡ true → count is_took es ≡ 0
calm_takes t [] h = refl
calm_takes t (Sent s x ∷ es) h = and_none (count is_took es) (calm_takes (t ++ Sent s x ∷ []) es h)
calm_takes t (Put f ∷ es) h = and_none (count is_took es) (calm_takes (t ++ Put f ∷ []) es h)
calm_takes t (Reached c s w x ∷ es) h = and_none (count is_took es) (calm_takes (t ++ Reached c s w x ∷ []) es h)
calm_takes t (Dropped r c x ∷ es) h = and_none (count is_took es) (calm_takes (t ++ Dropped r c x ∷ []) es h)
calm_takes t (Hold d ∷ es) h = and_none (count is_took es) (calm_takes (t ++ Hold d ∷ []) es h)
calm_takes t (Lost p ∷ es) h =
    and_none (count is_took es)
    (calm_takes (t ++ Lost p ∷ []) es (and_parts (is_open t p) (are_calm (t ++ Lost p ∷ []) es) h).1)
calm_takes t (Took p s ∷ es) h = cc

lost_takes : (ss : List ℕ) (es : List Entry) → IsTrue (list_all (is_loss ss) es) → count is_took es ≡ 0
lost_takes ss [] h = refl
lost_takes ss (Lost p ∷ es) h = and_none (count is_took es) (lost_takes ss es (and_parts (is_in ss p) (list_all (is_loss ss) es) h).1)
lost_takes ss (Sent s x ∷ es) h = cc
lost_takes ss (Put f ∷ es) h = cc
lost_takes ss (Reached c s w x ∷ es) h = cc
lost_takes ss (Dropped r c x ∷ es) h = cc
lost_takes ss (Took p s ∷ es) h = cc
lost_takes ss (Hold d ∷ es) h = cc

-- ---- A call before its losses

-- The entries of a call before its losses, with `taken` takes.
pub record Midst (losing : ℕ → Bool) (taken : ℕ) (old mid : Cabling) : Type 0 where
  pub added : List Entry
  pub grown : transcript mid ≡ transcript old ++ added
  pub played : IsPlayed old.seats losing (transcript old) added
  pub takes : count is_took added ≡ taken
  pub seats : mid.seats ≡ old.seats
  pub limit : mid.limit ≡ old.limit

pub midst_put : (losing : ℕ → Bool) (old mid : Cabling) → Puts old mid → Midst losing 0 old mid
midst_put losing old mid x = record {
  added = x.added;
  grown = x.grown;
  played = calm_played old.seats losing (transcript old) x.added x.calm;
  takes = calm_takes (transcript old) x.added x.calm;
  seats = x.seats;
  limit = x.limit;
}

-- A frame was taken, and further entries end no pair.
took_played : (seats : List Seat) (losing : ℕ → Bool) (t es : List Entry) (stamp station : ℕ)
    → ArePutOnce (t ++ Took stamp station ∷ es) → IsDueThen seats t (Took stamp station)
    → are_calm (t ++ Took stamp station ∷ []) es ≡ true → IsPlayed seats losing t (Took stamp station ∷ es)
took_played seats losing t es stamp station once due calm =
    played_then seats losing t (Took stamp station ∷ []) es
    (subst ArePutOnce (sym (append_assoc t (Took stamp station ∷ []) es)) once) (record { due = (due, tt); each = refl })
    (nothing_here (pending seats (t ++ Took stamp station ∷ []))) (calm_played seats losing (t ++ Took stamp station ∷ []) es calm)
  where
    nothing_here : (ps : List Pair) → not (list_any (λ (p : Pair). is_in [] p.frame.stamp) ps) ≡ true
    nothing_here [] = refl
    nothing_here (p ∷ ps) = nothing_here ps

-- The frame was pending.
pub named_is : (c : Cabling) (stamp station : ℕ) (Hears : Hearing → List Output → Type 0) (mid : Cabling)
    → Takes c mid stamp station Hears → IsDueThen c.seats (transcript c) (Took stamp station)
named_is c stamp station Hears mid x =
    let at = contained_at (pending c.seats (transcript c)) x.pair x.was_pending in
    has_any (is_named stamp station) (pending c.seats (transcript c)) x.pair at
    (both _ _ (eq-eqb stamp x.pair.frame.stamp (sym x.of_stamp)) (eq-eqb station x.pair.seat.station (sym x.of_station)))

pub midst_taken : (losing : ℕ → Bool) (old mid : Cabling) (stamp station : ℕ) (Hears : Hearing → List Output → Type 0)
    → ArePutOnce (transcript mid) → Takes old mid stamp station Hears → Midst losing 1 old mid
midst_taken losing old mid stamp station Hears once x =
    let none = calm_takes (transcript old ++ Took stamp station ∷ []) x.rest x.calm in
    record {
      added = Took stamp station ∷ x.rest;
      grown = x.grown;
      played =
          took_played old.seats losing (transcript old) x.rest stamp station (subst ArePutOnce x.grown once)
          (named_is old stamp station Hears mid x) x.calm;
      takes = omega (arith, none);
      seats = x.seats;
      limit = x.limit;
    }

-- ---- The whole call

dropped : (t a : List Entry) (n : ℕ) → n ≡ length t → drop n (t ++ a) ≡ a
dropped t a n e = subst (λ k. drop k (t ++ a) ≡ a) (sym e) (at t)
  where
    at : (t : List Entry) → drop (length t) (t ++ a) ≡ a
    at [] = refl
    at (x ∷ t) = at t

module _ (taken : ℕ) (old new : Wires) (mid : Cabling) (front : List Line) (losing : List Bool) (stays : Stays old new)
    (m : Midst (loses old) taken old.cabling mid) (front_is : front ≡ old.cabling.lines) (losing_is : losing ≡ old.losing)
    (l : Loses (losses_since losing (length front) mid) mid new.cabling) where
  these : losses_since losing (length front) mid ≡ losses (loses old) m.added
  these =
      ap (λ bs. losses_since bs (length front) mid) losing_is
      ∙ (ap (λ es. losses (loses old) (drop (length front) es)) m.grown
      ∙ ap (losses (loses old))
      (dropped (transcript old.cabling) m.added (length front)
      (ap length front_is ∙ sym (length-map old.cabling.lines (entry_at old.cabling.kept)))))

  ends_with : IsTrue (list_all (is_loss (losses (loses old) m.added)) l.added)
  ends_with = subst (λ ss. IsTrue (list_all (is_loss ss) l.added)) these (all_losses _ l.added l.losses)

  grown : happened new ≡ happened old ++ (m.added ++ l.added)
  grown = l.grown ∙ (ap (λ es. es ++ l.added) m.grown ∙ append_assoc (transcript old.cabling) m.added l.added)

  pub plays_to : AddsAllowed old new
  plays_to = record {
    added = m.added ++ l.added;
    grown = grown;
    played = ended_played old.cabling.seats (loses old) (happened old) m.added l.added m.played ends_with;
    seats = l.seats ∙ m.seats;
    limit = l.limit ∙ m.limit;
    own = stays.own;
    ranges = stays.ranges;
    losing = stays.losing;
  }

  pub plays_done : IsTrue (are_gone (losses_since losing (length front) mid) new.cabling) → PlaysOn taken old new
  unfolding plays_to
  plays_done gone =
      let none = lost_takes (losses (loses old) m.added) l.added ends_with in
      let sum = count-append is_took m.added l.added in
      record {
        plays = plays_to;
        takes = omega (arith, sum, none, m.takes);
        lost =
            subst (λ ss. not (list_any (λ (p : Pair). is_in ss p.frame.stamp)
            (pending old.cabling.seats (happened old ++ (m.added ++ l.added)))) ≡ true)
            (these ∙ sym (same_losses old.cabling.seats (loses old) m.added l.added ends_with))
            (subst (λ t. not (list_any
            (λ (p : Pair). is_in (losses_since losing (length front) mid) p.frame.stamp) (pending old.cabling.seats t)) ≡ true)
            grown
            (subst (λ seats. not (list_any
            (λ (p : Pair). is_in (losses_since losing (length front) mid) p.frame.stamp) (pending seats (happened new))) ≡ true)
            (l.seats ∙ m.seats) gone));
      }

  -- What is to be lost of the entries before the losses is what is to be lost of all of them.
  pub due_now : are_gone (losses_since losing (length front) mid) new.cabling ≡ false → IsLossDue old new.cabling
  due_now due =
      let count = length old.cabling.lines in
      let whole : losses_since old.losing count new.cabling ≡ losses (loses old) m.added =
      ap (λ es. losses (loses old) (drop count es)) grown
      ∙ (ap (losses (loses old))
      (dropped (happened old) (m.added ++ l.added) count (sym (length-map old.cabling.lines (entry_at old.cabling.kept))))
      ∙ same_losses old.cabling.seats (loses old) m.added l.added ends_with) in
      subst (λ ss. are_gone ss new.cabling ≡ false) (these ∙ sym whole) due

-- A call that stopped before its losses.
pub plays_midst : (taken : ℕ) (old new : Wires) → Stays old new → Midst (loses old) taken old.cabling new.cabling → AddsAllowed old new
plays_midst taken old new stays m = record {
  added = m.added;
  grown = m.grown;
  played = m.played;
  seats = m.seats;
  limit = m.limit;
  own = stays.own;
  ranges = stays.ranges;
  losing = stays.losing;
}

-- A call that changed nothing.
pub plays_kept : (old new : Wires) → Stays old new → new.cabling ≡ old.cabling → AddsAllowed old new
plays_kept old new stays e = record {
  added = [];
  grown = ap transcript e ∙ sym (append-nil (happened old));
  played = nothing_played old.cabling.seats (loses old) (happened old);
  seats = ap (λ c. c.seats) e;
  limit = ap (λ c. c.limit) e;
  own = stays.own;
  ranges = stays.ranges;
  losing = stays.losing;
}

-- A frame was taken in the call.
pub taken_by : (old new : Wires) (mid : Cabling) (ss : List ℕ) (stamp station : ℕ) (Hears : Hearing → List Output → Type 0)
    → Takes old.cabling mid stamp station Hears → Loses ss mid new.cabling → IsTakenBy old new stamp station Hears
taken_by old new mid ss stamp station Hears x y = record {
  heard = record {
    pair = x.pair;
    was_pending = x.was_pending;
    of_stamp = x.of_stamp;
    of_station = x.of_station;
    put_out = x.put_out;
    hears = x.hears;
  };
  rest = x.rest ++ y.added;
  first = y.grown ∙ (ap (λ l. l ++ y.added) x.grown ∙ append_assoc (happened old) (Took stamp station ∷ x.rest) y.added);
}

-- ---- Outputs

-- The outputs of a lawful station can be sent.
pub sendable : (n : ℕ) (os : List Output) → All (IsGood n) os → Each IsSendable os
sendable n [] h = tt
sendable n (o ∷ os) h = (one o (h 0 o (omega arith)), sendable n os (All-tail (IsGood n) o os h))
  where
    one : (o : Output) → IsGood n o → IsSendable o
    one (output.Made port to bytes) g = g.1
    one (output.Passed port to bytes) g = tt
    one (output.Kept port bytes) g = tt
    one (output.Dropped cause bytes) g = tt
    one (output.Wire port to bytes) g = tt

-- ---- Errors

-- If the frame was pending, the call doesn't return NotPending.
pub never_says : (r : Result (Unit {0}) Error) (P : Type 0) → IfErr r (λ e. (e ≡ Full) ⊎ (e ≡ Memory)) → (P → ⊥)
    → (r ≡ Err NotPending) ↔ P
never_says r P h never = (λ q. absurd (differs r h q), λ p. absurd (never p))
  where
    differs : (r : Result (Unit {0}) Error) → IfErr r (λ e. (e ≡ Full) ⊎ (e ≡ Memory)) → r ≡ Err NotPending → ⊥
    differs (Ok x) h q = cc
    differs (Err e) (inl g) q = cc
    differs (Err e) (inr g) q = cc

-- What holds of an error that is Full where there is no room, and only there.
pub if_refused : {T P : Type 0} (r : Result T Error) (Q : Error → Type 0) → (r ≡ Err Full → P) → (r ≡ Err Memory → P → ⊥)
    → IfErr r (λ e. (e ≡ Full) ⊎ (e ≡ Memory)) → ((e : Error) → ((e ≡ Full) ↔ P) → Q e) → IfErr r Q
if_refused (Ok x) Q full memory refused f = tt
if_refused (Err e) Q full memory refused f = f e (
  λ same. full (ap Err same),
  λ none. elim refused [
    | inl is ↦ is
    | inr is ↦ absurd (memory (ap Err is) none)
  ],
)

-- The same where a fact holds after any error.
pub if_refused_due : {T P D : Type 0} (r : Result T Error) (Q : Error → Type 0) → (r ≡ Err Full → P) → (r ≡ Err Memory → P → ⊥)
    → IfErr r (λ e. (e ≡ Full) ⊎ (e ≡ Memory)) → OnErr r D → ((e : Error) → ((e ≡ Full) ↔ P) → D → Q e) → IfErr r Q
if_refused_due (Ok x) Q full memory refused due f = tt
if_refused_due (Err e) Q full memory refused due f =
    if_refused (Err e) Q full memory refused (λ e same. f e same due)

pub on_ok : {T E : Type 0} (r : Result T E) (P : Type 0) → P → OnOk r P
on_ok (Ok x) P h = h
on_ok (Err e) P h = tt
