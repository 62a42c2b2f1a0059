-- Calls on live cables where no frame is lost.
use Rattle.std.proofs.Common.{◌≡◌, ◌↔◌, ℕ, ◌<◌, Bool, true, false, ◌&&◌, List, [], Result, Ok, Err, refl, sym, ap, ◌∙◌, subst, true≢false}
use Rattle.std.specs.Prelude.{IsOk, OnErr, OnOk, nat_lt}
use Rattle.std.specs.List.{list_any}
use Rattle.at_base.specs.declared.error.Error.{Error}
use Rattle.at_base.specs.declared.error.Error.TheVariants.{Full, NotPending}
use Rattle.cable_model.specs.Logs.{Cabling}
use Rattle.cable_model.specs.Outgoing.{IsSent}
use Rattle.live_cables.specs.Finding.{Knowing, places_of}
use Rattle.live_cables.specs.Holding.{Holds}
use Rattle.live_cables.specs.Living.{IsSentOver, Stays, TakesStill, Wires, knowing}
use Rattle.live_cables.specs.Taking.{IsTakenIn}
use Rattle.live_cables.proofs.Knows.{knows_sent}
use Rattle.live_cables.proofs.NoRoom.{not_crowded}
use Rattle.live_cables.proofs.Whole.{IsWhole, is_knowing, stays_known, whole_known, wires}
use Rattle.station.specs.Hearing.{Hearing}
use Rattle.station.specs.declared.output.Next.{Next}
use Rattle.station.specs.declared.output.Output.{Output}

-- ---- A take

-- A call that is Ok is no error.
pub no_error : {T E : Type 0} (r : Result T E) (e : E) → IsOk r → r ≡ Err e → ⊥
no_error (Ok x) e is says = cc
no_error (Err x) e is says = true≢false (sym is)

pub on_no_error : {T E : Type 0} (r : Result T E) (P : Type 0) → IsOk r → OnErr r P
on_no_error (Ok x) P is = tt
on_no_error (Err x) P is = absurd (true≢false (sym is))

-- No cable loses frames.
pub none_loses : (losing all : List Bool) → losing ≡ all → all ≡ [] → list_any (λ loses. loses) losing ≡ false
none_loses losing all is none = ap (list_any (λ loses. loses)) (is ∙ none)

not_both : (r : Result (Unit {0}) Error) → r ≡ Err Full → r ≡ Err NotPending → ⊥
not_both (Ok x) full pending = cc
not_both (Err e) full pending = cc

-- A take whose pending frame has room isn't Full, and a take is Full only where its frame is pending and has no room.
pub full_when : (r : Result (Unit {0}) Error) (limit lines : ℕ) (named : Bool) → ((r ≡ Err NotPending) ↔ (named ≡ false))
    → (r ≡ Err Full → limit < lines) → (nat_lt limit lines && named) ≡ false
    → (r ≡ Err Full) ↔ ((named ≡ true) × (limit < lines))
full_when r limit lines named pending full free =
    (λ e. (by named refl e, full e), λ h. absurd (not_crowded limit lines named free h.0 h.1))
  where
    by : (b : Bool) → named ≡ b → r ≡ Err Full → named ≡ true
    by true is e = is
    by false is e = absurd (not_both r e (pending.1 is))

-- A frame was taken, and then nothing was lost.
pub takes_still : (old new : Wires) (stamp station ports : ℕ) (Hears : Hearing → List Output → Type 0) (near : Knowing)
    (taken : Cabling) (after : Knowing) → near ≡ knowing old station
    → IsTakenIn stamp station ports Hears (old.cabling, near) (taken, after) → new.cabling ≡ taken → new.maps ≡ after.maps
    → Stays old new → TakesStill stamp station ports Hears old new
takes_still old new stamp station ports Hears near taken after is took same maps stays = (
  after,
  subst (λ c. IsTakenIn stamp station ports Hears (old.cabling, knowing old station) (c, after)) (sym same)
      (subst (λ k. IsTakenIn stamp station ports Hears (old.cabling, k) (taken, after)) is took),
  maps,
  stays,
)

-- ---- A send

module _ (c d : Cabling) (k f l : Knowing) (losing : List Bool) (station : ℕ) (faces : f ≡ record k { station = station }) where
  pub sent_over : (cable : ℕ) (next : Next) (bytes : List ℕ) → k.seats ≡ c.seats
      → IsSent places_of Holds c d cable station next bytes f l
      → IsSentOver station cable next bytes (wires c k losing) (wires d l losing)
  sent_over cable next bytes seats x = (
    l,
    subst (λ n. IsSent places_of Holds c d cable station next bytes n l) (is_knowing c k f losing station faces seats) x,
    refl,
    stays_known c d k f l losing station faces (knows_sent c d cable station next bytes f l x),
  )

  -- A send that was refused changed nothing.
  pub kept_by : d ≡ c → l ≡ f → wires d l losing ≡ wires c k losing
  kept_by same known =
      ap (λ x. wires x l losing) same ∙ (ap (λ x. wires c x losing) known ∙ ap (λ x. wires c x losing) faces)

pub whole_sent : (most : ℕ) (c d : Cabling) (f l : Knowing) (cable station : ℕ) (next : Next) (bytes : List ℕ)
    (r : Result (Unit {0}) Error) → IsWhole most c f → OnOk r (IsSent places_of Holds c d cable station next bytes f l)
    → OnErr r (d ≡ c) → OnErr r (l ≡ f) → IsWhole most d l
whole_sent most c d f l cable station next bytes (Ok x) whole sent same known =
    whole_known most c d f l whole (knows_sent c d cable station next bytes f l sent) sent.entries.seats sent.entries.limit
    (sent.entries.rooms ∙ whole.3)
whole_sent most c d f l cable station next bytes (Err e) whole sent same known =
    subst (IsWhole most d) (sym known) (subst (λ x. IsWhole most x f) (sym same) whole)
