-- In a seat's tick each address for which something is held there is asked for: so all that stays held is waited for.
use Rattle.std.proofs.Common.{◌≡◌, ◌⊎◌, inl, inr, ℕ, zero, suc, ◌<◌, ◌==◌, ◌&&◌, true, false, List, [], ◌∷◌, Option, Some, drop, length}
use Rattle.std.proofs.Common.{refl, sym, ap, ◌∙◌, subst, slice_get, arith, eq-eqb, true≢false}
use Rattle.std.proofs.lemmas.Bool.{and_from, cases_eq}
use Rattle.aarp.specs.Choosing.{Choice}
use Rattle.aarp.specs.Mapping.{to_ask}
use Rattle.aarp.specs.declared.held.Held.{Held as Waiter}
use Rattle.at_base.specs.Multicast.{all_hw}
use Rattle.at_base.specs.declared.address.Addr.{Addr}
use Rattle.audit.proofs.WalkLists.{At}
use Rattle.cable_model.specs.Logs.{Cabling, transcript}
use Rattle.cable_model.specs.Outcomes.{has_cable, is_seated}
use Rattle.cable_model.specs.Transcript.{Frame, next_stamp}
use Rattle.cable_model.specs.declared.seat.Seat.{Seat}
use Rattle.lasting.proofs.Awaiting.{AreWaited, IsUnderWay, Owns, request_waits, way_later}
use Rattle.lasting.proofs.Given.{IsFineStep, asked_all as asks_step, asked_one as ask_step, lost_step, no_losses, shed_all as sheds_step, step_then}
use Rattle.lasting.proofs.Numbered.{passes_counts, still_counted}
use Rattle.lasting.proofs.Numbering.{AreCounted}
use Rattle.lasting.proofs.Packed.{size}
use Rattle.lasting.proofs.Speaking.{calm_below}
use Rattle.lasting.proofs.Stored.{ticked_after, ticked_other}
use Rattle.lasting.specs.Resting.{IsBelow}
use Rattle.live_cables.proofs.Pending.{Has, has_any}
use Rattle.live_cables.specs.Finding.{held_at, own_or_none}
use Rattle.live_cables.specs.Holding.{with_tick}
use Rattle.live_cables.specs.Living.{PassesFor, Wires, happened}
use Rattle.live_cables.specs.Putting.{AreAsked, IsAsked}
use Rattle.live_cables.specs.Steps.{loses_by}
use Rattle.station.specs.declared.heard.Kind.TheVariants.{Aarp}

-- nothing is excused
abbrev pub nobody : Seat → Addr → Seat → Type 0
nobody s a z = ⊥

-- a fact that holds of every frame
abbrev any_frame : Frame → Type 0
any_frame f = Unit {0}

-- The cables have these seats and lose no frames, frames are numbered, and at the seats below a bound what is held for another
-- router's address on the cable is waited for.
pub record AreAwaited (seats : List Seat) (ports : ℕ → List Choice) (routers bound : ℕ) (w : Wires) : Type 0 where
  pub same : w.cabling.seats ≡ seats
  pub lossless : (cable : ℕ) → loses_by w.losing cable ≡ false
  pub counted : AreCounted (happened w)
  pub waited : AreWaited seats ports routers nobody bound (happened w) w.maps

module _ (seats : List Seat) (ports : ℕ → List Choice) (routers : ℕ) where
  -- ---- Requests

  -- a request that goes out is under way
  asked_one : (s : Seat) (own : Option (Option Addr)) (a : Addr) (old new : Cabling) → old.seats ≡ seats → Has seats s → IsBelow (transcript old)
      → IsAsked (Some s) own a old new → (z : Seat) → Owns seats ports routers s a z → IsUnderWay seats (transcript new) s a z
  asked_one s own a old new same has below (bytes, spelled, inl adds) z owner =
      let f : Frame =
      record { stamp = next_stamp (transcript old); cable = s.cable; sender = s.station; to = all_hw; kind = Aarp; bytes = bytes } in
      subst (λ l. IsUnderWay seats l s a z) (sym adds.added)
      (request_waits seats ports routers (transcript old) f s a z below refl
      (record { kind = refl; own = own_or_none own; spelled = spelled }) refl refl refl owner)
  asked_one s own a old new same has below (bytes, spelled, inr (stays, inr long)) z owner =
      let len = ap length spelled.1 ∙ size _ spelled.0 in absurd (omega (arith, len, long))
  asked_one s own a old new same has below (bytes, spelled, inr (stays, inl (inl none))) z owner =
      let here : has_cable old.seats s.cable ≡ true =
      has_any (λ (x : Seat). x.cable == s.cable) old.seats s (subst (λ l. Has l s) (sym same) has) (eq-eqb s.cable s.cable refl) in
      absurd (true≢false (sym here ∙ none))
  asked_one s own a old new same has below (bytes, spelled, inr (stays, inl (inr none))) z owner =
      let here : is_seated old.seats s.cable s.station ≡ true =
      has_any (λ (x : Seat). x.cable == s.cable && x.station == s.station) old.seats s (subst (λ l. Has l s) (sym same) has)
      (and_from _ _ (eq-eqb s.cable s.cable refl) (eq-eqb s.station s.station refl)) in
      absurd (true≢false (sym here ∙ none))

  -- entries were added that end no pair
  abbrev Steps : Cabling → Cabling → Type 0
  Steps old new = IsFineStep any_frame (Unit {0}) old new

  -- what is under way stays so
  way_then : (old new : Cabling) (s z : Seat) (a : Addr) → Steps old new → IsUnderWay seats (transcript old) s a z
      → IsUnderWay seats (transcript new) s a z
  way_then old new s z a x w =
      subst (λ l. IsUnderWay seats l s a z) (sym x.grown) (way_later seats (transcript old) x.added s a z (x.calm tt) w)

  -- nothing ended has a number that is still to come
  below_then : (old new : Cabling) → Steps old new → IsBelow (transcript old) → IsBelow (transcript new)
  below_then old new x below = subst IsBelow (sym x.grown) (calm_below (transcript old) x.added below (x.calm tt))

  -- so is each of several
  asked_all : (s : Seat) (own : Option (Option Addr)) (addrs : List Addr) (a : Addr) (old new : Cabling) → old.seats ≡ seats → Has seats s
      → IsBelow (transcript old) → Has addrs a → AreAsked (Some s) own addrs old new → (z : Seat) → Owns seats ports routers s a z
      → IsUnderWay seats (transcript new) s a z
  asked_all s own [] a old new same has below h asks z owner = let g = h.1 in absurd cc
  asked_all s own (b ∷ more) a old new same has below h (mid, one, rest) z owner =
      of h (λ k e. asked_all s own more a mid new (first.seats ∙ same) has (below_then old mid first below) (k, e) rest z owner)
    where
      first : Steps old mid
      first = ask_step any_frame (Unit {0}) (Some s) own b old mid one

      of : Has (b ∷ more) a → ((k : ℕ) → At more k a → IsUnderWay seats (transcript new) s a z) → IsUnderWay seats (transcript new) s a z
      of (zero, e) again =
          let is : b ≡ a = cc in
          way_then mid new s z a (asks_step any_frame (Unit {0}) (Some s) own more mid new rest)
          (asked_one s own a old mid same has below (subst (λ c. IsAsked (Some s) own c old mid) is one) z owner)
      of (suc k, e) again = again k e

  -- ---- The tick of a seat

  -- what is held at the seat after it is waited for, and what is held at the seats before stays so
  pub seat_passes : (seat : ℕ) (old new : Wires) → PassesFor seat old new → AreAwaited seats ports routers seat old
      → AreAwaited seats ports routers (suc seat) new
  seat_passes seat old new h inv = by h
    where
      by : PassesFor seat old new → AreAwaited seats ports routers (suc seat) new
      by (asked, asks, lost, loses, sheds, maps, stays) = record {
        same = whole.seats ∙ inv.same;
        lossless = λ cable. ap (λ l. loses_by l cable) stays.losing ∙ inv.lossless cable;
        counted = still_counted old.cabling new.cabling inv.counted (passes_counts seat old new h);
        waited = λ j s e lt router x there z owner. inl (way j s e lt router x (subst (λ m. Has (held_at m j) x) maps there) z owner);
      }
        where
          first : Steps old.cabling asked
          first = asks_step any_frame (Unit {0}) _ _ _ old.cabling asked asks

          then : Steps asked new.cabling
          then =
              step_then any_frame (Unit {0}) asked lost new.cabling
              (lost_step any_frame (Unit {0}) _ asked lost (λ l. no_losses any_frame (Unit {0}) (loses_by old.losing) inv.lossless (drop (length old.cabling.lines) (transcript asked))) loses)
              (sheds_step any_frame (Unit {0}) _ lost new.cabling sheds)

          whole : Steps old.cabling new.cabling
          whole = step_then any_frame (Unit {0}) old.cabling asked new.cabling first then

          way : (j : ℕ) (s : Seat) → At seats j s → j < suc seat → s.station < routers → (x : Waiter) → Has (held_at (with_tick old.maps seat) j) x
              → (z : Seat) → Owns seats ports routers s x.next z → IsUnderWay seats (happened new) s x.next z
          way j s e lt router x there z owner =
              elim (cases_eq j seat) [
                | inl same ↦
                    let here : Has (held_at (with_tick old.maps seat) seat) x = subst (λ n. Has (held_at (with_tick old.maps seat) n) x) same there in
                    let es : At old.cabling.seats seat s = subst (λ l. At l seat s) (sym inv.same) (subst (λ n. At seats n s) same e) in
                    let asks_s = subst (λ o. AreAsked o (slice_get old.own seat) (to_ask (held_at old.maps seat)) old.cabling asked) es asks in
                    way_then asked new.cabling s z x.next then
                    (asked_all s (slice_get old.own seat) (to_ask (held_at old.maps seat)) x.next old.cabling asked inv.same (j, e) inv.counted.below
                    (ticked_after old.maps seat x here) asks_s z owner)
                | inr other ↦
                    let was : Has (held_at old.maps j) x = subst (λ l. Has l x) (ticked_other old.maps seat j (λ s. absurd (other s))) there in
                    of (inv.waited j s e (omega (arith, lt, other)) router x was z owner)
              ]
            where
              of : IsUnderWay seats (happened old) s x.next z ⊎ ⊥ → IsUnderWay seats (happened new) s x.next z
              of (inl w) = way_then old.cabling new.cabling s z x.next whole w
              of (inr bad) = absurd bad
