-- The exact effect of a whole call on live cables.
use Rattle.std.proofs.Common.{◌≡◌, ℕ, Bool, IsTrue, List, length, slice_get, subst}
use Rattle.aarp.specs.Mapping.{shed, to_ask}
use Rattle.cable_model.specs.Logs.{Cabling}
use Rattle.cable_model.specs.declared.entry.Entry.{Entry as Line}
use Rattle.live_cables.specs.Finding.{Knowing, held_at}
use Rattle.live_cables.specs.Holding.{AreShed, with_tick}
use Rattle.live_cables.specs.Living.{GivesOut, PassesFor, Stays, TakesIn, Wires, knowing}
use Rattle.live_cables.specs.Putting.{AreAsked, AreGiven}
use Rattle.live_cables.specs.Steps.{HasNoRoom, Loses, are_gone, losses_since}
use Rattle.live_cables.specs.Taking.{IsTakenIn}
use Rattle.station.specs.Hearing.{Hearing}
use Rattle.station.specs.declared.output.Output.{Output}

-- The state of live cables before a call, under the names that the call gives its parts.
pub record AreNow (old : Wires) (lines : List Line) (losing : List Bool) : Type 0 where
  pub lines_are : lines ≡ old.cabling.lines
  pub losing_are : losing ≡ old.losing

module _ (old new : Wires) (lines : List Line) (losing : List Bool) (now : AreNow old lines losing) where
  pub loses_now : (mid lost : Cabling) → Loses (losses_since losing (length lines) mid) mid lost
      → Loses (losses_since old.losing (length old.cabling.lines) mid) mid lost
  loses_now mid lost loses =
      subst (λ l. Loses (losses_since l (length old.cabling.lines) mid) mid lost) now.losing_are
      (subst (λ l. Loses (losses_since losing (length l) mid) mid lost) now.lines_are loses)

  pub gone_now : (mid lost : Cabling) → IsTrue (are_gone (losses_since losing (length lines) mid) lost)
      → IsTrue (are_gone (losses_since old.losing (length old.cabling.lines) mid) lost)
  gone_now mid lost gone =
      subst (λ l. IsTrue (are_gone (losses_since l (length old.cabling.lines) mid) lost)) now.losing_are
      (subst (λ l. IsTrue (are_gone (losses_since losing (length l) mid) lost)) now.lines_are gone)

  pub gives_out : (station : ℕ) (outputs : List Output) (near : Knowing) (mid : Cabling × Knowing) → near ≡ knowing old station
      → AreGiven station outputs (old.cabling, near) mid → Loses (losses_since losing (length lines) mid.0) mid.0 new.cabling
      → new.maps ≡ mid.1.maps → Stays old new → GivesOut station outputs old new
  gives_out station outputs near mid is given loses after stays = (
    mid,
    subst (λ k. AreGiven station outputs (old.cabling, k) mid) is given,
    loses_now mid.0 new.cabling loses,
    after,
    stays,
  )

  pub takes_in : (stamp station ports : ℕ) (Hears : Hearing → List Output → Type 0) (near : Knowing) (mid : Cabling × Knowing)
      → (HasNoRoom 1285 old.cabling → ⊥) → near ≡ knowing old station → IsTakenIn stamp station ports Hears (old.cabling, near) mid
      → Loses (losses_since losing (length lines) mid.0) mid.0 new.cabling → new.maps ≡ mid.1.maps → Stays old new
      → TakesIn stamp station ports Hears old new
  takes_in stamp station ports Hears near mid room is taken loses after stays = (
    room,
    mid,
    subst (λ k. IsTakenIn stamp station ports Hears (old.cabling, k) mid) is taken,
    loses_now mid.0 new.cabling loses,
    after,
    stays,
  )

  pub passes_for : (seat : ℕ) (asked lost : Cabling)
      → AreAsked (slice_get old.cabling.seats seat) (slice_get old.own seat) (to_ask (held_at old.maps seat)) old.cabling asked
      → Loses (losses_since losing (length lines) asked) asked lost
      → AreShed (shed (held_at old.maps seat)) lost new.cabling → new.maps ≡ with_tick old.maps seat → Stays old new
      → PassesFor seat old new
  passes_for seat asked lost asks loses sheds after stays = (asked, asks, lost, loses_now asked lost loses, sheds, after, stays)
