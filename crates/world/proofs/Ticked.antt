-- The effect of a tick, from the effects of its steps.
use Rattle.std.proofs.Common.{◌≡◌, ◌⊎◌, ◌≤◌, inl, inr, ℕ, Bool, List, [], sym, ◌∙◌, subst, append-nil}
use Rattle.std.specs.Prelude.{IsTrue}
use Rattle.cable_model.specs.Pending.{pending}
use Rattle.cable_model.specs.Transcript.{ArePutOnce, count}
use Rattle.internet_file.specs.Files.{Planned}
use Rattle.live_cables.proofs.Played.{due_append, nothing_played}
use Rattle.live_cables.specs.Living.{Wires, happened}
use Rattle.live_cables.specs.Playing.{AreDue, IsPlayed, are_lost, is_took}
use Rattle.live_cables.specs.Steps.{loses_by}
use Rattle.planned_stations.specs.Seating.{plan_seats}
use Rattle.world.proofs.Going.{lost_same, played_same}
use Rattle.world.specs.Going.{Ends, AddsIfNumbered}
use Rattle.world.specs.Losing.{loses_at}
use Rattle.world.specs.Worlds.{Ticks, TicksOn}

-- Nothing happened.
pub ticks_none : (plan : Planned) (tick : ℕ) (w : Wires) → Ticks plan tick w w
ticks_none plan tick w = record {
  added = [];
  grown = sym (append-nil (happened w));
  played = nothing_played (plan_seats plan) (loses_at plan tick) (happened w);
}

module _ (plan : Planned) (tick : ℕ) (old new : Wires) (losing : List Bool)
    (same : (cable : ℕ) → loses_by losing cable ≡ loses_at plan tick cable) (seats : old.cabling.seats ≡ plan_seats plan)
    (once : ArePutOnce (happened new)) where
  by_goes : AddsIfNumbered (record old { losing = losing }) new → Ticks plan tick old new
  by_goes x = record {
    added = x.added;
    grown = x.grown;
    played =
        played_same (loses_by losing) (loses_at plan tick) same (plan_seats plan) (happened old) x.added
        (subst (λ s. IsPlayed s (loses_by losing) (happened old) x.added) seats (x.played once));
  }

  by_ends : Ends 10000 (record old { losing = losing }) new → TicksOn plan tick old new
  unfolding by_goes
  by_ends x = record {
    ticks = by_goes x.goes_on.goes;
    lost =
        lost_same (loses_by losing) (loses_at plan tick) same (plan_seats plan) (happened old) x.goes_on.goes.added
        (subst (λ s. IsTrue (are_lost s (loses_by losing) (happened old) x.goes_on.goes.added)) seats (x.goes_on.lost once));
    few = subst (λ n. n ≤ 10000) (sym x.goes_on.takes) x.few;
    ended = by x.ended;
  }
    where
      by : (pending new.cabling.seats (happened new) ≡ []) ⊎ (x.taken ≡ 10000)
          → (pending (plan_seats plan) (happened new) ≡ []) ⊎ (count is_took x.goes_on.goes.added ≡ 10000)
      by (inl none) = inl (subst (λ s. pending s (happened new) ≡ []) (x.goes_on.goes.seats ∙ seats) none)
      by (inr all) = inr (x.goes_on.takes ∙ all)

  -- The cables after it was set which of them lose frames.
  module _ (mid : Wires) (set : mid ≡ record old { losing = losing }) where
    pub ticks_goes : AddsIfNumbered mid new → Ticks plan tick old new
    ticks_goes x = by_goes (subst (λ w. AddsIfNumbered w new) set x)

    pub ticks_ends : Ends 10000 mid new → TicksOn plan tick old new
    ticks_ends x = by_ends (subst (λ w. Ends 10000 w new) set x)

-- Each frame that was taken was pending.
pub due_ticks : (plan : Planned) (tick : ℕ) (old new : Wires) → Ticks plan tick old new → AreDue (plan_seats plan) [] (happened old)
    → AreDue (plan_seats plan) [] (happened new)
due_ticks plan tick old new x due =
    subst (AreDue (plan_seats plan) []) (sym x.grown) (due_append (plan_seats plan) [] (happened old) x.added due x.played.due)
