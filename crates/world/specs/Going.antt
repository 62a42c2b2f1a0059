-- The effects of a tick's steps on the cables.
use Rattle.std.specs.Prelude.{◌≡◌, ◌⊎◌, ℕ, ◌≤◌, IsTrue, List, [], ◌++◌, Result, Err, IfErr, OnOk}
use Rattle.at_base.specs.declared.error.Error.{Error}
use Rattle.at_base.specs.declared.error.Error.TheVariants.{Full, Memory}
use Rattle.cable_model.specs.Transcript.{ArePutOnce, Entry, count}
use Rattle.live_cables.specs.Living.{Wires, happened, loses}
use Rattle.live_cables.specs.Playing.{IsPlayed, are_lost, is_took}
use Rattle.live_cables.specs.Steps.{HasNoRoom}
use Rattle.cable_model.specs.Logs.{pending_on}

-- Entries that `IsPlayed` allows were added, while the seats, the limit, and which cables lose frames stayed the same;
-- addresses may have settled. That no two frames have the same stamp is a premise, so that steps can be combined before
-- it is known.
pub record AddsIfNumbered (old new : Wires) : Type 0 where
  pub added : List Entry
  pub grown : happened new ≡ happened old ++ added
  pub seats : new.cabling.seats ≡ old.cabling.seats
  pub limit : new.cabling.limit ≡ old.cabling.limit
  pub losing : new.losing ≡ old.losing
  pub played : ArePutOnce (happened new) → IsPlayed old.cabling.seats (loses old) (happened old) added

-- A step finished and added entries that `IsPlayed` allows: `taken` frames were taken, and all frames that were put on
-- cables that lose frames are lost.
pub record GoesOn (taken : ℕ) (old new : Wires) : Type 0 where
  pub goes : AddsIfNumbered old new
  pub takes : count is_took goes.added ≡ taken
  pub lost : ArePutOnce (happened new) → IsTrue (are_lost old.cabling.seats (loses old) (happened old) goes.added)

-- Frames were taken, by steps that finished, until none was pending or `most` were taken.
pub record Ends (most : ℕ) (old new : Wires) : Type 0 where
  pub taken : ℕ
  pub goes_on : GoesOn taken old new
  pub few : taken ≤ most
  pub ended : (pending_on new.cabling ≡ []) ⊎ (taken ≡ most)

-- What a step did, whether or not it finished: it is refused for lack of room for this many entries, or out of memory.
pub record Did {A : Type 0} (Done : Type 0) (room : ℕ) (old new : Wires) (result : Result A Error) : Type 0 where
  pub goes : AddsIfNumbered old new
  pub done : OnOk result Done
  pub full : result ≡ Err Full → HasNoRoom room new.cabling
  pub refused : IfErr result (λ e. (e ≡ Full) ⊎ (e ≡ Memory))
