-- The actions of a tick, one after the other.
use Rattle.std.proofs.Common.{◌≡◌, ℕ, zero, suc, List, [], ◌∷◌, ◌++◌, Some, refl, sym, subst, ◌∙◌}
use Rattle.internet_file.specs.Files.{Planned}
use Rattle.live_cables.specs.Living.{Wires}
use Rattle.live_node.specs.Living.{LivingNode}
use Rattle.live_router.specs.Living.{Living}
use Rattle.station.specs.declared.member.Member.{Member}
use Rattle.world.specs.Acting.{AreDone, IsOver, tick_of}
use Rattle.world.specs.Doing.{IsDone}
use Rattle.world.specs.Stopping.{AreFirstDone}

module _ (plan : Planned) (stations : List (Member Living LivingNode)) (now : ℕ) where
  -- one more action after those that were carried out
  pub one_more : (n : ℕ) (schedule between rest : List ℕ) (index : ℕ) (old mid new : Wires × List (ℕ × ℕ))
      → AreFirstDone plan stations now n schedule between old mid → between ≡ rest ++ index ∷ []
      → tick_of plan.actions index ≡ Some now → IsDone plan stations index mid new
      → AreFirstDone plan stations now (suc n) schedule rest old new
  one_more zero schedule between rest index old mid new f next due does =
      (rest, index, new, sym f.0 ∙ next, due, subst (λ o. IsDone plan stations index o new) f.1 does, (refl, refl))
  one_more (suc n) schedule between rest index old mid new (before, i, m, is, at, d, f) next due does =
      (before, i, m, is, at, d, one_more n before between rest index m mid new f next due does)

  -- no action is left
  pub all_done : (n : ℕ) (schedule left : List ℕ) (old new : Wires × List (ℕ × ℕ))
      → AreFirstDone plan stations now n schedule left old new → IsOver plan.actions now left
      → AreDone plan stations now n schedule left old new
  all_done zero schedule left old new f over = (f.0, f.1, subst (λ l. IsOver plan.actions now l) f.0 over)
  all_done (suc n) schedule left old new (before, i, m, is, at, d, f) over =
      (before, i, m, is, at, d, all_done n before left m new f over)
