-- A world that has settled stays so where no cable loses frames.
use Rattle.std.proofs.Common.{◌≡◌, ◌%◌, false, List, [], ◌∷◌, sym, subst, arith}
use Rattle.internet_file.specs.Files.{Planned}
use Rattle.lasting.proofs.Between.{others_at, others_later, same_self, same_then}
use Rattle.lasting.proofs.Run.{has_come, rests, run_on, stays_settled}
use Rattle.lasting.proofs.Unheld.{NoRouterWaits, none_held}
use Rattle.lasting.specs.Begun.{HasRun, IsNextTick}
use Rattle.lasting.specs.Resting.{AreOtherAfter, HasSameDistances, LosesNothingAfter, last_of}
use Rattle.lasting.specs.Settled.{AreEmptyTicks, IsCleanTick, IsEmptyTick, IsSettledWorld}
use Rattle.table_image.specs.declared.version.Version.TheVariants.{V1}
use Rattle.world.specs.Frozen.{frozen_as}
use Rattle.world.specs.Losing.{loses_at}
use Rattle.world.specs.Worlds.{Worldly}

-- no router waits after a tick
still_none : (w v : Worldly) → HasRun w → IsSettledWorld w → AreOtherAfter w.plan w.now → LosesNothingAfter w.plan w.now → IsEmptyTick w v
    → NoRouterWaits v
still_none w v run s others lossless t =
    let come = has_come w run in
    let now = t.next.now in
    none_held w v (w.now % 100) (rests w come s) run t.next (others_at w v t.next others) (λ cable. lossless v.now cable (omega (arith, now))) come.numbered
    t.pending

-- nor does a cable lose frames later on
pub lossless_later : (w v : Worldly) → IsNextTick w v → LosesNothingAfter w.plan w.now → LosesNothingAfter v.plan v.now
lossless_later w v t lossless tick cable lt =
    let now = t.now in
    subst (λ (p : Planned). loses_at p tick cable ≡ false) (sym t.plan) (lossless tick cable (omega (arith, now, lt)))

-- tick after tick
pub stays_without_loss : (w : Worldly) (vs : List Worldly) → HasRun w → IsSettledWorld w → AreOtherAfter w.plan w.now
    → LosesNothingAfter w.plan w.now → AreEmptyTicks w vs
    → IsSettledWorld (last_of w vs) × HasSameDistances (frozen_as V1 w) (frozen_as V1 (last_of w vs))
stays_without_loss w [] run s others lossless ticks = (s, same_self (frozen_as V1 w))
stays_without_loss w (v ∷ vs) run s others lossless (t, ticks) =
    let waits = still_none w v run s others lossless t in
    let clean : IsCleanTick w v = record { next = t.next; pending = t.pending; spared = λ seat k h e over. waits seat k h e } in
    let first = stays_settled w (v ∷ []) run s others (λ tick cable lt ages. lossless tick cable lt) (clean, tt) in
    let rest =
    stays_without_loss v vs (run_on w v run t.next) first.0 (others_later w v t.next others) (lossless_later w v t.next lossless) ticks in
    (rest.0, same_then (frozen_as V1 w) (frozen_as V1 v) (frozen_as V1 (last_of v vs)) first.1 rest.1)
