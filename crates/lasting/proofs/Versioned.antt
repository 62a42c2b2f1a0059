-- A world that has settled stays so where no cable loses frames, by its image of either version.
use Rattle.std.proofs.Common.{List, [], ◌∷◌}
use Rattle.lasting.proofs.Between.{others_at, others_later, same_self, same_then}
use Rattle.lasting.proofs.Kept.{still_so}
use Rattle.lasting.proofs.Lossless.{lossless_later, stays_without_loss}
use Rattle.lasting.proofs.Run.{run_on}
use Rattle.lasting.proofs.Told.{settled_up, so_of}
use Rattle.lasting.proofs.Versions.{settled_down}
use Rattle.lasting.specs.Begun.{HasRun}
use Rattle.lasting.specs.Resting.{AreOtherAfter, HasSameDistances, LosesNothingAfter, last_of}
use Rattle.lasting.specs.Settled.{AreEmptyTicks, IsEmptyTick, IsSettledIn}
use Rattle.table_image.specs.declared.version.Version.{Version}
use Rattle.table_image.specs.declared.version.Version.TheVariants.{V1, V2}
use Rattle.world.specs.Frozen.{frozen_as}
use Rattle.world.specs.Worlds.{Worldly}

-- one tick, by the image of version 2
one_on : (w v : Worldly) → HasRun w → IsSettledIn V2 w → AreOtherAfter w.plan w.now → LosesNothingAfter w.plan w.now → IsEmptyTick w v
    → IsSettledIn V2 v × HasSameDistances (frozen_as V1 w) (frozen_as V1 v)
one_on w v run s others lossless t =
    let s1 = settled_down w s in
    let first = stays_without_loss w (v ∷ []) run s1 others lossless (t, tt) in
    let later = run_on w v run t.next in
    (settled_up v later first.0 (still_so w v run s1 (others_at w v t.next others) t.next later first.0 (so_of w run s1 s.passes)), first.1)

-- tick after tick
two_on : (w : Worldly) (vs : List Worldly) → HasRun w → IsSettledIn V2 w → AreOtherAfter w.plan w.now → LosesNothingAfter w.plan w.now
    → AreEmptyTicks w vs → IsSettledIn V2 (last_of w vs) × HasSameDistances (frozen_as V1 w) (frozen_as V1 (last_of w vs))
two_on w [] run s others lossless ticks = (s, same_self (frozen_as V1 w))
two_on w (v ∷ vs) run s others lossless (t, ticks) =
    let first = one_on w v run s others lossless t in
    let rest = two_on v vs (run_on w v run t.next) first.0 (others_later w v t.next others) (lossless_later w v t.next lossless) ticks in
    (rest.0, same_then (frozen_as V1 w) (frozen_as V1 v) (frozen_as V1 (last_of v vs)) first.1 rest.1)

-- by the image of either version: the distances are those of the image of version 1
pub stays_in_version : (version : Version) (w : Worldly) (vs : List Worldly) → HasRun w → IsSettledIn version w → AreOtherAfter w.plan w.now
    → LosesNothingAfter w.plan w.now → AreEmptyTicks w vs
    → IsSettledIn version (last_of w vs) × HasSameDistances (frozen_as V1 w) (frozen_as V1 (last_of w vs))
stays_in_version V1 w vs run s others lossless ticks = stays_without_loss w vs run s others lossless ticks
stays_in_version V2 w vs run s others lossless ticks = two_on w vs run s others lossless ticks
