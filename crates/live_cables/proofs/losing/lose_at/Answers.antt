use Rattle.std.proofs.Common.{IsTrue, subst, sym}
use Rattle.live_cables.proofs.Losses.{gone_none}
use Rattle.live_cables.specs.Steps.{are_gone}
use Rattle.live_cables.proofs.losing.lose_at.Goals as goal

-- The entry puts no frame on a cable that loses frames.
pub returns-in-None-clause-gone : goal.returns-in-None-clause-gone
returns-in-None-clause-gone c =
    let none = rw c.transcript.ensures.value at c.in-None.ensures.none in
    subst (λ ss. IsTrue (are_gone ss c.args.cables.now)) (sym none) (gone_none c.args.cables.now)
