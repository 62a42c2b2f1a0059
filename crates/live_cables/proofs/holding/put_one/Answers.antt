use Rattle.std.proofs.Common.{sym, subst}
use Rattle.live_cables.specs.Holding.{IsReleased}
use Rattle.live_cables.proofs.Released.{put_by, put_calm}
use Rattle.live_cables.proofs.holding.put_one.Goals as goal

pub returns-in-Some-clause-released : goal.returns-in-Some-clause-released
returns-in-Some-clause-released c =
    let put = c.put_held-put in
    subst (λ s. IsReleased c.args.hw s c.args.cables.now put.new.self) (sym c.in-Some.is)
    (put_by c.args.hw c.in-Some.stamp _ _ put.result put.ensures.ok put.ensures.not_pending put.ensures.refused put.ensures.kept)

pub returns-in-Some-clause-puts : goal.returns-in-Some-clause-puts
returns-in-Some-clause-puts c =
    put_calm c.args.hw c.in-Some.stamp _ _ c.put_held-put.result c.put_held-put.ensures.ok c.put_held-put.ensures.kept
