use Rattle.std.proofs.lemmas.Result.{IfErr-weaker}
use Rattle.live_cables.proofs.Calm.{puts_then}
use Rattle.live_cables.proofs.Parts.{given_more, refused_first}
use Rattle.live_cables.proofs.giving.+give_all.Goals as goal

pub returns-clause-puts : goal.returns-clause-puts
returns-clause-puts t c = puts_then _ _ _ c.give.ensures.puts c.give_all.ensures.puts

pub returns-in-Err-clause-part : goal.returns-in-Err-clause-part
returns-in-Err-clause-part t c = refused_first c.args.station c.in-Some.output c.pop.new.self.items c.args.outputs.now.items
    (c.args.cables.now, c.args.near.now) (c.give.new.cables, c.give.new.near) c.in-Err.error c.in-Some.ensures.some
    (c.in-Err.ensures.kept, c.in-Err.ensures.near_stays) (λ none. let fine = (c.in-Err.ensures.ignored none).0 in cc) c.in-Err.ensures.full

pub returns-clause-part : goal.returns-clause-part
returns-clause-part t c =
    IfErr-weaker c.give_all.result _ _
    (λ e rest. given_more c.args.station c.in-Some.output c.args.outputs.now.items e c.pop.new.self.items _ _
    (c.give.new.cables, c.give.new.near) _ c.in-Some.ensures.some c.in-Ok.ensures.given rest)
    c.give_all.ensures.part
