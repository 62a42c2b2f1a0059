use Rattle.std.proofs.Common.{arith, suc}
use Rattle.std.proofs.lemmas.Result.{on_err_weaker}
use Rattle.live_cables.proofs.Parts.{asked_more, one_more}
use Rattle.live_cables.proofs.Calm.{puts_then}
use Rattle.live_cables.proofs.passing.+ask_all.Goals as goal

pub returns-in-Ok-clause-puts : goal.returns-in-Ok-clause-puts
returns-in-Ok-clause-puts t c = puts_then _ _ _ c.ask.ensures.puts c.ask_all.ensures.puts

pub returns-in-empty-clause-no_room : goal.returns-in-empty-clause-no_room
returns-in-empty-clause-no_room t c =
    λ some many none. absurd (let few = c.in-empty.len_below in omega (arith, few, many))

pub returns-in-Err-clause-no_room : goal.returns-in-Err-clause-no_room
returns-in-Err-clause-no_room t c = λ some many none. c.in-Err.ensures.no_room some none

pub returns-in-Ok-clause-no_room : goal.returns-in-Ok-clause-no_room
returns-in-Ok-clause-no_room t c = λ some many none. absurd (let refused = c.in-Ok.ensures.no_room some none in cc)

pub returns-in-Err-clause-part : goal.returns-in-Err-clause-part
returns-in-Err-clause-part t c = let some = c.in-len1-up.len_at_least in (0, omega (arith, some), c.in-Err.ensures.kept)

pub returns-in-Ok-clause-part : goal.returns-in-Ok-clause-part
returns-in-Ok-clause-part t c =
    on_err_weaker c.ask_all.result
    (λ rest. (
      suc rest.0,
      one_more _ _ c.in-len1-up.len_at_least rest.1,
      asked_more _ _ c.args.addrs.now rest.0 _ c.args.cables.now c.ask.new.cables c.ask_all.new.cables c.in-len1-up.len_at_least
          c.in-Ok.ensures.asked rest.2,
    ))
    c.ask_all.ensures.part
