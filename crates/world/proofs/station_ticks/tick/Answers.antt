use Rattle.std.proofs.Common.{List, ◌++◌, inr, ap, ◌∙◌, subst}
use Rattle.std.proofs.lemmas.Result.{IfErr-weaker, on_ok_weaker}
use Rattle.live_cables.specs.Living.{GivesInPart, Wires}
use Rattle.station.specs.declared.output.Output.{Output}
use Rattle.world.proofs.Going.{goes_on_settled, goes_plays, goes_plays_on, goes_settled}
use Rattle.world.proofs.station_ticks.tick.Goals as goal

pub returns-clause-did : goal.returns-clause-did
returns-clause-did g c = record {
  goes = goes_settled _ c.settle.new.wires _ c.settle.ensures.others (goes_plays _ _ c.give.ensures.plays);
  done =
      on_ok_weaker c.give.result
      (λ d. goes_on_settled _ c.settle.new.wires _ c.settle.ensures.others 0 (goes_plays_on 0 _ _ d)) c.give.ensures.done;
  full = c.give.ensures.full;
  refused = c.give.ensures.refused;
}

pub returns-clause-stopped : goal.returns-clause-stopped
returns-clause-stopped g c =
    let put = c.in-Ok-tick.ensures.ok in
    let set = c.settle.ensures.others ∙ ap (λ own. record c.args.wires.now { own = own }) c.settle.ensures.own in
    let all = put.grown ∙ ap (λ (os : List Output). os ++ put.added) c.in-Ok.ensures.ok in
    IfErr-weaker c.give.result _ _
    (λ e part. inr (record {
      outputs = put.added;
      left = c.give.new.outputs.items;
      ticks = put.holds;
      gives =
          subst (λ (w : Wires). GivesInPart e c.args.number put.added c.give.new.outputs.items w c.give.new.self) set
          (subst (λ (os : List Output). GivesInPart e c.args.number os c.give.new.outputs.items c.settle.new.wires c.give.new.self) all
          part);
    })) c.give.ensures.part
