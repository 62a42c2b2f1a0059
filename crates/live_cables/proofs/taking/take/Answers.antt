use Rattle.std.proofs.Common.{None, Some, refl, subst, sym, ◌∙◌}
use Rattle.std.proofs.lemmas.Result.{on_ok_weaker}
use Rattle.live_cables.specs.Finding.{places_of}
use Rattle.live_cables.specs.Holding.{Holds}
use Rattle.live_cables.specs.Putting.{IsAnswer}
use Rattle.live_cables.proofs.Answered.{few_either, taken_plain, told_nowhere}
use Rattle.live_cables.proofs.Calm.{takes_of}
use Rattle.live_cables.proofs.Released.{adds_none}
use Rattle.live_cables.proofs.taking.take.Goals as goal

pub returns-in_default-clause-taken : goal.returns-in_default-clause-taken
returns-in_default-clause-taken g c =
    let is = subst (IsAnswer c.args.cables.now c.args.stamp c.args.station) c.in_default.is c.answer_of.ensures in
    on_ok_weaker c.take.result
    (taken_plain c.args.stamp c.args.station _ _ c.args.cables.now c.take.new.self c.args.near.now c.take.new.resolver None is
    (adds_none c.take.new.self, refl)) c.take.ensures.ok

pub returns-in_default-clause-takes : goal.returns-in_default-clause-takes
returns-in_default-clause-takes g c =
    on_ok_weaker c.take.result
    (takes_of places_of Holds _ c.args.cables.now c.take.new.self c.args.stamp c.args.station _ c.args.near.now c.take.new.resolver)
    c.take.ensures.ok

pub returns-in_default-clause-few : goal.returns-in_default-clause-few
returns-in_default-clause-few g c =
    few_either c.args.stamp c.args.station _ _ c.args.cables.now c.take.new.self c.args.near.now c.take.new.resolver c.take.result
    c.take.ensures.ok c.take.ensures.resolver_stays c.requires.few

pub returns-in-None-clause-taken : goal.returns-in-None-clause-taken
returns-in-None-clause-taken g c =
    let is = subst (IsAnswer c.args.cables.now c.args.stamp c.args.station) c.in-Some.is c.answer_of.ensures in
    let none = sym c.index_by.ensures ∙ c.in-None.is in
    on_ok_weaker c.take-in-None.result
    (taken_plain c.args.stamp c.args.station _ _ c.args.cables.now c.take-in-None.new.self c.args.near.now c.take-in-None.new.resolver
    (Some c.in-Some.answer) is
    (told_nowhere c.args.near.now c.args.station c.in-Some.answer (c.take-in-None.new.self, c.take-in-None.new.resolver.maps) none))
    c.take-in-None.ensures.ok

pub returns-in-None-clause-takes : goal.returns-in-None-clause-takes
returns-in-None-clause-takes g c =
    on_ok_weaker c.take-in-None.result
    (takes_of places_of Holds _ c.args.cables.now c.take-in-None.new.self c.args.stamp c.args.station _ c.args.near.now
    c.take-in-None.new.resolver) c.take-in-None.ensures.ok

pub returns-in-None-clause-few : goal.returns-in-None-clause-few
returns-in-None-clause-few g c =
    few_either c.args.stamp c.args.station _ _ c.args.cables.now c.take-in-None.new.self c.args.near.now c.take-in-None.new.resolver
    c.take-in-None.result c.take-in-None.ensures.ok c.take-in-None.ensures.resolver_stays c.requires.few
