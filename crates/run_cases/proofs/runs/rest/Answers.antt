use Rattle.std.proofs.Common.{Bool, Err, IfOk, Ok, Result, true, ◌≡◌}
use Rattle.at_base.specs.declared.error.Error.{Error}
use Rattle.frozen.specs.Promises.{IsAtRest}
use Rattle.frozen.specs.Runs.{Running}
use Rattle.run_cases.proofs.runs.rest.Goals as goal

-- What follows where nothing is left.
rested : (r : Result Bool Error) (new : Running) (X : Type 0) → IfOk r (λ none_left. none_left ≡ true → IsAtRest new)
    → (IsAtRest new → X) → IfOk r (λ none_left. none_left ≡ true → X)
rested (Ok none_left) new X at_rest follows = λ none. follows (at_rest none)
rested (Err e) new X at_rest follows = tt

pub returns-clause-reached : goal.returns-clause-reached
returns-clause-reached g c =
    rested c.drain.result c.drain.new.self _ c.drain.ensures.at_rest
    (λ still over b cable there. c.what_a_yes_promises.ensures.reached c.drain.new.self b cable over still there)

pub returns-clause-heard : goal.returns-clause-heard
returns-clause-heard g c =
    rested c.drain.result c.drain.new.self _ c.drain.ensures.at_rest
    (λ still over lossless b cable s found.
    c.what_a_yes_promises_with_resolution.ensures.heard c.drain.new.self b cable s over lossless still found)

pub returns-clause-looked_up : goal.returns-clause-looked_up
returns-clause-looked_up g c =
    rested c.drain.result c.drain.new.self _ c.drain.ensures.at_rest
    (λ still over only k. c.what_a_yes_promises.ensures.looked_up c.drain.new.self k over still only)
