use Rattle.std.proofs.Common.{◌||◌, ◌∙◌, ap, sym}
use Rattle.live_cables.specs.Steps.{loses_by}
use Rattle.world.proofs.Losses.{fresh_loses, none_loses}
use Rattle.world.specs.Losing.{loses_in}
use Rattle.world.proofs.losing.losing_by.Goals as goal

pub returns-then-not-any_is_on-clause-losing : goal.returns-then-not-any_is_on-clause-losing
returns-then-not-any_is_on-clause-losing c =
    λ cable. ap (λ l. loses_by l cable) c.new-losing.ensures.items
    ∙ none_loses c.args.now c.args.losses.now cable (sym c.any_is_on.ensures ∙ c.if-not-any_is_on.true)

pub returns-clause-losing : goal.returns-clause-losing
returns-clause-losing c =
    λ cable. c.mark_all.ensures cable
    ∙ ap (λ b. b || loses_in c.args.now c.args.losses.now cable)
    (ap (λ l. loses_by l cable) c.in_ok-resize.ensures.items ∙ fresh_loses _ c.new-losing.ensures.items _ _ cable)
