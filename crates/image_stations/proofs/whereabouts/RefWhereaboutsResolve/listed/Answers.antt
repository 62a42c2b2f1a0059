use Rattle.std.proofs.Common.{ap, ◌∙◌, position}
use Rattle.std.specs.Option.{is_some}
use Rattle.table_image.specs.Internet.{Internet}
use Rattle.at_base.specs.Range.{is_between}
use Rattle.audit.proofs.Finding.{index_position}
use Rattle.image_stations.proofs.whereabouts.RefWhereaboutsResolve.listed.Goals as goal

pub returns : goal.returns
returns c =
    c.is_some.ensures
    ∙ ap is_some (c.home_of.ensures ∙ (ap (position (λ k. is_between k.start k.end c.args.net))
    (c.cables.ensures.value ∙ ap (λ (i : Internet). i.cables) c.image.ensures)
    ∙ index_position (λ k. is_between k.start k.end c.args.net) c.args.self.now.now.cables))
