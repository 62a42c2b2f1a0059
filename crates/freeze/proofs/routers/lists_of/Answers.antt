use Rattle.std.proofs.Common.{◌++◌, ◌∙◌, ap, map, sym}
use Rattle.std.specs.Prelude.{option_to_list, slice_get}
use Rattle.freeze.proofs.Taken.{next_taken}
use Rattle.freeze.specs.Freezing.{frozen_list}
use Rattle.freeze.proofs.routers.lists_of.Goals as goal

pub loop-index-preserved : goal.loop-index-preserved
loop-index-preserved c =
    c.in_ok-put_list.ensures.put
    ∙ ap (λ xs. xs ++ map frozen_list (option_to_list (slice_get c.args.zones.now c.loop-index.index))) c.loop-index.invariant
    ∙ sym (next_taken frozen_list c.args.zones.now c.loop-index.index)
