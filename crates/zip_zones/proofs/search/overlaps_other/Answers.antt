use Rattle.std.proofs.Common.{sym, ◌∙◌}
use Rattle.at_base.proofs.Spans.{found_apart}
use Rattle.zip_zones.proofs.Tables.{others_only}
use Rattle.zip_zones.proofs.search.overlaps_other.Goals as goal

pub returns-in-Ok : goal.returns-in-Ok
returns-in-Ok c =
    let at = rw (c.in-Ok.is) at c.requires.found in
    sym (found_apart (λ k. k.range) c.args.range 0 c.args.lists.now at.item c.requires.map at.found).1

pub returns-in-Err : goal.returns-in-Err
returns-in-Err c =
    let before = rw (c.in-Err.is) at c.requires.missing in
    c.overlaps_list.ensures ∙ others_only c.args.range c.args.lists.now before.none
