use Rattle.atp.proofs.Lists.{eight}
use Rattle.atp.proofs.transaction.copy_parts.Goals as goal

pub returns-clause-ok : goal.returns-clause-ok
returns-clause-ok c =
    eight c.args.parts.now
    c.in_ok-copy_part.field-0 c.in_ok-copy_part-2.field-0 c.in_ok-copy_part-3.field-0 c.in_ok-copy_part-4.field-0
    c.in_ok-copy_part-5.field-0 c.in_ok-copy_part-6.field-0 c.in_ok-copy_part-7.field-0 c.in_ok-copy_part-8.field-0
    c.index-parts-0.result c.index-parts-1.result c.index-parts-2.result c.index-parts-3.result c.index-parts-4.result
    c.index-parts-5.result c.index-parts-6.result c.index-parts-7.result
    c.type_inv.parts
    (c.in_ok-copy_part.ensures.ok)
    (c.in_ok-copy_part-2.ensures.ok)
    (c.in_ok-copy_part-3.ensures.ok)
    (c.in_ok-copy_part-4.ensures.ok)
    (c.in_ok-copy_part-5.ensures.ok)
    (c.in_ok-copy_part-6.ensures.ok)
    (c.in_ok-copy_part-7.ensures.ok)
    (c.in_ok-copy_part-8.ensures.ok)
