use Rattle.table_image.specs.Internet.{Internet, internet}
use Rattle.table_image.proofs.Made.{value_short, checked_first, fits_no_flaw}
use Rattle.table_image.proofs.image.written_len.Goals as goal

pub check_parts-requires : goal.check_parts-requires
check_parts-requires c = value_short (internet c.image.inside.version c.image.inside.cables c.image.inside.routers c.image.inside.nodes) c.image.invariant

pub returns-in-Err-clause-len : goal.returns-in-Err-clause-len
returns-in-Err-clause-len c =
    let i : Internet = internet c.image.inside.version c.image.inside.cables c.image.inside.routers c.image.inside.nodes in
    let first = checked_first i c.in-Err.field-0 (c.in-Err.ensures {u = tt}).checked in
    absurd (fits_no_flaw i c.in-Err.field-0 c.image.invariant first)
