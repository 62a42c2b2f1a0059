use Rattle.std.proofs.Common.{[], rules}
use Rattle.commands.proofs.Images.{image_named, image_refused, image_unread, unflawed}
use Rattle.commands.proofs.image_input.read_image.Goals as goal

pub read_into-requires-clause-begun : goal.read_into-requires-clause-begun
read_into-requires-clause-begun g c = unflawed c.in-Ok.feed [] c.in-Ok.ensures.open c.in-Ok.ensures.ok

pub returns-in-Err-Unread-clause-read : goal.returns-in-Err-Unread-clause-read
returns-in-Err-Unread-clause-read g c =
    let at = c.in-Err-Unread.ensures.unread c.in-Err-Unread.reason c.in-Err-Unread.reads c.in-Err-Unread.field-0-is in
    image_unread _ _ (g.R.Read.remaining c.read_into.new.input) c.unread.result c.unread.ensures.error (search rules) at.2
    c.in-Err-Unread.ensures.no_more

pub returns-clause-named : goal.returns-clause-named
returns-clause-named g c =
    let at = c.in-Err-Refused.ensures.refused c.in-Err-Refused.error c.in-Err-Refused.field-0-is in
    image_named at.0 c.flawed-in-Err-Refused.result c.in-Err-Refused.error (search rules) at.1

pub returns-clause-read : goal.returns-clause-read
returns-clause-read g c =
    let at = c.in-Err-Refused.ensures.refused c.in-Err-Refused.error c.in-Err-Refused.field-0-is in
    image_refused _ _ (g.R.Read.remaining c.read_into.new.input) at.0 c.flawed-in-Err-Refused.result c.in-Err-Refused.error (search rules)
    (search rules) at.1 at.2 c.in-Err-Refused.ensures.no_more
