use Rattle.std.proofs.Common.{◌≡◌, ap, refl, sym, ◌∙◌, Err, true, false}
use Rattle.at_base.specs.Spelling.{bytes_of}
use Rattle.table_image.specs.Internet.{Internet, internet}
use Rattle.table_image.specs.Reading.{refusal}
use Rattle.table_image.specs.Short.{is_short}
use Rattle.table_image.specs.Spelling.{image_spelling}
use Rattle.table_image.specs.declared.flaw.Flaw.{Flaw}
use Rattle.table_image.proofs.Made.{value_short, checked_first, fits_no_flaw}
use Rattle.table_image.proofs.Whole.{same_flaw}
use Rattle.table_image.proofs.image.Image.make.Goals as goal

pub returns-then-not-are_short-clause-made : goal.returns-then-not-are_short-clause-made
returns-then-not-are_short-clause-made c =
    λ h.
    let i : Internet = internet c.args.version c.args.cables.items c.args.routers.items c.args.nodes.items in
    let short : is_short i ≡ true = value_short i h in
    let long = rw (c.from_vec-cables.ensures, c.from_vec-routers.ensures, c.from_vec-nodes.ensures) at c.are_short.ensures in
    let impossible : false ≡ true = sym c.if-not-are_short.true ∙ (long ∙ short) in
    cc

pub returns-in-Ok-clause-first : goal.returns-in-Ok-clause-first
returns-in-Ok-clause-first c =
    λ short f h.
    let i : Internet = internet c.args.version c.args.cables.items c.args.routers.items c.args.nodes.items in
    let checked = rw (c.from_vec-cables.ensures, c.from_vec-routers.ensures, c.from_vec-nodes.ensures) at c.in-Ok.ensures.checked in
    absurd (fits_no_flaw i f checked.0 h)

pub returns-in-Err-clause-made : goal.returns-in-Err-clause-made
returns-in-Err-clause-made c =
    λ h.
    let i : Internet = internet c.args.version c.args.cables.items c.args.routers.items c.args.nodes.items in
    let checked = rw (c.from_vec-cables.ensures, c.from_vec-routers.ensures, c.from_vec-nodes.ensures) at c.in-Err.ensures.checked in
    fits_no_flaw i c.in-Err.flaw h (checked_first i c.in-Err.flaw checked)

pub returns-in-Err-clause-first : goal.returns-in-Err-clause-first
returns-in-Err-clause-first c =
    λ short f h.
    let i : Internet = internet c.args.version c.args.cables.items c.args.routers.items c.args.nodes.items in
    let checked = rw (c.from_vec-cables.ensures, c.from_vec-routers.ensures, c.from_vec-nodes.ensures) at c.in-Err.ensures.checked in
    ap (λ (g : Flaw). Err (refusal g)) (same_flaw (bytes_of image_spelling i) c.in-Err.flaw f (checked_first i c.in-Err.flaw checked) h)

pub returns-in-Err-clause-flaw : goal.returns-in-Err-clause-flaw
returns-in-Err-clause-flaw c =
    λ short.
    let i : Internet = internet c.args.version c.args.cables.items c.args.routers.items c.args.nodes.items in
    let checked = rw (c.from_vec-cables.ensures, c.from_vec-routers.ensures, c.from_vec-nodes.ensures) at c.in-Err.ensures.checked in
    (c.in-Err.flaw, checked_first i c.in-Err.flaw checked, refl)
