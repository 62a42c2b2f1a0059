use Rattle.std.proofs.Common.{refl}
use Rattle.table_image.specs.Spelling.{front_spelling}
use Rattle.table_image.specs.Versions.{version_of}
use Rattle.table_image.proofs.passing.pass_front.Goals as goal

pub returns : goal.returns
unfolding front_spelling
returns c =
    let cables = rw (c.nothing-context.ensures, c.of.ensures) at c.in_ok-cables.ensures in (
      (version_of c.in_ok-number.number, cables.0),
      rw (c.in_ok-_magic.ensures, c.in_ok-number.ensures, cables.1) refl,
      rw (c.with_cables.ensures, c.nothing-context.ensures, c.of.ensures, cables.2) refl,
    )
