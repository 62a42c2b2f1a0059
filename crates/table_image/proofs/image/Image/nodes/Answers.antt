use Rattle.table_image.proofs.Bounds.{image_bounded}
use Rattle.table_image.proofs.image.Image.nodes.Goals as goal

pub returns-clause-bounded : goal.returns-clause-bounded
returns-clause-bounded c = rw (← c.self.view_is) (image_bounded _ c.self.invariant)
