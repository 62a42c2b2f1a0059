use Rattle.std.proofs.Common.{refl}
use Rattle.table_image.specs.Spelling.{counted, port_spelling, router_spelling}
use Rattle.table_image.proofs.router.RouterItem.written_alike.Goals as goal

pub returns : goal.returns
unfolding router_spelling counted port_spelling
returns c = λ context low x. refl
