use Rattle.std.proofs.Common.{arith}
use Rattle.aarp.proofs.listing.recall_fit.Goals as goal

pub returns : goal.returns
returns c = record { net = omega arith; node = omega arith; hardware = c.as_slice-six.ensures.six }
