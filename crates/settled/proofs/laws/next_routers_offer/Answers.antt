use Rattle.settled.proofs.Next.{offered_by_next}
use Rattle.settled.proofs.laws.next_routers_offer.Goals as goal

pub returns : goal.returns
returns c = λ i r k router row ok settled er ek indirect. offered_by_next i ok settled r k router row er ek indirect
