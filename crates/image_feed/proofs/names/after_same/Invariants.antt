use Rattle.std.proofs.Common.{◌≡◌, Ok, take}
use Rattle.image_feed.proofs.Passing.{names_at}
use Rattle.image_feed.proofs.names.after_same.Given as goal

abbrev pub invariant-loop-name : goal.invariant-loop-name
invariant-loop-name l = (l.count ≡ l.name-index) × (names_at l.count l.bytes ≡ Ok (take l.count l.names, l.rest))
