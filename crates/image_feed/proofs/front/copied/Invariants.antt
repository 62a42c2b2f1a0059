use Rattle.std.proofs.Common.{◌≡◌, take}
use Rattle.image_feed.proofs.front.copied.Given as goal

abbrev pub invariant-loop-part : goal.invariant-loop-part
invariant-loop-part g l = l.items.items ≡ take l.part-index l.parts
