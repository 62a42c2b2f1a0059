use Rattle.std.proofs.Common.{length}
use Rattle.cabled.proofs.dressing.+dress_all.Given as goal

abbrev pub decreases-dress_all : goal.decreases-dress_all
decreases-dress_all l = length l.outputs.now.items
