use Rattle.std.proofs.Common.{length}
use Rattle.drawing.proofs.labels.+put_text.Given as goal

abbrev pub decreases-put_text : goal.decreases-put_text
decreases-put_text l = length l.bytes.now
