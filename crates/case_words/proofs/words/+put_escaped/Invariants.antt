use Rattle.std.proofs.Common.{length}
use Rattle.case_words.proofs.words.+put_escaped.Given as goal

abbrev pub decreases-put_escaped : goal.decreases-put_escaped
decreases-put_escaped l = length l.text.now
