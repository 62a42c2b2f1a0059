use Rattle.std.proofs.Common.{refl}
use Rattle.script.proofs.Progress.{skipped_more}
use Rattle.script.proofs.reader.Reader.skip_line.Goals as goal

pub returns : goal.returns
returns c = λ done line h skip. skipped_more c.args.self.now _ done line h skip refl c.next_number-self.ensures
