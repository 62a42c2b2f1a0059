use Rattle.std.proofs.Common.{length}
use Rattle.command_line.proofs.arguments.+put_sources.Given as goal

abbrev pub decreases-put_sources : goal.decreases-put_sources
decreases-put_sources l = length l.texts.now
