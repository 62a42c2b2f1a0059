use Rattle.std.proofs.Common.{length}
use Rattle.tables_file.proofs.zone_list.+put_lists.Given as goal

abbrev pub decreases-put_lists : goal.decreases-put_lists
decreases-put_lists l = length l.cables.now
