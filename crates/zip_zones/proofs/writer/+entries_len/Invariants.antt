use Rattle.zip_zones.proofs.writer.+entries_len.Given as goal

abbrev pub decreases-entries_len : goal.decreases-entries_len
decreases-entries_len l = l.room
