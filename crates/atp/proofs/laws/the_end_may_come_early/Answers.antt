use Rattle.atp.proofs.CompleteExample.{is_complete, is_heard, last_is_missing, may_be_asked}
use Rattle.atp.proofs.laws.the_end_may_come_early.Goals as goal

pub returns : goal.returns
returns c = record { asked = may_be_asked; heard = is_heard; complete = is_complete; missing = last_is_missing }
