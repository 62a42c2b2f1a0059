use Rattle.std.proofs.Common.{append_assoc, subst, sym}
use Rattle.cable_model.specs.Transcript.{ArePutOnce}
use Rattle.live_cables.proofs.Played.{lost_then}
use Rattle.live_cables.proofs.laws.losses_then.Goals as goal

pub returns : goal.returns
returns c = λ seats losing t a b n. lost_then seats losing t a b (subst ArePutOnce (sym (append_assoc t a b)) n)
