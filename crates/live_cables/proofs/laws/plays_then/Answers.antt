use Rattle.std.proofs.Common.{append_assoc, subst, sym}
use Rattle.cable_model.specs.Transcript.{ArePutOnce}
use Rattle.live_cables.proofs.Played.{played_then}
use Rattle.live_cables.proofs.laws.plays_then.Goals as goal

pub returns : goal.returns
returns c = λ seats losing t a b n. played_then seats losing t a b (subst ArePutOnce (sym (append_assoc t a b)) n)
