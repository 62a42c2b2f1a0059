use Rattle.std.proofs.Common.{refl}
use Rattle.ddp.specs.Datagram.{datagram}
use Rattle.at_base.specs.Packets.{address, text}
use Rattle.nbp.specs.Packets.{packet, tuple}
use Rattle.legal_runs.specs.Requests.{request, zone_of}
use Rattle.legal_runs.proofs.LossExamples.{between_is_legal, forward_is_legal, lost_is_legal, skips_is_legal}
use Rattle.legal_runs.proofs.losses.the_losses_are_legal.Goals as goal

pub returns : goal.returns
unfolding request zone_of datagram packet tuple address text
returns c = record {
  lost = lost_is_legal;
  lost_once = (refl, refl, refl, refl);
  skips = skips_is_legal;
  reached_once = (refl, refl);
  between = between_is_legal;
  one_left = (refl, refl, refl);
  forward = forward_is_legal;
  forward_once = (refl, refl, refl, refl);
}
