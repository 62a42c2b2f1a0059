use Rattle.std.proofs.Common.{rules, subst, sym, ap, map}
use Rattle.cable_model.specs.Logs.{transcript}
use Rattle.world.specs.Received.{AreReceived, got}
use Rattle.world.proofs.world.World.new.Goals as goal

pub invariant_of-result : goal.invariant_of-result
invariant_of-result g c = record {
  sound = search rules;
  seats = search rules;
  limit = search rules;
  ports = search rules;
  few = search rules;
  due = search rules;
  received =
      subst (λ t. AreReceived t (map got c.in_ok-stations.stations.items)) (sym (ap (λ w. transcript w.cabling) c.in_ok-wires.ensures.ok))
      c.in_ok-stations.ensures.received;
}
