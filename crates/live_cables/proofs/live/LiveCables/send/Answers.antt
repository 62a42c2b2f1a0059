use Rattle.std.proofs.lemmas.Result.{on_ok_weaker}
use Rattle.live_cables.proofs.Still.{sent_over, whole_sent}
use Rattle.live_cables.proofs.Whole.{faced}
use Rattle.live_cables.proofs.live.LiveCables.send.Goals as goal

pub invariant_of-self : goal.invariant_of-self
invariant_of-self c =
    whole_sent c.self.inside.limit c.self.inside.cables c.send.new.self c.face.new.self c.send.new.resolver c.args.cable c.args.station
    c.args.next c.args.bytes c.send.result
    (faced c.self.inside.limit c.self.inside.cables c.self.inside.near c.face.new.self c.args.station c.face.ensures c.self.invariant)
    c.send.ensures.ok c.send.ensures.kept c.send.ensures.resolver_stays

pub returns-clause-sent : goal.returns-clause-sent
returns-clause-sent c =
    rw (← c.self.view_is)
    (on_ok_weaker c.send.result
    (sent_over c.self.inside.cables c.send.new.self c.self.inside.near c.face.new.self c.send.new.resolver c.self.inside.losing.items
    c.args.station c.face.ensures c.args.cable c.args.next c.args.bytes c.self.invariant.0) c.send.ensures.ok)
