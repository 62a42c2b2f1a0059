use Rattle.atp.specs.InPlace.{packet_value}
use Rattle.atp.proofs.Requests.{heard_again, heard_new}
use Rattle.atp.proofs.responder.Responder.heard.Goals as goal

pub invariant_of-self : goal.invariant_of-self
invariant_of-self c =
    let s = rw c.as_slice.ensures.value at (c.in-Some.ensures {u = tt}).some in
    heard_again c.args.from c.args.packet.now.id c.self.inside.requests.items c.hear_again.new.requests.items
    c.hear_again.result s.0 s.1.found c.hear_again.ensures c.self.invariant

pub invariant_of-self-in-None : goal.invariant_of-self-in-None
invariant_of-self-in-None c =
    let none = rw c.as_slice.ensures.value at (c.in-None.ensures {u = tt}).none in
    let e = c.hear_new.ensures in
    heard_new c.args.from (packet_value c.args.packet.now) c.self.inside.requests.items c.hear_new.new.requests.items
    c.hear_new.result none e.ok e.full e.kept c.self.invariant
