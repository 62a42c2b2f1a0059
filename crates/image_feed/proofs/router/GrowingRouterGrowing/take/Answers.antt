use Rattle.image_feed.proofs.Anew.{router_new}
use Rattle.image_feed.proofs.router.GrowingRouterGrowing.take.Goals as goal

pub returns-clause-anew : goal.returns-clause-anew
returns-clause-anew c = λ context like bytes.
    router_new context.version context.cables like (record { ports = c.replace-ports.new.dest; rows = c.take-2.new.self; lists = c.take.new.self }) bytes
    (record {
      ports_left = rw c.replace-ports.ensures.after c.new-anew.ensures.left;
      ports = rw c.replace-ports.ensures.after c.new-anew.ensures.items;
      port = rw (c.replace-ports.ensures.after, c.new-anew.ensures.next) c.new.ensures;
      rows = c.take-2.ensures.anew;
      lists = (c.in_ok-lists.ensures {u = tt}).anew;
    })
