use Rattle.std.proofs.Common.{ap, length, List, ℕ, Result}
use Rattle.at_base.specs.Limits.{max_routers}
use Rattle.at_base.specs.Reading.{◌>>=◌}
use Rattle.table_image.specs.Spelling.{router_spelling}
use Rattle.table_image.specs.declared.flaw.Fault.{Fault}
use Rattle.table_image.specs.declared.router.Router.{Router}
use Rattle.image_feed.specs.Parts.{router_on}
use Rattle.image_feed.specs.Tables.{nodes_part}
use Rattle.image_feed.proofs.Anew.{router_new}
use Rattle.image_feed.proofs.Leading.{growth_hint}
use Rattle.image_feed.proofs.tables.Tables.expect_lists.Goals as goal

pub returns-then-is_new-clause-same : goal.returns-then-is_new-clause-same
returns-then-is_new-clause-same c = λ version cables bytes.
    (let was = c.args.self.now in
    ap (λ (m : Result (List Router × List ℕ) Fault). m >>= λ r. nodes_part version was cables r.0 r.1)
    (growth_hint max_routers (router_spelling version (length cables)) (λ like r. router_on version (length cables) like r) was.routers.left was.routers.items.items
    was.routers.hint c.router_like.result was.routers.next
    (λ like b. router_new version (length cables) like was.routers.next b (c.is_new.ensures c.if-is_new.true)) bytes))
