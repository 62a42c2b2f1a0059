use Rattle.std.proofs.Common.{◌∙◌, ◌++◌, List, ℕ, Result, ap, length, sym}
use Rattle.at_base.specs.Limits.{max_cables, max_routers}
use Rattle.at_base.specs.Reading.{◌>>=◌}
use Rattle.table_image.specs.Contexts.{nothing}
use Rattle.table_image.specs.Spelling.{cable_spelling, router_spelling}
use Rattle.table_image.specs.declared.cable.Cable.{Cable}
use Rattle.table_image.specs.declared.flaw.Fault.{Fault}
use Rattle.image_feed.specs.Growing.{growth_on}
use Rattle.image_feed.specs.Parts.{cable_on, router_on}
use Rattle.image_feed.specs.Tables.{cables_part, context_of, image_head, nodes_part, routers_part}
use Rattle.image_feed.proofs.Leading.{growth_whole}
use Rattle.image_feed.proofs.Waiting.{wants_bind, wants_head}
use Rattle.image_feed.proofs.tables.Tables.wants.Goals as goal

pub returns-then-not-is_whole : goal.returns-then-not-is_whole
returns-then-not-is_whole c =
    let t = c.args.self.now in
    wants_head image_head t.head (λ h b. cables_part h.version t b) c.args.bytes.now c.wants.result (c.if-is_none.ensures {u = tt}) (λ h.
    wants_bind (λ x. routers_part h.version t x.0 x.1)
    (growth_on max_cables (cable_spelling h.version) (λ like s. cable_on h.version like s) t.cables.left t.cables.items.items t.cables.hint t.cables.next) c.args.bytes.now
    c.wants.result (c.wants.ensures max_cables (nothing h.version)))

pub returns-then-not-is_whole-2 : goal.returns-then-not-is_whole-2
returns-then-not-is_whole-2 c =
    let t = c.args.self.now in
    let cables = t.cables.items.items in
    let wanted = c.wants-then-not-is_whole-2 in
    wants_head image_head t.head (λ h b. cables_part h.version t b) c.args.bytes.now wanted.result (c.if-is_none.ensures {u = tt}) (λ h more few.
    ap (λ (m : Result (List Cable × List ℕ) Fault). m >>= λ x. routers_part h.version t x.0 x.1)
    (growth_whole max_cables (cable_spelling h.version) (λ like s. cable_on h.version like s) t.cables.left cables t.cables.hint t.cables.next
    (sym (c.if-not-is_whole.ensures {u = tt})) (c.args.bytes.now ++ more))
    ∙ wants_bind (λ x. nodes_part h.version t cables x.0 x.1)
    (growth_on max_routers (router_spelling h.version (length cables)) (λ like r. router_on h.version (length cables) like r) t.routers.left t.routers.items.items
    t.routers.hint t.routers.next) c.args.bytes.now wanted.result (wanted.ensures max_routers (context_of h.version cables)) more few)
