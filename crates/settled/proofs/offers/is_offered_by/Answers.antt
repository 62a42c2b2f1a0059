use Rattle.std.proofs.Common.{◌∙◌, List, ap, sym}
use Rattle.settled.proofs.Alike.{any_like, offered_by_none, offered_unless, offered_when}
use Rattle.settled.proofs.offers.is_offered_by.Goals as goal
use Rattle.table_image.specs.declared.row.Row.{Row}

pub returns-then-has_nearer : goal.returns-then-has_nearer
returns-then-has_nearer c =
    offered_when c.args.router.now c.args.row.now c.args.ports.now c.in-Some.offered.now (λ test.
    ap (λ (l : List Row). any_like l c.args.row.now test) (sym c.as_slice.ensures) ∙ c.in-Some.ensures test)
    c.has_nearer.result c.tells_on.result c.has_nearer.ensures c.if-has_nearer.true c.tells_on.ensures

pub returns-else-has_nearer : goal.returns-else-has_nearer
returns-else-has_nearer c =
    offered_unless c.args.router.now c.args.row.now c.args.ports.now c.in-Some.offered.now (λ test.
    ap (λ (l : List Row). any_like l c.args.row.now test) (sym c.as_slice.ensures) ∙ c.in-Some.ensures test)
    c.has_nearer.result c.has_nearer.ensures c.if-has_nearer.false

pub returns-in-None : goal.returns-in-None
returns-in-None c =
    sym (offered_by_none c.args.router.now c.args.row.now c.args.ports.now (λ test.
    ap (λ (l : List Row). any_like l c.args.row.now test) (sym c.as_slice.ensures) ∙ c.in-None.ensures test))
