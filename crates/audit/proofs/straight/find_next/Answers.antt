use Rattle.std.proofs.Common.{sym, ◌∙◌, subst, IfSome}
use Rattle.audit.specs.Straight.{IsFound}
use Rattle.audit.proofs.StraightRows.{found_again}
use Rattle.audit.proofs.straight.find_next.Goals as goal

pub returns-then-same_address-clause-next : goal.returns-then-same_address-clause-next
returns-then-same_address-clause-next c =
    let i = c.args.image.now in
    let router = c.args.router.now in
    let found : IsFound i router c.in-Some.it = subst (λ last. IfSome last (IsFound i router)) c.in-Some.is c.requires.last in
    found_again i router c.in-Some.it c.args.row.now found c.if-it-row.true (sym c.same_address.ensures ∙ c.if-same_address.true)
