use Rattle.std.proofs.Common.{sym, ◌∙◌}
use Rattle.std.proofs.lemmas.List.{append-nil}
use Rattle.live_router.proofs.Settled.{AreSettled, settled_silent, settled_stay}
use Rattle.live_router.proofs.addresses.ports_after.Goals as goal

pub returns-then-are_settled-clause-next : goal.returns-then-are_settled-clause-next
returns-then-are_settled-clause-next g c =
    let all : AreSettled c.args.router.now.ports =
    rw (← c.ports_now-ports.ensures.value) (sym c.are_settled.ensures ∙ c.if-are_settled.true) in
    settled_stay c.args.router.now.ports all

pub returns-then-are_settled-clause-put : goal.returns-then-are_settled-clause-put
returns-then-are_settled-clause-put g c =
    let all : AreSettled c.args.router.now.ports =
    rw (← c.ports_now-ports.ensures.value) (sym c.are_settled.ensures ∙ c.if-are_settled.true) in
    rw (settled_silent 0 c.args.router.now.ports all) (sym (append-nil c.args.made.now.items))
