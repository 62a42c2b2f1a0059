use Rattle.std.proofs.Common.{◌-◌, ◌∙◌, ap, sym, length, take, slice_get}
use Rattle.audit.proofs.Finding.{from_take}
use Rattle.audit.proofs.ListPlaces.{good_list}
use Rattle.audit.proofs.zone_lists.lists_before.Goals as goal

pub returns-in-Some : goal.returns-in-Some
returns-in-Some c k l at =
    let routers = c.routers.result.now in
    let s = length (take c.args.r routers) - 1 in
    let found = from_take routers c.args.r s c.in-Some.router.now (sym c.in-Some.ensures.value) in
    let there = ap (λ routers. slice_get routers s) (sym c.routers.ensures.value) ∙ found.1 in
    good_list c.args.image.now s k c.in-Some.router.now l there (ap (λ lists. slice_get lists k) (sym c.as_slice.ensures) ∙ at)
    (c.requires.good s found.0 k)
