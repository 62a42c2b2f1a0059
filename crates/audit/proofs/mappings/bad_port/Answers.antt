use Rattle.std.proofs.Common.{suc, slice_get, arith}
use Rattle.std.specs.List.{list_any}
use Rattle.at_base.specs.declared.error.Place.TheVariants as place
use Rattle.audit.specs.Places.{on}
use Rattle.table_image.specs.declared.port.Port.{Port}
use Rattle.table_image.specs.declared.router.Router.{Router}
use Rattle.audit.specs.Rules.{c10, is_false}
use Rattle.audit.proofs.Firsts.{end_of, on_past, none_at_all}
use Rattle.audit.proofs.mappings.bad_port.Goals as goal

pub returns-clause-none : goal.returns-clause-none
returns-clause-none c r p =
    let i = c.args.image.now in
    let past = end_of i.routers _ c.loop-r.r c.routers-router-items.ensures.value c.loop-r-test.false in
    none_at_all (λ r. c10 i (place.Port (suc r) (suc p))) c.loop-r.r
    (λ s ge. on_past i.routers s
    (λ (router : Router). on (slice_get router.ports p) (λ (port : Port). list_any (is_false i port.cable) port.mappings))
    (omega (arith, past)))
    (λ s lt. c.loop-r.invariant s lt p) r
