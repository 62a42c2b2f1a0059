use Rattle.std.proofs.Common.{◌≡◌, suc, Some, List, slice_get, ◌∙◌, sym, subst, below_more, arith}
use Rattle.std.proofs.lemmas.Option.{same_Some}
use Rattle.at_base.specs.declared.error.Place.TheVariants as place
use Rattle.audit.specs.Places.{on}
use Rattle.table_image.specs.declared.port.Port.{Port}
use Rattle.table_image.specs.declared.router.Router.{Router}
use Rattle.audit.specs.Rules.{bad_port, c2}
use Rattle.audit.specs.Seen.{HasSeenPorts}
use Rattle.audit.proofs.Firsts.{item_at, end_of, on_past, none_at_all}
use Rattle.audit.proofs.stations.bad_port.Goals as goal

pub loop-r-preserved : goal.loop-r-preserved
loop-r-preserved c =
    let routers = c.args.image.now.routers in
    let at = item_at routers _ c.loop-r.r _ c.routers-router-items.ensures.value c.loop-r-test.true c.router-item.is in
    let Sees : Router → Type 0 = λ router. HasSeenPorts c.add_ports.new.self router.ports in
    let SeesList : List Port → Type 0 = λ ports. HasSeenPorts c.add_ports.new.self ports in
    let mine : Sees c.router-item.result = subst SeesList c.as_slice.ensures c.add_ports.ensures.seen in
    let here : (router : Router) → slice_get routers c.loop-r.r ≡ Some router → Sees router =
    λ router e. subst Sees (same_Some c.router-item.result router (sym at ∙ e)) mine in (
      below_more (λ s. (router : Router) → slice_get routers s ≡ Some router → Sees router) _
          (λ s lt router e p port f. c.add_ports.ensures.more _ _ (c.loop-r.invariant.0 s lt router e p port f)) here,
      below_more _ _ c.loop-r.invariant.1 c.in_default.ensures.first,
    )

pub returns-clause-seen : goal.returns-clause-seen
returns-clause-seen c s lt =
    let past = end_of c.args.image.now.routers _ c.loop-r.r c.routers-router-items.ensures.value c.loop-r-test.false in
    c.loop-r.invariant.0 s (omega (arith, past))

pub returns-clause-none : goal.returns-clause-none
returns-clause-none c r p =
    let routers = c.args.image.now.routers in
    let past = end_of routers _ c.loop-r.r c.routers-router-items.ensures.value c.loop-r-test.false in
    none_at_all (λ r. c2 c.args.image.now (place.Port (suc r) (suc p))) c.loop-r.r
    (λ s ge. on_past routers s (λ router. on (slice_get router.ports p) (bad_port c.args.image.now s p router)) (omega (arith, past)))
    (λ s lt. c.loop-r.invariant.1 s lt p) r
