use Rattle.std.proofs.Common.{◌≡◌, false, sym, ◌∙◌}
use Rattle.std.specs.List.{list_any}
use Rattle.std.proofs.lemmas.Bool.{ne_eqb}
use Rattle.live_router.specs.Ticking.{settles}
use Rattle.live_router.proofs.Settled.{none_joined}
use Rattle.live_router.proofs.joined.tables_after.Goals as goal

pub returns-clause-routes : goal.returns-clause-routes
returns-clause-routes g c =
    let none : list_any settles c.args.router.now.ports ≡ false =
    rw (← c.ports_now.ensures.value) (sym c.any_settles.ensures ∙ c.if-any_settles.false) in
    rw (ne_eqb c.args.phase 0 c.if-phase-eq0.false) (none_joined 0 c.args.router.now.ports c.args.router.now.routes none)
