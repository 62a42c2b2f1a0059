use Rattle.std.proofs.Common.{[], arith, rules, sym, ◌∙◌}
use Rattle.std.proofs.lemmas.List.{append-nil}
use Rattle.live_router.specs.Ticking.{router_after}
use Rattle.live_router.proofs.Settled.{quiet_after, quiet_silent}
use Rattle.live_router.proofs.passing.pass.Goals as goal

pub returns-then-is_quiet-clause-ok : goal.returns-then-is_quiet-clause-ok
returns-then-is_quiet-clause-ok g c =
    let quiet = c.is_quiet.ensures c.if-is_quiet.true in
    record {
      added = [];
      grown = sym (append-nil c.args.outputs.now.items);
      holds = sym (quiet_silent c.args.phase c.args.router.now (router_after c.args.phase c.args.router.now) quiet.0 quiet.1);
      lawful = record { made = omega arith; others = omega arith; each = search rules };
    }

pub returns-then-is_quiet-clause-after : goal.returns-then-is_quiet-clause-after
returns-then-is_quiet-clause-after g c =
    let quiet = c.is_quiet.ensures c.if-is_quiet.true in
    c.pass_requests.ensures ∙ sym (quiet_after c.args.phase c.args.router.now quiet.0 quiet.1)
