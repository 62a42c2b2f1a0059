use Rattle.std.proofs.Common.{sym, ◌∙◌, length, ℕ}
use Rattle.std.proofs.lemmas.Bool.{eqb-true}
use Rattle.live_cables.proofs.Idle.{done_none, nobody_given_up, passes_none}
use Rattle.live_cables.specs.Finding.{held_at}
use Rattle.live_cables.proofs.live.LiveCables.is_idle.Goals as goal

pub returns-clause-passes : goal.returns-clause-passes
returns-clause-passes c = λ idle.
    let held : ℕ = length (held_at c.self.inside.near.maps c.args.seat) in
    passes_none c.args.seat c.args.self.now (rw (← c.self.view_is) (eqb-true held 0 (sym c.is_idle.ensures ∙ idle)))

pub returns-clause-done : goal.returns-clause-done
returns-clause-done c = λ idle. done_none c.args.self.now

pub returns-clause-given_up : goal.returns-clause-given_up
returns-clause-given_up c = λ idle.
    let held : ℕ = length (held_at c.self.inside.near.maps c.args.seat) in
    nobody_given_up (held_at c.args.self.now.maps c.args.seat)
    (rw (← c.self.view_is) (eqb-true held 0 (sym c.is_idle.ensures ∙ idle)))
