use Rattle.std.proofs.Common.{refl}
use Rattle.text.proofs.Going.{on_ok}
use Rattle.routing.proofs.Coming.{dropped_happened, put_happened}
use Rattle.cabled.specs.Acting.{Tick}
use Rattle.routing.proofs.counting.Counting.tick.Goals as goal

pub returns-in-Ok-clause-came : goal.returns-in-Ok-clause-came
returns-in-Ok-clause-came g c =
    on_ok c.print_all.result c.print_all.ensures.gone
    (λ goes.
    put_happened g.C.Cabled.acts c.args.time _ _ Tick c.advance.new.puts.items c.self.inside.puts.items c.self.inside.station c.advance.new.self c.self.inside.dropped _ _ _ _
    c.self.view_is (c.in-Ok.ensures {u = tt}).after (c.in-Ok.ensures {u = tt}).put c.self.invariant refl refl goes)

pub returns-in-Err-clause-came : goal.returns-in-Err-clause-came
returns-in-Err-clause-came g c =
    dropped_happened g.C.Cabled.acts c.args.time _ _ Tick c.self.inside.station c.self.inside.dropped _ _ c.self.view_is (c.in-Err.ensures {u = tt}).station_stays
    c.saturating_add-self-inside.ensures
