use Rattle.std.proofs.Common.{refl}
use Rattle.text.proofs.Going.{on_ok}
use Rattle.ethertalk.specs.Frames.{framed}
use Rattle.routing.proofs.Coming.{dropped_happened, put_happened}
use Rattle.cabled.specs.Acting.{Heard}
use Rattle.routing.proofs.counting.Counting.hear.Goals as goal

pub returns-in-Ok-clause-came : goal.returns-in-Ok-clause-came
returns-in-Ok-clause-came g c =
    on_ok c.print_all.result c.print_all.ensures.gone
    (λ goes.
    put_happened g.C.Cabled.acts c.args.time _ _ (Heard c.args.port (framed c.args.frame.now)) c.receive.new.puts.items c.self.inside.puts.items c.self.inside.station c.receive.new.self c.self.inside.dropped _ _ _ _
    c.self.view_is (c.in-Ok.ensures {u = tt}).after (c.in-Ok.ensures {u = tt}).put c.self.invariant refl refl goes)

pub returns-in-Err-clause-came : goal.returns-in-Err-clause-came
returns-in-Err-clause-came g c =
    dropped_happened g.C.Cabled.acts c.args.time _ _ (Heard c.args.port (framed c.args.frame.now)) c.self.inside.station c.self.inside.dropped _ _ c.self.view_is (c.in-Err.ensures {u = tt}).station_stays
    c.saturating_add-self-inside.ensures
