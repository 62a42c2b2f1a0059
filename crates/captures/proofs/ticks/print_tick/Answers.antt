use Rattle.std.proofs.Common.{ap, map, ◌∙◌, ◌*◌}
use Rattle.cable_model.specs.Logs.{entry_at}
use Rattle.captures.specs.Packets.{entries_bytes}
use Rattle.text.proofs.Going.{goes_as, on_ok}
use Rattle.captures.proofs.ticks.print_tick.Goals as goal

pub returns-clause-gone : goal.returns-clause-gone
returns-clause-gone g c =
    let kept = g.S.Said.kept c.args.said.now in
    on_ok c.print_entries.result c.print_entries.ensures.gone
    (λ p. goes_as (ap (λ lost. entries_bytes (record { seats = c.args.seats.now; lost = lost }) (c.args.tick * 200000)
    (map (entry_at kept) c.args.entries.now)) (c.as_slice.ensures.value ∙ c.in_ok-lost.ensures kept)) p)
