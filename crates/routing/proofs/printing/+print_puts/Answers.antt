use Rattle.text.proofs.Going.{goes_each, on_ok}
use Rattle.routing.specs.Streams.{put_bytes}
use Rattle.routing.proofs.printing.+print_puts.Goals as goal

pub returns-else-is_empty-clause-gone : goal.returns-else-is_empty-clause-gone
returns-else-is_empty-clause-gone g t c =
    on_ok c.print_puts.result c.print_puts.ensures.gone
    (λ others.
    goes_each (put_bytes c.args.ports.now c.args.time) c.args.puts.now c.put-item.result _ _ _ _ _ _ c.in-len1-up.len_at_least c.put-item.is
    c.in_ok-print_put-in-len1-up.ensures.gone others)
