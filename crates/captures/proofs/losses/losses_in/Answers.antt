use Rattle.std.proofs.Common.{◌++◌, ap, arith, get_or, map, sym, take, ◌∙◌}
use Rattle.std.proofs.lemmas.List.{take_all}
use Rattle.cable_model.specs.Logs.{entry_at}
use Rattle.cable_model.specs.declared.entry.Entry.TheVariants as named
use Rattle.captures.proofs.Further.{losses_one, one_further}
use Rattle.captures.specs.Packets.{loss, losses}
use Rattle.captures.proofs.losses.losses_in.Goals as goal

pub loop-entry-preserved : goal.loop-entry-preserved
loop-entry-preserved c kept =
    let es = c.args.entries.now in
    let k = c.loop-entry.entry-index in
    let e = get_or es k (named.Sent 0 0) in
    c.in_ok-put_loss.ensures kept
    ∙ ap (λ z. z ++ loss (entry_at kept e)) (c.loop-entry.invariant kept)
    ∙ sym (ap losses (one_further (entry_at kept) es k (named.Sent 0 0) c.loop-entry-test.true)
    ∙ losses_one (map (entry_at kept) (take k es)) (entry_at kept e))

pub returns : goal.returns
returns c kept =
    c.loop-entry.invariant kept
    ∙ ap (λ es. losses (map (entry_at kept) es)) (take_all c.loop-entry.entry-index c.args.entries.now (omega (arith, c.loop-entry-test.false)))
