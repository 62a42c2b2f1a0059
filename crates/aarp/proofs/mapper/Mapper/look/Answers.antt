use Rattle.std.proofs.Common.{sym, ◌∙◌, arith}
use Rattle.aarp.proofs.Known.{mapping_found}
use Rattle.aarp.proofs.mapper.Mapper.look.Goals as goal

pub returns-clause-value : goal.returns-clause-value
returns-clause-value c =
    c.copied.ensures ∙ c.peek.ensures ∙ rw (← c.self.view_is) (sym (mapping_found c.args.addr c.self.inside.known.entries))

pub returns-clause-valid : goal.returns-clause-valid
returns-clause-valid c =
    let known = c.len-known.ensures.valid in
    let held = c.len-held.ensures.within in
    rw (← c.self.view_is) (record {
      distinct = known.0;
      few = omega arith;
      counted = c.self.invariant.2;
      waiting = omega arith;
    })
