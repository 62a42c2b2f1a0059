use Rattle.std.proofs.Common.{arith}
use Rattle.end_node.proofs.Few.{few_answers}
use Rattle.end_node.proofs.lookups.asked.Goals as goal

pub returns-clause-few : goal.returns-clause-few
returns-clause-few c =
    let few = c.entries-names.ensures.names.few in
    rw ((c.in_ok-tuples.ensures {u = tt}).ok)
    (omega (arith, few_answers c.as_slice.result.now c.as_slice-2.result.now c.args.names.now, few))
