use Rattle.commands.proofs.TablesFaults.{other_fault}
use Rattle.commands.proofs.making.make_text.Goals as goal

pub returns-in-Err-clause-others : goal.returns-in-Err-clause-others
returns-in-Err-clause-others c =
    let other = other_fault c.as_slice.result.now c.in-Err.refused.error c.in-Err.ensures.refused in
    rw c.at_fault.ensures.error (other.0, other.1)
