use Rattle.std.proofs.Common.{◌≡◌, ◌≤◌, ℕ, List, length, Result, Ok, Err, IfOk}
use Rattle.at_base.specs.Spelling.{bytes_of}
use Rattle.at_base.specs.declared.error.Error.{Error}
use Rattle.zip_zones.specs.Formats.{packet}
use Rattle.zip_zones.specs.Written.{question}
use Rattle.live_node.proofs.Short.{question_short}
use Rattle.live_node.proofs.question.data_for.Goals as goal

pub returns-clause-short : goal.returns-clause-short
returns-clause-short c =
    by c.write_get_net_info.result (rw (c.text_of.ensures.value) at c.write_get_net_info.ensures.ok)
  where
    by : (result : Result (List ℕ) Error) → IfOk result (λ bytes. bytes ≡ bytes_of packet (question c.args.zone.now))
        → IfOk result (λ bytes. length bytes ≤ 586)
    by (Ok bytes) is = rw is (question_short c.args.zone.now c.text_of.ensures.short)
    by (Err e) is = tt
