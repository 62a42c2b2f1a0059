use Rattle.std.proofs.Common.{arith}
use Rattle.rtmp.proofs.Sent.{answered}
use Rattle.rtmp.proofs.writer.write_response.Goals as goal

pub returns-clause-made : goal.returns-clause-made
returns-clause-made c =
    let front = (c.in_ok-put_front.ensures {u = tt}) in
    answered c.args.me c.args.own c.from_vec.result _ _ (omega arith) (omega arith) front.valid
    (c.in_ok-bytes.ensures {u = tt}).items front.put c.from_vec.ensures
