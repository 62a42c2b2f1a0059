use Rattle.std.proofs.lemmas.Result.{on_ok_weaker}
use Rattle.at_base.specs.Spelling.{bytes_of}
use Rattle.zip_zones.specs.Answers.{replies_for}
use Rattle.zip_zones.specs.Formats.{packet as spelled_packet}
use Rattle.zip_zones.proofs.Answering.{first_made}
use Rattle.zip_zones.proofs.replies.+put_first.Goals as goal

pub returns-in_ok-put_replies-in-Some-clause-put : goal.returns-in_ok-put_replies-in-Some-clause-put
returns-in_ok-put_replies-in-Some-clause-put t c =
    on_ok_weaker c.put_first.result
    (first_made (replies_for c.args.table.now) (bytes_of spelled_packet) c.args.made.now.items c.put_replies.new.made.items
    c.put_first.new.made.items c.in-Some.net c.args.most c.args.networks c.next.new.self c.if-most-eq0.false
    c.in-Some.ensures.steps.0 (c.in_ok-put_replies-in-Some.ensures {u = tt}).put) c.put_first.ensures.put
