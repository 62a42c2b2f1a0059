use Rattle.std.proofs.Common.{sym, ap, List}
use Rattle.atp.specs.declared.request.Request.{Request}
use Rattle.atp.specs.declared.request.Todo.{Todo}
use Rattle.atp.specs.InPlace.{packet_value}
use Rattle.atp.proofs.Replies.{as_before, now_asked, now_waits, reply_new, room}
use Rattle.atp.proofs.replying.reply.Goals as goal

pub respond_or_forget-requires-clause-waits : goal.respond_or_forget-requires-clause-waits
respond_or_forget-requires-clause-waits c =
    let e = rw c.in-Ok-Ask.field-0-is at (c.in-Ok-Ask.ensures {u = tt}).ok in
    now_waits c.args.from (packet_value c.args.packet.now) c.args.responder.now c.heard.new.self e

pub returns-in-Ok-Ask-clause-ok : goal.returns-in-Ok-Ask-clause-ok
returns-in-Ok-Ask-clause-ok c =
    let p = packet_value c.args.packet.now in
    let e = rw c.in-Ok-Ask.field-0-is at (c.in-Ok-Ask.ensures {u = tt}).ok in
    let has = room c.args.from p c.args.responder.now c.heard.result c.in-Ok-Ask.field-0 c.in-Ok-Ask.is
    (sym (ap (λ (x : Todo × List Request). x.0) e)) c.heard.ensures.full in
    rw (reply_new c.args.from p c.args.user.now c.args.responder.now c.heard.new.self e has)
    (rw (now_asked c.args.from p c.args.responder.now c.heard.new.self e) at c.respond_or_forget.ensures.ok)

pub returns-in-Ok-Ask-clause-kept : goal.returns-in-Ok-Ask-clause-kept
returns-in-Ok-Ask-clause-kept c =
    let e = rw c.in-Ok-Ask.field-0-is at (c.in-Ok-Ask.ensures {u = tt}).ok in
    rw (as_before c.args.from
    (packet_value c.args.packet.now) c.args.responder.now c.heard.new.self e) at c.respond_or_forget.ensures.forgotten
