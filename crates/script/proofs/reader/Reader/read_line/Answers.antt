use Rattle.std.proofs.Common.{◌≡◌, Some, false, sym, ◌∙◌}
use Rattle.script.proofs.Progress.{told_more}
use Rattle.script.specs.Lines.{is_skipped, step}
use Rattle.script.proofs.reader.Reader.read_line.Goals as goal

pub returns-clause-read : goal.returns-clause-read
returns-clause-read c = λ done h.
    let line = c.args.line.now in
    let tell : is_skipped line ≡ false = cc (c.is_skipped.ensures, c.if-is_skipped.false) in
    let some : step line ≡ Some c.in-Some.step = sym c.in_ok-step.ensures.read ∙ c.in-Some.is in
    told_more c.args.self.now _ done line c.in-Some.step h tell some c.in_ok-push.ensures.items c.next_number-number.ensures
