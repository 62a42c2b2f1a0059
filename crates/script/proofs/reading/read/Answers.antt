use Rattle.std.proofs.Common.{[], ◌∷◌, ◌++◌}
use Rattle.std.proofs.lemmas.Result.{err_from_is_err_and}
use Rattle.script.proofs.Progress.{reaches, script_read, stop_at}
use Rattle.script.proofs.reading.read.Goals as goal

-- ---- a line that ends in the text

pub returns-in_err-last-clause-refused : goal.returns-in_err-last-clause-refused
returns-in_err-last-clause-refused c =
    let p = err_from_is_err_and c.from_residual.result c.from_residual.ensures.1 in
    let s = c.in_err-last.ensures.stops [] c.new-reader.ensures in
    rw (p.1, p.2) (stop_at c.args.text.now s.before s.line (s.next ∷ s.after) _ s.whole s.fine s.stops)

pub returns-in_err-last-clause-needed : goal.returns-in_err-last-clause-needed
returns-in_err-last-clause-needed c = λ none.
    let p = err_from_is_err_and c.from_residual.result c.from_residual.ensures.1 in
    let s = c.in_err-last.ensures.stops [] c.new-reader.ensures in
    reaches c.args.text.now s.before s.line (s.next ∷ s.after) _ s.whole s.fine s.stops cc

-- ---- the last line

pub returns-in_err-read_line-clause-refused : goal.returns-in_err-read_line-clause-refused
returns-in_err-read_line-clause-refused c =
    let p = err_from_is_err_and c.from_residual-in_err-read_line.result c.from_residual-in_err-read_line.ensures.1 in
    let to = c.in_ok-last.ensures.read [] c.new-reader.ensures in
    rw (p.1, p.2) (stop_at c.args.text.now to.more c.in_ok-last.last.now [] _ to.whole to.read.fine
    (c.in_err-read_line.ensures.stops to.more to.read))

pub returns-in_err-read_line-clause-needed : goal.returns-in_err-read_line-clause-needed
returns-in_err-read_line-clause-needed c = λ none.
    let p = err_from_is_err_and c.from_residual-in_err-read_line.result c.from_residual-in_err-read_line.ensures.1 in
    let to = c.in_ok-last.ensures.read [] c.new-reader.ensures in
    reaches c.args.text.now to.more c.in_ok-last.last.now [] _ to.whole to.read.fine
    (c.in_err-read_line.ensures.stops to.more to.read) cc

pub returns-clause-script : goal.returns-clause-script
returns-clause-script c =
    let to = c.in_ok-last.ensures.read [] c.new-reader.ensures in
    rw c.into_steps.ensures
    (script_read c.read_line.new.self c.args.text.now (to.more ++ c.in_ok-last.last.now ∷ []) to.whole
    (c.in_ok-read_line.ensures.read to.more to.read))
