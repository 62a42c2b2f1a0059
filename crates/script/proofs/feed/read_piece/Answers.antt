use Rattle.std.proofs.Common.{◌≡◌, ℕ, List, [], ◌∷◌, ◌++◌, ap, ◌∙◌}
use Rattle.std.proofs.lemmas.Result.{IfErr-weaker, err_from_is_err_and, on_ok_weaker}
use Rattle.text.specs.Cuts.{parts_left}
use Rattle.script.specs.Feeds.{GoesOn, HasLines, IsOpen, IsRefused}
use Rattle.script.specs.Scripts.{lines}
use Rattle.script.proofs.Feeding.{first_refused, goes_on, later_refused, lines_onto, lines_then, open_refused}
use Rattle.script.proofs.feed.read_piece.Goals as goal

-- ---- no line ends in the piece

pub returns-in_default-clause-read : goal.returns-in_default-clause-read
returns-in_default-clause-read c =
    let first = c.cut.result.0.now in
    let cut : lines c.args.piece.now ≡ first ∷ [] = c.cut.ensures.parts ∙ ap (λ o. first ∷ parts_left 10 o) c.in_default.is in
    on_ok_weaker c.go_on.result
    (λ more all g. goes_on c.args.reader.now c.args.open_line.now c.go_on.new.open_line all c.args.piece.now first cut g more)
    c.go_on.ensures.read

pub returns-in_default-clause-refused : goal.returns-in_default-clause-refused
returns-in_default-clause-refused c =
    let first = c.cut.result.0.now in
    let cut : lines c.args.piece.now ≡ first ∷ [] = c.cut.ensures.parts ∙ ap (λ o. first ∷ parts_left 10 o) c.in_default.is in
    IfErr-weaker c.go_on.result _
    (λ e. (all : List ℕ) → GoesOn c.args.reader.now c.args.open_line.now all → IsRefused e (all ++ c.args.piece.now))
    (λ e stops all g.
    open_refused c.args.reader.now (all ++ c.args.piece.now) g.done (g.last ++ first) e
    (lines_onto all c.args.piece.now g.done g.last first [] g.whole cut) g.read (stops g.last g.kept))
    c.go_on.ensures.refused

-- ---- the open line ends in the piece

pub returns-in_err-end-clause-refused : goal.returns-in_err-end-clause-refused
returns-in_err-end-clause-refused c =
    let p = err_from_is_err_and c.from_residual.result c.from_residual.ensures.1 in
    let first = c.cut.result.0.now in
    let rest = c.in-Some.rest.now in
    let cut : lines c.args.piece.now ≡ first ∷ lines rest = c.cut.ensures.parts ∙ ap (λ o. first ∷ parts_left 10 o) c.in-Some.is in
    rw (p.1, p.2) (λ all g.
    first_refused (all ++ c.args.piece.now) rest g.done (g.last ++ first) _ c.args.reader.now
    (lines_onto all c.args.piece.now g.done g.last first (lines rest) g.whole cut) g.read
    (c.in_err-end.ensures.stops g.last g.kept g.done g.read))

pub returns-in_err-last-clause-refused : goal.returns-in_err-last-clause-refused
returns-in_err-last-clause-refused c =
    let p = err_from_is_err_and c.from_residual-in_err-last.result c.from_residual-in_err-last.ensures.1 in
    let first = c.cut.result.0.now in
    let rest = c.in-Some.rest.now in
    let cut : lines c.args.piece.now ≡ first ∷ lines rest = c.cut.ensures.parts ∙ ap (λ o. first ∷ parts_left 10 o) c.in-Some.is in
    rw (p.1, p.2) (λ all g.
    later_refused (all ++ c.args.piece.now) rest g.done (g.last ++ first) _
    (lines_onto all c.args.piece.now g.done g.last first (lines rest) g.whole cut)
    (c.in_err-last.ensures.stops (g.done ++ (g.last ++ first) ∷ []) (c.in_ok-end.ensures.read g.last g.kept g.done g.read)))

-- ---- what follows the last line that ends in the piece

-- The lines of all that was fed, and what the open line is then.
record Then (c : goal.After-go_on-2) (all : List ℕ) : Type 0 where
  done : List (List ℕ)
  whole : lines (all ++ c.args.piece.now) ≡ done ++ c.in_ok-last.last.now ∷ []
  read : HasLines c.read_lines.new.self done
  empty : IsOpen c.end.new.self []

then : (c : goal.After-go_on-2) (all : List ℕ) → GoesOn c.args.reader.now c.args.open_line.now all → Then c all
then c all g =
    let first = c.cut.result.0.now in
    let rest = c.in-Some.rest.now in
    let line = g.last ++ first in
    let cut : lines c.args.piece.now ≡ first ∷ lines rest = c.cut.ensures.parts ∙ ap (λ o. first ∷ parts_left 10 o) c.in-Some.is in
    let to = c.in_ok-last.ensures.read (g.done ++ line ∷ []) (c.in_ok-end.ensures.read g.last g.kept g.done g.read) in
    record {
      done = (g.done ++ line ∷ []) ++ to.more;
      whole = lines_then (all ++ c.args.piece.now) rest g.done line to.more c.in_ok-last.last.now
          (lines_onto all c.args.piece.now g.done g.last first (lines rest) g.whole cut) to.whole;
      read = to.read;
      empty = c.in_ok-end.ensures.anew g.last g.kept;
    }

pub returns-clause-read : goal.returns-clause-read
returns-clause-read c =
    on_ok_weaker c.go_on-2.result
    (λ more all g.
    let t = then c all g in
    record { done = t.done; last = c.in_ok-last.last.now; whole = t.whole; read = t.read; kept = more [] t.empty })
    c.go_on-2.ensures.read

pub returns-clause-refused : goal.returns-clause-refused
returns-clause-refused c =
    IfErr-weaker c.go_on-2.result _
    (λ e. (all : List ℕ) → GoesOn c.args.reader.now c.args.open_line.now all → IsRefused e (all ++ c.args.piece.now))
    (λ e stops all g.
    let t = then c all g in
    open_refused c.read_lines.new.self (all ++ c.args.piece.now) t.done c.in_ok-last.last.now e t.whole t.read (stops [] t.empty))
    c.go_on-2.ensures.refused
