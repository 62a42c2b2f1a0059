use Rattle.std.proofs.Common.{◌≡◌, ◌∙◌, None, Err, ap, sym, Bor, List, ℕ, is_some}
use Rattle.at_base.specs.Grammar.{number}
use Rattle.at_base.specs.declared.error.Cause.TheVariants.{Count}
use Rattle.table_image.specs.Counts.{size_of}
use Rattle.table_image.specs.Tests.{within}
use Rattle.table_image.specs.declared.flaw.Fault.{Fault}
use Rattle.image_feed.specs.Growing.{count_on}
use Rattle.image_feed.proofs.Leading.{advances_stop, denies_field, none_of}
use Rattle.image_feed.proofs.count.read_count.Goals as goal

pub returns-in-Err : goal.returns-in-Err
returns-in-Err c =
    let field = number (size_of c.args.size) (within 0 c.args.limit Count) in
    let none : c.args.left.now ≡ None = none_of c.args.left.now (sym c.is_some.ensures ∙ c.if-is_some.false) in
    advances_stop {X = Bor (List ℕ)} (λ rest. rest.now) (count_on (size_of c.args.size) c.args.limit c.args.left.now) c.args.bytes.now
    c.in-Err.fault (is_some c.args.left.now)
    c.unless_cut.result c.unless_cut.ensures.waits c.unless_cut.ensures.refused
    (λ cut. rw none (c.in-Err.ensures ∙ ap (λ (f : Fault). Err f) cut))
    (λ other. rw none (denies_field field c.args.bytes.now c.in-Err.fault c.in-Err.ensures other))
