use Rattle.std.proofs.Common.{◌∙◌, ◌+◌, ◌++◌, [], ap, arith, codes}
use Rattle.std.specs.Fmt.{decimal}
use Rattle.at_base.specs.Texts.{range_text}
use Rattle.text.proofs.Going.{put_then}
use Rattle.pcapng.proofs.Laid.{name_few}
use Rattle.pcapng.proofs.names.name_of.Goals as goal

pub returns-clause-few : goal.returns-clause-few
returns-clause-few c =
    let front = codes "cable " ++ decimal (c.args.cable + 1) ++ codes ", " in
    let first = c.in_ok-put_cable.ensures ∙ ap (λ l. l ++ front) c.new-name.ensures.items in
    let name = put_then [] front (range_text (record { start = c.args.start; end = c.args.end })) first c.in_ok-put_range.ensures in
    rw name (name_few c.args.cable c.args.start c.args.end (omega arith) (omega arith) (omega arith))
