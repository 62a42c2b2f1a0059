use Rattle.std.proofs.Common.{inl, inr, ◌∙◌}
use Rattle.rtmp.proofs.Numbering.{replaced_same}
use Rattle.rtmp.proofs.index.replace_row.Goals.{then-not-are_numbered_alike, else-not-are_numbered_alike}
use Rattle.rtmp.proofs.index.replace_row.Goals as goal

pub returns-clause-indexed : goal.returns-clause-indexed
returns-clause-indexed c =
    let rows = c.args.rows.now.items in
    elim c.if-not-are_numbered_alike.branch [
      | then-not-are_numbered_alike w ↦ rw w.numbers-is (inl w.clear.ensures.items)
      | else-not-are_numbered_alike w ↦
          let same = replaced_same rows c.args.place c.index.result.now c.args.row c.requires.inside c.index.ensures
          (c.are_numbered_alike.ensures w.if-not-are_numbered_alike.false) in
          rw w.numbers-is (elim c.requires.indexed [ inl e ↦ inl e | inr e ↦ inr (e ∙ same) ])
    ]
