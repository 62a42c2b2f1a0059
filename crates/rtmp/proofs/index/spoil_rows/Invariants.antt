use Rattle.std.proofs.Common.{◌≡◌, drop}
use Rattle.at_base.specs.Spans.{AreApart}
use Rattle.rtmp.specs.Indexing.{spoiled}
use Rattle.rtmp.proofs.index.spoil_rows.Given as goal

-- what is left to do gives the whole result
abbrev pub invariant-loop-number : goal.invariant-loop-number
invariant-loop-number l =
    AreApart (λ r. r.range) 0 l.rows.items
    × (spoiled l.next (drop l.number-index l.numbers) l.rows.items ≡ spoiled l.next l.numbers l.initial.rows.items)
