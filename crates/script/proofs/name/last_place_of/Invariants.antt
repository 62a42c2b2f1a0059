use Rattle.std.proofs.Common.{◌≡◌, ◌<◌, take}
use Rattle.std.specs.Prelude.{IfSome}
use Rattle.script.specs.Lines.{last_place}
use Rattle.script.proofs.name.last_place_of.Given as goal

abbrev pub invariant-loop-k : goal.invariant-loop-k
invariant-loop-k l = (l.last ≡ last_place l.byte (take l.k l.text)) × IfSome l.last (λ k. k < l.k)
