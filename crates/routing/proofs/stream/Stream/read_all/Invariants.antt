use Rattle.std.proofs.Common.{List, ℕ}
use Rattle.std.specs.Io.KnownBytes.{Consumes}
use Rattle.routing.specs.Run.{Stands}
use Rattle.routing.proofs.stream.Stream.read_all.Given as goal

abbrev pub invariant-loop-turn : goal.invariant-loop-turn
invariant-loop-turn g l = record {
  taken : (all : List ℕ)
      × Stands g.C.Cabled.acts l.initial.self.routing (g.W.Write.contents l.initial.self.output.writer) all l.self.failed l.self.output.text.items l.self.routing
      (g.W.Write.contents l.self.output.writer) l.feed
      × Consumes (g.R.Read.remaining l.initial.input) (g.R.Read.remaining l.input) all;
}
