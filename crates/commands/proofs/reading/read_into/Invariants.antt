use Rattle.std.proofs.Common.{List, ℕ}
use Rattle.std.specs.Io.KnownBytes.{Consumes}
use Rattle.commands.proofs.reading.read_into.Given as goal

abbrev pub invariant-loop-turn : goal.invariant-loop-turn
invariant-loop-turn g l = record {
  taken : (all : List ℕ) × g.T.Takes.took l.taker all × g.T.Takes.sound all
      × Consumes (g.R.Read.remaining l.initial.input) (g.R.Read.remaining l.input) all;
}
