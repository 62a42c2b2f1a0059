use Rattle.std.proofs.Common.{◌≡◌, ◌++◌, false, map, take, drop}
use Rattle.atp.proofs.transaction.clear_bits.Given as goal

abbrev pub invariant-loop-bit : goal.invariant-loop-bit
invariant-loop-bit l = l.bits ≡ map (λ bit. false) (take l.bit-index l.initial.bits) ++ drop l.bit-index l.initial.bits
