use Rattle.std.proofs.Common.{◌≡◌, ◌≤◌, ◌++◌, drop, length}
use Rattle.atp.specs.Answers.{AreShort, answer_packets, bytes_of_all, responses}
use Rattle.atp.proofs.answer.packets_of.Given as goal

abbrev pub invariant-loop-index : goal.invariant-loop-index
invariant-loop-index l =
    (l.packets.items ++ bytes_of_all (responses l.id l.bitmap (length l.parts) l.index (drop l.index l.parts))
    ≡ bytes_of_all (answer_packets l.id l.bitmap l.parts))
    × (length l.packets.items ≤ l.index)
    × AreShort l.packets.items
