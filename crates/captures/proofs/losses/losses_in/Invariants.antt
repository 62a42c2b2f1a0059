use Rattle.std.proofs.Common.{◌≡◌, List, ℕ, map, take}
use Rattle.cable_model.specs.Logs.{entry_at}
use Rattle.captures.specs.Packets.{losses}
use Rattle.captures.proofs.losses.losses_in.Given as goal

abbrev pub invariant-loop-entry : goal.invariant-loop-entry
invariant-loop-entry l =
    (kept : List (List ℕ)) → l.stamps.items ≡ losses (map (entry_at kept) (take l.entry-index l.entries))
