-- The events in the internet of a file: frames that are lost, and actions of nodes.
use Rattle.std.specs.Prelude.{ℕ, cond, List, [], ◌∷◌, Option, Some, None, codes}
use Rattle.toml.specs.Data.{Data, Members, as_str, as_table}
use Rattle.at_base.specs.Text.{same_bytes}
use Rattle.text.specs.Words.{given}
use Rattle.file_entries.specs.Entries.{at, entry, has_only}
use Rattle.file_entries.specs.Values.{any_address, hex, number, one_of, short}
use Rattle.internet_file.specs.declared.action.Action.{Action}
use Rattle.internet_file.specs.declared.action.Do.{Do}
use Rattle.internet_file.specs.declared.action.Do.TheVariants.{Send, Lookup}
use Rattle.internet_file.specs.declared.cable.Cable.{Cable}
use Rattle.internet_file.specs.declared.loss.Loss.{Loss}
use Rattle.internet_file.specs.declared.node.Node.{Node}

-- The loss in an entry: its ticks are among those of the file, and the first isn't after the last.
abbrev pub loss_of : ℕ → List Cable → Data → Option Loss
loss_of ticks cables d =
    given (entry (codes "cable" ∷ codes "first" ∷ codes "last" ∷ []) d) (λ ms.
    given (at (codes "cable") (one_of cables) ms) (λ k. given (at (codes "first") (number 1 ticks) ms) (λ first.
    given (at (codes "last") (number first ticks) ms) (λ last.
    Some (record { cable = k; first = first; last = last })))))

-- The keys of an action that sends.
abbrev pub send_keys : List (List ℕ)
send_keys =
    codes "at" ∷ codes "node" ∷ codes "do" ∷ codes "to" ∷ codes "socket" ∷ codes "source" ∷ codes "type" ∷ codes "hex" ∷ []

-- The datagram in the members of an action.
abbrev pub sending : Members → Option Do
sending ms =
    given (at (codes "to") any_address ms) (λ to. given (at (codes "socket") (number 0 255) ms) (λ socket.
    given (at (codes "source") (number 0 255) ms) (λ source. given (at (codes "type") (number 0 255) ms) (λ kind.
    given (at (codes "hex") hex ms) (λ bytes. Some (Send to socket source kind bytes))))))

-- The keys of an action that looks up names.
abbrev pub lookup_keys : List (List ℕ)
lookup_keys =
    codes "at" ∷ codes "node" ∷ codes "do" ∷ codes "id" ∷ codes "object" ∷ codes "type" ∷ codes "zone" ∷ []

-- The lookup in the members of an action.
abbrev pub looking_up : Members → Option Do
looking_up ms =
    given (at (codes "id") (number 0 65535) ms) (λ id. given (at (codes "object") (short 1) ms) (λ object.
    given (at (codes "type") (short 1) ms) (λ kind. given (at (codes "zone") (short 0) ms) (λ zone.
    Some (Lookup id object kind zone)))))

-- The operation that the word of an action names, if the action has only the keys of that operation.
abbrev pub doing : Members → List ℕ → Option Do
doing ms word =
    cond (same_bytes word (codes "send")) (cond (has_only send_keys ms) (sending ms) None)
    (cond (same_bytes word (codes "lookup")) (cond (has_only lookup_keys ms) (looking_up ms) None) None)

-- The action in an entry.
abbrev pub action_of : ℕ → List Node → Data → Option Action
action_of ticks nodes d =
    given (as_table d) (λ ms. given (at (codes "at") (number 1 ticks) ms) (λ tick.
    given (at (codes "node") (one_of nodes) ms) (λ k. given (given (at (codes "do") as_str ms) (doing ms)) (λ what.
    Some (record { at = tick; node = k; action = what })))))
