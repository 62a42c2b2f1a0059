-- The words of a line that has a step.
use Rattle.std.specs.Prelude.{ℕ, List, [], ◌∷◌, Option, Some}
use Rattle.events.specs.declared.event.Event.TheVariants.{Request, Send}
use Rattle.script.specs.Lines.{name}
use Rattle.script.specs.Words.{via}
use Rattle.text.specs.Words.{address, byte, given}
use Rattle.script.specs.declared.request.RequestWords.{RequestWords}
use Rattle.script.specs.declared.send.SendWords.{SendWords}
use Rattle.script.specs.declared.send.Sending.{Sending}
use Rattle.script.specs.declared.step.Step.{Step}
use Rattle.script.specs.declared.step.Step.TheVariants.{Event}

-- The eight words of a `send` line, in order.
abbrev pub all_of : SendWords → List (List ℕ)
all_of w =
    w.node.now ∷ w.via.now ∷ w.source_socket.now ∷ w.target.now ∷ w.socket.now ∷ w.kind.now ∷ w.sum.now ∷ w.hex.now ∷ []

-- The step of a `send` line with this data.
abbrev pub sent_by : Sending → List ℕ → Step
sent_by s payload = Event (Send s.node s.via s.target s.target_socket s.source_socket s.kind s.summed payload)

-- The step of the three words and the name text of a `request` line.
abbrev pub asked_by : RequestWords → Option Step
asked_by w =
    given (address w.node.now) (λ node. given (via w.via.now) (λ by. given (byte w.id.now) (λ id. given (name w.name.now) (λ tuple.
    Some (Event (Request node by id tuple))))))
