-- The steps in the lines of a script.
use Rattle.std.specs.Prelude.{ℕ, ◌+◌, Bool, true, ◌&&◌, ◌==◌, cond, List, [], ◌∷◌, Option, Some, None, codes, drop, length}
use Rattle.std.specs.Prelude.{nat_le, nat_lt, position, take}
use Rattle.std.specs.List.{join_with_byte}
use Rattle.at_base.specs.Text.{same_bytes}
use Rattle.nbp.specs.declared.tuple.Tuple.{Tuple}
use Rattle.events.specs.declared.event.Event.TheVariants.{Send, Request, Take}
use Rattle.script.specs.Words.{bytes, flag, via, words}
use Rattle.text.specs.Words.{address, byte, given, number}
use Rattle.script.specs.declared.step.Step.{Step}
use Rattle.script.specs.declared.step.Step.TheVariants.{Event, Drain}

-- The line is skipped: it is empty or begins with a #.
abbrev pub is_skipped : List ℕ → Bool
is_skipped [] = true
is_skipped (b ∷ bs) = b == 35

-- The index of the last occurrence of a byte.
abbrev pub last_place : ℕ → List ℕ → Option ℕ
last_place byte [] = None
last_place byte (b ∷ bs) = after (last_place byte bs)
  where
    after : Option ℕ → Option ℕ
    after (Some k) = Some (k + 1)
    after None = cond (b == byte) (Some 0) None

-- The parts of a name: the object, the type and the zone.
pub record Parts : Type 0 where
  pub object : List ℕ
  pub kind : List ℕ
  pub zone : List ℕ

-- The parts of a text that is cut at the colon and at the at sign, if the colon comes first.
abbrev pub cut_at : List ℕ → Option ℕ → Option ℕ → Option Parts
cut_at text (Some colon) (Some at) =
    cond (nat_lt colon at)
    (Some (record { object = take colon text; kind = drop (colon + 1) (take at text); zone = drop (at + 1) text }))
    None
cut_at text _ _ = None

-- The parts of OBJECT:TYPE@ZONE, which is cut at its first colon and at its last at sign.
abbrev pub parts : List ℕ → Option Parts
parts text = cut_at text (position (λ b. b == 58) text) (last_place 64 text)

-- The object and the type have 1 to 32 bytes, and the zone at most 32.
abbrev pub has_room : Parts → Bool
has_room p =
    nat_le 1 (length p.object) && nat_le (length p.object) 32 && nat_le 1 (length p.kind) && nat_le (length p.kind) 32
    && nat_le (length p.zone) 32

-- The tuple of a request for these names.
abbrev pub asked : Parts → Tuple
asked p = record {
  at = record { net = 0; node = 0 };
  socket = 0;
  enumerator = 0;
  object = p.object;
  kind = p.kind;
  zone = p.zone;
}

-- The tuple of a request for the names of a text, if the text is valid.
abbrev pub name : List ℕ → Option Tuple
name text = given (parts text) (λ p. cond (has_room p) (Some (asked p)) None)

-- The step of `send` with the arguments NODE VIA SOURCE-SOCKET TARGET SOCKET TYPE SUM HEX.
abbrev pub send : List (List ℕ) → Option Step
send (a ∷ b ∷ c ∷ d ∷ e ∷ f ∷ g ∷ h ∷ []) =
    given (address a) (λ node. given (via b) (λ by. given (byte c) (λ source_socket. given (address d) (λ target.
    given (byte e) (λ socket. given (byte f) (λ kind. given (flag g) (λ summed. given (bytes h) (λ data_bytes.
    Some (Event (Send node by target socket source_socket kind summed data_bytes))))))))))
send _ = None

-- The step of `request` with the arguments NODE VIA ID NAME, where NAME is the rest of the line with its spaces.
abbrev pub request : List (List ℕ) → Option Step
request (a ∷ b ∷ c ∷ d ∷ more) =
    given (address a) (λ node. given (via b) (λ by. given (byte c) (λ id. given (name (join_with_byte 32 (d ∷ more))) (λ tuple.
    Some (Event (Request node by id tuple))))))
request _ = None

-- The step of `take` with the arguments STAMP STATION.
abbrev pub taking : List (List ℕ) → Option Step
taking (a ∷ b ∷ []) =
    given (number 4294967295 a) (λ stamp. given (address b) (λ station. Some (Event (Take stamp station))))
taking _ = None

-- The step of `drain` with the argument MAX.
abbrev pub draining : List (List ℕ) → Option Step
draining (a ∷ []) = given (number 4294967295 a) (λ most. Some (Drain most))
draining _ = None

-- The step of a command with these arguments.
abbrev pub said : List ℕ → List (List ℕ) → Option Step
said what more =
    cond (same_bytes what (codes "send")) (send more)
    (cond (same_bytes what (codes "request")) (request more)
    (cond (same_bytes what (codes "take")) (taking more)
    (cond (same_bytes what (codes "drain")) (draining more) None)))

-- The step in a line, if it has a valid one.
abbrev pub step : List ℕ → Option Step
step line = of_words (words line)
  where
    of_words : List (List ℕ) → Option Step
    of_words [] = None
    of_words (what ∷ more) = said what more
