use Rattle.std.proofs.Common.{sym, ◌∙◌}
use Rattle.live_cables.proofs.NoRoom.{some_none, some_request}
use Rattle.live_cables.proofs.putting.ask.Goals as goal

-- There is no seat.
pub returns-in_default-clause-no_room : goal.returns-in_default-clause-no_room
returns-in_default-clause-no_room c = λ some none. absurd (some_none _ some (sym c.seat.ensures ∙ c.in_default.is))

pub returns-in_default-request-clause-no_room : goal.returns-in_default-request-clause-no_room
returns-in_default-request-clause-no_room c =
    λ some none. absurd (some_request _ _ _ _ c.request.ensures some c.in_default-request.is)
