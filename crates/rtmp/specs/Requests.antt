-- Requests for routing data. (Inside AppleTalk, the chapter on RTMP)
use Rattle.std.specs.Prelude.{ℕ, true, ◌==◌, List, Option, if◌then◌else◌}
use Rattle.at_base.specs.declared.error.Field.TheVariants.{Function}
use Rattle.at_base.specs.declared.error.Error.{Error}
use Rattle.at_base.specs.Packets.{packets, within}
use Rattle.at_base.specs.Reading.{read, value_of}
use Rattle.at_base.specs.Grammar.{Grammar, done, field, number, one}
use Rattle.rtmp.specs.declared.request.Horizon.TheVariants.{Split, Whole}
use Rattle.rtmp.specs.declared.request.Request.{Request}
use Rattle.rtmp.specs.declared.request.Request.TheVariants.{Router, Routes}

-- the function of a request
abbrev pub request_number : Request → ℕ
request_number Router = 1
request_number (Routes Split) = 2
request_number (Routes Whole) = 3

-- the request of a function from 1 to 3
abbrev pub request_of : ℕ → Request
request_of n = if n == 1 then Router else if n == 2 then Routes Split else Routes Whole

-- the format of a request: its function; what follows is ignored
unfoldable pub request : Grammar Error true Request
request = field (number one (within 1 3 Function)) (λ r. request_number r) (λ n. done (request_of n))

-- the request that the bytes begin with, if they begin with one
unfoldable pub request_in : List ℕ → Option Request
request_in payload = value_of (read packets request payload)
