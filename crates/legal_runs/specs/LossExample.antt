-- Transcripts over three cables in which frames are lost, or whose stamps aren't consecutive.
use Rattle.std.specs.Prelude.{List, [], ◌∷◌, ◌++◌, take}
use Rattle.cable_model.specs.declared.entry.How.TheVariants as how
use Rattle.cable_model.specs.Transcript.{Entry, Lost, Sent, Took, Reached}
use Rattle.legal_runs.specs.Example.{echo, echo_request, framed}
use Rattle.legal_runs.specs.LookupExample.{blue_names}

-- The echo request is lost on the second cable.
abbrev pub echo_lost : List Entry
echo_lost = take 4 echo ++ Lost 1 ∷ []

-- The echo request goes to the printer, in frames whose stamps are 3, 7 and 8.
abbrev pub echo_skips : List Entry
echo_skips =
    Sent 2 (echo_request 0) ∷ framed 3 0 2 1 (echo_request 0)
    ∷ Took 3 0 ∷ framed 7 1 0 3 (echo_request 4)
    ∷ Took 7 1 ∷ Reached 2 1 how.Station (echo_request 0) ∷ framed 8 2 1 6 (echo_request 8) ∷ []

-- The node sends the echo request twice, and the first frame is lost before the second is put.
abbrev pub lost_between : List Entry
lost_between = take 2 echo ++ Sent 2 (echo_request 0) ∷ Lost 0 ∷ framed 1 0 2 1 (echo_request 0) ∷ []

-- The request for the names in zone blue is taken by the first router, whose forward request to the last cable is lost.
abbrev pub forward_lost : List Entry
forward_lost = take 8 blue_names ++ Lost 2 ∷ []
