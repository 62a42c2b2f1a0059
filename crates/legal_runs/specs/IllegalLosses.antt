-- Transcripts that are not legal for the internet of three cables, not even with losses.
use Rattle.std.specs.Prelude.{List, [], ◌∷◌, ◌++◌, take}
use Rattle.cable_model.specs.Transcript.{Entry, Lost, Sent, Took}
use Rattle.legal_runs.specs.Example.{echo, echo_request, framed}
use Rattle.legal_runs.specs.Illegal.{forward_elsewhere}

-- A frame is lost twice.
abbrev pub lost_twice : List Entry
lost_twice = take 2 echo ++ Lost 0 ∷ Lost 0 ∷ []

-- A frame is lost after the only station that it is for has taken it.
abbrev pub lost_after : List Entry
lost_after = take 4 echo ++ Lost 0 ∷ []

-- A frame is lost that was never put.
abbrev pub lost_unknown : List Entry
lost_unknown = take 2 echo ++ Lost 1 ∷ []

-- A forward request for a cable that doesn't list the zone was lost.
abbrev pub forward_lost_elsewhere : List Entry
forward_lost_elsewhere = forward_elsewhere ++ Lost 0 ∷ []

-- A frame is taken after it was lost.
abbrev pub taken_after : List Entry
taken_after = take 2 echo ++ Lost 0 ∷ Took 0 0 ∷ framed 1 1 0 3 (echo_request 4) ∷ []

-- Two frames have the same stamp.
abbrev pub stamp_twice : List Entry
stamp_twice = take 2 echo ++ take 2 echo

-- A frame's stamp is below that of an earlier one.
abbrev pub stamp_falls : List Entry
stamp_falls = Sent 2 (echo_request 0) ∷ framed 1 0 2 1 (echo_request 0) ∷ take 2 echo
