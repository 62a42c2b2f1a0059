-- The states of a routing table's rows. (Inside AppleTalk, the chapter on RTMP)
use Rattle.std.specs.Prelude.{Bool, true, false}
use Rattle.rtmp.specs.declared.state.State.{State}
use Rattle.rtmp.specs.declared.state.State.TheVariants.{Good, Suspect, Bad, Last}

-- a row in this state is used for forwarding: good and suspect rows are
abbrev pub is_usable : State → Bool
is_usable Good = true
is_usable Suspect = true
is_usable Bad = false
is_usable Last = false
