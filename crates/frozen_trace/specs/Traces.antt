-- The effects of a script's steps on a run over frozen tables, and the text that is printed.
use Rattle.std.specs.Prelude.{◌≡◌, ◌≢◌, ℕ, Bool, List, [], ◌∷◌, ◌++◌, None, Some, codes, drop, length}
use Rattle.std.specs.Fmt.{decimal}
use Rattle.at_base.specs.ErrorNumber.{number_of}
use Rattle.at_base.specs.declared.error.Error.{Error}
use Rattle.at_base.specs.declared.error.Error.TheVariants.{Memory}
use Rattle.cable_model.specs.Logs.{transcript}
use Rattle.cable_model.specs.Transcript.{Entry}
use Rattle.events.specs.declared.event.Event.{Event}
use Rattle.frozen.specs.Events.{DrainStops, DrainsTo, Happens, refusal}
use Rattle.frozen.specs.Runs.{HasBegun, IsFrozen, Running, cabling, pending_in}
use Rattle.image_stations.specs.Holders.{AreFresh}
use Rattle.script.specs.declared.step.Step.{Step}
use Rattle.script.specs.declared.step.Step.TheVariants as step
use Rattle.table_image.specs.Internet.{Internet}
use Rattle.trace_lines.specs.Lines.{Printed, lines, with_cables}
use Rattle.trace_lines.specs.Stations.{addresses_of}

-- The cables of the stamps that entries take, by rising stamps.
abbrev pub cables_of : List Entry → List ℕ
cables_of entries = with_cables [] entries

-- The state of a printer that has printed all entries of a run.
abbrev pub all_printed : Running → Printed
all_printed r = record { addresses = addresses_of r.internet; cables = cables_of (transcript (cabling r)) }

-- The entries of a run that an earlier state of it didn't have.
abbrev pub added : Running → Running → List Entry
added old new = drop (length (cabling old).lines) (transcript (cabling new))

-- The lines of the entries that were added.
abbrev pub told : Running → Running → List ℕ
told old new = lines (addresses_of old.internet) (cables_of (transcript (cabling old))) (added old new)

-- The line of a step that has an error.
abbrev pub refused_line : Error → List ℕ
refused_line e = codes "refused " ++ decimal (number_of e) ++ 10 ∷ []

-- The last line: how many pairs of a frame and a station are pending.
abbrev pub pending_line : Running → List ℕ
pending_line r = codes "pending " ++ decimal (length (pending_in r)) ++ 10 ∷ []

-- The effect of a step on a run, and the text that is printed: an event is carried out, or has an error other than
-- Memory and changes nothing; or frames are taken, as many as the step says unless nothing is pending any more, or up
-- to the first take that has an error other than Memory.
pub data StepPrints : Running → Step → List ℕ → Running → Type 0 where
  Happening : (old new : Running) (e : Event) → refusal old e ≡ None → Happens old e new
      → StepPrints old (step.Event e) (told old new) new
  Refusing : (r : Running) (e : Event) (error : Error) → refusal r e ≡ Some error
      → StepPrints r (step.Event e) (refused_line error) r
  Draining : (old new : Running) (most : ℕ) (none_left : Bool) → DrainsTo old most none_left new
      → StepPrints old (step.Drain most) (told old new) new
  Stopping : (old new : Running) (most : ℕ) (error : Error) → error ≢ Memory → DrainStops old most error new
      → StepPrints old (step.Drain most) (told old new ++ refused_line error) new

-- The effect of steps, one after the other, and the text that is printed.
pub data StepsPrint : Running → List Step → List ℕ → Running → Type 0 where
  Unplayed : (r : Running) → StepsPrint r [] [] r
  Played : (old between new : Running) (steps : List Step) (s : Step) (text more : List ℕ) → StepsPrint old steps text between
      → StepPrints between s more new → StepsPrint old (steps ++ s ∷ []) (text ++ more) new

-- the most entries of a trace's transcript
abbrev pub max_traced : ℕ
max_traced = 4000000

-- The text is the trace of these steps over the frozen tables of an internet: the run starts with an empty transcript,
-- room for 4,000,000 entries and stations that have received nothing, the steps are carried out, and the last line has
-- the number of pending pairs.
pub record IsTrace (i : Internet) (steps : List Step) (text : List ℕ) : Type 0 where
  pub begun : Running
  pub ended : Running
  pub has_begun : HasBegun i max_traced begun
  pub fresh : AreFresh begun.stations
  pub begun_frozen : IsFrozen begun
  pub ended_frozen : IsFrozen ended
  pub played : List ℕ
  pub plays : StepsPrint begun steps played ended
  pub whole : text ≡ played ++ pending_line ended
