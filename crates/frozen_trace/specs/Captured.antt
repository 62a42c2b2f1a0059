-- What a script leaves that was traced over frozen tables, and its capture.
use Rattle.std.specs.Prelude.{◌≡◌, ◌++◌, ◌∷◌, [], Bool, true, false, List, ℕ, map}
use Rattle.at_base.specs.declared.error.Fault.{Fault}
use Rattle.audit.specs.Rules.{Passes}
use Rattle.audit.specs.Verdicts.{IsFirst, verdict_line}
use Rattle.audit.specs.declared.verdict.Verdict.TheVariants as verdict
use Rattle.cable_model.specs.Logs.{transcript}
use Rattle.cable_model.specs.Transcript.{Entry}
use Rattle.captures.specs.Packets.{run_capture}
use Rattle.captures.specs.declared.head.Extent.{Extent}
use Rattle.frozen.specs.Runs.{Running, cabling}
use Rattle.frozen_trace.specs.Traces.{IsTrace}
use Rattle.frozen_trace.specs.declared.trace.Traced.{Traced}
use Rattle.frozen_trace.specs.declared.trace.Traced.TheVariants.{No, Ran}
use Rattle.legal_runs.specs.Stations.{cable_seats}
use Rattle.script.specs.declared.step.Step.{Step}
use Rattle.table_image.specs.Internet.{Internet}
use Rattle.table_image.specs.declared.cable.Cable.{Cable}

-- What these steps leave over an internet, and their text: if it passes the audit, the run at its end, and its trace;
-- otherwise the internet and the audit's first fault, and the line of that verdict.
abbrev pub HasTraced : Internet → List Step → List ℕ → Traced Running → Type 0
HasTraced i steps text (Ran run) = Passes i × (run.internet ≡ i) × ((t : IsTrace i steps text) × (t.ended ≡ run))
HasTraced i steps text (No image f) = (image ≡ i) × IsFirst i f × (text ≡ verdict_line (verdict.No f) ++ 10 ∷ [])

-- There was a run.
abbrev pub is_ran : {R : Type 0} → Traced R → Bool
is_ran (Ran run) = true
is_ran (No image f) = false

-- The range of a cable.
abbrev pub extent_of : Cable → Extent
extent_of c = record { start = c.start; end = c.end }

-- The capture of a transcript over the tables of an internet.
abbrev pub captured : Internet → List Entry → List ℕ
captured i entries = run_capture (map extent_of i.cables) (cable_seats i) entries

-- The capture of what was traced: that of all entries of the run, or one without packets.
abbrev pub traced_capture : Traced Running → List ℕ
traced_capture (Ran run) = captured run.internet (transcript (cabling run))
traced_capture (No image f) = captured image []
