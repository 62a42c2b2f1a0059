-- The trace of a run from its beginning to its end.
use Rattle.std.proofs.Common.{◌≡◌, ◌++◌, List, ℕ, Option, refl, subst, ◌∙◌}
use Rattle.std.proofs.lemmas.List.{append_assoc}
use Rattle.std.specs.Io.KnownBytes.{Appends}
use Rattle.audit.specs.Rules.{Passes}
use Rattle.frozen.specs.Runs.{HasBegun, IsFrozen, Running}
use Rattle.frozen_trace.proofs.Growth.{drained_grows, happens_grows}
use Rattle.frozen_trace.specs.Captured.{HasTraced}
use Rattle.frozen_trace.specs.Traces.{Draining, Happening, Played, StepPrints, StepsPrint, Refusing, Stopping, Unplayed, pending_line}
use Rattle.frozen_trace.specs.declared.trace.Traced.TheVariants.{Ran}
use Rattle.image_stations.specs.Holders.{AreFresh}
use Rattle.script.specs.declared.step.Step.{Step}
use Rattle.table_image.specs.Internet.{Internet}

-- A step keeps the internet.
step_keeps : (old new : Running) (s : Step) (text : List ℕ) → StepPrints old s text new → new.internet ≡ old.internet
step_keeps old new s text (Happening a b e none did) = (happens_grows a b e did).1.internet
step_keeps old new s text (Refusing r e error own) = refl
step_keeps old new s text (Draining a b most left did) = (drained_grows a b did.number did.drained).1.internet
step_keeps old new s text (Stopping a b most error other did) = (drained_grows a b did.number did.drained).1.internet

-- Steps keep the internet.
pub steps_keep : (old new : Running) (steps : List Step) (text : List ℕ) → StepsPrint old steps text new
    → new.internet ≡ old.internet
steps_keep old new steps text (Unplayed r) = refl
steps_keep old new steps text (Played a b c before s said more first last) =
    step_keeps b c s more last ∙ steps_keep a b before said first

-- A run that has begun over an internet that passes.
pub record Began (i : Internet) (begun : Running) : Type 0 where
  pub passes : Passes i
  pub has_begun : HasBegun i 4000000 begun
  pub fresh : AreFresh begun.stations

-- What was played in such a run is its trace.
pub traced : (i : Internet) (steps : List Step) (begun ended : Running) (played : List ℕ) → Began i begun
    → IsFrozen begun → IsFrozen ended → StepsPrint begun steps played ended
    → HasTraced i steps (played ++ pending_line ended) (Ran ended)
traced i steps begun ended played began before after plays = (
  began.passes,
  steps_keep begun ended steps played plays ∙ began.has_begun.0,
  (
    record {
      begun = begun;
      ended = ended;
      has_begun = began.has_begun;
      fresh = began.fresh;
      begun_frozen = before;
      ended_frozen = after;
      played = played;
      plays = plays;
      whole = refl;
    },
    refl,
  ),
)

-- What was left, what was played, and the last line: in the order in which they were put together.
pub as_one : (u v : Option (List ℕ)) (left played last : List ℕ) → Appends u v (left ++ played ++ last)
    → Appends u v (left ++ (played ++ last))
as_one u v left played last wrote = subst (Appends u v) (append_assoc left played last) wrote
