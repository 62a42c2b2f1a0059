-- The parse of arguments that are written out.
use Rattle.std.proofs.Common.{◌≡◌, ◌≤◌, ◌&&◌, Bool, Option, Some, List, [], ◌∷◌, None, true, length}
use Rattle.std.proofs.Common.{codes, slice_index_or, refl, ap, ap₂, subst, ◌∙◌, arith}
use Rattle.clap.specs.Words.{Row, Shape, Text, built, first_of, is_simple, subcommand_of, takes, fault_of, is_simple_and_free}
use Rattle.clap.specs.Walk.{Held, Step, Walk, value, walked, walk_from, nothing_held}
use Rattle.clap.specs.Takes.{step_passes, walk_passes}
use Rattle.clap.specs.declared.error.ErrorKind.TheVariants.{DisplayHelp, DisplayVersion}
use Rattle.clap.proofs.OnLiterals.{clap_on_literals}
use Rattle.command_line.specs.Arguments.{Audits, IsMeant, Traces}
use Rattle.command_line.specs.Forms.{is_operand}
use Rattle.command_line.specs.Syntax.{atalk_app, audit_app, trace_app}
use Rattle.command_line.specs.declared.arguments.Job.{Job}
use Rattle.command_line.proofs.Operands.{ends_well, met_in, met_value, passes_in, passes_value, rows_at_end, walk_by}

-- The parse of the command is one that clap's specs compute.
pub simple : is_simple atalk_app ≡ true
unfolding clap_on_literals
simple = refl

pub simple_and_free : is_simple_and_free atalk_app ≡ true
unfolding clap_on_literals
simple_and_free = refl

-- Without arguments there is no command.
pub none_entered : (words : List Text) → length words ≤ 1 → subcommand_of atalk_app words ≡ None
unfolding clap_on_literals
none_entered [] short = refl
none_entered (name ∷ []) short = refl
none_entered (name ∷ word ∷ words) short = absurd (omega (arith, short))

-- Without arguments there is no fault.
pub none_taken : (words : List Text) → length words ≤ 1 → takes atalk_app words ≡ true
unfolding clap_on_literals
none_taken [] short = refl
none_taken (name ∷ []) short = refl
none_taken (name ∷ word ∷ words) short = absurd (omega (arith, short))

pub help_asked : (name : Text) → fault_of atalk_app (name ∷ codes "--help" ∷ []) ≡ DisplayHelp ∷ []
unfolding clap_on_literals
help_asked name = refl

pub help_short_asked : (name : Text) → fault_of atalk_app (name ∷ codes "-h" ∷ []) ≡ DisplayHelp ∷ []
unfolding clap_on_literals
help_short_asked name = refl

pub version_short_asked : (name : Text) → fault_of atalk_app (name ∷ codes "-V" ∷ []) ≡ DisplayVersion ∷ []
unfolding clap_on_literals
version_short_asked name = refl

pub version_asked : (name : Text) → fault_of atalk_app (name ∷ codes "--version" ∷ []) ≡ DisplayVersion ∷ []
unfolding clap_on_literals
version_asked name = refl

-- The command `audit`, as a parse has it.
abbrev audit_shape : Shape
audit_shape = slice_index_or (built atalk_app).subs 0 audit_app.top

abbrev audit_end : Text → Held × Step → Walk
audit_end = walk_by audit_shape (walk_from nothing_held)

audit_by_met : (name file : Text) → subcommand_of atalk_app (name ∷ codes "audit" ∷ file ∷ [])
    ≡ Some (codes "audit", rows_at_end audit_shape (audit_end file (met_in audit_shape 1 nothing_held file)))
unfolding clap_on_literals
audit_by_met name file = refl

file_of_value : (file : Text) → first_of (codes "FILE") (rows_at_end audit_shape (audit_end file (nothing_held, value))) ≡ Some file
unfolding clap_on_literals
file_of_value file = refl

-- `audit FILE` is an audit of FILE.
pub audit_meant : (name file : Text) (job : Job) → is_operand file ≡ true
    → IsMeant (subcommand_of atalk_app (name ∷ codes "audit" ∷ file ∷ [])) job → Audits (Some file) job
audit_meant name file job operand meant =
    let rows = audit_by_met name file
    ∙ ap (λ (met : Held × Step). Some (codes "audit", rows_at_end audit_shape (audit_end file met)))
    (met_value audit_shape 1 nothing_held file operand) in
    subst (λ (text : Option Text). Audits text job) (file_of_value file)
    (subst (λ (met : Option (Text × List Row)). IsMeant met job) rows meant)

-- The arguments pass, by what `audit` does with the last one and by whether that passes.
abbrev audit_passes : Text → Bool → Held × Step → Bool
audit_passes file passes met =
    ((passes && step_passes audit_shape 1 met.0 met.1) && true) && ends_well audit_shape (audit_end file met)

audit_taken_by_met : (name file : Text) → takes atalk_app (name ∷ codes "audit" ∷ file ∷ [])
    ≡ (audit_passes file (passes_in audit_shape nothing_held file) (met_in audit_shape 1 nothing_held file) && true)
unfolding clap_on_literals
audit_taken_by_met name file = refl

file_passes : (file : Text) → (audit_passes file true (nothing_held, value) && true) ≡ true
unfolding clap_on_literals
file_passes file = refl

-- `audit FILE` has no fault.
pub audit_taken : (name file : Text) → is_operand file ≡ true → takes atalk_app (name ∷ codes "audit" ∷ file ∷ []) ≡ true
audit_taken name file operand =
    audit_taken_by_met name file
    ∙ ap₂ (λ (passes : Bool) (met : Held × Step). audit_passes file passes met && true)
    (passes_value audit_shape nothing_held file operand) (met_value audit_shape 1 nothing_held file operand)
    ∙ file_passes file

-- The command `trace`, as a parse has it.
abbrev pub trace_shape : Shape
trace_shape = slice_index_or (built atalk_app).subs 1 trace_app.top

abbrev image_end : Text → Held × Step → Walk
image_end = walk_by trace_shape (walk_from nothing_held)

-- The walk after IMAGE, if that is no flag.
abbrev image_walk : Text → Walk
image_walk image = image_end image (nothing_held, value)

abbrev script_end : Text → Text → Held × Step → Walk
script_end image = walk_by trace_shape (image_walk image)

trace_by_image : (name image script : Text) → subcommand_of atalk_app (name ∷ codes "trace" ∷ image ∷ script ∷ [])
    ≡ Some (
      codes "trace",
      rows_at_end trace_shape
          (walked trace_shape.rules [] (image_end image (met_in trace_shape 1 nothing_held image)) script),
    )
unfolding clap_on_literals
trace_by_image name image script = refl

trace_by_script : (image script : Text) → walked trace_shape.rules [] (image_walk image) script
    ≡ script_end image script (met_in trace_shape 2 (image_walk image).held script)
unfolding clap_on_literals
trace_by_script image script = refl

-- The matches of `trace`, if its operands are no flags.
abbrev trace_rows : Text → Text → List Row
trace_rows image script = rows_at_end trace_shape (script_end image script ((image_walk image).held, value))

trace_entered : (name image script : Text) → is_operand image ≡ true → is_operand script ≡ true
    → subcommand_of atalk_app (name ∷ codes "trace" ∷ image ∷ script ∷ []) ≡ Some (codes "trace", trace_rows image script)
trace_entered name image script first second =
    let entered = λ (end : Walk). Some (codes "trace", rows_at_end trace_shape end) in
    trace_by_image name image script
    ∙ ap (λ (met : Held × Step). entered (walked trace_shape.rules [] (image_end image met) script))
    (met_value trace_shape 1 nothing_held image first)
    ∙ ap entered (trace_by_script image script)
    ∙ ap (λ (met : Held × Step). entered (script_end image script met))
    (met_value trace_shape 2 (image_walk image).held script second)

image_of_values : (image script : Text) → first_of (codes "IMAGE") (trace_rows image script) ≡ Some image
unfolding clap_on_literals
image_of_values image script = refl

script_of_values : (image script : Text) → first_of (codes "SCRIPT") (trace_rows image script) ≡ Some script
unfolding clap_on_literals
script_of_values image script = refl

no_capture_of_values : (image script : Text) → first_of (codes "CAPTURE") (trace_rows image script) ≡ None
unfolding clap_on_literals
no_capture_of_values image script = refl

-- The job of the command `trace` with these matches.
pub trace_of_rows : (rows : List Row) (image script capture : Option Text) (job : Job) → first_of (codes "IMAGE") rows ≡ image
    → first_of (codes "SCRIPT") rows ≡ script → first_of (codes "CAPTURE") rows ≡ capture
    → IsMeant (Some (codes "trace", rows)) job → Traces image script capture job
trace_of_rows rows image script capture job is_image is_script is_capture meant =
    subst (λ (text : Option Text). Traces image script text job) is_capture
    (subst (λ (text : Option Text). Traces image text (first_of (codes "CAPTURE") rows) job) is_script
    (subst (λ (text : Option Text). Traces text (first_of (codes "SCRIPT") rows) (first_of (codes "CAPTURE") rows) job) is_image meant))

-- `trace IMAGE SCRIPT` is a trace of them.
pub trace_meant : (name image script : Text) (job : Job) → is_operand image ≡ true → is_operand script ≡ true
    → IsMeant (subcommand_of atalk_app (name ∷ codes "trace" ∷ image ∷ script ∷ [])) job
    → Traces (Some image) (Some script) None job
trace_meant name image script job first second meant =
    trace_of_rows (trace_rows image script) (Some image) (Some script) None job (image_of_values image script)
    (script_of_values image script) (no_capture_of_values image script)
    (subst (λ (met : Option (Text × List Row)). IsMeant met job) (trace_entered name image script first second) meant)

-- The arguments pass, by what `trace` does with the first one and by whether that passes.
abbrev trace_passes : Text → Text → Bool → Held × Step → Bool
trace_passes image script passes met =
    let walk = image_end image met in
    ((passes && step_passes trace_shape 1 met.0 met.1) && walk_passes trace_shape [] walk (script ∷ []))
    && ends_well trace_shape (walked trace_shape.rules [] walk script)

trace_taken_by_image : (name image script : Text) → takes atalk_app (name ∷ codes "trace" ∷ image ∷ script ∷ [])
    ≡ (trace_passes image script (passes_in trace_shape nothing_held image) (met_in trace_shape 1 nothing_held image) && true)
unfolding clap_on_literals
trace_taken_by_image name image script = refl

-- The arguments pass, by what `trace` does with the second one and by whether that passes.
abbrev script_passes : Text → Text → Bool → Held × Step → Bool
script_passes image script passes met =
    ((passes && step_passes trace_shape 2 met.0 met.1) && true) && ends_well trace_shape (script_end image script met)

trace_taken_by_script : (image script : Text) → trace_passes image script true (nothing_held, value)
    ≡ script_passes image script (passes_in trace_shape (image_walk image).held script)
    (met_in trace_shape 2 (image_walk image).held script)
unfolding clap_on_literals
trace_taken_by_script image script = refl

operands_pass : (image script : Text) → (script_passes image script true ((image_walk image).held, value) && true) ≡ true
unfolding clap_on_literals
operands_pass image script = refl

-- `trace IMAGE SCRIPT` has no fault.
pub trace_taken : (name image script : Text) → is_operand image ≡ true → is_operand script ≡ true
    → takes atalk_app (name ∷ codes "trace" ∷ image ∷ script ∷ []) ≡ true
trace_taken name image script first second =
    let held = (image_walk image).held in
    trace_taken_by_image name image script
    ∙ ap₂ (λ (passes : Bool) (met : Held × Step). trace_passes image script passes met && true)
    (passes_value trace_shape nothing_held image first) (met_value trace_shape 1 nothing_held image first)
    ∙ ap (λ (all : Bool). all && true) (trace_taken_by_script image script)
    ∙ ap₂ (λ (passes : Bool) (met : Held × Step). script_passes image script passes met && true)
    (passes_value trace_shape held script second) (met_value trace_shape 2 held script second)
    ∙ operands_pass image script
