-- The parse of arguments that ask for a capture.
use Rattle.std.proofs.Common.{◌≡◌, ◌&&◌, ◌∙◌, Bool, false, Option, Some, List, [], ◌∷◌, None, true, codes, refl, ap, subst}
use Rattle.clap.specs.Words.{Row, Shape, Text, first_of, subcommand_of, takes}
use Rattle.clap.specs.Walk.{Walk, value, walked, nothing_held, rows_after}
use Rattle.clap.specs.Takes.{level_passes}
use Rattle.clap.proofs.OnLiterals.{clap_on_literals}
use Rattle.command_line.specs.Arguments.{IsMeant, AsksForPlay, Traces, version_by}
use Rattle.command_line.specs.Forms.{capture_to_words, capture_words, is_operand, trace_to_words}
use Rattle.command_line.specs.Syntax.{atalk_app}
use Rattle.command_line.specs.declared.arguments.Job.{Job}
use Rattle.command_line.proofs.CommandLine.{trace_of_rows, trace_shape}
use Rattle.command_line.proofs.Operands.{Leads, as_value, ends_well, leads_nowhere, leads_on, leads_operand, leads_value, rows_at_end}
use Rattle.command_line.proofs.Operands.{walk_by, whole_line}
use Rattle.command_line.proofs.PlayLine.{after_file, after_image, after_out, play_of_rows, play_shape, start}

-- The walk after `--capture`, and after its value.
abbrev after_option : Shape → Walk → Walk
after_option shape w = walked shape.rules [] w (codes "--capture")

abbrev after_capture : Shape → Text → Walk → Walk
after_capture shape out w = walk_by shape w out (as_value shape (codes "CAPTURE") out w.held)

-- ---- `trace IMAGE SCRIPT --capture OUT`

abbrev after_operand : Text → Walk → Walk
after_operand word w = walk_by trace_shape w word (w.held, value)

abbrev operands : Text → Text → Walk
operands image script = after_operand script (after_operand image start)

abbrev trace_end : Text → Text → Text → Walk
trace_end image script out = after_capture trace_shape out (after_option trace_shape (operands image script))

trace_leads : (image script out : Text) → is_operand image ≡ true → is_operand script ≡ true → is_operand out ≡ true
    → Leads trace_shape start (trace_to_words image script out) (trace_end image script out)
unfolding clap_on_literals
trace_leads image script out first second third =
    let a = after_operand image start in
    let b = operands image script in
    let c = after_option trace_shape b in
    leads_operand trace_shape nothing_held 1 _ image (script ∷ codes "--capture" ∷ out ∷ []) first refl
    (leads_operand trace_shape a.held 2 _ script (codes "--capture" ∷ out ∷ []) second refl
    (leads_on trace_shape b c _ (codes "--capture") (out ∷ []) refl refl
    (leads_value trace_shape (codes "CAPTURE") c.held 3 _ out [] third (leads_nowhere trace_shape _))))

trace_ends_well : (image script out : Text) → ends_well trace_shape (trace_end image script out) ≡ true
unfolding clap_on_literals
trace_ends_well image script out = refl

trace_entered : (name image script out : Text) → subcommand_of atalk_app (name ∷ codes "trace" ∷ trace_to_words image script out)
    ≡ Some (codes "trace", rows_after trace_shape.rules [] (trace_to_words image script out))
unfolding clap_on_literals
trace_entered name image script out = refl

trace_takes : (name image script out : Text) → takes atalk_app (name ∷ codes "trace" ∷ trace_to_words image script out)
    ≡ (level_passes trace_shape [] nothing_held (trace_to_words image script out) false && true)
unfolding clap_on_literals
trace_takes name image script out = refl

traced_image : (image script out : Text)
    → first_of (codes "IMAGE") (rows_at_end trace_shape (trace_end image script out)) ≡ Some image
unfolding clap_on_literals
traced_image image script out = refl

traced_script : (image script out : Text)
    → first_of (codes "SCRIPT") (rows_at_end trace_shape (trace_end image script out)) ≡ Some script
unfolding clap_on_literals
traced_script image script out = refl

traced_capture : (image script out : Text)
    → first_of (codes "CAPTURE") (rows_at_end trace_shape (trace_end image script out)) ≡ Some out
unfolding clap_on_literals
traced_capture image script out = refl

-- `trace IMAGE SCRIPT --capture OUT` is a trace whose capture is written to OUT.
pub trace_to_meant : (name image script out : Text) (job : Job) → is_operand image ≡ true → is_operand script ≡ true
    → is_operand out ≡ true → IsMeant (subcommand_of atalk_app (name ∷ codes "trace" ∷ trace_to_words image script out)) job
    → Traces (Some image) (Some script) (Some out) job
trace_to_meant name image script out job first second third meant =
    let end = trace_end image script out in
    let line = whole_line trace_shape (trace_to_words image script out) end (trace_leads image script out first second third)
    (trace_ends_well image script out) in
    let rows = trace_entered name image script out ∙ ap (λ (rows : List Row). Some (codes "trace", rows)) line.1 in
    trace_of_rows (rows_at_end trace_shape end) (Some image) (Some script) (Some out) job (traced_image image script out)
    (traced_script image script out) (traced_capture image script out)
    (subst (λ (met : Option (Text × List Row)). IsMeant met job) rows meant)

-- `trace IMAGE SCRIPT --capture OUT` has no fault.
pub trace_to_taken : (name image script out : Text) → is_operand image ≡ true → is_operand script ≡ true
    → is_operand out ≡ true → takes atalk_app (name ∷ codes "trace" ∷ trace_to_words image script out) ≡ true
trace_to_taken name image script out first second third =
    let line = whole_line trace_shape (trace_to_words image script out) (trace_end image script out)
    (trace_leads image script out first second third) (trace_ends_well image script out) in
    trace_takes name image script out ∙ ap (λ (b : Bool). b && true) line.0

-- ---- `play FILE --capture CAPTURE`

abbrev capture_end : Text → Text → Walk
capture_end file capture = after_capture play_shape capture (after_option play_shape (after_file file start))

capture_leads : (file capture : Text) → is_operand file ≡ true → is_operand capture ≡ true
    → Leads play_shape start (capture_words file capture) (capture_end file capture)
unfolding clap_on_literals
capture_leads file capture first second =
    let a = after_file file start in
    let b = after_option play_shape a in
    leads_operand play_shape nothing_held 1 _ file (codes "--capture" ∷ capture ∷ []) first refl
    (leads_on play_shape a b _ (codes "--capture") (capture ∷ []) refl refl
    (leads_value play_shape (codes "CAPTURE") b.held 2 _ capture [] second (leads_nowhere play_shape _)))

capture_ends_well : (file capture : Text) → ends_well play_shape (capture_end file capture) ≡ true
unfolding clap_on_literals
capture_ends_well file capture = refl

capture_entered : (name file capture : Text) → subcommand_of atalk_app (name ∷ codes "play" ∷ capture_words file capture)
    ≡ Some (codes "play", rows_after play_shape.rules [] (capture_words file capture))
unfolding clap_on_literals
capture_entered name file capture = refl

capture_takes : (name file capture : Text) → takes atalk_app (name ∷ codes "play" ∷ capture_words file capture)
    ≡ (level_passes play_shape [] nothing_held (capture_words file capture) false && true)
unfolding clap_on_literals
capture_takes name file capture = refl

captured_file : (file capture : Text) → first_of (codes "FILE") (rows_at_end play_shape (capture_end file capture)) ≡ Some file
unfolding clap_on_literals
captured_file file capture = refl

captured_out : (file capture : Text) → first_of (codes "OUT") (rows_at_end play_shape (capture_end file capture)) ≡ None
unfolding clap_on_literals
captured_out file capture = refl

captured_version : (file capture : Text)
    → version_by (first_of (codes "V2") (rows_at_end play_shape (capture_end file capture))) ≡ None
unfolding clap_on_literals
captured_version file capture = refl

captured_capture : (file capture : Text)
    → first_of (codes "CAPTURE") (rows_at_end play_shape (capture_end file capture)) ≡ Some capture
unfolding clap_on_literals
captured_capture file capture = refl

-- `play FILE --capture CAPTURE` is a play whose capture is written to CAPTURE.
pub capture_meant : (name file capture : Text) (job : Job) → is_operand file ≡ true → is_operand capture ≡ true
    → IsMeant (subcommand_of atalk_app (name ∷ codes "play" ∷ capture_words file capture)) job
    → AsksForPlay (Some file) None None (Some capture) job
capture_meant name file capture job first second meant =
    let end = capture_end file capture in
    let line = whole_line play_shape (capture_words file capture) end (capture_leads file capture first second)
    (capture_ends_well file capture) in
    let rows = capture_entered name file capture ∙ ap (λ (rows : List Row). Some (codes "play", rows)) line.1 in
    play_of_rows (rows_at_end play_shape end) (Some file) None None (Some capture) job (captured_file file capture)
    (captured_out file capture) (captured_version file capture) (captured_capture file capture)
    (subst (λ (met : Option (Text × List Row)). IsMeant met job) rows meant)

-- `play FILE --capture CAPTURE` has no fault.
pub capture_taken : (name file capture : Text) → is_operand file ≡ true → is_operand capture ≡ true
    → takes atalk_app (name ∷ codes "play" ∷ capture_words file capture) ≡ true
capture_taken name file capture first second =
    let line = whole_line play_shape (capture_words file capture) (capture_end file capture)
    (capture_leads file capture first second) (capture_ends_well file capture) in
    capture_takes name file capture ∙ ap (λ (b : Bool). b && true) line.0

-- ---- `play FILE --image OUT --capture CAPTURE`

abbrev capture_to_end : Text → Text → Text → Walk
capture_to_end file out capture =
    after_capture play_shape capture (after_option play_shape (after_out out (after_image (after_file file start))))

capture_to_leads : (file out capture : Text) → is_operand file ≡ true → is_operand out ≡ true → is_operand capture ≡ true
    → Leads play_shape start (capture_to_words file out capture) (capture_to_end file out capture)
unfolding clap_on_literals
capture_to_leads file out capture first second third =
    let a = after_file file start in
    let b = after_out out (after_image a) in
    let c = after_option play_shape b in
    leads_operand play_shape nothing_held 1 _ file (codes "--image" ∷ out ∷ codes "--capture" ∷ capture ∷ []) first refl
    (leads_on play_shape a (after_image a) _ (codes "--image") (out ∷ codes "--capture" ∷ capture ∷ []) refl refl
    (leads_value play_shape (codes "OUT") (after_image a).held 2 _ out (codes "--capture" ∷ capture ∷ []) second
    (leads_on play_shape b c _ (codes "--capture") (capture ∷ []) refl refl
    (leads_value play_shape (codes "CAPTURE") c.held 2 _ capture [] third (leads_nowhere play_shape _)))))

capture_to_ends_well : (file out capture : Text) → ends_well play_shape (capture_to_end file out capture) ≡ true
unfolding clap_on_literals
capture_to_ends_well file out capture = refl

capture_to_entered : (name file out capture : Text)
    → subcommand_of atalk_app (name ∷ codes "play" ∷ capture_to_words file out capture)
    ≡ Some (codes "play", rows_after play_shape.rules [] (capture_to_words file out capture))
unfolding clap_on_literals
capture_to_entered name file out capture = refl

capture_to_takes : (name file out capture : Text) → takes atalk_app (name ∷ codes "play" ∷ capture_to_words file out capture)
    ≡ (level_passes play_shape [] nothing_held (capture_to_words file out capture) false && true)
unfolding clap_on_literals
capture_to_takes name file out capture = refl

captured_to_file : (file out capture : Text)
    → first_of (codes "FILE") (rows_at_end play_shape (capture_to_end file out capture)) ≡ Some file
unfolding clap_on_literals
captured_to_file file out capture = refl

captured_to_out : (file out capture : Text)
    → first_of (codes "OUT") (rows_at_end play_shape (capture_to_end file out capture)) ≡ Some out
unfolding clap_on_literals
captured_to_out file out capture = refl

captured_to_version : (file out capture : Text)
    → version_by (first_of (codes "V2") (rows_at_end play_shape (capture_to_end file out capture))) ≡ None
unfolding clap_on_literals
captured_to_version file out capture = refl

captured_to_capture : (file out capture : Text)
    → first_of (codes "CAPTURE") (rows_at_end play_shape (capture_to_end file out capture)) ≡ Some capture
unfolding clap_on_literals
captured_to_capture file out capture = refl

-- `play FILE --image OUT --capture CAPTURE` is a play whose image is written to OUT, and whose capture to CAPTURE.
pub capture_to_meant : (name file out capture : Text) (job : Job) → is_operand file ≡ true → is_operand out ≡ true
    → is_operand capture ≡ true → IsMeant (subcommand_of atalk_app (name ∷ codes "play" ∷ capture_to_words file out capture)) job
    → AsksForPlay (Some file) (Some out) None (Some capture) job
capture_to_meant name file out capture job first second third meant =
    let end = capture_to_end file out capture in
    let line = whole_line play_shape (capture_to_words file out capture) end (capture_to_leads file out capture first second third)
    (capture_to_ends_well file out capture) in
    let rows = capture_to_entered name file out capture ∙ ap (λ (rows : List Row). Some (codes "play", rows)) line.1 in
    play_of_rows (rows_at_end play_shape end) (Some file) (Some out) None (Some capture) job (captured_to_file file out capture)
    (captured_to_out file out capture) (captured_to_version file out capture) (captured_to_capture file out capture)
    (subst (λ (met : Option (Text × List Row)). IsMeant met job) rows meant)

-- `play FILE --image OUT --capture CAPTURE` has no fault.
pub capture_to_taken : (name file out capture : Text) → is_operand file ≡ true → is_operand out ≡ true
    → is_operand capture ≡ true → takes atalk_app (name ∷ codes "play" ∷ capture_to_words file out capture) ≡ true
capture_to_taken name file out capture first second third =
    let line = whole_line play_shape (capture_to_words file out capture) (capture_to_end file out capture)
    (capture_to_leads file out capture first second third) (capture_to_ends_well file out capture) in
    capture_to_takes name file out capture ∙ ap (λ (b : Bool). b && true) line.0
