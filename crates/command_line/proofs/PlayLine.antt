-- The parse of the arguments of a play.
use Rattle.std.proofs.Common.{◌≡◌, ◌&&◌, ◌∙◌, Bool, false, Option, Some, List, [], ◌∷◌, None, true, codes, slice_index_or}
use Rattle.std.proofs.Common.{refl, ap, subst}
use Rattle.clap.specs.Words.{Row, Shape, Text, built, first_of, subcommand_of, takes}
use Rattle.clap.specs.Walk.{Walk, value, walked, walk_from, nothing_held, rows_after}
use Rattle.clap.specs.Takes.{level_passes}
use Rattle.clap.proofs.OnLiterals.{clap_on_literals}
use Rattle.command_line.specs.Arguments.{IsMeant, AsksForPlay, version_by}
use Rattle.command_line.specs.Forms.{Place, is_operand, play_to_words, play_words, version_at}
use Rattle.command_line.specs.Syntax.{atalk_app, play_app}
use Rattle.command_line.specs.Forms.Place.{Nowhere, BeforeFile, AfterFile, AtEnd}
use Rattle.command_line.specs.declared.arguments.Job.{Job}
use Rattle.command_line.proofs.Operands.{Leads, as_value, ends_well, leads_nowhere, leads_on, leads_operand, leads_value, rows_at_end}
use Rattle.command_line.proofs.Operands.{walk_by, whole_line}
use Rattle.table_image.specs.declared.version.Version.{Version}

-- The command `play`, as a parse has it, and its walk before the first argument.
abbrev pub play_shape : Shape
play_shape = slice_index_or (built atalk_app).subs 2 play_app.top

abbrev pub start : Walk
start = walk_from nothing_held

-- ---- The walk after each argument

abbrev pub after_file : Text → Walk → Walk
after_file file w = walk_by play_shape w file (w.held, value)

abbrev after_flag : Walk → Walk
after_flag w = walked play_shape.rules [] w (codes "--v2")

abbrev pub after_image : Walk → Walk
after_image w = walked play_shape.rules [] w (codes "--image")

abbrev pub after_out : Text → Walk → Walk
after_out out w = walk_by play_shape w out (as_value play_shape (codes "OUT") out w.held)

-- ---- AsksForPlay whose image isn't written

abbrev play_end : Place → Text → Walk
play_end Nowhere file = after_file file start
play_end BeforeFile file = after_file file (after_flag start)
play_end AfterFile file = after_flag (after_file file start)
play_end AtEnd file = after_flag (after_file file start)

flag_at_end : (file : Text) → is_operand file ≡ true
    → Leads play_shape start (file ∷ codes "--v2" ∷ []) (after_flag (after_file file start))
unfolding clap_on_literals
flag_at_end file operand =
    leads_operand play_shape nothing_held 1 _ file (codes "--v2" ∷ []) operand refl
    (leads_on play_shape (after_file file start) (after_flag (after_file file start)) _ (codes "--v2") [] refl refl
    (leads_nowhere play_shape _))

play_leads : (place : Place) (file : Text) → is_operand file ≡ true
    → Leads play_shape start (play_words place file) (play_end place file)
unfolding clap_on_literals
play_leads Nowhere file operand = leads_operand play_shape nothing_held 1 _ file [] operand refl (leads_nowhere play_shape _)
play_leads BeforeFile file operand =
    leads_on play_shape start (after_flag start) _ (codes "--v2") (file ∷ []) refl refl
    (leads_operand play_shape (after_flag start).held 1 _ file [] operand refl (leads_nowhere play_shape _))
play_leads AfterFile file operand = flag_at_end file operand
play_leads AtEnd file operand = flag_at_end file operand

play_ends_well : (place : Place) (file : Text) → ends_well play_shape (play_end place file) ≡ true
unfolding clap_on_literals
play_ends_well Nowhere file = refl
play_ends_well BeforeFile file = refl
play_ends_well AfterFile file = refl
play_ends_well AtEnd file = refl

play_entered : (place : Place) (name file : Text) → subcommand_of atalk_app (name ∷ codes "play" ∷ play_words place file)
    ≡ Some (codes "play", rows_after play_shape.rules [] (play_words place file))
unfolding clap_on_literals
play_entered Nowhere name file = refl
play_entered BeforeFile name file = refl
play_entered AfterFile name file = refl
play_entered AtEnd name file = refl

play_takes : (place : Place) (name file : Text) → takes atalk_app (name ∷ codes "play" ∷ play_words place file)
    ≡ (level_passes play_shape [] nothing_held (play_words place file) false && true)
unfolding clap_on_literals
play_takes Nowhere name file = refl
play_takes BeforeFile name file = refl
play_takes AfterFile name file = refl
play_takes AtEnd name file = refl

played_file : (place : Place) (file : Text) → first_of (codes "FILE") (rows_at_end play_shape (play_end place file)) ≡ Some file
unfolding clap_on_literals
played_file Nowhere file = refl
played_file BeforeFile file = refl
played_file AfterFile file = refl
played_file AtEnd file = refl

played_out : (place : Place) (file : Text) → first_of (codes "OUT") (rows_at_end play_shape (play_end place file)) ≡ None
unfolding clap_on_literals
played_out Nowhere file = refl
played_out BeforeFile file = refl
played_out AfterFile file = refl
played_out AtEnd file = refl

played_version : (place : Place) (file : Text)
    → version_by (first_of (codes "V2") (rows_at_end play_shape (play_end place file))) ≡ version_at place
unfolding clap_on_literals
played_version Nowhere file = refl
played_version BeforeFile file = refl
played_version AfterFile file = refl
played_version AtEnd file = refl

played_capture : (place : Place) (file : Text) → first_of (codes "CAPTURE") (rows_at_end play_shape (play_end place file)) ≡ None
unfolding clap_on_literals
played_capture Nowhere file = refl
played_capture BeforeFile file = refl
played_capture AfterFile file = refl
played_capture AtEnd file = refl

-- The job of the command `play` with these matches.
pub play_of_rows : (rows : List Row) (file out : Option Text) (version : Option Version) (capture : Option Text) (job : Job)
    → first_of (codes "FILE") rows ≡ file → first_of (codes "OUT") rows ≡ out → version_by (first_of (codes "V2") rows) ≡ version
    → first_of (codes "CAPTURE") rows ≡ capture → IsMeant (Some (codes "play", rows)) job → AsksForPlay file out version capture job
play_of_rows rows file out version capture job is_file is_out is_version is_capture meant =
    let asked = version_by (first_of (codes "V2") rows) in
    let captured = first_of (codes "CAPTURE") rows in
    subst (λ (text : Option Text). AsksForPlay file out version text job) is_capture
    (subst (λ (v : Option Version). AsksForPlay file out v captured job) is_version
    (subst (λ (text : Option Text). AsksForPlay file text asked captured job) is_out
    (subst (λ (text : Option Text). AsksForPlay text (first_of (codes "OUT") rows) asked captured job) is_file meant)))

-- `play FILE` is a play of FILE whose image isn't written.
pub play_meant : (place : Place) (name file : Text) (job : Job) → is_operand file ≡ true
    → IsMeant (subcommand_of atalk_app (name ∷ codes "play" ∷ play_words place file)) job
    → AsksForPlay (Some file) None (version_at place) None job
play_meant place name file job operand meant =
    let line = whole_line play_shape (play_words place file) (play_end place file) (play_leads place file operand) (play_ends_well place file) in
    let rows = play_entered place name file ∙ ap (λ (rows : List Row). Some (codes "play", rows)) line.1 in
    play_of_rows (rows_at_end play_shape (play_end place file)) (Some file) None (version_at place) None job
    (played_file place file) (played_out place file) (played_version place file) (played_capture place file)
    (subst (λ (met : Option (Text × List Row)). IsMeant met job) rows meant)

-- `play FILE` has no fault.
pub play_taken : (place : Place) (name file : Text) → is_operand file ≡ true
    → takes atalk_app (name ∷ codes "play" ∷ play_words place file) ≡ true
play_taken place name file operand =
    let line = whole_line play_shape (play_words place file) (play_end place file) (play_leads place file operand) (play_ends_well place file) in
    play_takes place name file ∙ ap (λ (b : Bool). b && true) line.0

-- ---- AsksForPlay whose image is written

abbrev play_to_end : Place → Text → Text → Walk
play_to_end Nowhere file out = after_out out (after_image (after_file file start))
play_to_end BeforeFile file out = after_out out (after_image (after_file file (after_flag start)))
play_to_end AfterFile file out = after_out out (after_image (after_flag (after_file file start)))
play_to_end AtEnd file out = after_flag (after_out out (after_image (after_file file start)))

play_to_leads : (place : Place) (file out : Text) → is_operand file ≡ true → is_operand out ≡ true
    → Leads play_shape start (play_to_words place file out) (play_to_end place file out)
unfolding clap_on_literals
play_to_leads Nowhere file out first second =
    let a = after_file file start in
    leads_operand play_shape nothing_held 1 _ file (codes "--image" ∷ out ∷ []) first refl
    (leads_on play_shape a (after_image a) _ (codes "--image") (out ∷ []) refl refl
    (leads_value play_shape (codes "OUT") (after_image a).held 2 _ out [] second (leads_nowhere play_shape _)))
play_to_leads BeforeFile file out first second =
    let a = after_file file (after_flag start) in
    leads_on play_shape start (after_flag start) _ (codes "--v2") (file ∷ codes "--image" ∷ out ∷ []) refl refl
    (leads_operand play_shape (after_flag start).held 1 _ file (codes "--image" ∷ out ∷ []) first refl
    (leads_on play_shape a (after_image a) _ (codes "--image") (out ∷ []) refl refl
    (leads_value play_shape (codes "OUT") (after_image a).held 2 _ out [] second (leads_nowhere play_shape _))))
play_to_leads AfterFile file out first second =
    let a = after_file file start in
    let b = after_flag a in
    leads_operand play_shape nothing_held 1 _ file (codes "--v2" ∷ codes "--image" ∷ out ∷ []) first refl
    (leads_on play_shape a b _ (codes "--v2") (codes "--image" ∷ out ∷ []) refl refl
    (leads_on play_shape b (after_image b) _ (codes "--image") (out ∷ []) refl refl
    (leads_value play_shape (codes "OUT") (after_image b).held 2 _ out [] second (leads_nowhere play_shape _))))
play_to_leads AtEnd file out first second =
    let a = after_file file start in
    let b = after_out out (after_image a) in
    leads_operand play_shape nothing_held 1 _ file (codes "--image" ∷ out ∷ codes "--v2" ∷ []) first refl
    (leads_on play_shape a (after_image a) _ (codes "--image") (out ∷ codes "--v2" ∷ []) refl refl
    (leads_value play_shape (codes "OUT") (after_image a).held 2 _ out (codes "--v2" ∷ []) second
    (leads_on play_shape b (after_flag b) _ (codes "--v2") [] refl refl (leads_nowhere play_shape _))))

play_to_ends_well : (place : Place) (file out : Text) → ends_well play_shape (play_to_end place file out) ≡ true
unfolding clap_on_literals
play_to_ends_well Nowhere file out = refl
play_to_ends_well BeforeFile file out = refl
play_to_ends_well AfterFile file out = refl
play_to_ends_well AtEnd file out = refl

play_to_entered : (place : Place) (name file out : Text)
    → subcommand_of atalk_app (name ∷ codes "play" ∷ play_to_words place file out)
    ≡ Some (codes "play", rows_after play_shape.rules [] (play_to_words place file out))
unfolding clap_on_literals
play_to_entered Nowhere name file out = refl
play_to_entered BeforeFile name file out = refl
play_to_entered AfterFile name file out = refl
play_to_entered AtEnd name file out = refl

play_to_takes : (place : Place) (name file out : Text) → takes atalk_app (name ∷ codes "play" ∷ play_to_words place file out)
    ≡ (level_passes play_shape [] nothing_held (play_to_words place file out) false && true)
unfolding clap_on_literals
play_to_takes Nowhere name file out = refl
play_to_takes BeforeFile name file out = refl
play_to_takes AfterFile name file out = refl
play_to_takes AtEnd name file out = refl

played_to_file : (place : Place) (file out : Text)
    → first_of (codes "FILE") (rows_at_end play_shape (play_to_end place file out)) ≡ Some file
unfolding clap_on_literals
played_to_file Nowhere file out = refl
played_to_file BeforeFile file out = refl
played_to_file AfterFile file out = refl
played_to_file AtEnd file out = refl

played_to_out : (place : Place) (file out : Text)
    → first_of (codes "OUT") (rows_at_end play_shape (play_to_end place file out)) ≡ Some out
unfolding clap_on_literals
played_to_out Nowhere file out = refl
played_to_out BeforeFile file out = refl
played_to_out AfterFile file out = refl
played_to_out AtEnd file out = refl

played_to_version : (place : Place) (file out : Text)
    → version_by (first_of (codes "V2") (rows_at_end play_shape (play_to_end place file out))) ≡ version_at place
unfolding clap_on_literals
played_to_version Nowhere file out = refl
played_to_version BeforeFile file out = refl
played_to_version AfterFile file out = refl
played_to_version AtEnd file out = refl

played_to_capture : (place : Place) (file out : Text)
    → first_of (codes "CAPTURE") (rows_at_end play_shape (play_to_end place file out)) ≡ None
unfolding clap_on_literals
played_to_capture Nowhere file out = refl
played_to_capture BeforeFile file out = refl
played_to_capture AfterFile file out = refl
played_to_capture AtEnd file out = refl

-- `play FILE --image OUT` is a play of FILE whose image is written to OUT.
pub play_to_meant : (place : Place) (name file out : Text) (job : Job) → is_operand file ≡ true → is_operand out ≡ true
    → IsMeant (subcommand_of atalk_app (name ∷ codes "play" ∷ play_to_words place file out)) job
    → AsksForPlay (Some file) (Some out) (version_at place) None job
play_to_meant place name file out job first second meant =
    let end = play_to_end place file out in
    let line = whole_line play_shape (play_to_words place file out) end (play_to_leads place file out first second)
    (play_to_ends_well place file out) in
    let rows = play_to_entered place name file out ∙ ap (λ (rows : List Row). Some (codes "play", rows)) line.1 in
    play_of_rows (rows_at_end play_shape end) (Some file) (Some out) (version_at place) None job (played_to_file place file out)
    (played_to_out place file out) (played_to_version place file out) (played_to_capture place file out)
    (subst (λ (met : Option (Text × List Row)). IsMeant met job) rows meant)

-- `play FILE --image OUT` has no fault.
pub play_to_taken : (place : Place) (name file out : Text) → is_operand file ≡ true → is_operand out ≡ true
    → takes atalk_app (name ∷ codes "play" ∷ play_to_words place file out) ≡ true
play_to_taken place name file out first second =
    let line = whole_line play_shape (play_to_words place file out) (play_to_end place file out)
    (play_to_leads place file out first second) (play_to_ends_well place file out) in
    play_to_takes place name file out ∙ ap (λ (b : Bool). b && true) line.0
