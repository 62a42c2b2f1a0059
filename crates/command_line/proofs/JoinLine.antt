-- The parse of the arguments of `join`.
use Rattle.std.proofs.Common.{◌≡◌, ◌&&◌, ◌∙◌, Bool, false, Option, Some, List, [], ◌∷◌, true, codes, slice_index_or, refl, ap, subst}
use Rattle.clap.specs.Words.{Row, Shape, Text, built, first_of, subcommand_of, takes}
use Rattle.clap.specs.Walk.{Walk, value, walked, walk_from, nothing_held, rows_after}
use Rattle.clap.specs.Takes.{level_passes}
use Rattle.clap.proofs.OnLiterals.{clap_on_literals}
use Rattle.command_line.specs.Arguments.{IsMeant, Joins}
use Rattle.command_line.specs.Forms.{is_operand, join_two_words, join_words}
use Rattle.command_line.specs.Syntax.{atalk_app, join_app}
use Rattle.command_line.specs.declared.arguments.Job.{Job}
use Rattle.command_line.proofs.Operands.{Leads, as_value, ends_well, leads_further, leads_nowhere, leads_on, leads_operand}
use Rattle.command_line.proofs.Operands.{leads_value, rows_at_end, walk_by, whole_line}

-- The command as a parse has it, and its walk before the first argument.
abbrev join_shape : Shape
join_shape = slice_index_or (built atalk_app).subs 6 join_app.top

abbrev start : Walk
start = walk_from nothing_held

-- The walk after an image, after `--image`, and after its value.
abbrev after_image : Text → Walk → Walk
after_image image w = walk_by join_shape w image (w.held, value)

abbrev after_option : Walk → Walk
after_option w = walked join_shape.rules [] w (codes "--image")

abbrev after_out : Text → Walk → Walk
after_out out w = walk_by join_shape w out (as_value join_shape (codes "OUT") out w.held)

-- The job of the command `join` with these matches.
join_of_rows : (rows : List Row) (image out : Option Text) (job : Job) → first_of (codes "FILE") rows ≡ image
    → first_of (codes "OUT") rows ≡ out → IsMeant (Some (codes "join", rows)) job → Joins image out job
join_of_rows rows image out job is_image is_out meant =
    subst (λ (text : Option Text). Joins image text job) is_out
    (subst (λ (text : Option Text). Joins text (first_of (codes "OUT") rows) job) is_image meant)

-- ---- `join IMAGE --image OUT`

abbrev join_end : Text → Text → Walk
join_end image out = after_out out (after_option (after_image image start))

join_leads : (image out : Text) → is_operand image ≡ true → is_operand out ≡ true
    → Leads join_shape start (join_words image out) (join_end image out)
unfolding clap_on_literals
join_leads image out first second =
    let a = after_image image start in
    let b = after_option a in
    leads_operand join_shape nothing_held 1 _ image (codes "--image" ∷ out ∷ []) first refl
    (leads_on join_shape a b _ (codes "--image") (out ∷ []) refl refl
    (leads_value join_shape (codes "OUT") b.held 1 _ out [] second (leads_nowhere join_shape _)))

join_ends_well : (image out : Text) → ends_well join_shape (join_end image out) ≡ true
unfolding clap_on_literals
join_ends_well image out = refl

join_entered : (name image out : Text) → subcommand_of atalk_app (name ∷ codes "join" ∷ join_words image out)
    ≡ Some (codes "join", rows_after join_shape.rules [] (join_words image out))
unfolding clap_on_literals
join_entered name image out = refl

join_takes : (name image out : Text) → takes atalk_app (name ∷ codes "join" ∷ join_words image out)
    ≡ (level_passes join_shape [] nothing_held (join_words image out) false && true)
unfolding clap_on_literals
join_takes name image out = refl

joined_image : (image out : Text) → first_of (codes "FILE") (rows_at_end join_shape (join_end image out)) ≡ Some image
unfolding clap_on_literals
joined_image image out = refl

joined_out : (image out : Text) → first_of (codes "OUT") (rows_at_end join_shape (join_end image out)) ≡ Some out
unfolding clap_on_literals
joined_out image out = refl

-- `join IMAGE --image OUT` joins IMAGE into OUT.
pub join_meant : (name image out : Text) (job : Job) → is_operand image ≡ true → is_operand out ≡ true
    → IsMeant (subcommand_of atalk_app (name ∷ codes "join" ∷ join_words image out)) job → Joins (Some image) (Some out) job
join_meant name image out job first second meant =
    let end = join_end image out in
    let line = whole_line join_shape (join_words image out) end (join_leads image out first second) (join_ends_well image out) in
    let rows = join_entered name image out ∙ ap (λ (rows : List Row). Some (codes "join", rows)) line.1 in
    join_of_rows (rows_at_end join_shape end) (Some image) (Some out) job (joined_image image out) (joined_out image out)
    (subst (λ (met : Option (Text × List Row)). IsMeant met job) rows meant)

-- `join IMAGE --image OUT` has no fault.
pub join_taken : (name image out : Text) → is_operand image ≡ true → is_operand out ≡ true
    → takes atalk_app (name ∷ codes "join" ∷ join_words image out) ≡ true
join_taken name image out first second =
    let line = whole_line join_shape (join_words image out) (join_end image out) (join_leads image out first second)
    (join_ends_well image out) in
    join_takes name image out ∙ ap (λ (b : Bool). b && true) line.0

-- ---- `join IMAGE OTHER --image OUT`

abbrev two_end : Text → Text → Text → Walk
two_end image other out = after_out out (after_option (after_image other (after_image image start)))

two_leads : (image other out : Text) → is_operand image ≡ true → is_operand other ≡ true → is_operand out ≡ true
    → Leads join_shape start (join_two_words image other out) (two_end image other out)
unfolding clap_on_literals
two_leads image other out first second third =
    let a = after_image image start in
    let b = after_image other a in
    let c = after_option b in
    leads_operand join_shape nothing_held 1 _ image (other ∷ codes "--image" ∷ out ∷ []) first refl
    (leads_further join_shape a.held 1 _ other (codes "--image" ∷ out ∷ []) second refl
    (leads_on join_shape b c _ (codes "--image") (out ∷ []) refl refl
    (leads_value join_shape (codes "OUT") c.held 1 _ out [] third (leads_nowhere join_shape _))))

two_ends_well : (image other out : Text) → ends_well join_shape (two_end image other out) ≡ true
unfolding clap_on_literals
two_ends_well image other out = refl

two_entered : (name image other out : Text) → subcommand_of atalk_app (name ∷ codes "join" ∷ join_two_words image other out)
    ≡ Some (codes "join", rows_after join_shape.rules [] (join_two_words image other out))
unfolding clap_on_literals
two_entered name image other out = refl

two_takes : (name image other out : Text) → takes atalk_app (name ∷ codes "join" ∷ join_two_words image other out)
    ≡ (level_passes join_shape [] nothing_held (join_two_words image other out) false && true)
unfolding clap_on_literals
two_takes name image other out = refl

two_image : (image other out : Text)
    → first_of (codes "FILE") (rows_at_end join_shape (two_end image other out)) ≡ Some image
unfolding clap_on_literals
two_image image other out = refl

two_out : (image other out : Text) → first_of (codes "OUT") (rows_at_end join_shape (two_end image other out)) ≡ Some out
unfolding clap_on_literals
two_out image other out = refl

-- `join IMAGE OTHER --image OUT` joins images, IMAGE the first of them, into OUT.
pub join_two_meant : (name image other out : Text) (job : Job) → is_operand image ≡ true → is_operand other ≡ true
    → is_operand out ≡ true → IsMeant (subcommand_of atalk_app (name ∷ codes "join" ∷ join_two_words image other out)) job
    → Joins (Some image) (Some out) job
join_two_meant name image other out job first second third meant =
    let end = two_end image other out in
    let line = whole_line join_shape (join_two_words image other out) end (two_leads image other out first second third)
    (two_ends_well image other out) in
    let rows = two_entered name image other out ∙ ap (λ (rows : List Row). Some (codes "join", rows)) line.1 in
    join_of_rows (rows_at_end join_shape end) (Some image) (Some out) job (two_image image other out) (two_out image other out)
    (subst (λ (met : Option (Text × List Row)). IsMeant met job) rows meant)

-- `join IMAGE OTHER --image OUT` has no fault.
pub join_two_taken : (name image other out : Text) → is_operand image ≡ true → is_operand other ≡ true → is_operand out ≡ true
    → takes atalk_app (name ∷ codes "join" ∷ join_two_words image other out) ≡ true
join_two_taken name image other out first second third =
    let line = whole_line join_shape (join_two_words image other out) (two_end image other out)
    (two_leads image other out first second third) (two_ends_well image other out) in
    two_takes name image other out ∙ ap (λ (b : Bool). b && true) line.0
