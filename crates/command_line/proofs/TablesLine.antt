-- The parse of the arguments of `make`, `show` and `draw`.
use Rattle.std.proofs.Common.{◌≡◌, ◌&&◌, ◌∙◌, Bool, false, Option, Some, List, [], ◌∷◌, None, true, codes, slice_index_or}
use Rattle.std.proofs.Common.{refl, ap, subst}
use Rattle.clap.specs.Words.{Row, Shape, Text, built, first_of, subcommand_of, takes}
use Rattle.clap.specs.Walk.{Walk, value, walked, walk_from, nothing_held, rows_after}
use Rattle.clap.specs.Takes.{level_passes}
use Rattle.clap.proofs.OnLiterals.{clap_on_literals}
use Rattle.command_line.specs.Arguments.{Draws, IsMeant, Makes, Shows}
use Rattle.command_line.specs.Forms.{is_operand}
use Rattle.command_line.specs.Syntax.{atalk_app, draw_app, make_app, show_app}
use Rattle.command_line.specs.declared.arguments.Job.{Job}
use Rattle.command_line.proofs.Operands.{Leads, as_value, ends_well, leads_nowhere, leads_on, leads_operand, leads_value, rows_at_end}
use Rattle.command_line.proofs.Operands.{walk_by, whole_line}

-- The commands as a parse has them, and their walk before the first argument.
abbrev make_shape : Shape
make_shape = slice_index_or (built atalk_app).subs 3 make_app.top

abbrev show_shape : Shape
show_shape = slice_index_or (built atalk_app).subs 4 show_app.top

abbrev draw_shape : Shape
draw_shape = slice_index_or (built atalk_app).subs 5 draw_app.top

abbrev start : Walk
start = walk_from nothing_held

-- The walk after the operand, after an option, and after the option's value.
abbrev after_operand : Shape → Text → Walk
after_operand shape word = walk_by shape start word (start.held, value)

abbrev after_option : Shape → Text → Text → Walk
after_option shape option word = walked shape.rules [] (after_operand shape word) option

abbrev after_value : Shape → Text → Text → Text → Text → Walk
after_value shape id option word given =
    let w = after_option shape option word in walk_by shape w given (as_value shape id given w.held)

-- ---- `make FILE`

make_leads : (file : Text) → is_operand file ≡ true → Leads make_shape start (file ∷ []) (after_operand make_shape file)
unfolding clap_on_literals
make_leads file operand = leads_operand make_shape nothing_held 1 _ file [] operand refl (leads_nowhere make_shape _)

make_ends_well : (file : Text) → ends_well make_shape (after_operand make_shape file) ≡ true
unfolding clap_on_literals
make_ends_well file = refl

make_entered : (name file : Text) → subcommand_of atalk_app (name ∷ codes "make" ∷ file ∷ [])
    ≡ Some (codes "make", rows_after make_shape.rules [] (file ∷ []))
unfolding clap_on_literals
make_entered name file = refl

make_takes : (name file : Text) → takes atalk_app (name ∷ codes "make" ∷ file ∷ [])
    ≡ (level_passes make_shape [] nothing_held (file ∷ []) false && true)
unfolding clap_on_literals
make_takes name file = refl

made_file : (file : Text) → first_of (codes "FILE") (rows_at_end make_shape (after_operand make_shape file)) ≡ Some file
unfolding clap_on_literals
made_file file = refl

made_out : (file : Text) → first_of (codes "OUT") (rows_at_end make_shape (after_operand make_shape file)) ≡ None
unfolding clap_on_literals
made_out file = refl

-- The job of the command `make` with these matches.
make_of_rows : (rows : List Row) (file out : Option Text) (job : Job) → first_of (codes "FILE") rows ≡ file
    → first_of (codes "OUT") rows ≡ out → IsMeant (Some (codes "make", rows)) job → Makes file out job
make_of_rows rows file out job is_file is_out meant =
    subst (λ (text : Option Text). Makes file text job) is_out
    (subst (λ (text : Option Text). Makes text (first_of (codes "OUT") rows) job) is_file meant)

-- `make FILE` makes an image of FILE that isn't written.
pub make_meant : (name file : Text) (job : Job) → is_operand file ≡ true
    → IsMeant (subcommand_of atalk_app (name ∷ codes "make" ∷ file ∷ [])) job → Makes (Some file) None job
make_meant name file job operand meant =
    let line = whole_line make_shape (file ∷ []) (after_operand make_shape file) (make_leads file operand) (make_ends_well file) in
    let rows = make_entered name file ∙ ap (λ (rows : List Row). Some (codes "make", rows)) line.1 in
    make_of_rows (rows_at_end make_shape (after_operand make_shape file)) (Some file) None job (made_file file) (made_out file)
    (subst (λ (met : Option (Text × List Row)). IsMeant met job) rows meant)

-- `make FILE` has no fault.
pub make_taken : (name file : Text) → is_operand file ≡ true → takes atalk_app (name ∷ codes "make" ∷ file ∷ []) ≡ true
make_taken name file operand =
    let line = whole_line make_shape (file ∷ []) (after_operand make_shape file) (make_leads file operand) (make_ends_well file) in
    make_takes name file ∙ ap (λ (b : Bool). b && true) line.0

-- ---- `make FILE --image OUT`

abbrev make_to_end : Text → Text → Walk
make_to_end file out = after_value make_shape (codes "OUT") (codes "--image") file out

make_to_leads : (file out : Text) → is_operand file ≡ true → is_operand out ≡ true
    → Leads make_shape start (file ∷ codes "--image" ∷ out ∷ []) (make_to_end file out)
unfolding clap_on_literals
make_to_leads file out first second =
    let a = after_operand make_shape file in
    let b = after_option make_shape (codes "--image") file in
    leads_operand make_shape nothing_held 1 _ file (codes "--image" ∷ out ∷ []) first refl
    (leads_on make_shape a b _ (codes "--image") (out ∷ []) refl refl
    (leads_value make_shape (codes "OUT") b.held 2 _ out [] second (leads_nowhere make_shape _)))

make_to_ends_well : (file out : Text) → ends_well make_shape (make_to_end file out) ≡ true
unfolding clap_on_literals
make_to_ends_well file out = refl

make_to_entered : (name file out : Text) → subcommand_of atalk_app (name ∷ codes "make" ∷ file ∷ codes "--image" ∷ out ∷ [])
    ≡ Some (codes "make", rows_after make_shape.rules [] (file ∷ codes "--image" ∷ out ∷ []))
unfolding clap_on_literals
make_to_entered name file out = refl

make_to_takes : (name file out : Text) → takes atalk_app (name ∷ codes "make" ∷ file ∷ codes "--image" ∷ out ∷ [])
    ≡ (level_passes make_shape [] nothing_held (file ∷ codes "--image" ∷ out ∷ []) false && true)
unfolding clap_on_literals
make_to_takes name file out = refl

made_to_file : (file out : Text) → first_of (codes "FILE") (rows_at_end make_shape (make_to_end file out)) ≡ Some file
unfolding clap_on_literals
made_to_file file out = refl

made_to_out : (file out : Text) → first_of (codes "OUT") (rows_at_end make_shape (make_to_end file out)) ≡ Some out
unfolding clap_on_literals
made_to_out file out = refl

-- `make FILE --image OUT` makes an image of FILE that is written to OUT.
pub make_to_meant : (name file out : Text) (job : Job) → is_operand file ≡ true → is_operand out ≡ true
    → IsMeant (subcommand_of atalk_app (name ∷ codes "make" ∷ file ∷ codes "--image" ∷ out ∷ [])) job
    → Makes (Some file) (Some out) job
make_to_meant name file out job first second meant =
    let line = whole_line make_shape (file ∷ codes "--image" ∷ out ∷ []) (make_to_end file out) (make_to_leads file out first second)
    (make_to_ends_well file out) in
    let rows = make_to_entered name file out ∙ ap (λ (rows : List Row). Some (codes "make", rows)) line.1 in
    make_of_rows (rows_at_end make_shape (make_to_end file out)) (Some file) (Some out) job (made_to_file file out) (made_to_out file out)
    (subst (λ (met : Option (Text × List Row)). IsMeant met job) rows meant)

-- `make FILE --image OUT` has no fault.
pub make_to_taken : (name file out : Text) → is_operand file ≡ true → is_operand out ≡ true
    → takes atalk_app (name ∷ codes "make" ∷ file ∷ codes "--image" ∷ out ∷ []) ≡ true
make_to_taken name file out first second =
    let line = whole_line make_shape (file ∷ codes "--image" ∷ out ∷ []) (make_to_end file out) (make_to_leads file out first second)
    (make_to_ends_well file out) in
    make_to_takes name file out ∙ ap (λ (b : Bool). b && true) line.0

-- ---- `show IMAGE`

show_leads : (image : Text) → is_operand image ≡ true → Leads show_shape start (image ∷ []) (after_operand show_shape image)
unfolding clap_on_literals
show_leads image operand = leads_operand show_shape nothing_held 1 _ image [] operand refl (leads_nowhere show_shape _)

show_ends_well : (image : Text) → ends_well show_shape (after_operand show_shape image) ≡ true
unfolding clap_on_literals
show_ends_well image = refl

show_entered : (name image : Text) → subcommand_of atalk_app (name ∷ codes "show" ∷ image ∷ [])
    ≡ Some (codes "show", rows_after show_shape.rules [] (image ∷ []))
unfolding clap_on_literals
show_entered name image = refl

show_takes : (name image : Text) → takes atalk_app (name ∷ codes "show" ∷ image ∷ [])
    ≡ (level_passes show_shape [] nothing_held (image ∷ []) false && true)
unfolding clap_on_literals
show_takes name image = refl

shown_image : (image : Text) → first_of (codes "IMAGE") (rows_at_end show_shape (after_operand show_shape image)) ≡ Some image
unfolding clap_on_literals
shown_image image = refl

-- `show IMAGE` shows the tables of IMAGE.
pub show_meant : (name image : Text) (job : Job) → is_operand image ≡ true
    → IsMeant (subcommand_of atalk_app (name ∷ codes "show" ∷ image ∷ [])) job → Shows (Some image) job
show_meant name image job operand meant =
    let line = whole_line show_shape (image ∷ []) (after_operand show_shape image) (show_leads image operand) (show_ends_well image) in
    let rows = show_entered name image ∙ ap (λ (rows : List Row). Some (codes "show", rows)) line.1 in
    subst (λ (text : Option Text). Shows text job) (shown_image image)
    (subst (λ (met : Option (Text × List Row)). IsMeant met job) rows meant)

-- `show IMAGE` has no fault.
pub show_taken : (name image : Text) → is_operand image ≡ true → takes atalk_app (name ∷ codes "show" ∷ image ∷ []) ≡ true
show_taken name image operand =
    let line = whole_line show_shape (image ∷ []) (after_operand show_shape image) (show_leads image operand) (show_ends_well image) in
    show_takes name image ∙ ap (λ (b : Bool). b && true) line.0

-- ---- `draw IMAGE`

draw_leads : (image : Text) → is_operand image ≡ true → Leads draw_shape start (image ∷ []) (after_operand draw_shape image)
unfolding clap_on_literals
draw_leads image operand = leads_operand draw_shape nothing_held 1 _ image [] operand refl (leads_nowhere draw_shape _)

draw_ends_well : (image : Text) → ends_well draw_shape (after_operand draw_shape image) ≡ true
unfolding clap_on_literals
draw_ends_well image = refl

draw_entered : (name image : Text) → subcommand_of atalk_app (name ∷ codes "draw" ∷ image ∷ [])
    ≡ Some (codes "draw", rows_after draw_shape.rules [] (image ∷ []))
unfolding clap_on_literals
draw_entered name image = refl

draw_takes : (name image : Text) → takes atalk_app (name ∷ codes "draw" ∷ image ∷ [])
    ≡ (level_passes draw_shape [] nothing_held (image ∷ []) false && true)
unfolding clap_on_literals
draw_takes name image = refl

drawn_image : (image : Text) → first_of (codes "IMAGE") (rows_at_end draw_shape (after_operand draw_shape image)) ≡ Some image
unfolding clap_on_literals
drawn_image image = refl

drawn_net : (image : Text) → first_of (codes "NET") (rows_at_end draw_shape (after_operand draw_shape image)) ≡ None
unfolding clap_on_literals
drawn_net image = refl

-- The job of the command `draw` with these matches.
draw_of_rows : (rows : List Row) (image net : Option Text) (job : Job) → first_of (codes "IMAGE") rows ≡ image
    → first_of (codes "NET") rows ≡ net → IsMeant (Some (codes "draw", rows)) job → Draws image net job
draw_of_rows rows image net job is_image is_net meant =
    subst (λ (text : Option Text). Draws image text job) is_net
    (subst (λ (text : Option Text). Draws text (first_of (codes "NET") rows) job) is_image meant)

-- `draw IMAGE` draws IMAGE.
pub draw_meant : (name image : Text) (job : Job) → is_operand image ≡ true
    → IsMeant (subcommand_of atalk_app (name ∷ codes "draw" ∷ image ∷ [])) job → Draws (Some image) None job
draw_meant name image job operand meant =
    let line = whole_line draw_shape (image ∷ []) (after_operand draw_shape image) (draw_leads image operand) (draw_ends_well image) in
    let rows = draw_entered name image ∙ ap (λ (rows : List Row). Some (codes "draw", rows)) line.1 in
    draw_of_rows (rows_at_end draw_shape (after_operand draw_shape image)) (Some image) None job (drawn_image image) (drawn_net image)
    (subst (λ (met : Option (Text × List Row)). IsMeant met job) rows meant)

-- `draw IMAGE` has no fault.
pub draw_taken : (name image : Text) → is_operand image ≡ true → takes atalk_app (name ∷ codes "draw" ∷ image ∷ []) ≡ true
draw_taken name image operand =
    let line = whole_line draw_shape (image ∷ []) (after_operand draw_shape image) (draw_leads image operand) (draw_ends_well image) in
    draw_takes name image ∙ ap (λ (b : Bool). b && true) line.0

-- ---- `draw IMAGE --to NET`

abbrev draw_to_end : Text → Text → Walk
draw_to_end image net = after_value draw_shape (codes "NET") (codes "--to") image net

draw_to_leads : (image net : Text) → is_operand image ≡ true → is_operand net ≡ true
    → Leads draw_shape start (image ∷ codes "--to" ∷ net ∷ []) (draw_to_end image net)
unfolding clap_on_literals
draw_to_leads image net first second =
    let a = after_operand draw_shape image in
    let b = after_option draw_shape (codes "--to") image in
    leads_operand draw_shape nothing_held 1 _ image (codes "--to" ∷ net ∷ []) first refl
    (leads_on draw_shape a b _ (codes "--to") (net ∷ []) refl refl
    (leads_value draw_shape (codes "NET") b.held 2 _ net [] second (leads_nowhere draw_shape _)))

draw_to_ends_well : (image net : Text) → ends_well draw_shape (draw_to_end image net) ≡ true
unfolding clap_on_literals
draw_to_ends_well image net = refl

draw_to_entered : (name image net : Text) → subcommand_of atalk_app (name ∷ codes "draw" ∷ image ∷ codes "--to" ∷ net ∷ [])
    ≡ Some (codes "draw", rows_after draw_shape.rules [] (image ∷ codes "--to" ∷ net ∷ []))
unfolding clap_on_literals
draw_to_entered name image net = refl

draw_to_takes : (name image net : Text) → takes atalk_app (name ∷ codes "draw" ∷ image ∷ codes "--to" ∷ net ∷ [])
    ≡ (level_passes draw_shape [] nothing_held (image ∷ codes "--to" ∷ net ∷ []) false && true)
unfolding clap_on_literals
draw_to_takes name image net = refl

drawn_to_image : (image net : Text) → first_of (codes "IMAGE") (rows_at_end draw_shape (draw_to_end image net)) ≡ Some image
unfolding clap_on_literals
drawn_to_image image net = refl

drawn_to_net : (image net : Text) → first_of (codes "NET") (rows_at_end draw_shape (draw_to_end image net)) ≡ Some net
unfolding clap_on_literals
drawn_to_net image net = refl

-- `draw IMAGE --to NET` draws IMAGE with the ways to NET.
pub draw_to_meant : (name image net : Text) (job : Job) → is_operand image ≡ true → is_operand net ≡ true
    → IsMeant (subcommand_of atalk_app (name ∷ codes "draw" ∷ image ∷ codes "--to" ∷ net ∷ [])) job
    → Draws (Some image) (Some net) job
draw_to_meant name image net job first second meant =
    let line = whole_line draw_shape (image ∷ codes "--to" ∷ net ∷ []) (draw_to_end image net) (draw_to_leads image net first second)
    (draw_to_ends_well image net) in
    let rows = draw_to_entered name image net ∙ ap (λ (rows : List Row). Some (codes "draw", rows)) line.1 in
    draw_of_rows (rows_at_end draw_shape (draw_to_end image net)) (Some image) (Some net) job (drawn_to_image image net)
    (drawn_to_net image net) (subst (λ (met : Option (Text × List Row)). IsMeant met job) rows meant)

-- `draw IMAGE --to NET` has no fault.
pub draw_to_taken : (name image net : Text) → is_operand image ≡ true → is_operand net ≡ true
    → takes atalk_app (name ∷ codes "draw" ∷ image ∷ codes "--to" ∷ net ∷ []) ≡ true
draw_to_taken name image net first second =
    let line = whole_line draw_shape (image ∷ codes "--to" ∷ net ∷ []) (draw_to_end image net) (draw_to_leads image net first second)
    (draw_to_ends_well image net) in
    draw_to_takes name image net ∙ ap (λ (b : Bool). b && true) line.0
