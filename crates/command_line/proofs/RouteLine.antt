-- The parse of the arguments of `route`.
use Rattle.std.proofs.Common.{◌≡◌, ◌&&◌, ◌∙◌, Bool, false, Option, Some, None, List, [], ◌∷◌, true, codes, slice_index_or}
use Rattle.std.proofs.Common.{refl, ap, subst}
use Rattle.clap.specs.Words.{Row, Shape, Text, built, first_of, subcommand_of, takes}
use Rattle.clap.specs.Walk.{Walk, value, walked, walk_from, nothing_held, rows_after}
use Rattle.clap.specs.Takes.{level_passes}
use Rattle.clap.proofs.OnLiterals.{clap_on_literals}
use Rattle.command_line.specs.Arguments.{IsMeant, Routes, is_set}
use Rattle.command_line.specs.Forms.{is_operand, route_every_words, route_to_words, route_words}
use Rattle.command_line.specs.Syntax.{atalk_app, route_app}
use Rattle.command_line.specs.declared.arguments.Job.{Job}
use Rattle.command_line.proofs.Operands.{Leads, as_value, ends_well, leads_nowhere, leads_on, leads_operand, leads_value, rows_at_end}
use Rattle.command_line.proofs.Operands.{walk_by, whole_line}

-- The command as a parse has it, and its walk before the first argument.
abbrev route_shape : Shape
route_shape = slice_index_or (built atalk_app).subs 7 route_app.top

abbrev start : Walk
start = walk_from nothing_held

-- The walk after FILE, after an option, and after the option's value.
abbrev after_file : Text → Walk
after_file file = walk_by route_shape start file (start.held, value)

abbrev after_option : Text → Walk → Walk
after_option option w = walked route_shape.rules [] w option

abbrev after_value : Text → Text → Walk → Walk
after_value id word w = walk_by route_shape w word (as_value route_shape id word w.held)

-- The walk after `--router N`, and after `--image OUT`.
abbrev after_router : Text → Text → Walk
after_router file n = after_value (codes "N") n (after_option (codes "--router") (after_file file))

abbrev after_out : Text → Text → Text → Walk
after_out file n out = after_value (codes "OUT") out (after_option (codes "--image") (after_router file n))

-- The job of the command `route` with these matches.
route_of_rows : (rows : List Row) (file n out ticks : Option Text) (log : Bool) (job : Job) → first_of (codes "FILE") rows ≡ file
    → first_of (codes "N") rows ≡ n → first_of (codes "OUT") rows ≡ out → first_of (codes "TICKS") rows ≡ ticks
    → is_set (first_of (codes "LOG") rows) ≡ log → IsMeant (Some (codes "route", rows)) job → Routes file n out ticks log job
route_of_rows rows file n out ticks log job is_file is_n is_out is_ticks is_log meant =
    let logged = first_of (codes "LOG") rows in
    let timed = first_of (codes "TICKS") rows in
    let imaged = first_of (codes "OUT") rows in
    let numbered = first_of (codes "N") rows in
    subst (λ (flag : Bool). Routes file n out ticks flag job) is_log
    (subst (λ (text : Option Text). Routes file n out text (is_set logged) job) is_ticks
    (subst (λ (text : Option Text). Routes file n text timed (is_set logged) job) is_out
    (subst (λ (text : Option Text). Routes file text imaged timed (is_set logged) job) is_n
    (subst (λ (text : Option Text). Routes text numbered imaged timed (is_set logged) job) is_file meant))))

-- ---- `route FILE --router N`

abbrev plain_end : Text → Text → Walk
plain_end file n = after_router file n

plain_leads : (file n : Text) → is_operand file ≡ true → is_operand n ≡ true
    → Leads route_shape start (route_words file n) (plain_end file n)
unfolding clap_on_literals
plain_leads file n first second =
    let a = after_file file in
    let b = after_option (codes "--router") a in
    leads_operand route_shape nothing_held 1 _ file (codes "--router" ∷ n ∷ []) first refl
    (leads_on route_shape a b _ (codes "--router") (n ∷ []) refl refl
    (leads_value route_shape (codes "N") b.held 2 _ n [] second (leads_nowhere route_shape _)))

plain_ends_well : (file n : Text) → ends_well route_shape (plain_end file n) ≡ true
unfolding clap_on_literals
plain_ends_well file n = refl

plain_entered : (name file n : Text) → subcommand_of atalk_app (name ∷ codes "route" ∷ route_words file n)
    ≡ Some (codes "route", rows_after route_shape.rules [] (route_words file n))
unfolding clap_on_literals
plain_entered name file n = refl

plain_takes : (name file n : Text) → takes atalk_app (name ∷ codes "route" ∷ route_words file n)
    ≡ (level_passes route_shape [] nothing_held (route_words file n) false && true)
unfolding clap_on_literals
plain_takes name file n = refl

plain_file : (file n : Text) → first_of (codes "FILE") (rows_at_end route_shape (plain_end file n)) ≡ Some file
unfolding clap_on_literals
plain_file file n = refl

plain_router : (file n : Text) → first_of (codes "N") (rows_at_end route_shape (plain_end file n)) ≡ Some n
unfolding clap_on_literals
plain_router file n = refl

plain_out : (file n : Text) → first_of (codes "OUT") (rows_at_end route_shape (plain_end file n)) ≡ None
unfolding clap_on_literals
plain_out file n = refl

plain_ticks : (file n : Text) → first_of (codes "TICKS") (rows_at_end route_shape (plain_end file n)) ≡ None
unfolding clap_on_literals
plain_ticks file n = refl

plain_log : (file n : Text) → is_set (first_of (codes "LOG") (rows_at_end route_shape (plain_end file n))) ≡ false
unfolding clap_on_literals
plain_log file n = refl

-- `route FILE --router N` is router N of FILE, whose image isn't written.
pub route_meant : (name file n : Text) (job : Job) → is_operand file ≡ true → is_operand n ≡ true
    → IsMeant (subcommand_of atalk_app (name ∷ codes "route" ∷ route_words file n)) job
    → Routes (Some file) (Some n) None None false job
route_meant name file n job first second meant =
    let end = plain_end file n in
    let line = whole_line route_shape (route_words file n) end (plain_leads file n first second) (plain_ends_well file n) in
    let rows = plain_entered name file n ∙ ap (λ (rows : List Row). Some (codes "route", rows)) line.1 in
    route_of_rows (rows_at_end route_shape end) (Some file) (Some n) None None false job (plain_file file n)
    (plain_router file n) (plain_out file n) (plain_ticks file n) (plain_log file n)
    (subst (λ (met : Option (Text × List Row)). IsMeant met job) rows meant)

-- The same words have no fault.
pub route_taken : (name file n : Text) → is_operand file ≡ true → is_operand n ≡ true
    → takes atalk_app (name ∷ codes "route" ∷ route_words file n) ≡ true
route_taken name file n first second =
    let line = whole_line route_shape (route_words file n) (plain_end file n) (plain_leads file n first second) (plain_ends_well file n) in
    plain_takes name file n ∙ ap (λ (b : Bool). b && true) line.0

-- ---- `route FILE --router N --image OUT`

abbrev to_end : Text → Text → Text → Walk
to_end file n out = after_out file n out

to_leads : (file n out : Text) → is_operand file ≡ true → is_operand n ≡ true → is_operand out ≡ true
    → Leads route_shape start (route_to_words file n out) (to_end file n out)
unfolding clap_on_literals
to_leads file n out first second third =
    let a = after_file file in
    let b = after_option (codes "--router") a in
    let c = after_router file n in
    let d = after_option (codes "--image") c in
    leads_operand route_shape nothing_held 1 _ file (codes "--router" ∷ n ∷ codes "--image" ∷ out ∷ []) first refl
    (leads_on route_shape a b _ (codes "--router") (n ∷ codes "--image" ∷ out ∷ []) refl refl
    (leads_value route_shape (codes "N") b.held 2 _ n (codes "--image" ∷ out ∷ []) second
    (leads_on route_shape c d _ (codes "--image") (out ∷ []) refl refl
    (leads_value route_shape (codes "OUT") d.held 2 _ out [] third (leads_nowhere route_shape _)))))

to_ends_well : (file n out : Text) → ends_well route_shape (to_end file n out) ≡ true
unfolding clap_on_literals
to_ends_well file n out = refl

to_entered : (name file n out : Text) → subcommand_of atalk_app (name ∷ codes "route" ∷ route_to_words file n out)
    ≡ Some (codes "route", rows_after route_shape.rules [] (route_to_words file n out))
unfolding clap_on_literals
to_entered name file n out = refl

to_takes : (name file n out : Text) → takes atalk_app (name ∷ codes "route" ∷ route_to_words file n out)
    ≡ (level_passes route_shape [] nothing_held (route_to_words file n out) false && true)
unfolding clap_on_literals
to_takes name file n out = refl

to_file : (file n out : Text) → first_of (codes "FILE") (rows_at_end route_shape (to_end file n out)) ≡ Some file
unfolding clap_on_literals
to_file file n out = refl

to_router : (file n out : Text) → first_of (codes "N") (rows_at_end route_shape (to_end file n out)) ≡ Some n
unfolding clap_on_literals
to_router file n out = refl

to_out : (file n out : Text) → first_of (codes "OUT") (rows_at_end route_shape (to_end file n out)) ≡ Some out
unfolding clap_on_literals
to_out file n out = refl

to_ticks : (file n out : Text) → first_of (codes "TICKS") (rows_at_end route_shape (to_end file n out)) ≡ None
unfolding clap_on_literals
to_ticks file n out = refl

to_log : (file n out : Text) → is_set (first_of (codes "LOG") (rows_at_end route_shape (to_end file n out))) ≡ false
unfolding clap_on_literals
to_log file n out = refl

-- `route FILE --router N --image OUT` is router N of FILE, whose image is written to OUT.
pub route_to_meant : (name file n out : Text) (job : Job) → is_operand file ≡ true → is_operand n ≡ true → is_operand out ≡ true
    → IsMeant (subcommand_of atalk_app (name ∷ codes "route" ∷ route_to_words file n out)) job
    → Routes (Some file) (Some n) (Some out) None false job
route_to_meant name file n out job first second third meant =
    let end = to_end file n out in
    let line = whole_line route_shape (route_to_words file n out) end (to_leads file n out first second third) (to_ends_well file n out) in
    let rows = to_entered name file n out ∙ ap (λ (rows : List Row). Some (codes "route", rows)) line.1 in
    route_of_rows (rows_at_end route_shape end) (Some file) (Some n) (Some out) None false job (to_file file n out)
    (to_router file n out) (to_out file n out) (to_ticks file n out) (to_log file n out)
    (subst (λ (met : Option (Text × List Row)). IsMeant met job) rows meant)

-- The same words have no fault.
pub route_to_taken : (name file n out : Text) → is_operand file ≡ true → is_operand n ≡ true → is_operand out ≡ true
    → takes atalk_app (name ∷ codes "route" ∷ route_to_words file n out) ≡ true
route_to_taken name file n out first second third =
    let line = whole_line route_shape (route_to_words file n out) (to_end file n out) (to_leads file n out first second third) (to_ends_well file n out) in
    to_takes name file n out ∙ ap (λ (b : Bool). b && true) line.0

-- ---- `route FILE --router N --image OUT --every TICKS`

abbrev every_end : Text → Text → Text → Text → Walk
every_end file n out ticks = after_value (codes "TICKS") ticks (after_option (codes "--every") (after_out file n out))

every_leads : (file n out ticks : Text) → is_operand file ≡ true → is_operand n ≡ true → is_operand out ≡ true → is_operand ticks ≡ true
    → Leads route_shape start (route_every_words file n out ticks) (every_end file n out ticks)
unfolding clap_on_literals
every_leads file n out ticks first second third fourth =
    let a = after_file file in
    let b = after_option (codes "--router") a in
    let c = after_router file n in
    let d = after_option (codes "--image") c in
    let e = after_out file n out in
    let f = after_option (codes "--every") e in
    let last = codes "--every" ∷ ticks ∷ [] in
    leads_operand route_shape nothing_held 1 _ file (codes "--router" ∷ n ∷ codes "--image" ∷ out ∷ last) first refl
    (leads_on route_shape a b _ (codes "--router") (n ∷ codes "--image" ∷ out ∷ last) refl refl
    (leads_value route_shape (codes "N") b.held 2 _ n (codes "--image" ∷ out ∷ last) second
    (leads_on route_shape c d _ (codes "--image") (out ∷ last) refl refl
    (leads_value route_shape (codes "OUT") d.held 2 _ out last third
    (leads_on route_shape e f _ (codes "--every") (ticks ∷ []) refl refl
    (leads_value route_shape (codes "TICKS") f.held 2 _ ticks [] fourth (leads_nowhere route_shape _)))))))

every_ends_well : (file n out ticks : Text) → ends_well route_shape (every_end file n out ticks) ≡ true
unfolding clap_on_literals
every_ends_well file n out ticks = refl

every_entered : (name file n out ticks : Text) → subcommand_of atalk_app (name ∷ codes "route" ∷ route_every_words file n out ticks)
    ≡ Some (codes "route", rows_after route_shape.rules [] (route_every_words file n out ticks))
unfolding clap_on_literals
every_entered name file n out ticks = refl

every_takes : (name file n out ticks : Text) → takes atalk_app (name ∷ codes "route" ∷ route_every_words file n out ticks)
    ≡ (level_passes route_shape [] nothing_held (route_every_words file n out ticks) false && true)
unfolding clap_on_literals
every_takes name file n out ticks = refl

every_file : (file n out ticks : Text) → first_of (codes "FILE") (rows_at_end route_shape (every_end file n out ticks)) ≡ Some file
unfolding clap_on_literals
every_file file n out ticks = refl

every_router : (file n out ticks : Text) → first_of (codes "N") (rows_at_end route_shape (every_end file n out ticks)) ≡ Some n
unfolding clap_on_literals
every_router file n out ticks = refl

every_out : (file n out ticks : Text) → first_of (codes "OUT") (rows_at_end route_shape (every_end file n out ticks)) ≡ Some out
unfolding clap_on_literals
every_out file n out ticks = refl

every_ticks : (file n out ticks : Text) → first_of (codes "TICKS") (rows_at_end route_shape (every_end file n out ticks)) ≡ Some ticks
unfolding clap_on_literals
every_ticks file n out ticks = refl

every_log : (file n out ticks : Text) → is_set (first_of (codes "LOG") (rows_at_end route_shape (every_end file n out ticks))) ≡ false
unfolding clap_on_literals
every_log file n out ticks = refl

-- `route FILE --router N --image OUT --every TICKS` is the same, whose image is written every so many ticks too.
pub route_every_meant : (name file n out ticks : Text) (job : Job) → is_operand file ≡ true → is_operand n ≡ true → is_operand out ≡ true → is_operand ticks ≡ true
    → IsMeant (subcommand_of atalk_app (name ∷ codes "route" ∷ route_every_words file n out ticks)) job
    → Routes (Some file) (Some n) (Some out) (Some ticks) false job
route_every_meant name file n out ticks job first second third fourth meant =
    let end = every_end file n out ticks in
    let line = whole_line route_shape (route_every_words file n out ticks) end (every_leads file n out ticks first second third fourth) (every_ends_well file n out ticks) in
    let rows = every_entered name file n out ticks ∙ ap (λ (rows : List Row). Some (codes "route", rows)) line.1 in
    route_of_rows (rows_at_end route_shape end) (Some file) (Some n) (Some out) (Some ticks) false job (every_file file n out ticks)
    (every_router file n out ticks) (every_out file n out ticks) (every_ticks file n out ticks) (every_log file n out ticks)
    (subst (λ (met : Option (Text × List Row)). IsMeant met job) rows meant)

-- The same words have no fault.
pub route_every_taken : (name file n out ticks : Text) → is_operand file ≡ true → is_operand n ≡ true → is_operand out ≡ true → is_operand ticks ≡ true
    → takes atalk_app (name ∷ codes "route" ∷ route_every_words file n out ticks) ≡ true
route_every_taken name file n out ticks first second third fourth =
    let line = whole_line route_shape (route_every_words file n out ticks) (every_end file n out ticks) (every_leads file n out ticks first second third fourth) (every_ends_well file n out ticks) in
    every_takes name file n out ticks ∙ ap (λ (b : Bool). b && true) line.0
