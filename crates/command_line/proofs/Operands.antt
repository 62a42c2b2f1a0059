-- Arguments that are no flags, as a parse meets them.
use Rattle.std.proofs.Common.{◌≡◌, ◌==◌, ◌&&◌, ◌∙◌, ℕ, Bool, not, false, fold, List, [], ◌∷◌, None, true, refl, ap, ap₂}
use Rattle.clap.specs.Words.{Row, Shape, Text}
use Rattle.clap.specs.Walk.{Held, Step, Waiting, Walk, value, idle, option, plain_word, positional, word_met, walk_from, walked, after_step}
use Rattle.clap.specs.Walk.{finished, nothing_held, rows_after}
use Rattle.clap.specs.Takes.{default_passes, is_valid, level_passes, settle_passes, step_passes, turn_passes, walk_passes, word_passes}
use Rattle.clap.specs.Lexer.{strip_byte, long_of, short_of}
use Rattle.std.specs.Str.{bytes_eq}
use Rattle.std.specs.List.{list_all}
use Rattle.command_line.specs.Forms.{is_operand}

-- By the tests of a parse, the argument is neither a flag nor the end of flags.
abbrev pub IsNoFlag : Text → Type 0
IsNoFlag word = (long_of word ≡ None) × (short_of word ≡ None) × (bytes_eq word (45 ∷ 45 ∷ []) ≡ false)

no_flag_by_first : (b : ℕ) (text : Text) → (b == 45) ≡ false → IsNoFlag (b ∷ text)
no_flag_by_first b text other = (rw (other, strip_byte) refl, rw (other, strip_byte) refl, rw (other, bytes_eq) refl)

no_flag_of_one : (b : ℕ) (dash : Bool) → (b == 45) ≡ dash → IsNoFlag (b ∷ [])
no_flag_of_one b true is = (rw (is, strip_byte) refl, rw (is, strip_byte) refl, rw (is, bytes_eq) refl)
no_flag_of_one b false is = no_flag_by_first b [] is

false_of_not : (b : Bool) → not b ≡ true → b ≡ false
false_of_not true is = cc
false_of_not false is = refl

pub no_flag : (word : Text) → is_operand word ≡ true → IsNoFlag word
no_flag [] operand = (refl, refl, refl)
no_flag (b ∷ []) operand = no_flag_of_one b (b == 45) refl
no_flag (b ∷ c ∷ text) operand = no_flag_by_first b (c ∷ text) (false_of_not (b == 45) operand)

-- The effect of the next argument on a command without subcommands.
abbrev pub met_in : Shape → ℕ → Held → Text → Held × Step
met_in shape position held word = word_met shape.rules [] false idle position word held

-- The walk of a command after an argument.
abbrev pub walk_by : Shape → Walk → Text → Held × Step → Walk
walk_by shape walk word met = after_step shape.rules word walk met.0 met.1

-- The argument passes the tests that come before it is matched.
abbrev pub passes_in : Shape → Held → Text → Bool
passes_in shape held word = word_passes shape [] false idle word held

pub met_value : (shape : Shape) (position : ℕ) (held : Held) (word : Text) → is_operand word ≡ true
    → met_in shape position held word ≡ (held, value)
met_value shape position held word operand = let tests = no_flag word operand in rw (tests.0, tests.1, tests.2) refl

pub passes_value : (shape : Shape) (held : Held) (word : Text) → is_operand word ≡ true → passes_in shape held word ≡ true
passes_value shape held word operand = let tests = no_flag word operand in rw (tests.0, tests.1, tests.2) refl

-- A command's matches at the end of its walk.
abbrev pub rows_at_end : Shape → Walk → List Row
rows_at_end shape end = finished shape.rules end.held

-- A command's walk ends without a fault.
abbrev pub ends_well : Shape → Walk → Bool
ends_well shape end = settle_passes shape.rules shape.args_override_self end.held
    && (list_all default_passes shape.rules && is_valid shape (rows_at_end shape end) false)

-- The effect of the next argument on a command where an option waits for its value.
met_option : (shape : Shape) (id : Text) (position : ℕ) (held : Held) (word : Text) → is_operand word ≡ true
    → word_met shape.rules [] false (option id) position word held ≡ plain_word shape.rules (option id) word held
met_option shape id position held word operand = let tests = no_flag word operand in rw (tests.0, tests.1, tests.2) refl

passes_option : (shape : Shape) (id : Text) (held : Held) (word : Text) → is_operand word ≡ true
    → word_passes shape [] false (option id) word held ≡ true
passes_option shape id held word operand = let tests = no_flag word operand in rw (tests.0, tests.1, tests.2) refl

-- The arguments pass, one after the other, and lead a command from one walk to another.
pub record Leads (shape : Shape) (from : Walk) (words : List Text) (to : Walk) : Type 0 where
  pub passes : walk_passes shape [] from words ≡ true
  pub ends : fold (walked shape.rules []) from words ≡ to

pub leads_nowhere : (shape : Shape) (w : Walk) → Leads shape w [] w
unfolding walk_passes
leads_nowhere shape w = record { passes = refl; ends = refl }

-- One more argument before others.
pub leads_on : (shape : Shape) (w next to : Walk) (word : Text) (words : List Text) → turn_passes shape [] w word ≡ true
    → walked shape.rules [] w word ≡ next → Leads shape next words to → Leads shape w (word ∷ words) to
unfolding walk_passes
leads_on shape w next to word words passes step rest = record {
  passes = ap₂ (λ (b : Bool) (v : Walk). b && walk_passes shape [] v words) passes step ∙ rest.passes;
  ends = ap (λ (v : Walk). fold (walked shape.rules []) v words) step ∙ rest.ends;
}

-- The walk between two arguments, before a subcommand and before the end of flags.
abbrev pub walking : Held → Waiting → ℕ → Walk
walking held waiting position =
    record { held = held; waiting = waiting; position = position; is_trailing = false; stopped = None }

-- An argument that is no flag goes to a positional.
pub leads_operand : (shape : Shape) (held : Held) (position : ℕ) (to : Walk) (word : Text) (words : List Text)
    → is_operand word ≡ true → step_passes shape position held value ≡ true
    → Leads shape (walk_by shape (walking held idle position) word (held, value)) words to
    → Leads shape (walking held idle position) (word ∷ words) to
unfolding walked
leads_operand shape held position to word words operand passes rest =
    leads_on shape (walking held idle position) (walk_by shape (walking held idle position) word (held, value)) to word words
    (ap₂ (λ (b : Bool) (met : Held × Step). b && step_passes shape position met.0 met.1) (passes_value shape held word operand)
    (met_value shape position held word operand) ∙ passes)
    (ap (λ (met : Held × Step). walk_by shape (walking held idle position) word met) (met_value shape position held word operand))
    rest

-- The same after an argument that went to a positional which takes several.
met_further : (shape : Shape) (position : ℕ) (held : Held) (word : Text) → is_operand word ≡ true
    → word_met shape.rules [] false positional position word held ≡ (held, value)
met_further shape position held word operand = let tests = no_flag word operand in rw (tests.0, tests.1, tests.2) refl

passes_further : (shape : Shape) (held : Held) (word : Text) → is_operand word ≡ true
    → word_passes shape [] false positional word held ≡ true
passes_further shape held word operand = let tests = no_flag word operand in rw (tests.0, tests.1, tests.2) refl

pub leads_further : (shape : Shape) (held : Held) (position : ℕ) (to : Walk) (word : Text) (words : List Text)
    → is_operand word ≡ true → step_passes shape position held value ≡ true
    → Leads shape (walk_by shape (walking held positional position) word (held, value)) words to
    → Leads shape (walking held positional position) (word ∷ words) to
unfolding walked
leads_further shape held position to word words operand passes rest =
    leads_on shape (walking held positional position) (walk_by shape (walking held positional position) word (held, value)) to word words
    (ap₂ (λ (b : Bool) (met : Held × Step). b && step_passes shape position met.0 met.1) (passes_further shape held word operand)
    (met_further shape position held word operand) ∙ passes)
    (ap (λ (met : Held × Step). walk_by shape (walking held positional position) word met)
    (met_further shape position held word operand)) rest

-- The effect of an argument that is the value of the option that waits for one.
abbrev pub as_value : Shape → Text → Text → Held → Held × Step
as_value shape id word held = plain_word shape.rules (option id) word held

-- An argument that is no flag is the value of the option that waits for one.
pub leads_value : (shape : Shape) (id : Text) (held : Held) (position : ℕ) (to : Walk) (word : Text) (words : List Text)
    → is_operand word ≡ true
    → Leads shape (walk_by shape (walking held (option id) position) word (as_value shape id word held)) words to
    → Leads shape (walking held (option id) position) (word ∷ words) to
unfolding walked
leads_value shape id held position to word words operand rest =
    leads_on shape (walking held (option id) position)
    (walk_by shape (walking held (option id) position) word (as_value shape id word held)) to word words
    (ap₂ (λ (b : Bool) (met : Held × Step). b && step_passes shape position met.0 met.1) (passes_option shape id held word operand)
    (met_option shape id position held word operand))
    (ap (λ (met : Held × Step). walk_by shape (walking held (option id) position) word met)
    (met_option shape id position held word operand)) rest

-- A command whose arguments lead to a walk that ends well takes them, and its matches are those at the end of the walk.
pub whole_line : (shape : Shape) (words : List Text) (end : Walk) → Leads shape (walk_from nothing_held) words end
    → ends_well shape end ≡ true
    → (level_passes shape [] nothing_held words false ≡ true) × (rows_after shape.rules [] words ≡ rows_at_end shape end)
whole_line shape words end leads well = (
  ap₂ (λ (b : Bool) (w : Walk). b && ends_well shape w) leads.passes leads.ends ∙ well,
  ap (λ (w : Walk). rows_at_end shape w) leads.ends,
)
