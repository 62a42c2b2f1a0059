use Rattle.std.proofs.Common.{◌≡◌, ◌⊎◌, ◌≤◌, List, [], ◌∷◌, Option, length, map, inl, inr, ap, ap₂, subst, sym, ◌∙◌, rules}
use Rattle.std.proofs.lemmas.List.{length-map}
use Rattle.std.proofs.lemmas.Result.{err_from_is_err_and}
use Rattle.clap.specs.Words.{App, HasKind, Row, Text, IsAmong, Kinds, is_simple, is_simple_and_free, subcommand_of, takes, fault_of}
use Rattle.clap.specs.declared.error.ErrorKind.{ErrorKind}
use Rattle.clap.specs.declared.error.ErrorKind.TheVariants.{OutOfMemory}
use Rattle.command_line.specs.Arguments.{IsMeant, IsRequest}
use Rattle.command_line.specs.Syntax.{atalk_app}
use Rattle.command_line.proofs.CommandLine.{simple, simple_and_free, none_entered, none_taken}
use Rattle.command_line.proofs.Forms.{about_asked, form_meant, form_taken}
use Rattle.command_line.proofs.arguments.read_arguments.Goals as goal

-- If only one kind of error is possible, an error has that kind or is out of memory.
only_kind : (found kind : ErrorKind) (kinds : Kinds) → kinds ≡ kind ∷ []
    → (found ≡ OutOfMemory) ⊎ IsAmong found kinds → (found ≡ kind) ⊎ (found ≡ OutOfMemory)
only_kind found kind kinds one (inl memory) = inr memory
only_kind found kind kinds one (inr among) = elim (rw one at among) [ inl same ↦ inl same | inr none ↦ absurd none ]

-- The fault of the arguments, in the parse that was made.
fault_is : (app : App) (texts words : List Text) (kinds : Kinds) → app ≡ atalk_app → texts ≡ words
    → fault_of atalk_app words ≡ kinds → fault_of app texts ≡ kinds
fault_is app texts words kinds same named fault = ap (λ (a : App). fault_of a texts) same ∙ ap (fault_of atalk_app) named ∙ fault

short_map : {X : Type 0} (f : X → Text) (xs : List X) → length xs ≤ 1 → length (map f xs) ≤ 1
short_map f xs short = rw (length-map xs f) short

pub returns-in_err-matches-clause-alone_err : goal.returns-in_err-matches-clause-alone_err
returns-in_err-matches-clause-alone_err g c = λ short.
    let texts = map g.S.AsStr.text c.args.arguments.now in
    let memory = c.in_err-matches.ensures.passes (ap (λ (a : App). takes a texts) c.in_ok-atalk_command.ensures
    ∙ none_taken texts (short_map g.S.AsStr.text c.args.arguments.now short)) in
    search rules

pub returns-in-Ok-clause-alone : goal.returns-in-Ok-clause-alone
returns-in-Ok-clause-alone g c = λ short.
    let texts = map g.S.AsStr.text c.args.arguments.now in
    let app = c.in_ok-atalk_command.ensures in
    c.in-Ok.ensures.none ((c.in_ok-matches.ensures.matches (ap is_simple app ∙ simple)).1
    ∙ ap (λ (a : App). subcommand_of a texts) app ∙ none_entered texts (short_map g.S.AsStr.text c.args.arguments.now short))

pub returns-in-Ok-clause-meant : goal.returns-in-Ok-clause-meant
returns-in-Ok-clause-meant g c =
    let texts = map g.S.AsStr.text c.args.arguments.now in
    let app = c.in_ok-atalk_command.ensures in
    let met = (c.in_ok-matches.ensures.matches (ap is_simple app ∙ simple)).1 ∙ ap (λ (a : App). subcommand_of a texts) app in
    subst (λ (rows : Option (Text × List Row)). IsRequest rows c.in-Ok.request) met c.in-Ok.ensures.meant

pub returns-in_err-matches-clause-kinds : goal.returns-in_err-matches-clause-kinds
returns-in_err-matches-clause-kinds g c =
    let app = c.in_ok-atalk_command.ensures in
    let texts = map g.S.AsStr.text c.args.arguments.now in
    let kinds = subst (λ (a : App). HasKind (fault_of a texts) c.in_err-matches.field-0.0) app
    (c.in_err-matches.ensures.kinds (ap is_simple_and_free app ∙ simple_and_free)) in
    let stop = err_from_is_err_and c.from_residual-in_err-matches.result c.from_residual-in_err-matches.ensures.1 in
    rw (stop.1, stop.2) kinds

pub returns-in-Ok-clause-kinds : goal.returns-in-Ok-clause-kinds
returns-in-Ok-clause-kinds g c =
    let app = c.in_ok-atalk_command.ensures in
    let texts = map g.S.AsStr.text c.args.arguments.now in
    ap (λ (a : App). fault_of a texts) (sym app) ∙ c.in_ok-matches.ensures.kinds (ap is_simple_and_free app ∙ simple_and_free)

pub returns-in_err-matches-clause-taken : goal.returns-in_err-matches-clause-taken
returns-in_err-matches-clause-taken g c = λ passes.
    let texts = map g.S.AsStr.text c.args.arguments.now in
    let memory = c.in_err-matches.ensures.passes (ap (λ (a : App). takes a texts) c.in_ok-atalk_command.ensures ∙ passes) in
    search rules

pub returns-in_err-matches-clause-written_err : goal.returns-in_err-matches-clause-written_err
returns-in_err-matches-clause-written_err g c = λ name form named operands.
    let memory = c.in_err-matches.ensures.passes (ap₂ takes c.in_ok-atalk_command.ensures named ∙ form_taken form name operands) in
    search rules

pub returns-in-Ok-clause-written : goal.returns-in-Ok-clause-written
returns-in-Ok-clause-written g c = λ name form named operands.
    let app = c.in_ok-atalk_command.ensures in
    let met = (c.in_ok-matches.ensures.matches (ap is_simple app ∙ simple)).1 ∙ ap₂ subcommand_of app named in
    form_meant form name c.in-Ok.request.job operands
    (subst (λ (rows : Option (Text × List Row)). IsMeant rows c.in-Ok.request.job) met c.in-Ok.ensures.meant.0)

pub returns-in_err-matches-clause-about : goal.returns-in_err-matches-clause-about
returns-in_err-matches-clause-about g c = λ name about named.
    let app = c.in_ok-atalk_command.ensures in
    let fault = fault_is _ _ _ _ app named (about_asked about name) in
    let kinds = only_kind _ _ _ fault (c.in_err-matches.ensures.kinds (ap is_simple_and_free app ∙ simple_and_free)) in
    search rules

pub returns-in-Ok-clause-about : goal.returns-in-Ok-clause-about
returns-in-Ok-clause-about g c = λ name about named.
    let app = c.in_ok-atalk_command.ensures in
    let fault = fault_is _ _ _ _ app named (about_asked about name) in
    let none = c.in_ok-matches.ensures.kinds (ap is_simple_and_free app ∙ simple_and_free) in
    cc (fault, none)
