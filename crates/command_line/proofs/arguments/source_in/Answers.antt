use Rattle.std.proofs.Common.{◌≡◌, ◌≢◌, ◌∙◌, List, ℕ, Bool, true, false, Bor, Option, Some, None}
use Rattle.std.proofs.Common.{Decides, codes, option_map, inl, inr, sym, subst, refl, ap}
use Rattle.std.specs.Option.{unwrap_or}
use Rattle.std.proofs.lemmas.Slice.Eq.{bytes_eq-Decides}
use Rattle.clap.specs.Words.{Text, found_of}
use Rattle.clap.proofs.WalkLemmas.{first_value-rows}
use Rattle.command_line.specs.Arguments.{Names}
use Rattle.command_line.specs.declared.arguments.Source.{Source}
use Rattle.command_line.specs.declared.arguments.Source.TheVariants.{StandardInput, File}
use Rattle.command_line.proofs.arguments.source_in.Goals as goal

-- A dash is standard input, and any other word is a file.
word_names : (word : Bor (List ℕ)) (source : Source) (dash : Bool) → Decides dash (word.now ≡ codes "-")
    → (word.now ≡ codes "-" → source ≡ StandardInput) → (word.now ≢ codes "-" → source ≡ File word) → Names (Some word.now) source
word_names word source true decides input file =
    let is_dash = decides.0 refl in
    rw (input is_dash) (inr (ap Some is_dash))
word_names word source false decides input file =
    let other : word.now ≢ codes "-" = λ same. let odd = decides.1 same in absurd cc in
    rw (file other) (refl, other)

-- Without a word, the word is the dash.
names : (value : Option (Bor (List ℕ))) (text : Option Text) (dash word : Bor (List ℕ)) (source : Source)
    → option_map (λ s. s.now) value ≡ text → dash.now ≡ codes "-" → word ≡ unwrap_or value dash
    → (word.now ≡ codes "-" → source ≡ StandardInput) → (word.now ≢ codes "-" → source ≡ File word) → Names text source
names None text dash word source same is_dash is input file =
    rw (input (ap (λ (s : Bor (List ℕ)). s.now) is ∙ is_dash)) (inl (sym same))
names (Some found) text dash word source same is_dash is input file =
    let text_is : Some word.now ≡ text = ap (λ (s : Bor (List ℕ)). Some s.now) is ∙ same in
    subst (λ (t : Option Text). Names t source) text_is
    (word_names word source _ (bytes_eq-Decides word.now (codes "-")) input file)

pub returns : goal.returns
returns c =
    names c.get_str.result _ _ c.unwrap_or.result c.source_of.result
    (c.get_str.ensures ∙ first_value-rows (found_of c.args.operands.now) c.args.name.now) refl c.unwrap_or.ensures
    c.source_of.ensures.input c.source_of.ensures.file
