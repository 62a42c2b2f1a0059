use Rattle.std.proofs.Common.{◌≡◌, ◌∙◌, List, [], ◌∷◌, ◌++◌, Bool, true, false, Bor, Some}
use Rattle.std.proofs.Common.{Decides, codes, cond, map, inr, sym, subst, refl, ap}
use Rattle.std.proofs.lemmas.Slice.Eq.{bytes_eq-Decides}
use Rattle.std.specs.Str.{bytes_eq}
use Rattle.clap.specs.Words.{Text, all_of, found_of, rows_of}
use Rattle.clap.proofs.WalkLemmas.{raw_values-rows}
use Rattle.command_line.specs.Arguments.{AreNamed, Names, later, source_for}
use Rattle.command_line.specs.declared.arguments.Source.{Source}
use Rattle.command_line.specs.declared.arguments.Source.TheVariants.{StandardInput, File}
use Rattle.command_line.proofs.arguments.further_in.Goals as goal

-- Each source has its name.
named : (words : List (Bor Text)) → AreNamed (map (λ word. word.now) words) (map source_for words)
named [] = tt
named (word ∷ words) = (by (bytes_eq word.now (codes "-")) (bytes_eq-Decides word.now (codes "-")), named words)
  where
    by : (dash : Bool) → Decides dash (word.now ≡ codes "-") → Names (Some word.now) (cond dash StandardInput (File word))
    by true decides = inr (ap Some (decides.0 refl))
    by false decides = (refl, λ same. let odd = decides.1 same in absurd cc)

pub returns : goal.returns
returns c =
    let rest = c.later_of.result.now in
    let items : c.put_sources.new.sources.items ≡ map source_for rest =
    c.in_ok-put_sources.ensures ∙ ap (λ (xs : List Source). xs ++ map source_for rest) c.new-sources.ensures.items in
    let words = c.later_of.ensures
    ∙ ap later (c.get_strs.ensures ∙ raw_values-rows (found_of c.args.operands.now) (codes "FILE")) in
    subst (λ (xs : List Source). AreNamed (later (all_of (codes "FILE") (rows_of (found_of c.args.operands.now)))) xs) (sym items)
    (subst (λ (ws : List Text). AreNamed ws (map source_for rest)) words (named rest))
