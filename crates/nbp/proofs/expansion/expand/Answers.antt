use Rattle.std.proofs.Common.{◌≡◌, List, [], ◌∷◌, map, refl, sym, true≢false}
use Rattle.at_base.specs.Range.{Span}
use Rattle.nbp.specs.Expansion.{ask, listing}
use Rattle.nbp.specs.declared.expansion.Ask.{Ask}
use Rattle.nbp.proofs.expansion.expand.Goals as goal

none_asked : (f : Span → Ask) (ranges : List Span) → map f ranges ≡ [] → ranges ≡ []
none_asked f [] e = refl
none_asked f (r ∷ rs) e = absurd cc

pub returns-in_err-ranges-clause-none : goal.returns-in_err-ranges-clause-none
returns-in_err-ranges-clause-none c none =
    absurd (true≢false (sym (c.in_err-ranges.ensures.none
    (none_asked (ask c.args.ports.now) (listing c.args.zone.now c.args.table.now) none))))
