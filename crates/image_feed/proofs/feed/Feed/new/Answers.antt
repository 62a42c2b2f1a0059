use Rattle.std.proofs.Common.{◌∙◌, ℕ, List, [], ◌++◌, None, refl, sym, ap, inr, arith}
use Rattle.image_feed.specs.Feeds.{HasRead}
use Rattle.image_feed.specs.Tables.{tables_on}
use Rattle.image_feed.proofs.Begins.{image_new, nothing_cut}
use Rattle.image_feed.proofs.feed.Feed.new.Goals as goal

begins : (c : goal.After-new-3) → HasRead (record { tables = c.new.result; kept = c.new-2.result.items; fed = 0; refused = None }) []
begins c =
    record {
      bytes = λ i. omega arith;
      stands = record {
        fed = refl;
        leads = λ more. image_new c.new.result c.new.ensures more ∙ ap (λ (l : List ℕ). tables_on c.new.result (l ++ more)) (sym c.new-2.ensures.items);
        waits = inr (rw c.new-2.ensures.items (nothing_cut c.new.result c.new.ensures));
      };
    }

pub invariant_of-result : goal.invariant_of-result
invariant_of-result c = (([], begins c), λ more few. absurd (omega (arith, few)))

pub returns-clause-ok : goal.returns-clause-ok
returns-clause-ok c = begins c
