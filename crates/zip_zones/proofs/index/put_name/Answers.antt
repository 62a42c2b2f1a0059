use Rattle.std.proofs.Common.{ℕ, List, length, ap, arith}
use Rattle.at_base.proofs.Numbers.{length_with, rising_with}
use Rattle.zip_zones.proofs.index.put_name.Goals as goal

pub returns-clause-rising : goal.returns-clause-rising
returns-clause-rising c = rw c.put_number.ensures.put (rising_with _ 0 _ (omega arith) c.requires.rising)

pub returns-clause-more : goal.returns-clause-more
returns-clause-more c =
    let items = ap (λ (l : List ℕ). length l) c.put_number.ensures.put in
    omega (arith, items, length_with c.number_of.result c.args.index.now.items, c.put_number.new.numbers.ok.0, c.args.index.now.ok.0)
