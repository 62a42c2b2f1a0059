use Rattle.std.proofs.Common.{ℕ, List, length, ap, arith}
use Rattle.zip_zones.proofs.Indexed.{long_less, rising_less}
use Rattle.zip_zones.proofs.index.take_name.Goals as goal

pub returns-clause-rising : goal.returns-clause-rising
returns-clause-rising c = rw c.take_number.ensures.kept (rising_less _ 0 _ c.requires)

pub returns-clause-fewer : goal.returns-clause-fewer
returns-clause-fewer c =
    let items = ap (λ (l : List ℕ). length l) c.take_number.ensures.kept in
    omega (arith, items, long_less c.number_of.result c.args.index.now.items, c.take_number.new.numbers.ok.0, c.args.index.now.ok.0)
