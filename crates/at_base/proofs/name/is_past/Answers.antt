use Rattle.std.proofs.Common.{◌++◌, nat_lt, not, slice_index_or, false, true, refl}
use Rattle.std.specs.Prelude.{replicate}
use Rattle.at_base.proofs.Below.{agree, agree_below, same}
use Rattle.at_base.proofs.name.is_past.Goals as goal

pub returns : goal.returns
unfolding agree same
returns c =
    let past = replicate 32 false ++ replicate 32 true in
    agree_below 64 (λ i. slice_index_or past i false) (λ i. not (nat_lt i 32)) refl c.args.place
    c.requires
