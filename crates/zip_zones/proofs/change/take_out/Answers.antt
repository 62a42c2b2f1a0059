use Rattle.zip_zones.proofs.Indexed.{indexed_apart}
use Rattle.zip_zones.proofs.change.take_out.Goals as goal

pub place_of-place-requires : goal.place_of-place-requires
place_of-place-requires c =
    rw (c.as_slice.ensures.value) (indexed_apart c.args.lists.now.items c.args.index.now.items c.requires)
