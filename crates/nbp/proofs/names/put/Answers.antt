use Rattle.nbp.proofs.Registering.{put_at}
use Rattle.nbp.proofs.names.put.Goals as goal

pub returns : goal.returns
returns c =
    rw (c.insert.ensures.items, c.unwrap.ensures, c.place_for-index.ensures.place, c.as_slice.ensures.value)
    (put_at c.args.name c.args.names.now.items)
