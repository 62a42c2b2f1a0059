use Rattle.std.proofs.Common.{None, Option, Some, sym, ℕ, ◌+◌, ◌≡◌}
use Rattle.std.specs.Option.{IfSome, OnSome}
use Rattle.slab.specs.Slab.{Slab, get, slab_len, Updates}
use Rattle.atp.specs.declared.transaction.Transaction.{Transaction}
use Rattle.atp.specs.Slots.{IsTable, Put}
use Rattle.atp.proofs.Slots.{removed}
use Rattle.atp.proofs.table.take.Goals as goal

taken : (old new : Slab Transaction) (key : ℕ) (r : Option Transaction) → IsTable old → r ≡ get old key → Updates old new key None
    → OnSome r (slab_len new + 1 ≡ slab_len old) → new.capacity ≡ old.capacity
    → IfSome r (λ t. Put old new t.id None)
taken old new key None h e up len cap = tt
taken old new key (Some t) h e up len cap = removed old new key t h (sym e) up len cap

pub returns-clause-taken : goal.returns-clause-taken
returns-clause-taken c =
    taken c.args.table.now c.try_remove.new.self c.args.key c.try_remove.result c.requires c.try_remove.ensures.value
    c.try_remove.ensures.updates c.try_remove.ensures.len c.try_remove.ensures.capacity
