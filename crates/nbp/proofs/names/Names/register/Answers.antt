use Rattle.std.proofs.Common.{◌≡◌, ◌&&◌, true, sym, ◌∙◌, arith}
use Rattle.std.proofs.lemmas.Bool.{and_parts}
use Rattle.nbp.specs.Registered.{is_registrable, free_from}
use Rattle.nbp.proofs.Registering.{least_free, registered}
use Rattle.nbp.proofs.names.Names.register.Goals as goal

pub invariant_of-self-2 : goal.invariant_of-self-2
invariant_of-self-2 c =
    let same = (c.in_ok-reserve.ensures {u = tt}).items in
    let good : (is_registrable c.args.object && is_registrable c.args.kind) ≡ true =
    sym c.are_registrable.ensures.value ∙ c.if-not-are_registrable.false in
    let parts = and_parts (is_registrable c.args.object) (is_registrable c.args.kind) good in
    let free : c.least_free-enumerator.result ≡ free_from 1 c.self.inside.names.items =
    rw (c.as_slice-2.ensures.value, same) at c.least_free-enumerator.ensures.value in
    rw (c.put.ensures, same)
    (registered _ c.self.inside.names.items c.requires.low c.requires.high parts.0 parts.1 c.are_registrable.ensures.few.0
    c.are_registrable.ensures.few.1 free (omega arith) c.self.invariant)

pub returns-clause-free : goal.returns-clause-free
returns-clause-free c =
    let same = (c.in_ok-reserve.ensures {u = tt}).items in
    rw (← c.self.view_is, c.least_free-enumerator.ensures.value, c.as_slice-2.ensures.value, same)
    (least_free c.self.inside.names.items c.self.invariant.rising)
