use Rattle.std.proofs.Common.{◌≡◌, ◌∷◌, [], sym, true, false, refl}
use Rattle.std.proofs.lemmas.List.{append-nil}
use Rattle.at_base.specs.Spelling.{bytes_of}
use Rattle.pcapng.specs.Blocks.{options}
use Rattle.pcapng.specs.Fields.{four}
use Rattle.pcapng.proofs.blocks.put_options.Goals as goal

lost_laid : bytes_of (options true) true ≡ 0 ∷ 1 ∷ 0 ∷ 4 ∷ 108 ∷ 111 ∷ 115 ∷ 116 ∷ 0 ∷ 0 ∷ 0 ∷ 0 ∷ []
unfolding options four
lost_laid = refl

taken_laid : bytes_of (options false) false ≡ []
unfolding options
taken_laid = refl

pub returns-then-lost : goal.returns-then-lost
returns-then-lost c = rw (c.if-lost.true, lost_laid) c.put_bytes.ensures

pub returns-else-lost : goal.returns-else-lost
returns-else-lost c = rw (c.if-lost.false, taken_laid) (sym (append-nil c.args.text.now.items))
