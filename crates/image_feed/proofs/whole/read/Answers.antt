use Rattle.std.proofs.Common.{◌≡◌, ◌⊎◌, ℕ, List, Err, ap, inl, inr}
use Rattle.at_base.specs.declared.error.Cause.{Cause}
use Rattle.at_base.specs.declared.error.Error.{Error}
use Rattle.at_base.specs.declared.error.Error.TheVariants.{BadImage, Memory}
use Rattle.table_image.specs.Reading.{Refuses, RefusesFirst}
use Rattle.table_image.proofs.Whole.{all_again, no_flaw, one_reading, only_memory}
use Rattle.image_feed.proofs.Fed.{refuses_flaw}
use Rattle.image_feed.proofs.whole.read.Goals as goal

pub returns-in-Ok-clause-only : goal.returns-in-Ok-clause-only
returns-in-Ok-clause-only c =
    λ i s. one_reading c.args.bytes.now c.in-Ok.image i (all_again c.args.bytes.now c.in-Ok.image c.in-Ok.ensures.found) s

pub returns-in-Ok-clause-first : goal.returns-in-Ok-clause-first
returns-in-Ok-clause-first c = λ f h. absurd (no_flaw c.args.bytes.now c.in-Ok.image f c.in-Ok.ensures.found h)

-- an image's refusal isn't want of memory
refuses : (bytes : List ℕ) (place : ℕ) (cause : Cause) → (BadImage place cause ≡ Memory) ⊎ RefusesFirst bytes (BadImage place cause)
    → Refuses bytes (BadImage place cause)
refuses bytes place cause (inl same) = cc
refuses bytes place cause (inr first) = inr first

said : (c : goal.In-Err-BadImage) → Refuses c.args.bytes.now (BadImage c.in-Err-BadImage.place c.in-Err-BadImage.cause)
said c =
    let told = (c.in-Err-BadImage.ensures {u = tt}).refused in
    refuses c.args.bytes.now c.in-Err-BadImage.place c.in-Err-BadImage.cause (rw c.in-Err-BadImage.field-0-is at told)

pub returns-in-Err-BadImage-clause-only : goal.returns-in-Err-BadImage-clause-only
returns-in-Err-BadImage-clause-only c = λ i s. only_memory c.args.bytes.now i _ s (said c)

pub returns-in-Err-BadImage-clause-first : goal.returns-in-Err-BadImage-clause-first
returns-in-Err-BadImage-clause-first c = λ f h. ap (λ (e : Error). Err e) (refuses_flaw c.args.bytes.now _ f (said c) h)

pub returns-in-Err-BadImage-clause-refused : goal.returns-in-Err-BadImage-clause-refused
returns-in-Err-BadImage-clause-refused c = said c

pub returns-in-Err-clause-only : goal.returns-in-Err-clause-only
returns-in-Err-clause-only c = λ i s. only_memory c.args.bytes.now i c.refused_for_memory.result s c.refused_for_memory.ensures

pub returns-in-Err-clause-first : goal.returns-in-Err-clause-first
returns-in-Err-clause-first c =
    λ f h. ap (λ (e : Error). Err e) (refuses_flaw c.args.bytes.now c.refused_for_memory.result f c.refused_for_memory.ensures h)
