-- The text of a file comes back with its refusal.
use Rattle.std.proofs.Common.{◌≡◌, ◌≢◌, ◌⊎◌, ◌∙◌, List, ℕ, Option, Some, None, sym, subst, inl, inr}
use Rattle.std.specs.Prelude.{IsSomeAnd}
use Rattle.std.specs.Io.KnownBytes.{Consumes}
use Rattle.at_base.specs.declared.error.Error.TheVariants.{BadFile, Memory, ReadFault, WriteFault}
use Rattle.at_base.specs.declared.error.Part.{Part}
use Rattle.commands.specs.Streams.{Has, IsBack}
use Rattle.commands.specs.declared.refused.AtFault.{AtFault}
use Rattle.commands.specs.declared.refused.Refused.{Refused}

-- A text that was read, as it is in a file.
read_so : (before after : Option (List ℕ)) (text : List ℕ) (file : Option AtFault) → Consumes before after text
    → IsSomeAnd file (λ f. f.text.items ≡ text) → IsSomeAnd file (λ f. Consumes before after f.text.items)
read_so before after text None taken is = absurd is
read_so before after text (Some f) taken is = subst (Consumes before after) (sym is) taken

-- A text that was read, and comes back.
pub back : (before after : Option (List ℕ)) (text : List ℕ) (r : Refused) → Consumes before after text → Has text r
    → IsBack before after r
back before after text r taken has = λ part n bad. read_so before after text r.file taken (has part n bad)

-- A refusal that isn't of a file.
pub unread_back : (before after : Option (List ℕ)) (r : Refused) → r.error ≡ ReadFault → IsBack before after r
unread_back before after r read = λ part n bad. (let odd : ReadFault ≡ BadFile part n = sym read ∙ bad in cc)

pub late_back : (before after : Option (List ℕ)) (r : Refused) → (r.error ≡ Memory) ⊎ (r.error ≡ WriteFault) → IsBack before after r
late_back before after r (inl memory) = λ part n bad. (let odd : Memory ≡ BadFile part n = sym memory ∙ bad in cc)
late_back before after r (inr write) = λ part n bad. (let odd : WriteFault ≡ BadFile part n = sym write ∙ bad in cc)
