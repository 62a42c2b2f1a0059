use Rattle.std.proofs.Common.{◌≡◌, ◌⊎◌, ◌∙◌, List, ℕ, Option, false, inl, inr, subst, rules}
use Rattle.std.specs.Prelude.{IsSomeAnd}
use Rattle.std.specs.Io.KnownBytes.{Consumes}
use Rattle.at_base.specs.declared.error.Error.{Error}
use Rattle.at_base.specs.declared.error.Error.TheVariants.{BadFile, Memory}
use Rattle.at_base.specs.declared.error.Part.TheVariants.{Text}
use Rattle.file_entries.specs.Texts.{may_begin}
use Rattle.commands.proofs.Returned.{back, late_back, unread_back}
use Rattle.commands.proofs.Unplayed.{Law, unbegun}
use Rattle.commands.proofs.text_input.read_text.Goals as goal
use Rattle.commands.specs.Streams.{Has, IsTold, IsUnread}
use Rattle.commands.specs.declared.refused.Refused.{Refused}

-- What the text was refused for.
unread : (most : ℕ) (before after : Option (List ℕ)) (got text : List ℕ) (r : Refused) (e : Error) → Law → r.error ≡ e
    → IsTold most r → IsSomeAnd r.file (λ f. f.text.items ≡ text) → Consumes before after got
    → (e ≡ Memory) ⊎ ((e ≡ BadFile Text 0) × (may_begin got ≡ false) × (text ≡ got)) → IsUnread most before after r
unread most before after got text r e law is told has taken (inl memory) =
    (told, late_back before after r (inl (is ∙ memory)), inr (inl (is ∙ memory)))
unread most before after got text r e law is told has taken (inr (bad, none, same)) =
    let found = unbegun before after got law taken none in
    let whole : Has got r = λ part n file. (subst (λ (x : List ℕ). IsSomeAnd r.file (λ f. f.text.items ≡ x)) same has) in
    (told, back before after got r taken whole, inr (inr (found.0, found.1, (is ∙ bad, found.2))))

pub returns-in-Err-Unread-clause-refused : goal.returns-in-Err-Unread-clause-refused
returns-in-Err-Unread-clause-refused g c =
    (search rules, unread_back _ (g.R.Read.remaining c.read_into.new.input) c.unread.result c.unread.ensures.error, inl c.unread.ensures.error)

pub returns-in-Err-Refused-clause-refused : goal.returns-in-Err-Refused-clause-refused
returns-in-Err-Refused-clause-refused g c =
    let at = c.in-Err-Refused.ensures.refused c.in-Err-Refused.error c.in-Err-Refused.field-0-is in
    unread c.args.most _ (g.R.Read.remaining c.read_into.new.input) at.0 c.read_into.new.taker.bytes.items c.at_fault.result
    c.in-Err-Refused.error c.stays_false.ensures (search rules) (search rules) (search rules) at.2 at.1
