use Rattle.std.proofs.Common.{◌≡◌, ◌≢◌, ◌⊎◌, ◌∙◌, ℕ, Err, inl, inr, rules, sym}
use Rattle.at_base.specs.declared.error.Error.{Error}
use Rattle.at_base.specs.declared.error.Error.TheVariants.{Memory, WriteFault}
use Rattle.commands.proofs.Images.{IsLate, image_read, late_told}
use Rattle.commands.proofs.Known.{stop}
use Rattle.commands.proofs.Scripts.{script_then}
use Rattle.commands.specs.Outputs.{WroteTrace}
use Rattle.commands.specs.declared.refused.Refused.{Refused}
use Rattle.commands.proofs.tracing.capture_run.Goals as goal

-- The lines were written, and the capture stops.
wrote : (A Lines Capture Left : Type 0) (before after first last : ℕ) (e : Error) (r : Refused) → r.error ≡ e → after ≡ before → Left
    → (e ≡ Memory) ⊎ ((e ≡ WriteFault) × (last ≢ first)) → (last ≢ first → e ≡ WriteFault)
    → WroteTrace Lines Capture Left before after first last (stop A r)
wrote A Lines Capture Left before after first last e r is stays left (inl memory) reported = record {
  write_fault = λ write. (let odd = sym memory ∙ sym is ∙ write in cc);
  nothing_written = λ other more. absurd (more (is ∙ memory));
  blamed = inr (stays, left);
  stays = tt;
  reported = told;
}
  where
    told : (after ≢ before) ⊎ (last ≢ first) → r.error ≡ WriteFault
    told (inl apart) = absurd (apart stays)
    told (inr apart) = is ∙ reported apart
wrote A Lines Capture Left before after first last e r is stays left (inr (write, apart)) reported = record {
  write_fault = λ same. inr apart;
  nothing_written = λ other more. absurd (other (is ∙ write));
  blamed = inr (stays, left);
  stays = tt;
  reported = λ failed. is ∙ write;
}

pub returns-in-Err-capture_traced-clause-image : goal.returns-in-Err-capture_traced-clause-image
returns-in-Err-capture_traced-clause-image g c =
    let late : IsLate c.of.result = search rules in
    image_read _ _ (g.I.Read.remaining c.args.image.now) (g.I.Read.remaining c.run_frozen.new.image) c.in-Ok.traced (Err c.of.result)
    c.in-Ok.ensures.image late (late_told c.of.result late c.of.ensures.reason)

pub returns-in-Err-capture_traced-clause-script : goal.returns-in-Err-capture_traced-clause-script
returns-in-Err-capture_traced-clause-script g c =
    let late : IsLate c.of.result = search rules in
    script_then _ _ _ (g.I.Read.remaining c.args.image.now) (g.I.Read.remaining c.run_frozen.new.image)
    (g.S.Read.remaining c.args.script.now) (g.S.Read.remaining c.run_frozen.new.script) c.in-Ok.traced (Err c.of.result)
    c.in-Ok.ensures.script late c.of.ensures.origin

pub returns-in-Err-capture_traced-clause-wrote : goal.returns-in-Err-capture_traced-clause-wrote
returns-in-Err-capture_traced-clause-wrote g c =
    let prints = c.in-Err-capture_traced.ensures.prints in
    wrote _ _ _ _ _ _ _ _ c.in-Err-capture_traced.error c.of.result c.of.ensures.error c.in-Ok.ensures.wrote.stays
    c.in-Ok.ensures.empty prints.refused (λ apart. (let same = prints.reported apart in cc))
