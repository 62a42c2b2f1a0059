-- What a play and a making may be refused for.
use Rattle.std.proofs.Common.{◌≡◌, ◌⊎◌, ◌++◌, List, ℕ, Option, Some, None, false, inl, inr, subst}
use Rattle.std.specs.Io.KnownBytes.{Appends, Consumes}
use Rattle.at_base.specs.declared.error.Error.TheVariants.{Full, Memory, WriteFault}
use Rattle.commands.proofs.Images.{late_told}
use Rattle.commands.proofs.Returned.{late_back}
use Rattle.commands.specs.Making.{IsMade}
use Rattle.commands.specs.Playing.{IsPlayOf}
use Rattle.commands.specs.Streams.{IsBack, IsTextOf, IsTold, IsUnmade, IsUnplayed, most_reads}
use Rattle.commands.specs.declared.auditing.Judged.{Judged}
use Rattle.commands.specs.declared.refused.Refused.{Refused}
use Rattle.file_entries.specs.Texts.{may_begin}
use Rattle.internet_file.specs.Files.{IsFile, IsFileRefused, Planned}
use Rattle.playing.specs.Plays.{play_lines}
use Rattle.playing.specs.declared.playing.Played.{Played}
use Rattle.table_image.specs.declared.version.Version.{Version}

-- The law that no text begins with bytes that none may begin with.
abbrev pub Law : Type 0
Law = (bytes more : List ℕ) → may_begin bytes ≡ false → may_begin (bytes ++ more) ≡ false

-- Bytes that were taken of a reader, and with which no text begins: nor does the text of the reader.
pub unbegun : (before after : Option (List ℕ)) (got : List ℕ) → Law → Consumes before after got → may_begin got ≡ false
    → (text : List ℕ) × IsTextOf before text × (may_begin text ≡ false)
unbegun None after got law taken none = (got, tt, none)
unbegun (Some x) None got law taken none = absurd taken
unbegun (Some x) (Some y) got law taken none = (got ++ y, taken, law got y none)

-- A text whose play is refused.
pub text_unplayed : (before after : Option (List ℕ)) (text : List ℕ) (r : Refused) → IsTold most_reads r → IsBack before after r
    → IsTextOf before text
    → IsFileRefused text r.error ⊎ (((plan : Planned) × IsFile text plan) × ((r.error ≡ Full) ⊎ (r.error ≡ Memory)))
    → IsUnplayed before after r
text_unplayed before after text r told back of (inl fault) = (told, back, inr (inr (text, of, inl fault)))
text_unplayed before after text r told back of (inr (file, inl full)) = (told, back, inr (inr (text, of, inr (file, inl full))))
text_unplayed before after text r told back of (inr (file, inr memory)) =
    (told, back, inr (inr (text, of, inr (file, inr (inl memory)))))

-- A play that was carried out and can't be written.
pub unwritten : (version : Option Version) (before after : Option (List ℕ)) (p : Played) (r : Refused) → IsPlayOf version before p
    → (r.error ≡ Memory) ⊎ (r.error ≡ WriteFault) → r.reason ≡ None → IsUnplayed before after r
unwritten version before after p r (text, of, file, play) (inl memory) none =
    (late_told r (inl memory) none, late_back before after r (inl memory), inr (inl memory))
unwritten version before after p r (text, of, file, play) (inr write) none = (
  late_told r (inr write) none,
  late_back before after r (inr write),
  inr (inr (text, of, inr ((p.world.plan, file), inr (inr write)))),
)

-- Where something else was touched, the lines of a play were written before.
pub told_before : (version : Option Version) (before : Option (List ℕ)) (p : Played) (Same : Type 0) (u v : Option (List ℕ))
    (left l : List ℕ) → IsPlayOf version before p → l ≡ play_lines p.world p.verdict → Same ⊎ Appends u v (left ++ l)
    → Same ⊎ ((q : Played) × IsPlayOf version before q × Appends u v (left ++ play_lines q.world q.verdict))
told_before version before p Same u v left l play is (inl same) = inl same
told_before version before p Same u v left l play is (inr wrote) =
    inr (p, play, subst (λ (x : List ℕ). Appends u v (left ++ x)) is wrote)

-- An image that was made of a tables file and can't be written.
pub unmade : (before after : Option (List ℕ)) (text : List ℕ) (it : Judged) (r : Refused) → IsTextOf before text → IsMade text it
    → r.error ≡ WriteFault → r.reason ≡ None → IsUnmade before after r
unmade before after text it r of made write none =
    (late_told r (inr write) none, late_back before after r (inr write), inr (inr (text, of, inr ((it.image, made.tables), write))))
