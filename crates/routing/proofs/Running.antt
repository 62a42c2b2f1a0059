-- What was done of a capture, piece by piece.
use Rattle.std.proofs.Common.{◌≡◌, ◌⊎◌, inl, ℕ, ◌∙◌, List, [], ◌∷◌, ◌++◌, Option, Some, None, Result, Err, ap, append_assoc, inr, refl, subst, sym}
use Rattle.std.proofs.lemmas.List.{append-nil}
use Rattle.std.specs.Io.KnownBytes.{Appends, Consumes, Keeps}
use Rattle.at_base.specs.declared.error.Error.{Error}
use Rattle.at_base.specs.declared.error.Error.TheVariants.{BadCapture, Memory, WriteFault}
use Rattle.cabled.specs.Acting.{Acting}
use Rattle.capture_feed.specs.Feeds.{Fed, HeardAll, IsFed, Leads}
use Rattle.capture_feed.specs.Stages.{Standing, coming, pending, refused, start, told}
use Rattle.pcapng.specs.Sections.{Told}
use Rattle.pcapng.specs.declared.fault.Fault.{Fault}
use Rattle.pcapng.specs.declared.form.Forms.TheVariants.{Pcapng}
use Rattle.routing.specs.Run.{Ends, HasRun, HaveHeard, Hears, IsStopped, Routed, SoFar, Stands}
use Rattle.text.proofs.Going.{appends_none, appends_then, goes_none, goes_then}
use Rattle.text.specs.Going.{Goes}

-- ---- What bytes tell

-- what comes at one place comes at another, and so does all that follows
leads_from : (at mid new : Standing) (a b rest : List ℕ) (ts : List Told) → ((more : List ℕ) → coming at (a ++ more) ≡ coming mid (b ++ more))
    → Leads mid b ts new rest → Leads at a ts new rest
leads_from at mid new a b rest [] same l = λ more. same more ∙ l more
leads_from at mid new a b rest (t ∷ ts) same (m, left, told_is, l) = (m, left, (λ more. same more ∙ told_is more), l)

-- some bytes tell some blocks, and then others
leads_both : (at mid new : Standing) (bytes piece kept rest : List ℕ) (ts us : List Told) → Leads at bytes ts mid kept
    → Leads mid (kept ++ piece) us new rest → Leads at (bytes ++ piece) (ts ++ us) new rest
leads_both at mid new bytes piece kept rest [] us l m =
    leads_from at mid new (bytes ++ piece) (kept ++ piece) rest us
    (λ more. ap (coming at) (append_assoc bytes piece more) ∙ l (piece ++ more) ∙ ap (coming mid) (sym (append_assoc kept piece more))) m
leads_both at mid new bytes piece kept rest (t ∷ ts) us (m, left, told_is, l) others = (
  m,
  left ++ piece,
  (λ more. ap (coming at) (append_assoc bytes piece more) ∙ told_is (piece ++ more)
      ∙ ap (λ (x : List ℕ). told t m x) (sym (append_assoc left piece more))),
  leads_both m mid new left piece kept rest ts us l others,
)

-- ---- What was heard

module _ {S : Type 0} (acts : Acting S) where
  -- some blocks were heard, and then others
  heard_both : (m mid after : Routed S) (ts us : List Told) (a b : List ℕ) → HaveHeard acts m ts a mid → HaveHeard acts mid us b after
      → HaveHeard acts m (ts ++ us) (a ++ b) after
  heard_both m mid after [] us a b (none, same) others =
      subst (λ (x : List ℕ). HaveHeard acts m us (x ++ b) after) (sym none) (subst (λ (x : Routed S). HaveHeard acts x us b after) same others)
  heard_both m mid after (t ∷ ts) us a b (x, first, rest, heard, more, all) others =
      (x, first, rest ++ b, heard, heard_both x mid after ts us rest b more others, ap (λ (l : List ℕ). l ++ b) all ∙ append_assoc first rest b)

-- a listener heard all of some blocks, and nothing failed
pub record HearsAll {S : Type 0} (acts : Acting S) (failed : Option Error) (m : Routed S) (ts : List Told) (after : Routed S) (before : Option (List ℕ)) (text : List ℕ)
    (writer : Option (List ℕ)) (left : List ℕ) : Type 0 where
  pub sound : failed ≡ None
  pub due : List ℕ
  pub heard : HaveHeard acts m ts due after
  pub goes : Goes before text due writer left

module _ {S : Type 0} (acts : Acting S) {L : Type 0} (failed : L → Option Error) (routing : L → Routed S) (contents : L → Option (List ℕ)) (text : L → List ℕ) where
  -- the listener heard a block, unless writing failed
  abbrev pub HeardOne : L → Told → L → Type 0
  HeardOne a t b = failed b ≡ None → Hears acts (failed a) (routing a) t (routing b) (contents a) (text a) (contents b) (text b)

  pub all_heard : (ts : List Told) (a b : L) → HeardAll HeardOne a ts b → failed b ≡ None
      → HearsAll acts (failed a) (routing a) ts (routing b) (contents a) (text a) (contents b) (text b)
  all_heard [] a b same none =
      subst (λ (x : L). HearsAll acts (failed a) (routing a) [] (routing x) (contents a) (text a) (contents x) (text x)) (sym same)
      (record { sound = ap failed (sym same) ∙ none; due = []; heard = (refl, refl); goes = goes_none (contents a) (text a) })
  all_heard (t ∷ ts) a b (mid, first, rest) none =
      let later = all_heard ts mid b rest none in
      let now = first later.sound in
      let w = now.wrote in
      record {
        sound = now.sound;
        due = w.0 ++ later.due;
        heard = (routing mid, w.0, later.due, w.1, later.heard, refl);
        goes = goes_then (contents a) (contents mid) (contents b) (text a) (text mid) (text b) w.0 later.due w.2 later.goes;
      }

-- ---- A piece

-- what was due went to an empty output, which was then flushed
flushed : (u v w : Option (List ℕ)) (due left : List ℕ) → Goes u [] due v left → Appends v w left → Appends u w due
flushed u v w due left goes last = subst (λ (l : List ℕ). Appends u w l) goes.rest (appends_then u v w goes.gone left goes.went last)

module _ {S : Type 0} (acts : Acting S) where
  -- one piece more: its blocks were heard, and what was due is written
  pub piece_done : (m now after : Routed S) (writer written last_written : Option (List ℕ)) (bytes piece : List ℕ) (at new : Standing) (kept rest : List ℕ)
      (ts : List Told) (due : List ℕ) → SoFar acts m writer bytes now written at kept → Leads at (kept ++ piece) ts new rest → HaveHeard acts now ts due after
      → Appends written last_written due → SoFar acts m writer (bytes ++ piece) after last_written new rest
  piece_done m now after writer written last_written bytes piece at new kept rest ts due done leads heard wrote = record {
    blocks = done.blocks ++ ts;
    leads = leads_both (start Pcapng) at new bytes piece kept rest done.blocks ts done.leads leads;
    due = done.due ++ due;
    heard = heard_both acts m now after done.blocks ts done.due due done.heard heard;
    wrote = appends_then writer written last_written done.due due done.wrote wrote;
  }

  -- nothing was read yet
  pub at_start : (m : Routed S) (writer : Option (List ℕ)) → SoFar acts m writer [] m writer (start Pcapng) []
  at_start m writer =
      record { blocks = []; leads = λ more. refl; due = []; heard = (refl, refl); wrote = appends_none writer }

module _ {S : Type 0} (acts : Acting S) {L : Type 0} (failed : L → Option Error) (routing : L → Routed S) (contents : L → Option (List ℕ)) (text : L → List ℕ) (m : Routed S)
    (writer : Option (List ℕ)) (bytes piece : List ℕ) (before after : L) (fed new : Fed) (written : Option (List ℕ)) (left : List ℕ) where
  -- between two reads, and then after the next one
  pub stands_on : Stands acts m writer bytes (failed before) (text before) (routing before) (contents before) fed → new.refused ≡ None
      → IsFed (HeardOne acts failed routing contents text) fed.at (fed.kept ++ piece) before new.refused new.at new.kept after → failed after ≡ None
      → Appends (contents after) written (text after) → left ≡ [] → Stands acts m writer (bytes ++ piece) (failed after) left (routing after) written new
  stands_on s good is sound last none = by (subst (λ (r : Option (ℕ × Fault)). IsFed (HeardOne acts failed routing contents text) fed.at (fed.kept ++ piece) before r new.at new.kept after) good is)
    where
      by : IsFed (HeardOne acts failed routing contents text) fed.at (fed.kept ++ piece) before None new.at new.kept after
          → Stands acts m writer (bytes ++ piece) (failed after) left (routing after) written new
      by ((ts, leads, hears), within) =
          let all = all_heard acts failed routing contents text ts before after hears sound in
          let goes = subst (λ (l : List ℕ). Goes (contents before) l all.due (contents after) (text after)) s.empty all.goes in
          record {
            sound = sound;
            empty = none;
            good = good;
            done = piece_done acts m (routing before) (routing after) writer (contents before) written bytes piece fed.at new.at fed.kept new.kept ts all.due s.done leads
                all.heard (flushed (contents before) (contents after) written all.due (text after) goes last);
            within = within;
          }

  -- between two reads, and then a block was refused
  pub stopped_at : (f : ℕ × Fault) → Stands acts m writer bytes (failed before) (text before) (routing before) (contents before) fed
      → new.refused ≡ Some f
      → IsFed (HeardOne acts failed routing contents text) fed.at (fed.kept ++ piece) before new.refused new.at new.kept after → failed after ≡ None
      → Appends (contents after) written (text after) → IsStopped acts m writer (bytes ++ piece) (routing after) written (BadCapture f.0)
  stopped_at f s bad is sound last = by (subst (λ (r : Option (ℕ × Fault)). IsFed (HeardOne acts failed routing contents text) fed.at (fed.kept ++ piece) before r new.at new.kept after) bad is)
    where
      by : IsFed (HeardOne acts failed routing contents text) fed.at (fed.kept ++ piece) before (Some f) new.at new.kept after
          → IsStopped acts m writer (bytes ++ piece) (routing after) written (BadCapture f.0)
      by (ts, end, rest, leads, hears, refuses) =
          let all = all_heard acts failed routing contents text ts before after hears sound in
          let goes = subst (λ (l : List ℕ). Goes (contents before) l all.due (contents after) (text after)) s.empty all.goes in
          record {
            last = end;
            kept = rest;
            done = piece_done acts m (routing before) (routing after) writer (contents before) written bytes piece fed.at end fed.kept rest ts all.due s.done leads
                all.heard (flushed (contents before) (contents after) written all.due (text after) goes last);
            ends = inr (f.0, f.1, refl, refuses);
          }

-- ---- A run

module _ {S : Type 0} (acts : Acting S) where
  -- the input ended, or a read failed, between two blocks or within one
  pub run_ended : (before after : Option (List ℕ)) (m now : Routed S) (writer written : Option (List ℕ)) (bytes text : List ℕ) (failed : Option Error)
      (feed : Fed) (result : Result (Unit {0}) Error) → Stands acts m writer bytes failed text now written feed → Consumes before after bytes
      → Ends result feed.at feed.kept → HasRun acts before after m writer written now result
  run_ended before after m now writer written bytes text failed feed result s read ends =
      record { bytes = bytes; read = read; last = feed.at; kept = feed.kept; done = s.done; ends = ends }

  -- a block was refused
  pub run_stopped : (before after : Option (List ℕ)) (m now : Routed S) (writer written : Option (List ℕ)) (bytes : List ℕ) (e : Error)
      → IsStopped acts m writer bytes now written e → Consumes before after bytes → HasRun acts before after m writer written now (Err e)
  run_stopped before after m now writer written bytes e s read =
      record { bytes = bytes; read = read; last = s.last; kept = s.kept; done = s.done; ends = s.ends }

  -- before the first read
  pub stands_first : (m : Routed S) (writer : Option (List ℕ)) (failed : Option Error) (text : List ℕ) (feed : Fed) → failed ≡ None → text ≡ []
      → feed ≡ record { at = start Pcapng; kept = []; refused = None } → Stands acts m writer [] failed text m writer feed
  stands_first m writer failed text feed sound empty fresh =
      subst (λ (x : Fed). Stands acts m writer [] failed text m writer x) (sym fresh)
      (record { sound = sound; empty = empty; good = refl; done = at_start acts m writer; within = refl })

-- a read gave some bytes more
pub reads_more : (before mid after : Option (List ℕ)) (all piece : List ℕ) → Consumes before mid all → Consumes mid after piece
    → Consumes before after (all ++ piece)
reads_more None mid after all piece x y = tt
reads_more (Some xs) None after all piece x y = absurd x
reads_more (Some xs) (Some ys) None all piece x y = absurd y
reads_more (Some xs) (Some ys) (Some zs) all piece x y = x ∙ ap (λ (l : List ℕ). all ++ l) y ∙ sym (append_assoc all piece zs)

-- a read that was interrupted gave nothing
pub reads_same : (before mid after : Option (List ℕ)) (all : List ℕ) → Consumes before mid all → Keeps mid after → Consumes before after all
reads_same None mid after all x y = tt
reads_same (Some xs) None after all x y = absurd x
reads_same (Some xs) (Some ys) None all x y = absurd y
reads_same (Some xs) (Some ys) (Some zs) all x y = x ∙ ap (λ (l : List ℕ). all ++ l) (sym y)

-- nothing was read
pub reads_none : (before : Option (List ℕ)) → Consumes before before []
reads_none None = tt
reads_none (Some xs) = refl

module _ {S : Type 0} (acts : Acting S) where
  -- why a run ended in the middle of it
  pub run_ends : (before mid after : Option (List ℕ)) (m now : Routed S) (writer written : Option (List ℕ)) (all piece : List ℕ) (e : Error) (Third : Type 0)
      (result : Result (Unit {0}) Error) → result ≡ Err e → Consumes before mid all → Consumes mid after piece
      → (Third → IsStopped acts m writer (all ++ piece) now written e) → (e ≡ Memory) ⊎ (e ≡ WriteFault) ⊎ Third
      → (result ≡ Err Memory) ⊎ (result ≡ Err WriteFault) ⊎ HasRun acts before after m writer written now result
  run_ends before mid after m now writer written all piece e Third result is x y stops (inl memory) =
      inl (is ∙ ap (λ (z : Error). Err z) memory)
  run_ends before mid after m now writer written all piece e Third result is x y stops (inr (inl fault)) =
      inr (inl (is ∙ ap (λ (z : Error). Err z) fault))
  run_ends before mid after m now writer written all piece e Third result is x y stops (inr (inr third)) =
      inr (inr (subst (λ (r : Result (Unit {0}) Error). HasRun acts before after m writer written now r) (sym is)
      (run_stopped acts before after m now writer written (all ++ piece) e (stops third) (reads_more before mid after all piece x y))))
