use Rattle.std.proofs.Common.{◌≡◌, ℕ, Option, Some, None, Ok, Err, IfErr, OnOk, Result, inr, refl, subst}
use Rattle.at_base.specs.declared.error.Error.{Error}
use Rattle.at_base.specs.declared.error.Error.TheVariants.{BadCapture}
use Rattle.capture_feed.specs.Feeds.{answer}
use Rattle.pcapng.specs.declared.fault.Fault.{Fault}
use Rattle.routing.proofs.Running.{stands_on, stopped_at}
use Rattle.routing.proofs.stream.Stream.take.Goals as goal

-- what follows where a feed refused nothing
took : (r : Result (Unit {0}) Error) (refused : Option (ℕ × Fault)) (P : Type 0) → r ≡ answer refused → (refused ≡ None → P) → OnOk r P
took (Ok x) None P is p = p refl
took (Ok x) (Some f) P is p = absurd cc
took (Err e) refused P is p = tt

-- what follows where it refused a block
stopped : (r : Result (Unit {0}) Error) (refused : Option (ℕ × Fault)) (P : Error → Type 0) → r ≡ answer refused
    → ((f : ℕ × Fault) → refused ≡ Some f → P (BadCapture f.0)) → IfErr r P
stopped (Ok x) refused P is p = tt
stopped (Err e) None P is p = absurd cc
stopped (Err e) (Some f) P is p = let same : BadCapture f.0 ≡ e = cc in subst P same (p f refl)

pub returns-clause-took : goal.returns-clause-took
returns-clause-took g c =
    took c.feed-fed.result c.feed-fed.new.self.refused _ c.feed-fed.ensures.told
    (λ none m w all s.
    stands_on g.C.Cabled.acts (λ x. x.failed) (λ x. x.routing) (λ x. g.W.Write.contents x.output.writer) (λ x. x.output.text.items) m w all c.args.piece.now
    c.args.self.now c.feed-fed.new.listener c.args.feed.now c.feed-fed.new.self (g.W.Write.contents c.flush.new.self.writer) c.flush.new.self.text.items
    s none (c.feed-fed.ensures.fed s.good) c.in-None.is (c.in_ok-flush.ensures {u = tt}).ok (c.in_ok-flush.ensures {u = tt}).empty)

pub returns-clause-refused : goal.returns-clause-refused
returns-clause-refused g c =
    stopped c.feed-fed.result c.feed-fed.new.self.refused _ c.feed-fed.ensures.told
    (λ f bad. inr (inr (λ m w all s.
    stopped_at g.C.Cabled.acts (λ x. x.failed) (λ x. x.routing) (λ x. g.W.Write.contents x.output.writer) (λ x. x.output.text.items) m w all c.args.piece.now
    c.args.self.now c.feed-fed.new.listener c.args.feed.now c.feed-fed.new.self (g.W.Write.contents c.flush.new.self.writer) c.flush.new.self.text.items
    f s bad (c.feed-fed.ensures.fed s.good) c.in-None.is (c.in_ok-flush.ensures {u = tt}).ok)))
