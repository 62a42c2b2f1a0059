use Rattle.std.proofs.Common.{◌≡◌, ◌∙◌, ℕ, ◌+◌, List, ◌++◌, length, Some, sym, ap, arith}
use Rattle.std.proofs.lemmas.List.{length-append}
use Rattle.image_feed.specs.Feeds.{Fed, GoesOn, HasRead, IsRefused}
use Rattle.image_feed.proofs.Fed.{all_bounded, all_cut, bytes_append, goes_on, on_open, open_on, refused_first, refused_stop, refused_again}
use Rattle.image_feed.proofs.feed.Feed.feed.Goals as goal

-- ---- a piece that was read

abbrev was : goal.In-Ok → Fed
was c = record { tables = c.self.inside.tables; kept = c.self.inside.kept.items; fed = c.self.inside.fed; refused = c.self.inside.refused }

abbrev new : goal.In-Ok → Fed
new c = record { tables = c.read_piece.new.tables; kept = c.read_piece.new.kept.items; fed = c.fed_with-self-inside.result; refused = c.self.inside.refused }

stands : (c : goal.In-Ok) (all : List ℕ) → HasRead (was c) all → GoesOn (was c) all
stands c all h = open_on (was c) all c.in_default.is h.stands

read : (c : goal.In-Ok) (all : List ℕ) → HasRead (was c) all → GoesOn (new c) (all ++ c.args.piece.now)
read c all h =
    let g = stands c all h in
    let bounded = all_bounded (was c) all h.bytes g in
    let fed : c.self.inside.fed ≡ length all = g.fed in
    let sum : c.fed_with-self-inside.result ≡ length (all ++ c.args.piece.now) =
    c.fed_with-self-inside.ensures (omega (arith, fed, bounded)) ∙ (ap (λ (n : ℕ). n + length c.args.piece.now) fed
    ∙ sym (length-append all c.args.piece.now)) in
    let said = c.in-Ok.ensures {u = tt} in
    goes_on (was c) (new c) all c.args.piece.now g sum said.leads said.waits

has : (c : goal.In-Ok) (all : List ℕ) → HasRead (was c) all → HasRead (new c) (all ++ c.args.piece.now)
has c all h = record {
  bytes = bytes_append all c.args.piece.now h.bytes (λ i. omega (arith, c.type_inv.piece i));
  stands = on_open (new c) (all ++ c.args.piece.now) c.in_default.is (read c all h);
}

pub invariant_of-self : goal.invariant_of-self
invariant_of-self c =
    let was = c.self.invariant.0 in ((was.0 ++ c.args.piece.now, has c was.0 was.1), c.read_piece.ensures.wants)

pub returns-in-Ok-clause-read : goal.returns-in-Ok-clause-read
returns-in-Ok-clause-read c = λ all h. has c all (rw (← c.self.view_is) at h)

pub returns-in-Ok-clause-waits : goal.returns-in-Ok-clause-waits
returns-in-Ok-clause-waits c = λ all h f first. all_cut (new c) (all ++ c.args.piece.now) f (read c all (rw (← c.self.view_is) at h)) first

-- ---- a piece that was refused

abbrev before : goal.After-self-in-Err-2-1 → Fed
before c = record { tables = c.self.inside.tables; kept = c.self.inside.kept.items; fed = c.self.inside.fed; refused = c.self.inside.refused }

refused : (c : goal.After-self-in-Err-2-1) (all : List ℕ) → HasRead (before c) all → IsRefused c.error_of-error.result (all ++ c.args.piece.now)
refused c all h =
    let g : GoesOn (before c) all = open_on (before c) all c.in_default.is h.stands in
    let fits = bytes_append all c.args.piece.now h.bytes (λ i. omega (arith, c.type_inv.piece i)) in
    let bounded = all_bounded (before c) all h.bytes g in
    let fed : c.self.inside.fed ≡ length all = g.fed in
    let sum : c.fed_with-self-inside.result ≡ length (all ++ c.args.piece.now) =
    c.fed_with-self-inside.ensures (omega (arith, fed, bounded)) ∙ (ap (λ (n : ℕ). n + length c.args.piece.now) fed
    ∙ sym (length-append all c.args.piece.now)) in
    let told = rw sum at c.error_of-error.ensures.refused in
    refused_stop (before c) all c.args.piece.now c.in-Err.stop c.error_of-error.result fits g (c.in-Err.ensures {u = tt}).stops
    c.error_of-error.ensures.memory told

abbrev after : goal.After-self-in-Err-2-1 → Fed
after c = record {
  tables = c.read_piece.new.tables;
  kept = c.read_piece.new.kept.items;
  fed = c.fed_with-self-inside.result;
  refused = Some c.error_of-error.result;
}

has_refused : (c : goal.After-self-in-Err-2-1) (all : List ℕ) → HasRead (before c) all → HasRead (after c) (all ++ c.args.piece.now)
has_refused c all h = record {
  bytes = bytes_append all c.args.piece.now h.bytes (λ i. omega (arith, c.type_inv.piece i));
  stands = refused c all h;
}

pub invariant_of-self-in-Err : goal.invariant_of-self-in-Err
invariant_of-self-in-Err c =
    let was = c.self.invariant.0 in ((was.0 ++ c.args.piece.now, has_refused c was.0 was.1), c.read_piece.ensures.wants)

pub returns-in-Err-clause-read : goal.returns-in-Err-clause-read
returns-in-Err-clause-read c = λ all h. has_refused c all (rw (← c.self.view_is) at h)

pub returns-in-Err-clause-first : goal.returns-in-Err-clause-first
returns-in-Err-clause-first c = λ none all h.
    refused_first c.error_of-error.result (all ++ c.args.piece.now) (refused c all (rw (← c.self.view_is) at h))

-- ---- a feed that was refused

pub returns-in-Some-clause-read : goal.returns-in-Some-clause-read
returns-in-Some-clause-read c = λ all h.
    refused_again c.args.self.now all c.args.piece.now c.in-Some.error (ap (λ (f : Fed). f.refused) (sym c.self.view_is) ∙ c.in-Some.is)
    (λ i. omega (arith, c.type_inv.piece i)) h
