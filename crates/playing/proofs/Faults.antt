-- Reading an internet file returns none of the errors ReadFault, WriteFault and Full.
use Rattle.std.proofs.Common.{◌≡◌, ◌≢◌, ℕ, Bool, true, false, cond, List, Option, Some, None, Result, Ok, Err, IfErr, codes}
use Rattle.std.proofs.Common.{length, nat_le, take, refl, subst, sym, inl, inr}
use Rattle.toml.specs.Data.{Data, Members}
use Rattle.at_base.specs.declared.error.Error.{Error}
use Rattle.at_base.specs.declared.error.Error.TheVariants.{BadFile, Full, ReadFault, WriteFault}
use Rattle.at_base.specs.declared.error.Part.{Part}
use Rattle.at_base.specs.declared.error.Part.TheVariants.{Text, Top, Cable as CablePart, Router as RouterPart, Node as NodePart}
use Rattle.at_base.specs.declared.error.Part.TheVariants.{Lose, Action as ActionPart}
use Rattle.internet_file.specs.Actions.{action_of, loss_of}
use Rattle.internet_file.specs.Cables.{cable_of}
use Rattle.file_entries.specs.Entries.{after, at, each, entries_at, numbered, part, part_up_to}
use Rattle.internet_file.specs.Files.{IsFileRefused, Planned, actions_in, cables_in, file, is_top, losses_in, nodes_in}
use Rattle.internet_file.specs.Files.{routers_in, ticks_of}
use Rattle.internet_file.specs.Stations.{node_of, router_of}
use Rattle.file_entries.specs.Values.{number}

-- The error is none of these.
abbrev pub IsOther : Error → Type 0
IsOther e = (e ≢ ReadFault) × (e ≢ WriteFault) × (e ≢ Full)

-- The result, if it is an error, is none of these.
abbrev pub IsBad : {T : Type 0} → Result T Error → Type 0
IsBad r = IfErr r IsOther

pub bad_entry : (p : Part) (k : ℕ) → IsOther (BadFile p k)
bad_entry p k = (λ same. absurd cc, λ same. absurd cc, λ same. absurd cc)

pub after_bad : {T U : Type 0} (r : Result T Error) (f : T → Result U Error) → IsBad r → ((x : T) → IsBad (f x)) → IsBad (after r f)
after_bad (Ok x) f first rest = rest x
after_bad (Err e) f first rest = first

pub numbered_bad : {T : Type 0} (p : Part) (r : Result (List T) ℕ) → IsBad (numbered p r)
numbered_bad p (Ok xs) = tt
numbered_bad p (Err k) = bad_entry p _

pub limit_bad : {T : Type 0} (p : Part) (k : ℕ) (xs : List T) (few : Bool) → IsBad (cond few (Ok xs) (Err (BadFile p k)))
limit_bad p k xs true = tt
limit_bad p k xs false = bad_entry p k

pub part_bad : {T : Type 0} (limit : ℕ) (p : Part) (f : ℕ → Data → Option T) (ds : List Data) → IsBad (part_up_to limit p f ds)
part_bad limit p f ds =
    after_bad (part p f (take limit ds)) _ (numbered_bad p (each f (take limit ds)))
    (λ xs. limit_bad p _ xs (nat_le (length ds) limit))

ticks_bad : (ms : Members) → IsBad (ticks_of ms)
unfolding ticks_of
ticks_bad ms = by (cond (is_top ms) (at (codes "ticks") (number 1 100000) ms) None) refl
  where
    by : (ticks : Option ℕ) → cond (is_top ms) (at (codes "ticks") (number 1 100000) ms) None ≡ ticks → IsBad (ticks_of ms)
    by (Some ticks) is = rw is tt
    by None is = rw is (bad_entry Top 0)

file_bad : (ms : Members) → IsBad (file ms)
unfolding cables_in routers_in nodes_in losses_in actions_in
file_bad ms =
    after_bad (ticks_of ms) _ (ticks_bad ms) (λ ticks.
    after_bad (cables_in ms) _ (part_bad 200 CablePart (λ k. cable_of) (entries_at (codes "cable") ms)) (λ cables.
    after_bad (routers_in cables ms) _ (part_bad 200 RouterPart (λ k. router_of cables) (entries_at (codes "router") ms)) (λ routers.
    after_bad (nodes_in cables ms) _ (part_bad 200 NodePart (λ k. node_of cables) (entries_at (codes "node") ms)) (λ nodes.
    after_bad (losses_in ticks cables ms) _
    (numbered_bad Lose (each (λ k. loss_of ticks cables) (entries_at (codes "lose") ms))) (λ losses.
    after_bad (actions_in ticks nodes ms) _
    (numbered_bad ActionPart (each (λ k. action_of ticks nodes) (entries_at (codes "action") ms))) (λ actions. tt))))))

pub other_fault : (text : List ℕ) (e : Error) → IsFileRefused text e → IsOther e
other_fault text e (inl (is, none)) = subst IsOther (sym is) (bad_entry Text 0)
other_fault text e (inr (inl (ms, whole, is))) =
    subst (λ (r : Result Planned Error). IfErr r IsOther) is (file_bad ms)
other_fault text e (inr (inr is)) = subst IsOther (sym is) (λ same. absurd cc, λ same. absurd cc, λ same. absurd cc)
