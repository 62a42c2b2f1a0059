-- Reading a tables file returns none of the errors ReadFault, WriteFault and Full.
use Rattle.std.proofs.Common.{ℕ, List, Option, Some, None, Result, IfErr, codes, cond, length, subst, sym, inl, inr}
use Rattle.toml.specs.Data.{Members}
use Rattle.at_base.specs.declared.error.Error.{Error}
use Rattle.at_base.specs.declared.error.Part.TheVariants as part
use Rattle.file_entries.specs.Entries.{at_or, entries_at}
use Rattle.file_entries.specs.Values.{number}
use Rattle.playing.proofs.Faults.{IsBad, IsOther, after_bad, bad_entry, part_bad}
use Rattle.table_image.specs.Internet.{Internet}
use Rattle.tables_file.specs.Cables.{cable_of}
use Rattle.tables_file.specs.Files.{AreRefused, cables_in, is_top, nodes_in, routers_in, tables_in, version_by, version_in}
use Rattle.tables_file.specs.Marks.{mark_of}
use Rattle.tables_file.specs.Nodes.{node_of}
use Rattle.tables_file.specs.Routers.{router_of}

version_bad : (found : Option ℕ) → IsBad (version_by found)
version_bad None = bad_entry part.Top 0
version_bad (Some n) = tt

tables_bad : (ms : Members) → IsBad (tables_in ms)
unfolding version_in cables_in routers_in nodes_in
tables_bad ms =
    after_bad (version_in ms) _ (version_bad (cond (is_top ms) (at_or 1 (codes "version") (number 1 2) ms) None)) (λ v.
    after_bad (cables_in v ms) _ (part_bad 200 part.Cable (λ k. cable_of v) (entries_at (codes "cable") ms)) (λ cables.
    after_bad (routers_in v cables (mark_of ms) ms) _
    (part_bad 200 part.Router (router_of v cables (mark_of ms)) (entries_at (codes "router") ms)) (λ routers.
    after_bad (nodes_in v (length cables) (mark_of ms) ms) _
    (part_bad 200 part.Node (node_of v (length cables) (mark_of ms)) (entries_at (codes "node") ms)) (λ nodes. tt))))

pub other_fault : (text : List ℕ) (e : Error) → AreRefused text e → IsOther e
other_fault text e (inl (is, none)) = subst IsOther (sym is) (bad_entry part.Text 0)
other_fault text e (inr (inl (ms, whole, is))) =
    subst (λ (r : Result Internet Error). IfErr r IsOther) is (tables_bad ms)
other_fault text e (inr (inr is)) = subst IsOther (sym is) (λ same. absurd cc, λ same. absurd cc, λ same. absurd cc)
