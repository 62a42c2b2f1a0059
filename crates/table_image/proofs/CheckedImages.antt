-- The results of checks of whole images.
use Rattle.std.proofs.Common.{◌≡◌, ℕ, ◌^◌, ◌<◌, true, List, length, None, Result, Ok, Err, refl, sym, ap, subst, arith}
use Rattle.at_base.specs.declared.error.Cause.TheVariants as causes
use Rattle.at_base.specs.Grammar.{Grammar, one}
use Rattle.at_base.specs.Limits.{max_cables, max_routers, max_nodes}
use Rattle.table_image.specs.Checking.{Checks}
use Rattle.table_image.specs.Flaws.{Wrong}
use Rattle.table_image.specs.Internet.{Internet}
use Rattle.table_image.specs.Spelling.{cable_spelling, counted, front_spelling, image_spelling, node_spelling, router_spelling}
use Rattle.table_image.specs.Tests.{within}
use Rattle.table_image.specs.Versions.{version_number, version_of}
use Rattle.table_image.specs.declared.cable.Cable.{Cable}
use Rattle.table_image.specs.declared.flaw.Flaw.{Flaw}
use Rattle.table_image.specs.declared.version.Version.{Version}
use Rattle.table_image.specs.declared.version.Version.TheVariants.{V1, V2}
use Rattle.table_image.proofs.Bounds.{version_back}
use Rattle.table_image.proofs.CheckedParts.{Says, says_field, says_in_part, says_last, says_part}

front_says : (version : Version) (cables : List Cable) (r : Result ℕ Flaw)
    → Checks (counted one max_cables (λ low. cable_spelling version) (λ c. 0)) cables 5 r → Says front_spelling (version, cables) 0 r
unfolding front_spelling
front_says version cables r h =
    let back = version_back version in
    let spelled : Version → Grammar Wrong true (List Cable) = λ v. counted one max_cables (λ low. cable_spelling v) (λ c. 0) in
    let number = version_number version in
    let same : (version_of number, cables) ≡ (version, cables) = ap (λ (v : Version). (v, cables)) back in
    let checked : Checks (spelled (version_of number)) cables 5 r = subst (λ (v : Version). Checks (spelled v) cables 5 r) (sym back) h in
    says_field _ _ _ (version, cables) 0 r (refl, refl) (says_field _ _ _ (version, cables) 4 r (small version, in_bounds version)
    (says_last (spelled (version_of number)) (λ f. f.1) (λ cables. (version_of number, cables)) (version, cables) 5 r same checked))
  where
    small : (v : Version) → version_number v < 2 ^ 8
    small V1 = omega arith
    small V2 = omega arith

    in_bounds : (v : Version) → within 1 2 causes.Version (version_number v) ≡ None
    in_bounds V1 = refl
    in_bounds V2 = refl

image_says_cables : (i : Internet) (m : Flaw)
    → Checks (counted one max_cables (λ low. cable_spelling i.version) (λ c. 0)) i.cables 5 (Err m) → Says image_spelling i 0 (Err m)
unfolding image_spelling
image_says_cables i m h = says_in_part _ _ _ i 0 m (front_says i.version i.cables (Err m) h).it

pub image_cables : (i : Internet) (m : Flaw)
    → Checks (counted one max_cables (λ low. cable_spelling i.version) (λ c. 0)) i.cables 5 (Err m) → Checks image_spelling i 0 (Err m)
image_cables i m h = (image_says_cables i m h).it

image_says_routers : (i : Internet) (a : ℕ) (m : Flaw)
    → Checks (counted one max_cables (λ low. cable_spelling i.version) (λ c. 0)) i.cables 5 (Ok a)
    → Checks (counted one max_routers (λ low. router_spelling i.version (length i.cables)) (λ r. 0)) i.routers a (Err m)
    → Says image_spelling i 0 (Err m)
unfolding image_spelling
image_says_routers i a m h k = says_part _ _ _ i 0 a (Err m) (front_says i.version i.cables (Ok a) h).it (says_in_part _ _ _ i a m k)

pub image_routers : (i : Internet) (a : ℕ) (m : Flaw)
    → Checks (counted one max_cables (λ low. cable_spelling i.version) (λ c. 0)) i.cables 5 (Ok a)
    → Checks (counted one max_routers (λ low. router_spelling i.version (length i.cables)) (λ r. 0)) i.routers a (Err m)
    → Checks image_spelling i 0 (Err m)
image_routers i a m h k = (image_says_routers i a m h k).it

image_says : (i : Internet) (a b : ℕ) (r : Result ℕ Flaw)
    → Checks (counted one max_cables (λ low. cable_spelling i.version) (λ c. 0)) i.cables 5 (Ok a)
    → Checks (counted one max_routers (λ low. router_spelling i.version (length i.cables)) (λ r. 0)) i.routers a (Ok b)
    → Checks (counted one max_nodes (λ low. node_spelling i.version (length i.cables)) (λ n. 0)) i.nodes b r → Says image_spelling i 0 r
unfolding image_spelling
image_says i a b r h k j =
    says_part _ _ _ i 0 a r (front_says i.version i.cables (Ok a) h).it (says_part _ _ _ i a b r k
    (says_last (counted one max_nodes (λ low. node_spelling i.version (length i.cables)) (λ n. 0)) (λ i. i.nodes)
    (λ nodes. record { version = i.version; cables = i.cables; routers = i.routers; nodes = nodes }) i b r refl j))

pub image_checks : (i : Internet) (a b : ℕ) (r : Result ℕ Flaw)
    → Checks (counted one max_cables (λ low. cable_spelling i.version) (λ c. 0)) i.cables 5 (Ok a)
    → Checks (counted one max_routers (λ low. router_spelling i.version (length i.cables)) (λ r. 0)) i.routers a (Ok b)
    → Checks (counted one max_nodes (λ low. node_spelling i.version (length i.cables)) (λ n. 0)) i.nodes b r → Checks image_spelling i 0 r
image_checks i a b r h k j = (image_says i a b r h k j).it
