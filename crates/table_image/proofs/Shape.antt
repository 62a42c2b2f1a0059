-- The format of an image: each projection gives its part.
use Rattle.std.proofs.Common.{◌≡◌, ℕ, zero, suc, ◌≤◌, Bool, true, cond, ltb, List, length, Some, None, refl, sym, arith}
use Rattle.std.proofs.lemmas.Bool.{ltb-false}
use Rattle.at_base.specs.Text.{is_name, same_bytes, is_entity}
use Rattle.at_base.specs.declared.error.Cause.{Cause}
use Rattle.at_base.specs.declared.error.Cause.TheVariants as causes
use Rattle.at_base.specs.declared.error.Cause.TheVariants.{Magic, Value}
use Rattle.at_base.specs.Grammar.{Grammar, Size, one, two}
use Rattle.at_base.specs.Lawful.{Has, IsLawful}
use Rattle.at_base.proofs.Fields.{is_right, not_wrong}
use Rattle.at_base.proofs.Texts.{same_bytes_is}
use Rattle.at_base.specs.Limits.{max_ports, max_rows, max_lists, max_names, max_cables, max_routers, max_nodes, max_mappings}
use Rattle.table_image.specs.Versions.{version_number, version_of, zone_limit}
use Rattle.table_image.specs.declared.version.Version.{Version}
use Rattle.table_image.specs.declared.version.Version.TheVariants.{V1, V2}
use Rattle.table_image.specs.Flaws.{Wrong, Here}
use Rattle.table_image.specs.Tests.{within, magic, is_magic}
use Rattle.table_image.specs.Spelling.{counted, text_spelling, zone_spelling, zones_spelling, address_spelling, cable_spelling}
use Rattle.table_image.specs.Spelling.{mapping_spelling, mappings_spelling, port_spelling, row_spelling, state_number, state_of, zone_list_spelling, flag_number, flag_of}
use Rattle.table_image.specs.Spelling.{router_spelling, own_router_number, after_flag, own_router_spelling, name_spelling, node_spelling}
use Rattle.table_image.specs.Spelling.{front_spelling, image_spelling}

pub within_bounds : (least most : ℕ) (c : Cause) (n : ℕ) → within least most c n ≡ None → (least ≤ n) × (n ≤ most)
within_bounds least most c n e =
    let a = not_wrong (ltb n least) (Here c) (cond (ltb most n) (Some (Here c)) None) e in
    let b = not_wrong (ltb most n) (Here c) None a.1 in
    (ltb-false _ _ a.0, ltb-false _ _ b.0)

magic_is : (s : List ℕ) → is_magic s ≡ None → magic ≡ s
magic_is s e = sym (same_bytes_is s magic (is_right (same_bytes s magic) (Here Magic) e))

counted_lawful : {B : Type 0} (size : Size) (limit : ℕ) (item : ℕ → Grammar Wrong true B) (next : B → ℕ) → ((low : ℕ) → IsLawful (item low))
    → IsLawful (counted size limit item next)
unfolding counted
counted_lawful size limit item next items = λ count p. (λ xs len. len, (items, λ xs len. (refl, tt)))

text_lawful : (good : List ℕ → Bool) → IsLawful (text_spelling good)
unfolding text_spelling
text_lawful good = λ len p. (λ s q. q.0, λ s q. (refl, tt))

zone_lawful : IsLawful zone_spelling
zone_lawful = text_lawful is_name

zones_lawful : (version : Version) → IsLawful (zones_spelling version)
unfolding zones_spelling
zones_lawful version = counted_lawful one (zone_limit version) (λ low. zone_spelling) (λ name. 0) (λ low. zone_lawful)

address_lawful : IsLawful address_spelling
unfolding address_spelling
address_lawful = λ net p. (λ node q. refl, λ node q. (refl, tt))

cable_lawful : (version : Version) → IsLawful (cable_spelling version)
unfolding cable_spelling
cable_lawful version = λ start p. (λ end q. λ names r. refl, λ end q. (λ names r. refl, (zones_lawful version, λ names r. (refl, tt))))

mapping_lawful : (low : ℕ) → IsLawful (mapping_spelling low)
unfolding mapping_spelling
mapping_lawful low = λ net p. (λ node q hardware r. refl, λ node q. (λ hardware r. refl, λ hardware r. (refl, tt)))

pub mappings_lawful : (version : Version) → IsLawful (mappings_spelling version)
unfolding mappings_spelling
mappings_lawful V1 = tt
mappings_lawful V2 = counted_lawful two max_mappings mapping_spelling _ mapping_lawful

port_lawful : (version : Version) (cables : ℕ) → IsLawful (port_spelling version cables)
unfolding port_spelling
port_lawful version cables =
    λ cable p. (
      λ address r hardware q mappings s. refl,
      (
        address_lawful,
        λ address r. (
          λ hardware q mappings s. refl,
          λ hardware q. (λ mappings s. refl, (mappings_lawful version, λ mappings s. (refl, tt))),
        ),
      ),
    )

state_is : (n : ℕ) → n ≤ 3 → state_number (state_of n) ≡ n
state_is zero h = refl
state_is (suc zero) h = refl
state_is (suc (suc zero)) h = refl
state_is (suc (suc (suc zero))) h = refl
state_is (suc (suc (suc (suc n)))) h = absurd (omega arith)

flag_is : (n : ℕ) → n ≤ 1 → flag_number (flag_of n) ≡ n
flag_is zero h = refl
flag_is (suc zero) h = refl
flag_is (suc (suc n)) h = absurd (omega arith)

row_lawful : (ports low : ℕ) → IsLawful (row_spelling ports low)
unfolding row_spelling
row_lawful ports low =
    λ start p. (
      λ end q distance r port s next u state t. refl,
      λ end q. (
        λ distance r port s next u state t. refl,
        λ distance r. (
          λ port s next u state t. refl,
          λ port s. (
            λ next u state t. refl,
            (address_lawful, λ next u. (λ state t. refl, λ state t. (state_is state (within_bounds 0 3 Value state t.1).1, tt))),
          ),
        ),
      ),
    )

zone_list_lawful : (version : Version) (low : ℕ) → IsLawful (zone_list_spelling version low)
unfolding zone_list_spelling
zone_list_lawful version low =
    λ start p. (
      λ end q complete r names u. refl,
      λ end q. (
        λ complete r names u. refl,
        λ complete r. (λ names u. flag_is complete (within_bounds 0 1 Value complete r.1).1, (zones_lawful version, λ names u. (refl, tt))),
      ),
    )

router_lawful : (version : Version) (cables : ℕ) → IsLawful (router_spelling version cables)
unfolding router_spelling
router_lawful version cables = (
  counted_lawful one max_ports (λ low. port_spelling version cables) (λ p. 0) (λ low. port_lawful version cables),
  λ ports p. (
    λ rows q lists r. refl,
    (
      counted_lawful one max_rows (row_spelling (length ports)) _ (row_lawful (length ports)),
      λ rows q. (λ lists r. refl, (counted_lawful one max_lists (zone_list_spelling version) _ (zone_list_lawful version), λ lists r. (refl, tt))),
    ),
  ),
)

after_flag_lawful : (flag : ℕ) → flag ≤ 1 → Has own_router_number flag (after_flag flag) × IsLawful (after_flag flag)
after_flag_lawful zero h = (refl, tt)
after_flag_lawful (suc zero) h = (λ a q. refl, (address_lawful, λ a q. (refl, tt)))
after_flag_lawful (suc (suc n)) h = absurd (omega arith)

own_router_lawful : IsLawful own_router_spelling
unfolding own_router_spelling
own_router_lawful = λ flag p. after_flag_lawful flag (within_bounds 0 1 Value flag p.1).1

name_lawful : (low : ℕ) → IsLawful (name_spelling low)
unfolding name_spelling
name_lawful low =
    λ socket p. (
      λ number q object r kind s. refl,
      λ number q. (
        λ object r kind s. refl,
        (text_lawful is_entity, λ object r. (λ kind s. refl, (text_lawful is_entity, λ kind s. (refl, tt)))),
      ),
    )

node_lawful : (version : Version) (cables : ℕ) → IsLawful (node_spelling version cables)
unfolding node_spelling
node_lawful version cables =
    λ cable p. (
      λ address p1 hardware q zone p2 router p3 names p4 mappings p5. refl,
      (
        address_lawful,
        λ address p1. (
          λ hardware q zone p2 router p3 names p4 mappings p5. refl,
          λ hardware q. (
            λ zone p2 router p3 names p4 mappings p5. refl,
            (
              zone_lawful,
              λ zone p2. (
                λ router p3 names p4 mappings p5. refl,
                (
                  own_router_lawful,
                  λ router p3. (
                    λ names p4 mappings p5. refl,
                    (
                      counted_lawful one max_names name_spelling _ name_lawful,
                      λ names p4. (λ mappings p5. refl, (mappings_lawful version, λ mappings p5. (refl, tt))),
                    ),
                  ),
                ),
              ),
            ),
          ),
        ),
      ),
    )

-- a number that is 1 or 2 is that of its version
number_is : (n : ℕ) → 1 ≤ n → n ≤ 2 → version_number (version_of n) ≡ n
number_is zero low high = absurd (omega arith)
number_is (suc zero) low high = refl
number_is (suc (suc zero)) low high = refl
number_is (suc (suc (suc n))) low high = absurd (omega arith)

front_lawful : IsLawful front_spelling
unfolding front_spelling
front_lawful =
    λ s p. (
      λ version q cables r. magic_is s p.1,
      λ version q. (
        λ cables r. (let h = within_bounds 1 2 causes.Version version q.1 in number_is version h.0 h.1),
        (
          counted_lawful one max_cables (λ low. cable_spelling (version_of version)) (λ c. 0) (λ low. cable_lawful (version_of version)),
          λ cables r. (refl, tt),
        ),
      ),
    )

pub image_lawful : IsLawful image_spelling
unfolding image_spelling
image_lawful = (
  front_lawful,
  λ front p. (
    λ routers q nodes r. refl,
    (
      counted_lawful one max_routers (λ low. router_spelling front.0 (length front.1)) (λ r. 0)
          (λ low. router_lawful front.0 (length front.1)),
      λ routers q. (
        λ nodes r. refl,
        (
          counted_lawful one max_nodes (λ low. node_spelling front.0 (length front.1)) (λ n. 0)
              (λ low. node_lawful front.0 (length front.1)),
          λ nodes r.
              (refl, tt),
        ),
      ),
    ),
  ),
)
