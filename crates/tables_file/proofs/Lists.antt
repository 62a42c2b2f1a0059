-- What is read of the lists within an entry is valid in an image.
use Rattle.std.proofs.Common.{◌≡◌, ℕ, ◌+◌, ◌-◌, ◌<◌, ◌≤◌, Bool, true, ◌&&◌, List, [], ◌∷◌, length, arith, nat_le, nat_lt, subst, codes, refl}
use Rattle.std.proofs.Common.{false, sym}
use Rattle.std.proofs.lemmas.Bool.{and_parts, leb-true, ltb-false, ltb-true}
use Rattle.std.specs.Prelude.{Option, Some, None, IsTrue}
use Rattle.std.specs.List.{AllByRecursion as Each}
use Rattle.toml.specs.Data.{Data, Members, get_member}
use Rattle.at_base.specs.Address.{address_number}
use Rattle.at_base.specs.Grammar.{Grammar}
use Rattle.at_base.specs.Limits.{max_lists, max_names, max_rows}
use Rattle.at_base.specs.Range.{is_between}
use Rattle.at_base.specs.Spelling.{IsValue, ListPasses}
use Rattle.at_base.specs.Text.{IsEntity, IsName, is_entity, is_name}
use Rattle.file_entries.proofs.Bounds.{address_is, hardware_is, number_is}
use Rattle.file_entries.proofs.Given.{all_is, cond_is, each_holds, few_at_hold, few_hold, given_is, some_is}
use Rattle.file_entries.specs.Entries.{at, at_or, entry, few, few_at, or_else}
use Rattle.file_entries.specs.Values.{any_address, hardware, list, list_within, number}
use Rattle.image_parts.proofs.Values.{list_value, mapping_value, mappings_value, name_value, row_value}
use Rattle.table_image.specs.Flaws.{Wrong}
use Rattle.table_image.specs.Limits.{max_distance}
use Rattle.table_image.specs.Spelling.{mapping_spelling, mappings_spelling, name_spelling, nowhere, row_spelling, zone_list_spelling}
use Rattle.table_image.specs.Versions.{mapping_limit, zone_limit}
use Rattle.table_image.specs.declared.cable.Cable.{Cable}
use Rattle.table_image.specs.declared.mapping.Mapping.{Mapping}
use Rattle.table_image.specs.declared.node.NodeName.{NodeName}
use Rattle.table_image.specs.declared.row.Row.{Row}
use Rattle.table_image.specs.declared.version.Version.{Version}
use Rattle.table_image.specs.declared.zone_list.ZoneList.{ZoneList}
use Rattle.tables_file.specs.Cables.{zones}
use Rattle.tables_file.specs.Nodes.{name_of, names}
use Rattle.tables_file.specs.Rising.{rise}
use Rattle.tables_file.specs.Routers.{list_of, listed, lists, lists_from, mapping_of, mappings, rising, row_of, rows}
use Rattle.tables_file.specs.Values.{bytes, ends, ends_of, flag, is_object, name_of as name_in, object, object_of, place, state, zone}

-- ---- Values

-- What holds of a value at a key holds of the meaning of the value there.
pub at_is : {T : Type 0} (key : List ℕ) (f : Data → Option T) (P : T → Type 0) → ((d : Data) (x : T) → f d ≡ Some x → P x)
    → (ms : Members) (x : T) → at key f ms ≡ Some x → P x
at_is key f P h ms x e = let g = given_is (get_member key ms) f x e in h g.0 x g.2

or_is : {T : Type 0} (other : T) (f : Data → Option T) (P : T → Type 0) → P other → ((d : Data) (x : T) → f d ≡ Some x → P x)
    → (found : Option Data) (x : T) → or_else other f found ≡ Some x → P x
or_is other f P o h None x e = subst P (some_is e) o
or_is other f P o h (Some d) x e = h d x e

-- The same where another value stands for an absent key, of which it holds too.
pub at_or_is : {T : Type 0} (other : T) (key : List ℕ) (f : Data → Option T) (P : T → Type 0) → P other
    → ((d : Data) (x : T) → f d ≡ Some x → P x) → (ms : Members) (x : T) → at_or other key f ms ≡ Some x → P x
at_or_is other key f P o h ms x e = or_is other f P o h (get_member key ms) x e

abbrev pub AreEnds : (ℕ × ℕ) → Type 0
AreEnds r = (r.0 ≤ 65535) × (r.1 ≤ 65535)

two_are : (ds : List Data) (r : ℕ × ℕ) → ends_of ds ≡ Some r → AreEnds r
two_are [] r e = absurd cc
two_are (first ∷ []) r e = absurd cc
two_are (first ∷ last ∷ []) r e =
    let s = given_is (number 0 65535 first) _ r e in
    let n = given_is (number 0 65535 last) _ r s.2 in
    subst AreEnds (some_is n.2) ((number_is 0 65535 first s.0 s.1).1, (number_is 0 65535 last n.0 n.1).1)
two_are (first ∷ last ∷ more ∷ ds) r e = absurd cc

pub ends_are : (d : Data) (r : ℕ × ℕ) → ends d ≡ Some r → AreEnds r
ends_are d r e = let g = given_is (list d) ends_of r e in two_are g.0 r g.2

pub place_is : (count : ℕ) (d : Data) (k : ℕ) → place count d ≡ Some k → (k < count) × (k < 200)
place_is count d k e =
    let g = given_is (number 1 200 d) _ k e in
    let bounds = number_is 1 200 d g.0 g.1 in
    let c = cond_is (nat_le g.0 count) (g.0 - 1) k g.2 in
    let few = leb-true g.0 count c.0 in
    subst (λ n. (n < count) × (n < 200)) c.1 (omega (arith, bounds, few), omega (arith, bounds))

pub zone_is : (d : Data) (z : List ℕ) → zone d ≡ Some z → IsName z
zone_is d z e =
    let g = given_is (bytes d) name_in z e in
    let c = cond_is (is_name g.0) g.0 z g.2 in
    subst IsName c.1 c.0

object_is : (d : Data) (s : List ℕ) → object d ≡ Some s → IsEntity s
object_is d s e =
    let g = given_is (bytes d) object_of s e in
    let c = cond_is (is_object g.0) g.0 s g.2 in
    let whole = and_parts (nat_le 1 (length g.0) && nat_le (length g.0) 32) (is_entity g.0) c.0 in
    let size = and_parts (nat_le 1 (length g.0)) (nat_le (length g.0) 32) whole.0 in
    subst IsEntity c.1
    (record { some = leb-true 1 (length g.0) size.0; few = leb-true (length g.0) 32 size.1; test = whole.1 })

abbrev pub AreZones : Version → List (List ℕ) → Type 0
AreZones v zs = (length zs ≤ zone_limit v) × Each IsName zs

pub zones_are : (v : Version) (d : Data) (zs : List (List ℕ)) → zones v d ≡ Some zs → AreZones v zs
zones_are v d zs e =
    let items = given_is (list_within 0 (zone_limit v) d) _ zs e in
    let ds = given_is (list d) _ items.0 items.1 in
    let c = cond_is (is_between 0 (zone_limit v) (length ds.0)) ds.0 items.0 ds.2 in
    let size = and_parts (nat_le 0 (length ds.0)) (nat_le (length ds.0) (zone_limit v)) c.0 in
    let count = subst (λ (l : List Data). length l ≤ zone_limit v) c.1 (leb-true (length ds.0) (zone_limit v) size.1) in
    let read = each_holds 1 (λ k. zone) IsName (λ k. zone_is) items.0 zs (all_is (λ k. zone) items.0 zs items.2) in
    (subst (λ n. n ≤ zone_limit v) (sym read.1) count, read.0)

-- ---- Rising lists

-- An item is valid wherever it is above what the item before it passes on.
abbrev Rises : {B : Type 0} → (ℕ → Grammar Wrong true B) → (B → ℕ) → B → Type 0
Rises item next x = (low : ℕ) → low < next x → IsValue (item low) x

rises_pass : {B : Type 0} (item : ℕ → Grammar Wrong true B) (next : B → ℕ) (low : ℕ) (xs : List B) → Each (Rises item next) xs
    → IsTrue (rise next low xs) → ListPasses (λ low. IsValue (item low)) next low xs
rises_pass item next low [] h r = tt
rises_pass item next low (x ∷ xs) h r =
    let p = and_parts (nat_lt low (next x)) (rise next (next x) xs) r in
    (h.0 low (ltb-true low (next x) p.0), rises_pass item next (next x) xs h.1 p.1)

-- Such items that rise, within a limit, are within it and pass.
rising_is : {B : Type 0} (item : ℕ → Grammar Wrong true B) (next : B → ℕ) (limit : ℕ) (ys xs : List B)
    → Each (Rises item next) ys × (length ys ≤ limit) → rising next ys ≡ Some xs
    → (length xs ≤ limit) × ListPasses (λ low. IsValue (item low)) next 0 xs
rising_is item next limit ys xs h e =
    let c = cond_is (rise next 0 ys) ys xs e in
    subst (λ (l : List _). (length l ≤ limit) × ListPasses (λ low. IsValue (item low)) next 0 l) c.1
    (h.1, rises_pass item next 0 ys h.0 c.0)

-- ---- Mappings

mapping_is : (d : Data) (m : Mapping) → mapping_of d ≡ Some m → Rises mapping_spelling (λ m. address_number m.address + 1) m
mapping_is d m e =
    let ms = given_is (entry (codes "address" ∷ codes "hardware" ∷ []) d) _ m e in
    let a = given_is (at (codes "address") any_address ms.0) _ m ms.2 in
    let h = given_is (at (codes "hardware") hardware ms.0) _ m a.2 in
    let fits = at_is (codes "address") any_address _ address_is ms.0 a.0 a.1 in
    let six = at_is (codes "hardware") hardware (λ h. length h.0 ≡ 6) hardware_is ms.0 h.0 h.1 in
    subst (Rises mapping_spelling (λ m. address_number m.address + 1)) (some_is h.2) (λ low lt.
    mapping_value low (record { address = a.0; hardware = h.0 })
    (record { net = omega (arith, fits); node = omega (arith, fits); hardware = six }) (omega (arith, lt)))

pub mappings_are : (v : Version) (ms : Members) (known : List Mapping) → mappings v ms ≡ Some known → IsValue (mappings_spelling v) known
mappings_are v ms known e =
    let g = given_is (few_at (mapping_limit v) (codes "mapping") (λ k. mapping_of) ms) _ known e in
    let each = few_at_hold (mapping_limit v) (codes "mapping") (λ k. mapping_of)
    (Rises mapping_spelling (λ m. address_number m.address + 1)) (λ k. mapping_is) ms g.0 g.1 in
    let h = rising_is mapping_spelling (λ m. address_number m.address + 1) (mapping_limit v) g.0 known each g.2 in
    mappings_value v known h.0 h.1

-- ---- Rows

row_is : (ports : ℕ) (d : Data) (r : Row) → row_of ports d ≡ Some r → Rises (row_spelling ports) (λ r. r.start + 1) r
row_is ports d r e =
    let ms = given_is
    (entry (codes "range" ∷ codes "distance" ∷ codes "port" ∷ codes "next" ∷ codes "state" ∷ []) d) _ r e in
    let range = given_is (at (codes "range") ends ms.0) _ r ms.2 in
    let far = given_is (at (codes "distance") (number 0 max_distance) ms.0) _ r range.2 in
    let port = given_is (at (codes "port") (place ports) ms.0) _ r far.2 in
    let next = given_is (at_or nowhere (codes "next") any_address ms.0) _ r port.2 in
    let s = given_is (at_or _ (codes "state") state ms.0) _ r next.2 in
    let within = at_is (codes "range") ends AreEnds ends_are ms.0 range.0 range.1 in
    let near = at_is (codes "distance") (number 0 max_distance) _ (number_is 0 max_distance) ms.0 far.0 far.1 in
    let there = at_is (codes "port") (place ports) _ (place_is ports) ms.0 port.0 port.1 in
    let fits = at_or_is nowhere (codes "next") any_address _ (omega arith, omega arith) address_is ms.0 next.0 next.1 in
    subst (Rises (row_spelling ports) (λ r. r.start + 1)) (some_is s.2) (λ low lt.
    row_value ports low (record { start = range.0.0; end = range.0.1; distance = far.0; port = port.0; next = next.0; state = s.0 })
    (record {
      start = omega (arith, within);
      end = omega (arith, within);
      distance = omega (arith, near);
      port = omega (arith, there);
      net = omega (arith, fits);
      node = omega (arith, fits);
    }) (omega (arith, lt)) near.1 there.0)

pub rows_are : (ports : ℕ) (ms : Members) (rs : List Row) → rows ports ms ≡ Some rs
    → (length rs ≤ max_rows) × ListPasses (λ low. IsValue (row_spelling ports low)) (λ r. r.start + 1) 0 rs
rows_are ports ms rs e =
    let g = given_is (few_at max_rows (codes "row") (λ k. row_of ports) ms) _ rs e in
    rising_is (row_spelling ports) (λ r. r.start + 1) max_rows g.0 rs
    (few_at_hold max_rows (codes "row") (λ k. row_of ports) (Rises (row_spelling ports) (λ r. r.start + 1)) (λ k. row_is ports) ms g.0 g.1)
    g.2

-- ---- Zone lists

-- A zone list whose numbers fit and whose zones are an image's.
zone_list_is : (v : Version) (range : ℕ × ℕ) (complete : Bool) (zs : List (List ℕ)) → AreEnds range → AreZones v zs
    → Rises (zone_list_spelling v) (λ l. l.start + 1) (record { start = range.0; end = range.1; complete = complete; zones = zs })
zone_list_is v range complete zs within names = λ low lt.
    list_value v low (record { start = range.0; end = range.1; complete = complete; zones = zs }) (omega (arith, within))
    (omega (arith, within)) (omega (arith, lt)) names.0 names.1

list_is : (v : Version) (d : Data) (l : ZoneList) → list_of v d ≡ Some l → Rises (zone_list_spelling v) (λ l. l.start + 1) l
list_is v d l e =
    let ms = given_is (entry (codes "range" ∷ codes "complete" ∷ codes "zones" ∷ []) d) _ l e in
    let range = given_is (at (codes "range") ends ms.0) _ l ms.2 in
    let complete = given_is (at_or true (codes "complete") flag ms.0) _ l range.2 in
    let names = given_is (at (codes "zones") (zones v) ms.0) _ l complete.2 in
    subst (Rises (zone_list_spelling v) (λ l. l.start + 1)) (some_is names.2)
    (zone_list_is v range.0 complete.0 names.0 (at_is (codes "range") ends AreEnds ends_are ms.0 range.0 range.1)
    (at_is (codes "zones") (zones v) (AreZones v) (zones_are v) ms.0 names.0 names.1))

-- A cable whose numbers fit and whose zones are an image's.
abbrev pub FitsCable : Version → Cable → Type 0
FitsCable v c = AreEnds (c.start, c.end) × AreZones v c.zones

from_cables : (v : Version) (low : ℕ) (cables : List Cable) → Each (FitsCable v) cables
    → ListPasses (λ low. IsValue (zone_list_spelling v low)) (λ l. l.start + 1) low (lists_from low cables)
from_cables v low [] fits = tt
from_cables v low (c ∷ cs) fits =
    by (nat_lt c.start low) refl (from_cables v low cs fits.1) (from_cables v (c.start + 1) cs fits.1)
  where
    by : (below : Bool) → nat_lt c.start low ≡ below
        → ListPasses (λ low. IsValue (zone_list_spelling v low)) (λ l. l.start + 1) low (lists_from low cs)
        → ListPasses (λ low. IsValue (zone_list_spelling v low)) (λ l. l.start + 1) (c.start + 1) (lists_from (c.start + 1) cs)
        → ListPasses (λ low. IsValue (zone_list_spelling v low)) (λ l. l.start + 1) low (lists_from low (c ∷ cs))
    by true is same next = rw is same
    by false is same next = rw is (
      zone_list_is v (c.start, c.end) true c.zones fits.0.0 fits.0.1 low
          (let above = ltb-false c.start low is in omega (arith, above)),
      next,
    )

from_few : (low : ℕ) (cables : List Cable) → length (lists_from low cables) ≤ length cables
from_few low [] = omega arith
from_few low (c ∷ cs) = by (nat_lt c.start low) refl (from_few low cs) (from_few (c.start + 1) cs)
  where
    by : (below : Bool) → nat_lt c.start low ≡ below → length (lists_from low cs) ≤ length cs
        → length (lists_from (c.start + 1) cs) ≤ length cs → length (lists_from low (c ∷ cs)) ≤ length (c ∷ cs)
    by true is same next = rw is (omega (arith, same))
    by false is same next = rw is (omega (arith, next))

-- Zone lists, given or those of the cables, are within the limit and pass.
abbrev AreLists : Version → List ZoneList → Type 0
AreLists v ls = (length ls ≤ max_lists) × ListPasses (λ low. IsValue (zone_list_spelling v low)) (λ l. l.start + 1) 0 ls

given_lists : (v : Version) (d : Data) (ls : List ZoneList) → listed v d ≡ Some ls → AreLists v ls
given_lists v d ls e =
    let ds = given_is (list d) _ ls e in
    let g = given_is (few max_lists (λ k. list_of v) ds.0) _ ls ds.2 in
    rising_is (zone_list_spelling v) (λ l. l.start + 1) max_lists g.0 ls
    (few_hold max_lists (λ k. list_of v) (Rises (zone_list_spelling v) (λ l. l.start + 1)) (λ k. list_is v) ds.0 g.0 g.1) g.2

pub lists_are : (v : Version) (cables : List Cable) (ms : Members) (ls : List ZoneList) → Each (FitsCable v) cables
    → length cables ≤ max_lists → lists v cables ms ≡ Some ls → AreLists v ls
lists_are v cables ms ls fits few e = by (get_member (codes "list") ms) refl
  where
    by : (found : Option Data) → get_member (codes "list") ms ≡ found → AreLists v ls
    by None is =
        let same = some_is (rw is at e) in
        let count = from_few 0 cables in
        subst (AreLists v) same (omega (arith, count, few), from_cables v 0 cables fits)
    by (Some d) is = given_lists v d ls (rw is at e)

-- ---- Names

name_is : (d : Data) (n : NodeName) → name_of d ≡ Some n → Rises name_spelling (λ n. n.enumerator + 1) n
name_is d n e =
    let ms = given_is (entry (codes "object" ∷ codes "type" ∷ codes "socket" ∷ codes "enumerator" ∷ []) d) _ n e in
    let o = given_is (at (codes "object") object ms.0) _ n ms.2 in
    let k = given_is (at (codes "type") object ms.0) _ n o.2 in
    let s = given_is (at (codes "socket") (number 1 254) ms.0) _ n k.2 in
    let number_of = given_is (at (codes "enumerator") (number 1 255) ms.0) _ n s.2 in
    let socket = at_is (codes "socket") (number 1 254) _ (number_is 1 254) ms.0 s.0 s.1 in
    let enumerator = at_is (codes "enumerator") (number 1 255) _ (number_is 1 255) ms.0 number_of.0 number_of.1 in
    subst (Rises name_spelling (λ n. n.enumerator + 1)) (some_is number_of.2) (λ low lt.
    name_value low (record { socket = s.0; enumerator = number_of.0; object = o.0; kind = k.0 })
    (record { socket = omega (arith, socket); enumerator = omega (arith, enumerator) }) socket.0 socket.1 enumerator.0
    (omega (arith, lt)) (at_is (codes "object") object IsEntity object_is ms.0 o.0 o.1)
    (at_is (codes "type") object IsEntity object_is ms.0 k.0 k.1))

pub names_are : (ms : Members) (ns : List NodeName) → names ms ≡ Some ns
    → (length ns ≤ max_names) × ListPasses (λ low. IsValue (name_spelling low)) (λ n. n.enumerator + 1) 0 ns
names_are ms ns e =
    let g = given_is (few_at max_names (codes "name") (λ k. name_of) ms) _ ns e in
    rising_is name_spelling (λ n. n.enumerator + 1) max_names g.0 ns
    (few_at_hold max_names (codes "name") (λ k. name_of) (Rises name_spelling (λ n. n.enumerator + 1)) (λ k. name_is) ms g.0 g.1) g.2
