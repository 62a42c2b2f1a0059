-- The extents of formats: a value has at most a number of bytes, and a fault is reported at most that many bytes from
-- the start. So the offset of a flaw in an image fits into 32 bits.
use Rattle.std.proofs.Common.{◌≡◌, ℕ, zero, suc, ◌+◌, ◌*◌, ◌≤◌, Bool, true, List, [], ◌∷◌, length, Some, None, Result, Ok, Err, ap, subst}
use Rattle.std.proofs.Common.{arith, cond, inl, inr}
use Rattle.std.proofs.lemmas.List.{length-append}
use Rattle.at_base.specs.Grammar.{Grammar, Size, done, field, part, list, Field, number, run, one, two}
use Rattle.at_base.specs.Spelling.{Passes}
use Rattle.at_base.specs.FirstFault.{field_len}
use Rattle.at_base.specs.Reading.{read, field_at, list_at, ◌>>=◌}
use Rattle.at_base.proofs.Fields.{IsBytes, ok, ok_is, bind_ok, bind_err, field_takes, field_fault, length-field_bytes}
use Rattle.std.proofs.Math.Nat.{mul-le-mul_right}
use Rattle.at_base.specs.Text.{is_name, is_entity}
use Rattle.at_base.specs.declared.error.Cause.TheVariants.{Count, Name}
use Rattle.table_image.specs.Tests.{within}
use Rattle.table_image.proofs.Shape.{within_bounds}
use Rattle.at_base.specs.Limits.{max_ports, max_rows, max_lists, max_zones, max_names, max_cables, max_routers, max_nodes, max_mappings}
use Rattle.table_image.specs.Limits.{max_text}
use Rattle.table_image.specs.Counts.{count_len}
use Rattle.table_image.specs.Sizes.{byte_size, counted_size, text_size, zones_size, network_size, address_size, hardware_size}
use Rattle.table_image.specs.Sizes.{mapping_size, mappings_size}
use Rattle.table_image.specs.Sizes.{cable_size, port_size, row_size, zone_list_size, router_size, own_router_size, name_size, node_size}
use Rattle.table_image.specs.Sizes.{head_size, image_size}
use Rattle.table_image.specs.Flaws.{Wrong, Here, Before, fault_of, faults}
use Rattle.table_image.specs.Spelling.{counted, text_spelling, zone_spelling, zones_spelling, address_spelling, cable_spelling}
use Rattle.table_image.specs.Spelling.{mapping_spelling, mappings_spelling, port_spelling, row_spelling, zone_list_spelling, router_spelling, own_router_spelling, after_flag}
use Rattle.table_image.specs.Spelling.{name_spelling, node_spelling, front_spelling, image_spelling}
use Rattle.table_image.specs.Versions.{version_of, zone_limit}
use Rattle.table_image.specs.declared.flaw.Fault.{Fault}
use Rattle.table_image.specs.declared.version.Version.{Version}
use Rattle.table_image.specs.declared.version.Version.TheVariants.{V1, V2}

-- reading takes at most n bytes, and reports a fault at most n bytes from the start
pub record Within {A : Type 0} (reading : List ℕ → Result (A × List ℕ) Fault) (n : ℕ) : Type 0 where
  pub ok_within : (bytes : List ℕ) (x : A × List ℕ) → IsBytes bytes → reading bytes ≡ Ok x → (length bytes ≤ length x.1 + n) × IsBytes x.1
  pub err_within : (bytes : List ℕ) (f : Fault) → IsBytes bytes → reading bytes ≡ Err f → length bytes ≤ f.left + n

weaken : {A : Type 0} (reading : List ℕ → Result (A × List ℕ) Fault) (n m : ℕ) → n ≤ m → Within reading n → Within reading m
weaken reading n m le w = record {
  ok_within = λ bytes x fits e. (let h = w.ok_within bytes x fits e in (omega (arith, h.0), h.1));
  err_within = λ bytes f fits e. (let h = w.err_within bytes f fits e in omega (arith, h));
}

placed_left : (left : ℕ) (w : Wrong) → left ≤ (fault_of left w).left
placed_left left (Here cause) = omega arith
placed_left left (Before n cause) = omega arith

field_at_within : {V : Type 0} (fd : Field Wrong V) → Within (field_at faults fd) (field_len fd)
field_at_within {V} fd = record {
  ok_within = λ bytes x fits e. (
      let t = field_takes faults fd bytes x fits e in
      let len = length-field_bytes fd x.0 t.1.0 in
      let parts = ap (λ (b : List ℕ). length b) t.0.parts in
      (omega (arith, len, parts, length-append {A = ℕ}), t.0.rest_fits)
      );
  err_within = λ bytes f fits e. elim (field_fault faults fd bytes f fits e) [
    | inl h ↦ (let l = h.0 in omega (arith, l))
    | inr h ↦ (let reported = ap (λ (g : Fault). g.left) h.6 in let far = placed_left (length bytes) h.2 in omega (arith, reported, far))
  ];
}

-- one reading after another takes at most the sum of bytes
then_within : {A B : Type 0} (reading : List ℕ → Result (A × List ℕ) Fault) (after : A → List ℕ → Result (B × List ℕ) Fault) (n m : ℕ)
    → Within reading n
    → ((bytes : List ℕ) (x : A × List ℕ) → IsBytes bytes → reading bytes ≡ Ok x → Within (after x.0) m) → Within
    (λ bytes. reading bytes >>= λ x. after x.0 x.1) (n + m)
then_within reading after n m w more = record {
  ok_within = λ bytes x fits e. (
      let a = bind_ok (reading bytes) (λ y. after y.0 y.1) x e in
      let first = w.ok_within bytes a.0 fits a.1 in
      let second = (more bytes a.0 fits a.1).ok_within a.0.1 x first.1 a.2 in
      (omega (arith, first.0, second.0), second.1)
      );
  err_within = λ bytes f fits e. elim (bind_err (reading bytes) (λ y. after y.0 y.1) f e) [
    | inl h ↦ (let first = w.err_within bytes f fits h in omega (arith, first))
    | inr a ↦ (
        let first = w.ok_within bytes a.0 fits a.1 in
        let second = (more bytes a.0 fits a.1).err_within a.0.1 f first.1 a.2 in
        omega (arith, first.0, second)
        )
  ];
}

done_within : {A : Type 0} (x : A) → Within (λ bytes. Ok (x, bytes)) 0
done_within {A} x = record {
  ok_within = λ bytes y fits e. (
      let same = ok_is {E = Fault} (x, bytes) y e in
      let rest = ap (λ (z : A × List ℕ). length z.1) same in
      (omega (arith, rest), subst (λ (z : A × List ℕ). IsBytes z.1) same fits)
      );
  err_within = λ bytes f fits e. absurd (let impossible : ok {E = Fault} (x, bytes) ≡ Err f = e in cc);
}

-- a format extends over at most n bytes
pub record Reaches {A : Type 0} (g : Grammar Wrong true A) (n : ℕ) : Type 0 where
  pub within_it : Within (read faults g) n

done_reaches : {A : Type 0} (x : A) → Reaches (done x) 0
done_reaches x = record { within_it = done_within x }

field_reaches : {A V : Type 0} (fd : Field Wrong V) (get : A → V) (after : V → Grammar Wrong true A) (m : ℕ) → ((v : V) → Passes fd v
    → Reaches (after v) m)
    → Reaches (field fd get after) (field_len fd + m)
field_reaches fd get after m more = record {
  within_it =
      then_within (field_at faults fd) (λ v. read faults (after v)) (field_len fd) m (field_at_within fd) (λ bytes x fits e. (more x.0
      (field_takes faults fd bytes x fits e).1).within_it);
}

part_reaches : {A B : Type 0} (g : Grammar Wrong true B) (get : A → B) (after : B → Grammar Wrong true A) (n m : ℕ) → Reaches g n → ((v : B)
    → Reaches (after v) m)
    → Reaches (part g get after) (n + m)
part_reaches g get after n m w more =
    record { within_it = then_within (read faults g) (λ v. read faults (after v)) n m w.within_it (λ bytes x fits e. (more x.0).within_it) }

less_reaches : {A : Type 0} (g : Grammar Wrong true A) (n m : ℕ) → n ≤ m → Reaches g n → Reaches g m
less_reaches g n m le w = record { within_it = weaken (read faults g) n m le w.within_it }

list_within : {B : Type 0} (item : ℕ → List ℕ → Result (B × List ℕ) Fault) (next : B → ℕ) (n : ℕ) → ((low : ℕ) → Within (item low) n)
    → (count low : ℕ) → Within (list_at item next low count) (count * n)
list_within item next n each zero low = weaken (list_at item next low zero) 0 (zero * n) (omega arith) (done_within [])
list_within item next n each (suc count) low =
    let more : (x : _) → Within (λ bytes. list_at item next (next x) count bytes >>= λ xs. Ok (x ∷ xs.0, xs.1)) (count * n) =
    λ x. weaken (λ bytes. list_at item next (next x) count bytes >>= λ xs. Ok (x ∷ xs.0, xs.1)) (count * n + 0) (count * n) (omega arith)
    (then_within (list_at item next (next x) count) (λ xs bytes. Ok (x ∷ xs, bytes)) (count * n) 0 (list_within item next n each count
    (next x)) (λ bytes y fits e. done_within (x ∷ y.0))) in
    weaken (list_at item next low (suc count)) (n + count * n) (suc count * n) (omega arith)
    (then_within (item low) (λ x bytes. list_at item next (next x) count bytes >>= λ xs. Ok (x ∷ xs.0, xs.1)) n (count * n) (each low)
    (λ bytes y fits e. more y.0))

list_reaches : {A B : Type 0} (item : ℕ → Grammar Wrong true B) (next : B → ℕ) (count : ℕ) (get : A → List B) (after : List B
    → Grammar Wrong true A) (n m : ℕ) → ((low : ℕ) → Reaches (item low) n) → ((v : List B) → Reaches (after v) m)
    → Reaches (list item next count get after) (count * n + m)
list_reaches item next count get after n m each more = record {
  within_it = then_within (list_at (λ low. read faults (item low)) next 0 count) (λ v. read faults (after v)) (count * n) m
      (list_within (λ low. read faults (item low)) next n (λ low. (each low).within_it) count 0) (λ bytes x fits e. (more x.0).within_it);
}

-- ---- the parts of an image

counted_reaches : {B : Type 0} (size : Size) (limit n : ℕ) (item : ℕ → Grammar Wrong true B) (next : B → ℕ) → ((low : ℕ) → Reaches (item low) n)
    → Reaches (counted size limit item next) (count_len size + (limit * n + 0))
unfolding counted
counted_reaches size limit n item next each =
    field_reaches (number size (within 0 limit Count)) (λ xs. length xs) (λ count. list item next count (λ xs. xs) (λ xs. done xs))
    (limit * n + 0) (λ count p.
    let few = (within_bounds 0 limit Count count p.1).1 in
    less_reaches (list item next count (λ xs. xs) (λ xs. done xs)) (count * n + 0) (limit * n + 0) (omega (arith, mul-le-mul_right n few))
    (list_reaches item next count (λ xs. xs) (λ xs. done xs) n 0 each (λ xs. done_reaches xs)))

text_reaches : (good : List ℕ → Bool) → Reaches (text_spelling good) text_size
unfolding text_spelling
text_reaches good =
    field_reaches (number one (within 1 max_text Name)) (λ s. length s) _ max_text (λ len p.
    less_reaches _ (len + 0) max_text (let few = (within_bounds 1 max_text Name len p.1).1 in omega (arith, few))
    (field_reaches (run len (λ s. cond (good s) None (Some (Before 1 Name)))) (λ s. s) (λ s. done s) 0 (λ s q. done_reaches s)))

few_zones : (version : Version) → zone_limit version ≤ max_zones
few_zones V1 = omega arith
few_zones V2 = omega arith

zones_reaches : (version : Version) → Reaches (zones_spelling version) zones_size
unfolding zones_spelling
zones_reaches version =
    less_reaches _ (count_len one + (zone_limit version * text_size + 0)) zones_size
    (let few = mul-le-mul_right text_size (few_zones version) in omega (arith, few))
    (counted_reaches one (zone_limit version) text_size (λ low. zone_spelling) (λ name. 0) (λ low. text_reaches is_name))

address_reaches : Reaches address_spelling address_size
unfolding address_spelling
address_reaches = field_reaches _ _ _ byte_size (λ net p. field_reaches _ _ _ 0 (λ node q. done_reaches _))

cable_reaches : (version : Version) → Reaches (cable_spelling version) cable_size
unfolding cable_spelling
cable_reaches version =
    field_reaches _ _ _ (network_size + zones_size) (λ start p. field_reaches _ _ _ zones_size (λ end q.
    part_reaches _ _ _ zones_size 0 (zones_reaches version) (λ names. done_reaches _)))

mapping_reaches : (low : ℕ) → Reaches (mapping_spelling low) mapping_size
unfolding mapping_spelling
mapping_reaches low =
    field_reaches _ _ _ (byte_size + hardware_size) (λ net p. field_reaches _ _ _ hardware_size (λ node q.
    field_reaches _ _ _ 0 (λ h r. done_reaches _)))

mappings_reaches : (version : Version) → Reaches (mappings_spelling version) mappings_size
unfolding mappings_spelling
mappings_reaches V1 = less_reaches _ 0 mappings_size (omega arith) (done_reaches [])
mappings_reaches V2 = counted_reaches two max_mappings mapping_size _ _ (λ low. mapping_reaches low)

port_reaches : (version : Version) (cables : ℕ) → Reaches (port_spelling version cables) port_size
unfolding port_spelling
port_reaches version cables =
    field_reaches _ _ _ (address_size + hardware_size + mappings_size) (λ cable p.
    part_reaches _ _ _ address_size (hardware_size + mappings_size) address_reaches (λ a.
    field_reaches _ _ _ mappings_size (λ h q. part_reaches _ _ _ mappings_size 0 (mappings_reaches version) (λ m. done_reaches _))))

row_reaches : (ports low : ℕ) → Reaches (row_spelling ports low) row_size
unfolding row_spelling
row_reaches ports low =
    field_reaches _ _ _ (network_size + byte_size + byte_size + address_size + byte_size) (λ start p.
    field_reaches _ _ _ (byte_size + byte_size + address_size + byte_size) (λ end q.
    field_reaches _ _ _ (byte_size + address_size + byte_size) (λ distance r. field_reaches _ _ _ (address_size + byte_size) (λ port s.
    part_reaches _ _ _ address_size byte_size address_reaches (λ next. field_reaches _ _ _ 0 (λ state t. done_reaches _))))))

zone_list_reaches : (version : Version) (low : ℕ) → Reaches (zone_list_spelling version low) zone_list_size
unfolding zone_list_spelling
zone_list_reaches version low =
    field_reaches _ _ _ (network_size + byte_size + zones_size) (λ start p. field_reaches _ _ _ (byte_size + zones_size) (λ end q.
    field_reaches _ _ _ zones_size (λ complete r. part_reaches _ _ _ zones_size 0 (zones_reaches version) (λ names. done_reaches _))))

router_reaches : (version : Version) (cables : ℕ) → Reaches (router_spelling version cables) router_size
unfolding router_spelling
router_reaches version cables =
    let rows = counted_size one max_rows row_size in
    let lists = counted_size one max_lists zone_list_size in
    part_reaches _ _ _ (counted_size one max_ports port_size) (rows + lists) (counted_reaches one max_ports port_size _ _
    (λ low. port_reaches version cables)) (λ ports.
    part_reaches _ _ _ rows lists (counted_reaches one max_rows row_size _ _ (λ low. row_reaches (length ports) low)) (λ rows.
    part_reaches _ _ _ lists 0 (counted_reaches one max_lists zone_list_size _ _ (λ low. zone_list_reaches version low))
    (λ lists. done_reaches _)))

after_flag_reaches : (flag : ℕ) → Reaches (after_flag flag) address_size
after_flag_reaches zero = less_reaches (after_flag zero) 0 address_size (omega arith) (done_reaches None)
after_flag_reaches (suc n) = part_reaches _ _ _ address_size 0 address_reaches (λ a. done_reaches _)

own_router_reaches : Reaches own_router_spelling own_router_size
unfolding own_router_spelling
own_router_reaches = field_reaches _ _ _ address_size (λ flag p. after_flag_reaches flag)

name_reaches : (low : ℕ) → Reaches (name_spelling low) name_size
unfolding name_spelling
name_reaches low =
    field_reaches _ _ _ (byte_size + text_size + text_size) (λ socket p. field_reaches _ _ _ (text_size + text_size) (λ number q.
    part_reaches _ _ _ text_size text_size (text_reaches is_entity) (λ object. part_reaches _ _ _ text_size 0 (text_reaches is_entity)
    (λ kind. done_reaches _))))

node_reaches : (version : Version) (cables : ℕ) → Reaches (node_spelling version cables) node_size
unfolding node_spelling
node_reaches version cables =
    let names = counted_size one max_names name_size in
    field_reaches _ _ _ (address_size + hardware_size + text_size + own_router_size + names + mappings_size) (λ cable p.
    part_reaches _ _ _ address_size (hardware_size + text_size + own_router_size + names + mappings_size) address_reaches (λ a.
    field_reaches _ _ _ (text_size + own_router_size + names + mappings_size) (λ h q.
    part_reaches _ _ _ text_size (own_router_size + names + mappings_size) (text_reaches is_name) (λ zone.
    part_reaches _ _ _ own_router_size (names + mappings_size) own_router_reaches (λ r.
    part_reaches _ _ _ names mappings_size (counted_reaches one max_names name_size _ _ (λ low. name_reaches low)) (λ names.
    part_reaches _ _ _ mappings_size 0 (mappings_reaches version) (λ m. done_reaches _)))))))

front_reaches : Reaches front_spelling (head_size + counted_size one max_cables cable_size)
unfolding front_spelling
front_reaches =
    let cables = counted_size one max_cables cable_size in
    field_reaches _ _ _ (byte_size + cables) (λ s p. field_reaches _ _ _ cables (λ v q.
    part_reaches _ _ _ cables 0 (counted_reaches one max_cables cable_size _ _ (λ low. cable_reaches (version_of v)))
    (λ cables. done_reaches _)))

pub image_reaches : Reaches image_spelling image_size
unfolding image_spelling
image_reaches =
    let routers = counted_size one max_routers router_size in
    let nodes = counted_size one max_nodes node_size in
    part_reaches _ _ _ (head_size + counted_size one max_cables cable_size) (routers + nodes) front_reaches (λ front.
    part_reaches _ _ _ routers nodes (counted_reaches one max_routers router_size _ _ (λ low. router_reaches front.0 (length front.1)))
    (λ routers.
    part_reaches _ _ _ nodes 0 (counted_reaches one max_nodes node_size _ _ (λ low. node_reaches front.0 (length front.1)))
    (λ nodes. done_reaches _)))
