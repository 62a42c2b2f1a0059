-- The results of checks of parts with lists.
use Rattle.std.proofs.Common.{◌≡◌, ℕ, ◌+◌, ◌^◌, ◌<◌, ◌≤◌, Bool, true, false, ltb, List, [], ◌∷◌, length, Some, None, Result}
use Rattle.std.proofs.Common.{Ok, Err, refl, ap, subst, arith, inl, inr}
use Rattle.std.specs.List.{list_all}
use Rattle.std.proofs.lemmas.Bool.{le-ltb, lt-ltb}
use Rattle.std.specs.Prelude.{◌⊎◌}
use Rattle.at_base.specs.declared.error.Cause.TheVariants.{Index, Order, Value}
use Rattle.at_base.specs.declared.address.Addr.{Addr}
use Rattle.at_base.specs.Grammar.{Grammar, Field, done, field, one, part}
use Rattle.at_base.specs.FirstFault.{field_len}
use Rattle.at_base.specs.Spelling.{bytes_of, IsValue, Passes}
use Rattle.table_image.specs.Flaws.{Wrong, Here}
use Rattle.table_image.specs.Tests.{enumerator}
use Rattle.at_base.specs.Text.{is_entity}
use Rattle.at_base.specs.Limits.{max_ports, max_rows, max_lists, max_names}
use Rattle.table_image.specs.Spelling.{counted, text_spelling, zone_spelling, zones_spelling, address_spelling, port_spelling, row_spelling}
use Rattle.table_image.specs.Spelling.{mappings_spelling}
use Rattle.table_image.specs.Versions.{mapping_limit}
use Rattle.table_image.specs.declared.mapping.Mapping.{Mapping}
use Rattle.table_image.specs.declared.port.Port.{Port}
use Rattle.table_image.specs.declared.version.Version.{Version}
use Rattle.table_image.specs.declared.version.Version.TheVariants.{V1}
use Rattle.table_image.specs.Spelling.{zone_list_spelling, flag_number, flag_of, cable_spelling, router_spelling, own_router_spelling}
use Rattle.table_image.specs.Spelling.{name_spelling, node_spelling}
use Rattle.table_image.specs.Checking.{Checks}
use Rattle.table_image.specs.declared.flaw.Flaw.{Flaw}
use Rattle.table_image.specs.declared.cable.Cable.{Cable}
use Rattle.table_image.specs.declared.zone_list.ZoneList.{ZoneList}
use Rattle.table_image.specs.declared.router.Router.{Router}
use Rattle.table_image.specs.declared.node.NodeName.{NodeName}
use Rattle.table_image.specs.declared.node.Node.{Node}
use Rattle.table_image.proofs.Checked.{is_within, too_low, too_high, rises, falls, is_below, not_below, address_value, after_part, in_part}
use Rattle.table_image.proofs.Checked.{FitsPort, after_field, at_end, last_part}

-- the facts about the result of a check
pub record Says {A : Type 0} (g : Grammar Wrong true A) (y : A) (at : ℕ) (r : Result ℕ Flaw) : Type 0 where
  pub it : Checks g y at r

pub says_field : {A V : Type 0} (fd : Field Wrong V) (get : A → V) (after : V → Grammar Wrong true A) (y : A) (at : ℕ) (r : Result ℕ Flaw)
    → Passes fd (get y) → Says (after (get y)) y (at + field_len fd) r
    → Says (field fd get after) y at r
says_field fd get after y at r p k = record { it = after_field fd get after y at r p k.it }

pub says_part : {A B : Type 0} (g : Grammar Wrong true B) (get : A → B) (after : B
    → Grammar Wrong true A) (y : A) (at middle : ℕ) (r : Result ℕ Flaw) → Checks g (get y) at (Ok middle) → Says (after
    (get y)) y middle r
    → Says (part g get after) y at r
says_part g get after y at middle r h k = record { it = after_part g get after y at middle r h k.it }

pub says_in_part : {A B : Type 0} (g : Grammar Wrong true B) (get : A → B) (after : B → Grammar Wrong true A) (y : A) (at : ℕ) (m : Flaw)
    → Checks g (get y) at (Err m) → Says (part g get after) y at (Err m)
says_in_part g get after y at m h = record { it = in_part g get after y at m h }

pub says_last : {A B : Type 0} (g : Grammar Wrong true B) (get : A → B) (make : B → A) (y : A) (at : ℕ) (r : Result ℕ Flaw) → make (get y) ≡ y
    → Checks g (get y) at r → Says (part g get (λ v. done (make v))) y at r
says_last g get make y at r e h = record { it = last_part g get make y at r e h }

moved : {A : Type 0} (g : Grammar Wrong true A) (y : A) (a b : ℕ) (r : Result ℕ Flaw) → a ≡ b → Checks g y a r → Checks g y b r
moved g y a b r e = subst (λ (n : ℕ). Checks g y n r) e

cable_says : (version : Version) (c : Cable) (at : ℕ) (r : Result ℕ Flaw) → c.start < 2 ^ 16 → c.end < 2 ^ 16
    → Checks (zones_spelling version) c.zones (at + 4) r → Says (cable_spelling version) c at r
unfolding cable_spelling
cable_says version c at r start end h =
    says_field _ _ _ c at r (start, refl) (says_field _ _ _ c (at + 2) r (end, refl)
    (says_last (zones_spelling version) (λ c. c.zones) (λ names. record { start = c.start; end = c.end; zones = names }) c (at + 2 + 2) r refl
    (moved (zones_spelling version) c.zones (at + 4) (at + 2 + 2) r (omega arith) h)))

pub cable_checks : (version : Version) (c : Cable) (at : ℕ) (r : Result ℕ Flaw) → c.start < 2 ^ 16 → c.end < 2 ^ 16
    → Checks (zones_spelling version) c.zones (at + 4) r → Checks (cable_spelling version) c at r
cable_checks version c at r start end h = (cable_says version c at r start end h).it

-- ---- mappings and ports

length-address : (a : Addr) → length (bytes_of address_spelling a) ≡ 3
unfolding address_spelling
length-address a = refl

-- in version 1 nothing is written for mappings
pub none_checks : (mappings : List Mapping) (at : ℕ) → length mappings ≤ mapping_limit V1 → Checks (mappings_spelling V1) mappings at (Ok at)
unfolding mappings_spelling
none_checks [] at few = at_end [] [] at refl
none_checks (m ∷ mappings) at few = absurd (omega arith)

port_says : (version : Version) (cables : ℕ) (p : Port) (at : ℕ) (r : Result ℕ Flaw) → FitsPort p → p.cable < cables
    → Checks (mappings_spelling version) p.mappings (at + 10) r → Says (port_spelling version cables) p at r
unfolding port_spelling
port_says version cables p at r f lt h =
    let size = length-address p.address in
    let where_mappings : at + 10 ≡ at + 1 + 3 + 6 = omega arith in
    says_field _ _ _ p at r (f.cable, is_below cables p.cable lt) (says_part _ _ _ p (at + 1) (at + 1 + 3) r
    (address_value p.address f.net f.node, omega arith)
    (says_field _ _ _ p (at + 1 + 3) r (f.hardware, refl)
    (says_last (mappings_spelling version) (λ p. p.mappings)
    (λ mappings. record { cable = p.cable; address = p.address; hardware = p.hardware; mappings = mappings }) p (at + 1 + 3 + 6) r refl
    (moved (mappings_spelling version) p.mappings (at + 10) (at + 1 + 3 + 6) r where_mappings h))))

pub port_checks : (version : Version) (cables : ℕ) (p : Port) (at : ℕ) (r : Result ℕ Flaw) → FitsPort p → p.cable < cables
    → Checks (mappings_spelling version) p.mappings (at + 10) r → Checks (port_spelling version cables) p at r
port_checks version cables p at r f lt h = (port_says version cables p at r f lt h).it

flag_small : (b : Bool) → flag_number b ≤ 1
flag_small true = omega arith
flag_small false = omega arith

flag_back : (b : Bool) → flag_of (flag_number b) ≡ b
flag_back true = refl
flag_back false = refl

list_says : (version : Version) (low : ℕ) (l : ZoneList) (at : ℕ) (r : Result ℕ Flaw) → l.start < 2 ^ 16 → l.end < 2 ^ 16 → low ≤ l.start
    → Checks (zones_spelling version) l.zones (at + 5) r → Says (zone_list_spelling version low) l at r
unfolding zone_list_spelling
list_says version low l at r start end rise h =
    let small = flag_small l.complete in
    says_field _ _ _ l at r (start, rises low l.start rise) (says_field _ _ _ l (at + 2) r (end, refl)
    (says_field _ _ _ l (at + 2 + 2) r (omega arith, is_within 0 1 Value (flag_number l.complete) (omega arith) small)
    (says_last (zones_spelling version) (λ l. l.zones) (λ names. record {
      start = l.start;
      end = l.end;
      complete = flag_of
          (flag_number l.complete);
      zones = names;
    }) l (at + 2 + 2 + 1) r
    (ap (λ (b : Bool). record { start = l.start; end = l.end; complete = b; zones = l.zones }) (flag_back l.complete))
    (moved (zones_spelling version) l.zones (at + 5) (at + 2 + 2 + 1) r (omega arith) h))))

pub list_checks : (version : Version) (low : ℕ) (l : ZoneList) (at : ℕ) (r : Result ℕ Flaw) → l.start < 2 ^ 16 → l.end < 2 ^ 16
    → low ≤ l.start → Checks (zones_spelling version) l.zones (at + 5) r → Checks (zone_list_spelling version low) l at r
list_checks version low l at r start end rise h = (list_says version low l at r start end rise h).it

pub list_falls : (version : Version) (low : ℕ) (l : ZoneList) (at : ℕ) → l.start < 2 ^ 16 → l.start < low
    → Checks (zone_list_spelling version low) l at (Err (record { place = at; cause = Order }))
unfolding zone_list_spelling
list_falls version low l at start lt = (at, Here Order, inl (start, falls low l.start lt, refl), refl)

-- ---- names

enumerates : (low n : ℕ) → 1 ≤ n → low ≤ n → enumerator low n ≡ None
enumerates low n some le = let a : ltb n 1 ≡ false = le-ltb _ _ some in rw a (rises low n le)

no_enumerator : (low n : ℕ) → n < 1 → enumerator low n ≡ Some (Here Value)
no_enumerator low n none = let a : ltb n 1 ≡ true = lt-ltb _ _ none in rw a refl

falling : (low n : ℕ) → 1 ≤ n → n < low → enumerator low n ≡ Some (Here Order)
falling low n some lt = let a : ltb n 1 ≡ false = le-ltb _ _ some in rw a (falls low n lt)

-- the numbers of a name fit its fields
pub record FitsName (n : NodeName) : Type 0 where
  pub socket : n.socket < 2 ^ 8
  pub enumerator : n.enumerator < 2 ^ 8

pub name_socket : (low : ℕ) (n : NodeName) (at : ℕ) → n.socket < 2 ^ 8 → (n.socket < 1) ⊎ ((1 ≤ n.socket) × (254 < n.socket)) → Checks
    (name_spelling low) n at (Err (record { place = at; cause = Value }))
unfolding name_spelling
name_socket low n at f (inl none) = (at, Here Value, inl (f, too_low 1 254 Value n.socket none, refl), refl)
name_socket low n at f (inr h) = (at, Here Value, inl (f, too_high 1 254 Value n.socket h.0 h.1, refl), refl)

pub name_zero : (low : ℕ) (n : NodeName) (at : ℕ) → FitsName n → 1 ≤ n.socket → n.socket ≤ 254 → n.enumerator < 1 → Checks
    (name_spelling low) n at (Err (record { place = at + 1; cause = Value }))
unfolding name_spelling
name_zero low n at f some few none = (
  at + 1,
  Here Value,
  inr (
    (f.socket, is_within 1 254 Value n.socket some few),
    inl
        (f.enumerator, no_enumerator low n.enumerator none, refl),
  ),
  refl,
)

pub name_falls : (low : ℕ) (n : NodeName) (at : ℕ) → FitsName n → 1 ≤ n.socket → n.socket ≤ 254 → 1 ≤ n.enumerator → n.enumerator < low
    → Checks (name_spelling low) n at (Err (record { place = at + 1; cause = Order }))
unfolding name_spelling
name_falls low n at f some few first lt = (
  at + 1,
  Here Order,
  inr (
    (f.socket, is_within 1 254 Value n.socket some few),
    inl
        (f.enumerator, falling low n.enumerator first lt, refl),
  ),
  refl,
)

name_says_object : (low : ℕ) (n : NodeName) (at : ℕ) (m : Flaw) → FitsName n → 1 ≤ n.socket → n.socket ≤ 254 → 1 ≤ n.enumerator
    → low ≤ n.enumerator → Checks (text_spelling is_entity) n.object (at + 2) (Err m) → Says (name_spelling low) n at (Err m)
unfolding name_spelling
name_says_object low n at m f some few first le h =
    says_field _ _ _ n at (Err m) (f.socket, is_within 1 254 Value n.socket some few) (says_field _ _ _ n (at + 1) (Err m)
    (f.enumerator, enumerates low n.enumerator first le)
    (says_in_part _ _ _ n (at + 1 + 1) m (moved (text_spelling is_entity) n.object (at + 2) (at + 1 + 1) (Err m) (omega arith) h)))

pub name_object : (low : ℕ) (n : NodeName) (at : ℕ) (m : Flaw) → FitsName n → 1 ≤ n.socket → n.socket ≤ 254 → 1 ≤ n.enumerator
    → low ≤ n.enumerator → Checks (text_spelling is_entity) n.object (at + 2) (Err m) → Checks (name_spelling low) n at (Err m)
name_object low n at m f some few first le h = (name_says_object low n at m f some few first le h).it

name_says_kind : (low : ℕ) (n : NodeName) (at middle : ℕ) (r : Result ℕ Flaw) → FitsName n → 1 ≤ n.socket → n.socket ≤ 254
    → 1 ≤ n.enumerator → low ≤ n.enumerator → Checks (text_spelling is_entity) n.object (at + 2) (Ok middle)
    → Checks (text_spelling is_entity) n.kind middle r → Says (name_spelling low) n at r
unfolding name_spelling
name_says_kind low n at middle r f some few first le h k =
    says_field _ _ _ n at r (f.socket, is_within 1 254 Value n.socket some few) (says_field _ _ _ n (at + 1) r
    (f.enumerator, enumerates low n.enumerator first le)
    (says_part _ _ _ n (at + 1 + 1) middle r (moved (text_spelling is_entity) n.object (at + 2) (at + 1 + 1) (Ok middle) (omega arith) h)
    (says_last (text_spelling is_entity) (λ n. n.kind)
    (λ kind. record { socket = n.socket; enumerator = n.enumerator; object = n.object; kind = kind }) n middle r refl k)))

pub name_kind : (low : ℕ) (n : NodeName) (at middle : ℕ) (r : Result ℕ Flaw) → FitsName n → 1 ≤ n.socket → n.socket ≤ 254
    → 1 ≤ n.enumerator → low ≤ n.enumerator → Checks (text_spelling is_entity) n.object (at + 2) (Ok middle)
    → Checks (text_spelling is_entity) n.kind middle r → Checks (name_spelling low) n at r
name_kind low n at middle r f some few first le h k = (name_says_kind low n at middle r f some few first le h k).it

-- ---- routers

router_says_ports : (version : Version) (cables : ℕ) (x : Router) (at : ℕ) (m : Flaw)
    → Checks (counted one max_ports (λ low. port_spelling version cables) (λ p. 0)) x.ports at (Err m) → Says (router_spelling version cables) x at (Err m)
unfolding router_spelling
router_says_ports version cables x at m h = says_in_part _ _ _ x at m h

pub router_ports : (version : Version) (cables : ℕ) (x : Router) (at : ℕ) (m : Flaw)
    → Checks (counted one max_ports (λ low. port_spelling version cables) (λ p. 0)) x.ports at (Err m) → Checks (router_spelling version cables) x at (Err m)
router_ports version cables x at m h = (router_says_ports version cables x at m h).it

router_says_rows : (version : Version) (cables : ℕ) (x : Router) (at middle : ℕ) (m : Flaw)
    → Checks (counted one max_ports (λ low. port_spelling version cables) (λ p. 0)) x.ports at (Ok middle)
    → Checks (counted one max_rows (row_spelling (length x.ports)) (λ r. r.start + 1)) x.rows middle (Err m) → Says
    (router_spelling version cables) x at (Err m)
unfolding router_spelling
router_says_rows version cables x at middle m h k = says_part _ _ _ x at middle (Err m) h (says_in_part _ _ _ x middle m k)

pub router_rows : (version : Version) (cables : ℕ) (x : Router) (at middle : ℕ) (m : Flaw)
    → Checks (counted one max_ports (λ low. port_spelling version cables) (λ p. 0)) x.ports at (Ok middle)
    → Checks (counted one max_rows (row_spelling (length x.ports)) (λ r. r.start + 1)) x.rows middle (Err m) → Checks
    (router_spelling version cables) x at (Err m)
router_rows version cables x at middle m h k = (router_says_rows version cables x at middle m h k).it

router_says : (version : Version) (cables : ℕ) (x : Router) (at a b : ℕ) (r : Result ℕ Flaw)
    → Checks (counted one max_ports (λ low. port_spelling version cables) (λ p. 0)) x.ports at (Ok a)
    → Checks (counted one max_rows (row_spelling (length x.ports)) (λ r. r.start + 1)) x.rows a (Ok b) → Checks
    (counted one max_lists (zone_list_spelling version) (λ l. l.start + 1)) x.lists b r → Says (router_spelling version cables) x at r
unfolding router_spelling
router_says version cables x at a b r h k j =
    says_part _ _ _ x at a r h (says_part _ _ _ x a b r k (says_last (counted one max_lists (zone_list_spelling version) (λ l. l.start + 1))
    (λ x. x.lists) (λ lists. record { ports = x.ports; rows = x.rows; lists = lists }) x b r refl j))

pub router_checks : (version : Version) (cables : ℕ) (x : Router) (at a b : ℕ) (r : Result ℕ Flaw)
    → Checks (counted one max_ports (λ low. port_spelling version cables) (λ p. 0)) x.ports at (Ok a)
    → Checks (counted one max_rows (row_spelling (length x.ports)) (λ r. r.start + 1)) x.rows a (Ok b) → Checks
    (counted one max_lists (zone_list_spelling version) (λ l. l.start + 1)) x.lists b r → Checks (router_spelling version cables) x at r
router_checks version cables x at a b r h k j = (router_says version cables x at a b r h k j).it

-- ---- nodes

-- the numbers of a node fit its fields
pub record FitsNode (n : Node) : Type 0 where
  pub cable : n.cable < 2 ^ 8
  pub net : n.address.net < 2 ^ 16
  pub node : n.address.node < 2 ^ 8
  pub hardware : length n.hardware.0 ≡ 6

pub node_misses : (version : Version) (cables : ℕ) (n : Node) (at : ℕ) → FitsNode n → cables ≤ n.cable
    → Checks (node_spelling version cables) n at (Err (record { place = at; cause = Index }))
unfolding node_spelling
node_misses version cables n at f le = (at, Here Index, inl (f.cable, not_below cables n.cable le, refl), refl)

-- the format of a node after its router
abbrev after_router : Version → Node → Grammar Wrong true Node
after_router version n =
    part (counted one max_names name_spelling (λ n. n.enumerator + 1)) (λ n. n.names) (λ names.
    part (mappings_spelling version) (λ n. n.mappings) (λ mappings.
    done (record {
      cable = n.cable;
      address = n.address;
      hardware = n.hardware;
      zone = n.zone;
      router = n.router;
      names = names;
      mappings = mappings;
    })))

-- a node whose fields up to its router pass
node_says : (version : Version) (cables : ℕ) (n : Node) (at a b : ℕ) (r : Result ℕ Flaw) → FitsNode n → n.cable < cables
    → Checks zone_spelling n.zone (at + 10) (Ok a) → Checks own_router_spelling n.router a (Ok b)
    → Says (after_router version n) n b r → Says (node_spelling version cables) n at r
unfolding node_spelling
node_says version cables n at a b r f lt h k j =
    let size = length-address n.address in
    let where_zone : at + 10 ≡ at + 1 + 3 + 6 = omega arith in
    says_field _ _ _ n at r (f.cable, is_below cables n.cable lt) (says_part _ _ _ n (at + 1) (at + 1 + 3) r
    (address_value n.address f.net f.node, omega arith)
    (says_field _ _ _ n (at + 1 + 3) r (f.hardware, refl) (says_part _ _ _ n (at + 1 + 3 + 6) a r (moved zone_spelling n.zone (at + 10)
    (at + 1 + 3 + 6) (Ok a) where_zone h)
    (says_part _ _ _ n a b r k j))))

pub node_names : (version : Version) (cables : ℕ) (n : Node) (at a b : ℕ) (m : Flaw) → FitsNode n → n.cable < cables
    → Checks zone_spelling n.zone (at + 10) (Ok a) → Checks own_router_spelling n.router a (Ok b)
    → Checks (counted one max_names name_spelling (λ n. n.enumerator + 1)) n.names b (Err m) → Checks (node_spelling version cables) n at
    (Err m)
node_names version cables n at a b m f lt h k j =
    (node_says version cables n at a b (Err m) f lt h k (says_in_part _ _ _ n b m j)).it

pub node_checks : (version : Version) (cables : ℕ) (n : Node) (at a b d : ℕ) (r : Result ℕ Flaw) → FitsNode n → n.cable < cables
    → Checks zone_spelling n.zone (at + 10) (Ok a) → Checks own_router_spelling n.router a (Ok b)
    → Checks (counted one max_names name_spelling (λ n. n.enumerator + 1)) n.names b (Ok d)
    → Checks (mappings_spelling version) n.mappings d r → Checks (node_spelling version cables) n at r
node_checks version cables n at a b d r f lt h k j l =
    (node_says version cables n at a b r f lt h k (says_part _ _ _ n b d r j (says_last (mappings_spelling version) (λ n. n.mappings)
    (λ mappings. record {
      cable = n.cable;
      address = n.address;
      hardware = n.hardware;
      zone = n.zone;
      router = n.router;
      names = n.names;
      mappings = mappings;
    }) n d r refl l))).it

-- ---- short lists

pub all_true : {A : Type 0} (xs : List A) → list_all (λ x. true) xs ≡ true
all_true [] = refl
all_true (x ∷ xs) = all_true xs

-- ---- a node's router

pub none_size : 1 ≡ length (bytes_of own_router_spelling None)
unfolding own_router_spelling
none_size = refl

pub none_value : IsValue own_router_spelling None
unfolding own_router_spelling
none_value = ((omega arith, is_within 0 1 Value 0 (omega arith) (omega arith)), refl)

pub some_size : (a : Addr) → 4 ≡ length (bytes_of own_router_spelling (Some a))
unfolding own_router_spelling address_spelling
some_size a = refl

pub some_value : (a : Addr) → a.net < 2 ^ 16 → a.node < 2 ^ 8 → IsValue own_router_spelling (Some a)
unfolding own_router_spelling
some_value a net node = ((omega arith, is_within 0 1 Value 1 (omega arith) (omega arith)), (address_value a net node, refl))
