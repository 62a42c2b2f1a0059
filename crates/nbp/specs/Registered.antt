-- The names registered for a node's sockets. (Inside AppleTalk, the chapter on NBP; enumerators from 1 and at most 32
-- names are this project's own)
use Rattle.std.specs.Prelude.{ℕ, suc, ◌+◌, ◌<◌, ◌≤◌, Bool, true, not, ◌&&◌, ◌==◌, IsTrue, List, [], ◌∷◌, length, map, filter, nat_le}
use Rattle.std.specs.Prelude.{nat_lt, if◌then◌else◌}
use Rattle.std.specs.List.{All, list_any}
use Rattle.at_base.specs.Text.{IsEntity, is_entity, same_name}
use Rattle.nbp.specs.declared.names.Named.{Named}
use Rattle.nbp.specs.declared.tuple.Tuple.{Tuple}
use Rattle.nbp.specs.Matching.{matches}
use Rattle.at_base.specs.Limits.{max_names}

-- a valid registered name: a socket from 1 to 254, an enumerator from 1, an object and a type
pub record IsNamed (n : Named) : Type 0 where
  pub socket_low : 1 ≤ n.socket
  pub socket_high : n.socket ≤ 254
  pub enumerator : 1 ≤ n.enumerator
  pub object : IsEntity n.object
  pub kind : IsEntity n.kind

-- the enumerators rise strictly, and the first is above low
abbrev pub are_above : ℕ → List Named → Bool
are_above low [] = true
are_above low (n ∷ names) = nat_lt low n.enumerator && are_above n.enumerator names

-- The invariant of a node's names: at most 32, strictly rising by their enumerators, each one valid.
pub record IsNames (names : List Named) : Type 0 where
  pub few : length names ≤ max_names
  pub rising : IsTrue (are_above 0 names)
  pub each : All IsNamed names

-- a name has this object and this type, ignoring case
abbrev pub is_taken : List ℕ → List ℕ → List Named → Bool
is_taken object kind names = list_any (λ n. same_name object n.object && same_name kind n.kind) names

-- the text may be registered as an object or a type: it has at least one byte, no wildcards, and isn't just the equals
-- sign
abbrev pub is_registrable : List ℕ → Bool
is_registrable text = nat_le 1 (length text) && is_entity text

-- a name has this enumerator
abbrev pub has : ℕ → List Named → Bool
has enumerator names = list_any (λ n. n.enumerator == enumerator) names

-- n is the least enumerator from 1 that no name has
pub record IsLeastFree (names : List Named) (n : ℕ) : Type 0 where
  pub some : 1 ≤ n
  pub free : IsTrue (not (has n names))
  pub least : (m : ℕ) → 1 ≤ m → m < n → IsTrue (has m names)

-- the first number, from low on, that no name has; the names rise by enumerator, from low on
abbrev pub free_from : ℕ → List Named → ℕ
free_from low [] = low
free_from low (n ∷ names) = if n.enumerator == low then free_from (low + 1) names else low

-- the names with one more, inserted by enumerator
abbrev pub with_name : Named → List Named → List Named
with_name name [] = name ∷ []
with_name name (n ∷ names) = if nat_lt n.enumerator name.enumerator then n ∷ with_name name names else name ∷ n ∷ names

-- the number of names before the first one whose enumerator isn't below a number
abbrev pub before : ℕ → List Named → ℕ
before enumerator [] = 0
before enumerator (n ∷ names) = if nat_lt n.enumerator enumerator then suc (before enumerator names) else 0

-- the names without the one with an enumerator
abbrev pub without : ℕ → List Named → List Named
without enumerator names = filter (λ n. not (n.enumerator == enumerator)) names

-- the tuple of a name for a reply: its socket and enumerator, without an address and a zone
abbrev pub tuple_of : Named → Tuple
tuple_of n = record {
  at = record { net = 0; node = 0 };
  socket = n.socket;
  enumerator = n.enumerator;
  object = n.object;
  kind = n.kind;
  zone = [];
}

-- the patterns match the name's object and type
abbrev pub is_asked_for : List ℕ → List ℕ → Named → Bool
is_asked_for object kind n = matches object n.object && matches kind n.kind

-- the tuples for the replies to a lookup: the names that both patterns match, by rising enumerator
abbrev pub answers : List ℕ → List ℕ → List Named → List Tuple
answers object kind names = map tuple_of (filter (is_asked_for object kind) names)
