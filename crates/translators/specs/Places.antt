-- How the mapping of a call is found. Callers see nothing of it.
use Rattle.std.specs.Prelude.{◌≡◌, ℕ, ◌==◌, ◌&&◌, nat_lt, Bool, false, if◌then◌else◌, List, [], length, slice_get, Option, Some, None, refl}
use Rattle.std.specs.Coded.{Coded, code_by, coded×, coded_list}
use Rattle.std.specs.Str.{bytes_eq}
use Rattle.std.specs.HashMap.{HashMap, get}
use Rattle.translators.specs.declared.places.Key.{Key}
use Rattle.translators.specs.declared.rule.Rule.{Rule}
use Rattle.translators.specs.Mappings.{Mapped, Call, has_host, key_of, place_of, with_use}

abbrev pub is_same_key : Key → Key → Bool
is_same_key a b = bytes_eq a.host b.host && ((a.port == b.port) && bytes_eq a.to b.to)

-- the place of a call's mapping, where it has one
abbrev pub place_if : Rule → List Mapped → Call → Option ℕ
place_if rule ms call =
    if nat_lt (place_of rule ms call) (length ms) then Some (place_of rule ms call) else None

-- Each call of an IPv4 place finds its mapping.
pub record IsIndex {S : Type 0} (rule : Rule) (places : HashMap Key ℕ S) (ms : List Mapped) : Type 0
  where
    pub finds : (call : Call) → call.inner.v6 ≡ false
        → get is_same_key places (key_of rule call) ≡ place_if rule ms call

-- ---- the mappings and their rule, as contracts of the crate see them

pub record MappingList : Type 0 where
  pub rule : Rule
  pub list : List Mapped

abbrev pub mapping_list_code : Coded Rule → Coded Mapped → Coded MappingList
mapping_list_code rule mapped =
    code_by (Rule × List Mapped) (coded× rule (coded_list mapped)) (λ m. (m.rule, m.list))
    (λ p. record { rule = p.0; list = p.1 }) (λ _. refl)

abbrev pub no_mappings : Rule → MappingList
no_mappings rule = record { rule = rule; list = [] }

abbrev pub after_call : MappingList → Call → MappingList
after_call m call = record { rule = m.rule; list = with_use m.rule m.list call }

-- ---- what a call made

-- A call made its mapping.
pub record MadeMapping (before : MappingList) (call : Call) (after : MappingList) : Type 0 where
  pub v4 : call.inner.v6 ≡ false
  pub none : slice_get before.list (place_of before.rule before.list call) ≡ None
  pub used : after ≡ after_call before call

-- A call used its mapping towards one more host.
pub record MadeHost (before : MappingList) (call : Call) (after : MappingList) : Type 0 where
  pub v4 : call.inner.v6 ≡ false
  pub mapped : Mapped
  pub there : slice_get before.list (place_of before.rule before.list call) ≡ Some mapped
  pub unused : has_host call.to.host mapped.towards ≡ false
  pub used : after ≡ after_call before call
