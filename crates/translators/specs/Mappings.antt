-- The mappings that a list of outward calls makes.
use Rattle.std.specs.Prelude.{ℕ, suc, ◌&&◌, Bool, false, if◌then◌else◌, List, [], ◌∷◌, ◌++◌, replicate, refl}
use Rattle.std.specs.List.{list_any}
use Rattle.std.specs.Str.{bytes_eq}
use Rattle.std.specs.Coded.{Coded, code_by, coded×, coded_ℕ, coded_list}
use Rattle.rtmfp_forms.specs.Address.{AddressParts, is_same_place}
use Rattle.translators.specs.declared.places.Key.{Key}
use Rattle.translators.specs.declared.rule.Rule.{Rule}
use Rattle.translators.specs.declared.rule.Rule.TheVariants.{Independent, Dependent}

-- a mapping: its inner place, and the hosts that it was used towards, in the order of first call
pub record Mapped : Type 0 where
  pub inner : AddressParts
  pub towards : List (List ℕ)

abbrev pub mapped_code : Coded AddressParts → Coded Mapped
mapped_code address =
    code_by (AddressParts × List (List ℕ)) (coded× address (coded_list (coded_list coded_ℕ)))
    (λ m. (m.inner, m.towards)) (λ p. record { inner = p.0; towards = p.1 }) (λ _. refl)

-- an outward call: from where, and to where
pub record Call : Type 0 where
  pub inner : AddressParts
  pub to : AddressParts

abbrev pub from_to : AddressParts → AddressParts → Call
from_to inner to = record { inner = inner; to = to }

abbrev pub has_host : List ℕ → List (List ℕ) → Bool
has_host host hosts = list_any (bytes_eq host) hosts

-- The mapping of a call is that of its inner place. Where mappings are dependent, it is that of the
-- inner place and the other host.
abbrev pub is_of : Rule → Mapped → Call → Bool
is_of Independent m call = is_same_place m.inner call.inner
is_of Dependent m call = is_same_place m.inner call.inner && has_host call.to.host m.towards

-- an IPv4 place of unknown origin
abbrev pub plain : AddressParts → AddressParts
plain a = record { v6 = false; origin = 0; host = a.host; port = a.port }

abbrev pub new_for : Call → Mapped
new_for call = record { inner = plain call.inner; towards = call.to.host ∷ [] }

-- the same mapping, used towards one more host
abbrev pub used_by : Mapped → Call → Mapped
used_by m call = record {
  inner = m.inner;
  towards = if has_host call.to.host m.towards then m.towards else m.towards ++ call.to.host ∷ [];
}

-- A call uses its mapping. Where it has none yet, it makes one, which is the last.
abbrev pub with_use : Rule → List Mapped → Call → List Mapped
with_use rule [] call = new_for call ∷ []
with_use rule (m ∷ ms) call =
    if is_of rule m call then used_by m call ∷ ms else m ∷ with_use rule ms call

-- the mappings that these calls make, the newest of which stands first
abbrev pub map_of : Rule → List Call → List Mapped
map_of rule [] = []
map_of rule (call ∷ before) = with_use rule (map_of rule before) call

-- how many mappings stand before that of a call; all of them, where it has none yet
abbrev pub place_of : Rule → List Mapped → Call → ℕ
place_of rule [] call = 0
place_of rule (m ∷ ms) call = if is_of rule m call then 0 else suc (place_of rule ms call)

-- What the mapping of a call is found by.
abbrev pub host_for : Rule → Call → List ℕ
host_for Independent call = replicate 16 0
host_for Dependent call = call.to.host

abbrev pub key_of : Rule → Call → Key
key_of rule call = record {
  host = call.inner.host;
  port = call.inner.port;
  to = host_for rule call;
}
