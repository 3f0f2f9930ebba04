-- Translators and the places of ends: what is kept, and what is refused.
use Rattle.std.specs.Prelude.{ℕ, ◌==◌, ◌&&◌, ◌||◌, not, nat_le, Bool, true, false, List, [], ◌∷◌, ◌++◌, length, replicate, slice_set, Option, Some, None, is_none, is_some, refl}
use Rattle.std.specs.Coded.{Coded, code_by, coded×, coded_list}
use Rattle.std.specs.List.{list_any, position}
use Rattle.std.specs.Str.{bytes_eq}
use Rattle.rtmfp_forms.specs.Address.{AddressParts, is_same_place}
use Rattle.translators.specs.Translator.{TranslatorState}
use Rattle.end_places.specs.declared.standing.Standing.{Standing}
use Rattle.end_places.specs.declared.standing.NamedTranslator.{NamedTranslator}

pub record PlacesSeen : Type 0 where
  -- by their numbers, from 0
  pub translators : List NamedTranslator
  pub ends : List Standing

abbrev pub places_code : Coded NamedTranslator → Coded Standing → Coded PlacesSeen
places_code translator standing =
    code_by (List NamedTranslator × List Standing)
    (coded× (coded_list translator) (coded_list standing)) (λ p. (p.translators, p.ends))
    (λ p. record { translators = p.0; ends = p.1 }) (λ _. refl)

abbrev pub no_places : PlacesSeen
no_places = record { translators = []; ends = [] }

-- an address has this IPv4 host
abbrev pub is_on : List ℕ → AddressParts → Bool
is_on host a = not a.v6 && bytes_eq a.host (host ++ replicate 12 0)

abbrev pub has_public_host : AddressParts → NamedTranslator → Bool
has_public_host a named = is_on named.translator.host a

-- the number of the translator whose host an address has
abbrev pub translator_at : PlacesSeen → AddressParts → Option ℕ
translator_at p a = position (has_public_host a) p.translators

-- ---- a new translator

abbrev pub is_called : List ℕ → NamedTranslator → Bool
is_called name named = bytes_eq named.name name

abbrev pub has_host_of : List ℕ → NamedTranslator → Bool
has_host_of host named = bytes_eq named.translator.host host

-- an end stands there without a translator
abbrev pub is_plain_on : List ℕ → Standing → Bool
is_plain_on host s = is_none s.behind && is_on host s.at

-- its name is there, or its first port is 0, or there are 256, or its host is another's
abbrev pub is_bad_translator : PlacesSeen → List ℕ → List ℕ → ℕ → Bool
is_bad_translator p name host first =
    list_any (is_called name) p.translators
    || (first == 0)
    || nat_le 256 (length p.translators)
    || list_any (has_host_of host) p.translators
    || list_any (is_plain_on host) p.ends

abbrev pub with_translator : PlacesSeen → List ℕ → TranslatorState → PlacesSeen
with_translator p name translator = record {
  translators = p.translators ++ record { name = name; translator = translator } ∷ [];
  ends = p.ends;
}

-- ---- a place

-- behind the same translator, or both without one
abbrev pub is_same_side : Option ℕ → Option ℕ → Bool
is_same_side None None = true
is_same_side (Some one) (Some other) = one == other
is_same_side None (Some other) = false
is_same_side (Some one) None = false

-- it is the place where an end stands
abbrev pub stands_at : AddressParts → Option ℕ → Standing → Bool
stands_at at behind s = is_same_side s.behind behind && is_same_place s.at at

-- another end stands there
abbrev pub is_anothers : ℕ → AddressParts → Option ℕ → Standing → Bool
is_anothers end at behind s = not (s.end == end) && stands_at at behind s

abbrev pub lacks_translator : PlacesSeen → Option ℕ → Bool
lacks_translator p None = false
lacks_translator p (Some number) = nat_le (length p.translators) number

-- it is a place without a translator, on a translator's host
abbrev pub is_on_translator : PlacesSeen → AddressParts → Option ℕ → Bool
is_on_translator p at None = is_some (translator_at p at)
is_on_translator p at (Some number) = false

abbrev pub is_bad_place : PlacesSeen → ℕ → AddressParts → Option ℕ → Bool
is_bad_place p end at behind = lacks_translator p behind
    || list_any (is_anothers end at behind) p.ends
    || is_on_translator p at behind

-- in place of where the end stood before; the last, where it stood nowhere
abbrev pub put_at : List Standing → Standing → Option ℕ → List Standing
put_at ss new None = ss ++ new ∷ []
put_at ss new (Some index) = slice_set ss index new

abbrev pub has_number : ℕ → Standing → Bool
has_number end s = s.end == end

-- an end stands at a place from now on, wherever it stood before
abbrev pub standing_at : List Standing → Standing → List Standing
standing_at ss new = put_at ss new (position (has_number new.end) ss)

abbrev pub with_place : PlacesSeen → ℕ → AddressParts → Option ℕ → PlacesSeen
with_place p end at behind = record {
  translators = p.translators;
  ends = standing_at p.ends (record { end = end; at = at; behind = behind });
}
