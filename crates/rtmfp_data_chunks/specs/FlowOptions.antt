-- What the options of a user data chunk say of its flow (RFC 7016 section 2.3.11.1).
use Rattle.std.specs.Prelude.{ℕ, ◌==◌, nat_lt, if◌then◌else◌, not, ◌||◌, Bool, false}
use Rattle.std.specs.Prelude.{List, [], ◌∷◌, length, Option, Some, None, Result, Ok, Err}
use Rattle.std.specs.List.{list_all}
use Rattle.rtmfp_vlu.specs.declared.reading.VluFault.{VluFault}
use Rattle.rtmfp_vlu.specs.Vlu.{VluSpells, vlu}
use Rattle.rtmfp_vlu.specs.Reading.{number_at}
use Rattle.rtmfp_forms.specs.Options.{OptionParts}

-- the metadata have kind 0, the association with the flow that is answered kind 10
abbrev pub metadata_option : List ℕ → OptionParts
metadata_option metadata = record { kind = 0; value = metadata }

abbrev pub association : ℕ → OptionParts
association flow = record { kind = 10; value = vlu flow }

abbrev pub associations : Option ℕ → List OptionParts
associations None = []
associations (Some flow) = association flow ∷ []

-- the options of a flow: its metadata, and the association where it answers a flow
abbrev pub flow_options : List ℕ → Option ℕ → List OptionParts
flow_options metadata answers = metadata_option metadata ∷ associations answers

-- the metadata that options tell: of those of this kind the first counts
abbrev pub metadata_in : List OptionParts → Option (List ℕ)
metadata_in [] = None
metadata_in (o ∷ later) = if o.kind == 0 then Some o.value else metadata_in later

-- the value of an association is exactly one number, in any spelling, or it names no flow (own)
abbrev pub Names : List ℕ → Option ℕ → Type 0
Names value (Some flow) = VluSpells flow value
Names value None = (flow : ℕ) → VluSpells flow value → ⊥

-- the same as a function
abbrev pub whole_number : ℕ → Result (ℕ × ℕ) VluFault → Option ℕ
whole_number size (Ok found) = if found.1 == size then Some found.0 else None
whole_number size (Err fault) = None

abbrev pub flow_named : List ℕ → Option ℕ
flow_named value = whole_number (length value) (number_at value)

abbrev pub is_below : ℕ → Option ℕ → Bool
is_below flows None = false
is_below flows (Some flow) = nat_lt flow flows

-- it is no association, or it names one of so many flows, which are numbered from 0 on
abbrev pub names_known : ℕ → OptionParts → Bool
names_known flows o = not (o.kind == 10) || is_below flows (flow_named o.value)

abbrev pub all_known : ℕ → List OptionParts → Bool
all_known flows options = list_all (names_known flows) options
