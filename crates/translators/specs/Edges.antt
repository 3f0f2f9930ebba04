-- Values for the rows.
use Rattle.std.specs.Prelude.{ℕ, [], ◌∷◌, List, false, true, replicate}
use Rattle.rtmfp_forms.specs.Address.{AddressParts}
use Rattle.translators.specs.declared.rule.Rule.{Rule}
use Rattle.translators.specs.declared.rule.Rule.TheVariants.{Independent, Dependent}
use Rattle.translators.specs.Mappings.{Call, from_to, map_of}
use Rattle.translators.specs.Translator.{TranslatorState, v4}

-- hosts: the public one, those inside and those outside
abbrev pub public_host : List ℕ
public_host = 10 ∷ 1 ∷ 0 ∷ 1 ∷ []

abbrev pub inside : ℕ → ℕ → AddressParts
inside h port = v4 (192 ∷ 168 ∷ 0 ∷ h ∷ []) port

abbrev pub outside : ℕ → ℕ → AddressParts
outside h port = v4 (10 ∷ 0 ∷ 0 ∷ h ∷ []) port

-- the same place inside, which an end tells as its local address
abbrev pub local : ℕ → ℕ → AddressParts
local h port = record {
  v6 = false;
  origin = 1;
  host = 192 ∷ 168 ∷ 0 ∷ h ∷ replicate 12 0;
  port = port;
}

-- IPv6 addresses whose bytes are those of an IPv4 host
abbrev pub v6_like : ℕ → ℕ → ℕ → ℕ → ℕ → AddressParts
v6_like a b c d port = record {
  v6 = true;
  origin = 0;
  host = a ∷ b ∷ c ∷ d ∷ replicate 12 0;
  port = port;
}

-- calls from one inner place to two hosts
abbrev pub to_nine : Call
to_nine = from_to (inside 2 1935) (outside 9 1935)

abbrev pub to_eight : Call
to_eight = from_to (inside 2 1935) (outside 8 1)

-- a translator after these calls, the newest of which stands first
abbrev pub with_calls : Rule → Rule → ℕ → List Call → TranslatorState
with_calls mapping filter first calls = record {
  mapping = mapping;
  filter = filter;
  host = public_host;
  first = first;
  mappings = map_of mapping calls;
}

-- its last port is its only one
abbrev pub one_port : List Call → TranslatorState
one_port calls = with_calls Dependent Dependent 65535 calls

abbrev pub two_ports : List Call → TranslatorState
two_ports calls = with_calls Dependent Dependent 65534 calls

-- what an inner place gets whatever host it calls, and a filter by hosts
abbrev pub cone : List Call → TranslatorState
cone calls = with_calls Independent Dependent 40000 calls

-- a mapping for each host, and a filter by hosts
abbrev pub by_hosts : List Call → TranslatorState
by_hosts calls = with_calls Dependent Dependent 40000 calls

-- one mapping, and no filter
abbrev pub open_cone : List Call → TranslatorState
open_cone calls = with_calls Independent Independent 40000 calls
