-- Outward calls in their order, the newest of which stands first, and what is said of all of them.
use Rattle.std.specs.Prelude.{◌≡◌, ◌⊎◌, ℕ, suc, ◌+◌, ◌&&◌, ◌||◌, Bool, false, not, nat_lt, if◌then◌else◌, List, [], ◌∷◌, Option, Some, None, Result, Ok, Err}
use Rattle.std.specs.List.{list_any}
use Rattle.std.specs.Str.{bytes_eq}
use Rattle.rtmfp_forms.specs.Address.{AddressParts, SamePlace, is_same_place}
use Rattle.translators.specs.declared.rule.Rule.{Rule}
use Rattle.translators.specs.declared.rule.Rule.TheVariants.{Independent, Dependent}
use Rattle.translators.specs.declared.refusal.OutRefusal.{OutRefusal}
use Rattle.translators.specs.declared.refusal.OutRefusal.TheVariants.{Family, PortsFull}
use Rattle.translators.specs.declared.refusal.InRefusal.{InRefusal}
use Rattle.translators.specs.declared.refusal.InRefusal.TheVariants.{Unmapped, Filtered}
use Rattle.translators.specs.Mappings.{Call, map_of}
use Rattle.translators.specs.Translator.{TranslatorState, v4, new_translator, out_refusal, public_of, after_use, inward_of}

-- ---- calls alone, and no mappings

-- Two calls have one mapping: they come from one inner place and, where mappings are dependent, go
-- to one host.
pub record AreAlike (rule : Rule) (one other : Call) : Type 0 where
  pub inner : SamePlace one.inner other.inner
  pub towards : rule ≡ Dependent → one.to.host ≡ other.to.host

-- the same as a function
abbrev pub are_alike : Rule → Call → Call → Bool
are_alike Independent one other = is_same_place one.inner other.inner
are_alike Dependent one other =
    is_same_place one.inner other.inner && bytes_eq one.to.host other.to.host

abbrev pub had_alike : Rule → List Call → Call → Bool
had_alike rule before call = list_any (λ earlier. are_alike rule earlier call) before

-- how many of the calls had no earlier one that was alike
abbrev pub count_new : Rule → List Call → ℕ
count_new rule [] = 0
count_new rule (call ∷ before) =
    if had_alike rule before call then count_new rule before else suc (count_new rule before)

-- A call went to the host of an address.
pub record WentTo (call : Call) (from : AddressParts) : Type 0 where
  pub family : call.to.v6 ≡ from.v6
  pub host : call.to.host ≡ from.host

module _ (mapping filter : Rule) (host : List ℕ) (first : ℕ) where
  -- a new translator after these calls
  abbrev pub after_calls : List Call → TranslatorState
  after_calls [] = new_translator mapping filter host first
  after_calls (call ∷ before) = after_use (after_calls before) call

  -- No call was refused.
  abbrev pub AreDone : List Call → Type 0
  AreDone [] = Unit {0}
  AreDone (call ∷ before) = (out_refusal (after_calls before) call ≡ None) × AreDone before

  -- The call is one of these, and this was its answer.
  abbrev pub HadAnswer : List Call → Call → AddressParts → Type 0
  HadAnswer [] call address = ⊥
  HadAnswer (newest ∷ before) call address =
      ((newest ≡ call) × (public_of (after_calls before) newest ≡ address))
      ⊎ HadAnswer before call address

  -- its mappings are those that the calls make
  abbrev pub MakesTheMap : Type 0
  MakesTheMap = (calls : List Call) → after_calls calls ≡ record {
    mapping = mapping;
    filter = filter;
    host = host;
    first = first;
    mappings = map_of mapping calls;
  }

  -- ---- outward

  -- Calls that had one answer are alike.
  abbrev pub HaveTheirOwnAddress : Type 0
  HaveTheirOwnAddress = (calls : List Call) (one other : Call) (address : AddressParts)
      → AreDone calls → HadAnswer calls one address → HadAnswer calls other address
      → AreAlike mapping one other

  -- Calls that are alike had one answer.
  abbrev pub KeepTheirAddress : Type 0
  KeepTheirAddress = (calls : List Call) (one other : Call) (a b : AddressParts)
      → AreDone calls → HadAnswer calls one a → HadAnswer calls other b
      → AreAlike mapping one other → a ≡ b

  -- A call to which no earlier one is alike has the next port.
  abbrev pub TakesTheNextPort : Type 0
  TakesTheNextPort = (calls : List Call) (call : Call) → AreDone calls → call.inner.v6 ≡ false
      → had_alike mapping calls call ≡ false
      → public_of (after_calls calls) call ≡ v4 host (first + count_new mapping calls)

  -- An address is IPv6; else no earlier call is alike, and the next port would be above 65535.
  abbrev pub refused_after : List Call → Call → Option OutRefusal
  refused_after calls call =
      if call.inner.v6 || call.to.v6 then Some Family
      else if not (had_alike mapping calls call) && nat_lt 65535 (first + count_new mapping calls)
      then Some (PortsFull (count_new mapping calls))
      else None

  abbrev pub AreRefusedByCalls : Type 0
  AreRefusedByCalls = (calls : List Call) (call : Call) → AreDone calls
      → out_refusal (after_calls calls) call ≡ refused_after calls call

  -- ---- inward

  -- A call had this public place as its answer.
  pub record HadPlace (calls : List Call) (to : AddressParts) (call : Call) : Type 0 where
    pub address : AddressParts
    pub answer : HadAnswer calls call address
    pub is_to : SamePlace address to

  -- What came from an address to a public place goes to this inner place: a call from there had the
  -- public place as its answer, and through a dependent filter such a call went to the host that it
  -- came from.
  pub record WasCalledFrom (calls : List Call) (to from inner : AddressParts) : Type 0 where
    pub call : Call
    pub had : HadPlace calls to call
    pub is_inner : SamePlace call.inner inner
    pub went : filter ≡ Dependent → WentTo call from

  -- A call had the public place as its answer. The filter is dependent, and no such call went to the
  -- host that it came from.
  pub record WasFiltered (calls : List Call) (to from : AddressParts) : Type 0 where
    pub call : Call
    pub had : HadPlace calls to call
    pub dependent : filter ≡ Dependent
    pub never : (other : Call) → HadPlace calls to other → WentTo other from → ⊥

  abbrev pub ComesByCalls : List Call → AddressParts → AddressParts
      → Result AddressParts InRefusal → Type 0
  ComesByCalls calls to from (Ok inner) = WasCalledFrom calls to from inner
  ComesByCalls calls to from (Err Unmapped) = (call : Call) → HadPlace calls to call → ⊥
  ComesByCalls calls to from (Err Filtered) = WasFiltered calls to from

  abbrev pub ComesInByCallsAlone : Type 0
  ComesInByCallsAlone = (calls : List Call) (to from : AddressParts) → AreDone calls
      → ComesByCalls calls to from (inward_of (after_calls calls) to from)
