-- The fields of the lines of places.
use Rattle.std.proofs.Common.{◌≡◌, ◌≢◌, ℕ, true, List, ◌∷◌, Option, Some, None, refl, ap, ◌∙◌, arith, inl, inr}
use Rattle.std.specs.Prelude.{codes, if◌then◌else◌}
use Rattle.std.specs.List.{list_all}
use Rattle.std.specs.Str.{bytes_eq}
use Rattle.std.proofs.lemmas.Bool.{cases_Bool}
use Rattle.std.proofs.lemmas.Slice.Eq.{bytes_eq-Decides}
use Rattle.rtmfp_forms.specs.Address.{AddressParts}
use Rattle.rtmfp_text.specs.AddressText.{address_text}
use Rattle.translators.specs.declared.rule.Rule.{Rule}
use Rattle.translators.specs.declared.rule.Rule.TheVariants.{Independent, Dependent}
use Rattle.rtmfp_script.specs.declared.line.ScriptLine.{ScriptLine}
use Rattle.rtmfp_script.specs.declared.line.ScriptLine.TheVariants.{Place}
use Rattle.rtmfp_script.specs.Grammar.{IsNameOrNone, IsPlainAddress, is_name_byte, name_for, rule_text, words_text}
use Rattle.rtmfp_script.specs.Fields.{split_of, name_of, rule_of, address_of, either, ◌>>=◌}
use Rattle.rtmfp_script.specs.Lines.{place_at}
use Rattle.rtmfp_script.proofs.Splits.{some_some, bind_some, Lacks, each_is, each_passes, split_text, split_nothing, split_joined}
use Rattle.rtmfp_script.proofs.NamesRead.{rejoin, name_of-some, name_of-name, not_space}
use Rattle.rtmfp_script.proofs.Addresses.{address_of-some, address_of-text, lacks_address}

-- ---- rules

is_word : (word key : List ℕ) → bytes_eq word key ≡ true → word ≡ key
is_word word key h = grind (arith, bytes_eq-Decides)

pub rule_of-some : (word : List ℕ) (rule : Rule) → rule_of word ≡ Some rule → word ≡ rule_text rule
unfolding rule_of
rule_of-some word rule h = elim (cases_Bool (bytes_eq word (codes "independent"))) [
  | inl is ↦ is_word word (codes "independent") is ∙ ap rule_text (some_some Independent rule (rw is at h))
  | inr not ↦ (let other : (if bytes_eq word (codes "dependent") then Some Dependent else None) ≡ Some rule = rw not at h in
      elim (cases_Bool (bytes_eq word (codes "dependent"))) [
        | inl is ↦ is_word word (codes "dependent") is ∙ ap rule_text (some_some Dependent rule (rw is at other))
        | inr none ↦ absurd (let clash : None ≡ Some rule = rw none at other in cc)
      ])
]

pub rule_of-text : (rule : Rule) → rule_of (rule_text rule) ≡ Some rule
unfolding rule_of
rule_of-text Independent = refl
rule_of-text Dependent = refl

-- no space is in a word of bytes that a name can have
lacks_letters : (word : List ℕ) → list_all is_name_byte word ≡ true → Lacks 32 word
lacks_letters word is = each_is (λ x. is_name_byte x ≡ true) (λ x. x ≢ 32) not_space word (each_passes is_name_byte word is)

pub lacks_rule : (rule : Rule) → Lacks 32 (rule_text rule)
lacks_rule Independent = lacks_letters (rule_text Independent) refl
lacks_rule Dependent = lacks_letters (rule_text Dependent) refl

-- ---- a place, and the translator behind it

pub record IsPlaced (name rest : List ℕ) (said : ScriptLine) : Type 0 where
  pub at : AddressParts
  pub behind : Option (List ℕ)
  pub is : Place name at behind ≡ said
  pub text : rest ≡ words_text (address_text at ∷ name_for behind)
  pub at_is : IsPlainAddress at
  pub behind_is : IsNameOrNone behind

placed_by : (name rest : List ℕ) (said : ScriptLine) (o : Option (List ℕ × List ℕ)) → split_of 32 rest ≡ o →
    either (address_of rest >>= λ at. Some (Place name at None)) (λ parts. address_of parts.0 >>= λ at. name_of parts.1 >>= λ behind. Some (Place name at (Some behind))) o ≡ Some said → IsPlaced name rest said
placed_by name rest said None cut h =
    let at = bind_some (address_of rest) (λ at. Some (Place name at None)) said h in
    let a = address_of-some rest at.0 at.1 in
    record { at = at.0; behind = None; is = some_some _ _ at.2; text = a.0; at_is = a.1; behind_is = tt }
placed_by name rest said (Some parts) cut h =
    let at = bind_some (address_of parts.0) (λ at. name_of parts.1 >>= λ behind. Some (Place name at (Some behind))) said h in
    let behind = bind_some (name_of parts.1) (λ behind. Some (Place name at.0 (Some behind))) said at.2 in
    let a = address_of-some parts.0 at.0 at.1 in
    let n = name_of-some parts.1 behind.0 behind.1 in
    record {
      at = at.0;
      behind = Some behind.0;
      is = some_some _ _ behind.2;
      text = rejoin 32 rest parts.0 parts.1 (address_text at.0) behind.0 (split_joined 32 rest parts cut) a.0 n.0;
      at_is = a.1;
      behind_is = n.1;
    }

pub place_at-some : (name rest : List ℕ) (said : ScriptLine) → place_at name rest ≡ Some said → IsPlaced name rest said
unfolding place_at
place_at-some name rest said h = placed_by name rest said (split_of 32 rest) refl h

pub place_at-text : (name : List ℕ) (at : AddressParts) (behind : Option (List ℕ)) → IsPlainAddress at → IsNameOrNone behind → place_at name (words_text (address_text at ∷ name_for behind)) ≡ Some (Place name at behind)
unfolding place_at
place_at-text name at None a b = rw (split_nothing 32 (address_text at) (lacks_address at a), address_of-text at a) refl
place_at-text name at (Some behind) a b = rw (split_text 32 (address_text at) behind (lacks_address at a), address_of-text at a, name_of-name behind b) refl
