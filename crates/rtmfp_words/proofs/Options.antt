-- Options: what a reader finds is spelled, and what is spelled is found.
use Rattle.std.proofs.Common.{◌≡◌, ℕ, ◌^◌, ◌<◌, ◌≤◌, Bool, List, [], ◌∷◌, ◌++◌, Option, Some, None, refl, sym, ap, ◌∙◌, subst, arith, inl, inr, codes}
use Rattle.std.specs.Prelude.{nat_le, decimal}
use Rattle.std.specs.Str.{bytes_eq}
use Rattle.std.proofs.lemmas.Bool.{leb-true, le-leb}
use Rattle.std.proofs.lemmas.Slice.Eq.{bytes_eq-Decides}
use Rattle.rtmfp_script.specs.Fields.{number_of, ◌>>=◌, either, only_if}
use Rattle.rtmfp_script.proofs.Numbers.{number_of-some, number_of-decimal}
use Rattle.rtmfp_script.proofs.Splits.{some_some, bind_some, only_if-some}
use Rattle.rtmfp_words.specs.Words.{OptionSpells}
use Rattle.rtmfp_words.specs.Reading.{head_of, behind_of, seed_of, steps_of, setting_of, joined_of, apart_of, option_of}
use Rattle.rtmfp_words.specs.declared.option.Setting.{Setting}
use Rattle.rtmfp_words.specs.declared.option.Setting.TheVariants.{Seed, Steps}
use Rattle.rtmfp_words.proofs.Texts.{if-some, either-some, head-some, behind-some}

abbrev pub name_of : Setting → List ℕ
name_of (Seed seed) = codes "--generate"
name_of (Steps steps) = codes "--steps"

abbrev pub value_of : Setting → List ℕ
value_of (Seed seed) = decimal seed
value_of (Steps steps) = decimal steps

abbrev pub Allowed : Setting → Type 0
Allowed (Seed seed) = seed < 2 ^ 64
Allowed (Steps steps) = steps ≤ 100000

-- a name and a value say this
record Says (setting : Setting) (name value : List ℕ) : Type 0 where
  named : name ≡ name_of setting
  valued : value ≡ value_of setting
  allowed : Allowed setting

-- an option stands in front of the rest
pub record Stands (setting : Setting) (parts rest : List (List ℕ)) : Type 0 where
  pub front : List (List ℕ)
  pub spells : OptionSpells (name_of setting) (value_of setting) front
  pub allowed : Allowed setting
  pub is : parts ≡ front ++ rest

-- ---- what was found

seed-some : (value : List ℕ) (setting : Setting) → seed_of value ≡ Some setting → Says setting (codes "--generate") value
unfolding seed_of
seed-some value setting h =
    let found = bind_some (number_of value) (λ n. Some (Seed n)) setting h in
    let number = number_of-some value found.0 found.1 in
    let e : Seed found.0 ≡ setting = some_some _ _ found.2 in
    subst (λ (s : Setting). Says s (codes "--generate") value) e (record { named = refl; valued = number.0; allowed = number.1 })

steps-some : (value : List ℕ) (setting : Setting) → steps_of value ≡ Some setting → Says setting (codes "--steps") value
unfolding steps_of
steps-some value setting h =
    let found = bind_some (number_of value) (λ n. only_if (nat_le n 100000) (Steps n)) setting h in
    let number = number_of-some value found.0 found.1 in
    let few = only_if-some (nat_le found.0 100000) (Steps found.0) setting found.2 in
    subst (λ (s : Setting). Says s (codes "--steps") value) few.1 (record { named = refl; valued = number.0; allowed = leb-true found.0 100000 few.0 })

renamed : (setting : Setting) (name other value : List ℕ) → name ≡ other → Says setting other value → Says setting name value
renamed setting name other value e says = record { named = e ∙ says.named; valued = says.valued; allowed = says.allowed }

setting-some : (name value : List ℕ) (setting : Setting) → setting_of name value ≡ Some setting → Says setting name value
unfolding setting_of
setting-some name value setting h =
    elim (if-some (bytes_eq name (codes "--generate")) (seed_of value) _ setting h) [
      | inl seed ↦ renamed setting name (codes "--generate") value ((bytes_eq-Decides name (codes "--generate")).0 seed.0) (seed-some value setting seed.1)
      | inr other ↦ elim (if-some (bytes_eq name (codes "--steps")) (steps_of value) None setting other.1) [
        | inl steps ↦ renamed setting name (codes "--steps") value ((bytes_eq-Decides name (codes "--steps")).0 steps.0) (steps-some value setting steps.1)
        | inr none ↦ absurd (let e : None ≡ Some setting = none.1 in cc)
      ]
    ]

joined : (word name value : List ℕ) (setting : Setting) → word ≡ name ++ codes "=" ++ value → Says setting name value → (word ≡ name_of setting ++ codes "=" ++ value_of setting) × Allowed setting
joined word name value setting is says =
    (is ∙ ap (λ (n : List ℕ). n ++ codes "=" ++ value) says.named ∙ ap (λ (v : List ℕ). name_of setting ++ codes "=" ++ v) says.valued, says.allowed)

joined-some : (word : List ℕ) (setting : Setting) → joined_of word ≡ Some setting → (word ≡ name_of setting ++ codes "=" ++ value_of setting) × Allowed setting
unfolding joined_of
joined-some word setting h =
    elim (either-some (behind_of (codes "--steps=") word >>= steps_of) seed_of (behind_of (codes "--generate=") word) setting h) [
      | inl seed ↦ joined word (codes "--generate") seed.0 setting (behind-some (codes "--generate=") word seed.0 seed.1) (seed-some seed.0 setting seed.2)
      | inr more ↦
          let steps = bind_some (behind_of (codes "--steps=") word) steps_of setting more in
          joined word (codes "--steps") steps.0 setting (behind-some (codes "--steps=") word steps.0 steps.1) (steps-some steps.0 setting steps.2)
    ]

apart-some : (name : List ℕ) (parts : List (List ℕ)) (p : Setting × List (List ℕ)) → apart_of name parts ≡ Some p → Stands p.0 (name ∷ parts) p.1
unfolding apart_of
apart-some name parts p h =
    let next = bind_some (head_of parts) (λ q. setting_of name q.0 >>= λ setting. Some (setting, q.1)) p h in
    let found = bind_some (setting_of name next.0.0) (λ setting. Some (setting, next.0.1)) p next.2 in
    let says = setting-some name next.0.0 found.0 found.1 in
    let e : (found.0, next.0.1) ≡ p = some_some _ _ found.2 in
    let stands : Stands found.0 (name ∷ parts) next.0.1 = record {
      front = name ∷ next.0.0 ∷ [];
      spells = inl (ap (λ (n : List ℕ). n ∷ next.0.0 ∷ []) says.named ∙ ap (λ (v : List ℕ). name_of found.0 ∷ v ∷ []) says.valued);
      allowed = says.allowed;
      is = ap (λ (ps : List (List ℕ)). name ∷ ps) (head-some parts next.0 next.1);
    } in
    subst (λ (q : Setting × List (List ℕ)). Stands q.0 (name ∷ parts) q.1) e stands

pub option-some : (parts : List (List ℕ)) (p : Setting × List (List ℕ)) → option_of parts ≡ Some p → Stands p.0 parts p.1
unfolding option_of
option-some parts p h =
    let next = bind_some (head_of parts) (λ q. either (apart_of q.0 q.1) (λ setting. Some (setting, q.1)) (joined_of q.0)) p h in
    let is : parts ≡ next.0.0 ∷ next.0.1 = head-some parts next.0 next.1 in
    let stands : Stands p.0 (next.0.0 ∷ next.0.1) p.1 =
    elim (either-some (apart_of next.0.0 next.0.1) (λ setting. Some (setting, next.0.1)) (joined_of next.0.0) p next.2) [
      | inl one ↦
          let word = joined-some next.0.0 one.0 one.1 in
          let e : (one.0, next.0.1) ≡ p = some_some _ _ one.2 in
          let here : Stands one.0 (next.0.0 ∷ next.0.1) next.0.1 = record {
            front = next.0.0 ∷ [];
            spells = inr (ap (λ (w : List ℕ). w ∷ []) word.0);
            allowed = word.1;
            is = refl;
          } in
          subst (λ (q : Setting × List (List ℕ)). Stands q.0 (next.0.0 ∷ next.0.1) q.1) e here
      | inr two ↦ apart-some next.0.0 next.0.1 p two
    ] in
    subst (λ (ps : List (List ℕ)). Stands p.0 ps p.1) (sym is) stands

-- ---- what is spelled is found

seed-gives : (seed : ℕ) → seed < 2 ^ 64 → seed_of (decimal seed) ≡ Some (Seed seed)
unfolding seed_of
seed-gives seed fits = ap (λ (o : Option ℕ). o >>= λ n. Some (Seed n)) (number_of-decimal seed fits)

steps-gives : (steps : ℕ) → steps ≤ 100000 → steps_of (decimal steps) ≡ Some (Steps steps)
unfolding steps_of
steps-gives steps few =
    ap (λ (o : Option ℕ). o >>= λ n. only_if (nat_le n 100000) (Steps n)) (number_of-decimal steps (omega arith))
    ∙ ap (λ (test : Bool). only_if test (Steps steps)) (le-leb steps 100000 few)

setting-gives : (setting : Setting) → Allowed setting → setting_of (name_of setting) (value_of setting) ≡ Some setting
unfolding setting_of
setting-gives (Seed seed) fits = seed-gives seed fits
setting-gives (Steps steps) few = steps-gives steps few

joined-gives : (setting : Setting) → Allowed setting → joined_of (name_of setting ++ codes "=" ++ value_of setting) ≡ Some setting
unfolding joined_of behind_of
joined-gives (Seed seed) fits = seed-gives seed fits
joined-gives (Steps steps) few = steps-gives steps few

no_value : (setting : Setting) → joined_of (name_of setting) ≡ None
unfolding joined_of behind_of
no_value (Seed seed) = refl
no_value (Steps steps) = refl

two-gives : (setting : Setting) (rest : List (List ℕ)) → Allowed setting → option_of (name_of setting ∷ value_of setting ∷ rest) ≡ Some (setting, rest)
unfolding option_of head_of apart_of
two-gives setting rest allowed =
    ap (λ (o : Option Setting). either (apart_of (name_of setting) (value_of setting ∷ rest)) (λ s. Some (s, value_of setting ∷ rest)) o) (no_value setting)
    ∙ ap (λ (o : Option Setting). o >>= λ s. Some (s, rest)) (setting-gives setting allowed)

one-gives : (setting : Setting) (word : List ℕ) (rest : List (List ℕ)) → word ≡ name_of setting ++ codes "=" ++ value_of setting → Allowed setting → option_of (word ∷ rest) ≡ Some (setting, rest)
unfolding option_of head_of
one-gives setting word rest is allowed =
    ap (λ (o : Option Setting). either (apart_of word rest) (λ s. Some (s, rest)) o) (ap joined_of is ∙ joined-gives setting allowed)

pub option-gives : (setting : Setting) (front rest : List (List ℕ)) → OptionSpells (name_of setting) (value_of setting) front → Allowed setting → option_of (front ++ rest) ≡ Some (setting, rest)
option-gives setting front rest spells allowed = elim spells [
  | inl two ↦ ap (λ (f : List (List ℕ)). option_of (f ++ rest)) two ∙ two-gives setting rest allowed
  | inr one ↦ ap (λ (f : List (List ℕ)). option_of (f ++ rest)) one ∙ one-gives setting (name_of setting ++ codes "=" ++ value_of setting) rest refl allowed
]
