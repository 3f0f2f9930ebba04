-- Commands: what a reader finds is said, and what is said is found.
use Rattle.std.proofs.Common.{◌≡◌, ◌⊎◌, ℕ, ◌^◌, ◌<◌, ◌≤◌, Bool, true, false, List, [], ◌∷◌, ◌++◌, Option, Some, None, refl, sym, ap, ◌∙◌, subst, inl, inr, codes, append-nil}
use Rattle.std.specs.Prelude.{decimal, if◌then◌else◌, map, String, string_bytes}
use Rattle.std.specs.declared.alloc.Global.{Global}
use Rattle.std.specs.Str.{bytes_eq}
use Rattle.std.proofs.lemmas.Slice.Eq.{bytes_eq-Decides}
use Rattle.rtmfp_script.specs.Fields.{◌>>=◌}
use Rattle.rtmfp_script.proofs.Splits.{some_some, bind_some, only_if-some}
use Rattle.rtmfp_words.specs.Words.{OptionSpells, IsGenerate, Reads}
use Rattle.rtmfp_words.specs.Reading.{head_of, is_empty, behind_of, setting_of, joined_of, apart_of, option_of, both, generate_of, journal_of, options_of, replay_of, show_of, audit_of, command_of}
use Rattle.rtmfp_words.specs.declared.option.Setting.{Setting}
use Rattle.rtmfp_words.specs.declared.option.Setting.TheVariants.{Seed, Steps}
use Rattle.rtmfp_words.specs.declared.command.Command.{Command}
use Rattle.rtmfp_words.specs.declared.command.Command.TheVariants.{Show, Replay, Journal, Generate, Audit}
use Rattle.rtmfp_words.proofs.Texts.{if-some, head-some, no_part}
use Rattle.rtmfp_words.proofs.Options.{Stands, option-some, option-gives}

-- the two options, in one of the two orders
record Generates (parts : List (List ℕ)) (seed steps : ℕ) : Type 0 where
  seed_parts : List (List ℕ)
  steps_parts : List (List ℕ)
  seed_spells : OptionSpells (codes "--generate") (decimal seed) seed_parts
  steps_spells : OptionSpells (codes "--steps") (decimal steps) steps_parts
  seed_fits : seed < 2 ^ 64
  few_steps : steps ≤ 100000
  order : (parts ≡ seed_parts ++ steps_parts) ⊎ (parts ≡ steps_parts ++ seed_parts)

abbrev Said : List (List ℕ) → Command → Type 0
Said parts Show = parts ≡ codes "show" ∷ []
Said parts Replay = parts ≡ codes "replay" ∷ []
Said parts Journal = parts ≡ codes "replay" ∷ codes "--journal" ∷ []
Said parts (Generate seed steps) = (rest : List (List ℕ)) × (parts ≡ codes "replay" ∷ rest) × Generates rest seed steps
Said parts Audit = parts ≡ codes "audit" ∷ []

-- ---- what was found

abbrev Made : List (List ℕ) → Command → Type 0
Made parts command = (seed : ℕ) × (steps : ℕ) × (Generate seed steps ≡ command) × Generates parts seed steps

one_behind : (parts front mid back : List (List ℕ)) → parts ≡ front ++ mid → mid ≡ back ++ [] → parts ≡ front ++ back
one_behind parts front mid back is more = is ∙ ap (λ (m : List (List ℕ)). front ++ m) (more ∙ append-nil back)

paired : (a b : Setting) (command : Command) (parts mid : List (List ℕ)) → Stands a parts mid → Stands b mid [] → both a b ≡ Some command → Made parts command
unfolding both
paired (Seed seed) (Seed other) command parts mid first second h = absurd (cc)
paired (Seed seed) (Steps steps) command parts mid first second h = (
  seed,
  steps,
  some_some _ _ h,
  record {
    seed_parts = first.front;
    steps_parts = second.front;
    seed_spells = first.spells;
    steps_spells = second.spells;
    seed_fits = first.allowed;
    few_steps = second.allowed;
    order = inl (one_behind parts first.front mid second.front first.is second.is);
  },
)
paired (Steps steps) (Seed seed) command parts mid first second h = (
  seed,
  steps,
  some_some _ _ h,
  record {
    seed_parts = second.front;
    steps_parts = first.front;
    seed_spells = second.spells;
    steps_spells = first.spells;
    seed_fits = second.allowed;
    few_steps = first.allowed;
    order = inr (one_behind parts first.front mid second.front first.is second.is);
  },
)
paired (Steps steps) (Steps other) command parts mid first second h = absurd (cc)

generate-some : (parts : List (List ℕ)) (command : Command) → generate_of parts ≡ Some command → Made parts command
unfolding generate_of
generate-some parts command h =
    let a = bind_some (option_of parts) (λ p. option_of p.1 >>= λ q. (if is_empty q.1 then both p.0 q.0 else None)) command h in
    let b = bind_some (option_of a.0.1) (λ q. (if is_empty q.1 then both a.0.0 q.0 else None)) command a.2 in
    let first = option-some parts a.0 a.1 in
    let second = option-some a.0.1 b.0 b.1 in
    elim (if-some (is_empty b.0.1) (both a.0.0 b.0.0) None command b.2) [
      | inl last ↦ paired a.0.0 b.0.0 command parts a.0.1 first (subst (λ (rest : List (List ℕ)). Stands b.0.0 a.0.1 rest) (no_part b.0.1 last.0) second) last.1
      | inr more ↦ absurd (let e : None ≡ Some command = more.1 in cc)
    ]

made_said : (rest : List (List ℕ)) (command : Command) → Made rest command → Said (codes "replay" ∷ rest) command
made_said rest command made = subst (λ (c : Command). Said (codes "replay" ∷ rest) c) made.2 (rest, refl, made.3)

journal-some : (rest : List (List ℕ)) (command : Command) → journal_of rest ≡ Some command → Said (codes "replay" ∷ codes "--journal" ∷ rest) command
unfolding journal_of
journal-some rest command h =
    let found = only_if-some (is_empty rest) Journal command h in
    subst (λ (c : Command). Said (codes "replay" ∷ codes "--journal" ∷ rest) c) found.1 (ap (λ (ps : List (List ℕ)). codes "replay" ∷ codes "--journal" ∷ ps) (no_part rest found.0))

-- the words behind `replay`, of which the first is this one
replay_so : (parts rest : List (List ℕ)) (word text : List ℕ) (command : Command) → parts ≡ word ∷ rest → word ≡ text → Said (codes "replay" ∷ text ∷ rest) command → Said (codes "replay" ∷ parts) command
replay_so parts rest word text command is same said =
    subst (λ (ps : List (List ℕ)). Said (codes "replay" ∷ ps) command) (sym (is ∙ ap (λ (w : List ℕ). w ∷ rest) same)) said

options-some : (parts : List (List ℕ)) (command : Command) → options_of parts ≡ Some command → Said (codes "replay" ∷ parts) command
unfolding options_of
options-some parts command h =
    let next = bind_some (head_of parts) (λ p. (if bytes_eq p.0 (codes "--journal") then journal_of p.1 else generate_of parts)) command h in
    let is : parts ≡ next.0.0 ∷ next.0.1 = head-some parts next.0 next.1 in
    elim (if-some (bytes_eq next.0.0 (codes "--journal")) (journal_of next.0.1) (generate_of parts) command next.2) [
      | inl journal ↦ replay_so parts next.0.1 next.0.0 (codes "--journal") command is ((bytes_eq-Decides next.0.0 (codes "--journal")).0 journal.0) (journal-some next.0.1 command journal.1)
      | inr more ↦ made_said parts command (generate-some parts command more.1)
    ]

replay-some : (rest : List (List ℕ)) (command : Command) → replay_of rest ≡ Some command → Said (codes "replay" ∷ rest) command
unfolding replay_of
replay-some rest command h = elim (if-some (is_empty rest) (Some Replay) (options_of rest) command h) [
  | inl alone ↦
      let e : Replay ≡ command = some_some _ _ alone.1 in
      subst (λ (c : Command). Said (codes "replay" ∷ rest) c) e (ap (λ (ps : List (List ℕ)). codes "replay" ∷ ps) (no_part rest alone.0))
  | inr more ↦ options-some rest command more.1
]

show-some : (rest : List (List ℕ)) (command : Command) → show_of rest ≡ Some command → Said (codes "show" ∷ rest) command
unfolding show_of
show-some rest command h =
    let found = only_if-some (is_empty rest) Show command h in
    subst (λ (c : Command). Said (codes "show" ∷ rest) c) found.1 (ap (λ (ps : List (List ℕ)). codes "show" ∷ ps) (no_part rest found.0))

audit-some : (rest : List (List ℕ)) (command : Command) → audit_of rest ≡ Some command → Said (codes "audit" ∷ rest) command
unfolding audit_of
audit-some rest command h =
    let found = only_if-some (is_empty rest) Audit command h in
    subst (λ (c : Command). Said (codes "audit" ∷ rest) c) found.1 (ap (λ (ps : List (List ℕ)). codes "audit" ∷ ps) (no_part rest found.0))

said_of : (parts rest : List (List ℕ)) (word text : List ℕ) (command : Command) → parts ≡ word ∷ rest → word ≡ text → Said (text ∷ rest) command → Said parts command
said_of parts rest word text command is same said =
    subst (λ (ps : List (List ℕ)). Said ps command) (sym (is ∙ ap (λ (w : List ℕ). w ∷ rest) same)) said

command-some : (parts : List (List ℕ)) (command : Command) → command_of parts ≡ Some command → Said parts command
unfolding command_of
command-some parts command h =
    let next = bind_some (head_of parts) (λ p.
    (if bytes_eq p.0 (codes "show") then show_of p.1
    else if bytes_eq p.0 (codes "replay") then replay_of p.1
    else if bytes_eq p.0 (codes "audit") then audit_of p.1
    else None)) command h in
    let is : parts ≡ next.0.0 ∷ next.0.1 = head-some parts next.0 next.1 in
    elim (if-some (bytes_eq next.0.0 (codes "show")) (show_of next.0.1) _ command next.2) [
      | inl show ↦ said_of parts next.0.1 next.0.0 (codes "show") command is ((bytes_eq-Decides next.0.0 (codes "show")).0 show.0) (show-some next.0.1 command show.1)
      | inr other ↦ elim (if-some (bytes_eq next.0.0 (codes "replay")) (replay_of next.0.1) _ command other.1) [
        | inl replay ↦ said_of parts next.0.1 next.0.0 (codes "replay") command is ((bytes_eq-Decides next.0.0 (codes "replay")).0 replay.0) (replay-some next.0.1 command replay.1)
        | inr third ↦ elim (if-some (bytes_eq next.0.0 (codes "audit")) (audit_of next.0.1) None command third.1) [
          | inl audit ↦ said_of parts next.0.1 next.0.0 (codes "audit") command is ((bytes_eq-Decides next.0.0 (codes "audit")).0 audit.0) (audit-some next.0.1 command audit.1)
          | inr none ↦ absurd (let e : None ≡ Some command = none.1 in cc)
        ]
      ]
    ]

-- ---- what is said is found

pub show-gives : (parts : List (List ℕ)) → parts ≡ codes "show" ∷ [] → command_of parts ≡ Some Show
unfolding command_of head_of show_of
show-gives parts is = ap command_of is

pub replay-gives : (parts : List (List ℕ)) → parts ≡ codes "replay" ∷ [] → command_of parts ≡ Some Replay
unfolding command_of head_of replay_of
replay-gives parts is = ap command_of is

pub journal-gives : (parts : List (List ℕ)) → parts ≡ codes "replay" ∷ codes "--journal" ∷ [] → command_of parts ≡ Some Journal
unfolding command_of head_of replay_of options_of journal_of
journal-gives parts is = ap command_of is

pub audit-gives : (parts : List (List ℕ)) → parts ≡ codes "audit" ∷ [] → command_of parts ≡ Some Audit
unfolding command_of head_of audit_of
audit-gives parts is = ap command_of is

two_options : (a b : Setting) (command : Command) (parts mid : List (List ℕ)) → option_of parts ≡ Some (a, mid) → option_of mid ≡ Some (b, []) → both a b ≡ Some command → generate_of parts ≡ Some command
unfolding generate_of
two_options a b command parts mid first second is =
    ap (λ (o : Option (Setting × List (List ℕ))). o >>= λ p. option_of p.1 >>= λ q. (if is_empty q.1 then both p.0 q.0 else None)) first
    ∙ ap (λ (o : Option (Setting × List (List ℕ))). o >>= λ q. (if is_empty q.1 then both a q.0 else None)) second
    ∙ is

generate-gives : (parts : List (List ℕ)) (seed steps : ℕ) → Generates parts seed steps → generate_of parts ≡ Some (Generate seed steps)
unfolding both
generate-gives parts seed steps g = elim g.order [
  | inl is ↦ two_options (Seed seed) (Steps steps) (Generate seed steps) parts g.steps_parts
      (ap option_of is ∙ option-gives (Seed seed) g.seed_parts g.steps_parts g.seed_spells g.seed_fits)
      (ap option_of (sym (append-nil g.steps_parts)) ∙ option-gives (Steps steps) g.steps_parts [] g.steps_spells g.few_steps) refl
  | inr is ↦ two_options (Steps steps) (Seed seed) (Generate seed steps) parts g.seed_parts
      (ap option_of is ∙ option-gives (Steps steps) g.steps_parts g.seed_parts g.steps_spells g.few_steps)
      (ap option_of (sym (append-nil g.seed_parts)) ∙ option-gives (Seed seed) g.seed_parts [] g.seed_spells g.seed_fits) refl
]

-- `--journal` is none of the two options
no_option : (rest : List (List ℕ)) (command : Command) → generate_of (codes "--journal" ∷ rest) ≡ Some command → ⊥
unfolding generate_of option_of head_of joined_of behind_of apart_of setting_of
no_option [] command h = let e : ◌≡◌ {A = Option Command} None (Some command) = h in cc
no_option (value ∷ rest) command h = let e : ◌≡◌ {A = Option Command} None (Some command) = h in cc

not_first : {A : Type 0} (test : Bool) (x y : A) → (test ≡ true → ⊥) → (if test then x else y) ≡ y
not_first true x y h = absurd (h refl)
not_first false x y h = refl

no_journal : (part : List ℕ) (rest : List (List ℕ)) (command : Command) → generate_of (part ∷ rest) ≡ Some command → bytes_eq part (codes "--journal") ≡ true → ⊥
no_journal part rest command h is =
    let same : part ≡ codes "--journal" = (bytes_eq-Decides part (codes "--journal")).0 is in
    no_option rest command (sym (ap (λ (w : List ℕ). generate_of (w ∷ rest)) same) ∙ h)

replay_with : (rest : List (List ℕ)) (command : Command) → generate_of rest ≡ Some command → replay_of rest ≡ Some command
unfolding replay_of options_of generate_of option_of head_of
replay_with [] command h = absurd (cc)
replay_with (part ∷ rest) command h =
    not_first (bytes_eq part (codes "--journal")) (journal_of rest) (generate_of (part ∷ rest)) (no_journal part rest command h) ∙ h

options-give : (parts rest : List (List ℕ)) (command : Command) → parts ≡ codes "replay" ∷ rest → generate_of rest ≡ Some command → command_of parts ≡ Some command
unfolding command_of head_of
options-give parts rest command is h = ap command_of is ∙ replay_with rest command h

pub generate-said : (words : List (String Global)) (seed steps : ℕ) → IsGenerate words seed steps → command_of (map string_bytes words) ≡ Some (Generate seed steps)
generate-said words seed steps g = elim g.order [
  | inl is ↦ options-give (map string_bytes words) (g.seed_parts ++ g.steps_parts) (Generate seed steps) is (generate-gives (g.seed_parts ++ g.steps_parts) seed steps (record {
    seed_parts = g.seed_parts;
    steps_parts = g.steps_parts;
    seed_spells = g.seed_spells;
    steps_spells = g.steps_spells;
    seed_fits = g.seed_fits;
    few_steps = g.few_steps;
    order = inl refl;
  }))
  | inr is ↦ options-give (map string_bytes words) (g.steps_parts ++ g.seed_parts) (Generate seed steps) is (generate-gives (g.steps_parts ++ g.seed_parts) seed steps (record {
    seed_parts = g.seed_parts;
    steps_parts = g.steps_parts;
    seed_spells = g.seed_spells;
    steps_spells = g.steps_spells;
    seed_fits = g.seed_fits;
    few_steps = g.few_steps;
    order = inr refl;
  }))
]

-- ---- what the words say

ordered : (parts rest a b : List (List ℕ)) → parts ≡ codes "replay" ∷ rest → (rest ≡ a ++ b) ⊎ (rest ≡ b ++ a) → (parts ≡ codes "replay" ∷ (a ++ b)) ⊎ (parts ≡ codes "replay" ∷ (b ++ a))
ordered parts rest a b is order = elim order [
  | inl e ↦ inl (is ∙ ap (λ (ps : List (List ℕ)). codes "replay" ∷ ps) e)
  | inr e ↦ inr (is ∙ ap (λ (ps : List (List ℕ)). codes "replay" ∷ ps) e)
]

read_said : (words : List (String Global)) (command : Command) → Said (map string_bytes words) command → Reads words (Some command)
read_said words Show said = said
read_said words Replay said = said
read_said words Journal said = said
read_said words Audit said = said
read_said words (Generate seed steps) said = let g = said.2 in record {
  seed_parts = g.seed_parts;
  steps_parts = g.steps_parts;
  seed_spells = g.seed_spells;
  steps_spells = g.steps_spells;
  seed_fits = g.seed_fits;
  few_steps = g.few_steps;
  order = ordered (map string_bytes words) said.0 g.seed_parts g.steps_parts said.1 g.order;
}

none_found : (parts : List (List ℕ)) (command : Command) → None ≡ command_of parts → command_of parts ≡ Some command → ⊥
none_found parts command none found = let e : None ≡ Some command = none ∙ found in cc

pub reads_of : (words : List (String Global)) (o : Option Command) → o ≡ command_of (map string_bytes words) → Reads words o
reads_of words None is = record {
  not_show = λ show. none_found (map string_bytes words) Show is (show-gives (map string_bytes words) show);
  not_replay = λ replay. none_found (map string_bytes words) Replay is (replay-gives (map string_bytes words) replay);
  not_journal = λ journal. none_found (map string_bytes words) Journal is (journal-gives (map string_bytes words) journal);
  not_generate = λ seed steps g. none_found (map string_bytes words) (Generate seed steps) is (generate-said words seed steps g);
  not_audit = λ audit. none_found (map string_bytes words) Audit is (audit-gives (map string_bytes words) audit);
}
reads_of words (Some command) is = read_said words command (command-some (map string_bytes words) command (sym is))
