-- Of the words of all commands: each begins with a word of its own.
use Rattle.std.proofs.Common.{◌≡◌, ◌≢◌, ◌⊎◌, ℕ, Bool, true, false, arith, List, [], ◌∷◌, ◌++◌, Option, Some, None, refl, sym, ap, ◌∙◌, inl, inr, codes}
use Rattle.std.specs.Prelude.{map, String, string_bytes, Result, Ok, Err}
use Rattle.std.specs.declared.alloc.Global.{Global}
use Rattle.std.proofs.Common.{subst}
use Rattle.std.specs.Str.{bytes_eq}
use Rattle.rtmfp_script.proofs.Splits.{some_some}
use Rattle.std.proofs.lemmas.Slice.Eq.{bytes_eq-Decides}
use Rattle.rtmfp_words.specs.CommandLine.{BeginsWith, IsFaulty, Says, SaysNode}
use Rattle.rtmfp_words.specs.Node.{IsMeet, IsServe, Serving}
use Rattle.rtmfp_words.specs.Reading.{head_of}
use Rattle.rtmfp_words.specs.Words.{IsAudit, IsGenerate, IsJournal, IsOther, IsReplay, IsShow, Reads}
use Rattle.rtmfp_words.specs.declared.command.Command.{Command}
use Rattle.rtmfp_words.specs.declared.command.Command.TheVariants.{Show, Replay, Journal, Generate, Audit}
use Rattle.rtmfp_words.specs.declared.command_line.CommandLine.{CommandLine}
use Rattle.rtmfp_words.specs.declared.command_line.CommandLine.TheVariants.{Lines, Serve, Meet}
use Rattle.rtmfp_words.specs.declared.fault.WordsFault.{WordsFault}
use Rattle.rtmfp_words.specs.declared.fault.WordsFault.TheVariants.{Faulty, Memory}
use Rattle.rtmfp_words.specs.declared.meet_words.MeetWords.{MeetWords}
use Rattle.rtmfp_words.proofs.Texts.{head-some}

-- ---- first words

pub meet_first : (words : List (String Global)) (port turns : ℕ) → IsMeet words port turns → BeginsWith (codes "meet") words
meet_first words port turns says = (says.said.parts, says.said.begins)

pub serve_first : (words : List (String Global)) (v : Serving) → IsServe words v → BeginsWith (codes "serve") words
serve_first words v says = (says.said.parts, says.said.begins)

pub show_first : (words : List (String Global)) → IsShow words → BeginsWith (codes "show") words
show_first words says = ([], says)

pub replay_first : (words : List (String Global)) → IsReplay words → BeginsWith (codes "replay") words
replay_first words says = ([], says)

pub journal_first : (words : List (String Global)) → IsJournal words → BeginsWith (codes "replay") words
journal_first words says = (codes "--journal" ∷ [], says)

pub generate_first : (words : List (String Global)) (seed steps : ℕ) → IsGenerate words seed steps → BeginsWith (codes "replay") words
generate_first words seed steps says = elim says.order [
  | inl order ↦ (says.seed_parts ++ says.steps_parts, order)
  | inr order ↦ (says.steps_parts ++ says.seed_parts, order)
]

pub audit_first : (words : List (String Global)) → IsAudit words → BeginsWith (codes "audit") words
audit_first words says = ([], says)

abbrev first_of : List (List ℕ) → List ℕ
first_of [] = []
first_of (part ∷ parts) = part

-- words begin with one word
pub one_first : (words : List (String Global)) (word other : List ℕ) → BeginsWith word words → BeginsWith other words → word ≡ other
one_first words word other first second = ap first_of (sym first.1 ∙ second.1)

-- ---- a word that was read

pub is_word : (word text slice : List ℕ) (told : Bool) → slice ≡ text → told ≡ bytes_eq word slice → told ≡ true → word ≡ text
is_word word text slice told whole is yes_it_is = (bytes_eq-Decides word slice).0 (sym is ∙ yes_it_is) ∙ whole

pub is_other : (word text slice : List ℕ) (told : Bool) → slice ≡ text → told ≡ bytes_eq word slice → told ≡ false → word ≢ text
is_other word text slice told whole is not_so same =
    let e : true ≡ false = sym ((bytes_eq-Decides word slice).1 (same ∙ sym whole)) ∙ sym is ∙ not_so in absurd (cc)

pub begins_so : (words : List (String Global)) (word text : List ℕ) (rest : List (List ℕ)) → head_of (map string_bytes words) ≡ Some (word, rest) → word ≡ text → BeginsWith text words
begins_so words word text rest head same = (rest, head-some (map string_bytes words) (word, rest) head ∙ ap (λ w. w ∷ rest) same)

-- ---- refusals

-- what is said is read, so what was refused isn't said
pub not_read : {A : Type 0} (result : Result A WordsFault) (x : A) → result ≡ Err Faulty → (result ≡ Ok x) ⊎ (result ≡ Err Memory) → ⊥
not_read {A} result x is read =
    elim read [
      | inl ok ↦ (let e : ◌≡◌ {A = Result A WordsFault} (Err Faulty) (Ok x) = sym is ∙ ok in cc)
      | inr memory ↦ (let e : ◌≡◌ {A = Result A WordsFault} (Err Faulty) (Err Memory) = sym is ∙ memory in cc)
    ]

pub no_command : (words : List (String Global)) → IsOther words → ((v : Serving) → IsServe words v → ⊥) → ((port turns : ℕ) → IsMeet words port turns → ⊥) → IsFaulty words
no_command words other serve meet = record {
  not_show = other.not_show;
  not_replay = other.not_replay;
  not_journal = other.not_journal;
  not_generate = other.not_generate;
  not_audit = other.not_audit;
  not_serve = serve;
  not_meet = meet;
}

meets_no_serve : codes "meet" ≡ codes "serve" → ⊥
meets_no_serve e = cc

-- the first word is `meet`, and they are no words of it
pub faulty_meet : (words : List (String Global)) → IsOther words → BeginsWith (codes "meet") words → ((port turns : ℕ) → IsMeet words port turns → ⊥) → IsFaulty words
faulty_meet words other begins not =
    no_command words other (λ v says. meets_no_serve (one_first words (codes "meet") (codes "serve") begins (serve_first words v says))) not

pub faulty_serve : (words : List (String Global)) → IsOther words → BeginsWith (codes "serve") words → ((v : Serving) → IsServe words v → ⊥) → IsFaulty words
faulty_serve words other begins not =
    no_command words other not (λ port turns says. meets_no_serve (one_first words (codes "meet") (codes "serve") (meet_first words port turns says) begins))

-- the first word is another
pub faulty_other : (words : List (String Global)) (word : List ℕ) (rest : List (List ℕ)) → IsOther words → head_of (map string_bytes words) ≡ Some (word, rest) → word ≢ codes "meet" → word ≢ codes "serve" → IsFaulty words
faulty_other words word rest other head meet serve =
    let begins : BeginsWith word words = begins_so words word word rest head refl in
    no_command words other (λ v says. serve (one_first words word (codes "serve") begins (serve_first words v says)))
    (λ port turns says. meet (one_first words word (codes "meet") begins (meet_first words port turns says)))

none_there : (parts : List (List ℕ)) (word : List ℕ) (rest : List (List ℕ)) → parts ≡ word ∷ rest → head_of parts ≡ None → ⊥
unfolding head_of
none_there parts word rest is none =
    let e : ◌≡◌ {A = Option (List ℕ × List (List ℕ))} (Some (word, rest)) None = sym (ap head_of is) ∙ none in cc

-- there is no word
pub faulty_none : (words : List (String Global)) → IsOther words → head_of (map string_bytes words) ≡ None → IsFaulty words
faulty_none words other head =
    let nothing : (word : List ℕ) → BeginsWith word words → ⊥ = λ word begins. none_there (map string_bytes words) word begins.0 begins.1 head in
    no_command words other (λ v says. nothing (codes "serve") (serve_first words v says)) (λ port turns says. nothing (codes "meet") (meet_first words port turns says))

-- ---- the two commands of nodes

pub meet_refused : (words : List (String Global)) (result : Result MeetWords WordsFault) (fault : WordsFault) → result ≡ Err fault → IsOther words → BeginsWith (codes "meet") words →
    ((port turns : ℕ) → IsMeet words port turns → (result ≡ Ok (record { port = port; turns = turns })) ⊎ (result ≡ Err Memory)) → SaysNode words (Err fault)
meet_refused words result Faulty is other begins only =
    faulty_meet words other begins (λ port turns says. let said : MeetWords = record { port = port; turns = turns } in not_read result said is (only port turns says))
meet_refused words result Memory is other begins only = inr begins

pub serve_refused : (words : List (String Global)) (result : Result Serving WordsFault) (fault : WordsFault) → result ≡ Err fault → IsOther words → BeginsWith (codes "serve") words →
    ((v : Serving) → IsServe words v → (result ≡ Ok v) ⊎ (result ≡ Err Memory)) → SaysNode words (Err fault)
serve_refused words result Faulty is other begins only = faulty_serve words other begins (λ v says. not_read result v is (only v says))
serve_refused words result Memory is other begins only = inl begins

-- ---- what is said is read

-- what is found is this, or there is no memory
abbrev pub Finds : Result CommandLine WordsFault → CommandLine → Type 0
Finds result line = (result ≡ Ok line) ⊎ (result ≡ Err Memory)

not_two : (words : List (String Global)) (first second : List ℕ) → (first ≡ second → ⊥) → BeginsWith first words → BeginsWith second words → ⊥
not_two words first second apart begins also = apart (one_first words first second begins also)

abbrev letter : List ℕ → ℕ
letter [] = 0
letter (b ∷ word) = b

audit_no_serve : codes "audit" ≡ codes "serve" → ⊥
audit_no_serve e = let first : 97 ≡ 115 = ap letter e in omega (arith, first)

reads_no_serve : (words : List (String Global)) (command : Command) → Reads words (Some command) → BeginsWith (codes "serve") words → ⊥
reads_no_serve words Show reads begins = not_two words (codes "show") (codes "serve") (λ e. cc) (show_first words reads) begins
reads_no_serve words Replay reads begins = not_two words (codes "replay") (codes "serve") (λ e. cc) (replay_first words reads) begins
reads_no_serve words Journal reads begins = not_two words (codes "replay") (codes "serve") (λ e. cc) (journal_first words reads) begins
reads_no_serve words (Generate seed steps) reads begins = not_two words (codes "replay") (codes "serve") (λ e. cc) (generate_first words seed steps reads) begins
reads_no_serve words Audit reads begins = not_two words (codes "audit") (codes "serve") audit_no_serve (audit_first words reads) begins

show_no_meet : codes "show" ≡ codes "meet" → ⊥
show_no_meet e = let first : 115 ≡ 109 = ap letter e in omega (arith, first)

reads_no_meet : (words : List (String Global)) (command : Command) → Reads words (Some command) → BeginsWith (codes "meet") words → ⊥
reads_no_meet words Show reads begins = not_two words (codes "show") (codes "meet") show_no_meet (show_first words reads) begins
reads_no_meet words Replay reads begins = not_two words (codes "replay") (codes "meet") (λ e. cc) (replay_first words reads) begins
reads_no_meet words Journal reads begins = not_two words (codes "replay") (codes "meet") (λ e. cc) (journal_first words reads) begins
reads_no_meet words (Generate seed steps) reads begins = not_two words (codes "replay") (codes "meet") (λ e. cc) (generate_first words seed steps reads) begins
reads_no_meet words Audit reads begins = not_two words (codes "audit") (codes "meet") (λ e. cc) (audit_first words reads) begins

same_command : (r : Option Command) (command other : Command) → r ≡ Some command → r ≡ Some other → Finds (Ok (Lines command)) (Lines other)
same_command r command other is also =
    let same : command ≡ other = some_some command other (sym is ∙ also) in
    let P : Command → Type 0 = λ x. Finds (Ok (Lines command)) (Lines x) in
    subst P same (inl refl)

-- a command over lines
pub lines_only : (words : List (String Global)) (r : Option Command) (command : Command) → r ≡ Some command → Reads words (Some command) → (IsShow words → r ≡ Some Show) → (IsReplay words → r ≡ Some Replay) → (IsJournal words → r ≡ Some Journal) →
    ((seed steps : ℕ) → IsGenerate words seed steps → r ≡ Some (Generate seed steps)) → (IsAudit words → r ≡ Some Audit) → (line : CommandLine) → Says words line → Finds (Ok (Lines command)) line
lines_only words r command is reads show replay journal generate audit (Lines Show) says = same_command r command Show is (show says)
lines_only words r command is reads show replay journal generate audit (Lines Replay) says = same_command r command Replay is (replay says)
lines_only words r command is reads show replay journal generate audit (Lines Journal) says = same_command r command Journal is (journal says)
lines_only words r command is reads show replay journal generate audit (Lines (Generate seed steps)) says = same_command r command (Generate seed steps) is (generate seed steps says)
lines_only words r command is reads show replay journal generate audit (Lines Audit) says = same_command r command Audit is (audit says)
lines_only words r command is reads show replay journal generate audit (Serve v) says = absurd (reads_no_serve words command reads (serve_first words v says))
lines_only words r command is reads show replay journal generate audit (Meet m) says = absurd (reads_no_meet words command reads (meet_first words m.port m.turns says))

-- words that say no command over lines
by_node : (Goal : CommandLine → Type 0) (words : List (String Global)) → IsOther words → ((v : Serving) → IsServe words v → Goal (Serve v)) → ((m : MeetWords) → IsMeet words m.port m.turns → Goal (Meet m)) →
    (line : CommandLine) → Says words line → Goal line
by_node Goal words other serve meet (Lines Show) says = absurd (other.not_show says)
by_node Goal words other serve meet (Lines Replay) says = absurd (other.not_replay says)
by_node Goal words other serve meet (Lines Journal) says = absurd (other.not_journal says)
by_node Goal words other serve meet (Lines (Generate seed steps)) says = absurd (other.not_generate seed steps says)
by_node Goal words other serve meet (Lines Audit) says = absurd (other.not_audit says)
by_node Goal words other serve meet (Serve v) says = serve v says
by_node Goal words other serve meet (Meet m) says = meet m says

-- the words are faulty
pub faulty_only : (words : List (String Global)) (result : Result CommandLine WordsFault) → IsFaulty words → (line : CommandLine) → Says words line → Finds result line
faulty_only words result faulty (Lines Show) says = absurd (faulty.not_show says)
faulty_only words result faulty (Lines Replay) says = absurd (faulty.not_replay says)
faulty_only words result faulty (Lines Journal) says = absurd (faulty.not_journal says)
faulty_only words result faulty (Lines (Generate seed steps)) says = absurd (faulty.not_generate seed steps says)
faulty_only words result faulty (Lines Audit) says = absurd (faulty.not_audit says)
faulty_only words result faulty (Serve v) says = absurd (faulty.not_serve v says)
faulty_only words result faulty (Meet m) says = absurd (faulty.not_meet m.port m.turns says)

pub meet_only : (words : List (String Global)) (result : Result MeetWords WordsFault) (found : MeetWords) → result ≡ Ok found → IsOther words → BeginsWith (codes "meet") words →
    ((port turns : ℕ) → IsMeet words port turns → (result ≡ Ok (record { port = port; turns = turns })) ⊎ (result ≡ Err Memory)) → (line : CommandLine) → Says words line → Finds (Ok (Meet found)) line
meet_only words result found is other begins only =
    by_node (Finds (Ok (Meet found))) words other (λ v says. absurd (meets_no_serve (one_first words (codes "meet") (codes "serve") begins (serve_first words v says)))) (
    λ m says. elim (only m.port m.turns says) [
      | inl read ↦
          let e : ◌≡◌ {A = Result MeetWords WordsFault} (Ok found) (Ok m) = sym is ∙ read in
          let same : found ≡ m = cc in
          let P : MeetWords → Type 0 = λ x. Finds (Ok (Meet found)) (Meet x) in
          subst P same (inl refl)
      | inr memory ↦ let e : ◌≡◌ {A = Result MeetWords WordsFault} (Ok found) (Err Memory) = sym is ∙ memory in absurd (cc)
    ]
    )

pub meet_refused_only : (words : List (String Global)) (result : Result MeetWords WordsFault) (fault : WordsFault) → result ≡ Err fault → IsOther words → BeginsWith (codes "meet") words →
    ((port turns : ℕ) → IsMeet words port turns → (result ≡ Ok (record { port = port; turns = turns })) ⊎ (result ≡ Err Memory)) → (line : CommandLine) → Says words line → Finds (Err fault) line
meet_refused_only words result fault is other begins only =
    by_node (Finds (Err fault)) words other (λ v says. absurd (meets_no_serve (one_first words (codes "meet") (codes "serve") begins (serve_first words v says)))) (
    λ m says. elim (only m.port m.turns says) [
      | inl read ↦ let e : ◌≡◌ {A = Result MeetWords WordsFault} (Err fault) (Ok m) = sym is ∙ read in absurd (cc)
      | inr memory ↦
          let e : ◌≡◌ {A = Result MeetWords WordsFault} (Err fault) (Err Memory) = sym is ∙ memory in
          let same : fault ≡ Memory = cc in
          inr (ap Err same)
    ]
    )

pub serve_only : (words : List (String Global)) (result : Result Serving WordsFault) (found : Serving) → result ≡ Ok found → IsOther words → BeginsWith (codes "serve") words →
    ((v : Serving) → IsServe words v → (result ≡ Ok v) ⊎ (result ≡ Err Memory)) → (line : CommandLine) → Says words line → Finds (Ok (Serve found)) line
serve_only words result found is other begins only =
    by_node (Finds (Ok (Serve found))) words other (
    λ v says. elim (only v says) [
      | inl read ↦
          let e : ◌≡◌ {A = Result Serving WordsFault} (Ok found) (Ok v) = sym is ∙ read in
          let same : found ≡ v = cc in
          let P : Serving → Type 0 = λ x. Finds (Ok (Serve found)) (Serve x) in
          subst P same (inl refl)
      | inr memory ↦ let e : ◌≡◌ {A = Result Serving WordsFault} (Ok found) (Err Memory) = sym is ∙ memory in absurd (cc)
    ]
    ) (λ m says. absurd (meets_no_serve (one_first words (codes "meet") (codes "serve") (meet_first words m.port m.turns says) begins)))

pub serve_refused_only : (words : List (String Global)) (result : Result Serving WordsFault) (fault : WordsFault) → result ≡ Err fault → IsOther words → BeginsWith (codes "serve") words →
    ((v : Serving) → IsServe words v → (result ≡ Ok v) ⊎ (result ≡ Err Memory)) → (line : CommandLine) → Says words line → Finds (Err fault) line
serve_refused_only words result fault is other begins only =
    by_node (Finds (Err fault)) words other (
    λ v says. elim (only v says) [
      | inl read ↦ let e : ◌≡◌ {A = Result Serving WordsFault} (Err fault) (Ok v) = sym is ∙ read in absurd (cc)
      | inr memory ↦
          let e : ◌≡◌ {A = Result Serving WordsFault} (Err fault) (Err Memory) = sym is ∙ memory in
          let same : fault ≡ Memory = cc in
          inr (ap Err same)
    ]
    ) (λ m says. absurd (meets_no_serve (one_first words (codes "meet") (codes "serve") (meet_first words m.port m.turns says) begins)))
