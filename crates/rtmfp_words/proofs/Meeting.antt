-- The words of `meet`: what is read is said, and what is said is read.
use Rattle.std.proofs.Common.{◌≡◌, ◌⊎◌, ℕ, ◌^◌, ◌<◌, ◌≤◌, Bool, true, false, List, [], ◌∷◌, Option, Some, None, refl, sym, ap, ◌∙◌, subst, arith, inl, inr, codes}
use Rattle.std.specs.Prelude.{◌&&◌, not, is_none, nat_le, if◌then◌else◌, map, decimal, String, string_bytes, Result, Ok, Err, MatchResult, IfOk}
use Rattle.std.specs.Str.{bytes_eq}
use Rattle.std.specs.declared.alloc.Global.{Global}
use Rattle.std.proofs.lemmas.Slice.Eq.{bytes_eq-Decides}
use Rattle.rtmfp_script.specs.Fields.{number_of, ◌>>=◌, only_if}
use Rattle.rtmfp_script.proofs.Numbers.{number_of-some, number_of-decimal}
use Rattle.rtmfp_script.proofs.Splits.{some_some, bind_some, only_if-some}
use Rattle.rtmfp_words.specs.Reading.{head_of, is_empty}
use Rattle.rtmfp_words.specs.Items.{Scanned, empty}
use Rattle.rtmfp_words.specs.ItemReading.{scan_of}
use Rattle.rtmfp_words.specs.Node.{Commands, IsMeet, IsPort, AreTurns, meet_options}
use Rattle.rtmfp_words.specs.NodeReading.{scan_behind, number_within, turns_of, is_bare, meet_from, meet_of}
use Rattle.rtmfp_words.specs.declared.meet_words.MeetWords.{MeetWords}
use Rattle.rtmfp_words.specs.declared.fault.WordsFault.{WordsFault}
use Rattle.rtmfp_words.specs.declared.fault.WordsFault.TheVariants.{Faulty, Memory}
use Rattle.rtmfp_words.proofs.Texts.{if-some, head-some, no_part}
use Rattle.rtmfp_words.proofs.Gathering.{scan_of-some, scan_of-scans}

-- ---- the command

pub scan_behind-some : (command : List ℕ) (words : List (String Global)) (s : Scanned) → scan_behind command (map string_bytes words) ≡ Some s → Commands command words s
unfolding scan_behind
scan_behind-some command words s h =
    let n = bind_some (head_of (map string_bytes words)) (λ p. if bytes_eq p.0 command then scan_of p.1 else None) s h in
    elim (if-some (bytes_eq n.0.0 command) (scan_of n.0.1) None s n.2) [
      | inl a ↦ record {
        parts = n.0.1;
        begins = head-some (map string_bytes words) n.0 n.1 ∙ ap (λ (w : List ℕ). w ∷ n.0.1) ((bytes_eq-Decides n.0.0 command).0 a.0);
        scans = scan_of-some n.0.1 s a.1;
      }
      | inr b ↦ absurd (let e : None ≡ Some s = b.1 in cc)
    ]

first_part : (command : List ℕ) (parts : List (List ℕ)) (s : Scanned) → bytes_eq command command ≡ true → scan_of parts ≡ Some s → scan_behind command (command ∷ parts) ≡ Some s
unfolding scan_behind head_of
first_part command parts s same is = rw same is

pub scan_behind-said : (command : List ℕ) (words : List (String Global)) (s : Scanned) → Commands command words s → scan_behind command (map string_bytes words) ≡ Some s
scan_behind-said command words s said =
    ap (scan_behind command) said.begins
    ∙ first_part command said.parts s ((bytes_eq-Decides command command).1 refl) (scan_of-scans said.parts s said.scans)

-- ---- numbers

pub within-some : (least most : ℕ) (word : List ℕ) (n : ℕ) → number_within least most word ≡ Some n → (word ≡ decimal n) × (least ≤ n) × (n ≤ most)
unfolding number_within
within-some least most word n h =
    let b = bind_some (number_of word) (λ m. only_if (nat_le least m && nat_le m most) m) n h in
    let p = only_if-some (nat_le least b.0 && nat_le b.0 most) b.0 n b.2 in
    let bounds : (least ≤ b.0) × (b.0 ≤ most) = grind (arith, p.0) in
    let P : ℕ → Type 0 = λ m. (word ≡ decimal m) × (least ≤ m) × (m ≤ most) in
    subst P p.1 ((number_of-some word b.0 b.1).0, bounds.0, bounds.1)

pub within-decimal : (least most n : ℕ) → least ≤ n → n ≤ most → most < 2 ^ 64 → number_within least most (decimal n) ≡ Some n
unfolding number_within
within-decimal least most n low high fits =
    let test : (nat_le least n && nat_le n most) ≡ true = grind arith in
    ap (λ (o : Option ℕ). o >>= λ m. only_if (nat_le least m && nat_le m most) m) (number_of-decimal n (omega arith))
    ∙ ap (λ (b : Bool). only_if b n) test

-- ---- `meet`

both_true : (a b : Bool) → (a && b) ≡ true → (a ≡ true) × (b ≡ true)
both_true true b h = (refl, h)
both_true false b h = absurd (cc)

pub none_is : {A : Type 0} (o : Option A) → is_none o ≡ true → o ≡ None
none_is None h = refl
none_is (Some x) h = absurd (cc)

not_true : (b : Bool) → not b ≡ true → b ≡ false
not_true true h = absurd (cc)
not_true false h = refl

unfoldable pub options : List (List ℕ) → Option (List ℕ) → Option (List ℕ) → Option (List ℕ) → Option (List ℕ) → Option (List ℕ) → Option (List ℕ) → Option (List ℕ) → Bool → Scanned
options p t o i s n v j f = record { plain = p; turns = t; port = o; instance = i; send = s; next = n; advance = v; journal = j; introduce = f }

-- nothing but these two
bare_is : (s : Scanned) (turns port : List ℕ) → is_bare s ≡ true → s.turns ≡ Some turns → s.port ≡ Some port → s ≡ record empty { turns = Some turns; port = Some port }
unfolding options
bare_is s turns port bare t p =
    let a = both_true (is_empty s.plain) (is_none s.instance && (is_none s.send && (is_none s.next && (is_none s.advance && (is_none s.journal && not s.introduce))))) bare in
    let b = both_true (is_none s.instance) (is_none s.send && (is_none s.next && (is_none s.advance && (is_none s.journal && not s.introduce)))) a.1 in
    let c = both_true (is_none s.send) (is_none s.next && (is_none s.advance && (is_none s.journal && not s.introduce))) b.1 in
    let d = both_true (is_none s.next) (is_none s.advance && (is_none s.journal && not s.introduce)) c.1 in
    let e = both_true (is_none s.advance) (is_none s.journal && not s.introduce) d.1 in
    let f = both_true (is_none s.journal) (not s.introduce) e.1 in
    ap (λ x. options x s.turns s.port s.instance s.send s.next s.advance s.journal s.introduce) (no_part s.plain a.0)
    ∙ ap (λ x. options [] x s.port s.instance s.send s.next s.advance s.journal s.introduce) t
    ∙ ap (λ x. options [] (Some turns) x s.instance s.send s.next s.advance s.journal s.introduce) p
    ∙ ap (λ x. options [] (Some turns) (Some port) x s.send s.next s.advance s.journal s.introduce) (none_is s.instance b.0)
    ∙ ap (λ x. options [] (Some turns) (Some port) None x s.next s.advance s.journal s.introduce) (none_is s.send c.0)
    ∙ ap (λ x. options [] (Some turns) (Some port) None None x s.advance s.journal s.introduce) (none_is s.next d.0)
    ∙ ap (λ x. options [] (Some turns) (Some port) None None None x s.journal s.introduce) (none_is s.advance e.0)
    ∙ ap (λ x. options [] (Some turns) (Some port) None None None None x s.introduce) (none_is s.journal f.0)
    ∙ ap (λ x. options [] (Some turns) (Some port) None None None None None x) (not_true s.introduce f.1)

meet_texts : List ℕ → List ℕ → Scanned
meet_texts turns port = record empty { turns = Some turns; port = Some port }

-- the values of the two
record Meets (s : Scanned) (m : MeetWords) : Type 0 where
  options : s ≡ meet_options m.port m.turns
  port_fits : IsPort m.port
  turns_fit : AreTurns m.turns

meet_from-some : (s : Scanned) (m : MeetWords) → meet_from s ≡ Some m → Meets s m
unfolding meet_from meet_texts
meet_from-some s m h = elim (if-some (is_bare s) _ None m h) [
  | inr other ↦ absurd (let e : None ≡ Some m = other.1 in cc)
  | inl bare ↦
      let p = bind_some (s.port >>= number_within 1 65533) (λ port. turns_of s >>= λ turns. Some (record { port = port; turns = turns })) m bare.1 in
      let t = bind_some (turns_of s) (λ turns. Some (record { port = p.0; turns = turns })) m p.2 in
      let port = bind_some s.port (number_within 1 65533) p.0 p.1 in
      let turns = bind_some s.turns (number_within 1 1000000) t.0 t.1 in
      let port_is = within-some 1 65533 port.0 p.0 port.2 in
      let turns_is = within-some 1 1000000 turns.0 t.0 turns.2 in
      subst (λ (x : MeetWords). Meets s x) (some_some (record { port = p.0; turns = t.0 }) m t.2) (record {
        options = bare_is s turns.0 port.0 bare.0 turns.1 port.1
            ∙ ap (λ w. meet_texts w port.0) turns_is.0 ∙ ap (λ w. meet_texts (decimal t.0) w) port_is.0;
        port_fits = record { some = port_is.1; most = port_is.2 };
        turns_fit = record { some = turns_is.1; most = turns_is.2 };
      })
]

meet_from-said : (port turns : ℕ) → IsPort port → AreTurns turns → meet_from (meet_options port turns) ≡ Some (record { port = port; turns = turns })
unfolding meet_from
meet_from-said port turns p t =
    ap (λ (o : Option ℕ). o >>= λ x. number_within 1 1000000 (decimal turns) >>= λ y. Some (record { port = x; turns = y })) (within-decimal 1 65533 port p.some p.most (omega arith))
    ∙ ap (λ (o : Option ℕ). o >>= λ y. Some (record { port = port; turns = y })) (within-decimal 1 1000000 turns t.some t.most (omega arith))

-- as the reader tells it
pub meet_read : (words : List (String Global)) (m : MeetWords) → meet_of (map string_bytes words) ≡ Some m → IsMeet words m.port m.turns
unfolding meet_of
meet_read words m h =
    let n = bind_some (scan_behind (codes "meet") (map string_bytes words)) meet_from m h in
    let told = meet_from-some n.0 m n.2 in record {
      said = subst (λ (s : Scanned). Commands (codes "meet") words s) told.options (scan_behind-some (codes "meet") words n.0 n.1);
      port_fits = told.port_fits;
      turns_fit = told.turns_fit;
    }

pub meet_said : (words : List (String Global)) (port turns : ℕ) → IsMeet words port turns → meet_of (map string_bytes words) ≡ Some (record { port = port; turns = turns })
unfolding meet_of
meet_said words port turns h =
    ap (λ (o : Option Scanned). o >>= meet_from) (scan_behind-said (codes "meet") words (meet_options port turns) h.said)
    ∙ meet_from-said port turns h.port_fits h.turns_fit

-- what was found is what is said, where the reader doesn't want memory
pub found_or_memory : {A : Type 0} (found : Option A) (result : Result A WordsFault) (a : A) → MatchResult result (λ x. found ≡ Some x) (λ fault. fault ≡ Faulty → found ≡ None) → found ≡ Some a → (result ≡ Ok a) ⊎ (result ≡ Err Memory)
found_or_memory found (Ok x) a is said = inl (ap (λ y. Ok y) (some_some x a (sym is ∙ said)))
found_or_memory found (Err Faulty) a is said = let none : None ≡ Some a = sym (is refl) ∙ said in absurd (cc)
found_or_memory found (Err Memory) a is said = inr refl

pub found_only : {A : Type 0} (found : Option A) (result : Result A WordsFault) (Said : A → Type 0) → MatchResult result (λ x. found ≡ Some x) (λ fault. fault ≡ Faulty → found ≡ None) → ((x : A) → found ≡ Some x → Said x) → IfOk result Said
found_only found (Ok x) Said is reads = reads x is
found_only found (Err _) Said is reads = tt
