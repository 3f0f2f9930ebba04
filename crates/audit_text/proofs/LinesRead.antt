-- Lines: what is read is said, and what is said is read.
use Rattle.std.proofs.Common.{◌≡◌, ℕ, ◌^◌, ◌≤◌, Bool, true, false, List, [], ◌∷◌, ◌++◌, length, Option, Some, None, Ok, Err, Result, refl, sym, ap, ◌∙◌, subst, inl, inr}
use Rattle.std.specs.Prelude.{◌⊎◌, ◌↔◌, ◌||◌, codes, decimal, nat_le, replicate, if◌then◌else◌, IfOk}
use Rattle.std.specs.Str.{bytes_eq}
use Rattle.std.proofs.lemmas.Bool.{cases_Bool, eq-eqb, eqb-true, le-leb, leb-true}
use Rattle.std.proofs.lemmas.Slice.Eq.{bytes_eq-Decides}
use Rattle.hex.specs.Hex.{encode_lower}
use Rattle.rtmfp_script.specs.Grammar.{IsName}
use Rattle.rtmfp_script.specs.Fields.{name_of, number_below, number_of, split_of}
use Rattle.rtmfp_script.proofs.Splits.{bind_some, only_if-some, some_some, split_joined}
use Rattle.audit_text.specs.declared.line.LogEntry.{LogEntry}
use Rattle.audit_text.specs.declared.line.LogEvent.{LogEvent}
use Rattle.audit_text.specs.declared.line.LogHead.{LogHead}
use Rattle.audit_text.specs.declared.line.LogLine.{LogLine}
use Rattle.audit_text.specs.declared.line.LogLine.TheVariants.{Skip, Log, Event, Entry}
use Rattle.audit_text.specs.declared.reading.LogLineRefusal.{LogLineRefusal}
use Rattle.audit_text.specs.declared.reading.LogLineRefusal.TheVariants.{BadLine, Memory}
use Rattle.audit_text.specs.Grammar.{IsEntry, IsEvent, IsHashed, IsHead, IsLineOf, IsOutside, IsWithin, IsWritable, TakesMemory, call_text, draws, entry_text, line_limit, line_text}
use Rattle.audit_text.specs.Fields.{certificate_of, first_by, of_digits}
use Rattle.audit_text.specs.Readings.{IsRead, LineTakesMemory, call_of, drawn_of, entry_line_of, entry_of, event_of, event_said, is_hashed, line_by, line_of, log_of, told_of}
use Rattle.audit_text.proofs.FieldsRead.{IsSaid, after, by, certificate_of-some, certificate_of-text, first_name, first_nonce, first_number, first_print, first_short, follows, name_first, no_key, nonce_first, number_first, print_first, short_first}
use Rattle.audit_text.proofs.CallsRead.{call_sound, call_whole}
use Rattle.audit_text.proofs.EntriesRead.{entry_sound, entry_whole}

-- ---- what is read is spelled

log_sound : (rest : List ℕ) (said : LogLine) → log_of rest ≡ Some said → IsSaid line_text IsWithin (codes "log") rest said
unfolding log_of line_text
log_sound rest said h =
    let a = bind_some (first_by name_of rest) _ said h in
    let b = bind_some (first_by (number_below (2 ^ 32)) a.0.1) _ said a.2 in
    let c = bind_some (first_by (number_below (2 ^ 32)) b.0.1) _ said b.2 in
    let d = bind_some (first_by number_of c.0.1) _ said c.2 in
    let e = bind_some (first_by (of_digits 64) d.0.1) _ said d.2 in
    let f = bind_some (first_by (of_digits 64) e.0.1) _ said e.2 in
    let g = bind_some (certificate_of f.0.1) _ said f.2 in
    let name = first_name rest a.0 a.1 in
    let peers = first_short a.0.1 b.0 b.1 in
    let sessions = first_short b.0.1 c.0 c.1 in
    let generation = first_number c.0.1 d.0 d.1 in
    let secret = first_print d.0.1 e.0 e.1 in
    let cookie = first_print e.0.1 f.0 f.1 in
    let cert = certificate_of-some f.0.1 g.0 g.1 in
    let head : LogHead = record {
      max_peers = b.0.0;
      max_sessions = c.0.0;
      generation = d.0.0;
      secret = e.0.0;
      cookie_secret = f.0.0;
      cert = g.0;
    } in
    subst (IsSaid line_text IsWithin (codes "log") rest) {x = Log a.0.0 head} (some_some (Log a.0.0 head) said g.2) (record {
      spelled = after (codes "log") rest _ (follows name (follows peers (follows sessions (follows generation (follows secret (follows cookie cert.0))))));
      within = (
        name.is,
        record {
          max_peers = peers.is;
          max_sessions = sessions.is;
          generation = generation.is;
          secret = secret.is;
          cookie_secret = cookie.is;
          cert = cert.1.form;
          bytes = cert.1.bytes;
        },
      );
    })

drawn_back : (drew : Bool) (nonce : List ℕ) → (drew || bytes_eq nonce (replicate 16 0)) ≡ true → drew ≡ false → nonce ≡ replicate 16 0
drawn_back true nonce h e = absurd (cc)
drawn_back false nonce h e = (bytes_eq-Decides nonce (replicate 16 0)).0 h

event_sound : (rest : List ℕ) (said : LogLine) → event_of rest ≡ Some said → IsSaid line_text IsWithin (codes "event") rest said
unfolding event_of drawn_of event_said line_text
event_sound rest said h =
    let a = bind_some (first_by name_of rest) _ said h in
    let b = bind_some (first_by number_of a.0.1) _ said a.2 in
    let c = bind_some (first_by (of_digits 32) b.0.1) _ said b.2 in
    let d = bind_some (call_of c.0.1) _ said c.2 in
    let name = first_name rest a.0 a.1 in
    let moment = first_number a.0.1 b.0 b.1 in
    let nonce = first_nonce b.0.1 c.0 c.1 in
    let call = call_sound c.0.1 d.0 d.1 in
    let event : LogEvent = record { moment = b.0.0; nonce = c.0.0; call = d.0 } in
    let drawn = only_if-some (draws d.0 || bytes_eq c.0.0 (replicate 16 0)) (Event a.0.0 event) said d.2 in
    subst (IsSaid line_text IsWithin (codes "event") rest) {x = Event a.0.0 event} drawn.1 (record {
      spelled = after (codes "event") rest _ (follows name (follows moment (follows nonce call.spelled)));
      within = (
        name.is,
        record {
          moment = moment.is;
          nonce = nonce.is;
          call = call.within;
          drawn = drawn_back (draws d.0) c.0.0 drawn.0;
        },
      );
    })

entry_line_sound : (rest : List ℕ) (said : LogLine) → entry_line_of rest ≡ Some said → IsSaid line_text IsWithin (codes "+") rest said
unfolding entry_line_of line_text
entry_line_sound rest said h =
    let a = bind_some (entry_of rest) (λ entry. Some (Entry entry)) said h in
    let entry = entry_sound rest a.0 a.1 in
    subst (IsSaid line_text IsWithin (codes "+") rest) {x = Entry a.0} (some_some _ _ a.2) (record { spelled = after (codes "+") rest _ entry.spelled; within = entry.within })

by_sound : (word rest : List ℕ) (said : LogLine) → line_by word rest ≡ Some said → IsSaid line_text IsWithin word rest said
unfolding line_by
by_sound word rest said =
    by line_text IsWithin word rest said (codes "log") (log_of rest) _ (log_sound rest said)
    (by line_text IsWithin word rest said (codes "event") (event_of rest) _ (event_sound rest said)
    (by line_text IsWithin word rest said (codes "+") (entry_line_of rest) None (entry_line_sound rest said)
    (no_key line_text IsWithin word rest said)))

says_of : (line : List ℕ) (said : LogLine) → length line ≤ line_limit → line ≡ line_text said → IsWithin said → IsLineOf line said
says_of line Skip fits text within = absurd within
says_of line (Log name head) fits text within = record { fits = fits; says = (text, within) }
says_of line (Event name event) fits text within = record { fits = fits; says = (text, within) }
says_of line (Entry entry) fits text within = record { fits = fits; says = (text, within) }

told_sound : (line : List ℕ) (said : LogLine) → length line ≤ line_limit → told_of line ≡ Some said → IsLineOf line said
unfolding told_of
told_sound line said fits h =
    let a = bind_some (split_of 32 line) (λ a. line_by a.0 a.1) said h in
    let is = by_sound a.0.0 a.0.1 said a.2 in
    says_of line said fits (split_joined 32 line a.0 a.1 ∙ is.spelled) is.within

hashed : (line : List ℕ) → is_hashed line ≡ true → IsHashed line
hashed [] h = absurd (cc)
hashed (b ∷ bytes) h = eqb-true b 35 h

pub line_sound : (line : List ℕ) (said : LogLine) → line_of line ≡ Some said → IsLineOf line said
unfolding line_of
line_sound line said h = elim (cases_Bool (nat_le (length line) line_limit)) [
  | inl fits ↦
      let few : length line ≤ line_limit = leb-true _ _ fits in
      let rest : (if is_hashed line then Some Skip else told_of line) ≡ Some said = rw fits at h in
      elim (cases_Bool (is_hashed line)) [
        | inl is ↦ subst (IsLineOf line) {x = Skip} (some_some Skip said (rw is at rest)) (record { fits = few; says = hashed line is })
        | inr not ↦ told_sound line said few (rw not at rest)
      ]
  | inr long ↦ absurd (let none : None ≡ Some said = rw long at h in cc)
]

-- ---- what is spelled is read

log_whole : (name : List ℕ) (head : LogHead) → IsName name → IsHead head →
    log_of (name ++ 32 ∷ (decimal head.max_peers ++ 32 ∷ (decimal head.max_sessions ++ 32 ∷ (decimal head.generation ++ 32 ∷ (encode_lower head.secret ++ 32 ∷ (encode_lower head.cookie_secret ++ 32 ∷ encode_lower head.cert))))))
    ≡ Some (Log name head)
unfolding log_of
log_whole name head n is =
    let cert : List ℕ = encode_lower head.cert in
    let cookie : List ℕ = encode_lower head.cookie_secret ++ 32 ∷ cert in
    let secret : List ℕ = encode_lower head.secret ++ 32 ∷ cookie in
    let generation : List ℕ = decimal head.generation ++ 32 ∷ secret in
    let sessions : List ℕ = decimal head.max_sessions ++ 32 ∷ generation in
    let peers : List ℕ = decimal head.max_peers ++ 32 ∷ sessions in
    rw (
      name_first name peers n,
      short_first head.max_peers sessions is.max_peers,
      short_first head.max_sessions generation is.max_sessions,
      number_first head.generation secret is.generation,
      print_first head.secret cookie is.secret,
      print_first head.cookie_secret cert is.cookie_secret,
      certificate_of-text head.cert (record { form = is.cert; bytes = is.bytes }),
    ) refl

drawn_test : (drew : Bool) (nonce : List ℕ) → (drew ≡ false → nonce ≡ replicate 16 0) → (drew || bytes_eq nonce (replicate 16 0)) ≡ true
drawn_test true nonce h = refl
drawn_test false nonce h = (bytes_eq-Decides nonce (replicate 16 0)).1 (h refl)

event_whole : (name : List ℕ) (event : LogEvent) → IsName name → IsEvent event →
    event_of (name ++ 32 ∷ (decimal event.moment ++ 32 ∷ (encode_lower event.nonce ++ 32 ∷ call_text event.call))) ≡ Some (Event name event)
unfolding event_of drawn_of event_said
event_whole name event n is =
    let call : List ℕ = call_text event.call in
    let nonce : List ℕ = encode_lower event.nonce ++ 32 ∷ call in
    let moment : List ℕ = decimal event.moment ++ 32 ∷ nonce in
    rw (
      name_first name moment n,
      number_first event.moment nonce is.moment,
      nonce_first event.nonce call is.nonce,
      call_whole event.call is.call,
      drawn_test (draws event.call) event.nonce is.drawn,
    ) refl

entry_line_whole : (entry : LogEntry) → IsEntry entry → entry_line_of (entry_text entry) ≡ Some (Entry entry)
unfolding entry_line_of
entry_line_whole entry is = rw (entry_whole entry is) refl

told_whole : (said : LogLine) → IsWithin said → told_of (line_text said) ≡ Some said
unfolding split_of told_of line_by line_text
told_whole Skip w = absurd w
told_whole (Log name head) w = log_whole name head w.0 w.1
told_whole (Event name event) w = event_whole name event w.0 w.1
told_whole (Entry entry) w = entry_line_whole entry w

no_hash : (said : LogLine) → IsWithin said → is_hashed (line_text said) ≡ false
unfolding line_text
no_hash Skip w = absurd w
no_hash (Log name head) w = refl
no_hash (Event name event) w = refl
no_hash (Entry entry) w = refl

line_fits : (line : List ℕ) (said : LogLine) → length line ≤ line_limit → (if is_hashed line then Some Skip else told_of line) ≡ Some said → line_of line ≡ Some said
unfolding line_of
line_fits line said fits h =
    let few : nat_le (length line) line_limit ≡ true = le-leb _ _ fits in
    rw few h

text_whole : (said : LogLine) → IsWithin said → (if is_hashed (line_text said) then Some Skip else told_of (line_text said)) ≡ Some said
text_whole said w = rw (no_hash said w) (told_whole said w)

spelled_whole : (line : List ℕ) (said : LogLine) → length line ≤ line_limit → line ≡ line_text said → IsWithin said → line_of line ≡ Some said
spelled_whole line said fits text within =
    line_fits line said fits (subst (λ (xs : List ℕ). (if is_hashed xs then Some Skip else told_of xs) ≡ Some said) (sym text) (text_whole said within))

hash_test : (line : List ℕ) → IsHashed line → is_hashed line ≡ true
hash_test [] is = absurd is
hash_test (b ∷ bytes) is = eq-eqb b 35 is

skip_whole : (line : List ℕ) → length line ≤ line_limit → IsHashed line → line_of line ≡ Some Skip
skip_whole line fits is = line_fits line Skip fits (rw (hash_test line is) refl)

pub line_whole : (line : List ℕ) (said : LogLine) → IsLineOf line said → line_of line ≡ Some said
line_whole line Skip is = skip_whole line is.fits is.says
line_whole line (Log name head) is = spelled_whole line (Log name head) is.fits is.says.0 is.says.1
line_whole line (Event name event) is = spelled_whole line (Event name event) is.fits is.says.0 is.says.1
line_whole line (Entry entry) is = spelled_whole line (Entry entry) is.fits is.says.0 is.says.1

-- ---- what the reader promises

pub outside : (line : List ℕ) → line_of line ≡ None → IsOutside line
outside line none = λ said is. (let both : None ≡ Some said = sym none ∙ line_whole line said is in cc both)

pub not_read : (line : List ℕ) → IsOutside line → line_of line ≡ None
not_read line none = by_option (line_of line) refl
  where
    by_option : (o : Option LogLine) → line_of line ≡ o → line_of line ≡ None
    by_option None e = e
    by_option (Some said) e = absurd (none said (line_sound line said e))

pub reads : (line : List ℕ) (result : Result LogLine LogLineRefusal) → IsRead (line_of line) result → IfOk result (λ said. IsLineOf line said)
reads line (Ok said) is = line_sound line said is
reads line (Err refusal) is = tt

pub only : (line : List ℕ) (result : Result LogLine LogLineRefusal) → IsRead (line_of line) result → (said : LogLine) → IsLineOf line said → (result ≡ Ok said) ⊎ (result ≡ Err Memory)
only line (Ok read) is said says = inl (ap Ok (some_some read said (sym is ∙ line_whole line said says)))
only line (Err BadLine) is said says = absurd (outside line is said says)
only line (Err Memory) is said says = inr refl

pub bad : (line : List ℕ) (result : Result LogLine LogLineRefusal) → IsRead (line_of line) result → (result ≡ Err BadLine) ↔ IsOutside line
bad line (Ok read) is = (λ e. absurd (cc e), λ none. absurd (none read (line_sound line read is)))
bad line (Err BadLine) is = (λ e. outside line is, λ none. refl)
bad line (Err Memory) is = (λ e. absurd (cc e), λ none. absurd (subst LineTakesMemory (not_read line none) is))

takes : (line : List ℕ) (o : Option LogLine) → line_of line ≡ o → LineTakesMemory o → (said : LogLine) × (IsLineOf line said × TakesMemory said)
takes line None e h = absurd h
takes line (Some said) e h = (said, (line_sound line said e, h))

pub memory : (line : List ℕ) (result : Result LogLine LogLineRefusal) → IsRead (line_of line) result → result ≡ Err Memory → (said : LogLine) × (IsLineOf line said × TakesMemory said)
memory line (Ok read) is e = absurd (cc e)
memory line (Err BadLine) is e = absurd (cc e)
memory line (Err Memory) is e = takes line (line_of line) refl is

-- ---- laws

pub read_back : (said : LogLine) → IsWritable said → IsLineOf (line_text said) said
read_back said is = says_of (line_text said) said is.fits refl is.within

pub read_written : (line : List ℕ) (said : LogLine) → IsLineOf line said → (IsHashed line → ⊥) → IsWritable said × (line ≡ line_text said)
read_written line Skip is not = absurd (not is.says)
read_written line (Log name head) is not = (record { within = is.says.1; fits = subst (λ (xs : List ℕ). length xs ≤ line_limit) is.says.0 is.fits }, is.says.0)
read_written line (Event name event) is not = (record { within = is.says.1; fits = subst (λ (xs : List ℕ). length xs ≤ line_limit) is.says.0 is.fits }, is.says.0)
read_written line (Entry entry) is not = (record { within = is.says.1; fits = subst (λ (xs : List ℕ). length xs ≤ line_limit) is.says.0 is.fits }, is.says.0)

pub written_back : (said : LogLine) (text : List ℕ) → text ≡ line_text said ++ codes "\n" → IsWritable said → (bytes : List ℕ) × ((text ≡ bytes ++ codes "\n") × IsLineOf bytes said)
written_back said text e w = (line_text said, (e, read_back said w))

pub one_saying : (line : List ℕ) (a b : LogLine) → IsLineOf line a → IsLineOf line b → a ≡ b
one_saying line a b p q = some_some a b (sym (line_whole line a p) ∙ line_whole line b q)

pub one_text : (a b : LogLine) → IsWritable a → IsWritable b → line_text a ≡ line_text b → a ≡ b
one_text a b p q e = one_saying (line_text b) a b (subst (λ (xs : List ℕ). IsLineOf xs a) e (read_back a p)) (read_back b q)
