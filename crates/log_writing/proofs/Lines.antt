-- The lines of entries and events, as their parts are added.
use Rattle.std.proofs.Common.{◌≡◌, ℕ, List, [], ◌∷◌, ◌++◌, map, codes, Option, Some, None, true, is_some, filter_map, sym, ap, ◌∙◌, refl, append_assoc}
use Rattle.std.specs.List.{cons_option}
use Rattle.rtmfp_forms.specs.Address.{AddressParts}
use Rattle.rtmfp_text.specs.AddressText.{address_text}
use Rattle.rtmfp_text.proofs.Pushes.{push_then, push_end}
use Rattle.crypto_profile.specs.declared.keys.Context.{Context}
use Rattle.endpoint_model.specs.declared.entry.Entry.{Entry}
use Rattle.endpoint_model.specs.Event.{Setup, Event, moment_at}
use Rattle.endpoint_laws.specs.Past.{last_moment}
use Rattle.endpoint_laws.specs.History.{Happened, History, log_of}
use Rattle.audit_text.specs.declared.line.LogCall.{LogCall}
use Rattle.audit_text.specs.declared.line.LogCall.TheVariants.{Receive}
use Rattle.audit_text.specs.declared.line.LogEntry.{LogEntry}
use Rattle.audit_text.specs.declared.line.LogEntry.TheVariants.{Out}
use Rattle.audit_text.specs.declared.line.LogHead.{LogHead}
use Rattle.audit_text.specs.declared.line.LogLine.{LogLine}
use Rattle.audit_text.specs.declared.line.LogLine.TheVariants.{Log as LogIs, Event as EventIs, Entry as EntryIs}
use Rattle.audit_text.specs.Grammar.{call_text, entry_text, line_text}
use Rattle.audit_text.proofs.Written.{push_only}
use Rattle.log_writing.specs.Texts.{text_in}
use Rattle.log_writing.specs.Written.{plain, entry_lines, event_lines, head_line, head_lines, journal_lines, journal_text, lines_said, text_of, written_call, written_entry, written_nonce}

-- An origin isn't told.
pub plain_receive : (from : AddressParts) (datagram : List ℕ) → call_text (Receive from datagram) ≡ call_text (Receive (plain from) datagram)
unfolding call_text address_text
plain_receive from datagram = refl

pub plain_out : (to : AddressParts) (datagram : List ℕ) (context : Context) → entry_text (Out to datagram context) ≡ entry_text (Out (plain to) datagram context)
unfolding entry_text address_text
plain_out to datagram context = refl

-- the line of an entry that is written
pub entry_added : (old mark told new : List ℕ) (w : Option LogEntry) → is_some w ≡ true → mark ≡ old ++ codes "+ " → told ≡ mark ++ text_in w → new ≡ told ++ codes "\n" →
    new ≡ old ++ text_of (map EntryIs (cons_option w []))
unfolding line_text
entry_added old mark told new None is a b e = cc
entry_added old mark told new (Some entry) is a b e = (push_then (codes "+ ") a (push_then (entry_text entry) b (push_end (codes "\n") e))).joined

-- the lines of an event
pub event_added : (old front mid ended new name nonce : List ℕ) (moment : ℕ) (call : LogCall) (entries : List Entry) →
    front ++ call_text call ≡ old ++ line_text (EventIs name (record { moment = moment; nonce = nonce; call = call })) →
    mid ≡ front ++ call_text call → ended ≡ mid ++ codes "\n" → new ≡ ended ++ text_of (entry_lines entries) →
    new ≡ old ++ text_of (lines_said name moment nonce call entries)
event_added old front mid ended new name nonce moment call entries a b e f =
    (push_then (line_text (EventIs name (record { moment = moment; nonce = nonce; call = call }))) (b ∙ a) (push_then (codes "\n") e (push_only (text_of (entry_lines entries)) f))).joined

pub lines_are : (name : List ℕ) (moment : ℕ) (e : Event) (nonce : List ℕ) (call : LogCall) (entries : List Entry) → written_nonce e.call ≡ nonce → written_call e.call ≡ call → e.entries ≡ entries →
    lines_said name moment nonce call entries ≡ event_lines name moment e
lines_are name moment e nonce call entries a b c = sym (
    ap (λ (n : List ℕ). lines_said name moment n (written_call e.call) e.entries) a
    ∙ ap (λ (k : LogCall). lines_said name moment nonce k e.entries) b
    ∙ ap (λ (es : List Entry). lines_said name moment nonce call es) c)

-- the line of what an end was given first
head_told : (name : List ℕ) (setup : Setup) (peers sessions generation : ℕ) (secret cookie_secret cert : List ℕ) → setup.config.max_peers ≡ peers → setup.config.max_sessions ≡ sessions → setup.generation ≡ generation →
    setup.secret ≡ secret → setup.cookie_secret ≡ cookie_secret → setup.cert ≡ cert →
    LogIs name (record { max_peers = peers; max_sessions = sessions; generation = generation; secret = secret; cookie_secret = cookie_secret; cert = cert }) ≡ head_line name setup
head_told name setup peers sessions generation secret cookie_secret cert a b c d e f = cc

pub head_is : (name : List ℕ) (setup : Setup) (head : LogHead) → setup.config.max_peers ≡ head.max_peers → setup.config.max_sessions ≡ head.max_sessions → setup.generation ≡ head.generation →
    setup.secret ≡ head.secret → setup.cookie_secret ≡ head.cookie_secret → setup.cert ≡ head.cert → LogIs name head ≡ head_line name setup
head_is name setup head a b c d e f = head_told name setup head.max_peers head.max_sessions head.generation head.secret head.cookie_secret head.cert a b c d e f

pub head_added : (old mid new name : List ℕ) (head : LogHead) (line : LogLine) → LogIs name head ≡ line → mid ≡ old ++ line_text (LogIs name head) → new ≡ mid ++ codes "\n" → new ≡ old ++ text_of (line ∷ [])
head_added old mid new name head line is a b =
    (push_then (line_text (LogIs name head)) a (push_end (codes "\n") b)).joined ∙ ap (λ (l : LogLine). old ++ text_of (l ∷ [])) is

-- texts of lines, one after another
pub texts_joined : (a b : List LogLine) → text_of (a ++ b) ≡ text_of a ++ text_of b
texts_joined [] b = refl
texts_joined (line ∷ a) b =
    ap (λ (xs : List ℕ). line_text line ++ (codes "\n" ++ xs)) (texts_joined a b)
    ∙ sym (append_assoc (line_text line) (codes "\n" ++ text_of a) (text_of b))

pub event_more : (names : ℕ → List ℕ) (setups : List Setup) (h : Happened) (earlier : History) → journal_text names setups (h ∷ earlier) ≡ journal_text names setups earlier ++
    text_of (event_lines (names h.who) (moment_at (last_moment 0 (log_of h.who earlier)) h.event) h.event)
event_more names setups h earlier =
    let heads = text_of (head_lines names 0 setups) in
    let lines = event_lines (names h.who) (moment_at (last_moment 0 (log_of h.who earlier)) h.event) h.event in
    ap (λ (xs : List ℕ). heads ++ xs) (texts_joined (journal_lines names earlier) lines)
    ∙ sym (append_assoc heads (text_of (journal_lines names earlier)) (text_of lines))
