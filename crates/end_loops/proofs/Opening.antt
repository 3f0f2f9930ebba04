-- How a sealed part opens at a place.
use Rattle.std.proofs.Common.{ℕ, ◌≡◌, ◌≤◌, List, ◌++◌, length, take, drop, Bool, true, false, Option, Some, None, Result, Ok, Err, IfOk, IfSome, if◌then◌else◌, nat_lt, not, sym, ap, refl, ◌∙◌, inl, inr}
use Rattle.std.proofs.lemmas.Bool.{cases_lt, lt-ltb, le-ltb}
use Rattle.std.proofs.lemmas.List.{drop-drop, length-take-le, take_at}
use Rattle.std.specs.Str.{bytes_eq}
use Rattle.std.specs.declared.ops.Range.{Range}
use Rattle.crypto_profile.specs.Keys.{Keys}
use Rattle.crypto_profile.specs.declared.sealing.SealFault.{SealFault}
use Rattle.crypto_profile.specs.declared.sealing.SealFault.TheVariants.{Short, BadTag}
use Rattle.crypto_profile.specs.Opening.{open_refusal, plain_of}
use Rattle.crypto_profile.specs.Sealing.{tag_of}
use Rattle.session_core.specs.declared.hearing.Unheard.TheVariants.{Short as ShortPart, BadTag as WrongTag, Repeated as OldNumber}
use Rattle.crypto_profile.specs.Window.{window_answer}
use Rattle.session_core.specs.declared.hearing.Unheard.{Unheard}
use Rattle.session_core.specs.Session.{SessionState}
use Rattle.session_core.specs.Hearing.{answered, count_of, is_new, opened, opens_in, unheard, unheard_by}
use Rattle.endpoint_model.specs.declared.place.Place.{Place}
use Rattle.endpoint_model.specs.State.{State}
use Rattle.endpoint_model.specs.Admission.{heard_by, opened_by, opened_datagram, opened_first, opened_in_startup, places_of, sid_at, startup_keys}
use Rattle.endpoint_model.proofs.Parts.{past_front}
use Rattle.end_state.specs.NamedContext.{named_id}
use Rattle.packet_scramble.specs.Datagram.{sid_of}
use Rattle.rtmfp_base.specs.declared.cause.Cause.{Cause}
use Rattle.rtmfp_base.specs.declared.cause.Cause.TheVariants.{Short as ShortDatagram, UnknownSession}

-- ---- what opens has 32 bytes before its ciphertext, which stay

-- The front of a part stayed, and after it stands its plain packet.
pub record IsOpened (keys : Keys) (old new : List ℕ) : Type 0 where
  pub plain : plain_of keys old ≡ drop 32 new
  pub front : take 32 new ≡ take 32 old

pub is_opened : (keys : Keys) (old new : List ℕ) → 32 ≤ length old → new ≡ take 32 old ++ plain_of keys old → IsOpened keys old new
is_opened keys old new long is =
    let head : length (take 32 old) ≡ 32 = length-take-le 32 old long in
    record {
      plain = sym (ap (drop 32) is ∙ past_front 32 (take 32 old) (plain_of keys old) head);
      front = ap (take 32) is ∙ take_at (take 32 old) (plain_of keys old) 32 head;
    }

-- ---- in the startup context

pub not_short : (keys : Keys) (sid : ℕ) (part : List ℕ) → open_refusal keys sid part ≡ None → 32 ≤ length part
not_short keys sid part none = elim (cases_lt (length part) 32) [
  | inl lt ↦
      let short : open_refusal keys sid part ≡ Some Short = ap (λ b. if b then Some Short else if bytes_eq (take 16 part) (tag_of keys.mac sid (drop 16 part)) then None else Some BadTag) (lt-ltb (length part) 32 lt) in
      let clash : None ≡ Some Short = sym none ∙ short in
      absurd (cc)
  | inr ge ↦ ge
]

pub unrefused : {A : Type 0} (refusal : Option SealFault) (result : Result A SealFault) (x : A) → result ≡ Ok x → IfSome refusal (λ fault. result ≡ Err fault) → refusal ≡ None
unrefused None result x is refused = refl
unrefused (Some fault) result x is refused = absurd (let clash : Ok x ≡ Err fault = sym is ∙ refused in cc)

pub opened_so : (s : State) (place : Place) (keys : Keys) (sid : ℕ) (old new : List ℕ) → keys ≡ startup_keys s place → sid ≡ sid_at place → open_refusal keys sid old ≡ None → IsOpened keys old new → opened_in_startup s place old ≡ Ok (drop 32 new)
opened_so s place keys sid old new are under none opened' =
    sym (ap (λ k. opened_by k old (open_refusal k (sid_at place) old)) are) ∙ sym (ap (λ id. opened_by keys old (open_refusal keys id old)) under) ∙ ap (opened_by keys old) none ∙ ap Ok opened'.plain

-- ---- in a session

pub heard_whole : (why : Option Unheard) (part : List ℕ) (place : Range ℕ) → answered why part ≡ Ok place → why ≡ None
heard_whole None part place e = refl
heard_whole (Some fault) part place e = absurd (cc)

pub unheard_for : (why : Option Unheard) (part : List ℕ) (fault : Unheard) → answered why part ≡ Err fault → why ≡ Some fault
unheard_for None part fault e = absurd (cc)
unheard_for (Some other) part fault e = cc

-- What is heard opens, and has 32 bytes at least.
pub record IsHeard (session : SessionState) (part : List ℕ) : Type 0 where
  pub opens : opens_in session part ≡ true
  pub long : 32 ≤ length part

heard_by_tests : (opens new : Bool) (part : List ℕ) → unheard_by opens new part ≡ None → (opens ≡ true) × (32 ≤ length part)
heard_by_tests opens new part none = elim (cases_lt (length part) 32) [
  | inl lt ↦
      let short : unheard_by opens new part ≡ Some ShortPart = ap (λ b. if b then Some ShortPart else if not opens then Some WrongTag else if not new then Some OldNumber else None) (lt-ltb (length part) 32 lt) in
      let clash : None ≡ Some ShortPart = sym none ∙ short in
      absurd (cc)
  | inr ge ↦ (opens_then opens new part ge none, ge)
]
  where
    after_long : Bool → Bool → Option Unheard
    after_long opens new = if not opens then Some WrongTag else if not new then Some OldNumber else None

    opens_of : (opens new : Bool) → after_long opens new ≡ None → opens ≡ true
    opens_of true new e = refl
    opens_of false new e = absurd (cc)

    opens_then : (opens new : Bool) (part : List ℕ) → 32 ≤ length part → unheard_by opens new part ≡ None → opens ≡ true
    opens_then opens new part ge none =
        opens_of opens new (sym (ap (λ b. if b then Some ShortPart else after_long opens new) (le-ltb (length part) 32 ge)) ∙ none)

pub is_heard : (session : SessionState) (part : List ℕ) → unheard session part ≡ None → IsHeard session part
is_heard session part none = let found = heard_by_tests (opens_in session part) (is_new (window_answer session.window (count_of part))) part none in record { opens = found.0; long = found.1 }

-- what is heard opened in place
pub heard_in_place : (session : SessionState) (part new : List ℕ) → new ≡ opened session part → IsHeard session part → IsOpened session.inward part new
heard_in_place session part new is heard =
    is_opened session.inward part new heard.long (is ∙ ap (λ b. if b then take 32 part ++ plain_of session.inward part else part) heard.opens)

pub heard_plain : (session : SessionState) (part new : List ℕ) → unheard session part ≡ None → IsOpened session.inward part new → heard_by session part (unheard session part) ≡ Ok (drop 32 new)
heard_plain session part new none opened' = ap (heard_by session part) none ∙ ap Ok opened'.plain

-- ---- under session ID 0

-- a datagram that names a session ID is long enough, and names that one
named_so : (datagram : List ℕ) (sid : ℕ) → Some sid ≡ named_id datagram → (nat_lt (length datagram) 36 ≡ false) × (sid ≡ sid_of datagram)
named_so datagram sid named = by (nat_lt (length datagram) 36) refl named
  where
    by : (b : Bool) → nat_lt (length datagram) 36 ≡ b → Some sid ≡ (if b then None else Some (sid_of datagram)) → (nat_lt (length datagram) 36 ≡ false) × (sid ≡ sid_of datagram)
    by true is e = absurd (cc)
    by false is e = (is, cc)

-- where its sealed part opens is where it opens
pub zero_opens : (s : State) (datagram head part new : List ℕ) (sid : ℕ) (result : Result Place Cause) → Some sid ≡ named_id datagram → sid ≡ 0 → datagram ≡ head ++ part → length head ≡ 4 →
    IfOk result (λ place. opened_first s UnknownSession (places_of s 0) part ≡ Ok (place, drop 32 new)) → IfOk result (λ place. opened_datagram s datagram ≡ Ok (place, drop 36 (head ++ new)))
zero_opens s datagram head part new sid (Err cause) named zero split four opens = tt
zero_opens s datagram head part new sid (Ok place) named zero split four opens =
    let names = named_so datagram sid named in
    let behind : drop 4 datagram ≡ part = ap (drop 4) split ∙ past_front 4 head part four in
    let plain : drop 36 (head ++ new) ≡ drop 32 new = sym (drop-drop 32 4 (head ++ new)) ∙ ap (drop 32) (past_front 4 head new four) in
    ap (λ (b : Bool). if b then Err ShortDatagram else opened_first s UnknownSession (places_of s (sid_of datagram)) (drop 4 datagram)) names.0
    ∙ (λ i. opened_first s UnknownSession (places_of s ((sym names.1 ∙ zero) i)) (behind i))
    ∙ opens ∙ ap (λ (l : List ℕ). Ok (place, l)) (sym plain)
