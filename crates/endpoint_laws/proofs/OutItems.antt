-- What calls do but for the chunks of datagrams: each datagram that goes out meets its line.
use Rattle.std.proofs.Common.{◌≡◌, ◌==◌, ℕ, ◌+◌, ◌^◌, ◌<◌, ◌≤◌, List, [], ◌∷◌, length, Option, Some, None, inl, inr, ◌⊎◌, refl, sym, ap, subst, ◌∙◌, Bool, true, false, if◌then◌else◌, arith}
use Rattle.std.specs.FinMap.{get, insert, remove}
use Rattle.rtmfp_base.proofs.Maps.{get_inserted, found_inserted, found_left}
use Rattle.rtmfp_forms.specs.Address.{AddressParts}
use Rattle.glare_core.specs.declared.facts.Fact.{Fact}
use Rattle.glare_core.specs.declared.facts.Why.TheVariants.{Cancelled, Expired}
use Rattle.glare_core.specs.declared.facts.Held.{Held}
use Rattle.glare_core.specs.declared.facts.Held.TheVariants.{Opening as OpeningHeld, HalfOpen, KeptAsResponder, KeptAsInitiator}
use Rattle.glare_core.specs.Standing.{held}
use Rattle.glare_core.specs.Ledger.{held_with}
use Rattle.glare_core.specs.Calls.{confirmed_fact, started_fact}
use Rattle.glare_core.proofs.Accounts.{reads_held}
use Rattle.startup.specs.declared.answer.Answer.{Answer}
use Rattle.startup.specs.declared.answer.Due.TheVariants.{Ended as EndDue}
use Rattle.rtmfp_base.specs.declared.cause.Cause.{Cause}
use Rattle.startup.specs.declared.attempt.Stage.{Stage}
use Rattle.startup.specs.declared.attempt.Stage.TheVariants.{Hello, Keying}
use Rattle.startup_packets.specs.Packets.{ihello_packet}
use Rattle.glare_core.specs.declared.facts.Fact.TheVariants.{Started, Confirmed, Ended}
use Rattle.startup.specs.declared.aim.Aim.{Aim}
use Rattle.startup.specs.declared.aim.Aim.TheVariants.{AtPeer, ByName}
use Rattle.startup.specs.Aims.{IsHeldAs, discriminator_of_aim, keying_of_aim, end_of_aim}
use Rattle.identity.specs.ServiceNames.{IsServiceName}
use Rattle.glare_core.specs.declared.facts.Why.{Why}
use Rattle.startup.specs.State.{AttemptState, Attempts, FitsStage, StartupState}
use Rattle.startup.specs.Attempts.{lowest, has_number, with_attempt, without_attempt, without_attempt_by, end_of, after_end_of, begun_attempt, after_begin, begun_search, has_search, after_unseek, distinct_candidates, confirm_fact, after_confirm, keying_under}
use Rattle.crypto_profile.specs.Keys.{sign_key_of, startup_keys_of}
use Rattle.startup.specs.Due.{repeated, repeat_of, repeat_under}
use Rattle.session_core.specs.Session.{is_opening, confirmed}
use Rattle.endpoint_model.specs.declared.row.Row.{Row}
use Rattle.endpoint_model.specs.declared.config.Draws.{Draws}
use Rattle.endpoint_model.specs.declared.place.Place.{Place}
use Rattle.endpoint_model.specs.declared.place.Place.TheVariants.{Startup as StartupPlace, Attempt, Session}
use Rattle.endpoint_model.specs.declared.entry.Entry.{Entry}
use Rattle.endpoint_model.specs.declared.entry.Entry.TheVariants.{Fact as FactEntry, Sought, Unsought, Discard}
use Rattle.endpoint_model.specs.Event.{Setup, own_of, Call, Open, Seek}
use Rattle.endpoint_laws.specs.Contexts.{Secrets}
use Rattle.endpoint_laws.specs.Past.{Past, Stamped, stamped, onto, facts_of, fact_and, fact_done, out_done, sought_done, last_call, open_of, seek_of, opened_tag, sought_tag, tag_of}
use Rattle.endpoint_model.specs.State.{State, Did, nothing, fact_entries, with_startup, with_row, with_session, with_sealed, free_from}
use Rattle.endpoint_model.specs.Sending.{last_count, sent_startup, sent_answer, sent_each}
use Rattle.endpoint_model.specs.Admission.{confirming, confirming_by}
use Rattle.rtmfp_base.proofs.Lowest.{first_is_there}
use Rattle.endpoint_model.specs.Effects.{opening, seeking, unseeking, cancelling, due_done, discarded}
use Rattle.endpoint_laws.proofs.Lines.{EntriesMeet, OutPart}
use Rattle.endpoint_laws.proofs.Tied.{Tied}
use Rattle.endpoint_laws.proofs.OutNumbers.{numbered_fact, numbered_quiet, numbered_changed}
use Rattle.endpoint_laws.proofs.OutHeld.{IsSized, AreSized, HasSizes, held_sized}
use Rattle.endpoint_laws.proofs.OutSends.{IsNarrow, IsNamed, IsShort, AreShort, Measured, measured, Sent, Meets, MayGo, KeyingMay, KeyedIn, meets_nothing, meets_after, meets_then, keying_out, meets_startup, IsUnder, under_has}
use Rattle.endpoint_laws.proofs.Staged.{Staged, StagesAre, StagesBeside, KeptAre, TagsAre, tags_quiet, tags_left, tags_put, tags_started, tags_sought, hello_started, hello_sought, beside_quiet, beside_begun, stages_beside, stages_left, stages_put, stages_begun, kept_beside, kept_same, kept_attempt, kept_nothing, staged_quiet, staged_alike}
use Rattle.endpoint_laws.specs.Groups.{HasSecret, IsStageOf}
use Rattle.endpoint_laws.specs.Lawful.{KeyingGoesIn}
use Rattle.endpoint_laws.proofs.OutKeyings.{ihello_may, iikeying_may}
use Rattle.crypto_profile.specs.declared.group.GroupSecret.{GroupSecret}

-- ---- attempts towards a peer

abbrev pub IsAtPeer : Aim → Type 0
IsAtPeer (AtPeer peer n) = Unit {0}
IsAtPeer (ByName name) = ⊥

-- in the keying stage it is one
pub keyed_towards : (aim : Aim) (stage : Stage) (at : AddressParts) (cookie : List ℕ) (under : GroupSecret) → stage ≡ Keying at cookie under → FitsStage aim stage → IsAtPeer aim
keyed_towards (AtPeer peer n) stage at cookie under is fits = tt
keyed_towards (ByName name) Hello at cookie under is fits = absurd (cc)
keyed_towards (ByName name) (Keying other old kept) at cookie under is fits = fits

-- ---- what is kept when something changes

pub short_put : (attempts : Attempts) (near : ℕ) (a : AttemptState) → AreShort attempts → IsShort a → AreShort (insert attempts near a)
short_put attempts near a all one q b e = elim (found_inserted attempts near a q b e) [
  | inl d ↦ subst IsShort d.1 one
  | inr d ↦ all q b d.1
]

pub short_left : (attempts : Attempts) (near : ℕ) → AreShort attempts → AreShort (remove attempts near)
short_left attempts near all q b e = all q b (found_left attempts near q b e).1

pub sent_of : (secrets : Secrets) (setup : Setup) (past : Past) (s : State) → Measured setup past s → Staged secrets setup past s → Sent secrets setup past s
sent_of secrets setup past s counted staged = record { numbered = counted.numbered; sized = counted.sized; short = counted.short; rows = counted.rows; staged = staged }

pub measured_startup : (setup : Setup) (past : Past) (s : State) (t : StartupState) → Measured setup past s → AreShort t.attempts → Measured setup past (with_startup s t)
measured_startup setup past s t counted short = record { numbered = counted.numbered; sized = counted.sized; short = short; rows = counted.rows }

pub sent_startup_changed : (secrets : Secrets) (setup : Setup) (past : Past) (s : State) (t : StartupState) → Sent secrets setup past s → AreShort t.attempts → Staged secrets setup past (with_startup s t) → Sent secrets setup past (with_startup s t)
sent_startup_changed secrets setup past s t sent short staged = record { numbered = sent.numbered; sized = sent.sized; short = short; rows = sent.rows; staged = staged }

-- where it is the same
pub sent_same : (secrets : Secrets) (setup : Setup) (past : Past) (s : State) → Sent secrets setup past s → Sent secrets setup past (with_startup s s.startup)
sent_same secrets setup past s sent = sent_startup_changed secrets setup past s s.startup sent sent.short (staged_alike secrets setup past s (with_startup s s.startup) sent.staged refl)

pub measured_fact : (setup : Setup) (past : Past) (s : State) (now : ℕ) (fact : Fact) → Measured setup past s → IsSized fact → Measured setup (stamped now (FactEntry fact) ∷ past) s
measured_fact setup past s now fact counted sized = record {
  numbered = numbered_fact (own_of setup) past s.sealed s.sessions counted.numbered now fact;
  sized = (sized, counted.sized);
  short = counted.short;
  rows = counted.rows;
}

-- a fact, where there is one
abbrev pub IsLight : Option Fact → Type 0
IsLight None = Unit {0}
IsLight (Some fact) = IsSized fact

pub measured_facts : (setup : Setup) (past : Past) (s : State) (now : ℕ) (o : Option Fact) → Measured setup past s → IsLight o → Measured setup (onto now (fact_entries o) past) s
measured_facts setup past s now None counted light = counted
measured_facts setup past s now (Some fact) counted light = measured_fact setup past s now fact counted light

pub lines_facts : (secrets : Secrets) (setup : Setup) (now : ℕ) (call : Call) (past : Past) (o : Option Fact) → EntriesMeet OutPart secrets setup now call past (fact_entries o)
lines_facts secrets setup now call past None = tt
lines_facts secrets setup now call past (Some fact) = (tt, tt)

pub measured_session : (setup : Setup) (past : Past) (s : State) (near : ℕ) (old new : Row) → Measured setup past s → get s.sessions near ≡ Some old →
    new.session.joined ≡ old.session.joined → new.session.own ≡ old.session.own → new.session.role ≡ old.session.role → new.session.generation ≡ old.session.generation → new.session.sealed ≡ old.session.sealed → Measured setup past (with_row s near new)
measured_session setup past s near old new counted there joined mine role generation count = record {
  numbered = numbered_changed (own_of setup) past s.sealed s.sessions counted.numbered near old new there joined mine role generation count;
  sized = counted.sized;
  short = counted.short;
  rows = counted.rows;
}

pub sent_session_changed : (secrets : Secrets) (setup : Setup) (past : Past) (s : State) (near : ℕ) (old new : Row) → Sent secrets setup past s → get s.sessions near ≡ Some old →
    new.session.joined ≡ old.session.joined → new.session.own ≡ old.session.own → new.session.role ≡ old.session.role → new.session.generation ≡ old.session.generation → new.session.sealed ≡ old.session.sealed → Sent secrets setup past (with_row s near new)
sent_session_changed secrets setup past s near old new sent there joined mine role generation count =
    sent_of secrets setup past (with_row s near new) (measured_session setup past s near old new (measured secrets setup past s sent) there joined mine role generation count)
    (staged_alike secrets setup past s (with_row s near new) sent.staged refl)

-- what is neither a datagram nor a fact, and begins no search
pub sent_quiet : (secrets : Secrets) (setup : Setup) (past : Past) (s : State) → Sent secrets setup past s → (x : Stamped) → out_done x.what ≡ None → fact_done x.what ≡ None → sought_done x.what ≡ None → Sent secrets setup (x ∷ past) s
sent_quiet secrets setup past s sent x no_out no_fact no_search = record {
  numbered = numbered_quiet (own_of setup) past s.sealed s.sessions sent.numbered x no_out no_fact;
  sized = subst AreSized (sym (ap (λ (o : Option Fact). fact_and o (facts_of past)) no_fact)) sent.sized;
  short = sent.short;
  rows = sent.rows;
  staged = staged_quiet secrets setup past s sent.staged x no_out no_fact no_search;
}

pub meets_discarded : (secrets : Secrets) (setup : Setup) (now : ℕ) (call : Call) (past : Past) (s : State) (at : ℕ) (cause : Cause) → Sent secrets setup past s → Meets secrets setup now call past (discarded s at cause)
meets_discarded secrets setup now call past s at cause sent = record { lines = (tt, tt); sent = sent_quiet secrets setup past s sent (stamped now (Discard at cause)) refl refl refl }

-- ---- answers, and one packet to several addresses

-- an answer that goes out under the secret of its generation, whose packet may go, and which is no keying of an attempt
pub record LightAnswer (secrets : Secrets) (setup : Setup) (past : Past) (answer : Answer) : Type 0 where
  pub under : IsUnder secrets answer.generation answer.keys
  pub may : MayGo secrets setup past answer.generation answer.sid answer.plain

-- or which is that of an attempt, in whose generation it goes
pub record KeyingAnswer (secrets : Secrets) (setup : Setup) (call : Call) (past : Past) (s : State) (mine : ℕ) (answer : Answer) : Type 0 where
  pub under : IsUnder secrets answer.generation answer.keys
  pub zero : answer.sid ≡ 0
  pub may : KeyingMay secrets setup call past answer.generation mine answer.plain
  pub stage : (a : AttemptState) → get s.startup.attempts mine ≡ Some a → KeyedIn secrets answer.generation a.stage

abbrev pub MayAnswer : Secrets → Setup → Call → Past → State → Answer → Type 0
MayAnswer secrets setup call past s answer = LightAnswer secrets setup past answer ⊎ ((mine : ℕ) × KeyingAnswer secrets setup call past s mine answer)

module _ (secrets : Secrets) (setup : Setup) (now : ℕ) (call : Call) (past : Past) (s : State) (own : s.startup.ledger.own ≡ own_of setup) (answer : Answer) where
  pub meets_light : Sent secrets setup past s → LightAnswer secrets setup past answer → Meets secrets setup now call past (sent_answer s answer)
  meets_light sent may = meets_startup secrets setup now call past s sent own answer.generation answer.keys answer.to answer.sid answer.plain may.under may.may

  -- what is kept of the other attempts is as before; that of this one, too, where no count is left
  pub meets_keyed : Measured setup past s → (mine : ℕ) → KeyingAnswer secrets setup call past s mine answer → StagesBeside secrets past s.startup.attempts mine → KeptAre secrets setup past s.startup.kept → TagsAre past s.startup.attempts →
      ((s.sealed == last_count) ≡ true → Staged secrets setup past s) → Meets secrets setup now call past (sent_answer s answer)
  meets_keyed counted mine k others kept tags spent =
      subst (λ (sid : ℕ). Meets secrets setup now call past (sent_startup s answer.generation answer.keys answer.to sid answer.plain)) (sym k.zero)
      (keying_out secrets setup now call past s own counted answer.generation answer.keys answer.to answer.plain mine k.stage others kept tags k.under k.may spent)

  pub meets_answer : Sent secrets setup past s → MayAnswer secrets setup call past s answer → Meets secrets setup now call past (sent_answer s answer)
  meets_answer sent (inl light) = meets_light sent light
  meets_answer sent (inr k) = meets_keyed (measured secrets setup past s sent) k.0 k.1 (λ q a other e. sent.staged.attempts q a e) sent.staged.kept sent.staged.tags (λ spent. sent.staged)

startup_stays : (b : Bool) (s : State) (entries : List Entry) → let t : State = (if b then nothing s else record { state = with_sealed s (s.sealed + 1); entries = entries }).state in (t.group ≡ s.group) × (t.startup ≡ s.startup)
startup_stays true s entries = (refl, refl)
startup_stays false s entries = (refl, refl)

pub meets_each : (secrets : Secrets) (setup : Setup) (now : ℕ) (call : Call) (plain : List ℕ) → ((past : Past) (generation : ℕ) → MayGo secrets setup past generation 0 plain) → (to : List AddressParts) (past : Past) (s : State) → Sent secrets setup past s →
    HasSecret secrets s.group → s.startup.ledger.own ≡ own_of setup → Meets secrets setup now call past (sent_each s plain to)
meets_each secrets setup now call plain may [] past s sent group own = meets_nothing secrets setup now call past s sent
meets_each secrets setup now call plain may (to ∷ rest) past s sent group own =
    let d : Did = sent_startup s s.group.generation (startup_keys_of s.group) to 0 plain in
    let first : Meets secrets setup now call past d = meets_startup secrets setup now call past s sent own s.group.generation (startup_keys_of s.group) to 0 plain (under_has secrets s.group group) (may past s.group.generation) in
    let same = startup_stays (s.sealed == last_count) s _ in
    meets_then secrets setup now call past d (λ t. sent_each t plain rest) first
    (meets_each secrets setup now call plain may rest (onto now d.entries past) d.state first.sent (subst (HasSecret secrets) (sym same.0) group) (ap (λ (t : StartupState). t.ledger.own) same.1 ∙ own))

-- ---- an attempt begins

-- An attempt begins in the hello stage, with a peer with which nothing is held.
staged_started : (secrets : Secrets) (setup : Setup) (past : Past) (s : State) → Staged secrets setup past s → AreSized (facts_of past) → (now : ℕ) (peer : List ℕ) (n near : ℕ) (ni : List ℕ) (a : AttemptState) → a.stage ≡ Hello → opened_tag (open_of (last_call past)) (tag_of near past) ≡ Some a.tag → held peer (facts_of past) ≡ None →
    (t : State) → t.startup.attempts ≡ insert s.startup.attempts near a → t.startup.kept ≡ s.startup.kept → Staged secrets setup (stamped now (FactEntry (Started peer n near ni)) ∷ past) t
staged_started secrets setup past s staged sized now peer n near ni a hello tag unheld t attempts kept =
    let x : Stamped = stamped now (FactEntry (Started peer n near ni)) in
    record {
      tags = subst (TagsAre (x ∷ past)) (sym attempts) (tags_started past s.startup.attempts staged.tags near now peer n ni a tag);
      attempts = subst (StagesAre secrets (x ∷ past)) (sym attempts)
          (stages_begun secrets past s.startup.attempts staged.attempts near a x hello (hello_started secrets past near x refl refl) (λ q other. beside_begun secrets q x refl (λ e. other (sym e)) tt));
      kept = subst (KeptAre secrets setup (x ∷ past)) (sym kept) (kept_nothing secrets setup past s.startup.kept staged.kept sized now (Started peer n near ni) unheld);
    }

pub meets_opening : (secrets : Secrets) (setup : Setup) (now : ℕ) (call : Call) (past : Past) (s : State) → Sent secrets setup past s → Tied secrets setup past s → (peer : List ℕ) (candidates : List AddressParts) (draws : Draws) →
    length peer ≡ 32 → length draws.nonce ≡ 16 → length draws.tag ≡ 16 → free_from s draws.word < 2 ^ 32 → held_with s.startup.ledger peer ≡ None → last_call past ≡ Some (Open peer candidates draws) → Meets secrets setup now call past (opening s peer candidates draws)
meets_opening secrets setup now call past s sent tied peer candidates draws peer_len nonce_len tag_len small unheld last =
    let near : ℕ = free_from s draws.word in
    let a : AttemptState = begun_attempt s.startup peer candidates draws.nonce draws.tag s.moment in
    let fact : Fact = started_fact s.startup.ledger peer near draws.nonce in
    let begun : Measured setup (stamped now (FactEntry fact) ∷ past) s = measured_fact setup past s now fact (measured secrets setup past s sent) (peer_len, small, omega arith) in
    let none : held peer (facts_of past) ≡ None = sym (reads_held 0 s.startup.ledger (facts_of past) tied.account peer) ∙ unheld in
    meets_after secrets setup now call past (FactEntry fact ∷ []) _ (tt, tt)
    (meets_each secrets setup now call (ihello_packet (0x01 ∷ peer) draws.tag) (λ p g. ihello_may secrets setup p g 0 (0x01 ∷ peer) draws.tag (omega arith) (omega arith)) (distinct_candidates candidates)
    (stamped now (FactEntry fact) ∷ past) _
    record {
      numbered = begun.numbered;
      sized = begun.sized;
      short = short_put s.startup.attempts near a sent.short (record { tag = omega arith; cookie = tt; name = tt });
      rows = sent.rows;
      staged = staged_started secrets setup past s sent.staged sent.sized now peer (s.startup.ledger.started + 1) near draws.nonce a refl (ap (λ (o : Option Call). opened_tag (open_of o) (tag_of near past)) last) none (with_startup s (after_begin s.startup peer candidates near draws.nonce draws.tag s.moment)) refl refl;
    }
    tied.holds.current tied.own)

-- ---- a search begins, and is over

name_short : (name : List ℕ) → IsServiceName name → length (0x02 ∷ name) ≤ 128
name_short name is = omega (arith, is.few)

pub meets_seeking : (secrets : Secrets) (setup : Setup) (now : ℕ) (call : Call) (past : Past) (s : State) → Sent secrets setup past s → Tied secrets setup past s → (name : List ℕ) (candidates : List AddressParts) (draws : Draws) →
    IsServiceName name → length draws.tag ≡ 16 → last_call past ≡ Some (Seek name candidates draws) → Meets secrets setup now call past (seeking s name candidates draws)
meets_seeking secrets setup now call past s sent tied name candidates draws named tag_len last =
    let near : ℕ = free_from s draws.word in
    let a : AttemptState = begun_search name candidates draws.nonce draws.tag s.moment in
    let entry : Entry = Sought near name in
    let x : Stamped = stamped now entry in
    meets_after secrets setup now call past (entry ∷ []) _ (tt, tt)
    (meets_each secrets setup now call (ihello_packet (0x02 ∷ name) draws.tag) (λ p g. ihello_may secrets setup p g 0 (0x02 ∷ name) draws.tag (name_short name named) (omega arith)) (distinct_candidates candidates)
    (x ∷ past) _
    record {
      numbered = numbered_quiet (own_of setup) past s.sealed s.sessions sent.numbered x refl refl;
      sized = sent.sized;
      short = short_put s.startup.attempts near a sent.short (record { tag = omega arith; cookie = tt; name = named });
      rows = sent.rows;
      staged = record {
        tags = tags_sought past s.startup.attempts sent.staged.tags near now name a (ap (λ (o : Option Call). sought_tag (seek_of o) (tag_of near past)) last);
        attempts = stages_begun secrets past s.startup.attempts sent.staged.attempts near a x refl (hello_sought secrets past near x refl refl) (λ q other. beside_begun secrets q x refl tt (λ e. other (sym e)));
        kept = kept_beside secrets setup past s.startup.kept sent.staged.kept x refl;
      };
    }
    tied.holds.current tied.own)

pub meets_unsought : (secrets : Secrets) (setup : Setup) (past : Past) (s : State) → Sent secrets setup past s → (now : ℕ) (call : Call) (near : ℕ) (why : Why) (left : StartupState) → AreShort left.attempts →
    TagsAre past left.attempts → StagesAre secrets past left.attempts → left.kept ≡ s.startup.kept → Meets secrets setup now call past (record { state = with_startup s left; entries = Unsought near why ∷ [] })
meets_unsought secrets setup past s sent now call near why left short tags stages kept =
    let x : Stamped = stamped now (Unsought near why) in
    record {
      lines = (tt, tt);
      sent = record {
        numbered = numbered_quiet (own_of setup) past s.sealed s.sessions sent.numbered x refl refl;
        sized = sent.sized;
        short = short;
        rows = sent.rows;
        staged = record {
          tags = tags_quiet past left.attempts tags x refl refl;
          attempts = stages_beside secrets past left.attempts stages x (λ q. beside_quiet secrets q x refl refl refl);
          kept = subst (KeptAre secrets setup (x ∷ past)) (sym kept) (kept_beside secrets setup past s.startup.kept sent.staged.kept x refl);
        };
      };
    }

unsought_short : (s : StartupState) (near : ℕ) (b : Bool) → AreShort s.attempts → AreShort (if b then record s { attempts = remove s.attempts near } else s).attempts
unsought_short s near true all = short_left s.attempts near all
unsought_short s near false all = all

unsought_stages : (secrets : Secrets) (past : Past) (s : StartupState) (near : ℕ) (b : Bool) → StagesAre secrets past s.attempts → StagesAre secrets past (if b then record s { attempts = remove s.attempts near } else s).attempts
unsought_stages secrets past s near true all = stages_left secrets past s.attempts all near
unsought_stages secrets past s near false all = all

unsought_tags : (past : Past) (s : StartupState) (near : ℕ) (b : Bool) → TagsAre past s.attempts → TagsAre past (if b then record s { attempts = remove s.attempts near } else s).attempts
unsought_tags past s near true all = tags_left past s.attempts all near
unsought_tags past s near false all = all

unsought_kept : (s : StartupState) (near : ℕ) (b : Bool) → (if b then record s { attempts = remove s.attempts near } else s).kept ≡ s.kept
unsought_kept s near true = refl
unsought_kept s near false = refl

pub meets_unseeking : (secrets : Secrets) (setup : Setup) (now : ℕ) (call : Call) (past : Past) (s : State) → Sent secrets setup past s → (near : ℕ) → Meets secrets setup now call past (unseeking s near)
meets_unseeking secrets setup now call past s sent near =
    meets_unsought secrets setup past s sent now call near Cancelled (after_unseek s.startup near) (unsought_short s.startup near (has_search s.startup near) sent.short)
    (unsought_tags past s.startup near (has_search s.startup near) sent.staged.tags) (unsought_stages secrets past s.startup near (has_search s.startup near) sent.staged.attempts) (unsought_kept s.startup near (has_search s.startup near))

-- ---- keyings of attempts

module _ (secrets : Secrets) (setup : Setup) (past : Past) (s : State) (tied : Tied secrets setup past s) where
  pub attempt_held : (near : ℕ) (a : AttemptState) (peer : List ℕ) (n : ℕ) → a.aim ≡ AtPeer peer n → get s.startup.attempts near ≡ Some a → held peer (facts_of past) ≡ Some (OpeningHeld n near a.ni)
  attempt_held near a peer n aims there =
      sym (reads_held 0 s.startup.ledger (facts_of past) tied.account peer) ∙ subst (λ (aim : Aim). IsHeldAs s.startup.ledger near a.ni aim) aims (tied.sound.held near a there)

  module _ (counted : Measured setup past s) where
    attempt_sized : (near : ℕ) (a : AttemptState) (peer : List ℕ) (n : ℕ) → a.aim ≡ AtPeer peer n → get s.startup.attempts near ≡ Some a → HasSizes peer (Some (OpeningHeld n near a.ni))
    attempt_sized near a peer n aims there = held_sized peer (facts_of past) (OpeningHeld n near a.ni) counted.sized (attempt_held near a peer n aims there)

    -- its keying goes out in this generation, towards the peer at which it aims
    abbrev pub GoesIn : Call → ℕ → Aim → ℕ → Type 0
    GoesIn call near aim generation = (peer : List ℕ) (n : ℕ) → aim ≡ AtPeer peer n → KeyingGoesIn secrets setup past call peer near generation

    keying_may : (call : Call) (group : GroupSecret) (near : ℕ) (a : AttemptState) (cookie : List ℕ) (aim : Aim) → IsAtPeer aim → a.aim ≡ aim → get s.startup.attempts near ≡ Some a → length cookie ≤ 128 → length s.startup.cert ≤ 80 →
        GoesIn call near aim group.generation → KeyingMay secrets setup call past group.generation near (keying_of_aim (sign_key_of group.secret) near cookie s.startup.cert a.ni aim)
    keying_may call group near a cookie (ByName name) other aims there narrow cert goes = absurd other
    keying_may call group near a cookie (AtPeer peer n) other aims there narrow cert goes =
        iikeying_may secrets setup past group.generation 0 call group.secret near cookie s.startup.cert a.ni n peer narrow cert tied.cert (attempt_held near a peer n aims there) (attempt_sized near a peer n aims there) (goes peer n refl)

    -- from a state in which the attempt sends its keyings under this secret
    pub attempt_may : (call : Call) (t : State) (group : GroupSecret) → HasSecret secrets group → (near : ℕ) (a : AttemptState) (to : AddressParts) (cookie : List ℕ) → IsAtPeer a.aim → get s.startup.attempts near ≡ Some a → length cookie ≤ 128 → length setup.cert ≤ 80 →
        GoesIn call near a.aim group.generation → ((b : AttemptState) → get t.startup.attempts near ≡ Some b → KeyedIn secrets group.generation b.stage) → KeyingAnswer secrets setup call past t near (keying_under group s.startup.cert near a to cookie)
    attempt_may call t group has near a to cookie towards there narrow short goes stage =
        let cert : length s.startup.cert ≤ 80 = subst (λ (c : List ℕ). length c ≤ 80) (sym tied.cert) short in
        record { under = under_has secrets group has; zero = refl; may = keying_may call group near a cookie a.aim towards refl there narrow cert goes; stage = stage }

    aimed_may : (near : ℕ) (a : AttemptState) (aim : Aim) → a.aim ≡ aim → get s.startup.attempts near ≡ Some a → (p : Past) (g : ℕ) → MayGo secrets setup p g 0 (ihello_packet (discriminator_of_aim aim) a.tag)
    aimed_may near a (AtPeer peer n) aims there p g = ihello_may secrets setup p g 0 (0x01 ∷ peer) a.tag (omega (arith, (attempt_sized near a peer n aims there).0)) (counted.short near a there).tag
    aimed_may near a (ByName name) aims there p g = ihello_may secrets setup p g 0 (0x02 ∷ name) a.tag (name_short name (subst IsNamed aims (counted.short near a there).name)) (counted.short near a there).tag

    pub hello_may : (near : ℕ) (a : AttemptState) → get s.startup.attempts near ≡ Some a → (p : Past) (g : ℕ) → MayGo secrets setup p g 0 (ihello_packet (discriminator_of_aim a.aim) a.tag)
    hello_may near a there p g = aimed_may near a a.aim refl there p g

-- the stage of an attempt that is there, where it is known
pub stage_there : (secrets : Secrets) (setup : Setup) (past : Past) (s : State) → Staged secrets setup past s → (near : ℕ) (a : AttemptState) (stage : Stage) → a.stage ≡ stage → get s.startup.attempts near ≡ Some a → IsStageOf secrets past near stage
stage_there secrets setup past s staged near a stage is there = subst (IsStageOf secrets past near) is (staged.attempts near a there)

-- an attempt that is put there with this stage is in this generation
pub keyed_put : (secrets : Secrets) (attempts : Attempts) (near : ℕ) (a : AttemptState) (at : AddressParts) (cookie : List ℕ) (under : GroupSecret) → a.stage ≡ Keying at cookie under → HasSecret secrets under → (b : AttemptState) → get (insert attempts near a) near ≡ Some b →
    KeyedIn secrets under.generation b.stage
keyed_put secrets attempts near a at cookie under is has b e =
    let both : Some a ≡ Some b = sym (get_inserted attempts near a) ∙ e in
    let same : a ≡ b = cc in
    record { at = at; cookie = cookie; under = under; is = ap (λ (x : AttemptState). x.stage) (sym same) ∙ is; generation_is = refl; has = has }

-- ---- an attempt ends

ended_short : (s : StartupState) (o : Option (ℕ × AttemptState)) → AreShort s.attempts → AreShort (after_end_of s o Cancelled).attempts
ended_short s None all = all
ended_short s (Some e) all = short_left s.attempts e.0 all

light_end : (near : ℕ) (aim : Aim) → IsLight (end_of_aim near Cancelled aim)
light_end near (AtPeer peer n) = tt
light_end near (ByName name) = tt

ended_light : (o : Option (ℕ × AttemptState)) → IsLight (end_of o Cancelled)
ended_light None = tt
ended_light (Some e) = light_end e.0 e.1.aim

-- with its fact, where it has one
module _ (secrets : Secrets) (setup : Setup) (past : Past) (s : State) (staged : Staged secrets setup past s) (tied : Tied secrets setup past s) (sized : AreSized (facts_of past)) (now : ℕ) (why : Why) where
  staged_ended : (near : ℕ) (a : AttemptState) (peer : List ℕ) (n : ℕ) → a.aim ≡ AtPeer peer n → get s.startup.attempts near ≡ Some a → (t : State) → t.startup.attempts ≡ remove s.startup.attempts near → t.startup.kept ≡ s.startup.kept →
      Staged secrets setup (stamped now (FactEntry (Ended peer near why)) ∷ past) t
  staged_ended near a peer n aims there t attempts kept =
      let x : Stamped = stamped now (FactEntry (Ended peer near why)) in
      record {
        tags = subst (TagsAre (x ∷ past)) (sym attempts) (tags_quiet past (remove s.startup.attempts near) (tags_left past s.startup.attempts staged.tags near) x refl refl);
        attempts = subst (StagesAre secrets (x ∷ past)) (sym attempts)
            (stages_beside secrets past (remove s.startup.attempts near) (stages_left secrets past s.startup.attempts staged.attempts near) x (λ q. beside_quiet secrets q x refl refl refl));
        kept = subst (KeptAre secrets setup (x ∷ past)) (sym kept) (kept_attempt secrets setup past s.startup.kept staged.kept sized now (Ended peer near why) n near a.ni (attempt_held secrets setup past s tied near a peer n aims there));
      }

  staged_gone : (e : ℕ × AttemptState) (aim : Aim) → e.1.aim ≡ aim → get s.startup.attempts e.0 ≡ Some e.1 → Staged secrets setup (onto now (fact_entries (end_of_aim e.0 why aim)) past) (with_startup s (without_attempt_by s.startup e.0 (end_of_aim e.0 why aim)))
  staged_gone e (AtPeer peer n) aims there = staged_ended e.0 e.1 peer n aims there (with_startup s (without_attempt_by s.startup e.0 (end_of_aim e.0 why (AtPeer peer n)))) refl refl
  staged_gone e (ByName name) aims there = record { tags = tags_left past s.startup.attempts staged.tags e.0; attempts = stages_left secrets past s.startup.attempts staged.attempts e.0; kept = staged.kept }

  pub staged_end_of : (o : Option (ℕ × AttemptState)) → ((e : ℕ × AttemptState) → o ≡ Some e → get s.startup.attempts e.0 ≡ Some e.1) → Staged secrets setup (onto now (fact_entries (end_of o why)) past) (with_startup s (after_end_of s.startup o why))
  staged_end_of None there = staged_alike secrets setup past s (with_startup s s.startup) staged refl
  staged_end_of (Some e) there = staged_gone e e.1.aim refl (there e refl)

pub meets_cancelling : (secrets : Secrets) (setup : Setup) (now : ℕ) (call : Call) (past : Past) (s : State) (n : ℕ) → Sent secrets setup past s → Tied secrets setup past s → Meets secrets setup now call past (cancelling s n)
meets_cancelling secrets setup now call past s n sent tied =
    let o : Option (ℕ × AttemptState) = lowest (has_number n) s.startup.attempts in
    let after : Measured setup (onto now (fact_entries (end_of o Cancelled)) past) s = measured_facts setup past s now (end_of o Cancelled) (measured secrets setup past s sent) (ended_light o) in
    record {
      lines = lines_facts secrets setup now call past (end_of o Cancelled);
      sent = record {
        numbered = after.numbered;
        sized = after.sized;
        short = ended_short s.startup o sent.short;
        rows = sent.rows;
        staged = staged_end_of secrets setup past s sent.staged tied sent.sized now Cancelled o (λ e is. (first_is_there (has_number n) s.startup.attempts e is).0);
      };
    }

-- ---- what is due

module _ (secrets : Secrets) (setup : Setup) (past : Past) (s : State) (sent : Sent secrets setup past s) (tied : Tied secrets setup past s) (now : ℕ) (call : Call) (short : length setup.cert ≤ 80) where
  again_sent : (e : ℕ × AttemptState) → get s.startup.attempts e.0 ≡ Some e.1 → Sent secrets setup past (with_startup s (with_attempt s.startup e.0 (repeated e.1 s.moment)))
  again_sent e there =
      let kept : IsShort e.1 = sent.short e.0 e.1 there in
      sent_startup_changed secrets setup past s (with_attempt s.startup e.0 (repeated e.1 s.moment)) sent
      (short_put s.startup.attempts e.0 (repeated e.1 s.moment) sent.short (record { tag = kept.tag; cookie = kept.cookie; name = kept.name }))
      (record { tags = tags_put past s.startup.attempts sent.staged.tags e.0 e.1 (repeated e.1 s.moment) there refl; attempts = stages_put secrets past s.startup.attempts sent.staged.attempts e.0 (repeated e.1 s.moment) (sent.staged.attempts e.0 e.1 there); kept = sent.staged.kept })

  by_stage : (e : ℕ × AttemptState) (stage : Stage) → get s.startup.attempts e.0 ≡ Some e.1 → e.1.stage ≡ stage →
      Meets secrets setup now call past (due_done (with_startup s (with_attempt s.startup e.0 (repeated e.1 s.moment))) (repeat_under s.startup.cert e.0 e.1 stage))
  by_stage e Hello there is =
      meets_each secrets setup now call (ihello_packet (discriminator_of_aim e.1.aim) e.1.tag) (hello_may secrets setup past s tied (measured secrets setup past s sent) e.0 e.1 there) e.1.candidates past
      (with_startup s (with_attempt s.startup e.0 (repeated e.1 s.moment))) (again_sent e there) tied.holds.current tied.own
  by_stage e (Keying at cookie under) there is =
      let narrow : length cookie ≤ 128 = subst IsNarrow is (sent.short e.0 e.1 there).cookie in
      let stage : IsStageOf secrets past e.0 (Keying at cookie under) = stage_there secrets setup past s sent.staged e.0 e.1 (Keying at cookie under) is there in
      let t : State = with_startup s (with_attempt s.startup e.0 (repeated e.1 s.moment)) in
      meets_answer secrets setup now call past t tied.own (keying_under under s.startup.cert e.0 e.1 at cookie) (again_sent e there)
      (inr (
        e.0,
        attempt_may secrets setup past s tied (measured secrets setup past s sent) call t under stage.1 e.0 e.1 at cookie (keyed_towards e.1.aim e.1.stage at cookie under is (tied.sound.stages e.0 e.1 there)) there narrow short (λ peer n aims. inl stage.0)
            (keyed_put secrets s.startup.attempts e.0 (repeated e.1 s.moment) at cookie under is stage.1),
      ))

  -- an attempt ends, or sends again
  pub meets_end : (near : ℕ) (a : AttemptState) (peer : List ℕ) (n : ℕ) → a.aim ≡ AtPeer peer n → get s.startup.attempts near ≡ Some a →
      Meets secrets setup now call past (due_done (with_startup s (without_attempt s.startup near (Ended peer near Expired))) (EndDue (Ended peer near Expired)))
  meets_end near a peer n aims there =
      let after : Measured setup (stamped now (FactEntry (Ended peer near Expired)) ∷ past) s = measured_fact setup past s now (Ended peer near Expired) (measured secrets setup past s sent) tt in
      record {
        lines = (tt, tt);
        sent = record {
          numbered = after.numbered;
          sized = after.sized;
          short = short_left s.startup.attempts near sent.short;
          rows = sent.rows;
          staged = staged_ended secrets setup past s sent.staged tied sent.sized now Expired near a peer n aims there (with_startup s (without_attempt s.startup near (Ended peer near Expired))) refl refl;
        };
      }

  pub meets_repeat : (e : ℕ × AttemptState) → get s.startup.attempts e.0 ≡ Some e.1 → Meets secrets setup now call past (due_done (with_startup s (with_attempt s.startup e.0 (repeated e.1 s.moment))) (repeat_of s.startup e.0 e.1))
  meets_repeat e there = by_stage e e.1.stage there refl

-- ---- a session is confirmed

confirmed_light : (o : Option Held) (peer : List ℕ) → IsLight (confirmed_fact o peer)
confirmed_light None peer = tt
confirmed_light (Some (OpeningHeld n near ni)) peer = tt
confirmed_light (Some (HalfOpen j)) peer = tt
confirmed_light (Some (KeptAsResponder j)) peer = tt
confirmed_light (Some (KeptAsInitiator j)) peer = tt

staged_confirmed : (secrets : Secrets) (setup : Setup) (past : Past) (s : State) → Staged secrets setup past s → AreSized (facts_of past) → (now : ℕ) (o : Option Held) (peer : List ℕ) → Staged secrets setup (onto now (fact_entries (confirmed_fact o peer)) past) s
staged_confirmed secrets setup past s staged sized now None peer = staged
staged_confirmed secrets setup past s staged sized now (Some (OpeningHeld n near ni)) peer = staged
staged_confirmed secrets setup past s staged sized now (Some (HalfOpen j)) peer =
    let x : Stamped = stamped now (FactEntry (Confirmed peer j.near)) in
    record {
      tags = tags_quiet past s.startup.attempts staged.tags x refl refl;
      attempts = stages_beside secrets past s.startup.attempts staged.attempts x (λ q. beside_quiet secrets q x refl refl refl);
      kept = kept_same secrets setup past s.startup.kept staged.kept sized now peer j.near;
    }
staged_confirmed secrets setup past s staged sized now (Some (KeptAsResponder j)) peer = staged
staged_confirmed secrets setup past s staged sized now (Some (KeptAsInitiator j)) peer = staged

confirming_test : (secrets : Secrets) (setup : Setup) (now : ℕ) (call : Call) (past : Past) (s : State) (near : ℕ) (row : Row) → Sent secrets setup past s → get s.sessions near ≡ Some row → (b : Bool) →
    Meets secrets setup now call past (if b then record {
      state = with_session (with_startup s (after_confirm s.startup row.session.joined.peer)) near row (confirmed row.session);
      entries = fact_entries (confirm_fact s.startup row.session.joined.peer);
    } else nothing s)
confirming_test secrets setup now call past s near row sent there false = meets_nothing secrets setup now call past s sent
confirming_test secrets setup now call past s near row sent there true =
    let peer : List ℕ = row.session.joined.peer in
    let o : Option Fact = confirm_fact s.startup peer in
    let told : Past = onto now (fact_entries o) past in
    let after : Measured setup told s = measured_facts setup past s now o (measured secrets setup past s sent) (confirmed_light (held_with s.startup.ledger peer) peer) in
    let changed : Measured setup told (with_session s near row (confirmed row.session)) =
    measured_session setup told s near row (record row { session = confirmed row.session }) after there refl refl refl refl refl in
    let staged : Staged secrets setup told s = staged_confirmed secrets setup past s sent.staged sent.sized now (held_with s.startup.ledger peer) peer in
    record {
      lines = lines_facts secrets setup now call past o;
      sent = record { numbered = changed.numbered; sized = changed.sized; short = sent.short; rows = sent.rows; staged = record { tags = staged.tags; attempts = staged.attempts; kept = staged.kept } };
    }

confirming_found : (secrets : Secrets) (setup : Setup) (now : ℕ) (call : Call) (past : Past) (s : State) (near : ℕ) (o : Option Row) → Sent secrets setup past s → get s.sessions near ≡ o → Meets secrets setup now call past (confirming_by s near o)
confirming_found secrets setup now call past s near None sent is = meets_nothing secrets setup now call past s sent
confirming_found secrets setup now call past s near (Some row) sent is = confirming_test secrets setup now call past s near row sent is (is_opening row.session.stage)

pub meets_confirming : (secrets : Secrets) (setup : Setup) (now : ℕ) (call : Call) (past : Past) (s : State) (place : Place) → Sent secrets setup past s → Meets secrets setup now call past (confirming s place)
meets_confirming secrets setup now call past s (StartupPlace generation) sent = meets_nothing secrets setup now call past s sent
meets_confirming secrets setup now call past s (Attempt near generation) sent = meets_nothing secrets setup now call past s sent
meets_confirming secrets setup now call past s (Session near) sent = confirming_found secrets setup now call past s near (get s.sessions near) sent refl
