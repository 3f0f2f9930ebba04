-- Hellos, redirects, changes of cookies and pings: what each of them states and leaves, and how it is answered, is in order. A further one has its case here, and in no other proof of the laws.
use Rattle.std.proofs.Common.{◌≡◌, ℕ, ◌≤◌, List, [], ◌∷◌, length, Bool, true, false, if◌then◌else◌, ◌&&◌, Option, Some, None, Result, Ok, ◌+◌, inl, inr, refl, sym, ap, subst, ◌∙◌, nat_lt, arith}
use Rattle.std.specs.Prelude.{◌==◌, not}
use Rattle.std.specs.FinMap.{get, insert}
use Rattle.std.specs.Str.{bytes_eq}
use Rattle.std.proofs.lemmas.Slice.Eq.{bytes_eq-Decides}
use Rattle.rtmfp_base.proofs.Lowest.{first_is_there}
use Rattle.std.proofs.lemmas.Bool.{ltb-false, eqb-true}
use Rattle.sha2.specs.Sha256.{sha256}
use Rattle.sha2.proofs.Facts256.{length-sha256}
use Rattle.rtmfp_base.proofs.Maps.{get_inserted, get_beside, found_inserted}
use Rattle.glare_core.specs.declared.facts.Fact.{Fact}
use Rattle.glare_core.specs.Calls.{started_fact}
use Rattle.startup.specs.declared.aim.Aim.{Aim}
use Rattle.startup.specs.declared.aim.Aim.TheVariants.{AtPeer, ByName}
use Rattle.startup.specs.Aims.{keying_of_aim}
use Rattle.rtmfp_forms.specs.Address.{AddressParts}
use Rattle.rtmfp_chunks.specs.declared.reading.ChunkFault.{ChunkFault}
use Rattle.rtmfp_chunks.specs.Chunk.{Chunk, IHello, FIHello, RHello, Redirect, CookieChange, Ping, PingReply}
use Rattle.rtmfp_chunks.specs.Writing.{chunk_bytes}
use Rattle.cookies.specs.Cookie.{cookie_of, observed}
use Rattle.identity.specs.declared.discriminator.Epd.{Epd}
use Rattle.identity.specs.Discriminators.{discriminator_of}
use Rattle.identity.specs.Targets.{selects, target_of}
use Rattle.rtmfp_base.specs.Reasons.{where_true, first_that_stands}
use Rattle.rtmfp_base.specs.declared.cause.Cause.{Cause}
use Rattle.rtmfp_base.specs.declared.cause.Cause.TheVariants.{Wide, NotSelected, WrongPeer}
use Rattle.startup.specs.declared.attempt.Stage.{Stage}
use Rattle.startup.specs.declared.attempt.Stage.TheVariants.{Hello, Keying}
use Rattle.startup.specs.declared.answer.Answer.{Answer}
use Rattle.startup.specs.State.{AttemptState, FitsStage, StartupState, peer_of_attempt}
use Rattle.startup.specs.Attempts.{lowest, has_tag, changed, wide, hello_cause as hello_cause_of, hello_cause_at, rhello_cause, none_to_change, answer_fact_as, answer_fact, after_answer_as, after_answer, answer_keying_as, answer_keying, answered, rhello_fact, after_rhello, rhello_keying, search_cause, with_attempt, keying_under, met, with_cookie, recookied, after_change, change_keying, again_under}
use Rattle.startup.specs.Keyings.{initiator_hello_answer}
use Rattle.startup.specs.Redirects.{told_addresses, new_candidates, extended, after_extension, after_redirect_of, redirect_spread_of}
use Rattle.startup_packets.proofs.Sizes.{fihello_length}
use Rattle.crypto_profile.specs.Keys.{sign_key_of}
use Rattle.endpoint_model.specs.declared.row.Row.{Row}
use Rattle.endpoint_model.specs.declared.place.Place.{Place}
use Rattle.endpoint_model.specs.declared.entry.Entry.TheVariants.{Fact as FactEntry}
use Rattle.endpoint_model.specs.Event.{Setup, own_of, Call, OpenCall, receive_in}
use Rattle.endpoint_model.specs.State.{State, Did, nothing, after_entries, fact_entries, with_startup}
use Rattle.endpoint_model.specs.Sending.{is_spent, last_count, sent_answer, sent_if, sent_by}
use Rattle.endpoint_model.specs.Introducing.{redirected_to, hello_cause, redirect_of}
use Rattle.endpoint_model.specs.InSessions.{sent_home_by}
use Rattle.endpoint_model.specs.Admission.{sid_at, group_at}
use Rattle.endpoint_model.specs.Causes.{read_cause}
use Rattle.endpoint_model.specs.Effects.{Reply, Silence, InStartup, Hellos, InSession, Introduction, forwarded, introduction, hello_reply, replied, read_fact, read_left, read_reply, read_done}
use Rattle.endpoint_laws.specs.Contexts.{Secrets}
use Rattle.endpoint_laws.specs.Past.{Past, Stamped, stamped, onto, facts_of, last_call, open_of, opened_tag, tag_of}
use Rattle.endpoint_laws.proofs.Tied.{Tied, IsKeptIn}
use Rattle.endpoint_laws.proofs.LowestId.{first_is_lowest}
use Rattle.endpoint_laws.proofs.Facts.{all_none, test_fails}
use Rattle.endpoint_laws.proofs.Moving.{tied_attempt}
use Rattle.endpoint_laws.proofs.PacketPieces.{any_sends}
use Rattle.endpoint_laws.proofs.Small.{Any, Sends}
use Rattle.endpoint_laws.proofs.Made.{IsNoHello, no_fact, by_hello, carries_any, read_first, home_made, replied_made}
use Rattle.endpoint_laws.proofs.Searching.{kept_as, met_if, met_tied, hello_first}
use Rattle.endpoint_laws.proofs.Going.{Goes, Keeps, goes_nothing, goes_then, goes_sends}
use Rattle.endpoint_laws.proofs.OutPackets.{IsModest, one_is_modest}
use Rattle.endpoint_laws.proofs.OutHeld.{may_send}
use Rattle.endpoint_laws.proofs.OutSends.{IsNarrow, IsShort, Measured, measured, Sent, Meets, MayGo, meets_nothing, meets_after, meets_then, meets_session, under_has}
use Rattle.endpoint_laws.proofs.Staged.{TagsAre, tag_started, tags_put, tags_started, hello_started, beside_begun, stage_beside, stages_put, kept_nothing}
use Rattle.endpoint_laws.specs.Contexts.{IsInHello, SearchUnder, startup_contexts}
use Rattle.endpoint_laws.specs.Groups.{HasSecret, IsStageOf}
use Rattle.endpoint_laws.specs.Lawful.{IsTagged, TakesHelloOf}
use Rattle.glare_core.specs.Standing.{held}
use Rattle.glare_core.proofs.Accounts.{reads_held}
use Rattle.endpoint_laws.proofs.OutKeyings.{rhello_may, redirect_may, length-cookie_of}
use Rattle.endpoint_laws.proofs.OutItems.{short_put, sent_same, sent_startup_changed, measured_startup, measured_fact, IsAtPeer, keyed_towards, LightAnswer, KeyingAnswer, MayAnswer, meets_light, meets_keyed, meets_answer, meets_each, attempt_may, hello_may, stage_there, keyed_put}
use Rattle.endpoint_laws.proofs.Kin.{changed_kin, extended_kin, answered_there, changed_there, group_known}
use Rattle.crypto_profile.specs.declared.group.GroupSecret.{GroupSecret}
use Rattle.startup.specs.Answers.{answer_under}

-- ---- what there being no cause says

firsts_none : (a b c : Option Cause) → first_that_stands (a ∷ b ∷ c ∷ []) ≡ None → (a ≡ None) × (b ≡ None)
firsts_none None None c e = (refl, refl)
firsts_none None (Some x) c e = absurd (cc)
firsts_none (Some x) b c e = absurd (cc)

first_none : (a b : Option Cause) → first_that_stands (a ∷ b ∷ []) ≡ None → a ≡ None
first_none None b e = refl
first_none (Some x) b e = absurd (cc)

narrow : (most : ℕ) (bytes : List ℕ) → where_true (nat_lt most (length bytes)) (Wide (length bytes)) ≡ None → length bytes ≤ most
narrow most bytes e = ltb-false most (length bytes) (test_fails (nat_lt most (length bytes)) (Wide (length bytes)) e)

cookie_fits : (cookie : List ℕ) (aim : Aim) (stage : Stage) → FitsStage aim stage → FitsStage aim (with_cookie cookie stage)
cookie_fits cookie (AtPeer peer n) stage fits = tt
cookie_fits cookie (ByName name) Hello fits = tt
cookie_fits cookie (ByName name) (Keying at old under) fits = absurd fits

narrow_with : (cookie : List ℕ) (stage : Stage) → length cookie ≤ 128 → IsNarrow (with_cookie cookie stage)
narrow_with cookie Hello h = tt
narrow_with cookie (Keying at old under) h = h

-- ---- what such a chunk leaves

module _ (secrets : Secrets) (setup : Setup) (past : Past) (s : State) (tied : Tied secrets setup past s) where
  changed_tied : (o : Option (ℕ × AttemptState)) (cookie : List ℕ) → ((e : ℕ × AttemptState) → o ≡ Some e → get s.startup.attempts e.0 ≡ Some e.1) →
      Tied secrets setup past (with_startup s (after_change s.startup o cookie s.moment))
  changed_tied None cookie there = tied
  changed_tied (Some e) cookie there = tied_attempt secrets setup past s e.0 e.1 (recookied e.1 cookie s.moment) tied (there e refl) refl (λ w. w) (cookie_fits cookie e.1.aim e.1.stage (tied.sound.stages e.0 e.1 (there e refl))) (λ which at kept. kept) (changed_kin s (Some e) cookie s.moment there)

  redirected_tied : (o : Option (ℕ × AttemptState)) (addresses : List AddressParts) → ((e : ℕ × AttemptState) → o ≡ Some e → get s.startup.attempts e.0 ≡ Some e.1) →
      Tied secrets setup past (with_startup s (after_redirect_of s.startup o addresses s.moment))
  redirected_tied None addresses there = tied
  redirected_tied (Some e) addresses there = by (new_candidates e.1.candidates addresses)
    where
      by : (new : List AddressParts) → Tied secrets setup past (with_startup s (after_extension s.startup e new s.moment))
      by [] = tied
      by (first ∷ others) = tied_attempt secrets setup past s e.0 e.1 (extended e.1 (first ∷ others) s.moment) tied (there e refl) refl (λ w. w) (tied.sound.stages e.0 e.1 (there e refl)) (λ which at kept. kept) (extended_kin s e (there e refl) (first ∷ others) s.moment)

  -- but for a responder's hello
  pub left_tied : (place : Place) (from : AddressParts) (read : Result Chunk ChunkFault) → IsNoHello read → Tied secrets setup past (read_left s place from read)
  left_tied place from (Ok (RHello tag cookie cert)) other = absurd other
  left_tied place from (Ok (Redirect tag list)) other =
      redirected_tied (lowest (has_tag tag) s.startup.attempts) (told_addresses list from) (λ e is. answered_there s.startup.attempts tag e is)
  left_tied place from (Ok (CookieChange old new)) other =
      changed_tied (changed s.startup.attempts (sid_at place) old) new (λ e is. changed_there s.startup.attempts (sid_at place) old e is)
  left_tied place from _ other = tied

-- ---- how it is answered

-- a startup packet that is no keying may go out at any time
abbrev MayAlways : Secrets → Setup → Option Answer → Type 0
MayAlways secrets setup None = Unit {0}
MayAlways secrets setup (Some answer) = (past : Past) → LightAnswer secrets setup past answer

-- how a state may be answered from
abbrev MayReply : Secrets → Setup → Call → Past → State → Reply → Type 0
MayReply secrets setup call past t Silence = Unit {0}
MayReply secrets setup call past t (InStartup None) = Unit {0}
MayReply secrets setup call past t (InStartup (Some answer)) = MayAnswer secrets setup call past t answer
MayReply secrets setup call past t (Hellos None) = Unit {0}
MayReply secrets setup call past t (Hellos (Some spread)) = (past : Past) (generation : ℕ) → MayGo secrets setup past generation 0 spread.plain
MayReply secrets setup call past t (InSession body) = IsModest body
MayReply secrets setup call past t (Introduction to body redirect) = IsModest body × MayAlways secrets setup redirect

-- a forwarded hello
forwarded_is_modest : (epd tag : List ℕ) (from : AddressParts) → length epd ≡ 33 → length tag ≤ 128 → IsModest (chunk_bytes (FIHello epd (observed from) tag))
forwarded_is_modest epd tag from selected short =
    one_is_modest (FIHello epd (observed from) tag) (omega (arith, fihello_length epd (observed from) tag (omega (arith, selected)) short)) (omega arith) (omega arith)

-- a discriminator that selects has 33 bytes
pub discriminator_length : (epd : List ℕ) (selected : Epd) → discriminator_of epd ≡ Some selected → length epd ≡ 33
discriminator_length [] selected is = absurd (cc)
discriminator_length (kind ∷ print) selected is = by (kind == 0x01) (length print == 32) refl is
  where
    by : (a b : Bool) → (length print == 32) ≡ b → (if a && b then Some (record { print = print }) else None) ≡ Some selected → length (kind ∷ print) ≡ 33
    by true true size e = omega (arith, eqb-true (length print) 32 size)
    by true false size e = absurd (cc)
    by false b size e = absurd (cc)

-- a datagram of a session leaves what is kept of startup
abbrev pub KeepsStartup : State → Did → Type 0
KeepsStartup s d = d.state.startup ≡ s.startup

pub startup_sends : Sends Any KeepsStartup
startup_sends = any_sends (record {
  steps = record { does_nothing = λ s. refl; and_then = λ s d e first later. later ∙ first };
  out = λ s generation keys to sid plain. refl;
  out_in = λ s near row to body is. refl;
  packets = λ s near row is. refl;
})

forwarded_startup : (s : State) (to : Option ℕ) (body : List ℕ) → (forwarded s to body).state.startup ≡ s.startup
forwarded_startup s None body = refl
forwarded_startup s (Some near) body = home_made startup_sends s near body tt

-- what is left keeps the sizes of what goes out, and the answer may go out
record Fits (secrets : Secrets) (setup : Setup) (call : Call) (past : Past) (t : State) (reply : Reply) : Type 0 where
  sent : Sent secrets setup past t
  may : MayReply secrets setup call past t reply

module _ (secrets : Secrets) (setup : Setup) (call : Call) (past : Past) (s : State) (sent : Sent secrets setup past s) (tied : Tied secrets setup past s) (cert : length setup.cert ≤ 80) where
  own_fits : (g : GroupSecret) → HasSecret secrets g → (tag : List ℕ) (to : AddressParts) → length tag ≤ 128 → Fits secrets setup call past s (InStartup (Some (initiator_hello_answer s.startup tag to s.moment g)))
  own_fits g has tag to short =
      let own : length s.startup.cert ≤ 80 = subst (λ (c : List ℕ). length c ≤ 80) (sym tied.cert) cert in
      record {
        sent = sent;
        may = inl (record {
          under = under_has secrets g has;
          may = rhello_may secrets setup past g.generation 0 tag (cookie_of s.startup.cookie_secret to s.moment) s.startup.cert short (length-cookie_of s.startup.cookie_secret to s.moment) own;
        });
      }

  hello_fits : (epd tag : List ℕ) (to : AddressParts) → first_that_stands (wide tag ∷ where_true (not (selects (target_of epd) s.startup.cert)) NotSelected ∷ []) ≡ None →
      Fits secrets setup call past s (InStartup (Some (initiator_hello_answer s.startup tag to s.moment s.group)))
  hello_fits epd tag to none =
      own_fits s.group tied.holds.current tag to (narrow 128 tag (first_none (wide tag) (where_true (not (selects (target_of epd) s.startup.cert)) NotSelected) none))

  -- a hello for this end, or for one that is introduced
  redirect_fits : (g : GroupSecret) → HasSecret secrets g → (tag : List ℕ) (to : AddressParts) → length tag ≤ 128 → (o : Option (List AddressParts)) → ((addresses : List AddressParts) → o ≡ Some addresses → length addresses ≤ 16) →
      MayAlways secrets setup (redirect_of tag to o g)
  redirect_fits g has tag to short None few = tt
  redirect_fits g has tag to short (Some addresses) few = λ p. record { under = under_has secrets g has; may = redirect_may secrets setup p g.generation 0 tag addresses short (few addresses refl) }

  introduced_fits : (g : GroupSecret) → HasSecret secrets g → (epd tag : List ℕ) (from : AddressParts) → length tag ≤ 128 → (o : Option Epd) → discriminator_of epd ≡ o → Fits secrets setup call past s (introduction s o epd tag from g)
  introduced_fits g has epd tag from short None is = record { sent = sent; may = tt }
  introduced_fits g has epd tag from short (Some selected) is =
      record {
        sent = sent;
        may = (forwarded_is_modest epd tag from (discriminator_length epd selected is) short, redirect_fits g has tag from short (redirected_to s selected.print) (λ addresses e. sent.rows selected.print addresses e));
      }

  any_hello_fits : (g : GroupSecret) → HasSecret secrets g → (epd tag : List ℕ) (from : AddressParts) → hello_cause s epd tag ≡ None → Fits secrets setup call past s (hello_reply s epd tag from g)
  any_hello_fits g has epd tag from none =
      let short : length tag ≤ 128 = narrow 128 tag (first_none (wide tag) _ none) in
      by (selects (target_of epd) s.startup.cert) short
    where
      by : (own : Bool) → length tag ≤ 128 → Fits secrets setup call past s (if own then InStartup (Some (initiator_hello_answer s.startup tag from s.moment g)) else introduction s (discriminator_of epd) epd tag from g)
      by true short = own_fits g has tag from short
      by false short = introduced_fits g has epd tag from short (discriminator_of epd) refl

  redirected_fits : (tag : List ℕ) (addresses : List AddressParts) (o : Option (ℕ × AttemptState)) → lowest (has_tag tag) s.startup.attempts ≡ o →
      Fits secrets setup call past (with_startup s (after_redirect_of s.startup o addresses s.moment)) (Hellos (redirect_spread_of o addresses))
  redirected_fits tag addresses None is = record { sent = sent_same secrets setup past s sent; may = tt }
  redirected_fits tag addresses (Some e) is = record { sent = by (new_candidates e.1.candidates addresses); may = hello_may secrets setup past s tied (measured secrets setup past s sent) e.0 e.1 there }
    where
      there : get s.startup.attempts e.0 ≡ Some e.1
      there = answered_there s.startup.attempts tag e is

      by : (new : List AddressParts) → Sent secrets setup past (with_startup s (after_extension s.startup e new s.moment))
      by [] = sent_same secrets setup past s sent
      by (first ∷ others) = sent_startup_changed secrets setup past s (after_extension s.startup e (first ∷ others) s.moment) sent
          (short_put s.startup.attempts e.0 (extended e.1 (first ∷ others) s.moment) sent.short (record { tag = (sent.short e.0 e.1 there).tag; cookie = (sent.short e.0 e.1 there).cookie; name = (sent.short e.0 e.1 there).name }))
          (record { tags = tags_put past s.startup.attempts sent.staged.tags e.0 e.1 (extended e.1 (first ∷ others) s.moment) there refl; attempts = stages_put secrets past s.startup.attempts sent.staged.attempts e.0 (extended e.1 (first ∷ others) s.moment) (sent.staged.attempts e.0 e.1 there); kept = sent.staged.kept })

  -- another cookie leaves the generation
  recookied_stage : (near : ℕ) (cookie : List ℕ) (stage : Stage) → IsStageOf secrets past near stage → IsStageOf secrets past near (with_cookie cookie stage)
  recookied_stage near cookie Hello is = is
  recookied_stage near cookie (Keying at old under) is = is

  again_may : (e : ℕ × AttemptState) (cookie : List ℕ) (stage : Stage) → e.1.stage ≡ stage → get s.startup.attempts e.0 ≡ Some e.1 → length cookie ≤ 128 →
      MayReply secrets setup call past (with_startup s (after_change s.startup (Some e) cookie s.moment)) (InStartup (again_under s.startup.cert e.0 e.1 stage cookie))
  again_may e cookie Hello is there short = tt
  again_may e cookie (Keying at old under) is there short =
      let stage : IsStageOf secrets past e.0 (Keying at old under) = stage_there secrets setup past s sent.staged e.0 e.1 (Keying at old under) is there in
      inr (
        e.0,
        attempt_may secrets setup past s tied (measured secrets setup past s sent) call (with_startup s (after_change s.startup (Some e) cookie s.moment)) under stage.1 e.0 e.1 at cookie
            (keyed_towards e.1.aim e.1.stage at old under is (tied.sound.stages e.0 e.1 there)) there short cert (λ peer n aims. inl stage.0)
            (keyed_put secrets s.startup.attempts e.0 (recookied e.1 cookie s.moment) at cookie under (ap (with_cookie cookie) is) stage.1),
      )

  changed_fits : (sid : ℕ) (old cookie : List ℕ) (o : Option (ℕ × AttemptState)) → changed s.startup.attempts sid old ≡ o → length cookie ≤ 128 →
      Fits secrets setup call past (with_startup s (after_change s.startup o cookie s.moment)) (InStartup (change_keying s.startup o cookie))
  changed_fits sid old cookie None is short = record { sent = sent_same secrets setup past s sent; may = tt }
  changed_fits sid old cookie (Some e) is short =
      let there : get s.startup.attempts e.0 ≡ Some e.1 = changed_there s.startup.attempts sid old e is in
      record {
        sent = sent_startup_changed secrets setup past s (after_change s.startup (Some e) cookie s.moment) sent
            (short_put s.startup.attempts e.0 (recookied e.1 cookie s.moment) sent.short (record { tag = (sent.short e.0 e.1 there).tag; cookie = narrow_with cookie e.1.stage short; name = (sent.short e.0 e.1 there).name }))
            (record {
              tags = tags_put past s.startup.attempts sent.staged.tags e.0 e.1 (recookied e.1 cookie s.moment) there refl;
              attempts = stages_put secrets past s.startup.attempts sent.staged.attempts e.0 (recookied e.1 cookie s.moment) (recookied_stage e.0 cookie e.1.stage (sent.staged.attempts e.0 e.1 there));
              kept = sent.staged.kept;
            });
        may = again_may e cookie e.1.stage refl there short;
      }

  read_fits : (place : Place) (from : AddressParts) (read : Result Chunk ChunkFault) → IsNoHello read → read_cause s place from read ≡ None → Fits secrets setup call past (read_left s place from read) (read_reply s place from read)
  read_fits place from (Ok (RHello tag cookie their)) other none = absurd other
  read_fits place from (Ok (IHello epd tag)) other none = any_hello_fits (group_at s place) (group_known secrets s tied.holds place) epd tag from none
  read_fits place from (Ok (FIHello epd reply tag)) other none = hello_fits epd tag reply none
  read_fits place from (Ok (Redirect tag list)) other none = redirected_fits tag (told_addresses list from) (lowest (has_tag tag) s.startup.attempts) refl
  read_fits place from (Ok (CookieChange old new)) other none =
      let causes = firsts_none (wide old) (wide new) (none_to_change (group_at s place).generation (changed s.startup.attempts (sid_at place) old)) none in
      changed_fits (sid_at place) old new (changed s.startup.attempts (sid_at place) old) refl (narrow 128 new causes.1)
  read_fits place from (Ok (Ping bytes)) other none =
      let short : length bytes ≤ 1024 = narrow 1024 bytes none in
      record { sent = sent; may = one_is_modest (PingReply bytes) (omega arith) (omega arith) (omega arith) }
  read_fits place from _ other none = record { sent = sent; may = tt }

-- ---- whatever the chunk is

module _ (secrets : Secrets) (setup : Setup) (call : Call) where
  pub goes_read : (past : Past) (s : State) (place : Place) (from : AddressParts) (read : Result Chunk ChunkFault) → Goes secrets setup call past s (read_first s place from read) → Goes secrets setup call past s (read_done s place from read)
  goes_read past s place from read first =
      let t : State = read_left s place from read in
      let reply : Reply = read_reply s place from read in
      goes_then secrets setup call past s (read_first s place from read) (λ u. replied u place from reply) first
      (replied_made (goes_sends secrets setup call) t place from reply (carries_any Any (λ body. tt) reply) (onto s.moment (fact_entries (read_fact s read)) past) first.tied)

  -- where no keying can go out, a responder's hello states nothing and leaves all as it was
  pub goes_spent : (past : Past) (s : State) (place : Place) (from : AddressParts) (tag cookie cert : List ℕ) → Tied secrets setup past s → (b : Bool) → is_spent s ≡ b →
      (b ≡ false → Goes secrets setup call past s (hello_first s place (sha256 cert) (lowest (has_tag tag) s.startup.attempts) from cookie)) → Goes secrets setup call past s (read_first s place from (Ok (RHello tag cookie cert)))
  goes_spent past s place from tag cookie cert tied b is goes =
      subst (λ (x : Bool). Goes secrets setup call past s (record {
        state = if x then s else with_startup s (after_rhello s.startup tag cookie cert from s.moment (group_at s place));
        entries = fact_entries (if x then None else rhello_fact s.startup tag cert);
      })) (sym is) (by b goes)
    where
      by : (x : Bool) → (x ≡ false → Goes secrets setup call past s (hello_first s place (sha256 cert) (lowest (has_tag tag) s.startup.attempts) from cookie)) → Goes secrets setup call past s (record {
        state = if x then s else with_startup s (after_rhello s.startup tag cookie cert from s.moment (group_at s place));
        entries = fact_entries (if x then None else rhello_fact s.startup tag cert);
      })
      by true told = goes_nothing secrets setup call s past tied
      by false told = told refl

  -- all but a responder's hello state nothing
  pub goes_other : (s : State) (place : Place) (from : AddressParts) (read : Result Chunk ChunkFault) → IsNoHello read → Keeps secrets setup call s (read_first s place from read)
  goes_other s place from (Ok (RHello tag cookie cert)) other past tied = absurd other
  goes_other s place from (Ok (IHello epd tag)) other past tied = record { meets = tt; tied = left_tied secrets setup past s tied place from (Ok (IHello epd tag)) tt; moment = refl }
  goes_other s place from (Ok (FIHello epd reply tag)) other past tied = record { meets = tt; tied = left_tied secrets setup past s tied place from (Ok (FIHello epd reply tag)) tt; moment = refl }
  goes_other s place from (Ok (Redirect tag list)) other past tied = record { meets = tt; tied = left_tied secrets setup past s tied place from (Ok (Redirect tag list)) tt; moment = refl }
  goes_other s place from (Ok (CookieChange old new)) other past tied = record { meets = tt; tied = left_tied secrets setup past s tied place from (Ok (CookieChange old new)) tt; moment = refl }
  goes_other s place from _ other past tied = record { meets = tt; tied = tied; moment = refl }

module _ (secrets : Secrets) (setup : Setup) (now : ℕ) (call : Call) (past : Past) where
  pub says : (s : State) → Sent secrets setup past s → Tied secrets setup past s → (near : ℕ) (from : AddressParts) (body : List ℕ) → IsModest body → (o : Option Row) → get s.sessions near ≡ o → Meets secrets setup now call past (sent_by s near from body o)
  says s sent tied near from body modest None is = meets_nothing secrets setup now call past s sent
  says s sent tied near from body modest (Some row) is =
      meets_session secrets setup now call past s sent near row is (may_send secrets setup past s near row tied is) from body modest

  pub home_by : (s : State) → Sent secrets setup past s → Tied secrets setup past s → (near : ℕ) (body : List ℕ) → IsModest body → (o : Option Row) → get s.sessions near ≡ o → Meets secrets setup now call past (sent_home_by s near body o)
  home_by s sent tied near body modest None is = meets_nothing secrets setup now call past s sent
  home_by s sent tied near body modest (Some row) is = says s sent tied near row.session.address body modest (Some row) is

  meets_forwarded : (s : State) → Sent secrets setup past s → Tied secrets setup past s → (to : Option ℕ) (body : List ℕ) → IsModest body → Meets secrets setup now call past (forwarded s to body)
  meets_forwarded s sent tied None body modest = meets_nothing secrets setup now call past s sent
  meets_forwarded s sent tied (Some near) body modest = home_by s sent tied near body modest (get s.sessions near) refl

  meets_redirected : (t : State) (more : Past) → Sent secrets setup more t → t.startup.ledger.own ≡ own_of setup → (redirect : Option Answer) → MayAlways secrets setup redirect → Meets secrets setup now call more (sent_if t redirect)
  meets_redirected t more sent own None may = meets_nothing secrets setup now call more t sent
  meets_redirected t more sent own (Some answer) may = meets_light secrets setup now call more t own answer sent (may more)

  meets_replied : (s : State) → Sent secrets setup past s → Tied secrets setup past s → (place : Place) (from : AddressParts) (reply : Reply) → MayReply secrets setup call past s reply → Meets secrets setup now call past (replied s place from reply)
  meets_replied s sent tied place from Silence may = meets_nothing secrets setup now call past s sent
  meets_replied s sent tied place from (InStartup None) may = meets_nothing secrets setup now call past s sent
  meets_replied s sent tied place from (InStartup (Some answer)) may = meets_answer secrets setup now call past s tied.own answer sent may
  meets_replied s sent tied place from (Hellos None) may = meets_nothing secrets setup now call past s sent
  meets_replied s sent tied place from (Hellos (Some spread)) may = meets_each secrets setup now call spread.plain may spread.to past s sent tied.holds.current tied.own
  meets_replied s sent tied place from (Introduction to body redirect) may =
      let d : Did = forwarded s to body in
      let first : Meets secrets setup now call past d = meets_forwarded s sent tied to body may.0 in
      let same : d.state.startup ≡ s.startup = forwarded_startup s to body in
      meets_then secrets setup now call past d (λ t. sent_if t redirect) first
      (meets_redirected d.state (onto now d.entries past) first.sent (ap (λ (t : StartupState). t.ledger.own) same ∙ tied.own) redirect may.1)
  meets_replied s sent tied place from (InSession body) may = says s sent tied (sid_at place) from body may (get s.sessions (sid_at place)) refl

aim_peer : (p q : List ℕ) (n m : ℕ) → AtPeer p n ≡ AtPeer q m → p ≡ q
aim_peer p q n m e = cc

right_peer : (peer their : List ℕ) → (if bytes_eq (sha256 their) peer then None else Some WrongPeer) ≡ None → sha256 their ≡ peer
right_peer peer their none = by (bytes_eq (sha256 their) peer) refl none
  where
    by : (b : Bool) → bytes_eq (sha256 their) peer ≡ b → (if b then None else Some WrongPeer) ≡ None → sha256 their ≡ peer
    by true is e = (bytes_eq-Decides (sha256 their) peer).0 is
    by false is e = absurd (cc)

-- ---- a responder's hello: what it states and leaves, and its keying, are one step

-- The datagram of the event is one with this responder's hello, whichever attempt takes it: also behind what its event states.
abbrev pub BringsHello : Secrets → Setup → Call → Past → State → Place → List ℕ → List ℕ → List ℕ → Type 0
BringsHello secrets setup call past s place tag cookie their = (more : Past) → startup_contexts setup more ≡ startup_contexts setup past →
    (near : ℕ) → tag_of near more ≡ Some tag → ((other : ℕ) → IsTagged more tag other → near ≤ other) → length cookie ≤ 128 → TakesHelloOf secrets setup more (sha256 their) near (group_at s place).generation (receive_in call)

-- what stands with a tag is an attempt of the end that has it
tagged_there : (secrets : Secrets) (setup : Setup) (past : Past) (s : State) → Tied secrets setup past s → TagsAre past s.startup.attempts → (tag : List ℕ) (near : ℕ) → IsTagged past tag near →
    (a : AttemptState) × (get s.startup.attempts near ≡ Some a) × (a.tag ≡ tag)
tagged_there secrets setup past s tied tags tag near tagged = elim tagged.0 [
  | inl search ↦ by_search (get s.startup.attempts near) refl search (tied.searching near search.which search.at search.stands)
  | inr attempt ↦ by_attempt (get s.startup.attempts near) refl attempt.peer (tied.sound.there attempt.peer attempt.n near attempt.ni (reads_held 0 s.startup.ledger (facts_of past) tied.account attempt.peer ∙ attempt.is_held))
]
  where
    same : (a : AttemptState) → get s.startup.attempts near ≡ Some a → a.tag ≡ tag
    same a there = let both : Some a.tag ≡ Some tag = sym (tags near a there) ∙ tagged.1 in cc

    by_search : (o : Option AttemptState) → get s.startup.attempts near ≡ o → (search : SearchUnder past near) → IsKeptIn o search.which search.at → (a : AttemptState) × (get s.startup.attempts near ≡ Some a) × (a.tag ≡ tag)
    by_search None there search kept = absurd kept
    by_search (Some a) there search kept = (a, there, same a there)

    by_attempt : (o : Option AttemptState) → get s.startup.attempts near ≡ o → (peer : List ℕ) → peer_of_attempt o ≡ Some peer → (a : AttemptState) × (get s.startup.attempts near ≡ Some a) × (a.tag ≡ tag)
    by_attempt None there peer is = absurd (cc)
    by_attempt (Some a) there peer is = (a, there, same a there)

module _ (secrets : Secrets) (setup : Setup) (call : Call) (past : Past) (s : State) (sent : Sent secrets setup past s) (tied : Tied secrets setup past s) (cert : length setup.cert ≤ 80) (place : Place) (from : AddressParts) (tag cookie their : List ℕ)
    (brings : BringsHello secrets setup call past s place tag cookie their) (no_open : open_of (last_call past) ≡ None) where
  abbrev g : GroupSecret
  g = group_at s place

  abbrev print : List ℕ
  print = sha256 their

  has : HasSecret secrets (group_at s place)
  has = group_known secrets s tied.holds place

  -- what it does where a keying can go out
  abbrev Answers : ℕ × AttemptState → Aim → Type 0
  Answers e aim = Meets secrets setup s.moment call past (after_entries (fact_entries (answer_fact_as s.startup (sha256 their) e.0 e.1.ni aim))
      (sent_answer (with_startup s (after_answer_as s.startup (sha256 their) e from cookie s.moment (group_at s place) aim)) (answer_keying_as s.startup (sha256 their) e.0 e.1.ni from cookie (group_at s place) aim)))

  -- the attempt or search that is found has the lowest session ID of those with the tag
  is_lowest : (e : ℕ × AttemptState) → lowest (has_tag tag) s.startup.attempts ≡ Some e → (other : ℕ) (a : AttemptState) → get s.startup.attempts other ≡ Some a → a.tag ≡ tag → e.0 ≤ other
  is_lowest e is other a there same = first_is_lowest (has_tag tag) s.startup.attempts e is other a there ((bytes_eq-Decides a.tag tag).1 same)

  -- an attempt
  goes_on : (some : (s.sealed == last_count) ≡ false) (e : ℕ × AttemptState) (peer : List ℕ) (n : ℕ) → e.1.aim ≡ AtPeer peer n → e.1.stage ≡ Hello → get s.startup.attempts e.0 ≡ Some e.1 → lowest (has_tag tag) s.startup.attempts ≡ Some e → tag_of e.0 past ≡ Some tag → length cookie ≤ 128 → sha256 their ≡ peer → Answers e (AtPeer peer n)
  goes_on some e peer n aims hello there least tagged short print =
      let a : AttemptState = answered e.1 from cookie s.moment (group_at s place) in
      let t : State = with_startup s (with_attempt s.startup e.0 a) in
      let is : IsShort e.1 = sent.short e.0 e.1 there in
      let counted : Measured setup past t = measured_startup setup past s (with_attempt s.startup e.0 a) (measured secrets setup past s sent) (short_put s.startup.attempts e.0 a sent.short (record { tag = is.tag; cookie = short; name = is.name })) in
      let hello_of : IsInHello secrets e.0 past = stage_there secrets setup past s sent.staged e.0 e.1 Hello hello there in
      let k : KeyingAnswer secrets setup call past t e.0 (keying_under (group_at s place) s.startup.cert e.0 e.1 from cookie) =
      attempt_may secrets setup past s tied (measured secrets setup past s sent) call t (group_at s place) has e.0 e.1 from cookie (subst IsAtPeer (sym aims) tt) there short cert (λ q m at. inr (
        hello_of,
        subst (λ (p : List ℕ). TakesHelloOf secrets setup past p e.0 (group_at s place).generation (receive_in call)) (print ∙ aim_peer peer q n m (sym aims ∙ at)) (brings past refl e.0 tagged (λ other tagged_other. let found = tagged_there secrets setup past s tied sent.staged.tags tag other tagged_other in is_lowest e least other found.0 found.1 found.2) short),
      ))
      (keyed_put secrets s.startup.attempts e.0 a from cookie (group_at s place) refl has) in
      subst (λ (aim : Aim). Meets secrets setup s.moment call past (sent_answer t (answer_under (group_at s place) from 0 (keying_of_aim (sign_key_of (group_at s place).secret) e.0 cookie s.startup.cert e.1.ni aim)))) aims
      (meets_keyed secrets setup s.moment call past t tied.own (keying_under (group_at s place) s.startup.cert e.0 e.1 from cookie) counted e.0 k
      (λ q b other is_there. sent.staged.attempts q b (sym (get_beside s.startup.attempts e.0 a q other) ∙ is_there)) sent.staged.kept (tags_put past s.startup.attempts sent.staged.tags e.0 e.1 a there refl) (λ spent. let clash : true ≡ false = sym spent ∙ some in absurd (cc)))

  -- so too where another attempt is put in its place
  lowest_with : (e : ℕ × AttemptState) (new : AttemptState) → lowest (has_tag tag) s.startup.attempts ≡ Some e → get s.startup.attempts e.0 ≡ Some e.1 → (other : ℕ) (a : AttemptState) → get (insert s.startup.attempts e.0 new) other ≡ Some a → a.tag ≡ tag → e.0 ≤ other
  lowest_with e new least there other a is same = elim (found_inserted s.startup.attempts e.0 new other a is) [
    | inl here ↦ omega (arith, here.0)
    | inr old ↦ is_lowest e least other a old.1 same
  ]

  -- a search that becomes an attempt
  begins_so : (some : (s.sealed == last_count) ≡ false) (e : ℕ × AttemptState) (name : List ℕ) → e.1.aim ≡ ByName name → get s.startup.attempts e.0 ≡ Some e.1 → lowest (has_tag tag) s.startup.attempts ≡ Some e → tag_of e.0 past ≡ Some tag → length cookie ≤ 128 → search_cause s.startup name their ≡ None → Answers e (ByName name)
  begins_so some e name aims there least tagged short none =
      let kept = kept_as secrets setup past s tied e.0 e.1 name aims there in
      let may = (met_if secrets setup past s tied name their none).may in
      let fact : Fact = started_fact s.startup.ledger (sha256 their) e.0 e.1.ni in
      let x : Stamped = stamped s.moment (FactEntry fact) in
      let now : Past = x ∷ past in
      let a : AttemptState = met e.1 (sha256 their) (s.startup.ledger.started + 1) from cookie s.moment (group_at s place) in
      let t : State = with_startup s (after_answer_as s.startup (sha256 their) e from cookie s.moment (group_at s place) (ByName name)) in
      let after : Tied secrets setup now t = met_tied secrets setup past s tied e.0 e.1 name aims there (sha256 their) place from cookie may in
      let is : IsShort e.1 = sent.short e.0 e.1 there in
      let drawn : opened_tag (open_of (last_call past)) (tag_of e.0 past) ≡ tag_of e.0 past = ap (λ (o : Option OpenCall). opened_tag o (tag_of e.0 past)) no_open in
      let same_tag : tag_of e.0 now ≡ tag_of e.0 past = tag_started e.0 s.moment (sha256 their) (s.startup.ledger.started + 1) e.1.ni past ∙ drawn in
      let stated : Measured setup now s = measured_fact setup past s s.moment fact (measured secrets setup past s sent) (length-sha256 their, kept.2, omega (arith, kept.1)) in
      let counted : Measured setup now t = measured_startup setup now s t.startup stated (short_put s.startup.attempts e.0 a sent.short (record { tag = is.tag; cookie = short; name = tt })) in
      let unheld : held (sha256 their) (facts_of past) ≡ None = sym (reads_held 0 s.startup.ledger (facts_of past) tied.account (sha256 their)) ∙ may.unheld in
      let tags : TagsAre now t.startup.attempts = tags_started past s.startup.attempts sent.staged.tags e.0 s.moment (sha256 their) (s.startup.ledger.started + 1) e.1.ni a (drawn ∙ sent.staged.tags e.0 e.1 there) in
      let k : KeyingAnswer secrets setup call now t e.0 (keying_under (group_at s place) t.startup.cert e.0 a from cookie) =
      attempt_may secrets setup now t after counted call t (group_at s place) has e.0 a from cookie tt (get_inserted s.startup.attempts e.0 a) short cert
      (λ q m at. inr (
        hello_started secrets past e.0 x refl refl,
        subst (λ (p : List ℕ). TakesHelloOf secrets setup now p e.0 (group_at s place).generation (receive_in call)) (aim_peer (sha256 their) q (s.startup.ledger.started + 1) m at)
            (brings now refl e.0 (same_tag ∙ tagged) (λ other tagged_other. let found = tagged_there secrets setup now t after tags tag other tagged_other in lowest_with e a least there other found.0 found.1 found.2) short),
      ))
      (keyed_put secrets s.startup.attempts e.0 a from cookie (group_at s place) refl has) in
      meets_after secrets setup s.moment call past (FactEntry fact ∷ []) (sent_answer t (keying_under (group_at s place) t.startup.cert e.0 a from cookie)) (tt, tt)
      (meets_keyed secrets setup s.moment call now t after.own (keying_under (group_at s place) t.startup.cert e.0 a from cookie) counted e.0 k
      (λ q b other is_there. stage_beside secrets past q x (beside_begun secrets q x refl (λ same. other (sym same)) tt) b.stage (sent.staged.attempts q b (sym (get_beside s.startup.attempts e.0 a q other) ∙ is_there)))
      (kept_nothing secrets setup past s.startup.kept sent.staged.kept sent.sized s.moment fact unheld)
      tags
      (λ spent. let clash : true ≡ false = sym spent ∙ some in absurd (cc)))

  by_aim : (some : (s.sealed == last_count) ≡ false) (e : ℕ × AttemptState) → get s.startup.attempts e.0 ≡ Some e.1 → lowest (has_tag tag) s.startup.attempts ≡ Some e → tag_of e.0 past ≡ Some tag → length cookie ≤ 128 → (stage : Stage) → e.1.stage ≡ stage → (aim : Aim) → e.1.aim ≡ aim → hello_cause_of s.startup stage aim their ≡ None → Answers e aim
  by_aim some e there least tagged short Hello hello (AtPeer peer n) aims none = goes_on some e peer n aims hello there least tagged short (right_peer peer their none)
  by_aim some e there least tagged short Hello hello (ByName name) aims none = begins_so some e name aims there least tagged short none
  by_aim some e there least tagged short (Keying at old under) hello aim aims none = absurd (cc)

  by_found : (some : (s.sealed == last_count) ≡ false) (o : Option (ℕ × AttemptState)) → lowest (has_tag tag) s.startup.attempts ≡ o → length cookie ≤ 128 → hello_cause_at s.startup o their ≡ None →
      Meets secrets setup s.moment call past (after_entries (fact_entries (answer_fact s.startup (sha256 their) o)) (sent_if (with_startup s (after_answer s.startup (sha256 their) o from cookie s.moment (group_at s place))) (answer_keying s.startup (sha256 their) o from cookie (group_at s place))))
  by_found some None is short none = absurd (cc)
  by_found some (Some e) is short none =
      let found = first_is_there (has_tag tag) s.startup.attempts e is in
      let same : e.1.tag ≡ tag = (bytes_eq-Decides e.1.tag tag).0 found.1 in
      by_aim some e found.0 is (sent.staged.tags e.0 e.1 found.0 ∙ ap (λ (t : List ℕ). Some t) same) short e.1.stage refl e.1.aim refl none

  -- nothing goes out where no count is left
  spent_none : (b : Bool) (d : Did) → b ≡ true → Meets secrets setup s.moment call past (if b then nothing s else d)
  spent_none true d e = meets_nothing secrets setup s.moment call past s sent
  spent_none false d e = absurd (cc)

  spent_answer : (s.sealed == last_count) ≡ true → (o : Option Answer) → Meets secrets setup s.moment call past (sent_if s o)
  spent_answer spent None = meets_nothing secrets setup s.moment call past s sent
  spent_answer spent (Some answer) = spent_none (s.sealed == last_count) _ spent

  meets_hello : rhello_cause s.startup tag cookie their ≡ None → Meets secrets setup s.moment call past (read_done s place from (Ok (RHello tag cookie their)))
  meets_hello none = by (s.sealed == last_count) refl
    where
      by : (b : Bool) → (s.sealed == last_count) ≡ b →
          Meets secrets setup s.moment call past (after_entries (fact_entries (if b then None else rhello_fact s.startup tag their))
          (replied (if b then s else with_startup s (after_rhello s.startup tag cookie their from s.moment (group_at s place))) place from (InStartup (rhello_keying s.startup tag cookie their from (group_at s place)))))
      by true spent = spent_answer spent (rhello_keying s.startup tag cookie their from (group_at s place))
      by false some =
          let o : Option (ℕ × AttemptState) = lowest (has_tag tag) s.startup.attempts in
          let all = all_none (wide tag ∷ wide cookie ∷ hello_cause_at s.startup o their ∷ []) none in
          by_found some o refl (narrow 128 cookie all.1.0) all.1.1.0

meets_other : (secrets : Secrets) (setup : Setup) (call : Call) (past : Past) (s : State) → Sent secrets setup past s → Tied secrets setup past s → length setup.cert ≤ 80 → (place : Place) (from : AddressParts) (read : Result Chunk ChunkFault) → IsNoHello read → read_cause s place from read ≡ None →
    Meets secrets setup s.moment call past (read_done s place from read)
meets_other secrets setup call past s sent tied cert place from read other none =
    let fits = read_fits secrets setup call past s sent tied cert place from read other none in
    subst (λ (o : Option Fact). Meets secrets setup s.moment call past (after_entries (fact_entries o) (replied (read_left s place from read) place from (read_reply s place from read)))) (sym (no_fact s read other))
    (meets_replied secrets setup s.moment call past (read_left s place from read) fits.sent (left_tied secrets setup past s tied place from read other) place from (read_reply s place from read) fits.may)

-- The event brings this responder's hello.
pub record HelloCame (secrets : Secrets) (setup : Setup) (call : Call) (past : Past) (s : State) (place : Place) (tag cookie their : List ℕ) : Type 0 where
  pub brings : BringsHello secrets setup call past s place tag cookie their
  pub no_open : open_of (last_call past) ≡ None

pub meets_read : (secrets : Secrets) (setup : Setup) (call : Call) (past : Past) (s : State) → Sent secrets setup past s → Tied secrets setup past s → length setup.cert ≤ 80 → (place : Place) (from : AddressParts) (read : Result Chunk ChunkFault) →
    ((tag cookie their : List ℕ) → read ≡ Ok (RHello tag cookie their) → HelloCame secrets setup call past s place tag cookie their) → read_cause s place from read ≡ None → Meets secrets setup s.moment call past (read_done s place from read)
meets_read secrets setup call past s sent tied cert place from =
    by_hello (λ read. ((tag cookie their : List ℕ) → read ≡ Ok (RHello tag cookie their) → HelloCame secrets setup call past s place tag cookie their) → read_cause s place from read ≡ None → Meets secrets setup s.moment call past (read_done s place from read))
    (λ tag cookie their takes none. meets_hello secrets setup call past s sent tied cert place from tag cookie their (takes tag cookie their refl).brings (takes tag cookie their refl).no_open none)
    (λ read other takes none. meets_other secrets setup call past s sent tied cert place from read other none)
