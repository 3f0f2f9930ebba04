-- Keyings that bear and open sessions.
use Rattle.std.specs.Prelude.{option_to_list}
use Rattle.std.specs.FinMap.{get}
use Rattle.std.proofs.Common.{◌≡◌, ◌≤◌, ◌+◌, ◌++◌, ℕ, List, [], ◌∷◌, length, Option, Some, sym, ap, ◌∙◌, subst, arith, append_assoc, length-append}
use Rattle.rtmfp_chunks.specs.Writing.{chunk_bytes}
use Rattle.crypto_profile.specs.declared.group.GroupSecret.{GroupSecret}
use Rattle.rtmfp_forms.specs.Address.{AddressParts}
use Rattle.rtmfp_chunks.specs.Chunk.{Ping}
use Rattle.glare_core.specs.declared.facts.Fact.{Fact}
use Rattle.startup.specs.declared.answer.Answer.{Answer}
use Rattle.startup.specs.declared.answer.Keyed.{Keyed}
use Rattle.startup.specs.State.{StartupState}
use Rattle.startup.specs.Keyings.{keyed, after_keying, opened, after_opening}
use Rattle.end_state.specs.declared.settings.Settings.{Settings}
use Rattle.end_state.specs.declared.groups.Groups.{Groups}
use Rattle.endpoint_model.specs.declared.config.Draws.{Draws}
use Rattle.endpoint_model.specs.declared.entry.Entry.{Entry}
use Rattle.endpoint_model.specs.declared.entry.Entry.TheVariants.{Fact as FactEntry}
use Rattle.endpoint_model.specs.declared.place.Place.{Place}
use Rattle.endpoint_model.specs.Added.{Added}
use Rattle.endpoint_model.specs.Admission.{attempt_group, group_at}
use Rattle.endpoint_model.specs.Effects.{initiator_keyed, keying_done, responder_keyed, opening_done, sessions_born, sessions_opened, with_born, with_opened}
use Rattle.end_state.specs.Stored.{IsEnd, state_of}
use Rattle.end_state.specs.Groups.{group_there}
use Rattle.end_state.specs.Steps.{Gives}
use Rattle.end_state.proofs.Endings.{made_room}
use Rattle.end_state.proofs.Giving.{given_done}
use Rattle.end_state.proofs.Under.{there_is}
use Rattle.endpoint_model.specs.Sending.{sent_answer, sent_in_session}
use Rattle.endpoint_model.specs.State.{State, Sessions, Did, Done, after_entries, free_from, with_startup, with_sessions}
use Rattle.end_chunks.proofs.Constants.{IsSameEnd, end_stays, keying_keeps, opening_keeps}

-- ---- what an outbox got

-- These entries were added, and the room that they took.
pub record IsAdded (before after : Added) (entries : List Entry) : Type 0 where
  pub entries_are : after.entries ≡ before.entries ++ entries
  pub free : before.free ≤ after.free + length entries
  pub room : after.room ≡ before.room

-- one more entry
pub one_added : (before between after : Added) (entries : List Entry) (entry : Entry) → between.entries ≡ before.entries ++ entries → before.free ≤ between.free + length entries → between.room ≡ before.room →
    after.entries ≡ between.entries ++ entry ∷ [] → between.free ≤ after.free + 1 → after.room ≡ between.room → IsAdded before after (entries ++ entry ∷ [])
one_added before between after entries entry e1 f1 r1 e2 f2 r2 = record {
  entries_are = e2 ∙ ap (λ xs. xs ++ entry ∷ []) e1 ∙ append_assoc before.entries entries (entry ∷ []);
  free = omega (arith, f1, f2, length-append entries (entry ∷ []));
  room = r2 ∙ r1;
}

-- entries, and then a thing
pub added_first : (entries : List Entry) (d : Did) (new : State) (before between after : Added) → IsAdded before between entries → Done d new between after →
    Done (after_entries entries d) new before after
added_first entries d new before between after is done = record {
  state = done.state;
  entries = done.entries ∙ ap (λ xs. xs ++ d.entries) is.entries_are ∙ append_assoc before.entries entries d.entries;
  free = omega (arith, done.free, is.free, length-append entries d.entries);
  room = done.room ∙ is.room;
}

-- ---- what startup left

pub startup_put : (settings : Settings) (moment sealed limit : ℕ) (groups : Groups) (startup next left : StartupState) (sessions rows : Sessions) → rows ≡ sessions → next ≡ left →
    state_of settings moment sealed limit groups next rows ≡ with_startup (state_of settings moment sealed limit groups startup sessions) left
startup_put settings moment sealed limit groups startup next left sessions rows same is =
    ap (λ r. state_of settings moment sealed limit groups next r) same ∙ ap (λ x. state_of settings moment sealed limit groups x sessions) is

-- ---- an initiator's keying

pub keyed_so : (s t : State) (place : Place) (from : AddressParts) (draws : Draws) (payload : List ℕ) (near : ℕ) (g : GroupSecret) (k : Keyed) (new : State) (before after : Added) →
    near ≡ free_from s draws.word → g ≡ group_at s place → keyed s.startup payload from s.moment near draws.nonce g ≡ Some k →
    t ≡ with_startup s (after_keying s.startup payload from s.moment near draws.nonce g) →
    Done (keying_done t from g (Some k)) new before after → Done (initiator_keyed s place from draws payload) new before after
keyed_so s t place from draws payload near g k new before after near_is g_is keyed_is t_is done =
    let left : ℕ → GroupSecret → State = λ n h. with_startup s (after_keying s.startup payload from s.moment n draws.nonce h) in
    let here : Done (keying_done (left near g) from g (Some k)) new before after = subst (λ u. Done (keying_done u from g (Some k)) new before after) t_is done in
    let there : Done (keying_done (left near g) from g (keyed s.startup payload from s.moment near draws.nonce g)) new before after =
    subst (λ o. Done (keying_done (left near g) from g o) new before after) (sym keyed_is) here in
    let under : Done (keying_done (left near (group_at s place)) from (group_at s place) (keyed s.startup payload from s.moment near draws.nonce (group_at s place))) new before after =
    subst (λ h. Done (keying_done (left near h) from h (keyed s.startup payload from s.moment near draws.nonce h)) new before after) g_is there in
    subst (λ n. Done (keying_done (left n (group_at s place)) from (group_at s place) (keyed s.startup payload from s.moment n draws.nonce (group_at s place))) new before after) near_is under

-- the same of how an end is kept
pub keyed_here : (settings : Settings) (moment sealed limit : ℕ) (groups : Groups) (startup next : StartupState) (sessions rows : Sessions) (s : State) (place : Place) (from : AddressParts) (draws : Draws) (payload : List ℕ) (near : ℕ) (g : GroupSecret) (k : Keyed) (new : State) (before after : Added) →
    state_of settings moment sealed limit groups startup sessions ≡ s → near ≡ free_from s draws.word → g ≡ group_there groups startup place → rows ≡ sessions →
    keyed startup payload from moment near draws.nonce g ≡ Some k → next ≡ after_keying startup payload from moment near draws.nonce g →
    Done (keying_done (state_of settings moment sealed limit groups next rows) from g (Some k)) new before after → Done (initiator_keyed s place from draws payload) new before after
keyed_here settings moment sealed limit groups startup next sessions rows s place from draws payload near g k new before after view near_is under rows_are is left done =
    subst (λ (u : State). Done (initiator_keyed u place from draws payload) new before after) view
    (keyed_so (state_of settings moment sealed limit groups startup sessions) (state_of settings moment sealed limit groups next rows) place from draws payload near g k new before after
    (near_is ∙ ap (λ (u : State). free_from u draws.word) (sym view)) (under ∙ there_is settings moment sealed limit groups startup sessions place) is
    (startup_put settings moment sealed limit groups startup next (after_keying startup payload from moment near draws.nonce g) sessions rows rows_are left) done)

-- the answer alone goes out
pub answer_sent : (t : State) (answer : Answer) (new : State) (entry : Option Entry) (before roomy after : Added) → roomy.entries ≡ before.entries → before.free ≤ roomy.free → roomy.room ≡ before.room →
    Gives (sent_answer t answer) new entry → after.entries ≡ roomy.entries ++ option_to_list entry → roomy.free ≤ after.free + length (option_to_list entry) → after.room ≡ roomy.room → Done (sent_answer t answer) new before after
answer_sent t answer new entry before roomy after e1 f1 r1 gives e2 f2 r2 =
    made_room (sent_answer t answer) new before roomy after e1 f1 r1 (given_done (sent_answer t answer) new entry roomy after gives e2 f2 r2)

pub born_state : (settings : Settings) (moment sealed limit : ℕ) (groups : Groups) (startup : StartupState) (rows new : Sessions) (ended : Option Fact) (born : Fact) (from : AddressParts) (print : List ℕ) (g : GroupSecret) →
    print ≡ startup.ledger.own → new ≡ sessions_born rows ended born print from g moment →
    state_of settings moment sealed limit groups startup new ≡ with_born (state_of settings moment sealed limit groups startup rows) ended born from g
born_state settings moment sealed limit groups startup rows new ended born from print g print_is table =
    ap (with_sessions (state_of settings moment sealed limit groups startup rows)) (table ∙ ap (λ p. sessions_born rows ended born p from g moment) print_is)

-- ---- a responder's keying

pub opened_state : (settings : Settings) (moment sealed limit : ℕ) (groups : Groups) (startup : StartupState) (rows new : Sessions) (fact : Fact) (from : AddressParts) (print : List ℕ) (g : GroupSecret) →
    print ≡ startup.ledger.own → new ≡ sessions_opened rows fact print from g moment →
    state_of settings moment sealed limit groups startup new ≡ with_opened (state_of settings moment sealed limit groups startup rows) fact from g
opened_state settings moment sealed limit groups startup rows new fact from print g print_is table =
    ap (with_sessions (state_of settings moment sealed limit groups startup rows)) (table ∙ ap (λ p. sessions_opened rows fact p from g moment) print_is)

pub opened_so : (s t : State) (near : ℕ) (from : AddressParts) (payload : List ℕ) (fact : Fact) (g : GroupSecret) (new : State) (before after : Added) →
    opened s.startup near payload ≡ Some fact → g ≡ attempt_group s.group (get s.startup.attempts near) → t ≡ with_opened (with_startup s (after_opening s.startup near fact)) fact from g →
    Done (after_entries (FactEntry fact ∷ []) (sent_in_session t near from (chunk_bytes (Ping [])))) new before after → Done (responder_keyed s near from payload) new before after
opened_so s t near from payload fact g new before after is g_is t_is done =
    let here : Done (opening_done s near from g (Some fact)) new before after =
    subst (λ u. Done (after_entries (FactEntry fact ∷ []) (sent_in_session u near from (chunk_bytes (Ping [])))) new before after) t_is done in
    let there : Done (opening_done s near from g (opened s.startup near payload)) new before after = subst (λ o. Done (opening_done s near from g o) new before after) (sym is) here in
    subst (λ h. Done (opening_done s near from h (opened s.startup near payload)) new before after) g_is there

-- ---- what an end keeps beside its state stays as it should be

pub kept_end : (settings : Settings) (print : List ℕ) (s t left : StartupState) → IsEnd settings print s → IsSameEnd s left → t ≡ left → IsEnd settings print t
kept_end settings print s t left is same t_is =
    subst (λ (x : StartupState). IsEnd settings print x) (sym t_is) (end_stays settings print s left is same)

pub kept_keying : (settings : Settings) (print : List ℕ) (s t : StartupState) (payload : List ℕ) (from : AddressParts) (moment near : ℕ) (nr : List ℕ) (g : GroupSecret) →
    IsEnd settings print s → t ≡ after_keying s payload from moment near nr g → IsEnd settings print t
kept_keying settings print s t payload from moment near nr g is t_is =
    kept_end settings print s t (after_keying s payload from moment near nr g) is (keying_keeps s payload from moment near nr g) t_is

pub kept_opening : (settings : Settings) (print : List ℕ) (s t : StartupState) (near : ℕ) (fact : Fact) →
    IsEnd settings print s → t ≡ after_opening s near fact → IsEnd settings print t
kept_opening settings print s t near fact is t_is =
    kept_end settings print s t (after_opening s near fact) is (opening_keeps s near fact) t_is
