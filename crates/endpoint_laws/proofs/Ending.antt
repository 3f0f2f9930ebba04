-- Attempts end and are repeated: what is stated is lawful, and the state agrees with it.
use Rattle.std.proofs.Common.{◌≡◌, ℕ, ◌+◌, ◌-◌, ◌<◌, ◌≤◌, List, [], ◌∷◌, length, Bool, true, false, if◌then◌else◌, option_to_list, Option, Some, None, is_some, ◌||◌, nat_le, IfSome, refl, sym, ap, subst, ◌∙◌, arith}
use Rattle.std.specs.Prelude.{◌==◌}
use Rattle.std.proofs.lemmas.Bool.Decides.{nat_tests}
use Rattle.std.specs.Ordering.{nat_cmp}
use Rattle.std.specs.FinMap.{FinMap, get, len, keys, remove}
use Rattle.rtmfp_base.proofs.Maps.{get_removed, get_left, len_less}
use Rattle.rtmfp_base.proofs.Lowest.{first_is_there}
use Rattle.glare_core.specs.declared.facts.Why.{Why}
use Rattle.glare_core.specs.declared.facts.Why.TheVariants.{Cancelled, Expired, Glare, Override, Unconfirmed, Near, Far, Idle}
use Rattle.glare_core.specs.declared.facts.Fact.{Fact}
use Rattle.glare_core.specs.declared.facts.Fact.TheVariants.{Ended}
use Rattle.glare_core.specs.declared.facts.Held.{Held}
use Rattle.glare_core.specs.declared.facts.Held.TheVariants.{Opening}
use Rattle.glare_core.specs.Things.{near_of}
use Rattle.glare_core.specs.Ledger.{Ledger, held_with, noted, noted_if}
use Rattle.glare_core.specs.Calls.{ended_fact, MayEnd}
use Rattle.glare_core.specs.Account.{Gave}
use Rattle.glare_core.proofs.Accounts.{reads_held}
use Rattle.glare_core.proofs.Giving.{gave_ended}
use Rattle.startup.specs.declared.aim.Aim.{Aim}
use Rattle.startup.specs.declared.aim.Aim.TheVariants.{AtPeer, ByName}
use Rattle.startup.specs.Aims.{IsHeldAs, is_numbered, end_of_aim}
use Rattle.startup.specs.State.{AttemptState}
use Rattle.startup.specs.Attempts.{lowest, has_number, with_attempt, without_attempt, without_attempt_by, end_of, after_end_of}
use Rattle.startup.specs.declared.answer.Due.{Due}
use Rattle.startup.specs.declared.answer.Due.TheVariants.{Ended as EndDue, Hello as HelloDue, Keying as KeyingDue, Unsought as UnsoughtDue}
use Rattle.startup.specs.declared.attempt.Stage.{Stage}
use Rattle.startup.specs.declared.attempt.Stage.TheVariants.{Hello, Keying}
use Rattle.startup.specs.Due.{repeat_under, repeat_of, is_over, repeated}
use Rattle.endpoint_model.specs.declared.row.Row.{Row}
use Rattle.endpoint_model.specs.declared.entry.Entry.TheVariants.{Fact as FactEntry}
use Rattle.endpoint_model.specs.Event.{Setup, Call, Cancel, own_of}
use Rattle.endpoint_laws.specs.Contexts.{Secrets}
use Rattle.endpoint_laws.specs.Past.{Past, stamped, is_close, facts_of, ids_in_use}
use Rattle.endpoint_laws.specs.Lawful.{IsTick}
use Rattle.endpoint_model.specs.State.{State, Did, fact_entries, with_startup}
use Rattle.endpoint_model.specs.Effects.{cancelling, due_done}
use Rattle.endpoint_model.proofs.Members.{has, without}
use Rattle.endpoint_model.proofs.Ids.{has_keys, count_keys}
use Rattle.endpoint_laws.proofs.Matching.{of_peer, Ids, ids_less}
use Rattle.endpoint_laws.proofs.Tied.{Tied, WasStartedAs}
use Rattle.endpoint_laws.proofs.Agrees.{IsAt, found_of_peer, used_here, used_elsewhere, agrees_changed, agrees_of, tied_of, none_searches}
use Rattle.endpoint_laws.proofs.Moving.{beside_fact, still_none, noted_matches, rows_after_known, knows_held, tied_attempt, still_unsought}
use Rattle.endpoint_laws.proofs.Facts.{stands_of}
use Rattle.endpoint_laws.proofs.Made.{answer_made, spread_made}
use Rattle.endpoint_laws.proofs.Going.{Keeps, goes_nothing, goes_then, goes_sends}
use Rattle.endpoint_laws.proofs.Kin.{kin_without, kin_repeat}

-- what the end of what is held gives
pub gave_end : (l : Ledger) (peer : List ℕ) (thing : Held) (why : Why) → held_with l peer ≡ Some thing → MayEnd why thing → Gave l (Ended peer (near_of thing) why ∷ []) (noted l (Ended peer (near_of thing) why))
gave_end l peer thing why is may =
    let P : Option Held → Type 0 = λ o. Gave l (option_to_list (ended_fact o peer why)) (noted_if l (ended_fact o peer why)) in
    subst P is (gave_ended l peer why (subst (λ (o : Option Held). IfSome o (MayEnd why)) (sym is) may))

pub used_before : (oa : Option AttemptState) (os : Option Row) {a : AttemptState} → oa ≡ Some a → (is_some oa || is_some os) ≡ true
used_before None os e = absurd (cc)
used_before (Some b) os e = refl

pub some_length : (n : ℕ) (ids : List ℕ) (q : ℕ) → has q ids ≡ true → n ≡ length ids → 0 < n
some_length n [] q e is = absurd (cc)
some_length n (x ∷ ids) q e is = omega arith

pub less_one : (n m k : ℕ) → m ≡ n - 1 → 0 < n → m + k + 1 ≡ n + k
less_one n m k e some = omega arith

-- a table in which something is found isn't empty
pub some_entry : {A : Type 0} (m : FinMap nat_cmp A) (near : ℕ) (a : A) → get m near ≡ Some a → 0 < len m
some_entry m near a e = some_length (len m) (keys m) near (sym (has_keys m near) ∙ ap is_some e) (sym (count_keys m))

-- a cause that may end attempts closes nothing
attempt_opens : (why : Why) (n near : ℕ) (ni : List ℕ) → MayEnd why (Opening n near ni) → is_close why ≡ false
attempt_opens Cancelled n near ni may = refl
attempt_opens Expired n near ni may = refl
attempt_opens Glare n near ni may = refl
attempt_opens Override n near ni may = absurd may
attempt_opens Unconfirmed n near ni may = absurd may
attempt_opens Near n near ni may = absurd may
attempt_opens Far n near ni may = absurd may
attempt_opens Idle n near ni may = absurd may

-- after an end that closes nothing a session ID isn't in use any more
pub ids_gone : {most : ℕ} (why : Why) (ids : List ℕ) (near : ℕ) (t : State) → is_close why ≡ false → Ids most (without near ids) t → Ids most (if is_close why then ids else without near ids) t
ids_gone {most} why ids near t opens i = subst (λ (b : Bool). Ids most (if b then ids else without near ids) t) (sym opens) i

-- the end of an attempt, for a cause that may end attempts
module _ (secrets : Secrets) (setup : Setup) (past : Past) (s : State) (tied : Tied secrets setup past s) (near : ℕ) (a : AttemptState) (peer : List ℕ) (n : ℕ) (aims : a.aim ≡ AtPeer peer n) (there : get s.startup.attempts near ≡ Some a) (why : Why) where
  pub held_is : held_with s.startup.ledger peer ≡ Some (Opening n near a.ni)
  held_is = subst (λ (aim : Aim). IsHeldAs s.startup.ledger near a.ni aim) aims (tied.sound.held near a there)

  abbrev the_end : Fact
  the_end = Ended peer near why

  abbrev left : State
  left = with_startup s (without_attempt s.startup near the_end)

  pub end_tied : MayEnd why (Opening n near a.ni) → Tied secrets setup (stamped s.moment (FactEntry the_end) ∷ past) left
  end_tied may =
      let now : Past = stamped s.moment (FactEntry the_end) ∷ past in
      let g = agrees_of secrets setup past s tied in
      let is : held_with s.startup.ledger peer ≡ Some (Opening n near a.ni) = held_is in
      let was = found_of_peer s near a peer n there aims in
      let at : IsAt near None None s left = record {
        attempt = get_removed s.startup.attempts near;
        session = tied.apart near a there;
        attempts = λ q other. get_left s.startup.attempts near q other;
        sessions = λ q other. refl;
      } in
      tied_of secrets setup now left
      (agrees_changed secrets setup past now s left near None None g
      (record { config = g.given.config; cert = g.given.cert; holds = (kin_without s near (Some the_end)).holds secrets g.given.holds; current = g.given.current; next = g.given.next; cookie_secret = g.given.cookie_secret; own = g.given.own; max_peers = g.given.max_peers }) at
      (noted_matches s left the_end near None None g.matches at refl (was ∙ sym (ap (of_peer peer) is)) refl (λ h e. absurd (cc)))
      tt (beside_fact near s.moment past the_end refl) (still_none secrets setup past s g near _ _ was s.moment the_end (attempt_opens why n near a.ni may) None)
      (still_unsought past near s.moment the_end (none_searches secrets setup past s g near _ _ was) None)
      (ids_gone why (ids_in_use past) near left (attempt_opens why n near a.ni may)
      (ids_less setup.config.max_sessions (ids_in_use past) s left near g.ids (used_elsewhere near None None s left at) (used_here near None None s left at)
      (used_before (get s.startup.attempts near) (get s.sessions near) there)
      (less_one (len s.startup.attempts) (len (remove s.startup.attempts near)) (len s.sessions) (len_less s.startup.attempts near a there) (some_entry s.startup.attempts near a there))))
      (omega arith, g.by_now)
      (rows_after_known s.startup.ledger the_end setup.config.max_peers (knows_held s.startup.ledger peer (Opening n near a.ni) is) tied.rows))
      (gave_end s.startup.ledger peer (Opening n near a.ni) why is may 0 (facts_of past) tied.account) (omega (arith, tied.few))

-- ---- giving one up

number_is : (a b : ℕ) → (a == b) ≡ true → b ≡ a
number_is a b e = grind (arith, nat_tests)

cancel_as : (secrets : Secrets) (setup : Setup) (s : State) (number near : ℕ) (a : AttemptState) (aim : Aim) → a.aim ≡ aim → get s.startup.attempts near ≡ Some a → is_numbered number aim ≡ true →
    Keeps secrets setup (Cancel number) s (record { state = with_startup s (without_attempt_by s.startup near (end_of_aim near Cancelled aim)); entries = fact_entries (end_of_aim near Cancelled aim) })
cancel_as secrets setup s number near a (AtPeer peer n) aims there same = λ past tied.
    let the_end : Fact = Ended peer near Cancelled in
    let after = end_tied secrets setup past s tied near a peer n aims there Cancelled tt in
    record {
      meets = (
        (
          (
            stands_of (own_of setup) (noted s.startup.ledger the_end) the_end (facts_of past) after.own after.account,
            record {
              n = n;
              near = near;
              ni = a.ni;
              is_held = sym (reads_held 0 s.startup.ledger (facts_of past) tied.account peer) ∙ held_is secrets setup past s tied near a peer n aims there Cancelled;
              by = number_is n number same;
            },
          ),
          tt,
        ),
        tt,
      );
      tied = after;
      moment = refl;
    }
cancel_as secrets setup s number near a (ByName name) aims there same = absurd (cc)

cancel_by : (secrets : Secrets) (setup : Setup) (s : State) (n : ℕ) (e : Option (ℕ × AttemptState)) → lowest (has_number n) s.startup.attempts ≡ e →
    Keeps secrets setup (Cancel n) s (record { state = with_startup s (after_end_of s.startup e Cancelled); entries = fact_entries (end_of e Cancelled) })
cancel_by secrets setup s n None is = goes_nothing secrets setup (Cancel n) s
cancel_by secrets setup s n (Some e) is =
    let found = first_is_there (has_number n) s.startup.attempts e is in
    cancel_as secrets setup s n e.0 e.1 e.1.aim refl found.0 found.1

pub goes_cancelling : (secrets : Secrets) (setup : Setup) (s : State) (n : ℕ) → Keeps secrets setup (Cancel n) s (cancelling s n)
goes_cancelling secrets setup s n = cancel_by secrets setup s n (lowest (has_number n) s.startup.attempts) refl

-- ---- time

pub over_is : (start moment : ℕ) → nat_le (start + 95000) moment ≡ true → start + 95000 ≤ moment
over_is start moment e = grind (arith, nat_tests)

-- hellos or a keying
abbrev IsSending : Due → Type 0
IsSending (EndDue fact) = ⊥
IsSending (HelloDue spread) = Unit {0}
IsSending (KeyingDue answer) = Unit {0}
IsSending (UnsoughtDue near) = ⊥

module _ (secrets : Secrets) (setup : Setup) (call : Call) (is_tick : IsTick call) (s : State) where
  pub tick_end : (near : ℕ) (a : AttemptState) (peer : List ℕ) (n : ℕ) → a.aim ≡ AtPeer peer n → get s.startup.attempts near ≡ Some a → is_over s.moment a ≡ true →
      Keeps secrets setup call s (record { state = with_startup s (without_attempt s.startup near (Ended peer near Expired)); entries = FactEntry (Ended peer near Expired) ∷ [] })
  tick_end near a peer n aims there over past tied =
      let after = end_tied secrets setup past s tied near a peer n aims there Expired tt in
      record {
        meets = (
          (
            (
              stands_of (own_of setup) (noted s.startup.ledger (Ended peer near Expired)) (Ended peer near Expired) (facts_of past) after.own after.account,
              (
                is_tick,
                record {
                  n = n;
                  ni = a.ni;
                  is_held = sym (reads_held 0 s.startup.ledger (facts_of past) tied.account peer) ∙ held_is secrets setup past s tied near a peer n aims there Expired;
                  start = a.start;
                  started = subst (λ (aim : Aim). WasStartedAs past near a aim) aims (tied.started near a there);
                  over = over_is a.start s.moment over;
                },
              ),
            ),
            tt,
          ),
          tt,
        );
        tied = after;
        moment = refl;
      }

  -- a thing in a state that was reached without entries
  from : (d : State → Did) (t : State) → t.moment ≡ s.moment → ((past : Past) → Tied secrets setup past s → Tied secrets setup past t) → Keeps secrets setup call t (d t) → Keeps secrets setup call s (d t)
  from d t moment more keeps past tied =
      goes_then secrets setup call past s (record { state = t; entries = [] }) d (record { meets = tt; tied = more past tied; moment = moment }) (keeps past (more past tied))

  repeat_keeps : (due : Due) (t : State) → IsSending due → Keeps secrets setup call t (due_done t due)
  repeat_keeps (EndDue fact) t sends = absurd sends
  repeat_keeps (HelloDue spread) t sends = spread_made (goes_sends secrets setup call) t spread
  repeat_keeps (KeyingDue answer) t sends = answer_made (goes_sends secrets setup call) t answer
  repeat_keeps (UnsoughtDue near) t sends = absurd sends

  repeat_sends : (near : ℕ) (a : AttemptState) (stage : Stage) → IsSending (repeat_under s.startup.cert near a stage)
  repeat_sends near a Hello = tt
  repeat_sends near a (Keying at cookie under) = tt

  pub tick_repeat : (e : ℕ × AttemptState) → get s.startup.attempts e.0 ≡ Some e.1 →
      Keeps secrets setup call s (due_done (with_startup s (with_attempt s.startup e.0 (repeated e.1 s.moment))) (repeat_of s.startup e.0 e.1))
  tick_repeat e there =
      let due : Due = repeat_of s.startup e.0 e.1 in
      let t : State = with_startup s (with_attempt s.startup e.0 (repeated e.1 s.moment)) in
      from (λ u. due_done u due) t refl (λ past tied. tied_attempt secrets setup past s e.0 e.1 (repeated e.1 s.moment) tied there refl (λ w. w) (tied.sound.stages e.0 e.1 there) (λ which at kept. kept) (kin_repeat s e there s.moment)) (repeat_keeps due t (repeat_sends e.0 e.1 e.1.stage))
