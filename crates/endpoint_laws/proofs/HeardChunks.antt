-- What an end knows of its sessions is kept by births and openings, and so by all that it does.
use Rattle.rtmfp_forms.specs.Address.{AddressParts}
use Rattle.endpoint_laws.proofs.Hearing.{AreKnown, Counts, had_it, heard_then, Follows, IsKnown, KeepsHeard, first_fact, heard_follows, known_more, lasting, onto_append, since_entry}
use Rattle.std.proofs.Common.{◌≡◌, ◌↔◌, ◌≢◌, ℕ, ◌∷◌, ◌==◌, if◌then◌else◌, [], Bool, List, None, Ok, Option, Some, ap, arith, false, inl, inr, refl, subst, sym, true}
use Rattle.glare_core.specs.declared.facts.Fact.TheVariants.{Born, Ended}
use Rattle.endpoint_model.specs.declared.place.Place.TheVariants.{Startup}
use Rattle.endpoint_model.specs.State.{Did, Sessions, State, fact_entries, new_row}
use Rattle.endpoint_model.specs.declared.entry.Entry.{Entry}
use Rattle.endpoint_model.specs.declared.entry.Entry.TheVariants.{Fact as FactEntry}
use Rattle.glare_core.specs.declared.facts.Why.TheVariants.{Glare, Override}
use Rattle.glare_core.specs.declared.facts.Held.TheVariants.{HalfOpen, KeptAsInitiator, KeptAsResponder, Opening}
use Rattle.glare_core.specs.declared.facts.Held.{Held}
use Rattle.session_core.specs.declared.stage.Role.TheVariants.{Initiator, Responder}
use Rattle.glare_core.specs.declared.facts.Joined.{Joined}
use Rattle.session_core.specs.declared.stage.Role.{Role}
use Rattle.endpoint_model.specs.declared.row.Row.{Row}
use Rattle.session_core.specs.Session.{SessionState, first_stage, is_opening, new_session}
use Rattle.endpoint_laws.specs.Past.{Past, onto, stamped, begins, taken_since}
use Rattle.glare_core.specs.declared.facts.Why.{Why}
use Rattle.rtmfp_base.proofs.Maps.{found_inserted, found_left}
use Rattle.std.specs.FinMap.{get, insert, remove}
use Rattle.std.proofs.lemmas.Bool.Decides.{nat_tests}
use Rattle.endpoint_laws.proofs.Numbers.{room_at_first}
use Rattle.glare_core.specs.Calls.{way_made}
use Rattle.crypto_profile.specs.Window.{window_answer, window_of}
use Rattle.endpoint_model.specs.Effects.{without_ended}
use Rattle.endpoint_laws.proofs.Small.{birth, Begins}
use Rattle.crypto_profile.specs.declared.group.GroupSecret.{GroupSecret}
use Rattle.endpoint_model.specs.Admission.{group_at, attempt_group}

-- ---- a session begins

its_own : (near : ℕ) → (near == near) ≡ true
its_own near = grind (arith, nat_tests)

another : (near q : ℕ) → (q ≡ near → ⊥) → (near == q) ≡ false
another near q other = grind (arith, nat_tests)

begins_it : (role : Role) (j : Joined) → begins j.near (Some (first_fact role j)) ≡ true
begins_it Initiator j = its_own j.near
begins_it Responder j = its_own j.near

begins_no_other : (role : Role) (j : Joined) (q : ℕ) → (q ≡ j.near → ⊥) → begins q (Some (first_fact role j)) ≡ false
begins_no_other Initiator j q other = another j.near q other
begins_no_other Responder j q other = another j.near q other

half_open : (role : Role) → is_opening (first_stage role) ≡ true → role ≡ Responder
half_open Initiator e = absurd (cc)
half_open Responder e = refl

nothing_taken : (near : ℕ) (session : SessionState) → session.window ≡ window_of [] → Counts [] near (lasting session)
nothing_taken near session first secrets under = record {
  numbers = λ n. subst (λ w. (window_answer w n ≡ Ok tt) ↔ (n ≢ 0)) (sym first) (room_at_first n);
  times = λ moment none. absurd none;
}

known_begun : (past : Past) (now : ℕ) (role : Role) (j : Joined) (own : List ℕ) (g : GroupSecret) (from : AddressParts) →
    IsKnown (stamped now (FactEntry (first_fact role j)) ∷ past) now j.near (new_session j own role from g.generation g.secret now)
known_begun past now role j own g from =
    let session : SessionState = new_session j own role from g.generation g.secret now in
    record {
      counts = subst (λ (b : Bool). Counts (if b then [] else taken_since j.near past) j.near (lasting session)) (sym (begins_it role j)) (nothing_taken j.near session refl);
      began = record { first = now; done = inl refl; early = omega arith };
      half_open = λ e. let is : role ≡ Responder = half_open role e in (is, inl (ap (λ (r : Role). stamped now (FactEntry (first_fact r j))) (sym is)));
      not_later = omega arith;
    }

are_begun : (past : Past) (now : ℕ) (sessions : Sessions) (role : Role) (j : Joined) (own : List ℕ) (g : GroupSecret) (from : AddressParts) → AreKnown past now sessions →
    AreKnown (stamped now (FactEntry (first_fact role j)) ∷ past) now (insert sessions j.near (new_row (new_session j own role from g.generation g.secret now)))
are_begun past now sessions role j own g from h q row e =
    let more : Past = stamped now (FactEntry (first_fact role j)) ∷ past in
    elim (found_inserted sessions j.near (new_row (new_session j own role from g.generation g.secret now)) q row e) [
      | inl here ↦ subst (λ (r : Row). IsKnown more now q r.session) here.1 (subst (λ (k : ℕ). IsKnown more now k (new_session j own role from g.generation g.secret now)) (sym here.0) (known_begun past now role j own g from))
      | inr beside ↦
          known_more past more now now q row.session (h q row beside.1) (since_entry q now (FactEntry (first_fact role j)) past (begins_no_other role j q beside.0)) (λ done w. inr w) (omega arith)
    ]

-- and another makes way for it

are_left : (past : Past) (now : ℕ) (sessions : Sessions) (peer : List ℕ) (near : ℕ) (why : Why) → AreKnown past now sessions →
    AreKnown (stamped now (FactEntry (Ended peer near why)) ∷ past) now (remove sessions near)
are_left past now sessions peer near why h q row e =
    known_more past (stamped now (FactEntry (Ended peer near why)) ∷ past) now now q row.session (h q row (found_left sessions near q row e).1) refl (λ done w. inr w) (omega arith)

made_way : (past : Past) (now : ℕ) (sessions : Sessions) (peer : List ℕ) (o : Option Held) → AreKnown past now sessions →
    AreKnown (onto now (fact_entries (way_made peer o)) past) now (without_ended sessions (way_made peer o))
made_way past now sessions peer None h = h
made_way past now sessions peer (Some (Opening n near ni)) h = are_left past now sessions peer near Glare h
made_way past now sessions peer (Some (HalfOpen j)) h = are_left past now sessions peer j.near Override h
made_way past now sessions peer (Some (KeptAsResponder j)) h = are_left past now sessions peer j.near Override h
made_way past now sessions peer (Some (KeptAsInitiator j)) h = are_left past now sessions peer j.near Override h

heard_birth : (s : State) (peer : List ℕ) (o : Option Held) (j : Joined) (from : AddressParts) (g : GroupSecret) → KeepsHeard s (birth s (way_made peer o) j from g)
heard_birth s peer o j from g = λ past h.
    let ended : List Entry = fact_entries (way_made peer o) in
    let d : Did = birth s (way_made peer o) j from g in
    record {
      well = subst (λ (p : Past). AreKnown p s.moment d.state.sessions) (sym (onto_append s.moment ended (FactEntry (Born j) ∷ []) past))
          (are_begun (onto s.moment ended past) s.moment (without_ended s.sessions (way_made peer o)) Responder j s.startup.ledger.own g from (made_way past s.moment s.sessions peer o h));
      moment = refl;
    }

-- ---- all that an end does

pub heard_begins : Begins Follows KeepsHeard
heard_begins = record {
  quiet = heard_follows;
  steps = record {
    does_nothing = λ s past h. record { well = h; moment = refl };
    and_then = λ s d e first later past h. let one = first past h in heard_then past s d (λ t. e) one (later (onto s.moment d.entries past) one.well);
  };
  starts = λ s startup peer n near ni kin. heard_follows s _ (record { none = ((λ q. refl), tt); had = λ q row e. had_it s.sessions q row e; moment = refl });
  seeks = λ s startup near name kin. heard_follows s _ (record { none = ((λ q. refl), tt); had = λ q row e. had_it s.sessions q row e; moment = refl });
  bears = λ s generation peer o j from. heard_birth s peer o j from (group_at s (Startup generation));
  opens = λ s startup j from kin past h. record { well = are_begun past s.moment s.sessions Initiator j startup.ledger.own (attempt_group s.group (get s.startup.attempts j.near)) from h; moment = refl };
}
