-- Calls on the group's secrets.
use Rattle.std.proofs.Common.{◌≡◌, ◌==◌, ℕ, Bool, true, false, if◌then◌else◌, List, [], ◌∷◌, ◌++◌, refl, sym, ap, ◌∙◌, append-nil, subst, Option, Some, None, Result, Ok, Err, OnOk, OnErr, arith}
use Rattle.std.proofs.lemmas.Bool.Decides.{nat_tests}
use Rattle.crypto_profile.specs.declared.group.GroupSecret.{GroupSecret}
use Rattle.session_flows.specs.declared.refusal.CallRefusal.{CallRefusal}
use Rattle.endpoint_model.specs.declared.entry.Entry.{Entry}
use Rattle.endpoint_model.specs.Event.{Call, Learn, Advance, Answer}
use Rattle.endpoint_model.specs.Added.{Added}
use Rattle.endpoint_model.specs.State.{State, Done, nothing}
use Rattle.endpoint_model.specs.Succession.{learning, advancing, advancing_to}
use Rattle.rtmfp_node.specs.Events.{AreSuccessions, IsSettled, advance_call, event_of, learn_call}
use Rattle.rtmfp_node.specs.Turn.{outs_in}
use Rattle.rtmfp_node.specs.Acting.{ActsIn, Noted, Succeeded, added}
use Rattle.rtmfp_node.proofs.Acts.{added_is, in_none}

-- what a call added, none of which is a datagram
pub record Silent (before after : List Entry) : Type 0 where
  pub es : List Entry
  pub entries : after ≡ before ++ es
  pub silent : outs_in es ≡ []

pub learn_silent : (s : State) (secret : List ℕ) (r : Result ℕ CallRefusal) (new : State) (before after : Added) → OnOk r (Done (learning s secret) new before after) → OnErr r (Done (nothing s) new before after) →
    Silent before.entries after.entries
learn_silent s secret (Ok n) new before after ok err = record { es = _; entries = ok.entries; silent = refl }
learn_silent s secret (Err e) new before after ok err = record { es = _; entries = err.entries; silent = refl }

advance_silent_by : (s : State) (next : Option GroupSecret) → outs_in (advancing_to s next).entries ≡ []
advance_silent_by s None = refl
advance_silent_by s (Some next) = refl

pub advance_silent : (s : State) (r : Result ℕ CallRefusal) (new : State) (before after : Added) → OnOk r (Done (advancing s) new before after) → OnErr r (Done (nothing s) new before after) →
    Silent before.entries after.entries
advance_silent s (Ok n) new before after ok err = record { es = _; entries = ok.entries; silent = advance_silent_by s s.next }
advance_silent s (Err e) new before after ok err = record { es = _; entries = err.entries; silent = refl }

pub succeeded : (o : Option Call) (call : Call) (turn : ℕ) (answer : Answer) (s t : State) (before after : List Entry) (m n : Noted) → o ≡ Some call → IsSettled answer → Silent before after →
    ActsIn turn s t before after m n (event_of 0 call answer (added before after) ∷ []) → Succeeded o turn s t before after m n
succeeded o call turn answer s t before after m n is settled none acts =
    let e = event_of 0 call answer (added before after) in record {
      log = e ∷ [];
      calls = subst (λ (k : Option Call). AreSuccessions k (e ∷ [])) (sym is) (e, (answer, added before after, settled, refl), refl);
      acts = acts;
      silent = ap outs_in (append-nil (added before after) ∙ added_is before after none.es none.entries) ∙ none.silent;
    }

-- where there is none to make
pub not_asked : (o : Option Call) (turn : ℕ) (s : State) (before : List Entry) (m : Noted) → o ≡ None → Succeeded o turn s s before before m m
not_asked o turn s before m is = record {
  log = [];
  calls = subst (λ (k : Option Call). AreSuccessions k []) (sym is) refl;
  acts = in_none turn s before m;
  silent = refl;
}

-- ---- the turn of an advance

equal : (a b : ℕ) (t : Bool) → (a == b) ≡ t → a ≡ b → (a == b) ≡ true
equal a b true e is = e
equal a b false e is = absurd (grind (arith, nat_tests))

advances_where : Bool → Option Call
advances_where now = if now then Some Advance else None

pub in_its_turn : (o : Option ℕ) (at turn : ℕ) → o ≡ Some at → at ≡ turn → advance_call o turn ≡ Some Advance
unfolding advances_where
in_its_turn o at turn is now = ap (λ (k : Option ℕ). advance_call k turn) is ∙ ap advances_where (equal at turn (at == turn) refl now)

pub never_asked : (o : Option ℕ) (turn : ℕ) → o ≡ None → advance_call o turn ≡ None
never_asked o turn is = ap (λ (k : Option ℕ). advance_call k turn) is

-- ---- the learn of turn 0

pub learns : (next : Option (List ℕ)) (secret : List ℕ) → next ≡ Some secret → learn_call next ≡ Some (Learn secret)
learns next secret is = ap learn_call is

pub never_learns : (next : Option (List ℕ)) → next ≡ None → learn_call next ≡ None
never_learns next is = ap learn_call is
