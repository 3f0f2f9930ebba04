-- The lines of entries of each kind are those of the table.
use Rattle.std.proofs.Common.{ℕ, List, ◌≡◌, refl, sym, subst, Bool, true, None}
use Rattle.rtmfp_forms.specs.Address.{AddressParts}
use Rattle.crypto_profile.specs.declared.keys.Context.{Context}
use Rattle.glare_core.specs.declared.facts.Fact.{Fact}
use Rattle.glare_core.specs.declared.facts.Why.{Why}
use Rattle.endpoint_model.specs.declared.entry.Entry.{Entry}
use Rattle.endpoint_model.specs.declared.entry.Entry.TheVariants.{Fact as FactEntry, Closed, Sought, Unsought, Moved, Learnt, Advanced, FlowOpened, Queued, Finished, Abandoned, Handed, Discard, Out}
use Rattle.endpoint_model.specs.Event.{Setup, Call}
use Rattle.endpoint_model.specs.Views.{out_in}
use Rattle.endpoint_laws.specs.Past.{Past}
use Rattle.endpoint_laws.specs.Contexts.{Secrets}
use Rattle.endpoint_laws.specs.Lawful.{AdvancedLine, ClosedLine, LearntLine, Line, SoughtLine, UnsoughtLine}
use Rattle.log_packets.specs.Asked.{Tells}
use Rattle.log_facts.specs.Lines.{WholeLine}

module _ (secrets : Secrets) (setup : Setup) (now : ℕ) (logged call : Call) (is : call ≡ logged) (past : Past) (rest : List Entry) (entry : Entry) (it : Bool) where
  -- by the kind of the entry, and the call as it is logged
  of_kind : (kind : Entry) → entry ≡ kind → Tells (Line secrets setup now logged past rest kind) it → Tells (Line secrets setup now call past rest entry) it
  of_kind kind at tells =
      subst (λ (c : Call). Tells (Line secrets setup now c past rest entry) it) (sym is) (subst (λ (x : Entry). Tells (Line secrets setup now logged past rest x) it) (sym at) tells)

  pub fact_line : (fact : Fact) → entry ≡ FactEntry fact → Tells (WholeLine secrets setup now call past rest fact) it → Tells (Line secrets setup now call past rest entry) it
  fact_line fact at tells = subst (λ (x : Entry). Tells (Line secrets setup now call past rest x) it) (sym at) tells

  pub closed_line : (near : ℕ) → entry ≡ Closed near → Tells (ClosedLine secrets setup now logged past near) it → Tells (Line secrets setup now call past rest entry) it
  closed_line near at tells = of_kind (Closed near) at tells

  pub sought_line : (near : ℕ) (name : List ℕ) → entry ≡ Sought near name → (it ≡ true → SoughtLine logged past near name) → (SoughtLine logged past near name → it ≡ true) → Tells (Line secrets setup now call past rest entry) it
  sought_line near name at told tells = of_kind (Sought near name) at (record { yes = λ t. (told t, tt); no = λ line. tells line.0 })

  pub unsought_line : (near : ℕ) (why : Why) → entry ≡ Unsought near why → (it ≡ true → UnsoughtLine now logged past near why) → (UnsoughtLine now logged past near why → it ≡ true) → Tells (Line secrets setup now call past rest entry) it
  unsought_line near why at told tells = of_kind (Unsought near why) at (record { yes = λ t. (told t, tt); no = λ line. tells line.0 })

  pub learnt_line : (generation : ℕ) → entry ≡ Learnt generation → (it ≡ true → LearntLine setup logged past generation) → (LearntLine setup logged past generation → it ≡ true) → Tells (Line secrets setup now call past rest entry) it
  learnt_line generation at told tells = of_kind (Learnt generation) at (record { yes = λ t. (tt, told t); no = λ line. tells line.1 })

  pub advanced_line : (generation : ℕ) → entry ≡ Advanced generation → (it ≡ true → AdvancedLine logged past generation) → (AdvancedLine logged past generation → it ≡ true) → Tells (Line secrets setup now call past rest entry) it
  advanced_line generation at told tells = of_kind (Advanced generation) at (record { yes = λ t. (tt, told t); no = λ line. tells line.1 })

-- It is of none of the kinds of which something is asked.
pub record AsksNothing (entry : Entry) : Type 0 where
  pub no_fact : (fact : Fact) → entry ≡ FactEntry fact → ⊥
  pub no_closed : (near : ℕ) → entry ≡ Closed near → ⊥
  pub no_sought : (near : ℕ) (name : List ℕ) → entry ≡ Sought near name → ⊥
  pub no_unsought : (near : ℕ) (why : Why) → entry ≡ Unsought near why → ⊥
  pub no_learnt : (generation : ℕ) → entry ≡ Learnt generation → ⊥
  pub no_advanced : (generation : ℕ) → entry ≡ Advanced generation → ⊥
  pub no_out : out_in entry ≡ None

module _ (secrets : Secrets) (setup : Setup) (now : ℕ) (call : Call) (past : Past) (rest : List Entry) where
  asks : (entry : Entry) → AsksNothing entry → Line secrets setup now call past rest entry
  asks (FactEntry fact) none = absurd (none.no_fact fact refl)
  asks (Closed near) none = absurd (none.no_closed near refl)
  asks (Sought near name) none = absurd (none.no_sought near name refl)
  asks (Unsought near why) none = absurd (none.no_unsought near why refl)
  asks (Moved near to) none = (tt, tt)
  asks (Learnt generation) none = absurd (none.no_learnt generation refl)
  asks (Advanced generation) none = absurd (none.no_advanced generation refl)
  asks (FlowOpened near flow) none = (tt, tt)
  asks (Queued near flow seq message) none = (tt, tt)
  asks (Finished near flow seq) none = (tt, tt)
  asks (Abandoned near flow seq) none = (tt, tt)
  asks (Handed near flow seq message) none = (tt, tt)
  asks (Discard place cause) none = (tt, tt)
  asks (Out to datagram context) none = let clash = none.no_out in absurd cc

  pub nothing_asked : (entry : Entry) → AsksNothing entry → Tells (Line secrets setup now call past rest entry) true
  nothing_asked entry none = record { yes = λ t. asks entry none; no = λ line. refl }

-- An entry that is no datagram has none.
pub no_out_in : (entry : Entry) → ((to : AddressParts) (datagram : List ℕ) (context : Context) → entry ≡ Out to datagram context → ⊥) → out_in entry ≡ None
no_out_in (FactEntry fact) none = refl
no_out_in (Closed near) none = refl
no_out_in (Sought near name) none = refl
no_out_in (Unsought near why) none = refl
no_out_in (Moved near to) none = refl
no_out_in (Learnt generation) none = refl
no_out_in (Advanced generation) none = refl
no_out_in (FlowOpened near flow) none = refl
no_out_in (Queued near flow seq message) none = refl
no_out_in (Finished near flow seq) none = refl
no_out_in (Abandoned near flow seq) none = refl
no_out_in (Handed near flow seq message) none = refl
no_out_in (Discard place cause) none = refl
no_out_in (Out to datagram context) none = absurd (none to datagram context refl)
