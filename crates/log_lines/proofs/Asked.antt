-- What is answered of a call is so of it.
use Rattle.std.proofs.Common.{ℕ, List, ◌≡◌, ◌≤◌, true, false, refl, Decides, arith, nat_le, Option, Some, None, is_none}
use Rattle.std.proofs.lemmas.Bool.Decides.{nat_tests, Decides-and, Decides-eqb}
use Rattle.std.proofs.lemmas.Slice.Eq.{bytes_eq-Decides}
use Rattle.endpoint_model.specs.Event.{learn_in, is_advance}
use Rattle.endpoint_laws.specs.Lawful.{IsTick, Opens, Seeks, Cancels, Unseeks, ClosesSession, LearnsIn}
use Rattle.log_values.specs.declared.log.LoggedCall.{LoggedCall}
use Rattle.log_values.specs.declared.log.LoggedCall.TheVariants.{Open as OpenCall, Seek as SeekCall, Cancel as CancelCall, Unseek as UnseekCall, Close as CloseCall, Learn as LearnCall, Advance as AdvanceCall, Tick as TickCall}
use Rattle.log_values.specs.Events.{call_of}
use Rattle.log_lines.specs.Decisions.{is_tick, learns, advances, opens, seeks, cancels, unseeks, closes}

pub never : Decides false ⊥
never = (λ e. absurd cc, λ n. absurd n)

pub always : Decides true (Unit {0})
always = (λ e. tt, λ n. refl)

-- what is refused where it isn't so
pub refused : (P : Type 0) → (P → ⊥) → Decides false P
refused P not_so = (λ e. absurd cc, λ p. absurd (not_so p))

pub le_decides : (a b : ℕ) → Decides (nat_le a b) (a ≤ b)
le_decides a b = (λ e. grind (arith, nat_tests), λ e. grind (arith, nat_tests))

pub none_decides : {A : Type 0} (o : Option A) → Decides (is_none o) (o ≡ None)
none_decides None = (λ e. refl, λ e. refl)
none_decides (Some a) = (λ e. absurd cc, λ e. absurd cc)

module _ (nonce : List ℕ) where
  pub tick_decides : (call : LoggedCall) → Decides (is_tick call) (IsTick (call_of nonce call))
  tick_decides TickCall = always
  tick_decides call = never

  pub learns_decides : (call : LoggedCall) → Decides (learns call) (LearnsIn (learn_in (call_of nonce call)))
  learns_decides (LearnCall secret) = always
  learns_decides call = never

  pub advances_decides : (call : LoggedCall) → Decides (advances call) (is_advance (call_of nonce call) ≡ true)
  advances_decides AdvanceCall = (λ e. refl, λ e. refl)
  advances_decides call = (λ e. e, λ e. e)

  pub opens_decides : (call : LoggedCall) (peer ni : List ℕ) → Decides (opens nonce call peer ni) (Opens (call_of nonce call) peer ni)
  opens_decides (OpenCall to tag) peer ni = Decides-and _ _ (bytes_eq-Decides to peer) (bytes_eq-Decides ni nonce)
  opens_decides call peer ni = never

  pub seeks_decides : (call : LoggedCall) (name : List ℕ) → Decides (seeks call name) (Seeks (call_of nonce call) name)
  seeks_decides (SeekCall sought tag) name = bytes_eq-Decides sought name
  seeks_decides call name = never

  pub cancels_decides : (call : LoggedCall) (n : ℕ) → Decides (cancels call n) (Cancels (call_of nonce call) n)
  cancels_decides (CancelCall m) n = Decides-eqb m n
  cancels_decides call n = never

  pub unseeks_decides : (call : LoggedCall) (near : ℕ) → Decides (unseeks call near) (Unseeks (call_of nonce call) near)
  unseeks_decides (UnseekCall id) near = Decides-eqb id near
  unseeks_decides call near = never

  pub closes_decides : (call : LoggedCall) (near : ℕ) → Decides (closes call near) (ClosesSession (call_of nonce call) near)
  closes_decides (CloseCall id) near = Decides-eqb id near
  closes_decides call near = never
