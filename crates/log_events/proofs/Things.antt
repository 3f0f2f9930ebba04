-- Sessions that are what others were, and facts with which they begin.
use Rattle.std.proofs.Common.{ℕ, List, [], ◌≡◌, ◌==◌, ◌⊎◌, inl, inr, refl, sym, ap, subst, Bool, true, false, if◌then◌else◌, Some, None, ◌∙◌}
use Rattle.glare_core.specs.declared.facts.Fact.{Fact}
use Rattle.glare_core.specs.declared.facts.Fact.TheVariants.{Started, Born, Opened, Confirmed, Ended}
use Rattle.glare_core.specs.declared.facts.Held.{Held}
use Rattle.glare_core.specs.declared.facts.Held.TheVariants.{Opening, HalfOpen, KeptAsResponder, KeptAsInitiator}
use Rattle.glare_core.specs.Standing.{count}
use Rattle.glare_core.specs.Stands.{Stands}
use Rattle.glare_core.specs.Things.{IsSession}
use Rattle.endpoint_model.specs.Event.{Setup}
use Rattle.endpoint_model.proofs.Members.{tested}
use Rattle.endpoint_laws.specs.Past.{Past, WasStated, begins, facts_of}
use Rattle.endpoint_laws.specs.Contexts.{BeganWith, inward}
use Rattle.endpoint_laws.specs.Taken.{inward_mode}
use Rattle.log_digest.specs.Spots.{IsOrderly}
use Rattle.log_digest.proofs.Orderly.{new_born, new_opened}
use Rattle.log_contexts.specs.Changes.{begun_id}
use Rattle.log_events.specs.Underway.{unconfirmed}

-- ---- what it was until it was confirmed

abbrev pub WasThis : Held → Held → Type 0
WasThis was thing = (was ≡ thing) ⊎ (was ≡ unconfirmed thing)

pub inward_same : (setup : Setup) (generation : ℕ) (was thing : Held) → WasThis was thing → inward setup generation was ≡ inward setup generation thing
inward_same setup generation was thing (inl e) = ap (inward setup generation) e
inward_same setup generation was (Opening n near ni) (inr e) = ap (inward setup generation) e
inward_same setup generation was (HalfOpen j) (inr e) = ap (inward setup generation) e
inward_same setup generation was (KeptAsResponder j) (inr e) = ap (inward setup generation) e
inward_same setup generation was (KeptAsInitiator j) (inr e) = ap (inward setup generation) e

pub mode_same : (was thing : Held) → WasThis was thing → inward_mode was ≡ inward_mode thing
mode_same was thing (inl e) = ap inward_mode e
mode_same was (Opening n near ni) (inr e) = ap inward_mode e
mode_same was (HalfOpen j) (inr e) = ap inward_mode e
mode_same was (KeptAsResponder j) (inr e) = ap inward_mode e
mode_same was (KeptAsInitiator j) (inr e) = ap inward_mode e

pub was_session : (was thing : Held) → WasThis was thing → IsSession thing → IsSession was
was_session was thing (inl e) session = subst IsSession (sym e) session
was_session was (Opening n near ni) (inr e) session = absurd session
was_session was (HalfOpen j) (inr e) session = subst IsSession (sym e) tt
was_session was (KeptAsResponder j) (inr e) session = subst IsSession (sym e) tt
was_session was (KeptAsInitiator j) (inr e) session = subst IsSession (sym e) tt

-- ---- facts

pub began_one : (thing : Held) (f g : Fact) → BeganWith thing f → BeganWith thing g → f ≡ g
began_one (Opening n near ni) f g a b = absurd a
began_one (HalfOpen j) f g a b = a ∙ sym b
began_one (KeptAsResponder j) f g a b = a ∙ sym b
began_one (KeptAsInitiator j) f g a b = a ∙ sym b

began_id : (thing : Held) (g : Fact) → BeganWith thing g → (near : ℕ) × (begun_id (Some g) ≡ Some near)
began_id (Opening n near ni) g b = absurd b
began_id (HalfOpen j) g b = (j.near, ap (λ (f : Fact). begun_id (Some f)) b)
began_id (KeptAsResponder j) g b = (j.near, ap (λ (f : Fact). begun_id (Some f)) b)
began_id (KeptAsInitiator j) g b = (j.near, ap (λ (f : Fact). begun_id (Some f)) b)

none_some : (near : ℕ) → None ≡ Some near → ⊥
none_some near e = absurd cc

no_begin : (thing : Held) (g : Fact) → begun_id (Some g) ≡ None → BeganWith thing g → ⊥
no_begin thing g none b = let i = began_id thing g b in none_some i.0 (sym none ∙ i.1)

-- What begins a session wasn't stated before.
pub begins_once : (own : List ℕ) (past : Past) (now : ℕ) → IsOrderly past → (g : Fact) → Stands own (count (facts_of past)) (facts_of past) g → (thing : Held) → BeganWith thing g → (at : ℕ) → WasStated at g past → ⊥
begins_once own past now o (Started peer n near ni) s thing b at w = no_begin thing (Started peer n near ni) refl b
begins_once own past now o (Born j) s thing b at w = new_born past o own now j s at w
begins_once own past now o (Opened j) s thing b at w = new_opened past o own now j s at w
begins_once own past now o (Confirmed peer near) s thing b at w = no_begin thing (Confirmed peer near) refl b
begins_once own past now o (Ended peer near why) s thing b at w = no_begin thing (Ended peer near why) refl b

pub same_id : (a b : ℕ) → a ≡ b → (a == b) ≡ true
same_id a b e = elim (tested a b) [ inl at ↦ at.1 | inr at ↦ absurd (at.0 e) ]

never : (b : Bool) → b ≡ false → b ≡ true → ⊥
never b f t = let clash : false ≡ true = sym f ∙ t in cc

-- What begins under a session ID has one.
pub begins_id : (near : ℕ) (g : Fact) → begins near (Some g) ≡ true → (id : ℕ) × (begun_id (Some g) ≡ Some id)
begins_id near (Started peer n id ni) e = absurd cc
begins_id near (Born j) e = (j.near, refl)
begins_id near (Opened j) e = (j.near, refl)
begins_id near (Confirmed peer id) e = absurd cc
begins_id near (Ended peer id why) e = absurd cc

pub decided : (b : Bool) → (b ≡ true) ⊎ (b ≡ false)
decided true = inl refl
decided false = inr refl

pub still_none : {A : Type 0} (b : Bool) (list : List A) → list ≡ [] → (if b then [] else list) ≡ []
still_none true list none = refl
still_none false list none = none
