-- The succession of the group's secrets says nothing of flows: sessions stay as they are, and the
-- map of secrets has the next one.
use Rattle.std.proofs.Common.{◌≡◌, ℕ, ◌+◌, List, [], ◌∷◌, Option, Some, None, refl, subst}
use Rattle.crypto_profile.specs.declared.group.GroupSecret.{GroupSecret}
use Rattle.glare_core.specs.declared.facts.Fact.{Fact}
use Rattle.startup.specs.declared.attempt.Stage.{Stage}
use Rattle.startup.specs.declared.attempt.Stage.TheVariants.{Hello, Keying}
use Rattle.endpoint_model.specs.declared.entry.Entry.{Entry}
use Rattle.endpoint_model.specs.declared.entry.Entry.TheVariants.{Learnt, Advanced}
use Rattle.endpoint_model.specs.State.{State}
use Rattle.endpoint_model.specs.Admission.{stage_group}
use Rattle.endpoint_model.specs.Succession.{next_group, learning, advancing, advancing_to}
use Rattle.endpoint_laws.specs.Contexts.{Secrets}
use Rattle.endpoint_laws.specs.Groups.{HasSecret}
use Rattle.endpoint_laws.proofs.Kin.{HoldsSecrets}
use Rattle.flow_history.specs.Deeds.{History}
use Rattle.endpoint_handing.specs.Told.{facts_onto}
use Rattle.endpoint_handing.proofs.Kept.{End, Stands, Does, does_nothing}
use Rattle.endpoint_handing.proofs.Silent.{IsSilent, had_it, does_silent}

learnt_silent : (generation : ℕ) → IsSilent (Learnt generation)
learnt_silent generation = record { told = λ own facts. refl; context = λ own id facts. refl; out = λ secrets h. tt; no_message = refl }

advanced_silent : (generation : ℕ) → IsSilent (Advanced generation)
advanced_silent generation = record { told = λ own facts. refl; context = λ own id facts. refl; out = λ secrets h. tt; no_message = refl }

-- the end with other secrets, which the map has
stands_under : (e : End) (facts : List Fact) (s : State) (group : GroupSecret) (next : Option GroupSecret) (h : History) → HoldsSecrets e.secrets (record s { group = group; next = next }) →
    Stands e facts s h → Stands e facts (record s { group = group; next = next }) h
stands_under e facts s group next h holds stands = record {
  lawful = stands.lawful;
  honest = stands.honest;
  begun = stands.begun;
  splits = stands.splits;
  state = record { own = stands.state.own; rows = stands.state.rows };
  holds = holds;
}

module _ (e : End) (facts : List Fact) (s : State) where
  does_succeed : (group : GroupSecret) (next : Option GroupSecret) (entry : Entry) → IsSilent entry → (HoldsSecrets e.secrets s → HoldsSecrets e.secrets (record s { group = group; next = next })) →
      Does e facts s (record { state = record s { group = group; next = next }; entries = entry ∷ [] })
  does_succeed group next entry silent holds h stands new =
      let did = does_silent e facts s s (entry ∷ []) (silent, tt) (record { own = refl; holds = λ secrets holds. holds; rows = had_it s.sessions }) h stands new in
      record {
        after = did.after;
        grows = did.grows;
        stands = stands_under e (facts_onto (entry ∷ []) facts) s group next did.after (holds stands.holds) did.stands;
        log = did.log;
        named = did.named;
        outs = did.outs;
        still = did.still;
        order = did.order;
      }

  -- the next secret, which the map has, is known from now on
  holds_next : (secrets : Secrets) (next : GroupSecret) → HasSecret secrets next → HoldsSecrets secrets s → HoldsSecrets secrets (record s { next = Some next })
  holds_next secrets next has holds = record {
    current = holds.current;
    next = λ g is. (let same : next ≡ g = cc in subst (HasSecret secrets) same has);
    attempts = holds.attempts;
    kept = holds.kept;
  }

  pub learning_does : (secret : List ℕ) → HasSecret e.secrets (next_group s secret) → Does e facts s (learning s secret)
  learning_does secret has = does_succeed s.group (Some (next_group s secret)) (Learnt (s.group.generation + 1)) (learnt_silent (s.group.generation + 1)) (holds_next e.secrets (next_group s secret) has)

  -- it is the current one, while attempts in the keying stage keep theirs
  holds_over : (secrets : Secrets) (next : GroupSecret) → s.next ≡ Some next → HoldsSecrets secrets s → HoldsSecrets secrets (record s { group = next; next = None })
  holds_over secrets next is holds = record {
    current = holds.next next is;
    next = λ g none. absurd (cc);
    attempts = λ near a there. by a.stage (holds.attempts near a there);
    kept = holds.kept;
  }
    where
      by : (stage : Stage) → HasSecret secrets (stage_group s.group stage) → HasSecret secrets (stage_group next stage)
      by Hello was = holds.next next is
      by (Keying at cookie g) was = was

  pub advancing_does : Does e facts s (advancing s)
  advancing_does = by s.next refl
    where
      by : (o : Option GroupSecret) → s.next ≡ o → Does e facts s (advancing_to s o)
      by None is = does_nothing e facts s
      by (Some next) is = does_succeed next None (Advanced next.generation) (advanced_silent next.generation) (holds_over e.secrets next is)
