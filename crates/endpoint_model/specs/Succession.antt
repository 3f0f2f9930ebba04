-- The succession of the group's secrets (own): an end learns the secret of the next generation, and
-- goes over to it later.
use Rattle.std.specs.Prelude.{ℕ, ◌+◌, ◌-◌, ◌^◌, ◌==◌, bytes_eq, List, [], ◌∷◌, Option, Some, None}
use Rattle.crypto_profile.specs.declared.group.GroupSecret.{GroupSecret}
use Rattle.rtmfp_base.specs.Reasons.{where_true, first_that_stands}
use Rattle.session_flows.specs.declared.refusal.CallRefusal.{CallRefusal}
use Rattle.session_flows.specs.declared.refusal.CallRefusal.TheVariants.{NextKnown, GenerationsSpent, SameSecret, NoNext}
use Rattle.endpoint_model.specs.declared.entry.Entry.TheVariants.{Learnt, Advanced}
use Rattle.endpoint_model.specs.State.{State, Did, nothing}

-- the last number that a generation may have
abbrev pub last_generation : ℕ
last_generation = 2 ^ 64 - 1

-- ---- learning the next secret

-- the next generation is known already
abbrev pub next_known : Option GroupSecret → Option CallRefusal
next_known None = None
next_known (Some next) = Some (NextKnown next.generation)

-- Why a secret isn't learnt, but for want of memory: a next one is known, no number is left, or it
-- is the current one.
abbrev pub learn_refusal : State → List ℕ → Option CallRefusal
learn_refusal s secret =
    first_that_stands (next_known s.next
    ∷ where_true (s.group.generation == last_generation) GenerationsSpent
    ∷ where_true (bytes_eq s.group.secret secret) SameSecret ∷ [])

-- the next generation has the number after the current one, and this secret
abbrev pub next_group : State → List ℕ → GroupSecret
next_group s secret = record { generation = s.group.generation + 1; secret = secret }

-- it is known from now on
abbrev pub learning : State → List ℕ → Did
learning s secret = record {
  state = record s { next = Some (next_group s secret) };
  entries = Learnt (s.group.generation + 1) ∷ [];
}

-- ---- going over to it

-- there is none to go over to
abbrev pub no_next : Option GroupSecret → Option CallRefusal
no_next None = Some NoNext
no_next (Some next) = None

-- why an end doesn't go over, but for want of memory
abbrev pub advance_refusal : State → Option CallRefusal
advance_refusal s = no_next s.next

abbrev pub advancing_to : State → Option GroupSecret → Did
advancing_to s None = nothing s
advancing_to s (Some next) = record {
  state = record s { group = next; next = None };
  entries = Advanced next.generation ∷ [];
}

-- The next generation is the current one from now on, and none is known after it. Of the secret
-- before it nothing is left but in the attempts in the keying stage.
abbrev pub advancing : State → Did
advancing s = advancing_to s s.next
