-- Entries of which the table of lawful logs has no line: they state no fact, send nothing, end no closing, and say nothing of searches and of the group's generations.
use Rattle.std.proofs.Common.{◌≡◌, ℕ, List, [], ◌∷◌, map, None, refl}
use Rattle.session_flows.specs.Keeping.{Stated, Opened, Queued, Abandoned, Finished, Handed}
use Rattle.endpoint_model.specs.declared.entry.Entry.{Entry}
use Rattle.endpoint_model.specs.OnFlows.{flow_entry}
use Rattle.endpoint_model.specs.Views.{fact_in, out_in, closed_in, sought_in, unsought_in, learnt_in, advanced_in}

pub record IsUnseen (entry : Entry) : Type 0 where
  pub no_fact : fact_in entry ≡ None
  pub no_out : out_in entry ≡ None
  pub no_closed : closed_in entry ≡ None
  pub no_sought : sought_in entry ≡ None
  pub no_unsought : unsought_in entry ≡ None
  pub no_learnt : learnt_in entry ≡ None
  pub no_advanced : advanced_in entry ≡ None

abbrev pub AreUnseen : List Entry → Type 0
AreUnseen [] = Unit {0}
AreUnseen (entry ∷ rest) = IsUnseen entry × AreUnseen rest

flow_unseen : (near : ℕ) (x : Stated) → IsUnseen (flow_entry near x)
flow_unseen near (Opened flow) = record { no_fact = refl; no_out = refl; no_closed = refl; no_sought = refl; no_unsought = refl; no_learnt = refl; no_advanced = refl }
flow_unseen near (Queued flow seq message) = record { no_fact = refl; no_out = refl; no_closed = refl; no_sought = refl; no_unsought = refl; no_learnt = refl; no_advanced = refl }
flow_unseen near (Abandoned flow seq) = record { no_fact = refl; no_out = refl; no_closed = refl; no_sought = refl; no_unsought = refl; no_learnt = refl; no_advanced = refl }
flow_unseen near (Finished flow seq) = record { no_fact = refl; no_out = refl; no_closed = refl; no_sought = refl; no_unsought = refl; no_learnt = refl; no_advanced = refl }
flow_unseen near (Handed flow seq message) = record { no_fact = refl; no_out = refl; no_closed = refl; no_sought = refl; no_unsought = refl; no_learnt = refl; no_advanced = refl }

pub flows_unseen : (near : ℕ) (stated : List Stated) → AreUnseen (map (flow_entry near) stated)
flows_unseen near [] = tt
flows_unseen near (x ∷ rest) = (flow_unseen near x, flows_unseen near rest)
