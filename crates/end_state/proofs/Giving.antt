-- An entry that a step gives, and then goes into the outbox.
use Rattle.std.proofs.Common.{◌≡◌, ◌≤◌, ◌+◌, List, ◌++◌, length, Option, None, refl, sym, ap, ◌∙◌, subst}
use Rattle.std.specs.Prelude.{option_to_list}
use Rattle.endpoint_model.specs.declared.entry.Entry.{Entry}
use Rattle.endpoint_model.specs.Added.{Added}
use Rattle.endpoint_model.specs.State.{State, Did, Done, nothing}
use Rattle.end_state.specs.Steps.{Gives}

pub gives_nothing : (s : State) → Gives (nothing s) s None
gives_nothing s = record { state = refl; entries = refl; short = tt }

-- what was given is added
pub given_done : (d : Did) (t : State) (entry : Option Entry) (before after : Added) → Gives d t entry →
    after.entries ≡ before.entries ++ option_to_list entry → before.free ≤ after.free + length (option_to_list entry) → after.room ≡ before.room → Done d t before after
given_done d t entry before after gives entries free room = record {
  state = gives.state;
  entries = entries ∙ ap (λ (xs : List Entry). before.entries ++ xs) (sym gives.entries);
  free = subst (λ (xs : List Entry). before.free ≤ after.free + length xs) (sym gives.entries) free;
  room = room;
}
