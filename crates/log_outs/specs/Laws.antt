-- The laws of what is closing.
use Rattle.std.specs.Prelude.{ℕ, List}
use Rattle.endpoint_model.specs.declared.entry.Entry.{Entry}
use Rattle.endpoint_model.specs.Event.{Event}
use Rattle.endpoint_laws.specs.Past.{Past, nothing_done, with_begun, with_entry}
use Rattle.log_digest.specs.Changes.{MayCome}
use Rattle.log_outs.specs.Sessions.{ClosesOwn}

-- What is closing under a session ID had that one, in each log whose entries may come there.
pub record EachClosesOwn : Type 0 where
  pub first : ClosesOwn nothing_done
  pub begins : (moment : ℕ) (e : Event) (past : Past) → ClosesOwn past →
      ClosesOwn (with_begun moment e past)
  pub adds : (own : List ℕ) (moment : ℕ) (entry : Entry) (past : Past) → MayCome own past entry →
      ClosesOwn past → ClosesOwn (with_entry moment entry past)
