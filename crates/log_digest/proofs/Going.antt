-- The generations of an end go on being those of its log.
use Rattle.std.proofs.Common.{ℕ, ◌∷◌, ◌≡◌, refl, sym, ap, Option}
use Rattle.endpoint_model.specs.declared.entry.Entry.{Entry}
use Rattle.endpoint_model.specs.Event.{Setup}
use Rattle.endpoint_model.specs.Views.{learnt_in, advanced_in}
use Rattle.endpoint_laws.specs.Past.{Past, current_after, next_after, next_left, nothing_done, with_entry}
use Rattle.endpoint_laws.specs.Contexts.{next_contexts}
use Rattle.crypto_profile.specs.declared.keys.Context.TheVariants.{Startup}
use Rattle.log_digest.specs.Generations.{Known, begun_in, gone_on, AreGenerationsOf, TheyTellStartup}

pub generations_first : (setup : Setup) (first : ℕ) → setup.generation ≡ first → AreGenerationsOf setup nothing_done (begun_in first)
generations_first setup first is = record { current_is = sym is; next_is = refl }

pub generations_more : (setup : Setup) (moment : ℕ) (past : Past) (entry : Entry) (k : Known) → AreGenerationsOf setup past k → AreGenerationsOf setup (with_entry moment entry past) (gone_on entry k)
generations_more setup moment past entry k are = record {
  current_is = ap (current_after (advanced_in entry)) are.current_is;
  next_is = ap (λ (next : Option ℕ). next_after (learnt_in entry) (next_left (advanced_in entry) next)) are.next_is;
}

pub they_tell : TheyTellStartup
they_tell = record {
  contexts = λ setup past k are. λ i. Startup (are.current_is i) ∷ next_contexts (are.next_is i);
  begins = λ setup past k moment e are. record { current_is = are.current_is; next_is = are.next_is };
}
