-- What an end keeps of the secrets of its group is what its log says.
use Rattle.std.proofs.Common.{ℕ, ◌≡◌, List, [], Some}
use Rattle.std.specs.FinMap.{get}
use Rattle.glare_core.specs.declared.facts.Held.{Held}
use Rattle.startup.specs.declared.kept.KeptKeying.{KeptKeying}
use Rattle.endpoint_model.specs.declared.row.Row.{Row}
use Rattle.endpoint_model.specs.Event.{Setup}
use Rattle.endpoint_model.specs.State.{State}
use Rattle.endpoint_laws.specs.Past.{Past, past_of}
use Rattle.endpoint_laws.specs.Contexts.{Secrets}
use Rattle.endpoint_laws.specs.Groups.{IsKeptOf, IsSessionOf, KeepsItsGroups, TheGroupsAreOfTheLog}
use Rattle.endpoint_laws.proofs.Begun.{begun_as}
use Rattle.endpoint_laws.proofs.InSessions.{was_itself}
use Rattle.endpoint_laws.proofs.Logged.{log_is}
use Rattle.endpoint_laws.proofs.Staged.{Staged}
use Rattle.endpoint_laws.proofs.Tied.{Tied, thing_of}

module _ (secrets : Secrets) (setup : Setup) (past : Past) (s : State) (tied : Tied secrets setup past s) (staged : Staged secrets setup past s) where
  kept_of : (peer : List ℕ) (kept : KeptKeying) → get s.startup.kept peer ≡ Some kept → IsKeptOf secrets setup past peer kept
  kept_of peer kept e =
      let from = staged.kept peer kept e in
      let under = tied.holds.kept peer kept e in
      record { j = from.j; is_held = from.is_held; born = from.born; secret = under.secret; known = under.known; keys = under.keys; sign = under.sign }

  session_of : (near : ℕ) (row : Row) → get s.sessions near ≡ Some row → IsSessionOf secrets setup past row.session
  session_of near row e =
      let ours = tied.sessions near row e in
      let thing : Held = thing_of row.session.role row.session.stage row.session.joined in
      let was = was_itself row.session.role row.session.stage row.session.joined in
      record {
        thing = thing;
        is = was;
        begun = begun_as secrets setup row.session.role row.session.joined thing row.session.generation past was ours.begun;
        secret = ours.known.secret;
        known = ours.known.known;
        inward = ours.known.keyed.towards;
        outward = ours.known.keyed.away;
      }

  keeps_its_groups : KeepsItsGroups secrets setup past s
  keeps_its_groups = record {
    current = tied.current;
    current_known = tied.holds.current;
    next = tied.next;
    next_known = tied.holds.next;
    attempts = staged.attempts;
    kept = kept_of;
    sessions = session_of;
  }

pub groups_of_log : TheGroupsAreOfTheLog
groups_of_log secrets setup log s knows is calls stands =
    let holds = (log_is secrets setup log s knows is calls stands).holds in
    keeps_its_groups secrets setup (past_of 0 [] log) s holds.tied holds.sent.staged
