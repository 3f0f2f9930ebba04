-- The events of logs by their places.
use Rattle.std.proofs.Common.{ℕ, List, [], ◌∷◌, ◌≡◌, ◌<◌, ◌≤◌, refl, sym, ap, subst, ◌∙◌, length, get_or, map, Option, Some, None, Bor, arith}
use Rattle.std.specs.Option.{IfSome}
use Rattle.std.specs.Slice.{IsItemAt}
use Rattle.std.proofs.lemmas.List.{get_or-map, get_or_past, length-map}
use Rattle.endpoint_model.specs.Event.{Event}
use Rattle.log_values.specs.declared.log.EndLog.{EndLog}
use Rattle.log_values.specs.declared.log.Logged.{Logged}
use Rattle.log_values.specs.Events.{event_of, events_of}
use Rattle.log_values.specs.Told.{events_in, logs_of, no_event}

-- It is the event with this index, if there is one.
pub record IsEventAt (events : List Event) (at : ℕ) (r : Option (Bor Logged)) : Type 0 where
  pub there : IfSome r (λ event. at < length events)
  pub event : IfSome r (λ event. event_of event.now ≡ get_or events at no_event)
  pub none : r ≡ None → length events ≤ at

of_items : (items : List Logged) (at : ℕ) (r : Option (Bor Logged)) → IsItemAt items at r → IsEventAt (map event_of items) at r
of_items items at None is = record { there = tt; event = tt; none = λ e. subst (λ (n : ℕ). n ≤ at) (sym (length-map items event_of)) is.3 }
of_items items at (Some event) is = record {
  there = subst (λ (n : ℕ). at < n) (sym (length-map items event_of)) is.3.0;
  event = ap event_of is.1 ∙ sym (get_or-map event_of items at event.now no_event is.3.0);
  none = λ e. absurd cc;
}

logs_mapped : (logs : List EndLog) → logs_of logs ≡ map events_of logs
logs_mapped [] = refl
logs_mapped (log ∷ logs) = ap (λ l. events_of log ∷ l) (logs_mapped logs)

in_log : (logs : List EndLog) (who : ℕ) (log : EndLog) → who < length logs → log ≡ get_or logs who log → events_in (logs_of logs) who ≡ map event_of log.events.items
in_log logs who log within is = ap (λ l. get_or l who []) (logs_mapped logs) ∙ get_or-map events_of logs who log [] within ∙ ap events_of (sym is)

pub in_the_log : (logs : List EndLog) (who at : ℕ) (log : Bor EndLog) (items : List Logged) (r : Option (Bor Logged)) → IsItemAt logs who (Some log) → items ≡ log.now.events.items → IsItemAt items at r →
    IsEventAt (events_in (logs_of logs) who) at r
in_the_log logs who at log items r found same is =
    subst (λ (events : List Event). IsEventAt events at r) (ap (map event_of) same ∙ sym (in_log logs who log.now found.3.0 found.1)) (of_items items at r is)

pub in_no_log : (logs : List EndLog) (who at : ℕ) → IsItemAt {X = EndLog} logs who None → length (events_in (logs_of logs) who) ≤ at
in_no_log logs who at none =
    let short : length (map events_of logs) ≤ who = subst (λ (n : ℕ). n ≤ who) (sym (length-map logs events_of)) none.3 in
    let empty : events_in (logs_of logs) who ≡ [] = ap (λ l. get_or l who []) (logs_mapped logs) ∙ get_or_past (map events_of logs) who [] short in
    subst (λ (events : List Event). length events ≤ at) (sym empty) (omega arith)
