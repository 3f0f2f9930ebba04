-- Logs to which something was added.
use Rattle.std.proofs.Common.{ℕ, zero, suc, List, [], ◌∷◌, ◌++◌, ◌≡◌, ◌-◌, ◌+◌, Result, Ok, Err, OnOk, OnErr, refl, ap, ◌∙◌, length, map, arith}
use Rattle.std.specs.Prelude.{slice_index_or, slice_set}
use Rattle.endpoint_model.specs.Event.{Event, Setup}
use Rattle.endpoint_model.specs.declared.entry.Entry.{Entry}
use Rattle.log_values.specs.declared.log.EndLog.{EndLog}
use Rattle.log_values.specs.declared.log.Logged.{Logged}
use Rattle.log_values.specs.Events.{event_of, events_of, setup_of}
use Rattle.log_values.specs.Told.{Logs, logs_of}
use Rattle.log_verdict.specs.Told.{setups_of}
use Rattle.log_reading.specs.Gathered.{and_entry, change_at, to_last}

pub length_logs : (logs : List EndLog) → length (logs_of logs) ≡ length logs
length_logs [] = refl
length_logs (log ∷ logs) = ap suc (length_logs logs)

logs_end : (logs : List EndLog) (log : EndLog) → logs_of (logs ++ log ∷ []) ≡ logs_of logs ++ events_of log ∷ []
logs_end [] log = refl
logs_end (first ∷ logs) log = ap (λ (ls : Logs). events_of first ∷ ls) (logs_end logs log)

setups_end : (logs : List EndLog) (log : EndLog) → setups_of (logs ++ log ∷ []) ≡ setups_of logs ++ setup_of log ∷ []
setups_end [] log = refl
setups_end (first ∷ logs) log = ap (λ (ss : List Setup). setup_of first ∷ ss) (setups_end logs log)

pub logs_more : (logs more : List EndLog) (log : EndLog) (events : List Event) → more ≡ logs ++ log ∷ [] → events_of log ≡ events → logs_of more ≡ logs_of logs ++ events ∷ []
logs_more logs more log events e f = ap logs_of e ∙ logs_end logs log ∙ ap (λ (es : List Event). logs_of logs ++ es ∷ []) f

pub setups_more : (logs more : List EndLog) (log : EndLog) (setup : Setup) → more ≡ logs ++ log ∷ [] → setup_of log ≡ setup → setups_of more ≡ setups_of logs ++ setup ∷ []
setups_more logs more log setup e f = ap setups_of e ∙ setups_end logs log ∙ ap (λ (s : Setup). setups_of logs ++ s ∷ []) f

-- a log in place of one of them
pub logs_set : (f : List Event → List Event) (logs : List EndLog) (who : ℕ) (log d : EndLog) → events_of log ≡ f (events_of (slice_index_or logs who d)) → logs_of (slice_set logs who log) ≡ change_at who f (logs_of logs)
logs_set f [] who log d e = refl
logs_set f (first ∷ logs) zero log d e = ap (λ (es : List Event). es ∷ logs_of logs) e
logs_set f (first ∷ logs) (suc who) log d e = ap (λ (ls : Logs). events_of first ∷ ls) (logs_set f logs who log d e)

pub logs_kept : (logs : List EndLog) (who : ℕ) (log d : EndLog) → events_of log ≡ events_of (slice_index_or logs who d) → logs_of (slice_set logs who log) ≡ logs_of logs
logs_kept [] who log d e = refl
logs_kept (first ∷ logs) zero log d e = ap (λ (es : List Event). es ∷ logs_of logs) e
logs_kept (first ∷ logs) (suc who) log d e = ap (λ (ls : Logs). events_of first ∷ ls) (logs_kept logs who log d e)

pub setups_kept : (logs : List EndLog) (who : ℕ) (log d : EndLog) → setup_of log ≡ setup_of (slice_index_or logs who d) → setups_of (slice_set logs who log) ≡ setups_of logs
setups_kept [] who log d e = refl
setups_kept (first ∷ logs) zero log d e = ap (λ (s : Setup). s ∷ setups_of logs) e
setups_kept (first ∷ logs) (suc who) log d e = ap (λ (ss : List Setup). setup_of first ∷ ss) (setups_kept logs who log d e)

-- the last event, with an entry more
last_at : (entry : Entry) (events : List Logged) (at : ℕ) (event d : Logged) → at + 1 ≡ length events → event_of event ≡ and_entry entry (event_of (slice_index_or events at d)) → map event_of (slice_set events at event) ≡ to_last entry (map event_of events)
last_at entry [] at event d here e = refl
last_at entry (first ∷ []) zero event d here e = ap (λ (x : Event). x ∷ []) e
last_at entry (first ∷ []) (suc at) event d here e = let no : ⊥ = omega (arith, here) in absurd no
last_at entry (first ∷ second ∷ events) zero event d here e = let no : ⊥ = omega (arith, here) in absurd no
last_at entry (first ∷ second ∷ events) (suc at) event d here e = ap (λ (es : List Event). event_of first ∷ es) (last_at entry (second ∷ events) at event d (omega (arith, here)) e)

pub last_set : (entry : Entry) (events : List Logged) (event d : Logged) → event_of event ≡ and_entry entry (event_of (slice_index_or events (length events - 1) d)) → map event_of (slice_set events (length events - 1) event) ≡ to_last entry (map event_of events)
last_set entry [] event d e = refl
last_set entry (first ∷ events) event d e = last_at entry (first ∷ events) (length (first ∷ events) - 1) event d (omega arith) e

pub events_kept : (events : List Logged) (at : ℕ) (event d : Logged) → event_of event ≡ event_of (slice_index_or events at d) → map event_of (slice_set events at event) ≡ map event_of events
events_kept [] at event d e = refl
events_kept (first ∷ events) zero event d e = ap (λ (x : Event). x ∷ map event_of events) e
events_kept (first ∷ events) (suc at) event d e = ap (λ (es : List Event). event_of first ∷ es) (events_kept events at event d e)

pub then_ok : {X E P Q : Type 0} (r : Result X E) → (P → Q) → OnOk r P → OnOk r Q
then_ok (Ok x) f p = f p
then_ok (Err e) f p = tt

pub then_err : {X E P Q : Type 0} (r : Result X E) → (P → Q) → OnErr r P → OnErr r Q
then_err (Ok x) f p = tt
then_err (Err e) f p = f p
