-- What passes is added.
use Rattle.std.specs.Prelude.{OnOk, is_some}
use Rattle.std.proofs.Common.{ℕ, List, [], ◌≡◌, refl, sym, subst, Bool, true, false, Option, Some, None, Result, Ok, Err, drop}
use Rattle.crypto_profile.specs.Sealing.{number_of}
use Rattle.crypto_profile.specs.declared.keys.Context.{Context}
use Rattle.packet_scramble.specs.Datagram.{sid_of}
use Rattle.rtmfp_forms.specs.Address.{AddressParts}
use Rattle.endpoint_model.specs.declared.entry.Entry.{Entry}
use Rattle.endpoint_model.specs.declared.entry.Entry.TheVariants.{Out}
use Rattle.endpoint_model.specs.Event.{Setup, Event, own_of, receive_in}
use Rattle.endpoint_model.specs.Views.{Sending, fact_in, out_in}
use Rattle.endpoint_laws.specs.Past.{Past, with_entry}
use Rattle.endpoint_laws.specs.Contexts.{Secrets}
use Rattle.endpoint_laws.specs.Lawful.{Line}
use Rattle.log_contexts.specs.Changes.{begun_id}
use Rattle.log_contexts.specs.Contexts.{AreKeyingsOf, BeginsIn}
use Rattle.log_digest.specs.Changes.{MayCome}
use Rattle.log_packets.specs.Asked.{Tells}
use Rattle.log_packets.specs.Opening.{IsSealed}
use Rattle.log_arrivals.specs.declared.arrival.Arrival.{Arrival}
use Rattle.log_arrivals.specs.Arrivals.{ArrivesIn}
use Rattle.log_arrivals.specs.Startup.{generation_in}
use Rattle.log_events.specs.Underway.{IsUnderway}
use Rattle.log_events.specs.Watch.{IsWatchOf}
use Rattle.log_events.specs.declared.watch.EndWatch.{EndWatch}
use Rattle.log_events.proofs.Telling.{births_so}
use Rattle.log_events.proofs.Underway.{they_go_on}
use Rattle.log_events.proofs.Watching.{may_come}
use Rattle.log_verdict.specs.declared.verdict.AuditFault.{AuditFault}
use Rattle.log_verdict.specs.declared.verdict.AuditFault.TheVariants.{Unlawful, NotFresh}
use Rattle.log_entries.specs.Found.{IsFoundOf}
use Rattle.log_entries.specs.Scenes.{HoldsSent}

-- ---- keyings

-- Where nothing goes out there are none.
pub no_keyings : (secrets : Secrets) (sent : Option Sending) → sent ≡ None → AreKeyingsOf secrets sent []
no_keyings secrets None none = record { there = λ near generation keying. keying; is = λ near among. absurd among }
no_keyings secrets (Some sent) none = absurd cc

-- What holds of the keyings of a datagram that was sealed so holds of those of the entry that it is.
pub sent_in : (secrets : Secrets) (plain : List ℕ) (entry : Entry) (to : AddressParts) (datagram : List ℕ) (context : Context) → entry ≡ Out to datagram context → (P : Option Sending → Type 0) →
    (IsSealed secrets context datagram (sid_of datagram) (number_of (drop 4 datagram)) plain → P (Some (record { to = to; datagram = datagram; context = context }))) → HoldsSent secrets (out_in entry) plain → P (out_in entry)
sent_in secrets plain entry to datagram context at P so = subst (λ (x : Entry). HoldsSent secrets (out_in x) plain → P (out_in x)) (sym at) so

-- ---- what is kept

pub and_so : {A E : Type 0} (P Q : Type 0) → Q → (r : Result A E) → OnOk r P → OnOk r (P × Q)
and_so P Q so (Ok a) is = (is, so)
and_so P Q so (Err e) is = tt

module _ (secrets : Secrets) (setup : Setup) (now : ℕ) (e : Event) (before past : Past) (rest : List Entry) (entry : Entry) (u : IsUnderway secrets setup now e before past) (w : EndWatch) (is : IsWatchOf secrets setup now past w)
    (line : Line secrets setup now e.call past rest entry) where
  pub begins : (plain : List ℕ) (arrival : Arrival) → ArrivesIn secrets setup before (receive_in e.call) plain arrival → (opened : Option ℕ) → opened ≡ generation_in arrival → BeginsIn secrets setup past (begun_id (fact_in entry)) opened
  begins plain arrival arrives opened at =
      subst (BeginsIn secrets setup past (begun_id (fact_in entry))) (sym at) (births_so.begins secrets setup now e before past rest entry plain arrival u arrives line)

  pub goes_on : IsUnderway secrets setup now e before (with_entry now entry past)
  goes_on = they_go_on.adds secrets setup now e before past rest entry now w.digest u is.digest line

  pub comes_so : MayCome (own_of setup) past entry
  comes_so = may_come secrets setup now past w is e.call rest entry u.last line

-- ---- what is found

module _ (Meets StatesNew : Type 0) (it : Bool) (tells : Tells Meets it) where
  pub unlawful : it ≡ false → IsFoundOf Meets StatesNew (Some Unlawful)
  unlawful fails line = let meets : it ≡ true = tells.no line in absurd cc

  pub not_fresh : it ≡ true → (new : Bool) → new ≡ false → (StatesNew → new ≡ true) → IsFoundOf Meets StatesNew (Some NotFresh)
  not_fresh meets new known old = (tells.yes meets, λ states. let it_is : new ≡ true = old states in absurd cc)

  pub passes : it ≡ true → StatesNew → IsFoundOf Meets StatesNew None
  passes meets states = (tells.yes meets, states)

pub none_found : (found : Option AuditFault) (is : Bool) → is ≡ is_some found → is ≡ false → found ≡ None
none_found None is at fails = refl
none_found (Some fault) is at fails = absurd cc
