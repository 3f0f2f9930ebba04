-- The things of an end that aren't of flows: attempts, and sessions that are confirmed, moved,
-- tested, kept alive and closed.
use Rattle.std.proofs.Common.{ap, ◌+◌, ◌≡◌, ℕ, ◌≤◌, List, [], ◌∷◌, length, nat_lt}
use Rattle.std.proofs.Common.{Bool, true, false, if◌then◌else◌, Option, Some, None, Result, Ok, Err}
use Rattle.std.proofs.Common.{refl, arith}
use Rattle.std.proofs.lemmas.Bool.{ltb-false}
use Rattle.std.specs.FinMap.{get}
use Rattle.rtmfp_forms.specs.Address.{AddressParts}
use Rattle.rtmfp_chunks.specs.declared.reading.ChunkFault.{ChunkFault}
use Rattle.rtmfp_chunks.specs.Chunk.{Chunk, IHello, FIHello, RHello, Redirect, CookieChange, Ping}
use Rattle.crypto_profile.specs.declared.group.GroupSecret.{GroupSecret}
use Rattle.identity.specs.declared.discriminator.Epd.{Epd}
use Rattle.identity.specs.Discriminators.{discriminator_of}
use Rattle.identity.specs.Targets.{selects, target_of}
use Rattle.glare_core.specs.declared.facts.Why.{Why}
use Rattle.glare_core.specs.declared.facts.Fact.{Fact}
use Rattle.glare_core.specs.declared.facts.Fact.TheVariants.{Started, Confirmed, Ended}
use Rattle.rtmfp_base.specs.Reasons.{first_that_stands}
use Rattle.rtmfp_base.specs.Reasons.{where_true}
use Rattle.rtmfp_base.specs.declared.cause.Cause.{Cause}
use Rattle.rtmfp_base.specs.declared.cause.Cause.TheVariants.{Wide}
use Rattle.startup.specs.State.{StartupState}
use Rattle.startup.specs.Attempts.{wide}
use Rattle.startup.specs.Keyings.{initiator_hello_answer}
use Rattle.endpoint_model.specs.declared.place.Place.{Place}
use Rattle.endpoint_model.specs.declared.row.Row.{Row}
use Rattle.endpoint_model.specs.declared.entry.Entry.{Entry}
use Rattle.endpoint_model.specs.declared.entry.Entry.TheVariants.{Fact as FactEntry, Closed, Moved, Sought, Unsought}
use Rattle.endpoint_model.specs.declared.entry.Entry.TheVariants.{Discard}
use Rattle.endpoint_model.specs.State.{State, Did, nothing, with_startup, with_row}
use Rattle.endpoint_model.specs.State.{with_sealed}
use Rattle.endpoint_model.specs.Sending.{startup_datagram}
use Rattle.endpoint_model.specs.Introducing.{hello_cause}
use Rattle.endpoint_model.specs.Causes.{read_cause}
use Rattle.endpoint_model.specs.Admission.{group_at}
use Rattle.endpoint_model.specs.Effects.{InStartup}
use Rattle.endpoint_model.specs.Effects.{introduction, hello_reply}
use Rattle.endpoint_model.specs.Effects.{read_reply}
use Rattle.endpoint_laws.proofs.Replies.{discriminator_length}
use Rattle.endpoint_handing.proofs.Kept.{End, Does, does_then, does_nothing}
use Rattle.endpoint_handing.proofs.Silent.{IsSilent, IsSame, had_it}
use Rattle.endpoint_handing.proofs.Silent.{had_row, had_left}
use Rattle.endpoint_handing.proofs.Silent.{IsAlike, does_silent}
use Rattle.endpoint_handing.specs.Told.{facts_onto}
use Rattle.endpoint_laws.proofs.Hearing.{Lasting}
use Rattle.endpoint_laws.proofs.Small.{GoesOn, stated, began, Quiet}
use Rattle.endpoint_laws.proofs.Made.{Carries}
use Rattle.endpoint_handing.proofs.Bodies.{body_pieces}
use Rattle.endpoint_handing.proofs.Plain.{close_none, close_ack_none, ping_none, reply_none}
use Rattle.endpoint_handing.proofs.Plain.{hello_none}
use Rattle.endpoint_laws.proofs.Kin.{IsKin, holds_still}
use Rattle.endpoint_handing.proofs.Sent.{startup_silent, does_out}
use Rattle.endpoint_handing.proofs.Parting.{does_in_pieces}

-- ---- silent entries

-- neither a Born nor an Opened
started_silent : (peer : List ℕ) (n near : ℕ) (ni : List ℕ) → IsSilent (FactEntry (Started peer n near ni))
started_silent peer n near ni = record { told = λ own facts. refl; context = λ own id facts. refl; out = λ secrets h. tt; no_message = refl }

pub ended_silent : (peer : List ℕ) (near : ℕ) (why : Why) → IsSilent (FactEntry (Ended peer near why))
ended_silent peer near why = record { told = λ own facts. refl; context = λ own id facts. refl; out = λ secrets h. tt; no_message = refl }

confirmed_silent : (peer : List ℕ) (near : ℕ) → IsSilent (FactEntry (Confirmed peer near))
confirmed_silent peer near = record { told = λ own facts. refl; context = λ own id facts. refl; out = λ secrets h. tt; no_message = refl }

closed_silent : (near : ℕ) → IsSilent (Closed near)
closed_silent near = record { told = λ own facts. refl; context = λ own id facts. refl; out = λ secrets h. tt; no_message = refl }

sought_silent : (near : ℕ) (name : List ℕ) → IsSilent (Sought near name)
sought_silent near name = record { told = λ own facts. refl; context = λ own id facts. refl; out = λ secrets h. tt; no_message = refl }

unsought_silent : (near : ℕ) (why : Why) → IsSilent (Unsought near why)
unsought_silent near why = record { told = λ own facts. refl; context = λ own id facts. refl; out = λ secrets h. tt; no_message = refl }

moved_silent : (near : ℕ) (to : AddressParts) → IsSilent (Moved near to)
moved_silent near to = record { told = λ own facts. refl; context = λ own id facts. refl; out = λ secrets h. tt; no_message = refl }

pub discard_silent : (at : ℕ) (cause : Cause) → IsSilent (Discard at cause)
discard_silent at cause = record { told = λ own facts. refl; context = λ own id facts. refl; out = λ secrets h. tt; no_message = refl }

-- ---- states that are alike

alike_startup : (s : State) (t : StartupState) → IsKin s t → IsAlike s (with_startup s t)
alike_startup s t kin = record { own = kin.own; holds = kin.holds; rows = had_it s.sessions }

alike_row : (s : State) (near : ℕ) (old new : Row) → get s.sessions near ≡ Some old → IsSame old new → IsAlike s (with_row s near new)
alike_row s near old new there same = record { own = refl; holds = λ secrets holds. holds_still secrets s _ holds refl refl refl; rows = had_row s.sessions near old new there same }

same_on : (old new : Row) → GoesOn old new → IsSame old new
same_on old new goes =
    let l = goes.descends.same in
    record { joined = ap (λ (k : Lasting). k.joined) l; own = ap (λ (k : Lasting). k.own) l; role = ap (λ (k : Lasting). k.role) l; generation = ap (λ (k : Lasting). k.generation) l; inward = ap (λ (k : Lasting). k.inward) l; outward = ap (λ (k : Lasting). k.outward) l; flows = goes.flows; gathering = goes.pieces; packets = goes.packets }

-- ---- small things

-- What goes out in sessions has no pieces.
abbrev pub IsBare : List ℕ → Type 0
IsBare body = body_pieces body ≡ []

-- A thing is done after whatever facts.
abbrev pub DoesAlways : End → State → Did → Type 0
DoesAlways e s d = (facts : List Fact) → Does e facts s d

module _ (e : End) where
  does_one : (s t : State) (entry : Entry) → IsSilent entry → IsAlike s t → DoesAlways e s (record { state = t; entries = entry ∷ [] })
  does_one s t entry silent alike facts = does_silent e facts s t (entry ∷ []) (silent, tt) alike

  does_change : (s t : State) → IsAlike s t → DoesAlways e s (nothing t)
  does_change s t alike facts = does_silent e facts s t [] tt alike

  pub quiet_does : Quiet IsBare (DoesAlways e)
  quiet_does = record {
    sends = record {
      steps = record { does_nothing = λ s facts. does_nothing e facts s; and_then = λ s d f first later facts. does_then e facts s d (λ t. f) (first facts) (later (facts_onto d.entries facts)) };
      out = λ s generation keys to sid plain. does_one s (with_sealed s (s.sealed + 1)) _ (startup_silent to (startup_datagram s keys sid plain) generation) (record { own = refl; holds = λ secrets holds. holds_still secrets s _ holds refl refl refl; rows = had_it s.sessions });
      out_in = λ s near row to body is bare facts. does_out e facts s near to body row is bare;
      parts = λ s near row to body is bare long has facts. does_in_pieces e facts s near to body row is has bare;
    };
    attempts = λ s startup kin. does_change s (with_startup s startup) (alike_startup s startup kin);
    close = close_none;
    close_ack = close_ack_none;
    empty_ping = ping_none [] (omega arith);
    discards = λ s at cause. does_one s s _ (discard_silent at cause) (record { own = refl; holds = λ secrets holds. holds_still secrets s _ holds refl refl refl; rows = had_it s.sessions });
    ends = λ s startup peer near why kin. does_one s _ _ (ended_silent peer near why) (alike_startup s startup kin);
    unseeks = λ s startup near why kin. does_one s _ _ (unsought_silent near why) (alike_startup s startup kin);
    confirms = λ s startup peer near kin. does_one s _ _ (confirmed_silent peer near) (alike_startup s startup kin);
    closes = λ s near. does_one s _ _ (closed_silent near) (record { own = refl; holds = λ secrets holds. holds_still secrets s _ holds refl refl refl; rows = had_left s.sessions near });
    forgets = λ s near. does_change s _ (record { own = refl; holds = λ secrets holds. holds_still secrets s _ holds refl refl refl; rows = had_left s.sessions near });
    moves = λ s near to. does_one s s _ (moved_silent near to) (record { own = refl; holds = λ secrets holds. holds_still secrets s _ holds refl refl refl; rows = had_it s.sessions });
    goes_on = λ s near old new is goes. does_change s _ (alike_row s near old new is (same_on old new goes));
  }

  pub does_started : (s : State) (startup : StartupState) (peer : List ℕ) (n near : ℕ) (ni : List ℕ) → IsKin s startup → DoesAlways e s (stated s startup (Started peer n near ni))
  does_started s startup peer n near ni kin = does_one s _ _ (started_silent peer n near ni) (alike_startup s startup kin)

  pub does_sought : (s : State) (startup : StartupState) (near : ℕ) (name : List ℕ) → IsKin s startup → DoesAlways e s (began s startup near name)
  does_sought s startup near name kin = does_one s _ _ (sought_silent near name) (alike_startup s startup kin)

-- ---- hellos, redirects, changes of cookies, and pings

first_none : (a b : Option Cause) → first_that_stands (a ∷ b ∷ []) ≡ None → a ≡ None
first_none None b is = refl
first_none (Some x) b is = absurd (cc)

fails : {A : Type 0} (b : Bool) (a : A) → where_true b a ≡ None → b ≡ false
fails true a is = absurd (cc)
fails false a is = refl

narrow : (most : ℕ) (bytes : List ℕ) → where_true (nat_lt most (length bytes)) (Wide (length bytes)) ≡ None → length bytes ≤ most
narrow most bytes is = ltb-false most (length bytes) (fails (nat_lt most (length bytes)) (Wide (length bytes)) is)

introduced_bare : (s : State) (epd tag : List ℕ) (from : AddressParts) (g : GroupSecret) → length tag ≤ 128 → (o : Option Epd) → discriminator_of epd ≡ o → Carries IsBare (introduction s o epd tag from g)
introduced_bare s epd tag from g short None is = tt
introduced_bare s epd tag from g short (Some selected) is = hello_none epd tag from (discriminator_length epd selected is) short

hello_bare : (s : State) (epd tag : List ℕ) (from : AddressParts) (g : GroupSecret) → hello_cause s epd tag ≡ None → Carries IsBare (hello_reply s epd tag from g)
hello_bare s epd tag from g none = by (selects (target_of epd) s.startup.cert) (narrow 128 tag (first_none (wide tag) _ none))
  where
    by : (own : Bool) → length tag ≤ 128 → Carries IsBare (if own then InStartup (Some (initiator_hello_answer s.startup tag from s.moment g)) else introduction s (discriminator_of epd) epd tag from g)
    by true short = tt
    by false short = introduced_bare s epd tag from g short (discriminator_of epd) refl

pub reply_bare : (s : State) (place : Place) (from : AddressParts) (read : Result Chunk ChunkFault) → read_cause s place from read ≡ None → Carries IsBare (read_reply s place from read)
reply_bare s place from (Ok (IHello epd tag)) none = hello_bare s epd tag from (group_at s place) none
reply_bare s place from (Ok (FIHello epd reply tag)) none = tt
reply_bare s place from (Ok (RHello tag cookie cert)) none = tt
reply_bare s place from (Ok (Redirect tag list)) none = tt
reply_bare s place from (Ok (CookieChange old new)) none = tt
reply_bare s place from (Ok (Ping bytes)) none = reply_none bytes (omega (arith, narrow 1024 bytes none))
reply_bare s place from (Ok _) none = tt
reply_bare s place from (Err fault) none = tt
