-- One datagram more that a session was given: what it counts then; and that one that passed stays the last.
use Rattle.std.proofs.Common.{◌≡◌, ◌↔◌, ℕ, ◌≤◌, List, ◌∷◌, Ok, Err, inl, inr, arith}
use Rattle.crypto_profile.specs.declared.window.Seen.{Seen}
use Rattle.crypto_profile.specs.Window.{window_answer, window_after}
use Rattle.rtmfp_packet.specs.Walk.{Placed}
use Rattle.rtmfp_packet.specs.Whole.{Whole}
use Rattle.rtmfp_forms.specs.Address.{AddressParts}
use Rattle.endpoint_model.specs.declared.config.Draws.{Draws}
use Rattle.endpoint_model.specs.declared.walk.Walk.{Walk}
use Rattle.endpoint_model.specs.declared.place.Place.TheVariants.{Session}
use Rattle.endpoint_model.specs.State.{State}
use Rattle.endpoint_model.specs.Admission.{confirming}
use Rattle.endpoint_model.specs.Effects.{chunk_did}
use Rattle.endpoint_laws.specs.Past.{Past, onto, Taken}
use Rattle.endpoint_laws.specs.Contexts.{OpensUnder}
use Rattle.endpoint_laws.specs.Taken.{count_in, IsNewAfter, PassesIn}
use Rattle.endpoint_laws.proofs.Numbers.{room_after, refused_after, err_not_ok}
use Rattle.endpoint_laws.proofs.Hearing.{Lasting, inward_of, mode_in, CountsUnder}
use Rattle.rtmfp_data_chunks.specs.Fitting.{AreSmall}
use Rattle.endpoint_laws.proofs.Following.{follows_quiet, follows_law}
use Rattle.endpoint_laws.proofs.Made.{confirming_made, session_chunk_made}
use Rattle.endpoint_laws.proofs.Passing.{PassedIn, passed_follows}
use Rattle.endpoint_laws.specs.Contexts.{Secrets}

module _ (secrets : Secrets) (near : ℕ) (l : Lasting) (t : Taken) (taken : List Taken) (k : CountsUnder secrets taken near l) where
  abbrev pub OpensHere : List ℕ → Type 0
  OpensHere plain = OpensUnder secrets (inward_of l) near t.datagram plain

  abbrev pub PassesHere : Type 0
  PassesHere = PassesIn secrets (inward_of l) (mode_in l) near taken t.datagram

  abbrev pub with_number : Lasting
  with_number = record l { window = window_after l.window (count_in t.datagram) }

  -- one that doesn't open
  pub counts_unopened : ((plain : List ℕ) → OpensHere plain → ⊥) → CountsUnder secrets (t ∷ taken) near l
  counts_unopened none = record {
    numbers = λ n. ((λ ok. ((λ plain opens. absurd (none plain opens)), (k.numbers n).0 ok)), (λ new. (k.numbers n).1 new.1));
    times = λ moment took. elim took [ inl here ↦ absurd (none here.0.reads.plain here.0.reads.opens) | inr before ↦ k.times moment before ];
  }

  -- one that opens, whose number is refused
  pub counts_refused : (why : Seen) → window_answer l.window (count_in t.datagram) ≡ Err why → CountsUnder secrets (t ∷ taken) near l
  counts_refused why refused = record {
    numbers = λ n. (
      (λ ok. let room = refused_after l.window (count_in t.datagram) n why refused ok in ((λ plain opens. (room.1, room.2)), (k.numbers n).0 ok)),
      (λ new. (k.numbers n).1 new.1),
    );
    times = λ moment took. elim took [
      | inl here ↦ absurd (err_not_ok l.window (count_in t.datagram) why refused ((k.numbers (count_in t.datagram)).1 here.0.number))
      | inr before ↦ k.times moment before
    ];
  }

  numbers_with : (plain : List ℕ) → OpensHere plain → (n : ℕ) → (window_answer (window_after l.window (count_in t.datagram)) n ≡ Ok tt) ↔ IsNewAfter secrets (inward_of l) near n (t ∷ taken)
  numbers_with plain opens n = let c : ℕ = count_in t.datagram in (
    (λ ok. let room = (room_after l.window c n).0 ok in ((λ other there. (room.1, room.2)), (k.numbers n).0 room.0)),
    (λ new. let apart = new.0 plain opens in (room_after l.window c n).1 ((k.numbers n).1 new.1, apart.0, apart.1)),
  )

  -- one that opens, whose number was taken, but that doesn't pass
  pub counts_counted : (plain : List ℕ) → OpensHere plain → (PassesHere → ⊥) → CountsUnder secrets (t ∷ taken) near with_number
  counts_counted plain opens none = record {
    numbers = numbers_with plain opens;
    times = λ moment took. elim took [ inl here ↦ absurd (none here.0) | inr before ↦ k.times moment before ];
  }

  -- one that is taken
  pub counts_taken : (plain : List ℕ) → OpensHere plain → l.taken ≤ t.moment → CountsUnder secrets (t ∷ taken) near (record with_number { taken = t.moment })
  counts_taken plain opens later = record {
    numbers = numbers_with plain opens;
    times = λ moment took. elim took [ inl here ↦ omega (arith, here.1) | inr before ↦ omega (arith, k.times moment before, later) ];
  }

-- ---- what confirms, and a chunk, leave a datagram that passed

pub passed_confirming : (past : Past) (near : ℕ) (datagram : List ℕ) (packet : Whole) (s : State) → PassedIn past near datagram packet s →
    PassedIn (onto s.moment (confirming s (Session near)).entries past) near datagram packet (confirming s (Session near)).state
passed_confirming past near datagram packet s passed = passed_follows past near datagram packet s (confirming s (Session near)) (confirming_made follows_quiet s (Session near)) passed

pub passed_chunk : (past : Past) (near : ℕ) (datagram : List ℕ) (packet : Whole) (from : AddressParts) (draws : Draws) (walk : Walk) (s : State) (c : Placed) → AreSmall walk.cursor → PassedIn past near datagram packet s →
    PassedIn (onto s.moment (chunk_did (Session near) from draws walk s c).entries past) near datagram packet (chunk_did (Session near) from draws walk s c).state
passed_chunk past near datagram packet from draws walk s c small passed = passed_follows past near datagram packet s (chunk_did (Session near) from draws walk s c) (session_chunk_made follows_law near from draws walk s c small) passed
