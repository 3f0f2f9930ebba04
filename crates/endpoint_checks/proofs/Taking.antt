-- What is refused of a datagram that a session doesn't take.
use Rattle.std.proofs.Common.{ℕ, ◌+◌, ◌≤◌, ◌<◌, List, [], ◌∷◌, length, drop, length-drop, ◌≡◌, ◌≢◌, sym, ap, subst, ◌∙◌, false, arith}
use Rattle.crypto_profile.specs.declared.keys.Context.{Context}
use Rattle.rtmfp_forms.specs.Address.{AddressParts}
use Rattle.rtmfp_packet.specs.Whole.{Whole}
use Rattle.rtmfp_chunks.specs.Chunk.{Chunk}
use Rattle.glare_core.specs.declared.facts.Held.TheVariants.{HalfOpen}
use Rattle.glare_core.specs.declared.facts.Joined.{Joined}
use Rattle.endpoint_model.specs.declared.config.Draws.{Draws}
use Rattle.endpoint_model.specs.Event.{Setup, ReceiveCall, Receive, Answer, Done, Stopped, Event}
use Rattle.endpoint_model.specs.Keying.{IsAmong, chunks_of}
use Rattle.endpoint_laws.specs.Contexts.{Secrets, ReadsUnder}
use Rattle.endpoint_laws.specs.Past.{Past, Taken, taken_since}
use Rattle.endpoint_laws.specs.Taken.{count_in, IsNewAfter, TakesChunkOf}
use Rattle.endpoint_checks.specs.Logs.{doing}
use Rattle.endpoint_checks.specs.Takes.{context_here, UntakenRefused}
use Rattle.endpoint_checks.proofs.Brings.{one_packet}
use Rattle.endpoint_checks.proofs.Still.{IsStill, still_begun}

abbrev pub taken_at : ℕ → List ℕ → Taken
taken_at moment sent = record { moment = moment; datagram = sent }

too_short : (sent : List ℕ) → 32 ≤ length (drop 4 sent) → length sent < 36 → ⊥
too_short sent long short = omega (arith, length-drop 4 sent, long, short)

-- a count that is new isn't 0
counts : (secrets : Secrets) (context : Context) (near count : ℕ) (before : List Taken) → IsNewAfter secrets context near count before → count ≢ 0
counts secrets context near count [] new = new
counts secrets context near count (t ∷ before) new = counts secrets context near count before new.1

nothing_taken : (t : Taken) (before : List Taken) → [] ≡ t ∷ before → ⊥
nothing_taken t before e = cc

rest_is : (x y : Taken) (xs ys : List Taken) → x ∷ xs ≡ y ∷ ys → ys ≡ xs
rest_is x y xs ys e = sym (ap (drop 1) e)

too_old : (sent first : ℕ) → sent + 1024 ≤ first → first < sent + 1024 → ⊥
too_old sent first old new = omega arith

-- Of a chunk that the datagram of a call has to bring, at an end that did one of these before.
module _ (secrets : Secrets) (setup : Setup) (from : AddressParts) (sent : List ℕ) (draws : Draws) (j : Joined) (chunk : Chunk) (IsRefusedOf : List Event → Answer → Type 0) (moment : ℕ) (alone : Past) (later : List ℕ →
    Past) (stopped : ℕ →
    Past) (still_alone : IsStill alone) (still_later : (first : List ℕ) → IsStill (later first)) where
  abbrev pub call : ReceiveCall
  call = record { from = from; datagram = sent; draws = draws }

  pub untaken : ((TakesChunkOf secrets setup alone (HalfOpen j) j.near call chunk → ⊥) → IsRefusedOf [] Done) →
      ((first : List ℕ) → (TakesChunkOf secrets setup (later first) (HalfOpen j) j.near call chunk → ⊥) → IsRefusedOf (doing 0 (Receive from first draws) [] ∷ []) Done) →
      ((chunks : ℕ) → (TakesChunkOf secrets setup (stopped chunks) (HalfOpen j) j.near call chunk → ⊥) → IsRefusedOf [] (Stopped (record { taken = false; chunks = chunks }))) → (tail : List ℕ →
      List Taken) → ((first : List ℕ) → taken_since j.near (later first) ≡ taken_at moment sent ∷ taken_at 0 first ∷ tail first) → ((chunks : ℕ) → taken_since j.near (stopped chunks) ≡ []) →
      UntakenRefused secrets setup from sent draws j chunk IsRefusedOf
  untaken no_alone no_later no_stopped tail later_is stopped_is = record {
    short = λ short. no_alone (λ t. too_short sent t.passes.reads.opens.opens.0 short);
    under_another = λ differ. no_alone (λ t. differ t.passes.reads.opens.id);
    unopened = λ none. no_alone (λ t. none (reads_here t).plain (reads_here t).opens);
    other_mode = λ packet reads differ. no_alone (λ t. differ (ap (λ (p : Whole). p.head.mode) (one_packet secrets (context_here setup setup.generation j) j.near sent packet t.passes.packet reads (reads_here t)) ∙ t.passes.mode_is));
    no_chunk = λ packet reads none. no_alone
        (λ t. none t.placed (subst (λ (p : Whole). IsAmong t.placed (chunks_of p)) (one_packet secrets (context_here setup setup.generation j) j.near sent t.passes.packet packet (reads_here t) reads) t.among) t.spells);
    zero = λ e. no_alone (λ t. counts secrets (context_here setup t.generation j) j.near (count_in sent) t.before t.passes.number e);
    again = λ first plain opens e. no_later first (λ t. ((newer first t).0 plain opens).0 e);
    old = λ first plain opens old. no_later first (λ t. too_old (count_in sent) (count_in first) old ((newer first t).0 plain opens).1);
    not_taken = λ chunks. no_stopped chunks (λ t. nothing_taken _ t.before (sym (stopped_is chunks) ∙ t.last));
  }
    where
      -- the session was born in the first generation
      reads_here : (t : TakesChunkOf secrets setup alone (HalfOpen j) j.near call chunk) → ReadsUnder secrets (context_here setup setup.generation j) j.near sent t.passes.packet
      reads_here t = subst (λ (g : ℕ). ReadsUnder secrets (context_here setup g j) j.near sent t.passes.packet) (still_begun secrets setup (HalfOpen j) t.generation alone t.begun still_alone) t.passes.reads

      newer : (first : List ℕ) (t : TakesChunkOf secrets setup (later first) (HalfOpen j) j.near call chunk) → IsNewAfter secrets (context_here setup setup.generation j) j.near (count_in sent) (taken_at 0 first ∷ tail first)
      newer first t =
          subst (IsNewAfter secrets (context_here setup setup.generation j) j.near (count_in sent)) (rest_is _ _ _ t.before (sym (later_is first) ∙ t.last))
          (subst (λ (g : ℕ). IsNewAfter secrets (context_here setup g j) j.near (count_in sent) t.before) (still_begun secrets setup (HalfOpen j) t.generation (later first) t.begun (still_later first)) t.passes.number)
