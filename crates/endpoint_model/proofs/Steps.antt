-- One thing after another.
use Rattle.std.proofs.Common.{ℕ, ◌≡◌, ◌+◌, List, [], ◌∷◌, ◌++◌, length, sym, ap, refl, ◌∙◌, subst, arith, append_assoc, length-append}
use Rattle.std.proofs.lemmas.List.{append-nil}
use Rattle.crypto_profile.specs.Keys.{startup_keys_of}
use Rattle.rtmfp_forms.specs.Address.{AddressParts}
use Rattle.endpoint_model.specs.declared.entry.Entry.{Entry}
use Rattle.rtmfp_packet.specs.Walk.{Placed}
use Rattle.endpoint_model.specs.declared.config.Draws.{Draws}
use Rattle.endpoint_model.specs.declared.place.Place.{Place}
use Rattle.endpoint_model.specs.declared.walk.Walk.{Walk}
use Rattle.endpoint_model.specs.Added.{Added}
use Rattle.endpoint_model.specs.Effects.{WalkStep, chunk_did, steps_did, walked}
use Rattle.endpoint_model.specs.State.{State, Did, Done, nothing, after_entries, then_do}
use Rattle.endpoint_model.specs.Sending.{sent_each, sent_startup}

-- ---- what is done

-- the same thing with its entries written in another way
same_entries : (state : State) (xs ys : List Entry) → xs ≡ ys → ◌≡◌ {A = Did} (record { state = state; entries = xs }) (record { state = state; entries = ys })
same_entries state xs ys e = let with : List Entry → Did = λ entries. record { state = state; entries = entries } in ap with e

pub then_nothing : (d : Did) → then_do d nothing ≡ d
then_nothing d = same_entries d.state (d.entries ++ []) d.entries (append-nil d.entries)

pub then_then : (d : Did) (next last : State → Did) → then_do (then_do d next) last ≡ then_do d (λ t. then_do (next t) last)
then_then d next last =
    same_entries (last (next d.state).state).state _ _ (append_assoc d.entries (next d.state).entries (last (next d.state).state).entries)

-- ---- added to an outbox

-- nothing was done
pub done_nothing : (s : State) (out : Added) → Done (nothing s) s out out
done_nothing s out = record {
  state = refl;
  entries = sym (append-nil out.entries);
  free = omega arith;
  room = refl;
}

-- a thing, and then another in the state that it left
pub joined : (d : Did) (next : State → Did) (middle new : State) (before between after : Added) →
    Done d middle before between → Done (next middle) new between after → Done (then_do d next) new before after
joined d next middle new before between after first second =
    let same : next middle ≡ next d.state = ap next first.state in
    record {
      state = second.state ∙ ap (λ (e : Did). e.state) same;
      entries =
          second.entries ∙ ap (λ (e : Did). between.entries ++ e.entries) same ∙ ap (λ xs. xs ++ (next d.state).entries) first.entries
          ∙ append_assoc before.entries d.entries (next d.state).entries;
      free = omega (arith, first.free, second.free, ap (λ (e : Did). length e.entries) same, length-append d.entries (next d.state).entries);
      room = second.room ∙ first.room;
    }

-- ---- sending to several addresses

-- one packet, in the current generation
abbrev pub sent_once : List ℕ → AddressParts → State → Did
sent_once plain to s = sent_startup s s.group.generation (startup_keys_of s.group) to 0 plain

pub each_more : (s : State) (plain : List ℕ) (places : List AddressParts) (to : AddressParts) → sent_each s plain (places ++ to ∷ []) ≡ then_do (sent_each s plain places) (sent_once plain to)
each_more s plain [] to = then_nothing (sent_once plain to s)
each_more s plain (first ∷ rest) to =
    let d : Did = sent_once plain first s in
    ap (after_entries d.entries) (each_more d.state plain rest to) ∙ sym (then_then d (λ t. sent_each t plain rest) (sent_once plain to))

-- ---- the chunks of a datagram

-- some chunks, and then others in the state that these leave
pub steps_then : (place : Place) (from : AddressParts) (draws : Draws) (s : State) (xs ys : List WalkStep) →
    steps_did place from draws s (xs ++ ys) ≡ then_do (steps_did place from draws s xs) (λ t. steps_did place from draws t ys)
steps_then place from draws s [] ys = refl
steps_then place from draws s (x ∷ xs) ys =
    let first : Did = chunk_did place from draws x.walk s x.chunk in
    ap (after_entries first.entries) (steps_then place from draws first.state xs ys)
    ∙ sym (then_then first (λ t. steps_did place from draws t xs) (λ t. steps_did place from draws t ys))

-- what the walk is once these chunks were gone through
abbrev pub walk_through : Walk → List Placed → Walk
walk_through walk [] = walk
walk_through walk (c ∷ cs) = walk_through (walked walk c) cs

-- ---- how far the chunks of a datagram were gone through

-- So many of these steps were taken, which brought the end from s to t, and the rest are left.
pub record IsGone (place : Place) (from : AddressParts) (draws : Draws) (s : State) (all : List WalkStep) (before : Added) (count : ℕ) (rest : List WalkStep) (t : State) (after : Added) : Type 0 where
  pub gone : List WalkStep
  pub all_are : all ≡ gone ++ rest
  pub counted : count ≡ length gone
  pub done : Done (steps_did place from draws s gone) t before after

-- one more
pub one_gone : (place : Place) (from : AddressParts) (draws : Draws) (s t new : State) (all : List WalkStep) (before between after : Added) (count : ℕ) (x : WalkStep) (rest : List WalkStep) →
    IsGone place from draws s all before count (x ∷ rest) t between → Done (chunk_did place from draws x.walk t x.chunk) new between after →
    IsGone place from draws s all before (count + 1) rest new after
one_gone place from draws s t new all before between after count x rest so done =
    let more : List WalkStep = so.gone ++ x ∷ [] in
    let one : steps_did place from draws t (x ∷ []) ≡ chunk_did place from draws x.walk t x.chunk = then_nothing (chunk_did place from draws x.walk t x.chunk) in
    record {
      gone = more;
      all_are = so.all_are ∙ sym (append_assoc so.gone (x ∷ []) rest);
      counted = omega (arith, so.counted, length-append so.gone (x ∷ []));
      done =
          subst (λ d. Done d new before after) (sym (steps_then place from draws s so.gone (x ∷ [])))
          (joined (steps_did place from draws s so.gone) (λ u. steps_did place from draws u (x ∷ [])) t new before between after so.done (subst (λ d. Done d new between after) (sym one) done));
    }
