-- The chunks of a datagram and of the packets that they complete, the acks and the test, one after another.
use Rattle.std.proofs.Common.{ℕ, ◌≡◌, ◌+◌, inl, List, [], ◌∷◌, ◌++◌, length, take, refl, sym, ap, ◌∙◌, subst, arith, append_assoc, length-append}
use Rattle.std.proofs.Math.Seq.{take-append-add, take-append_seam}
use Rattle.std.proofs.lemmas.List.{append-nil, take-append-le}
use Rattle.rtmfp_forms.specs.Address.{AddressParts}
use Rattle.rtmfp_packet.specs.Walk.{Placed}
use Rattle.endpoint_model.specs.declared.answers.Stopped.{Stopped}
use Rattle.endpoint_model.specs.declared.config.Draws.{Draws}
use Rattle.endpoint_model.specs.declared.place.Place.{Place}
use Rattle.endpoint_model.specs.declared.place.Place.TheVariants.{Startup, Attempt, Session}
use Rattle.endpoint_model.specs.declared.walk.Walk.{Walk}
use Rattle.endpoint_model.specs.Added.{Added}
use Rattle.endpoint_model.specs.State.{State, Did, Done, nothing}
use Rattle.endpoint_model.specs.InSessions.{tested}
use Rattle.endpoint_model.specs.FlowChunks.{acked, unowed}
use Rattle.endpoint_model.specs.Effects.{WalkStep, chunk_did, steps_did, steps_of, walked, with_gathered, most_acks, walked_and_acked, walked_and_tested}
use Rattle.endpoint_model.specs.Log.{StopsAt}
use Rattle.endpoint_model.proofs.Steps.{IsGone, done_nothing, joined, steps_then, then_nothing}
use Rattle.end_loops.proofs.Refusals.{IsRoomy, roomy_then}
use Rattle.end_loops.specs.Walks.{taken_upto, StopsIn, TakesAll, TakesSome}

no_acks : (t : State) (place : Place) → acked 0 t place ≡ nothing t
no_acks t (Startup generation) = refl
no_acks t (Attempt near generation) = refl
no_acks t (Session near) = refl

module _ (place : Place) (from : AddressParts) (draws : Draws) where
  -- ---- steps, one after another

  -- these steps, and then those
  steps_joined : (s t new : State) (xs ys : List WalkStep) (before between after : Added) → Done (steps_did place from draws s xs) t before between → Done (steps_did place from draws t ys) new between after →
      Done (steps_did place from draws s (xs ++ ys)) new before after
  steps_joined s t new xs ys before between after first second =
      subst (λ (d : Did). Done d new before after) (sym (steps_then place from draws s xs ys))
      (joined (steps_did place from draws s xs) (λ u. steps_did place from draws u ys) t new before between after first second)

  pub all_taken : (s t : State) (xs : List WalkStep) (before after : Added) (count : ℕ) (rest : List WalkStep) → IsGone place from draws s xs before count rest t after → rest ≡ [] →
      TakesAll place from draws s xs t before after count
  all_taken s t xs before after count rest so none =
      let same : xs ≡ so.gone = so.all_are ∙ ap (λ (ys : List WalkStep). so.gone ++ ys) none ∙ append-nil so.gone in
      record {
        all = so.counted ∙ ap length (sym same);
        done = subst (λ (ys : List WalkStep). Done (steps_did place from draws s ys) t before after) (sym same) so.done;
      }

  pub some_taken : (s t new : State) (xs : List WalkStep) (before between after : Added) (count : ℕ) (x : WalkStep) (rest : List WalkStep) → IsGone place from draws s xs before count (x ∷ rest) t between →
      Done (nothing t) new between after → TakesSome place from draws s xs new before after count
  some_taken s t new xs before between after count x rest so still =
      let gone : take count xs ≡ so.gone = ap (λ (n : ℕ). take n xs) so.counted ∙ ap (take (length so.gone)) so.all_are ∙ take-append_seam so.gone (x ∷ rest) in
      record {
        some = omega (arith, so.counted, ap length so.all_are, length-append so.gone (x ∷ rest));
        done =
            subst (λ (ys : List WalkStep). Done (steps_did place from draws s ys) new before after) (sym gone)
            (subst (λ (d : Did). Done d new before after) (then_nothing (steps_did place from draws s so.gone)) (joined (steps_did place from draws s so.gone) nothing t new before between after so.done still));
      }

  -- ---- a chunk, and those of the packet that it completes

  pub first_and_all : (s t new : State) (x : WalkStep) (xs : List WalkStep) (before between after : Added) (count : ℕ) → Done (chunk_did place from draws x.walk s x.chunk) t before between →
      TakesAll place from draws t xs new between after count → TakesAll place from draws s (x ∷ xs) new before after (count + 1)
  first_and_all s t new x xs before between after count first rest = record {
    all = omega (arith, rest.all);
    done = joined (chunk_did place from draws x.walk s x.chunk) (λ u. steps_did place from draws u xs) t new before between after first rest.done;
  }

  pub first_and_some : (s t new : State) (x : WalkStep) (xs : List WalkStep) (before between after : Added) (count : ℕ) → Done (chunk_did place from draws x.walk s x.chunk) t before between →
      TakesSome place from draws t xs new between after count → TakesSome place from draws s (x ∷ xs) new before after (count + 1)
  first_and_some s t new x xs before between after count first rest =
      let more : length (x ∷ []) + count ≡ count + 1 = omega arith in
      record {
        some = omega (arith, rest.some);
        done =
            subst (λ (n : ℕ). Done (steps_did place from draws s (take n (x ∷ xs))) new before after) more
            (subst (λ (ys : List WalkStep). Done (steps_did place from draws s ys) new before after) (sym (take-append-add (x ∷ []) xs count))
            (joined (chunk_did place from draws x.walk s x.chunk) (λ u. steps_did place from draws u (take count xs)) t new before between after first rest.done));
      }

  -- ---- and so on through the datagram

  pub chunk_roomy : (t new : State) (before after : Added) (more : ℕ) (walk then : Walk) (c : Placed) (rest : List Placed) → IsRoomy place from draws t (steps_of place from draws walk t (c ∷ rest)) before.free →
      TakesAll place from draws t (with_gathered place from walk t c) new before after more → then ≡ walked walk c → IsRoomy place from draws new (steps_of place from draws then new rest) after.free
  chunk_roomy t new before after more walk then c rest roomy takes next =
      let these : List WalkStep = with_gathered place from walk t c in
      let left : steps_of place from draws (walked walk c) (steps_did place from draws t these).state rest ≡ steps_of place from draws then new rest =
      ap (λ (u : State). steps_of place from draws (walked walk c) u rest) (sym takes.done.state) ∙ ap (λ (k : Walk). steps_of place from draws k new rest) (sym next) in
      subst (λ (xs : List WalkStep). IsRoomy place from draws new xs after.free) left
      (roomy_then place from draws t new these (steps_of place from draws (walked walk c) (steps_did place from draws t these).state rest) before after roomy takes.done)

  module _ (s : State) (all : List WalkStep) where
    gone_on : (t new : State) (before between after : Added) (count more : ℕ) (xs rest : List WalkStep) → IsGone place from draws s all before count (xs ++ rest) t between →
        TakesAll place from draws t xs new between after more → IsGone place from draws s all before (count + more) rest new after
    gone_on t new before between after count more xs rest so takes = record {
      gone = so.gone ++ xs;
      all_are = so.all_are ∙ sym (append_assoc so.gone xs rest);
      counted = omega (arith, so.counted, takes.all, length-append so.gone xs);
      done = steps_joined s t new so.gone xs before between after so.done takes.done;
    }

    pub chunk_gone : (t new : State) (before between after : Added) (count more : ℕ) (walk then : Walk) (c : Placed) (rest : List Placed) →
        IsGone place from draws s all before count (steps_of place from draws walk t (c ∷ rest)) t between → TakesAll place from draws t (with_gathered place from walk t c) new between after more →
        then ≡ walked walk c → IsGone place from draws s all before (count + more) (steps_of place from draws then new rest) new after
    chunk_gone t new before between after count more walk then c rest so takes next =
        let these : List WalkStep = with_gathered place from walk t c in
        let left : steps_of place from draws (walked walk c) (steps_did place from draws t these).state rest ≡ steps_of place from draws then new rest =
        ap (λ (u : State). steps_of place from draws (walked walk c) u rest) (sym takes.done.state) ∙ ap (λ (k : Walk). steps_of place from draws k new rest) (sym next) in
        subst (λ (xs : List WalkStep). IsGone place from draws s all before (count + more) xs new after) left
        (gone_on t new before between after count more these (steps_of place from draws (walked walk c) (steps_did place from draws t these).state rest) so takes)

    pub walked_so : (t u v : State) (before between middle after : Added) → Done (steps_did place from draws s all) t before between → Done (acked most_acks t place) u between middle →
        Done (tested u place from draws) v middle after → Done (walked_and_tested place from draws s all) v before after
    walked_so t u v before between middle after chunks acks test =
        joined (walked_and_acked place from draws s all most_acks) (λ x. tested x place from draws) u v before middle after
        (joined (steps_did place from draws s all) (λ x. acked most_acks x place) t u before between middle chunks acks) test

    -- so many chunks and then so many packets of acks, and no memory for what comes then
    pub stops_behind : (gone acks : ℕ) (t u w v : State) (stop : Stopped) (before between middle after : Added) → stop ≡ taken_upto gone →
        Done (steps_did place from draws s (take gone all)) t before between → Done (acked acks t place) u between middle → Done (nothing u) w middle after → v ≡ unowed w place →
        StopsAt place from draws s all gone acks → StopsIn place from draws s all v before after stop
    stops_behind gone acks t u w v stop before between middle after stop_is chunks sent still none at =
        let ended : Done (nothing (unowed u place)) v middle after = record {
          state = none ∙ ap (λ (x : State). unowed x place) still.state;
          entries = still.entries;
          free = still.free;
          room = still.room;
        } in
        let P : Stopped → Type 0 = λ x. StopsIn place from draws s all v before after x in
        subst P (sym stop_is) (record {
          acks = acks;
          taken = refl;
          at = at;
          left =
              joined (walked_and_acked place from draws s (take gone all) acks) (λ x. nothing (unowed x place)) u v before middle after
              (joined (steps_did place from draws s (take gone all)) (λ x. acked acks x place) t u before between middle chunks sent) ended;
        })

    -- at a chunk, or at one of the packet that it completes
    pub stops_at_chunk : (count more : ℕ) (walk : Walk) (c : Placed) (rest : List Placed) (t w v : State) (stop : Stopped) (before between after : Added) → stop ≡ taken_upto (count + more) →
        IsGone place from draws s all before count (steps_of place from draws walk t (c ∷ rest)) t between → TakesSome place from draws t (with_gathered place from walk t c) w between after more → v ≡ unowed w place →
        StopsIn place from draws s all v before after stop
    stops_at_chunk count more walk c rest t w v stop before between after stop_is so takes none =
        let these : List WalkStep = with_gathered place from walk t c in
        let later : List WalkStep = steps_of place from draws (walked walk c) (steps_did place from draws t these).state rest in
        let gone : take (count + more) all ≡ so.gone ++ take more these =
        ap (λ (n : ℕ). take (n + more) all) so.counted ∙ ap (take (length so.gone + more)) so.all_are ∙ take-append-add so.gone (these ++ later) more
        ∙ ap (λ (xs : List WalkStep). so.gone ++ xs) (take-append-le more these later (omega (arith, takes.some))) in
        let done : Done (steps_did place from draws s (take (count + more) all)) w before after =
        subst (λ (xs : List WalkStep). Done (steps_did place from draws s xs) w before after) (sym gone) (steps_joined s t w so.gone (take more these) before between after so.done takes.done) in
        stops_behind (count + more) 0 w w w v stop before after after after stop_is done (subst (λ (d : Did). Done d w after after) (sym (no_acks w place)) (done_nothing w after)) (done_nothing w after) none
        (inl (omega (arith, takes.some, so.counted, ap length so.all_are, length-append so.gone (these ++ later), length-append these later), refl))
