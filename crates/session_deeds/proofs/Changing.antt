-- What a session shows after one of its flows was changed.
use Rattle.std.proofs.Common.{◌≡◌, ℕ, ◌<◌, ◌^◌, ◌==◌, Bool, true, false, cond, List, [], ◌∷◌, ◌++◌}
use Rattle.std.proofs.Common.{Option, Some, None, option_map, length, map, refl, sym, ap, ◌∙◌}
use Rattle.std.proofs.Common.{subst, arith}
use Rattle.std.specs.Prelude.{slice_get, slice_set}
use Rattle.std.specs.List.{AllByRecursion}
use Rattle.std.proofs.lemmas.Bool.{eqb-true, eqb-false}
use Rattle.flow_recv.specs.Receiver.{Receiver, Apart, fresh}
use Rattle.flow_send.specs.Flow.{Flow, with_sender}
use Rattle.flow_send.specs.Sender.{Sender, new_sender}
use Rattle.flow_send.specs.Steady.{Steady}
use Rattle.flow_exchange.specs.Sending.{Act, acts}
use Rattle.flow_history.specs.Flow.{Opened, acted, alone}
use Rattle.flow_history.specs.Run.{queued_act, abandoned_act}
use Rattle.flow_history.specs.Deeds.{Piece}
use Rattle.flow_history.specs.Keeping.{Flows}
use Rattle.session_flows.specs.declared.taking.TakingFlow.{TakingFlow}
use Rattle.session_flows.specs.Keeping.{FlowsState, sending_at, taking_at, with_flow, with_sending}
use Rattle.session_flows.specs.Keeping.{with_taking, with_changed, added, in_taking, changed}
use Rattle.session_flows.specs.Keeping.{Stated, Abandoned}
use Rattle.session_flows.proofs.Sounds.{sound_set, sound_push}
use Rattle.session_flows.proofs.Handed.{found_changed}
use Rattle.session_flows.proofs.Indexed.{rise_added, longer}
use Rattle.session_deeds.specs.Deeds.{Opens, ActsOn, Makes, MayAct, opened_by, acted_by, made_by}
use Rattle.session_deeds.specs.Deeds.{did, as_queued, with_made}
use Rattle.session_deeds.specs.Shows.{opened_of, receiver_of, IsWritable, AreNarrow, IsTellable}
use Rattle.session_deeds.specs.Shows.{Shows}
use Rattle.session_deeds.specs.Goes.{of_messages, Goes}
use Rattle.session_deeds.proofs.Chains.{one_goes}
use Rattle.session_deeds.proofs.Lists.{set_there, set_other, push_there, push_other, none_past}
use Rattle.session_deeds.proofs.Lists.{each_at, each_set, each_push, changed_other, rise_changed}
use Rattle.session_deeds.proofs.Lists.{long_changed, each_changed, each_added, added_there}
use Rattle.session_deeds.proofs.Lists.{added_other, Alike, alike_at, alike_long, alike_rise}

-- ---- a sending flow is acted on

-- what is changed at a flow, by what is there
acted_at : (s : FlowsState) (id n : ℕ) (act : Act) (f g : Flow) (kept : Option Opened) (b : Bool) →
    (id == n) ≡ b → sending_at s id ≡ Some f → g ≡ with_sender f (acted f.sender act) →
    kept ≡ option_map opened_of (sending_at s n) →
    cond b (acted_by act kept) kept ≡ option_map opened_of
    (slice_get (slice_set s.sending id g) n)
acted_at s id n act f g kept true e there is shown =
    let same : id ≡ n = eqb-true id n e in
    ap (λ (o : Option Opened). acted_by act o)
    (shown ∙ ap (λ (i : ℕ). option_map opened_of (sending_at s i)) (sym same)
    ∙ ap (λ (o : Option Flow). option_map opened_of o) there)
    ∙ ap (λ (x : Flow). Some (opened_of x)) (sym is)
    ∙ sym (ap (λ (i : ℕ). option_map opened_of (slice_get (slice_set s.sending id g) i)) (sym same)
    ∙ ap (λ (o : Option Flow). option_map opened_of o) (set_there s.sending id f g there))
acted_at s id n act f g kept false e there is shown = shown
    ∙ sym (ap (λ (o : Option Flow). option_map opened_of o)
    (set_other s.sending id n g (eqb-false id n e)))

pub acted_shows : (s : FlowsState) (fl : Flows) (id : ℕ) (act : Act) (f : Flow) (left : Sender) →
    Shows s fl → sending_at s id ≡ Some f → acted f.sender act ≡ left → Steady left →
    Shows (with_flow s id (with_sender f left)) (did fl (ActsOn id act))
acted_shows s fl id act f left h there is steady =
    let g : Flow = with_sender f left in
    let before : IsWritable f = each_at IsWritable s.sending id f there h.writable in
    record {
      opened = λ n. acted_at s id n act f g (fl.opened n) (id == n) refl there
          (ap (λ (x : Sender). with_sender f x) (sym is)) (h.opened n);
      made = h.made;
      sound = sound_set s id f g there refl h.sound;
      writable = each_set IsWritable s.sending id g
          (record { steady = steady; options = before.options }) h.writable;
      tellable = h.tellable;
    }

pub act_goes : (came : List Piece) (s : FlowsState) (id : ℕ) (act : Act) (f : Flow) (left : Sender)
    (stated : List Stated) → sending_at s id ≡ Some f → acted f.sender act ≡ left →
    (Steady f.sender → Steady left) → MayAct came id act →
    map (as_queued id) (acts (alone f.sender) act).world.queued ++ map (Abandoned id)
    (acts (alone f.sender) act).world.abandoned ≡ of_messages stated →
    Goes came s (record { flows = with_flow s id (with_sender f left); stated = stated })
act_goes came s id act f left stated there is keeps may says fl h =
    let open_there : fl.opened id ≡ Some (opened_of f) = h.opened id
    ∙ ap (λ (o : Option Flow). option_map opened_of o) there in
    let before : IsWritable f = each_at IsWritable s.sending id f there h.writable in (
      ActsOn id act ∷ [],
      one_goes came fl _ (ActsOn id act) ((opened_of f, open_there), may)
          (acted_shows s fl id act f left h there is (keeps before.steady))
          (ap (λ (o : Option Opened). map (as_queued id) (queued_act (Some o) act) ++ map
          (Abandoned id) (abandoned_act (Some o) act)) open_there ∙ says),
    )

-- ---- a sending flow is opened

opened_at : (s : FlowsState) (n : ℕ) (g : Flow) (kept : Option Opened) (b : Bool) →
    (length s.sending == n) ≡ b → g.sender ≡ new_sender 1 →
    kept ≡ option_map opened_of (sending_at s n) →
    cond b (opened_by (opened_of g).arriving kept) kept ≡ option_map opened_of
    (slice_get (s.sending ++ g ∷ []) n)
opened_at s n g kept true e new shown =
    let same : length s.sending ≡ n = eqb-true (length s.sending) n e in
    let none : kept ≡ None = shown
    ∙ ap (λ (i : ℕ). option_map opened_of (sending_at s i)) (sym same)
    ∙ ap (λ (o : Option Flow). option_map opened_of o) (none_past s.sending) in
    ap (λ (o : Option Opened). opened_by (opened_of g).arriving o) none
    ∙ ap (λ (x : Sender). Some (record { arriving = (opened_of g).arriving; sender = x })) (sym new)
    ∙ sym (ap (λ (i : ℕ). option_map opened_of (slice_get (s.sending ++ g ∷ []) i)) (sym same)
    ∙ ap (λ (o : Option Flow). option_map opened_of o) (push_there s.sending g))
opened_at s n g kept false e new shown = shown
    ∙ sym (ap (λ (o : Option Flow). option_map opened_of o)
    (push_other s.sending n g (eqb-false (length s.sending) n e)))

pub opened_shows : (s : FlowsState) (fl : Flows) (g : Flow) → Shows s fl → length s.sending < 256 →
    g.id ≡ length s.sending → g.sender ≡ new_sender 1 → IsWritable g →
    Shows (with_sending s (s.sending ++ g ∷ []))
    (did fl (Opens (length s.sending) (opened_of g).arriving))
opened_shows s fl g h few id new writable = record {
  opened = λ n. opened_at s n g (fl.opened n) (length s.sending == n) refl new (h.opened n);
  made = h.made;
  sound = sound_push s g few id h.sound;
  writable = each_push IsWritable s.sending g writable h.writable;
  tellable = h.tellable;
}

-- ---- a receiving flow is changed

changed_shown : (s : FlowsState) (id n : ℕ) (change : Option Receiver → Option Receiver)
    (f : TakingFlow → TakingFlow) (t : TakingFlow) (kept : Option Receiver) (b : Bool) →
    (id == n) ≡ b → ((x : TakingFlow) → (f x).id ≡ x.id) →
    taking_at s id ≡ Some t → change (Some t.receiver) ≡ Some (f t).receiver →
    kept ≡ option_map receiver_of (taking_at s n) →
    cond b (change kept) kept ≡ option_map receiver_of (in_taking n (changed f id s.taking))
changed_shown s id n change f t kept true e keeps there is shown =
    let same : id ≡ n = eqb-true id n e in
    ap change (shown ∙ ap (λ (i : ℕ). option_map receiver_of (taking_at s i)) (sym same)
    ∙ ap (λ (o : Option TakingFlow). option_map receiver_of o) there)
    ∙ is
    ∙ sym (ap (λ (i : ℕ). option_map receiver_of (in_taking i (changed f id s.taking))) (sym same)
    ∙ ap (λ (o : Option TakingFlow). option_map receiver_of o)
    (found_changed f keeps id t s.taking there))
changed_shown s id n change f t kept false e keeps there is shown = shown
    ∙ sym (ap (λ (o : Option TakingFlow). option_map receiver_of o)
    (changed_other f keeps id n s.taking (eqb-false id n e)))

pub changed_shows : (s : FlowsState) (fl : Flows) (id : ℕ)
    (change : Option Receiver → Option Receiver) (f : TakingFlow → TakingFlow) (t : TakingFlow) →
    Shows s fl → ((x : TakingFlow) → (f x).id ≡ x.id) →
    taking_at s id ≡ Some t → change (Some t.receiver) ≡ Some (f t).receiver → IsTellable (f t) →
    Shows (with_changed s id f) (with_made fl id change)
changed_shows s fl id change f t h keeps there is tellable = record {
  opened = h.opened;
  made = λ n. changed_shown s id n change f t (fl.made n) (id == n) refl keeps there is (h.made n);
  sound = record {
    numbered = h.sound.numbered;
    few = h.sound.few;
    rise = rise_changed f keeps id 0 s.taking h.sound.rise;
    few_taking = omega (arith, long_changed f id s.taking, h.sound.few_taking);
  };
  writable = h.writable;
  tellable = each_changed IsTellable f id t s.taking there tellable h.tellable;
}

-- ---- a receiving flow is made

made_at : (s : FlowsState) (n : ℕ) (arriving : Bool) (t : TakingFlow) (kept : Option Receiver)
    (b : Bool) → (t.id == n) ≡ b → taking_at s t.id ≡ None → t.receiver ≡ fresh arriving →
    kept ≡ option_map receiver_of (taking_at s n) →
    cond b (made_by arriving kept) kept ≡ option_map receiver_of (in_taking n (added t s.taking))
made_at s n arriving t kept true e none new shown =
    let same : t.id ≡ n = eqb-true t.id n e in
    ap (λ (o : Option Receiver). made_by arriving o)
    (shown ∙ ap (λ (i : ℕ). option_map receiver_of (taking_at s i)) (sym same)
    ∙ ap (λ (o : Option TakingFlow). option_map receiver_of o) none)
    ∙ ap (λ (r : Receiver). Some r) (sym new)
    ∙ sym (ap (λ (i : ℕ). option_map receiver_of (in_taking i (added t s.taking))) (sym same)
    ∙ ap (λ (o : Option TakingFlow). option_map receiver_of o) (added_there t s.taking none))
made_at s n arriving t kept false e none new shown = shown
    ∙ sym (ap (λ (o : Option TakingFlow). option_map receiver_of o)
    (added_other t n s.taking (eqb-false t.id n e)))

pub made_shows : (s : FlowsState) (fl : Flows) (arriving : Bool) (t : TakingFlow) → Shows s fl →
    taking_at s t.id ≡ None → t.receiver ≡ fresh arriving → length s.taking < 256 → IsTellable t →
    Shows (with_taking s (added t s.taking)) (did fl (Makes t.id arriving))
made_shows s fl arriving t h none new few tellable = record {
  opened = h.opened;
  made = λ n. made_at s n arriving t (fl.made n) (t.id == n) refl none new (h.made n);
  sound = record {
    numbered = h.sound.numbered;
    few = h.sound.few;
    rise = rise_added 0 t s.taking (omega arith) none h.sound.rise;
    few_taking = omega (arith, longer t s.taking);
  };
  writable = h.writable;
  tellable = each_added IsTellable t s.taking tellable h.tellable;
}

-- ---- what is owed is nothing that is shown

tell_alike : (ts us : List TakingFlow) → Alike ts us → AllByRecursion IsTellable ts →
    AllByRecursion IsTellable us
tell_alike [] [] a h = tt
tell_alike [] (u ∷ us) a h = absurd a
tell_alike (t ∷ ts) [] a h = absurd a
tell_alike (t ∷ ts) (u ∷ us) a h = (
  record {
    id = subst (λ (i : ℕ). i < 2 ^ 64) (sym a.0.0) h.0.id;
    apart = subst (λ (r : Receiver). Apart r.spans) (sym a.0.1) h.0.apart;
    narrow = subst (λ (r : Receiver). AreNarrow r.spans) (sym a.0.1) h.0.narrow;
  },
  tell_alike ts us a.1 h.1,
)

pub alike_shows : (s : FlowsState) (fl : Flows) (taking : List TakingFlow) → Shows s fl →
    Alike s.taking taking → Shows (with_taking s taking) fl
alike_shows s fl taking h a = record {
  opened = h.opened;
  made = λ n. h.made n ∙ sym (alike_at n s.taking taking a);
  sound = record {
    numbered = h.sound.numbered;
    few = h.sound.few;
    rise = alike_rise 0 s.taking taking a h.sound.rise;
    few_taking = omega (arith, alike_long s.taking taking a, h.sound.few_taking);
  };
  writable = h.writable;
  tellable = tell_alike s.taking taking a h.tellable;
}
