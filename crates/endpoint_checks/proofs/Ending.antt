-- What the table refuses of an Ended.
use Rattle.std.proofs.Common.{ℕ, ◌+◌, ◌≤◌, List, ◌≡◌, inl, sym, ap, subst, refl, cond, Some, None, true, false, ◌∙◌, arith}
use Rattle.std.specs.Prelude.{Bool}
use Rattle.std.specs.Str.{bytes_eq}
use Rattle.glare_core.specs.declared.facts.Held.{Held}
use Rattle.glare_core.specs.declared.facts.Held.TheVariants.{Opening, HalfOpen, KeptAsResponder, KeptAsInitiator}
use Rattle.glare_core.specs.Things.{IsAttempt, IsSession, near_of}
use Rattle.endpoint_checks.specs.Ends.{TheTableRefusesCancels, TheTableRefusesExpiries, TheTableRefusesWays}
use Rattle.endpoint_checks.proofs.Logs.{same, other}
use Rattle.endpoint_checks.proofs.Pasts.{was_once}

-- ---- what is held where one thing was begun

is_it : (b : Bool) (x y : Held) → b ≡ true → cond b (Some x) None ≡ Some y → x ≡ y
is_it true x y e is = cc
is_it false x y e is = absurd (cc)

pub isnt_it : (b : Bool) (x y : Held) → b ≡ false → cond b (Some x) None ≡ Some y → ⊥
isnt_it true x y e is = cc
isnt_it false x y e is = cc

pub held_here : (peer : List ℕ) (x y : Held) → cond (bytes_eq peer peer) (Some x) None ≡ Some y → x ≡ y
held_here peer x y is = is_it (bytes_eq peer peer) x y (same peer peer refl) is

number_of_opening : Held → ℕ
number_of_opening (Opening n near ni) = n
number_of_opening (HalfOpen j) = 0
number_of_opening (KeptAsResponder j) = 0
number_of_opening (KeptAsInitiator j) = 0

one_number : (peer ni : List ℕ) (n near : ℕ) → Opening 1 5 peer ≡ Opening n near ni → n ≡ 1
unfolding number_of_opening
one_number peer ni n near e = sym (ap number_of_opening e)

pub holds : (b : Bool) (x : Held) → b ≡ true → cond b (Some x) None ≡ Some x
holds true x e = refl
holds false x e = absurd (cc)

pub no_thing : (x : Held) → None ≡ Some x → ⊥
no_thing x e = cc

-- a moment that comes too early
pub young : (begun now start span : ℕ) → start ≡ begun → start + span ≤ now → now + 1 ≡ begun + span → ⊥
young begun now start span e over edge = omega arith

-- ---- what is refused

pub cancels_refused : TheTableRefusesCancels
cancels_refused secrets setup moment c draws peer = record {
  in_open = λ towards candidates h. h.1.0.0.1.by;
  in_receive = λ from datagram h. h.1.0.0.1.by;
  in_tick = λ h. h.1.0.0.1.by;
  in_close = λ id h. h.1.0.0.1.by;
  of_another = λ m differ h.
      let line = h.1.0.0.1 in
      differ (line.by ∙ one_number peer line.ni line.n line.near (held_here peer (Opening 1 5 peer) (Opening line.n line.near line.ni) line.is_held));
  other_id = λ near differ h.
      let ended = h.1.0.0.0 in
      differ (ended.id ∙ sym (ap near_of (held_here peer (Opening 1 5 peer) ended.h ended.thing)));
  other_peer = λ q differ h. let ended = h.1.0.0.0 in isnt_it (bytes_eq peer q) (Opening 1 5 peer) ended.h (other peer q differ) ended.thing;
  of_nothing = λ m near h. let ended = h.0.0.0 in no_thing ended.h ended.thing;
  of_session = λ j m h. let ended = h.1.0.0.0 in subst IsAttempt (sym (held_here j.peer (HalfOpen j) ended.h ended.thing)) ended.ends;
}

pub expiries_refused : TheTableRefusesExpiries
expiries_refused secrets setup c draws peer = record {
  in_open = λ moment towards candidates h. h.1.0.0.1.0;
  in_receive = λ moment from datagram h. h.1.0.0.1.0;
  in_cancel = λ moment m h. h.1.0.0.1.0;
  in_close = λ moment id h. h.1.0.0.1.0;
  early = λ h. let late = h.1.0.0.1.1 in young 0 94999 late.start 95000 (was_once late.start _ 0 _ _ _ _ late.started) late.over (omega arith);
  early_later = λ h. let late = h.1.0.0.1.1 in young 7 95006 late.start 95000 (was_once late.start _ 7 _ _ _ _ late.started) late.over (omega arith);
  other_id = λ moment near differ h.
      let ended = h.1.0.0.0 in
      differ (ended.id ∙ sym (ap near_of (held_here peer (Opening 1 5 peer) ended.h ended.thing)));
  of_nothing = λ moment near h. let ended = h.0.0.0 in no_thing ended.h ended.thing;
  of_session = λ moment j h. let ended = h.1.0.0.0 in subst IsAttempt (sym (held_here j.peer (HalfOpen j) ended.h ended.thing)) ended.ends;
  in_time = (
    tt,
    record {
      n = 1;
      ni = peer;
      is_held = holds (bytes_eq peer peer) (Opening 1 5 peer) (same peer peer refl);
      start = 0;
      started = inl refl;
      over = omega arith;
    },
  );
}

pub ways_refused : TheTableRefusesWays
ways_refused secrets setup moment c d peer j = record {
  alone = λ h. h.1.0.0.1;
  in_next_event = λ e b h. h.1.0.0.1;
  after_discard = λ at cause b h. h.1.0.0.1;
  after_out = λ to sent context b h. h.1.0.0.1;
  of_another = λ b differ h. differ h.1.0.0.1;
  prevailing = λ b no h. no h.1.0.0.0.ends.1;
  of_session = λ b h. let ended = h.1.0.0.0 in subst IsAttempt (sym (held_here j.peer (HalfOpen j) ended.h ended.thing)) ended.ends.0;
  of_attempt = λ b h. let ended = h.1.0.0.0 in subst IsSession (sym (held_here peer (Opening 1 5 peer) ended.h ended.thing)) ended.ends;
  override_alone = λ h. h.1.0.0.1;
  override_in_next_event = λ e b h. h.1.0.0.1;
  override_after_discard = λ at cause b h. h.1.0.0.1;
  override_after_out = λ to sent context b h. h.1.0.0.1;
  override_of_another = λ b differ h. differ h.1.0.0.1;
}
