-- A kept session is ended for the cause Override only after its peer has ended it.
use Rattle.std.proofs.Common.{ℕ, List, ◌∷◌, ◌≡◌, ◌≤◌, inl, inr, length, refl, sym, ap, subst, arith, Some, ◌∙◌}
use Rattle.std.proofs.lemmas.Bool.{cases_order}
use Rattle.glare_core.specs.declared.facts.Why.TheVariants.{Override}
use Rattle.glare_core.specs.declared.facts.Fact.TheVariants.{Started, Born, Opened, Confirmed, Ended}
use Rattle.glare_core.specs.declared.facts.Held.TheVariants.{Opening, HalfOpen, KeptAsInitiator}
use Rattle.glare_core.specs.declared.facts.Joined.{Joined}
use Rattle.glare_core.specs.Steps.{Told, Did, Step, view, step, holding, floor, started, IsTail, Happened}
use Rattle.glare_core.specs.Tells.{Keying, Values}
use Rattle.glare_core.specs.Agreed.{AreOne, PeerEnded, OverrideIsLate}
use Rattle.glare_core.proofs.Tails.{same_end, from_view, tail_of_step, tail_order, earlier_step, same_step, lift, AreOneFact, one_fact}
use Rattle.glare_core.proofs.Views.{view_same, floor_at, started_at, started_tail}
use Rattle.glare_core.proofs.Sound.{IsSound, FactSound, KeyingHeard, fits_at, sound_at}
use Rattle.glare_core.proofs.Standings.{opened_made, LastIs, ConfirmedLast, opening_is, half_open_is, kept_i_is, kept_r_is}
use Rattle.glare_core.proofs.Causes.{Stated, keying_sent, lift_stated, opened_born, confirmed_opened}
use Rattle.glare_core.proofs.Births.{births_once}
use Rattle.glare_core.proofs.Since.{HasSession, session_since, no_free}

heard_started : (x y : List ℕ) (before : List Step) → IsSound before → (h : KeyingHeard x (view x before) y) → Stated y (Started x h.n h.near_i h.ni) before
heard_started x y before sound h =
    let k = Keying y x h.n h.ni h.near_i h.generation in
    let told = from_view x (Told k) before h.told in
    lift_stated y (Started x h.n h.near_i h.ni) (step x (Told k)) told.before before told.at
    (keying_sent y x h.n h.ni h.near_i h.generation told.before (sound_at x (Told k) told.before before sound told.at) (fits_at x (Told k) told.before before sound told.at))

held_after_born : (y x : List ℕ) (t : Joined) (g : ℕ) (early : List Step) → t.peer ≡ x → holding y x (step y (Did (Born t) g) ∷ early) ≡ Some (HalfOpen t)
held_after_born y x t g early e = elim (same_end t.peer x) [ inl d ↦ rw (view_same y (Did (Born t) g) early, d.1) refl | inr d ↦ absurd (d.0 e) ]

held_after_opened : (y x : List ℕ) (t : Joined) (g : ℕ) (early : List Step) → FactSound y early (Opened t) g → t.peer ≡ x → holding y x (step y (Did (Opened t) g) ∷ early) ≡ Some (KeptAsInitiator t)
held_after_opened y x t g early sound e =
    elim (same_end t.peer x) [ inl d ↦ rw (view_same y (Did (Opened t) g) early, d.1) (opened_made y x t g early sound e) | inr d ↦ absurd (d.0 e) ]

-- A session that began before a later Started towards the same peer was ended before it.
ended_before : (x y : List ℕ) (s t : Joined) (n near : ℕ) (ni : List ℕ) (g : ℕ) (from d before : List Step) → IsSound before →
    Happened y (Did (Started x n near ni) g) d before → IsTail from d → HasSession y x t from → AreOne s t → PeerEnded before x y s
ended_before x y s t n near ni g from d before sound at tail has one =
    let sound_d = sound_at y (Did (Started x n near ni) g) d before sound at in
    elim (session_since y x t from d sound_d tail has) [
      | inl h ↦ absurd (no_free y x t d (fits_at y (Did (Started x n near ni) g) d before sound at).fits.stands.free h)
      | inr e ↦
          record {
            near = e.near;
            why = e.why;
            g = e.g;
            t = t;
            early = e.early;
            ended = lift (step y (Did (Ended x e.near e.why) e.g)) (step y (Did (Started x n near ni) g)) e.early d before e.ended at;
            session = e.session;
            one = one;
          }
    ]

late_for_initiator : (x y : List ℕ) (s : Joined) (before : List Step) → IsSound before → (h : KeyingHeard x (view x before) y) → s.peer ≡ y → LastIs x y (Opened s) before → PeerEnded before x y s
late_for_initiator x y s before sound h ep last =
    let u = heard_started x y before sound h in
    let u_fits = (fits_at y (Did (Started x h.n h.near_i h.ni) u.g) u.before before sound u.at).fits in
    let b = opened_born x s last.g last.before before sound last.at in
    let born : Happened y (Did (Born b.t) last.g) b.early before =
    subst (λ q. Happened q (Did (Born b.t) last.g) b.early before) ep (lift (step s.peer (Did (Born b.t) last.g)) (step x (Did (Opened s) last.g)) b.early last.before before b.born last.at) in
    let b_fits = (fits_at y (Did (Born b.t) last.g) b.early before sound born).fits in
    let floor_k : s.k ≤ floor x y before = floor_at x y (Opened s) last.g last.before before last.at ep in
    elim (cases_order (length b.early) (length u.before)) [
      | inl e ↦
          let f = (one_fact y (Born b.t) last.g b.early y (Started x h.n h.near_i h.ni) u.g u.before (same_step (step y (Did (Born b.t) last.g)) (step y (Did (Started x h.n h.near_i h.ni) u.g)) b.early u.before before born u.at e)).fact_is in
          absurd (cc)
      | inr (inl lt) ↦
          ended_before x y s b.t h.n h.near_i h.ni u.g (step y (Did (Born b.t) last.g) ∷ b.early) u.before before sound u.at
          (earlier_step (step y (Did (Born b.t) last.g)) (step y (Did (Started x h.n h.near_i h.ni) u.g)) b.early u.before before born u.at lt)
          (inl (held_after_born y x b.t last.g b.early b.peer))
          (record { ni = sym b.ni; nr = sym b.nr; near = sym b.far; far = sym b.near })
      | inr (inr gt) ↦
          let u_in = earlier_step (step y (Did (Started x h.n h.near_i h.ni) u.g)) (step y (Did (Born b.t) last.g)) u.before b.early before u.at born gt in
          absurd (omega (arith, h.above, floor_k, b.k, b_fits.stands.counted, u_fits.stands.next, started_at y (Started x h.n h.near_i h.ni) u.g u.before b.early u_in))
    ]

late_for_responder : (x y : List ℕ) (s : Joined) (before : List Step) → IsSound before → (h : KeyingHeard x (view x before) y) → ConfirmedLast x y s before → PeerEnded before x y s
late_for_responder x y s before sound h c =
    let u = heard_started x y before sound h in
    let u_step = step y (Did (Started x h.n h.near_i h.ni) u.g) in
    let u_fits = (fits_at y (Did (Started x h.n h.near_i h.ni) u.g) u.before before sound u.at).fits in
    let c_step = step x (Did (Confirmed y c.near) c.last.g) in
    let sound_c = sound_at x (Did (Confirmed y c.near) c.last.g) c.last.before before sound c.last.at in
    let o = confirmed_opened x y c.near c.last.g c.last.before before s sound c.last.at c.half in
    let o_step = step y (Did (Opened o.s) o.g) in
    let o_at = lift o_step c_step o.early c.last.before before o.opened c.last.at in
    let o_peer : o.s.peer ≡ x = sym (ap (λ (v : Values). v.responder) o.values) in
    let sound_o = sound_at y (Did (Opened o.s) o.g) o.early before sound o_at in
    let o_fits = (fits_at y (Did (Opened o.s) o.g) o.early before sound o_at).fits in
    let start = opening_is y x o.early sound_o o.s.n o.s.near o.s.ni (subst (λ q. holding y q o.early ≡ Some (Opening o.s.n o.s.near o.s.ni)) o_peer o_fits.stands) in
    let start_fits = (fits_at y (Did (Started x o.s.n o.s.near o.s.ni) start.g) start.before o.early sound_o start.at).fits in
    let half = half_open_is x y c.last.before sound_c s c.half in
    let born_at = lift (step x (Did (Born s) half.1.g)) c_step half.1.before c.last.before before half.1.at c.last.at in
    let floor_n : s.n ≤ floor x y before = floor_at x y (Born s) half.1.g half.1.before before born_at half.0 in
    let b = opened_born y o.s o.g o.early before sound o_at in
    let b_at = lift (step o.s.peer (Did (Born b.t) o.g)) o_step b.early o.early before b.born o_at in
    let eni : o.s.ni ≡ s.ni = sym (ap (λ (v : Values). v.ni) o.values) in
    let same : AreOneFact o.s.peer (Born b.t) o.g b.early x (Born s) half.1.g half.1.before = births_once o.s.peer b.t o.g b.early x s half.1.g half.1.before before sound b_at born_at (b.ni ∙ eni) in
    let en : s.n ≡ o.s.n = number_of b.t s o.s.n same.fact_is b.n in
    elim (cases_order (length o.early) (length u.before)) [
      | inl e ↦
          let f = (one_fact y (Opened o.s) o.g o.early y (Started x h.n h.near_i h.ni) u.g u.before (same_step o_step u_step o.early u.before before o_at u.at e)).fact_is in
          absurd (cc)
      | inr (inl lt) ↦
          ended_before x y s o.s h.n h.near_i h.ni u.g (o_step ∷ o.early) u.before before sound u.at
          (earlier_step o_step u_step o.early u.before before o_at u.at lt)
          (inr (inl (held_after_opened y x o.s o.g o.early (fits_at y (Did (Opened o.s) o.g) o.early before sound o_at) o_peer)))
          (record { ni = sym eni; nr = ap (λ (v : Values). v.nr) o.values; near = ap (λ (v : Values). v.near_r) o.values; far = ap (λ (v : Values). v.near_i) o.values })
      | inr (inr gt) ↦
          let u_in = earlier_step u_step o_step u.before o.early before u.at o_at gt in
          let late = start.quiet (Started x h.n h.near_i h.ni) u.g u.before u_in refl in
          let counted : started y u.before ≤ started y start.before =
          started_tail y u.before start.before (tail_order u.before start.before o.early (tail_of_step u_step u.before o.early u_in) (tail_of_step (step y (Did (Started x o.s.n o.s.near o.s.ni) start.g)) start.before o.early start.at) late) in
          absurd (omega (arith, h.above, floor_n, en, u_fits.stands.next, start_fits.stands.next, counted))
    ]
  where
    number_of : (t s : Joined) (n : ℕ) → Born t ≡ Born s → t.n ≡ n → s.n ≡ n
    number_of t s n e en = let f : t ≡ s = cc in rw (← f) en

pub override_is_late : (now : List Step) → IsSound now → OverrideIsLate now
override_is_late now sound x y near g s before at (inl e) =
    let sound_b = sound_at x (Did (Ended y near Override) g) before now sound at in
    let h = (fits_at x (Did (Ended y near Override) g) before now sound at).called refl in
    let k = kept_i_is x y before sound_b s e in
    late_for_initiator x y s before sound_b h k.0 k.1
override_is_late now sound x y near g s before at (inr e) =
    let sound_b = sound_at x (Did (Ended y near Override) g) before now sound at in
    let h = (fits_at x (Did (Ended y near Override) g) before now sound at).called refl in
    late_for_responder x y s before sound_b h (kept_r_is x y before sound_b s e)
