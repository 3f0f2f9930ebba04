-- Histories that not_one agreed.
use Rattle.std.proofs.Common.{ℕ, List, [], ◌∷◌, ◌≡◌, ◌≢◌, ◌⊎◌, inl, inr, refl, sym, ap, ◌∙◌, Some, true, false}
use Rattle.std.specs.Prelude.{Bool}
use Rattle.std.specs.Str.{bytes_eq}
use Rattle.glare_core.specs.declared.facts.Why.{Why}
use Rattle.glare_core.specs.declared.facts.Why.TheVariants.{Glare, Override, Near}
use Rattle.glare_core.specs.declared.facts.Fact.{Fact}
use Rattle.glare_core.specs.declared.facts.Fact.TheVariants.{Started, Born, Opened, Confirmed, Ended}
use Rattle.glare_core.specs.declared.facts.Held.TheVariants.{Opening, KeptAsResponder, KeptAsInitiator}
use Rattle.glare_core.specs.declared.facts.Joined.{Joined}
use Rattle.glare_core.specs.Tells.{Values}
use Rattle.glare_core.specs.Steps.{Item, Did, Step, step, holding, Happened}
use Rattle.glare_core.specs.Agreed.{AreOne, Attempt, AreCrossed}
use Rattle.endpoint_model.specs.declared.entry.Entry.TheVariants.{Fact as FactEntry}
use Rattle.endpoint_model.specs.Event.{Setup, own_of, Call, Cancel, Receive, moment_at}
use Rattle.endpoint_laws.specs.Past.{last_moment, past_of_log, with_begun}
use Rattle.endpoint_laws.specs.History.{History, log_of, past_at}
use Rattle.endpoint_laws.specs.Contexts.{OpensInStartup}
use Rattle.endpoint_laws.specs.Contexts.{Secrets}
use Rattle.endpoint_laws.specs.Agreed.{IsNumberOf, AreStated, AreAgreed}
use Rattle.endpoint_checks.specs.Logs.{doing, says}
use Rattle.endpoint_checks.specs.Histories.{Sent, OpensAtBoth, did, starts, bears, opens, confirms, took, HistoriesRefuseDisagreed}
use Rattle.endpoint_checks.proofs.Logs.{same, other}

-- ---- what a step is

born_item : Joined → Item → Joined
born_item j (Did (Born b) g) = b
born_item j item = j

is_birth_item : Item → Bool
is_birth_item (Did (Born b) g) = true
is_birth_item item = false

is_end_item : Item → Bool
is_end_item (Did (Ended peer near why) g) = true
is_end_item item = false

is_birth : List Step → Bool
is_birth [] = false
is_birth (s ∷ earlier) = is_birth_item s.item

is_end : List Step → Bool
is_end [] = false
is_end (s ∷ earlier) = is_end_item s.item

born_first : Joined → List Step → Joined
born_first j [] = j
born_first j (s ∷ earlier) = born_item j s.item

clash : true ≡ false → ⊥
clash e = cc

-- where no step is a birth, or an end, none happened
NoBirths : List Step → Type 0
NoBirths [] = Unit {0}
NoBirths (s ∷ earlier) = (is_birth_item s.item ≡ false) × NoBirths earlier

NoEnds : List Step → Type 0
NoEnds [] = Unit {0}
NoEnds (s ∷ earlier) = (is_end_item s.item ≡ false) × NoEnds earlier

no_birth : (who : List ℕ) (b : Joined) (g : ℕ) (early now : List Step) → NoBirths now → Happened who (Did (Born b) g) early now → ⊥
unfolding NoBirths is_birth is_birth_item
no_birth who b g early [] none h = clash (ap is_birth h)
no_birth who b g early (s ∷ earlier) none (inl e) = clash (ap is_birth e ∙ none.0)
no_birth who b g early (s ∷ earlier) none (inr h) = no_birth who b g early earlier none.1 h

no_end : (who peer : List ℕ) (near : ℕ) (why : Why) (g : ℕ) (early now : List Step) → NoEnds now → Happened who (Did (Ended peer near why) g) early now → ⊥
unfolding NoEnds is_end is_end_item
no_end who peer near why g early [] none h = clash (ap is_end h)
no_end who peer near why g early (s ∷ earlier) none (inl e) = clash (ap is_end e ∙ none.0)
no_end who peer near why g early (s ∷ earlier) none (inr h) = no_end who peer near why g early earlier none.1 h

-- where the last step is the only birth, it is that which happened
one_birth : (who x : List ℕ) (b t : Joined) (g h : ℕ) (early earlier : List Step) → NoBirths earlier → Happened who (Did (Born b) g) early (step x (Did (Born t) h) ∷ earlier) → b ≡ t
unfolding born_first born_item
one_birth who x b t g h early earlier none (inl e) = ap (born_first b) e
one_birth who x b t g h early earlier none (inr later) = absurd (no_birth who b g early earlier none later)

-- ---- two ends

-- a call that states one fact, after others
stated_more : (secrets : Secrets) (ends : ℕ → Setup) (who moment : ℕ) (call : Call) (fact : Fact) (earlier : History) (before : List Step) (g : ℕ) → AreStated secrets ends earlier before →
    IsNumberOf secrets (ends who) (with_begun (moment_at (last_moment 0 (log_of who earlier)) (doing moment call (says fact))) (doing moment call (says fact)) (past_of_log (log_of who earlier))) fact g →
    AreStated secrets ends (record { who = who; event = doing moment call (says fact) } ∷ earlier) (step (own_of (ends who)) (Did fact g) ∷ before)
stated_more secrets ends who moment call fact earlier before g stated number = (before, stated, (step (own_of (ends who)) (Did fact g) ∷ before, (g, number, refl), refl))

module _ (ends : ℕ → Setup) (s t : Joined) (g h : ℕ) (differ : own_of (ends 0) ≢ own_of (ends 1)) (ps : s.peer ≡ own_of (ends 1)) (pt : t.peer ≡ own_of (ends 0)) where
  abbrev x : List ℕ
  x = own_of (ends 0)

  abbrev y : List ℕ
  y = own_of (ends 1)

  abbrev start : Step
  start = step x (Did (Started s.peer s.n s.near s.ni) 0)

  abbrev start_back : Step
  start_back = step y (Did (Started t.peer t.n t.near t.ni) 0)

  abbrev birth : Step
  birth = step y (Did (Born t) h)

  abbrev opening : Step
  opening = step x (Did (Opened s) g)

  abbrev confirm : Step
  confirm = step y (Did (Confirmed t.peer t.near) 0)

  xx : bytes_eq x x ≡ true
  xx = same x x refl

  yy : bytes_eq y y ≡ true
  yy = same y y refl

  xy : bytes_eq x y ≡ false
  xy = other x y differ

  yx : bytes_eq y x ≡ false
  yx = other y x (λ e. differ (sym e))

  sy : bytes_eq s.peer y ≡ true
  sy = same s.peer y ps

  tx : bytes_eq t.peer x ≡ true
  tx = same t.peer x pt

  x_keeps : holding x y (confirm ∷ opening ∷ birth ∷ start ∷ []) ≡ Some (KeptAsInitiator s)
  x_keeps = simp (yx, xx, sy) refl

  y_keeps : holding y x (confirm ∷ opening ∷ birth ∷ start ∷ []) ≡ Some (KeptAsResponder t)
  y_keeps = simp (xy, yy, tx) refl

  x_tries : holding x y (start_back ∷ start ∷ []) ≡ Some (Opening s.n s.near s.ni)
  x_tries = simp (yx, xx, sy) refl

  y_tries : holding y x (start_back ∷ start ∷ []) ≡ Some (Opening t.n t.near t.ni)
  y_tries = simp (xy, yy, tx) refl

  x_kept : holding x s.peer (opening ∷ start ∷ []) ≡ Some (KeptAsInitiator s)
  x_kept = let ss = same s.peer s.peer refl in simp (xx, ss) refl

  abbrev attempt : Attempt
  attempt = record { n = s.n; near = s.near; ni = s.ni }

  abbrev back : Attempt
  back = record { n = t.n; near = t.near; ni = t.ni }

  no_births_yet : NoBirths (start_back ∷ start ∷ [])
  unfolding NoBirths is_birth_item
  no_births_yet = (refl, (refl, tt))

  none_born : NoBirths (start ∷ [])
  unfolding NoBirths is_birth_item
  none_born = (refl, tt)

  no_ends_yet : NoEnds (start_back ∷ start ∷ [])
  unfolding NoEnds is_end_item
  no_ends_yet = (refl, (refl, tt))

  none_ended : NoEnds (opening ∷ start ∷ [])
  unfolding NoEnds is_end_item
  none_ended = (refl, (refl, tt))

  crossing : AreCrossed x y attempt back (start_back ∷ start ∷ [])
  crossing = record {
    attempts_x = x_tries;
    attempts_y = y_tries;
    not_born_y = λ b k early there _ _ _. no_birth y b k early (start_back ∷ start ∷ []) no_births_yet there;
    not_born_x = λ b k early there _ _ _. no_birth x b k early (start_back ∷ start ∷ []) no_births_yet there;
  }

  one_kept : (secrets : Secrets) (history : History) → AreAgreed secrets ends history (confirm ∷ opening ∷ birth ∷ start ∷ []) → AreOne s t
  one_kept secrets history a = a.same x y s t (inl x_keeps) (inr y_keeps)

  not_one : AreOne s t → (s.ni ≢ t.ni) ⊎ ((s.nr ≢ t.nr) ⊎ ((s.near ≢ t.far) ⊎ (s.far ≢ t.near))) → ⊥
  not_one one (inl d) = d one.ni
  not_one one (inr (inl d)) = d one.nr
  not_one one (inr (inr (inl d))) = d one.near
  not_one one (inr (inr (inr d))) = d one.far

  -- ---- the facts of the histories, in their order

  first : (secrets : Secrets) → AreStated secrets ends (starts 0 s ∷ []) (start ∷ [])
  first secrets = stated_more secrets ends 0 0 (Cancel 0) (Started s.peer s.n s.near s.ni) [] [] 0 refl refl

  second : (secrets : Secrets) (m : Sent) → OpensAtBoth secrets ends s t m g h → AreStated secrets ends (bears m 1 t ∷ starts 0 s ∷ []) (birth ∷ start ∷ [])
  second secrets m both = stated_more secrets ends 1 0 (Receive m.from m.keying m.draws) (Born t) (starts 0 s ∷ []) (start ∷ []) h (first secrets) both.keying

  third : (secrets : Secrets) (m : Sent) → OpensAtBoth secrets ends s t m g h → AreStated secrets ends (opens m 0 s ∷ bears m 1 t ∷ starts 0 s ∷ []) (opening ∷ birth ∷ start ∷ [])
  third secrets m both = stated_more secrets ends 0 0 (Receive m.from m.answer m.draws) (Opened s) (bears m 1 t ∷ starts 0 s ∷ []) (birth ∷ start ∷ []) g (second secrets m both) both.answer

  fourth : (secrets : Secrets) (m : Sent) → OpensAtBoth secrets ends s t m g h → AreStated secrets ends (confirms 1 t ∷ opens m 0 s ∷ bears m 1 t ∷ starts 0 s ∷ []) (confirm ∷ opening ∷ birth ∷ start ∷ [])
  fourth secrets m both = stated_more secrets ends 1 0 (Cancel 0) (Confirmed t.peer t.near) (opens m 0 s ∷ bears m 1 t ∷ starts 0 s ∷ []) (opening ∷ birth ∷ start ∷ []) 0 (third secrets m both) refl

  at_once : (secrets : Secrets) (m : Sent) → OpensAtBoth secrets ends s t m g h → AreStated secrets ends (opens m 0 s ∷ starts 0 s ∷ []) (opening ∷ start ∷ [])
  at_once secrets m both = stated_more secrets ends 0 0 (Receive m.from m.answer m.draws) (Opened s) (starts 0 s ∷ []) (start ∷ []) g (first secrets) both.answer

  two : (secrets : Secrets) → AreStated secrets ends (starts 1 t ∷ starts 0 s ∷ []) (start_back ∷ start ∷ [])
  two secrets = stated_more secrets ends 1 0 (Cancel 0) (Started t.peer t.n t.near t.ni) (starts 0 s ∷ []) (start ∷ []) 0 (first secrets) refl

  two_one : (secrets : Secrets) (m : Sent) → OpensAtBoth secrets ends s t m g h → AreStated secrets ends (opens m 0 s ∷ starts 1 t ∷ starts 0 s ∷ []) (opening ∷ start_back ∷ start ∷ [])
  two_one secrets m both = stated_more secrets ends 0 0 (Receive m.from m.answer m.draws) (Opened s) (starts 1 t ∷ starts 0 s ∷ []) (start_back ∷ start ∷ []) g (two secrets) both.answer

  closed : (secrets : Secrets) (m : Sent) → OpensAtBoth secrets ends s t m g h →
      AreStated secrets ends (did 0 (says (Ended s.peer s.near Near)) ∷ confirms 1 t ∷ opens m 0 s ∷ bears m 1 t ∷ starts 0 s ∷ []) (step x (Did (Ended s.peer s.near Near) 0) ∷ confirm ∷ opening ∷ birth ∷ start ∷ [])
  closed secrets m both =
      stated_more secrets ends 0 0 (Cancel 0) (Ended s.peer s.near Near) (confirms 1 t ∷ opens m 0 s ∷ bears m 1 t ∷ starts 0 s ∷ []) (confirm ∷ opening ∷ birth ∷ start ∷ []) 0 (fourth secrets m both) refl

  born_late : (secrets : Secrets) (m : Sent) → OpensAtBoth secrets ends s t m g h → AreStated secrets ends (bears m 1 t ∷ opens m 0 s ∷ starts 0 s ∷ []) (birth ∷ opening ∷ start ∷ [])
  born_late secrets m both = stated_more secrets ends 1 0 (Receive m.from m.keying m.draws) (Born t) (opens m 0 s ∷ starts 0 s ∷ []) (opening ∷ start ∷ []) h (at_once secrets m both) both.keying

  born_again : (secrets : Secrets) (m : Sent) → OpensAtBoth secrets ends s t m g h → (u : Joined) → OpensInStartup secrets (ends 1) (past_at 1 (bears m 1 t ∷ [])) m.keying h →
      AreStated secrets ends (bears m 1 u ∷ bears m 1 t ∷ starts 0 s ∷ []) (step y (Did (Born u) h) ∷ birth ∷ start ∷ [])
  born_again secrets m both u again = stated_more secrets ends 1 0 (Receive m.from m.keying m.draws) (Born u) (bears m 1 t ∷ starts 0 s ∷ []) (birth ∷ start ∷ []) h (second secrets m both) again

  both_open : (secrets : Secrets) (m : Sent) → OpensAtBoth secrets ends s t m g h → AreStated secrets ends (opens m 1 t ∷ opens m 0 s ∷ starts 1 t ∷ starts 0 s ∷ []) (step y (Did (Opened t) h) ∷ opening ∷ start_back ∷ start ∷ [])
  both_open secrets m both = stated_more secrets ends 1 0 (Receive m.from m.answer m.draws) (Opened t) (opens m 0 s ∷ starts 1 t ∷ starts 0 s ∷ []) (opening ∷ start_back ∷ start ∷ []) h (two_one secrets m both) both.keying_after

  gave_way : (secrets : Secrets) (near : ℕ) → AreStated secrets ends (did 0 (says (Ended s.peer near Glare)) ∷ starts 0 s ∷ []) (step x (Did (Ended s.peer near Glare) 0) ∷ start ∷ [])
  gave_way secrets near = stated_more secrets ends 0 0 (Cancel 0) (Ended s.peer near Glare) (starts 0 s ∷ []) (start ∷ []) 0 (first secrets) refl

  overrode : (secrets : Secrets) (m : Sent) → OpensAtBoth secrets ends s t m g h → (near : ℕ) → AreStated secrets ends (did 0 (says (Ended s.peer near Override)) ∷ opens m 0 s ∷ starts 0 s ∷ []) (step x (Did (Ended s.peer near Override) 0) ∷ opening ∷ start ∷ [])
  overrode secrets m both near = stated_more secrets ends 0 0 (Cancel 0) (Ended s.peer near Override) (opens m 0 s ∷ starts 0 s ∷ []) (opening ∷ start ∷ []) 0 (at_once secrets m both) refl

pub disagreed_refused : HistoriesRefuseDisagreed
disagreed_refused secrets ends s t m g h differ ps pt both = record {
  kept = λ apart a. not_one ends s t g h differ ps pt (one_kept ends s t g h differ ps pt secrets _ (a.moments _ _ (fourth ends s t g h differ ps pt secrets m both) (inl refl))) apart;
  kept_before = λ apart a.
      not_one ends s t g h differ ps pt
      (one_kept ends s t g h differ ps pt secrets _
      (a.moments _ _ (closed ends s t g h differ ps pt secrets m both) (inr (inl refl)))) (inr (inl apart));
  unborn = λ a.
      let one = (a.moments _ _ (at_once ends s t g h differ ps pt secrets m both) (inl refl)).opened (own_of (ends 0)) s g _ (inl refl) in
      no_birth s.peer one.t _ one.early _ (none_born ends s t g h differ ps pt) one.born;
  born_later = λ a.
      let one = (a.moments _ _ (born_late ends s t g h differ ps pt secrets m both) (inl refl)).opened (own_of (ends 0)) s g _ (inr (inl refl)) in
      no_birth s.peer one.t _ one.early _ (none_born ends s t g h differ ps pt) one.born;
  other_count = λ apart a.
      let one = (a.moments _ _ (third ends s t g h differ ps pt secrets m both) (inl refl)).opened (own_of (ends 0)) s g _ (inl refl) in
      apart (sym (ap (λ (j : Joined). j.k) (one_birth s.peer (own_of (ends 1)) one.t t _ _ one.early _ (none_born ends s t g h differ ps pt) one.born)) ∙ one.k);
  other_id = λ apart a.
      let one = (a.moments _ _ (third ends s t g h differ ps pt secrets m both) (inl refl)).opened (own_of (ends 0)) s g _ (inl refl) in
      apart (sym (ap (λ (j : Joined). j.near) (one_birth s.peer (own_of (ends 1)) one.t t _ _ one.early _ (none_born ends s t g h differ ps pt) one.born)) ∙ ap (λ (v : Values). v.near_r) one.values);
  other_keys = λ secret to_responder n ni known apart a.
      apart (((a.moments _ _ (third ends s t g h differ ps pt secrets m both) (inl refl)).keys 0 1 s t g h _ _ (inl refl) (inr (inl refl)) (inl refl) (inr (inl refl)) ps n ni).1 secret to_responder known);
  other_generation = λ n ni apart a. apart ((a.moments _ _ (third ends s t g h differ ps pt secrets m both) (inl refl)).keys 0 1 s t g h _ _ (inl refl) (inr (inl refl)) (inl refl) (inr (inl refl)) ps n ni).0;
  twice = λ u n ni peer un uni apart again a.
      apart ((a.moments _ _ (born_again ends s t g h differ ps pt secrets m both u again) (inl refl)).started (own_of (ends 0)) s.peer s.n s.near s.ni 0 [] (inr (inr (inl refl))) (own_of (ends 1)) (own_of (ends 1)) t u h h _ _ (inr (inl refl)) pt n ni (inl refl) (peer ∙ pt) un uni).1;
  twice_at_once = λ u n ni peer un uni apart a.
      let after : List Step = birth ends s t g h differ ps pt ∷ start ends s t g h differ ps pt ∷ [] in
      let more : List Step = step (own_of (ends 1)) (Did (Born u) h) ∷ after in
      let stated : AreStated secrets ends (took 1 m.from m.keying m.draws (FactEntry (Born t) ∷ FactEntry (Born u) ∷ []) ∷ starts 0 s ∷ []) more =
      (start ends s t g h differ ps pt ∷ [], first ends s t g h differ ps pt secrets, (after, (h, both.keying, refl), (more, (h, both.keying, refl), refl))) in
      apart ((a.moments _ _ stated (inl refl)).started (own_of (ends 0)) s.peer s.n s.near s.ni 0 [] (inr (inr (inl refl))) (own_of (ends 1)) (own_of (ends 1)) t u h h _ _ (inr (inl refl)) pt n ni (inl refl) (peer ∙ pt) un uni).1;
  crossed = λ a.
      let over = (a.moments _ _ (two_one ends s t g h differ ps pt secrets m both) (inl refl)).over (own_of (ends 0)) (own_of (ends 1)) (attempt ends s t g h differ ps pt) (back ends s t g h differ ps pt) _ _ (inr (inl refl)) (crossing ends s t g h differ ps pt) (s, g, inl refl, ps, refl) in
      no_end (own_of (ends 1)) (own_of (ends 0)) over.0 over.1 over.2 over.3 _ (no_ends_yet ends s t g h differ ps pt) over.4;
  both = λ a.
      (a.moments _ _ (both_open ends s t g h differ ps pt secrets m both) (inl refl)).one (own_of (ends 0)) (own_of (ends 1)) (attempt ends s t g h differ ps pt) (back ends s t g h differ ps pt) _ _ _ (inr (inr (inl refl))) (crossing ends s t g h differ ps pt) (s, g, inr (inl refl), ps, refl) (t, h, inl refl, pt, refl);
  spared = λ near above a.
      (a.moments _ _ (gave_way ends s t g h differ ps pt secrets near) (inl refl)).spared (own_of (ends 0)) s.peer near 0 _ (inl refl) above;
  overridden = λ near a.
      let ended = (a.moments _ _ (overrode ends s t g h differ ps pt secrets m both near) (inl refl)).late (own_of (ends 0)) s.peer near 0 s _ (inl refl) (inl (x_kept ends s t g h differ ps pt)) in
      no_end s.peer (own_of (ends 0)) ended.near ended.why ended.g ended.early _ (none_ended ends s t g h differ ps pt) ended.ended;
}
