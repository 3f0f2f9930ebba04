-- Flow by flow what was sent too long ago is lost.
use Prim.Native.Nat.{zero, suc}
use Rattle.std.proofs.Common.{◌≡◌, ℕ, ◌+◌, ◌≤◌, ◌||◌, Bool, true, false, map, List, [], ◌∷◌, ◌++◌, Some, Option, length, length-set, take, drop, refl, sym, ap, ◌∙◌, subst, arith, append_assoc, append-nil}
use Rattle.std.specs.Prelude.{slice_get, slice_set}
use Rattle.std.specs.List.{list_any}
use Rattle.std.proofs.lemmas.List.{drop_all, take_all}
use Rattle.flow_send.specs.Rows.{Row}
use Rattle.flow_send.specs.Flow.{Flow, with_sender}
use Rattle.flow_send.proofs.Losing.{none_map}
use Rattle.session_flows.specs.declared.kept.Kept.{Kept}
use Rattle.session_flows.specs.Packing.{flight_of}
use Rattle.session_flows.specs.Timing.{has_late, losing}
use Rattle.session_flows.specs.Laws.{AreNumbered}
use Rattle.session_flows.specs.Bound.{AreMild}
use Rattle.session_flows.specs.Kept.{IsKept, IsChanged}
use Rattle.session_flows.proofs.Sounds.{numbered_set}
use Rattle.session_flows.proofs.Packs.{set_back}
use Rattle.session_flows.proofs.Kin.{kin}
use Rattle.session_flows.proofs.Settled.{kept_set}

-- So many flows at the front were looked at, and one of these, or none, had a loss.
pub record IsLosing (moment resend : ℕ) (any : Bool) (at : ℕ) (now old : List Flow) (k : Kept) : Type 0 where
  pub late : (any || list_any (has_late moment resend) (drop at now)) ≡ list_any (has_late moment resend) old
  pub after : take at now ++ map (losing moment resend) (drop at now) ≡ map (losing moment resend) old
  pub numbered : AreNumbered 0 now
  pub few : length now ≤ 256
  pub kept : IsKept now k

-- ---- lists

some_same : {x y : Flow} → ◌≡◌ {A = Option Flow} (Some x) (Some y) → x ≡ y
some_same e = cc

drop_none : (fs : List Flow) → drop 0 fs ≡ fs
drop_none [] = refl
drop_none (x ∷ later) = refl

take_none : (fs : List Flow) → take 0 fs ≡ []
take_none [] = refl
take_none (x ∷ later) = refl

drop_set : (fs : List Flow) (at : ℕ) (g : Flow) → drop (suc at) (slice_set fs at g) ≡ drop (suc at) fs
drop_set [] at g = refl
drop_set (x ∷ later) zero g = refl
drop_set (x ∷ later) (suc at) g = drop_set later at g

drop_at : (fs : List Flow) (at : ℕ) (f : Flow) → slice_get fs at ≡ Some f → drop at fs ≡ f ∷ drop (suc at) fs
drop_at [] at f e = absurd cc
drop_at (x ∷ later) zero f e = ap (λ (y : Flow). y ∷ later) (some_same e) ∙ ap (λ (l : List Flow). f ∷ l) (sym (drop_none later))
drop_at (x ∷ later) (suc at) f e = drop_at later at f e

take_set : (fs : List Flow) (at : ℕ) (f g : Flow) → slice_get fs at ≡ Some f → take (suc at) (slice_set fs at g) ≡ take at fs ++ g ∷ []
take_set [] at f g e = absurd cc
take_set (x ∷ later) zero f g e = ap (λ (l : List Flow). g ∷ l) (take_none later)
take_set (x ∷ later) (suc at) f g e = ap (λ (l : List Flow). x ∷ l) (take_set later at f g e)

-- ---- one flow

module _ (moment resend : ℕ) where
  abbrev late : List Flow → Bool
  late fs = list_any (has_late moment resend) fs

  -- with one flow changed, what is in front and behind it
  after_one : (at : ℕ) (now old : List Flow) (f g : Flow) → slice_get now at ≡ Some f → g ≡ losing moment resend f → take at now ++ map (losing moment resend) (drop at now) ≡ map (losing moment resend) old →
      take (at + 1) (slice_set now at g) ++ map (losing moment resend) (drop (at + 1) (slice_set now at g)) ≡ map (losing moment resend) old
  after_one at now old f g there is h =
      let next : at + 1 ≡ suc at = omega arith in
      let rest : List Flow = map (losing moment resend) (drop (suc at) now) in
      ap (λ n. take n (slice_set now at g) ++ map (losing moment resend) (drop n (slice_set now at g))) next
      ∙ ap (λ (l : List Flow). l ++ map (losing moment resend) (drop (suc at) (slice_set now at g))) (take_set now at f g there)
      ∙ ap (λ (l : List Flow). (take at now ++ g ∷ []) ++ map (losing moment resend) l) (drop_set now at g)
      ∙ append_assoc (take at now) (g ∷ []) rest
      ∙ ap (λ (y : Flow). take at now ++ y ∷ rest) is
      ∙ ap (λ (l : List Flow). take at now ++ map (losing moment resend) l) (sym (drop_at now at f there))
      ∙ h

  late_behind : (at : ℕ) (now : List Flow) (f g : Flow) → slice_get now at ≡ Some f → late (drop at now) ≡ (has_late moment resend f || late (drop (at + 1) (slice_set now at g)))
  late_behind at now f g there =
      let next : suc at ≡ at + 1 = omega arith in
      ap late (drop_at now at f there)
      ∙ ap (λ (l : List Flow). has_late moment resend f || late l) (sym (drop_set now at g))
      ∙ ap (λ n. has_late moment resend f || late (drop n (slice_set now at g))) next

  or_true : (a b : Bool) → (a || (true || b)) ≡ true
  or_true true b = refl
  or_true false b = refl

  pub same_so_far : {any any' : Bool} {at : ℕ} {now now' old : List Flow} {k k' : Kept} → any' ≡ any → now' ≡ now → k' ≡ k → IsLosing moment resend any at now old k → IsLosing moment resend any' at now' old k'
  same_so_far {any = any} {any' = any'} {at = at} {now = now} {now' = now'} {old = old} {k = k} {k' = k'} a n e h =
      subst (λ (b : Bool). IsLosing moment resend b at now' old k') (sym a) (subst (λ (fs : List Flow). IsLosing moment resend any at fs old k') (sym n) (subst (λ (l : Kept). IsLosing moment resend any at now old l) (sym e) h))

  -- what a flow has lost
  pub lost_some : (any : Bool) (at before : ℕ) (now old : List Flow) (k new : Kept) (f g : Flow) → slice_get now at ≡ Some f → g ≡ losing moment resend f → has_late moment resend f ≡ true → before ≡ flight_of f →
      IsChanged k before g new → IsLosing moment resend any at now old k → IsLosing moment resend true (at + 1) (slice_set now at g) old new
  lost_some any at before now old k new f g there is lost was d h = record {
    late = sym (sym h.late ∙ ap (λ (b : Bool). any || b) (late_behind at now f g there ∙ ap (λ (b : Bool). b || late (drop (at + 1) (slice_set now at g))) lost) ∙ or_true any (late (drop (at + 1) (slice_set now at g))));
    after = after_one at now old f g there is h.after;
    numbered = numbered_set 0 at now f g there (ap (λ (y : Flow). y.id) is) h.numbered;
    few = omega (arith, length-set now at g, h.few);
    kept = kept_set now k new at before f g h.numbered h.few h.kept there was (kin {f = f} is) (subst (λ (y : Flow). AreMild k.bound y.sender.waiting) (sym is) (h.kept.within at f there).mild) d;
  }

  none_lost : (f : Flow) → has_late moment resend f ≡ false → losing moment resend f ≡ f
  none_lost f e = ap (λ (rows : List Row). with_sender f (record f.sender { rows = rows })) (none_map moment resend f.sender.rows e)

  pub lost_none : (any : Bool) (at : ℕ) (now old : List Flow) (k : Kept) (f g : Flow) → slice_get now at ≡ Some f → g ≡ losing moment resend f → has_late moment resend f ≡ false →
      IsLosing moment resend any at now old k → IsLosing moment resend any (at + 1) (slice_set now at g) old k
  lost_none any at now old k f g there is none h =
      let same : g ≡ f = is ∙ none_lost f none in
      record {
        late = sym (ap (λ (b : Bool). any || b) (late_behind at now f g there ∙ ap (λ (b : Bool). b || late (drop (at + 1) (slice_set now at g))) none)) ∙ h.late;
        after = after_one at now old f g there is h.after;
        numbered = numbered_set 0 at now f g there (ap (λ (y : Flow). y.id) is) h.numbered;
        few = omega (arith, length-set now at g, h.few);
        kept = subst (λ (fs : List Flow). IsKept fs k) (sym (ap (λ (y : Flow). slice_set now at y) same ∙ set_back now at f there)) h.kept;
      }

  -- ---- all of them

  or_no : (a : Bool) → (a || false) ≡ a
  or_no true = refl
  or_no false = refl

  pub lost_late_all : (any : Bool) (at : ℕ) (now old : List Flow) (k : Kept) → length now ≤ at → IsLosing moment resend any at now old k → any ≡ late old
  lost_late_all any at now old k all h = sym (ap (λ (l : List Flow). any || late l) (drop_all at now all) ∙ or_no any) ∙ h.late

  pub lost_after_all : (any : Bool) (at : ℕ) (now old : List Flow) (k : Kept) → length now ≤ at → IsLosing moment resend any at now old k → now ≡ map (losing moment resend) old
  lost_after_all any at now old k all h =
      sym (ap (λ (l : List Flow). l ++ map (losing moment resend) (drop at now)) (take_all at now all) ∙ ap (λ (l : List Flow). now ++ map (losing moment resend) l) (drop_all at now all) ∙ append-nil now) ∙ h.after
