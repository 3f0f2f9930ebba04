-- What is handed over, event by event.
use Rattle.std.proofs.Common.{◌≡◌, ◌≢◌, ℕ, zero, suc, ◌≤◌, ◌==◌, cond, max, map, Bool, true, false, List, [], ◌∷◌, ◌++◌, length, slice_get, Some, refl, ap, sym, ◌∙◌, subst, arith, inl, inr, append_assoc}
use Rattle.std.specs.List.{filter}
use Rattle.std.specs.Option.{option_to_list}
use Rattle.std.proofs.lemmas.Bool.{cases_eq, eq-eqb}
use Rattle.std.proofs.lemmas.List.{append-nil}
use Rattle.rtmfp_data_chunks.specs.Fragments.{Message}
use Rattle.rtmfp_data_chunks.specs.Runs.{Chunk, Number, Missing, number_of, runs_of, is_whole, message_of, highest, through_of, handed_in_order, has_number}
use Rattle.flow_exchange.proofs.Ends.{open_with, open_at, whole_with, whole_at, wholes_to}
use Rattle.rtmfp_data_chunks.specs.HandsOver.{IsIn, Differ, HandsOver}
use Rattle.flow_exchange.specs.Exchange.{World, start, Event, Queued, Abandoned, Finished, Sent, Taken, Told, Heard, Handed, after, May, IsRun, run}
use Rattle.flow_exchange.proofs.Runs.{whole_is}
use Rattle.flow_exchange.proofs.Wholes.{in_either, from_wholes, hands_over}
use Rattle.flow_exchange.proofs.Longest.{wholes_are}
use Rattle.flow_exchange.proofs.Ready.{through_low, through_none, through_greatest, zero_known, handed_is}
use Rattle.flow_exchange.proofs.Kept.{Kept, kept_start, kept_step, stays, still_known, gone_is_abandoned}

abbrev pub Begins : {A : Type 0} → List A → List A → Type 0
Begins {A} xs ys = (rest : List A) × (xs ++ rest ≡ ys)

pub begins_trans : {A : Type 0} (xs ys zs : List A) → Begins xs ys → Begins ys zs → Begins xs zs
begins_trans xs ys zs p q = (p.0 ++ q.0, sym (append_assoc xs p.0 q.0) ∙ (ap (λ w. w ++ q.0) p.1 ∙ q.1))

pub begins_self : {A : Type 0} (xs : List A) → Begins xs xs
begins_self xs = ([], append-nil xs)

pub begins_push : {A : Type 0} (xs ys : List A) (m : A) → Begins xs ys → slice_get ys (length xs) ≡ Some m → Begins (xs ++ m ∷ []) ys
begins_push [] [] m p e = absurd cc
begins_push [] (y ∷ ys) m p e = (ys, let f : y ≡ m = cc in ap (λ x. x ∷ ys) (sym f))
begins_push (x ∷ xs) [] m p e = absurd (cc (p.1))
begins_push (x ∷ xs) (y ∷ ys) m p e =
    let heads : x ≡ y = cc (p.1) in
    let r = begins_push xs ys m (p.0, cc (p.1)) e in
    (r.0, cc (heads, r.1))

-- the same numbers hold the same runs
open_same : (s r : ℕ → Number) (t : ℕ) → ((n : ℕ) → n ≤ t → r n ≡ s n) → open_at r t ≡ open_at s t
unfolding open_at
open_same s r zero e = refl
open_same s r (suc t) e =
    ap (λ x. open_with x (suc t) (open_at r t)) (e (suc t) (omega arith)) ∙ ap (λ x. open_with (s (suc t)) (suc t) x) (open_same s r t (λ n le. e n (omega arith)))

whole_same : (s r : ℕ → Number) (t : ℕ) → ((n : ℕ) → n ≤ t → r n ≡ s n) → whole_at r t ≡ whole_at s t
unfolding whole_at
whole_same s r zero e = refl
whole_same s r (suc t) e =
    ap (λ x. whole_with x (suc t) (open_at r t)) (e (suc t) (omega arith)) ∙ ap (λ x. whole_with (s (suc t)) (suc t) x) (open_same s r t (λ n le. e n (omega arith)))

pub wholes_same : (s r : ℕ → Number) (t : ℕ) → ((n : ℕ) → n ≤ t → r n ≡ s n) → wholes_to r t ≡ wholes_to s t
unfolding wholes_to
wholes_same s r zero e = refl
wholes_same s r (suc t) e =
    ap (λ x. x ++ option_to_list (whole_at r (suc t))) (wholes_same s r t (λ n le. e n (omega arith)))
    ∙ ap (λ x. wholes_to s t ++ option_to_list x) (whole_same s r (suc t) e)

pub wholes_begin : (s : ℕ → Number) (t u : ℕ) → t ≤ u → Begins (wholes_to s t) (wholes_to s u)
unfolding wholes_to
wholes_begin s t zero le = let e : t ≡ 0 = omega arith in subst (λ (x : ℕ). Begins (wholes_to s x) (wholes_to s zero)) (sym e) (begins_self (wholes_to s zero))
wholes_begin s t (suc u) le = elim (cases_eq t (suc u)) [
  | inl e ↦ subst (λ (x : ℕ). Begins (wholes_to s x) (wholes_to s (suc u))) (sym e) (begins_self (wholes_to s (suc u)))
  | inr ne ↦ begins_trans (wholes_to s t) (wholes_to s u) (wholes_to s (suc u)) (wholes_begin s t u (omega (arith, ne))) (option_to_list (whole_at s (suc u)), refl)
]

-- one chunk more: what was to be handed over still is, and more may follow
pub handed_grows : (c : Chunk) (earlier : List Chunk) → Begins (handed_in_order earlier) (handed_in_order (c ∷ earlier))
handed_grows c earlier =
    let s = number_of earlier in
    let r = number_of (c ∷ earlier) in
    let t = through_of earlier in
    let known : (n : ℕ) → n ≤ t → s n ≢ Missing = λ n le. through_none s (highest earlier) n (zero_known earlier) le in
    let low : t ≤ highest earlier = through_low s (highest earlier) in
    let top : t ≤ max c.seq (highest earlier) = omega (arith, low) in
    let least : t ≤ through_of (c ∷ earlier) = through_greatest r (max c.seq (highest earlier)) t top (λ k l. still_known c earlier k (known k l)) in
    let same : wholes_to r t ≡ wholes_to s t = wholes_same s r t (λ n le. stays c earlier n (known n le)) in
    let begins = subst (λ (xs : List Message). Begins xs (wholes_to r (through_of (c ∷ earlier)))) same (wholes_begin r t (through_of (c ∷ earlier)) least) in
    (begins.0, ap (λ xs. xs ++ begins.0) (handed_is earlier) ∙ (begins.1 ∙ sym (handed_is (c ∷ earlier))))

abbrev pub InOrder : World → Type 0
InOrder w = Kept w × Begins w.handed (handed_in_order w.taken)

pub in_order_step : (w : World) (e : Event) → InOrder w → May false w e → InOrder (after w e)
in_order_step w (Queued m) k may = (kept_step false w (Queued m) k.0 may, k.1)
in_order_step w (Abandoned n) k may = (kept_step false w (Abandoned n) k.0 may, k.1)
in_order_step w (Finished n) k may = (kept_step false w (Finished n) k.0 may, k.1)
in_order_step w (Sent c) k may = (kept_step false w (Sent c) k.0 may, k.1)
in_order_step w (Taken c) k may =
    (kept_step false w (Taken c) k.0 may, begins_trans w.handed (handed_in_order w.taken) (handed_in_order (c ∷ w.taken)) k.1 (handed_grows c w.taken))
in_order_step w (Told a) k may = (kept_step false w (Told a) k.0 may, k.1)
in_order_step w (Heard a) k may = (kept_step false w (Heard a) k.0 may, k.1)
in_order_step w (Handed m) k may = (kept_step false w (Handed m) k.0 may, begins_push w.handed (handed_in_order w.taken) m k.1 may)

in_order_run : (w : World) (es : List Event) → InOrder w → IsRun false w es → InOrder (run w es)
in_order_run w [] k r = k
in_order_run w (e ∷ es) k r = in_order_run (after w e) es (in_order_step w e k r.0) r.1

pub in_order_owes : (w : World) → InOrder w → HandsOver w.queued w.abandoned w.handed
in_order_owes w k =
    hands_over w.first w.queued w.abandoned (number_of w.taken) (through_of w.taken) w.handed k.1.0 k.0.one k.0.laid k.0.held
    (λ n le e. through_none (number_of w.taken) (highest w.taken) n (zero_known w.taken) le e) (λ n m e i sp. gone_is_abandoned w n m k.0 e i sp) (k.1.1 ∙ handed_is w.taken)

pub in_order_start : (first : ℕ) → 1 ≤ first → InOrder (start first)
in_order_start first one = (kept_start first one, (handed_in_order [], refl))

pub in_order : (first : ℕ) (es : List Event) → 1 ≤ first → IsRun false (start first) es
    → HandsOver (run (start first) es).queued (run (start first) es).abandoned (run (start first) es).handed
in_order first es one r = in_order_owes (run (start first) es) (in_order_run (start first) es (in_order_start first one) r)

-- arrival order
pub record Arriving (w : World) : Type 0 where
  pub kept : Kept w
  pub handed : (m : Message) → IsIn m w.handed → IsIn m w.queued
  pub differ : Differ w.handed

differ_push : (ms : List Message) (m : Message) → Differ ms → ((x : Message) → IsIn x ms → x.number ≡ m.number → ⊥) → Differ (ms ++ m ∷ [])
differ_push [] m d h = (λ y k e. absurd k, tt)
differ_push (x ∷ ms) m d h = (
  λ y k e. elim (in_either y ms (m ∷ []) k) [
    | inl a ↦ d.0 y a e
    | inr b ↦ elim b [ inl f ↦ h x (inl refl) (e ∙ ap (λ (z : Message). z.number) f) | inr n ↦ absurd n ]
  ],
  differ_push ms m d.1 (λ y k. h y (inr k)),
)

has_with : (b : Bool) (r : Bool) → cond b true r ≡ false → (b ≡ true → ⊥) × (r ≡ false)
has_with true r e = absurd cc
has_with false r e = (λ x. absurd cc, e)

no_number : (n : ℕ) (ms : List Message) (x : Message) → has_number n ms ≡ false → IsIn x ms → x.number ≡ n → ⊥
no_number n [] x e h f = h
no_number n (m ∷ ms) x e (inl s) f = (has_with (m.number == n) (has_number n ms) e).0 (eq-eqb m.number n (sym (ap (λ (z : Message). z.number) s) ∙ f))
no_number n (m ∷ ms) x e (inr h) f = no_number n ms x (has_with (m.number == n) (has_number n ms) e).1 h f

-- a whole run is a queued message
whole_queued : (w : World) (m : Message) → Kept w → IsIn m (map message_of (filter is_whole (runs_of w.taken))) → IsIn m w.queued
whole_queued w m k h =
    let s = number_of w.taken in
    let e = from_wholes s (highest w.taken) m (subst (λ (xs : List Message). IsIn m xs) (sym (wholes_are s (highest w.taken))) h) in
    (whole_is w.first w.queued s e.at m k.laid k.held e.is).was_queued

pub arriving_step : (w : World) (e : Event) → Arriving w → May true w e → Arriving (after w e)
arriving_step w (Queued m) k may = record { kept = kept_step true w (Queued m) k.kept may; handed = λ x h. inr (k.handed x h); differ = k.differ }
arriving_step w (Abandoned n) k may = record { kept = kept_step true w (Abandoned n) k.kept may; handed = k.handed; differ = k.differ }
arriving_step w (Finished n) k may = record { kept = kept_step true w (Finished n) k.kept may; handed = k.handed; differ = k.differ }
arriving_step w (Sent c) k may = record { kept = kept_step true w (Sent c) k.kept may; handed = k.handed; differ = k.differ }
arriving_step w (Taken c) k may = record { kept = kept_step true w (Taken c) k.kept may; handed = k.handed; differ = k.differ }
arriving_step w (Told a) k may = record { kept = kept_step true w (Told a) k.kept may; handed = k.handed; differ = k.differ }
arriving_step w (Heard a) k may = record { kept = kept_step true w (Heard a) k.kept may; handed = k.handed; differ = k.differ }
arriving_step w (Handed m) k may = record {
  kept = kept_step true w (Handed m) k.kept may;
  handed = λ x h. elim (in_either x w.handed (m ∷ []) h) [
    | inl a ↦ k.handed x a
    | inr b ↦ elim b [ inl e ↦ subst (λ (z : Message). IsIn z w.queued) (sym e) (whole_queued w m k.kept may.0) | inr n ↦ absurd n ]
  ];
  differ = differ_push w.handed m k.differ (λ x h e. no_number m.number w.handed x may.1 h e);
}

pub arriving_start : (first : ℕ) → 1 ≤ first → Arriving (start first)
arriving_start first one = record { kept = kept_start first one; handed = λ m h. absurd h; differ = tt }
