-- A forward number as if it were taken already.
use Rattle.std.proofs.Common.{◌≡◌, ℕ, ◌+◌, ◌-◌, ◌≤◌, ◌==◌, max, nat_le, nat_lt, cond, Option, Some, None, not, Bool, true, false, ◌&&◌, ◌||◌, List, [], ◌∷◌, refl, ap, sym, ◌∙◌, arith}
use Rattle.std.proofs.lemmas.Bool.{ltb-false, le-ltb}
use Rattle.std.proofs.lemmas.Bool.Decides.{nat_tests}
use Rattle.flow_recv.specs.declared.spans.Span.{Span}
use Rattle.rtmfp_data_chunks.specs.Runs.{Chunk, Run}
use Rattle.flow_recv.specs.Receiver.{span, covers, knows, lacks, add_span, is_alive, living, held_in, end_of_first, passes_buffer, beyond_buffer, counted}
use Rattle.flow_recv.proofs.Knowing.{Formed, knows_add}

covers_max : (n t f : ℕ) → (nat_le 0 n && nat_le n (max t f)) ≡ ((nat_le 0 n && nat_le n f) || (nat_le 0 n && nat_le n t))
covers_max n t f = grind (arith, nat_tests)

or_assoc : (a b c : Bool) → ((a || b) || c) ≡ (a || (b || c))
or_assoc true b c = refl
or_assoc false b c = refl

pub knows_forward : (t f : ℕ) (above : List Span) (n : ℕ) → Formed above → knows (add_span 0 f (span 0 t ∷ above)) n ≡ knows (span 0 (max t f) ∷ above) n
knows_forward t f above n formed =
    knows_add 0 f (span 0 t ∷ above) n (omega arith) (omega arith, formed)
    ∙ (sym (or_assoc (covers n (span 0 f)) (covers n (span 0 t)) (knows above n)) ∙ ap (λ x. x || knows above n) (sym (covers_max n t f)))

pub alive_same : (a b : List Span) (y : Run) → ((n : ℕ) → knows a n ≡ knows b n) → is_alive a y ≡ is_alive b y
alive_same a b y e =
    let F : Bool → Bool → Bool = λ before after. not (cond y.front (cond y.rear false (not (not after))) (cond (not before) (cond y.rear false (not (not after))) true)) in
    ap (λ x. F x (knows a (y.last + 1))) (e (y.first - 1)) ∙ ap (λ x. F (knows b (y.first - 1)) x) (e (y.last + 1))

pub living_same : (a b : List Span) (runs : List Run) → ((n : ℕ) → knows a n ≡ knows b n) → living a runs ≡ living b runs
living_same a b [] e = refl
living_same a b (y ∷ later) e =
    ap (λ x. cond x (y ∷ living a later) (living a later)) (alive_same a b y e) ∙ ap (λ xs. cond (is_alive b y) (y ∷ xs) xs) (living_same a b later e)

pub living_forward : (t f : ℕ) (above : List Span) (runs : List Run) → Formed above → living (span 0 (max t f) ∷ above) runs ≡ living (add_span 0 f (span 0 t ∷ above)) runs
living_forward t f above runs formed = living_same (span 0 (max t f) ∷ above) (add_span 0 f (span 0 t ∷ above)) runs (λ n. sym (knows_forward t f above n formed))

-- the bytes held for which a chunk is refused, from the parts of the test
pub beyond_from : (arriving : Bool) (t : ℕ) (above : List Span) (runs : List Run) (last : Option ℕ) (highest : ℕ) (c : Chunk) (held low : ℕ) (m p : Bool) → Formed above
    → held ≡ held_in (living (span 0 (max t c.forward) ∷ above) runs)
    → low ≡ end_of_first (add_span 0 c.forward (span 0 t ∷ above))
    → m ≡ lacks (span 0 t ∷ above) c.seq
    → p ≡ passes_buffer (low + 1) held c
    → cond (m && nat_lt c.forward c.seq && p) (Some held) None
    ≡ beyond_buffer (record { arriving = arriving; spans = span 0 t ∷ above; runs = runs; last = last; highest = highest }) c
beyond_from arriving t above runs last highest c held low m p formed h l em ep =
    let held' : held ≡ held_in (living (add_span 0 c.forward (span 0 t ∷ above)) runs) = h ∙ ap held_in (living_forward t c.forward above runs formed) in
    let p' : p ≡ passes_buffer (end_of_first (add_span 0 c.forward (span 0 t ∷ above)) + 1) (held_in (living (add_span 0 c.forward (span 0 t ∷ above)) runs)) c =
    ep ∙ (ap (λ x. passes_buffer (x + 1) held c) l ∙ ap (λ x. passes_buffer (end_of_first (add_span 0 c.forward (span 0 t ∷ above)) + 1) x c) held') in
    ap (λ x. cond (x && nat_lt c.forward c.seq && p) (Some held) None) em
    ∙ (ap (λ x. cond (lacks (span 0 t ∷ above) c.seq && nat_lt c.forward c.seq && x) (Some held) None) p'
    ∙ ap (λ x. cond (lacks (span 0 t ∷ above) c.seq && nat_lt c.forward c.seq && passes_buffer (end_of_first (add_span 0 c.forward (span 0 t ∷ above)) + 1) (held_in (living (add_span 0 c.forward (span 0 t ∷ above)) runs)) c) (Some x) None) held')

-- ---- what doesn't pass with more bytes

less_false : (a h g k : ℕ) → g ≤ h → nat_lt a (h + k) ≡ false → nat_lt a (g + k) ≡ false
less_false a h g k le e = le-ltb a (g + k) (let f = ltb-false a (h + k) e in omega (arith, f, le))

either_false : (a b c d : Bool) → (a ≡ false → b ≡ false) → cond a true c ≡ false → d ≡ c → cond b true d ≡ false
either_false true b c d h e f = absurd cc
either_false false b c d h e f = ap (λ x. cond x true d) (h refl) ∙ (f ∙ e)

passes_if : (low h g k seq : ℕ) (t : Bool) → g ≤ h → cond t (nat_lt 3145728 (h + k)) (cond (nat_lt 2097152 (h + k)) true (nat_lt (low + 65536) seq)) ≡ false
    → cond t (nat_lt 3145728 (g + k)) (cond (nat_lt 2097152 (g + k)) true (nat_lt (low + 65536) seq)) ≡ false
passes_if low h g k seq true le e = less_false 3145728 h g k le e
passes_if low h g k seq false le e = either_false (nat_lt 2097152 (h + k)) (nat_lt 2097152 (g + k)) (nat_lt (low + 65536) seq) (nat_lt (low + 65536) seq) (λ f. less_false 2097152 h g k le f) e refl

pub passes_less : (low h g : ℕ) (c : Chunk) → g ≤ h → passes_buffer low h c ≡ false → passes_buffer low g c ≡ false
passes_less low h g c le e = passes_if low h g (counted c) c.seq (c.seq == low) le e

pub none_passes : (m n p : Bool) (h : ℕ) → p ≡ false → None ≡ cond (m && n && p) (Some h) None
none_passes m n p h e = none_if m n ∙ sym (ap (λ x. cond (m && n && x) (Some h) None) e)
  where
    none_if : (a b : Bool) → None ≡ cond (a && b && false) (Some h) None
    none_if true true = refl
    none_if true false = refl
    none_if false b = refl
