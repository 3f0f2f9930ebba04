-- A number's spelling, and then the rest: what readers and writers of longer forms cite.
use Rattle.std.proofs.Common.{◌≡◌, ℕ, ◌/◌, ◌%◌, ◌^◌, ◌<◌, ◌≤◌, List, [], ◌∷◌, ◌++◌, length, take, drop, refl, sym, ap, ◌∙◌, arith}
use Rattle.std.proofs.lemmas.List.{take_at, drop_at, length-append}
use Rattle.rtmfp_vlu.specs.Vlu.{VluSpells, IsLarge, groups_before, vlu}
use Rattle.rtmfp_vlu.proofs.Spellings.{IsEnded-some, not_large}
use Rattle.rtmfp_vlu.proofs.Shortest.{Shortest-vlu}

-- ---- any list in front of another

pub front : (b s rest : List ℕ) → b ≡ s ++ rest → take (length s) b ≡ s
front b s rest e = rw e (take_at s rest (length s) refl)

pub behind : (b s rest : List ℕ) → b ≡ s ++ rest → drop (length s) b ≡ rest
behind b s rest e = rw e (drop_at s rest (length s) refl)

pub within : (b s rest : List ℕ) → b ≡ s ++ rest → length s ≤ length b
within b s rest e = omega (arith, ap length e, length-append s rest)

-- ---- a number in front

-- what `complete` of read_vlu asks
pub stands : (v : ℕ) (b s rest : List ℕ) → b ≡ s ++ rest → VluSpells v s → (length s ≤ length b) × VluSpells v (take (length s) b)
stands v b s rest e h = (within b s rest e, rw (front b s rest e) h)

pub nothing_large : (v : ℕ) (b s rest : List ℕ) → IsLarge b → b ≡ s ++ rest → VluSpells v s → ⊥
nothing_large v b s rest large e h = let at = stands v b s rest e h in not_large b v (length s) large at.0 at.1

pub one_number : (v w : ℕ) (s : List ℕ) → VluSpells v s → VluSpells w s → v ≡ w
one_number v w s p q = sym p.sum ∙ q.sum

-- ---- the shortest spelling

pub vlu-spells : (v : ℕ) → v < 2 ^ 64 → VluSpells v (vlu v)
vlu-spells v h = (Shortest-vlu v h).spells

-- one to ten bytes
pub length-vlu_within : (v : ℕ) → v < 2 ^ 64 → (1 ≤ length (vlu v)) × (length (vlu v) ≤ 10)
length-vlu_within v h = let s = vlu-spells v h in (IsEnded-some (vlu v) s.ended, s.size)

-- a number below 128 is its own spelling
pub vlu-small : (v : ℕ) → v < 128 → vlu v ≡ v ∷ []
unfolding vlu groups_before
vlu-small v h =
    let none : v / 128 ≡ 0 = omega arith in
    let same : v % 128 ≡ v = omega arith in
    rw (none, same) refl
