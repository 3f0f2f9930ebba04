-- The near ids of attempts by a word of each.
use Rattle.std.specs.Prelude.{ℕ, ◌≡◌, ◌≤◌, Bool, true, length, Option, Some, None, refl}
use Rattle.std.specs.Coded.{Coded, code_by, coded×, coded_ℕ, coded_bool}
use Rattle.std.specs.Ordering.{nat_cmp}
use Rattle.std.specs.FinMap.{FinMap, get, insert, remove, code}
use Rattle.startup.specs.declared.attempt.Stage.{Stage}
use Rattle.startup.specs.declared.attempt.Stage.TheVariants.{Hello, Keying}
use Rattle.startup.specs.Aims.{aim_word}
use Rattle.startup.specs.State.{AttemptState, Attempts}
use Rattle.startup.specs.Words.{word_of}

-- the near ids by words, whether no two attempts have had one word, and how many more words there is
-- room for
pub record Words : Type 0 where
  pub nears : FinMap nat_cmp ℕ
  pub whole : Bool
  pub spare : ℕ

abbrev pub words_code : Coded Words
words_code =
    code_by (FinMap nat_cmp ℕ × (Bool × ℕ)) (coded× (code coded_ℕ coded_ℕ) (coded× coded_bool coded_ℕ))
    (λ w. (w.nears, (w.whole, w.spare))) (λ p. record { nears = p.0; whole = p.1.0; spare = p.1.1 })
    (λ _. refl)

abbrev pub number_word : AttemptState → Option ℕ
number_word a = aim_word a.aim

abbrev pub tag_word : AttemptState → Option ℕ
tag_word a = Some (word_of a.tag)

-- While the index is whole, each attempt that has a word is found by it.
abbrev pub IsIndexed : (AttemptState → Option ℕ) → Words → Attempts → Type 0
IsIndexed word words attempts = words.whole ≡ true → (near : ℕ) (a : AttemptState) (w : ℕ) →
    get attempts near ≡ Some a → word a ≡ Some w → get words.nears w ≡ Some near

-- Where there is a word, and the index is whole afterwards, it was free, and has the near id now.
abbrev pub IsPut : Option ℕ → ℕ → Words → Words → Type 0
IsPut None near old new = new ≡ old
IsPut (Some word) near old new = new.whole ≡ true → (old.whole ≡ true) ×
    (get old.nears word ≡ None) × (new.nears ≡ insert old.nears word near)

-- Where there is a word it is taken out.
abbrev pub IsTaken : Option ℕ → Words → Words → Type 0
IsTaken None old new = new ≡ old
IsTaken (Some word) old new = (new.whole ≡ old.whole) × (new.nears ≡ remove old.nears word)

-- While the index is whole, each attempt that passes is found by this word.
abbrev pub IsFoundBy : (AttemptState → Bool) → Words → ℕ → Attempts → Type 0
IsFoundBy test words word attempts = words.whole ≡ true → (near : ℕ) (a : AttemptState) →
    get attempts near ≡ Some a → test a ≡ true → get words.nears word ≡ Some near

-- ---- the sizes of what is sought

-- how many bytes of a cookie are kept
abbrev pub cookie_length : Stage → ℕ
cookie_length Hello = 0
cookie_length (Keying at cookie under) = length cookie

-- A tag has 16 bytes, and a cookie that is kept at most 128.
pub record IsSized (a : AttemptState) : Type 0 where
  pub tag : length a.tag ≡ 16
  pub cookie : cookie_length a.stage ≤ 128

abbrev pub AreSized : Attempts → Type 0
AreSized attempts = (near : ℕ) (a : AttemptState) → get attempts near ≡ Some a → IsSized a
