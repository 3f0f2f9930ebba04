-- The marks of attempts, each the word of a cookie and a near id, and their order.
use Rattle.std.specs.Prelude.{ℕ, ◌≡◌, ◌<◌, ◌≤◌, ◌&&◌, Bool, true, false, nat_lt, List, length, slice_index_or, Option, Some, None, refl}
use Rattle.std.specs.Coded.{Coded, code_by, coded×, coded_list, coded_bool, coded_ℕ}
use Rattle.std.specs.FinMap.{get}
use Rattle.startup.specs.declared.marks.Mark.{Mark}
use Rattle.startup.specs.declared.attempt.Stage.{Stage}
use Rattle.startup.specs.declared.attempt.Stage.TheVariants.{Hello, Keying}
use Rattle.startup.specs.declared.attempt.Change.{Change}
use Rattle.startup.specs.State.{AttemptState, Attempts}
use Rattle.startup.specs.Sought.{change_of}
use Rattle.startup.specs.Words.{cookie_word}

-- the marks, whether there was room for each, and for how many there is room
pub record Marked : Type 0 where
  pub marks : List Mark
  pub whole : Bool
  pub room : ℕ

abbrev pub marked_code : Coded Mark → Coded Marked
marked_code mark =
    code_by (List Mark × (Bool × ℕ)) (coded× (coded_list mark) (coded× coded_bool coded_ℕ))
    (λ m. (m.marks, (m.whole, m.room))) (λ p. record { marks = p.0; whole = p.1.0; room = p.1.1 })
    (λ _. refl)

-- whether they are whole still when one more comes: while there is room for it
abbrev pub is_whole_then : Marked → Bool
is_whole_then m = m.whole && nat_lt (length m.marks) m.room

-- ---- their order: by words, and under one word by near ids

pub record IsBefore (one other : Mark) : Type 0 where
  pub words : one.word ≤ other.word
  pub nears : one.word ≡ other.word → one.near < other.near

pub record IsUpTo (one other : Mark) : Type 0 where
  pub words : one.word ≤ other.word
  pub nears : one.word ≡ other.word → one.near ≤ other.near

abbrev pub no_mark : Mark
no_mark = record { word = 0; near = 0 }

abbrev pub mark_at : List Mark → ℕ → Mark
mark_at marks k = slice_index_or marks k no_mark

abbrev pub IsAscending : List Mark → Type 0
IsAscending marks = (j k : ℕ) → j ≤ k → k < length marks → IsUpTo (mark_at marks j) (mark_at marks k)

-- The same, and no mark stands twice.
abbrev pub IsRising : List Mark → Type 0
IsRising marks = (j k : ℕ) → j < k → k < length marks → IsBefore (mark_at marks j) (mark_at marks k)

-- A mark has its place behind those before it.
pub record IsPlace (marks : List Mark) (mark : Mark) (at : ℕ) : Type 0 where
  pub inside : at ≤ length marks
  pub before : (k : ℕ) → k < at → IsBefore (mark_at marks k) mark
  pub behind : (k : ℕ) → at ≤ k → k < length marks → IsUpTo mark (mark_at marks k)

-- Its place lies between two.
pub record IsBetween (marks : List Mark) (mark : Mark) (low high : ℕ) : Type 0 where
  pub order : low ≤ high
  pub inside : high ≤ length marks
  pub before : (k : ℕ) → k < low → IsBefore (mark_at marks k) mark
  pub behind : (k : ℕ) → high ≤ k → k < length marks → IsUpTo mark (mark_at marks k)

-- A mark is one of these, from this one on.
pub record StandsFrom (marks : List Mark) (start : ℕ) (mark : Mark) : Type 0 where
  pub at : ℕ
  pub least : start ≤ at
  pub inside : at < length marks
  pub here : mark_at marks at ≡ mark

abbrev pub Stands : List Mark → Mark → Type 0
Stands marks mark = StandsFrom marks 0 mark

-- ---- the marks of attempts

-- An attempt has a mark in the keying stage alone.
abbrev pub mark_in : Stage → ℕ → Option Mark
mark_in Hello near = None
mark_in (Keying at cookie under) near = Some (record { word = cookie_word cookie; near = near })

abbrev pub mark_of : AttemptState → ℕ → Option Mark
mark_of a near = mark_in a.stage near

-- While there was room, each attempt's mark is one of these.
abbrev pub IsMarked : Marked → Attempts → Type 0
IsMarked marked attempts = marked.whole ≡ true → (near : ℕ) (a : AttemptState) (mark : Mark) →
    get attempts near ≡ Some a → mark_of a near ≡ Some mark → Stands marked.marks mark

-- The same of all attempts but one.
abbrev pub IsMarkedBut : ℕ → Marked → Attempts → Type 0
IsMarkedBut one marked attempts = marked.whole ≡ true → (near : ℕ) (a : AttemptState)
    (mark : Mark) → (near ≡ one → ⊥) → get attempts near ≡ Some a →
    mark_of a near ≡ Some mark → Stands marked.marks mark

-- A mark is that of an attempt.
pub record IsOf (attempts : Attempts) (mark : Mark) : Type 0 where
  pub attempt : AttemptState
  pub there : get attempts mark.near ≡ Some attempt
  pub has : mark_of attempt mark.near ≡ Some mark

-- Each mark is that of an attempt.
abbrev pub AreOf : List Mark → Attempts → Type 0
AreOf marks attempts = (mark : Mark) → Stands marks mark → IsOf attempts mark

-- Each is that of an attempt, and none of this one's.
abbrev pub AreOfOthers : ℕ → List Mark → Attempts → Type 0
AreOfOthers one marks attempts = (mark : Mark) → Stands marks mark →
    (mark.near ≡ one → ⊥) × IsOf attempts mark

-- An attempt has the mark that it had after such a change.
abbrev pub KeepsMarks : Change → Type 0
KeepsMarks change = (moment : ℕ) (a : AttemptState) (near : ℕ) →
    mark_of (change_of change moment a) near ≡ mark_of a near

-- whether an attempt is there that passes
abbrev pub passes_in : (AttemptState → Bool) → Option AttemptState → Bool
passes_in test None = false
passes_in test (Some a) = test a

-- The mark of each attempt that passes is one of these under this word, from this one on.
abbrev pub AreFrom : (AttemptState → Bool) → List Mark → ℕ → ℕ → Attempts → Type 0
AreFrom test marks start word attempts = (near : ℕ) (a : AttemptState) →
    get attempts near ≡ Some a → test a ≡ true →
    StandsFrom marks start (record { word = word; near = near })
