-- What calls do to things in slots, and what is said of any row of calls.
use Rattle.std.specs.Prelude.{ℕ, ◌≡◌, ◌≢◌, ◌+◌, List, [], ◌∷◌, Some, None, IsSome}
use Rattle.keyed_slab.specs.declared.keys.Key.{Key}
use Rattle.keyed_slab.specs.KeyedSlab.{Seats, thing_at, generation_at, named, with_thing, IsChangedAt}

module _ {T : Type 0} where
  -- A thing comes to a slot that was empty, and its key has the slot's generation.
  pub record HasPut (old new : Seats T) (thing : T) (key : Key) : Type 0 where
    pub vacant : thing_at old key.slot ≡ None
    pub things : IsChangedAt old.things new.things key.slot (Some thing)
    pub generation : key.generation ≡ generation_at old key.slot
    pub generations : (slot : ℕ) → generation_at new slot ≡ generation_at old slot

  -- What stood in a slot goes, and the slot's generation rises.
  pub record HasRemoved (old new : Seats T) (slot : ℕ) : Type 0 where
    pub stood : IsSome (thing_at old slot)
    pub things : IsChangedAt old.things new.things slot None
    pub risen : generation_at new slot ≡ generation_at old slot + 1
    pub generations : (other : ℕ) → other ≢ slot →
        generation_at new other ≡ generation_at old other

  -- Room is asked for, and nothing else changes.
  pub record HasReserved (old new : Seats T) : Type 0 where
    pub things : new.things ≡ old.things
    pub generations : (slot : ℕ) → generation_at new slot ≡ generation_at old slot

  -- Something else is written where something stood.
  pub record HasWritten (old new : Seats T) (slot : ℕ) (thing : T) : Type 0 where
    pub stood : IsSome (thing_at old slot)
    pub written : new ≡ with_thing old slot thing

-- a call with what it was given and what it gave
pub data Call (T : Type 0) : Type 0 where
  Puts : (thing : T) → (key : Key) → Call T
  Removes : (slot : ℕ) → Call T
  Reserves : Call T
  Writes : (slot : ℕ) → (thing : T) → Call T

module _ {T : Type 0} where
  abbrev pub IsCall : Call T → Seats T → Seats T → Type 0
  IsCall (Puts thing key) old new = HasPut old new thing key
  IsCall (Removes slot) old new = HasRemoved old new slot
  IsCall Reserves old new = HasReserved old new
  IsCall (Writes slot thing) old new = HasWritten old new slot thing

  -- these calls, one after another
  abbrev pub AreCalls : List (Call T) → Seats T → Seats T → Type 0
  AreCalls [] old new = new ≡ old
  AreCalls (call ∷ later) old new =
      (between : Seats T) × IsCall call old between × AreCalls later between new

  abbrev pub keys_given : List (Call T) → List Key
  keys_given [] = []
  keys_given (Puts thing key ∷ later) = key ∷ keys_given later
  keys_given (Removes slot ∷ later) = keys_given later
  keys_given (Reserves ∷ later) = keys_given later
  keys_given (Writes slot thing ∷ later) = keys_given later

-- the key isn't among these
abbrev pub IsNoneOf : Key → List Key → Type 0
IsNoneOf key [] = Unit {0}
IsNoneOf key (other ∷ later) = (other ≢ key) × IsNoneOf key later

abbrev pub AreDistinct : List Key → Type 0
AreDistinct [] = Unit {0}
AreDistinct (key ∷ later) = IsNoneOf key later × AreDistinct later

-- ---- laws

-- whatever is called, no two things are put under one key
abbrev pub EachKeyIsGivenOnce : Type 0 → Type 0
EachKeyIsGivenOnce T =
    (calls : List (Call T)) (old new : Seats T) → AreCalls calls old new →
    AreDistinct (keys_given calls)

-- Once what a key named is taken away, the key names nothing, whatever is called then.
abbrev pub RemovedIsNamedNoMore : Type 0 → Type 0
RemovedIsNamedNoMore T =
    (key : Key) (old between new : Seats T) (later : List (Call T)) → IsSome (named old key) →
    IsCall (Removes key.slot) old between → AreCalls later between new → named new key ≡ None
