-- What one of some chunks is, by a walk over them.
use Rattle.std.proofs.Common.{ℕ, ◌≡◌, ◌==◌, ◌≢◌, ◌⊎◌, inl, inr, Bool, true, false, if◌then◌else◌, List, [], ◌∷◌, Option, Some, None, is_some, refl, sym, ap, subst, ◌∙◌, arith}
use Rattle.std.specs.Option.{option_map}
use Rattle.std.proofs.lemmas.Bool.Decides.{nat_tests}
use Rattle.rtmfp_packet.specs.Walk.{Placed}
use Rattle.endpoint_model.specs.Keying.{IsAmong, IsFirst}
use Rattle.rtmfp_chunks.specs.Chunk.{Close, CloseAck}
use Rattle.log_packets.specs.Asked.{Tells, SomeChunk, first_of, IsChunk}

pub only_true : {A : Type 0} (b : Bool) → b ≡ false → b ≡ true → A
only_true true e f = absurd cc
only_true false e f = absurd cc

module _ (IsSo : Placed → Type 0) where
  pub none_is : SomeChunk IsSo [] → ⊥
  none_is s = s.among

  pub one_is : (c : Placed) (cs : List Placed) → IsSo c → SomeChunk IsSo (c ∷ cs)
  one_is c cs is = record { chunk = c; among = inl refl; is = is }

  pub later_is : (c : Placed) (cs : List Placed) → SomeChunk IsSo cs → SomeChunk IsSo (c ∷ cs)
  later_is c cs s = record { chunk = s.chunk; among = inr s.among; is = s.is }

  pub which_is : (c : Placed) (cs : List Placed) → SomeChunk IsSo (c ∷ cs) → IsSo c ⊎ SomeChunk IsSo cs
  which_is c cs s = elim s.among [
    | inl here ↦ inl (subst IsSo here s.is)
    | inr later ↦ inr (record { chunk = s.chunk; among = later; is = s.is })
  ]

  -- So far none of all was so: one is where one of the rest is.
  pub record NotYet (all rest : List Placed) : Type 0 where
    pub on : SomeChunk IsSo all → SomeChunk IsSo rest
    pub back : SomeChunk IsSo rest → SomeChunk IsSo all

  pub at_first : (all : List Placed) → NotYet all all
  at_first all = record { on = λ s. s; back = λ s. s }

  pub not_this : (all old rest : List Placed) (c : Placed) (it : Bool) → NotYet all old → old ≡ c ∷ rest → Tells (IsSo c) it → it ≡ false → NotYet all rest
  not_this all old rest c it so_far steps tells e = record {
    on = λ s. elim (which_is c rest (subst (SomeChunk IsSo) steps (so_far.on s))) [
      | inl here ↦ only_true it e (tells.no here)
      | inr later ↦ later
    ];
    back = λ s. so_far.back (subst (SomeChunk IsSo) (sym steps) (later_is c rest s));
  }

  pub this_one : (all old rest : List Placed) (c : Placed) (it : Bool) → NotYet all old → old ≡ c ∷ rest → Tells (IsSo c) it → it ≡ true → Tells (SomeChunk IsSo all) true
  this_one all old rest c it so_far steps tells e = record {
    yes = λ t. so_far.back (subst (SomeChunk IsSo) (sym steps) (one_is c rest (tells.yes e)));
    no = λ s. refl;
  }

  pub none_of_all : (all old : List Placed) → NotYet all old → old ≡ [] → Tells (SomeChunk IsSo all) false
  none_of_all all old so_far gone = record {
    yes = λ t. only_true false refl t;
    no = λ s. absurd (none_is (subst (SomeChunk IsSo) gone (so_far.on s)));
  }

  pub same_chunks : (cs ds : List Placed) (it : Bool) → cs ≡ ds → Tells (SomeChunk IsSo cs) it → Tells (SomeChunk IsSo ds) it
  same_chunks cs ds it e t = subst (λ (l : List Placed). Tells (SomeChunk IsSo l) it) e t

-- ---- the first of a type

is_kind : (a b : ℕ) → (a == b) ≡ true → a ≡ b
is_kind a b e = grind (arith, nat_tests)

no_kind : (a b : ℕ) → (a == b) ≡ false → a ≢ b
no_kind a b e = λ same. (let is : a ≡ b = same in grind (arith, nat_tests))

of_kind : (a b : ℕ) → a ≡ b → (a == b) ≡ true
of_kind a b e = grind (arith, nat_tests)

-- What the first of a type is.
pub record IsFirstOf (kind : ℕ) (cs : List Placed) (c : Placed) : Type 0 where
  pub first : IsFirst c cs
  pub kind_is : c.kind ≡ kind

pub first_is : (kind : ℕ) (cs : List Placed) (c : Placed) → first_of kind cs ≡ Some c → IsFirstOf kind cs c
first_is kind [] c e = absurd cc
first_is kind (d ∷ cs) c e = by (first_is kind cs c) (d.kind == kind) refl e
  where
    by : (first_of kind cs ≡ Some c → IsFirstOf kind cs c) → (b : Bool) → (d.kind == kind) ≡ b → (if b then Some d else first_of kind cs) ≡ Some c → IsFirstOf kind (d ∷ cs) c
    by rest true t f = let same : d ≡ c = cc in record { first = inl (sym same); kind_is = ap (λ (p : Placed). p.kind) (sym same) ∙ is_kind d.kind kind t }
    by rest false t f = let later = rest f in
        record { first = inr ((λ same. no_kind d.kind kind t (same ∙ later.kind_is)), later.first); kind_is = later.kind_is }

pub is_first : (kind : ℕ) (cs : List Placed) (c : Placed) → IsFirst c cs → c.kind ≡ kind → first_of kind cs ≡ Some c
is_first kind [] c f k = absurd f
is_first kind (d ∷ cs) c f k = by (λ later. is_first kind cs c later k) (d.kind == kind) refl f
  where
    by : (IsFirst c cs → first_of kind cs ≡ Some c) → (b : Bool) → (d.kind == kind) ≡ b → IsFirst c (d ∷ cs) → (if b then Some d else first_of kind cs) ≡ Some c
    by rest true t (inl here) = ap (λ (p : Placed). Some p) (sym here)
    by rest true t (inr later) = absurd (later.0 (is_kind d.kind kind t ∙ sym k))
    by rest false t (inl here) = absurd (no_kind d.kind kind t (ap (λ (p : Placed). p.kind) (sym here) ∙ k))
    by rest false t (inr later) = rest later.1

first_found : (kind : ℕ) (cs : List Placed) → is_some (first_of kind cs) ≡ true → SomeChunk (λ c. c.kind ≡ kind) cs
first_found kind [] e = absurd cc
first_found kind (d ∷ cs) e = by (first_found kind cs) (d.kind == kind) refl e
  where
    by : (is_some (first_of kind cs) ≡ true → SomeChunk (λ c. c.kind ≡ kind) cs) → (b : Bool) → (d.kind == kind) ≡ b → is_some (if b then Some d else first_of kind cs) ≡ true → SomeChunk (λ c. c.kind ≡ kind) (d ∷ cs)
    by rest true t f = one_is (λ c. c.kind ≡ kind) d cs (is_kind d.kind kind t)
    by rest false t f = later_is (λ c. c.kind ≡ kind) d cs (rest f)

found_first : (kind : ℕ) (cs : List Placed) (c : Placed) → IsAmong c cs → c.kind ≡ kind → is_some (first_of kind cs) ≡ true
found_first kind [] c among k = absurd among
found_first kind (d ∷ cs) c among k = by (λ later. found_first kind cs c later k) (d.kind == kind) refl among
  where
    by : (IsAmong c cs → is_some (first_of kind cs) ≡ true) → (b : Bool) → (d.kind == kind) ≡ b → IsAmong c (d ∷ cs) → is_some (if b then Some d else first_of kind cs) ≡ true
    by rest true t f = refl
    by rest false t (inl here) = absurd (no_kind d.kind kind t (ap (λ (p : Placed). p.kind) (sym here) ∙ k))
    by rest false t (inr later) = rest later

some_mapped : {A B : Type 0} (f : A → B) (o : Option A) → is_some (option_map f o) ≡ is_some o
some_mapped f None = refl
some_mapped f (Some x) = refl

module _ {A : Type 0} (show : A → Placed) (o : Option A) (cs : List Placed) (it : Bool) where
  pub has_close_in : option_map show o ≡ first_of 0x0c cs → it ≡ is_some o → Tells (SomeChunk (IsChunk Close) cs) it
  has_close_in found is =
      let test : it ≡ is_some (first_of 0x0c cs) = is ∙ sym (some_mapped show o) ∙ ap (λ (x : Option Placed). is_some x) found in
      record {
        yes = λ e. let s = first_found 0x0c cs (sym test ∙ e) in record { chunk = s.chunk; among = s.among; is = (s.is, tt) };
        no = λ s. test ∙ found_first 0x0c cs s.chunk s.among s.is.0;
      }

  pub has_answer_in : option_map show o ≡ first_of 0x4c cs → it ≡ is_some o → Tells (SomeChunk (IsChunk CloseAck) cs) it
  has_answer_in found is =
      let test : it ≡ is_some (first_of 0x4c cs) = is ∙ sym (some_mapped show o) ∙ ap (λ (x : Option Placed). is_some x) found in
      record {
        yes = λ e. let s = first_found 0x4c cs (sym test ∙ e) in record { chunk = s.chunk; among = s.among; is = (s.is, tt) };
        no = λ s. test ∙ found_first 0x4c cs s.chunk s.among s.is.0;
      }
