-- A walk over all that began, which looks for one that comes before a session ID.
use Rattle.std.proofs.Common.{ℕ, List, [], ◌∷◌, ◌≡◌, ◌==◌, ◌<◌, ◌≤◌, ◌||◌, ◌&&◌, Bool, true, false, cond, nat_lt, Option, Some, None, refl, sym, ap, ◌∙◌, arith, eqb-true}
use Rattle.std.specs.Ordering.{nat_cmp}
use Rattle.std.specs.FinMap.{from_entries, get}
use Rattle.std.specs.List.{All, list_any}
use Rattle.std.specs.Map.{lookup}
use Rattle.std.proofs.lemmas.Bool.Decides.{nat_tests}
use Rattle.std.proofs.lemmas.List.Elements.{All-head, All-same, All-tail, All-weaker}
use Rattle.std.proofs.lemmas.Slice.Eq.{bytes_eq-Decides}
use Rattle.keyed_slab.proofs.KeyMaps.{get_keys}
use Rattle.rtmfp_forms.proofs.Places.{first_true, second_true, both_true}
use Rattle.log_digest.specs.Kept.{Digested}
use Rattle.log_contexts.specs.declared.threads.Thread.{Thread}
use Rattle.log_contexts.specs.Kept.{ThreadTable, tag_in}
use Rattle.log_contexts.specs.Lowest.{TellsLowest, has_tag, is_before, is_tag, is_underway}

is_lower : (a b : ℕ) → nat_lt a b ≡ true → a < b
is_lower a b e = grind (arith, nat_tests)

not_lower : (a b : ℕ) → nat_lt a b ≡ false → b ≤ a
not_lower a b e = grind (arith, nat_tests)

its_tag : (o : Option (List ℕ)) (tag : List ℕ) → is_tag o tag ≡ true → o ≡ Some tag
its_tag None tag e = absurd cc
its_tag (Some its) tag e = ap (λ (t : List ℕ). Some t) ((bytes_eq-Decides its tag).0 e)

tag_is : (o : Option (List ℕ)) (tag : List ℕ) → o ≡ Some tag → is_tag o tag ≡ true
tag_is None tag e = absurd cc
tag_is (Some its) tag e = (bytes_eq-Decides its tag).1 (let same : its ≡ tag = cc in same)

never : {A : Type 0} (b : Bool) → b ≡ true → b ≡ false → A
never b e f = let clash : true ≡ false = sym e ∙ f in absurd cc

module _ (d : Digested) (near : ℕ) (tag : List ℕ) where
  abbrev passes : ℕ × Thread → Bool
  passes e = is_before d near tag e.0 e.1

  -- So far none came before it: one of all does where one of the rest does.
  pub record NoneYet (all rest : List (ℕ × Thread)) : Type 0 where
    pub same : list_any passes all ≡ list_any passes rest

  pub at_first : (all : List (ℕ × Thread)) → NoneYet all all
  at_first all = record { same = refl }

  one_more : (b c : Bool) → b ≡ false → (b || c) ≡ c
  one_more true c e = absurd cc
  one_more false c e = refl

  here : (b c : Bool) → b ≡ true → (b || c) ≡ true
  here true c e = refl
  here false c e = absurd cc

  pub not_this : (all old rest : List (ℕ × Thread)) (other : ℕ) (thread : Thread) → NoneYet all old → old ≡ (other, thread) ∷ rest → is_before d near tag other thread ≡ false → NoneYet all rest
  not_this all old rest other thread so_far steps e = record {
    same = so_far.same ∙ ap (list_any passes) steps ∙ one_more (is_before d near tag other thread) (list_any passes rest) e;
  }

  record IsFound (table : ThreadTable) : Type 0 where
    other : ℕ
    thread : Thread
    is : get table other ≡ Some thread
    before : is_before d near tag other thread ≡ true

  -- what a walk finds is there
  found : (table : ThreadTable) (es : List (ℕ × Thread)) → All (λ e. get table e.0 ≡ Some e.1) es → list_any passes es ≡ true → IsFound table
  found table [] are e = absurd cc
  found table (f ∷ es) are e = by (found table es (All-tail (λ e. get table e.0 ≡ Some e.1) f es are)) (passes f) refl
    where
      by : (list_any passes es ≡ true → IsFound table) → (b : Bool) → passes f ≡ b → IsFound table
      by rest true t = record { other = f.0; thread = f.1; is = All-head (λ e. get table e.0 ≡ Some e.1) f es are; before = t }
      by rest false t = rest (sym (one_more (passes f) (list_any passes es) t) ∙ e)

  -- and what is there a walk finds
  there : (other : ℕ) (thread : Thread) (es : List (ℕ × Thread)) → lookup (λ k. other == k) es ≡ Some thread → is_before d near tag other thread ≡ true → list_any passes es ≡ true
  there other thread [] is e = absurd cc
  there other thread (f ∷ es) is e = by (λ rest. there other thread es rest e) (other == f.0) refl
    where
      either : (a b : Bool) → b ≡ true → (a || b) ≡ true
      either true b e = refl
      either false b e = e

      by : (lookup (λ k. other == k) es ≡ Some thread → list_any passes es ≡ true) → (b : Bool) → (other == f.0) ≡ b → list_any passes (f ∷ es) ≡ true
      by rest true t =
          let id : other ≡ f.0 = eqb-true other f.0 t in
          let s : Some f.1 ≡ Some thread = sym (ap (λ (x : Bool). cond x (Some f.1) (lookup (λ k. other == k) es)) t) ∙ is in
          let value : f.1 ≡ thread = cc in
          here (passes f) (list_any passes es) (ap (λ (q : ℕ). is_before d near tag q f.1) (sym id) ∙ ap (is_before d near tag other) value ∙ e)
      by rest false t = either (passes f) (list_any passes es) (rest (sym (ap (λ (x : Bool). cond x (Some f.1) (lookup (λ k. other == k) es)) t) ∙ is))

  lower : (other : ℕ) (thread : Thread) → is_before d near tag other thread ≡ true → other < near
  lower other thread e = is_lower other near (first_true (nat_lt other near) (has_tag thread tag && is_underway d other) e)

  tagged : (other : ℕ) (thread : Thread) → is_before d near tag other thread ≡ true → (thread.tag ≡ Some tag) × (is_underway d other ≡ true)
  tagged other thread e =
      let both = second_true (nat_lt other near) (has_tag thread tag && is_underway d other) e in
      (its_tag thread.tag tag (first_true (has_tag thread tag) (is_underway d other) both), second_true (has_tag thread tag) (is_underway d other) both)

  -- one comes before it
  pub one_before : (all old rest : List (ℕ × Thread)) (other : ℕ) (thread : Thread) → NoneYet all old → old ≡ (other, thread) ∷ rest → (it : Bool) → it ≡ is_before d near tag other thread → it ≡ true →
      (table : ThreadTable) → All (λ e. get table e.0 ≡ Some e.1) all → TellsLowest table d tag near false
  one_before all old rest other thread so_far steps it is e table are = record {
    yes = λ t. absurd (let clash : false ≡ true = t in cc);
    no = λ least.
        let any : list_any passes all ≡ true = so_far.same ∙ ap (list_any passes) steps ∙ here (is_before d near tag other thread) (list_any passes rest) (sym is ∙ e) in
        let f = found table all are any in
        let which = tagged f.other f.thread f.before in
        let at : near ≤ f.other = least f.other which.1 (ap tag_in f.is ∙ which.0) in
        let under : f.other < near = lower f.other f.thread f.before in
        absurd (omega (arith, at, under));
  }

  -- none does
  pub none_before : (es all old : List (ℕ × Thread)) → all ≡ es → NoneYet all old → old ≡ [] → TellsLowest (from_entries es) d tag near true
  none_before es all old same so_far gone = record {
    yes = λ t other under tag_there. by_thread other under (get {R = nat_cmp} (from_entries es) other) refl tag_there;
    no = λ least. refl;
  }
    where
      none : list_any passes es ≡ false
      none = sym (ap (list_any passes) same) ∙ so_far.same ∙ ap (list_any passes) gone

      by_thread : (other : ℕ) → is_underway d other ≡ true → (o : Option Thread) → get {R = nat_cmp} (from_entries es) other ≡ o → tag_in o ≡ Some tag → near ≤ other
      by_thread other under None is tag_there = absurd cc
      by_thread other under (Some thread) is tag_there = by (nat_lt other near) refl
        where
          by : (b : Bool) → nat_lt other near ≡ b → near ≤ other
          by true t = never (list_any passes es)
              (there other thread es (sym (get_keys es other) ∙ is) (both_true (nat_lt other near) (has_tag thread tag && is_underway d other) t (both_true (has_tag thread tag) (is_underway d other) (tag_is thread.tag tag tag_there) under)))
              none
          by false t = not_lower other near t

-- what a walk goes through is there
pub each_there : (es all : List (ℕ × Thread)) → all ≡ es → All (λ e. lookup (λ k. e.0 == k) es ≡ Some e.1) es → All (λ e. get {R = nat_cmp} (from_entries es) e.0 ≡ Some e.1) all
each_there es all same found =
    All-same (λ e. get {R = nat_cmp} (from_entries es) e.0 ≡ Some e.1) all es same (All-weaker (λ e. lookup (λ k. e.0 == k) es ≡ Some e.1) (λ e. get {R = nat_cmp} (from_entries es) e.0 ≡ Some e.1) (λ e is. get_keys es e.0 ∙ is) es found)
