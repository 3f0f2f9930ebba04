-- What calls on a translator keep.
use Rattle.std.proofs.Common.{◌≡◌, ◌⊎◌, inl, inr, ◌<◌, ◌≤◌, ℕ, ◌+◌, ◌-◌, ◌==◌, ◌&&◌, ◌||◌, not, nat_le, nat_lt, Bool, true, false, if◌then◌else◌, List, [], ◌∷◌, ◌++◌, length, replicate, Option, Some, None, Ok, Err, refl, sym, ap, ◌∙◌, subst, arith}
use Rattle.std.specs.List.{slice_get}
use Rattle.std.specs.Str.{bytes_eq}
use Rattle.std.proofs.lemmas.Bool.{leb-true}
use Rattle.std.proofs.lemmas.Slice.Eq.{bytes_eq-Decides}
use Rattle.rtmfp_forms.specs.Address.{AddressParts, SamePlace, is_same_place}
use Rattle.rtmfp_forms.proofs.Places.{first_true, second_true, both_true, place_same}
use Rattle.translators.specs.declared.rule.Rule.{Rule}
use Rattle.translators.specs.declared.rule.Rule.TheVariants.{Independent, Dependent}
use Rattle.translators.specs.declared.refusal.OutRefusal.{OutRefusal}
use Rattle.translators.specs.declared.refusal.OutRefusal.TheVariants.{Family, PortsFull}
use Rattle.translators.specs.declared.refusal.InRefusal.TheVariants.{Filtered}
use Rattle.translators.specs.Mappings.{Mapped, Call, has_host, new_for, used_by, place_of, map_of}
use Rattle.translators.specs.Translator.{TranslatorState, public_of, after_use, out_refusal, inward_of, through_filter, lets_in, v4}
use Rattle.translators.specs.Happenings.{had_alike, count_new, AreDone, HadAnswer, HadPlace, WentTo, ComesByCalls, MakesTheMap, HaveTheirOwnAddress, KeepTheirAddress, TakesTheNextPort, AreRefusedByCalls, ComesInByCallsAlone}
use Rattle.translators.proofs.Choices.{clash}
use Rattle.translators.proofs.Using.{len_least, own_below}
use Rattle.translators.proofs.Stems.{Stem, Before, Used, Made, stem, stays, stands, same_of, same_plain, host_is, one_more, IsAlone, alone}
use Rattle.translators.proofs.Alike.{place_alike, place_kept, own_place, at_end, AreFromV4, any_map, count_is, place_at_end}

turned : (a b : AddressParts) → SamePlace a b → SamePlace b a
turned a b s = record { family = sym s.family; host = sym s.host; port = sym s.port }

joined : (a b c : AddressParts) → SamePlace a b → SamePlace b c → SamePlace a c
joined a b c s t = record { family = s.family ∙ t.family; host = s.host ∙ t.host; port = s.port ∙ t.port }

no_family : (a b : Bool) (rest : Option OutRefusal) → (if a || b then Some Family else rest) ≡ None → (a ≡ false) × (b ≡ false)
no_family true b rest e = absurd cc
no_family false true rest e = absurd cc
no_family false false rest e = (refl, refl)

abbrev AreV4 : List Call → Type 0
AreV4 [] = Unit {0}
AreV4 (call ∷ before) = (call.inner.v6 ≡ false) × ((call.to.v6 ≡ false) × AreV4 before)

from_v4 : (calls : List Call) → AreV4 calls → AreFromV4 calls
from_v4 [] v = tt
from_v4 (call ∷ before) v = (v.0, from_v4 before v.1.1)

same_some : (m k : Mapped) → Some m ≡ Some k → m ≡ k
same_some m k e = cc

refused_by : (v w full full_too : Bool) (n m : ℕ) → (v ≡ false → full ≡ full_too) → n ≡ m
    → ◌≡◌ {A = Option OutRefusal} (if v || w then Some Family else if full then Some (PortsFull n) else None) (if v || w then Some Family else if full_too then Some (PortsFull m) else None)
refused_by true w full full_too n m same count = refl
refused_by false true full full_too n m same count = refl
refused_by false false full full_too n m same count = λ i. if same refl i then Some (PortsFull (count i)) else None

is_dependent : (rule : Rule) (m : Mapped) (from : AddressParts) → lets_in rule m from ≡ false → rule ≡ Dependent
is_dependent Independent m from e = absurd (clash (sym e))
is_dependent Dependent m from e = refl

lets_used : (rule : Rule) (m : Mapped) (from : AddressParts) → from.v6 ≡ false → has_host from.host m.towards ≡ true → lets_in rule m from ≡ true
lets_used Independent m from v has = refl
lets_used Dependent m from v has = both_true (not from.v6) (has_host from.host m.towards) (ap not v) has

not_true : (a : Bool) → not a ≡ true → a ≡ false
not_true true e = sym e
not_true false e = refl

at_least : (a b : ℕ) → a ≤ b → nat_le a b ≡ true
at_least a b e = grind (arith, e)

module _ (mapping filter : Rule) (host : List ℕ) (first : ℕ) where
  pub makes_the_map : MakesTheMap mapping filter host first
  makes_the_map [] = refl
  makes_the_map (call ∷ before) = ap (λ (t : TranslatorState). after_use t call) (makes_the_map before)

  are_v4 : (calls : List Call) → AreDone mapping filter host first calls → AreV4 calls
  are_v4 [] done = tt
  are_v4 (call ∷ before) done =
      let f = no_family call.inner.v6 call.to.v6 _ done.0 in
      (f.0, (f.1, are_v4 before done.1))

  -- the call is one of these, and its mapping stood at this place then
  abbrev Stood : List Call → Call → ℕ → Type 0
  Stood [] call i = ⊥
  Stood (newest ∷ before) call i = ((newest ≡ call) × (place_of mapping (map_of mapping before) newest ≡ i)) ⊎ Stood before call i

  record Placed (calls : List Call) (call : Call) (address : AddressParts) : Type 0 where
    pub place : ℕ
    pub had : Stood calls call place
    pub is : address ≡ v4 host (first + place)

  had_place : (calls : List Call) (call : Call) (address : AddressParts) → HadAnswer mapping filter host first calls call address → Placed calls call address
  had_place [] call address h = absurd h
  had_place (newest ∷ before) call address (inl h) = record {
    place = place_of mapping (map_of mapping before) newest;
    had = inl (h.0, refl);
    is = sym h.1 ∙ ap (λ (t : TranslatorState). public_of t newest) (makes_the_map before);
  }
  had_place (newest ∷ before) call address (inr h) =
      let p = had_place before call address h in
      record { place = p.place; had = inr p.had; is = p.is }

  had_answer : (calls : List Call) (call : Call) (i : ℕ) → Stood calls call i → HadAnswer mapping filter host first calls call (v4 host (first + i))
  had_answer [] call i h = absurd h
  had_answer (newest ∷ before) call i (inl h) =
      inl (h.0, ap (λ (t : TranslatorState). public_of t newest) (makes_the_map before) ∙ ap (λ (j : ℕ). v4 host (first + j)) h.1)
  had_answer (newest ∷ before) call i (inr h) = inr (had_answer before call i h)

  -- ---- each inner place has its own address

  record Kept (calls : List Call) (i : ℕ) (call : Call) : Type 0 where
    pub mapped : Mapped
    pub there : slice_get (map_of mapping calls) i ≡ Some mapped
    pub same : SamePlace mapped.inner call.inner
    pub noted : has_host call.to.host mapped.towards ≡ true
    pub family : call.to.v6 ≡ false

  kept : (calls : List Call) → AreV4 calls → (call : Call) (i : ℕ) → Stood calls call i → Kept calls i call
  kept [] v call i h = absurd h
  kept (newest ∷ before) v call i (inl h) =
      let s = stands mapping (map_of mapping before) newest v.0 in
      record {
        mapped = s.mapped;
        there = ap (slice_get (map_of mapping (newest ∷ before))) (sym h.1) ∙ s.there;
        same = subst (λ (c : Call). SamePlace s.mapped.inner c.inner) h.0 (place_same s.mapped.inner newest.inner s.same);
        noted = subst (λ (c : Call). has_host c.to.host s.mapped.towards ≡ true) h.0 s.noted;
        family = subst (λ (c : Call). c.to.v6 ≡ false) h.0 v.1.0;
      }
  kept (newest ∷ before) v call i (inr h) =
      let k = kept before v.1.1 call i h in
      let s = stays mapping (map_of mapping before) newest i k.mapped k.there in
      record {
        mapped = s.mapped;
        there = s.there;
        same = subst (λ (a : AddressParts). SamePlace a call.inner) (sym s.same) k.same;
        noted = s.keeps call.to.host k.noted;
        family = k.family;
      }

  one_host : (calls : List Call) (i : ℕ) (m : Mapped) → slice_get (map_of mapping calls) i ≡ Some m → mapping ≡ Dependent → IsAlone m
  one_host calls i m there is = alone calls i m (subst (λ (r : Rule). slice_get (map_of r calls) i ≡ Some m) is there)

  its_host : (m : Mapped) (a : IsAlone m) (h : List ℕ) → has_host h m.towards ≡ true → a.host ≡ h
  its_host m a h has = host_is a.host h (subst (λ (hs : List (List ℕ)). has_host h hs ≡ true) a.is has)

  pub have_their_own : HaveTheirOwnAddress mapping filter host first
  have_their_own calls one other address done h g =
      let v = are_v4 calls done in
      let p = had_place calls one address h in
      let q = had_place calls other address g in
      let ports : first + p.place ≡ first + q.place = ap (λ (a : AddressParts). a.port) (sym p.is ∙ q.is) in
      let same : p.place ≡ q.place = omega (arith, ports) in
      let k = kept calls v one p.place p.had in
      let l = kept calls v other q.place q.had in
      let is : k.mapped ≡ l.mapped = same_some k.mapped l.mapped (sym k.there ∙ ap (slice_get (map_of mapping calls)) same ∙ l.there) in
      record {
        inner =
            joined one.inner k.mapped.inner other.inner (turned k.mapped.inner one.inner k.same)
            (subst (λ (m : Mapped). SamePlace m.inner other.inner) (sym is) l.same);
        towards = λ dependent.
            let a = one_host calls p.place k.mapped k.there dependent in
            sym (its_host k.mapped a one.to.host k.noted)
            ∙ its_host k.mapped a other.to.host (subst (λ (m : Mapped). has_host other.to.host m.towards ≡ true) (sym is) l.noted);
      }

  -- ---- and keeps it

  record Stays (calls : List Call) (call : Call) (i : ℕ) : Type 0 where
    pub place : place_of mapping (map_of mapping calls) call ≡ i
    pub below : i < length (map_of mapping calls)

  stays_put : (calls : List Call) → AreV4 calls → (call : Call) (i : ℕ) → Stood calls call i → Stays calls call i
  stays_put [] v call i h = absurd h
  stays_put (newest ∷ before) v call i (inl h) = record {
    place = subst (λ (c : Call). place_of mapping (map_of mapping (newest ∷ before)) c ≡ i) h.0 (own_place mapping (map_of mapping before) newest v.0 ∙ h.1);
    below = subst (λ (p : ℕ). p < length (map_of mapping (newest ∷ before))) h.1 (own_below mapping (map_of mapping before) newest);
  }
  stays_put (newest ∷ before) v call i (inr h) =
      let w = stays_put before v.1.1 call i h in
      let below = subst (λ (p : ℕ). p < length (map_of mapping before)) (sym w.place) w.below in
      record {
        place = place_kept mapping (map_of mapping before) newest call below ∙ w.place;
        below = omega (arith, w.below, len_least mapping (map_of mapping before) newest);
      }

  pub keep_their : KeepTheirAddress mapping filter host first
  keep_their calls one other a b done h g alike =
      let v = are_v4 calls done in
      let p = had_place calls one a h in
      let q = had_place calls other b g in
      let same : p.place ≡ q.place =
      sym (stays_put calls v one p.place p.had).place ∙ place_alike mapping (map_of mapping calls) one other alike
      ∙ (stays_put calls v other q.place q.had).place in
      p.is ∙ ap (λ (j : ℕ). v4 host (first + j)) same ∙ sym q.is

  -- ---- ports

  pub takes_the_next : TakesTheNextPort mapping filter host first
  takes_the_next calls call done family none =
      ap (λ (t : TranslatorState). public_of t call) (makes_the_map calls)
      ∙ ap (λ (j : ℕ). v4 host (first + j)) (place_at_end mapping calls (from_v4 calls (are_v4 calls done)) call none)

  pub are_refused : AreRefusedByCalls mapping filter host first
  are_refused calls call done =
      let v = from_v4 calls (are_v4 calls done) in
      let ms = map_of mapping calls in
      let none : (place_of mapping ms call == length ms) ≡ not (had_alike mapping calls call) = at_end mapping ms call ∙ ap not (any_map mapping calls v call) in
      let count = count_is mapping calls v in
      ap (λ (t : TranslatorState). out_refusal t call) (makes_the_map calls)
      ∙ refused_by call.inner.v6 call.to.v6 ((place_of mapping ms call == length ms) && nat_lt 65535 (first + length ms))
      (not (had_alike mapping calls call) && nat_lt 65535 (first + count_new mapping calls)) (length ms) (count_new mapping calls)
      (λ is. λ i. none i && nat_lt 65535 (first + count i)) count

  -- ---- what comes in was called for

  record Caller (calls : List Call) (i : ℕ) (m : Mapped) : Type 0 where
    pub call : Call
    pub had : Stood calls call i
    pub same : SamePlace call.inner m.inner
    pub v4 : call.to.v6 ≡ false

  record Comes (calls : List Call) (i : ℕ) (m : Mapped) : Type 0 where
    pub any : Caller calls i m
    pub each : (h : List ℕ) → has_host h m.towards ≡ true → (c : Caller calls i m) × (c.call.to.host ≡ h)

  later_caller : (newest : Call) (before : List Call) (i : ℕ) (k m : Mapped) → k.inner ≡ m.inner → Caller before i k → Caller (newest ∷ before) i m
  later_caller newest before i k m is c = record { call = c.call; had = inr c.had; same = subst (λ (a : AddressParts). SamePlace c.call.inner a) is c.same; v4 = c.v4 }

  later_each : (newest : Call) (before : List Call) (i : ℕ) (k m : Mapped) → k.inner ≡ m.inner → (h : List ℕ) → (c : Caller before i k) × (c.call.to.host ≡ h) → (c : Caller (newest ∷ before) i m) × (c.call.to.host ≡ h)
  unfolding later_caller
  later_each newest before i k m is h c = (later_caller newest before i k m is c.0, c.1)

  newest_caller : (newest : Call) (before : List Call) (i : ℕ) (m : Mapped) → newest.to.v6 ≡ false → place_of mapping (map_of mapping before) newest ≡ i → is_same_place m.inner newest.inner ≡ true → Caller (newest ∷ before) i m
  newest_caller newest before i m v at same = record { call = newest; had = inl (refl, at); same = turned m.inner newest.inner (place_same m.inner newest.inner same); v4 = v }

  comes_by : (newest : Call) (before : List Call) → AreV4 (newest ∷ before) → (i : ℕ) (m : Mapped) → Stem mapping (map_of mapping before) newest i m
      → ((k : Mapped) → slice_get (map_of mapping before) i ≡ Some k → Comes before i k) → Comes (newest ∷ before) i m
  unfolding newest_caller
  comes_by newest before v i m (Before e) earlier =
      let c = earlier m e in
      record { any = later_caller newest before i m m refl c.any; each = λ h has. later_each newest before i m m refl h (c.each h has) }
  comes_by newest before v i m (Used k at e of u) earlier =
      let c = earlier k e in
      let n : Caller (newest ∷ before) i (used_by k newest) = newest_caller newest before i (used_by k newest) v.1.0 at (same_of mapping k newest of) in
      subst (λ (x : Mapped). Comes (newest ∷ before) i x) u
      (record {
        any = n;
        each = λ h has. elim (one_more k newest h has) [
          | inl old ↦ later_each newest before i k (used_by k newest) refl h (c.each h old)
          | inr is ↦ (n, is)
        ];
      })
  comes_by newest before v i m (Made at e) earlier =
      let n : Caller (newest ∷ before) i (new_for newest) = newest_caller newest before i (new_for newest) v.1.0 at (same_plain newest.inner v.0) in
      subst (λ (x : Mapped). Comes (newest ∷ before) i x) e (record { any = n; each = λ h has. (n, host_is newest.to.host h has) })

  comes : (calls : List Call) → AreV4 calls → (i : ℕ) (m : Mapped) → slice_get (map_of mapping calls) i ≡ Some m → Comes calls i m
  comes [] v i m e = absurd cc
  comes (newest ∷ before) v i m e = comes_by newest before v i m (stem mapping (map_of mapping before) newest i m e) (comes before v.1.1 i)

  record Chosen (rule : Rule) (calls : List Call) (i : ℕ) (m : Mapped) (from : AddressParts) : Type 0 where
    pub caller : Caller calls i m
    pub went : rule ≡ Dependent → WentTo caller.call from

  chosen : (rule : Rule) (calls : List Call) (i : ℕ) (m : Mapped) (from : AddressParts) → lets_in rule m from ≡ true → Comes calls i m → Chosen rule calls i m from
  chosen Independent calls i m from lets c = record { caller = c.any; went = λ is. absurd cc }
  chosen Dependent calls i m from lets c =
      let w = c.each from.host (second_true (not from.v6) (has_host from.host m.towards) lets) in
      let v = not_true from.v6 (first_true (not from.v6) (has_host from.host m.towards) lets) in
      record { caller = w.0; went = λ is. record { family = w.0.v4 ∙ sym v; host = w.1 } }

  abbrev public : List ℕ
  public = host ++ replicate 12 0

  -- whether an address is the public host with a port from the first on
  abbrev is_public : AddressParts → Bool
  is_public to = not to.v6 && (bytes_eq to.host public && nat_le first to.port)

  -- a call whose answer was this public place, by its place among the mappings
  record Was (calls : List Call) (to : AddressParts) (call : Call) : Type 0 where
    pub stood : Stood calls call (to.port - first)
    pub public : is_public to ≡ true

  was : (calls : List Call) (to : AddressParts) (call : Call) → HadPlace mapping filter host first calls to call → Was calls to call
  was calls to call h =
      let p = had_place calls call h.address h.answer in
      let s : SamePlace (v4 host (first + p.place)) to = subst (λ (a : AddressParts). SamePlace a to) p.is h.is_to in
      let port : first + p.place ≡ to.port = s.port in
      let i : p.place ≡ to.port - first = omega (arith, port) in
      let above : first ≤ to.port = omega (arith, port) in
      record {
        stood = subst (λ (j : ℕ). Stood calls call j) i p.had;
        public =
            both_true (not to.v6) (bytes_eq to.host public && nat_le first to.port) (ap not (sym s.family))
            (both_true (bytes_eq to.host public) (nat_le first to.port) ((bytes_eq-Decides to.host public).1 (sym s.host)) (at_least first to.port above));
      }

  back : (a b : ℕ) → nat_le a b ≡ true → a + (b - a) ≡ b
  back a b e = omega (arith, leb-true a b e)

  had : (calls : List Call) (to : AddressParts) (call : Call) → is_public to ≡ true → Stood calls call (to.port - first) → HadPlace mapping filter host first calls to call
  had calls to call is stood =
      let rest = second_true (not to.v6) (bytes_eq to.host public && nat_le first to.port) is in
      record {
        address = v4 host (first + (to.port - first));
        answer = had_answer calls call (to.port - first) stood;
        is_to = record {
          family = sym (not_true to.v6 (first_true (not to.v6) (bytes_eq to.host public && nat_le first to.port) is));
          host = sym ((bytes_eq-Decides to.host public).0 (first_true (bytes_eq to.host public) (nat_le first to.port) rest));
          port = back first to.port (second_true (bytes_eq to.host public) (nat_le first to.port) rest);
        };
      }

  through : (calls : List Call) → AreV4 calls → (to from : AddressParts) → is_public to ≡ true → (m : Mapped) → slice_get (map_of mapping calls) (to.port - first) ≡ Some m
      → (b : Bool) → lets_in filter m from ≡ b → ComesByCalls mapping filter host first calls to from (if b then Ok m.inner else Err Filtered)
  through calls v to from is m there true lets =
      let c = chosen filter calls (to.port - first) m from lets (comes calls v (to.port - first) m there) in
      record {
        call = c.caller.call;
        had = had calls to c.caller.call is c.caller.had;
        is_inner = c.caller.same;
        went = c.went;
      }
  through calls v to from is m there false lets =
      let c = comes calls v (to.port - first) m there in
      record {
        call = c.any.call;
        had = had calls to c.any.call is c.any.had;
        dependent = is_dependent filter m from lets;
        never = λ other was_there went.
            let w = was calls to other was_there in
            let k = kept calls v other (to.port - first) w.stood in
            let same : k.mapped ≡ m = same_some k.mapped m (sym k.there ∙ there) in
            let noted : has_host from.host m.towards ≡ true =
            subst (λ (h : List ℕ). has_host h m.towards ≡ true) went.host (subst (λ (x : Mapped). has_host other.to.host x.towards ≡ true) same k.noted) in
            clash (sym lets ∙ lets_used filter m from (sym went.family ∙ k.family) noted);
      }

  at_place : (calls : List Call) → AreV4 calls → (to from : AddressParts) → is_public to ≡ true → (o : Option Mapped) → slice_get (map_of mapping calls) (to.port - first) ≡ o
      → ComesByCalls mapping filter host first calls to from (through_filter filter o from)
  at_place calls v to from is (Some m) there = through calls v to from is m there (lets_in filter m from) refl
  at_place calls v to from is None there = λ call h.
      let w = was calls to call h in
      let k = kept calls v call (to.port - first) w.stood in
      nothing_there k.mapped (sym k.there ∙ there)
    where
      nothing_there : (m : Mapped) → Some m ≡ None → ⊥
      nothing_there m e = absurd cc

  at_address : (calls : List Call) → AreV4 calls → (to from : AddressParts) → (b : Bool) → is_public to ≡ b
      → ComesByCalls mapping filter host first calls to from (through_filter filter (if b then slice_get (map_of mapping calls) (to.port - first) else None) from)
  at_address calls v to from true is = at_place calls v to from is (slice_get (map_of mapping calls) (to.port - first)) refl
  at_address calls v to from false is = λ call h. clash (sym is ∙ (was calls to call h).public)

  pub comes_in : ComesInByCallsAlone mapping filter host first
  comes_in calls to from done =
      subst (λ (t : TranslatorState). ComesByCalls mapping filter host first calls to from (inward_of t to from)) (sym (makes_the_map calls))
      (at_address calls (are_v4 calls done) to from (is_public to) refl)
