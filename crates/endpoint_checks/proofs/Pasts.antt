-- What was done in short logs: at which moment, and what was closed.
use Rattle.std.proofs.Common.{ℕ, List, [], ◌∷◌, ◌++◌, ◌≡◌, inl, inr, refl, sym, subst, Option, Some, None, true, false}
use Rattle.std.specs.Prelude.{Bool}
use Rattle.glare_core.specs.declared.facts.Why.{Why}
use Rattle.glare_core.specs.declared.facts.Fact.{Fact}
use Rattle.glare_core.specs.declared.facts.Fact.TheVariants.{Started, Born, Opened, Confirmed, Ended}
use Rattle.glare_core.specs.declared.facts.Held.{Held}
use Rattle.glare_core.specs.Standing.{held}
use Rattle.endpoint_model.specs.declared.entry.Entry.{Entry}
use Rattle.endpoint_model.specs.declared.entry.Entry.TheVariants.{Fact as FactEntry}
use Rattle.endpoint_model.specs.Event.{Cancel, Event}
use Rattle.endpoint_laws.specs.Past.{Stamped, Happening, OfEvent, OfEntry, WasDone, begun, stamped, facts_of, fact_done, is_close, Closes, IsClosing, Past}
use Rattle.endpoint_checks.specs.Logs.{doing}

-- an event, for lemmas that look at none
abbrev pub some_event : Event
some_event = doing 0 (Cancel 0) []

-- ---- moments

-- where this is the entry, it was added at this moment
abbrev pub AddedAt : ℕ → Entry → ℕ → Happening → Type 0
AddedAt at entry moment (OfEvent event) = Unit {0}
AddedAt at entry moment (OfEntry other) = entry ≡ other → moment ≡ at

abbrev pub AllAddedAt : ℕ → Entry → Past → Type 0
AllAddedAt at entry [] = Unit {0}
AllAddedAt at entry (s ∷ past) = AddedAt at entry s.moment s.what × AllAddedAt at entry past

pub was_at : (at start : ℕ) (entry : Entry) (past : Past) → AllAddedAt at entry past → WasDone (stamped start entry) past → start ≡ at
was_at at start entry [] all none = absurd none
was_at at start entry (s ∷ past) all (inl is) = subst (λ (t : Stamped). AddedAt at entry t.moment t.what) (sym is) all.0 refl
was_at at start entry (s ∷ past) all (inr was) = was_at at start entry past all.1 was

-- after one event with one entry, after two with one each
pub was_once : (start m n : ℕ) (entry x : Entry) (e c : Event) → WasDone (stamped start entry) (begun m e ∷ stamped n x ∷ begun n c ∷ []) → start ≡ n
was_once start m n entry x e c was = was_at n start entry (begun m e ∷ stamped n x ∷ begun n c ∷ []) (tt, ((λ _. refl), (tt, tt))) was

pub was_twice : (start m n : ℕ) (entry x y : Entry) (e d c : Event) → WasDone (stamped start entry) (begun m e ∷ stamped n y ∷ begun n d ∷ stamped n x ∷ begun n c ∷ []) → start ≡ n
was_twice start m n entry x y e d c was = was_at n start entry (begun m e ∷ stamped n y ∷ begun n d ∷ stamped n x ∷ begun n c ∷ []) (tt, ((λ _. refl), (tt, ((λ _. refl), (tt, tt))))) was

-- ---- what is closing

abbrev pub is_end : Option Fact → Bool
is_end None = false
is_end (Some (Started peer n near ni)) = false
is_end (Some (Born j)) = false
is_end (Some (Opened j)) = false
is_end (Some (Confirmed peer near)) = false
is_end (Some (Ended peer near why)) = true

abbrev pub NothingEnds : Past → Type 0
NothingEnds [] = Unit {0}
NothingEnds (s ∷ earlier) = (is_end (fact_done s.what) ≡ false) × NothingEnds earlier

closes_ends : (near : ℕ) (thing : Held) (before : List Fact) (o : Option Fact) → is_end o ≡ false → Closes near thing before o → ⊥
closes_ends near thing before None none c = c
closes_ends near thing before (Some (Started peer n id ni)) none c = c
closes_ends near thing before (Some (Born j)) none c = c
closes_ends near thing before (Some (Opened j)) none c = c
closes_ends near thing before (Some (Confirmed peer id)) none c = c
closes_ends near thing before (Some (Ended peer id why)) none c = let clash : true ≡ false = none in cc

-- where nothing ended, nothing is closing
pub none_closing : (near : ℕ) (thing : Held) (at : ℕ) (past : Past) → NothingEnds past → IsClosing near thing at past → ⊥
none_closing near thing at [] none c = c
none_closing near thing at (s ∷ earlier) none (inl c) = closes_ends near thing (facts_of earlier) (fact_done s.what) none.0 c.0
none_closing near thing at (s ∷ earlier) none (inr c) = none_closing near thing at earlier none.1 c.1

-- where one thing ended, it is this one
pub record OneClosed (near : ℕ) (thing : Held) (at moment : ℕ) (peer : List ℕ) (id : ℕ) (why : Why) (before : List Fact) : Type 0 where
  pub id_is : id ≡ near
  pub closes : is_close why ≡ true
  pub was_held : held peer before ≡ Some thing
  pub moment_is : moment ≡ at

pub one_closing : (near : ℕ) (thing : Held) (at : ℕ) (front : Past) (moment : ℕ) (peer : List ℕ) (id : ℕ) (why : Why) (back : Past) → NothingEnds front → NothingEnds back →
    IsClosing near thing at (front ++ stamped moment (FactEntry (Ended peer id why)) ∷ back) → OneClosed near thing at moment peer id why (facts_of back)
one_closing near thing at [] moment peer id why back none more (inl c) = record { id_is = c.0.0; closes = c.0.1; was_held = c.0.2; moment_is = c.1 }
one_closing near thing at [] moment peer id why back none more (inr c) = absurd (none_closing near thing at back more c.1)
one_closing near thing at (s ∷ front) moment peer id why back none more (inl c) = absurd (closes_ends near thing _ (fact_done s.what) none.0 c.0)
one_closing near thing at (s ∷ front) moment peer id why back none more (inr c) = one_closing near thing at front moment peer id why back none.1 more c.1
