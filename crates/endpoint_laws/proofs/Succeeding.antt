-- The succession of the group's secrets in a log: only learning and going over change what an end knows of generations, and each log has a map with all secrets that the end was given and learnt.
use Rattle.std.proofs.Common.{◌≡◌, ℕ, ◌+◌, ◌≤◌, List, [], ◌∷◌, ◌++◌, map, Option, Some, None, inl, inr, refl, sym, ap, subst, ◌∙◌, arith}
use Rattle.std.specs.FinMap.{get, insert, empty}
use Rattle.rtmfp_base.proofs.Maps.{get_inserted, get_beside}
use Rattle.rtmfp_base.specs.Reasons.{first_that_stands}
use Rattle.crypto_profile.specs.declared.group.GroupSecret.{GroupSecret}
use Rattle.glare_core.specs.declared.facts.Held.{Held}
use Rattle.glare_core.specs.declared.facts.Held.TheVariants.{Opening, HalfOpen, KeptAsResponder, KeptAsInitiator}
use Rattle.glare_core.specs.Calls.{way_made}
use Rattle.session_flows.specs.declared.refusal.CallRefusal.{CallRefusal}
use Rattle.endpoint_model.specs.declared.entry.Entry.{Entry}
use Rattle.endpoint_model.specs.Views.{learnt_in, advanced_in}
use Rattle.endpoint_model.specs.Event.{Setup, Call, Learn, Advance, Answer, Succeeds, Event, moment_at}
use Rattle.endpoint_model.specs.State.{State, Did, Does, fact_entries, fresh, at_moment}
use Rattle.endpoint_model.specs.Succession.{next_known, no_next, learn_refusal, learning, advancing_to}
use Rattle.endpoint_model.specs.OnFlows.{flow_entry}
use Rattle.endpoint_model.specs.Log.{Answers, Leads, StandsFor}
use Rattle.endpoint_laws.specs.Past.{Past, stamped, begun, onto, with_event, last_call, learn_of, current_of, current_after, next_of, next_after, next_left, WasLearnt, past_of, past_of_log}
use Rattle.endpoint_laws.specs.Contexts.{Secrets, Knows}
use Rattle.endpoint_laws.proofs.Unseen.{AreUnseen, flows_unseen}
use Rattle.endpoint_laws.proofs.PacketPieces.{any_sends}
use Rattle.endpoint_laws.proofs.Small.{Quiet, stated_of, Any, All, Begins, Enters}
use Rattle.endpoint_laws.proofs.Made.{all_law, answers_made_beside}

-- ---- entries that say nothing of generations

pub record NamesNone (entry : Entry) : Type 0 where
  pub no_learnt : learnt_in entry ≡ None
  pub no_advanced : advanced_in entry ≡ None

abbrev pub NamesNoneEach : List Entry → Type 0
NamesNoneEach [] = Unit {0}
NamesNoneEach (entry ∷ rest) = NamesNone entry × NamesNoneEach rest

pub names_append : (xs ys : List Entry) → NamesNoneEach xs → NamesNoneEach ys → NamesNoneEach (xs ++ ys)
names_append [] ys p q = q
names_append (x ∷ xs) ys p q = (p.0, names_append xs ys p.1 q)

names_unseen : (entries : List Entry) → AreUnseen entries → NamesNoneEach entries
names_unseen [] are = tt
names_unseen (entry ∷ rest) are = (record { no_learnt = are.0.no_learnt; no_advanced = are.0.no_advanced }, names_unseen rest are.1)

-- so the generations are those before
pub current_onto : (setup : Setup) (now : ℕ) (entries : List Entry) (past : Past) → NamesNoneEach entries → current_of setup (onto now entries past) ≡ current_of setup past
current_onto setup now [] past none = refl
current_onto setup now (x ∷ xs) past none = current_onto setup now xs (stamped now x ∷ past) none.1 ∙ ap (λ (o : Option ℕ). current_after o (current_of setup past)) none.0.no_advanced

pub next_onto : (now : ℕ) (entries : List Entry) (past : Past) → NamesNoneEach entries → next_of (onto now entries past) ≡ next_of past
next_onto now [] past none = refl
next_onto now (x ∷ xs) past none =
    next_onto now xs (stamped now x ∷ past) none.1
    ∙ ap (λ (o : Option ℕ). next_after o (next_left (advanced_in x) (next_of past))) none.0.no_learnt
    ∙ ap (λ (o : Option ℕ). next_left o (next_of past)) none.0.no_advanced

pub learnt_onto : (now : ℕ) (entries : List Entry) (past : Past) (generation : ℕ) (secret : List ℕ) → NamesNoneEach entries → WasLearnt generation secret (onto now entries past) → WasLearnt generation secret past
learnt_onto now [] past generation secret none was = was
learnt_onto now (x ∷ xs) past generation secret none was = elim (learnt_onto now xs (stamped now x ∷ past) generation secret none.1 was) [
  | inl own ↦ (let clash : None ≡ Some generation = sym none.0.no_learnt ∙ own.0 in absurd (cc))
  | inr old ↦ old
]

-- ---- all but learning and going over leaves the generations as they are

pub record StaysInGroup (s : State) (d : Did) : Type 0 where
  pub group : d.state.group ≡ s.group
  pub next : d.state.next ≡ s.next
  pub none : NamesNoneEach d.entries

names_way : (peer : List ℕ) (h : Option Held) → NamesNoneEach (fact_entries (way_made peer h))
names_way peer None = tt
names_way peer (Some (Opening n near ni)) = (record { no_learnt = refl; no_advanced = refl }, tt)
names_way peer (Some (HalfOpen j)) = (record { no_learnt = refl; no_advanced = refl }, tt)
names_way peer (Some (KeptAsResponder j)) = (record { no_learnt = refl; no_advanced = refl }, tt)
names_way peer (Some (KeptAsInitiator j)) = (record { no_learnt = refl; no_advanced = refl }, tt)

-- one entry that says nothing of them
one_stays : (s t : State) (entry : Entry) → t.group ≡ s.group → t.next ≡ s.next → learnt_in entry ≡ None → advanced_in entry ≡ None → StaysInGroup s (record { state = t; entries = entry ∷ [] })
one_stays s t entry group next learnt advanced = record { group = group; next = next; none = (record { no_learnt = learnt; no_advanced = advanced }, tt) }

none_stays : (s t : State) → t.group ≡ s.group → t.next ≡ s.next → StaysInGroup s (record { state = t; entries = [] })
none_stays s t group next = record { group = group; next = next; none = tt }

pub stays_quiet : Quiet Any StaysInGroup
stays_quiet = record {
  sends = any_sends (record {
    steps = record {
      does_nothing = λ s. none_stays s s refl refl;
      and_then = λ s d e first later. record { group = later.group ∙ first.group; next = later.next ∙ first.next; none = names_append d.entries e.entries first.none later.none };
    };
    out = λ s generation keys to sid plain. one_stays s _ _ refl refl refl refl;
    out_in = λ s near row to body is. one_stays s _ _ refl refl refl refl;
    packets = λ s near row is. none_stays s _ refl refl;
  });
  attempts = λ s startup kin. none_stays s _ refl refl;
  close = tt;
  close_ack = tt;
  empty_ping = tt;
  discards = λ s at cause. one_stays s _ _ refl refl refl refl;
  ends = λ s startup peer near why kin. one_stays s _ _ refl refl refl refl;
  unseeks = λ s startup near why kin. one_stays s _ _ refl refl refl refl;
  confirms = λ s startup peer near kin. one_stays s _ _ refl refl refl refl;
  closes = λ s near. one_stays s _ _ refl refl refl refl;
  forgets = λ s near. none_stays s _ refl refl;
  moves = λ s near to. one_stays s _ _ refl refl refl refl;
  goes_on = λ s near old new is goes. none_stays s _ refl refl;
}

pub stays_law : All Any StaysInGroup
stays_law = all_law stays_quiet (λ s near row thing is may. record { group = refl; next = refl; none = names_unseen (map (flow_entry near) (stated_of row thing)) (flows_unseen near (stated_of row thing)) }) (λ s near id row x is. none_stays s _ refl refl)

pub stays_begins : Begins StaysInGroup StaysInGroup
stays_begins = record {
  quiet = λ s d stays. stays;
  steps = stays_quiet.sends.steps;
  starts = λ s startup peer n near ni kin. one_stays s _ _ refl refl refl refl;
  seeks = λ s startup near name kin. one_stays s _ _ refl refl refl refl;
  bears = λ s generation peer o j from. record { group = refl; next = refl; none = names_append (fact_entries (way_made peer o)) _ (names_way peer o) (record { no_learnt = refl; no_advanced = refl }, tt) };
  opens = λ s startup j from kin. one_stays s _ _ refl refl refl refl;
}

pub stays_enters : Enters StaysInGroup
stays_enters = record { counts = λ s near row session is. none_stays s _ refl refl; unseen = λ s limit introduces rows. none_stays s _ refl refl }

-- ---- the secrets of a log

-- the number that was told last
abbrev newest : GroupSecret → Option GroupSecret → ℕ
newest current None = current.generation
newest current (Some next) = next.generation

-- A map has all secrets, and the numbers rise.
record HasMap (setup : Setup) (past : Past) (s : State) : Type 0 where
  secrets : Secrets
  knows : Knows secrets setup past
  first : setup.generation ≤ newest s.group s.next
  below : (generation : ℕ) (secret : List ℕ) → WasLearnt generation secret past → generation ≤ newest s.group s.next

-- what no call learnt and no call went over to
map_stays : (setup : Setup) (past : Past) (s t : State) (now : ℕ) (entries : List Entry) → HasMap setup past s → newest t.group t.next ≡ newest s.group s.next →
    ((generation : ℕ) (secret : List ℕ) → WasLearnt generation secret (onto now entries past) → WasLearnt generation secret past) → HasMap setup (onto now entries past) t
map_stays setup past s t now entries m same before = record {
  secrets = m.secrets;
  knows = record { first = m.knows.first; learnt = λ g secret was. m.knows.learnt g secret (before g secret was) };
  first = omega (arith, m.first, same);
  below = λ g secret was. omega (arith, m.below g secret (before g secret was), same);
}

-- a next one is learnt where none is known
none_known : (next : Option GroupSecret) (rest : List (Option CallRefusal)) → first_that_stands (next_known next ∷ rest) ≡ None → next ≡ None
none_known None rest e = refl
none_known (Some next) rest e = absurd (cc)

module _ (setup : Setup) (past : Past) (s : State) (m : HasMap setup past s) (now : ℕ) (secret : List ℕ) (last : learn_of (last_call past) ≡ Some secret) (none : learn_refusal s secret ≡ None) where
  abbrev number : ℕ
  number = s.group.generation + 1

  unknown : s.next ≡ None
  unknown = none_known s.next _ none

  old_below : newest s.group s.next ≡ s.group.generation
  old_below = ap (newest s.group) unknown

  beside : (generation : ℕ) → generation ≤ newest s.group s.next → generation ≡ number → ⊥
  beside generation le is = absurd (omega (arith, le, is, old_below))

  map_learns : HasMap setup (onto now (learning s secret).entries past) (learning s secret).state
  map_learns = record {
    secrets = insert m.secrets number secret;
    knows = record {
      first = get_beside m.secrets number secret setup.generation (beside setup.generation m.first) ∙ m.knows.first;
      learnt = λ g other was. elim was [
        | inl own ↦ ap (get (insert m.secrets number secret)) (its own.0) ∙ get_inserted m.secrets number secret ∙ sym last ∙ own.1
        | inr old ↦ get_beside m.secrets number secret g (beside g (m.below g other old)) ∙ m.knows.learnt g other old
      ];
    };
    first = omega (arith, m.first, old_below);
    below = λ g other was. elim was [ inl own ↦ omega (arith, its own.0) | inr old ↦ omega (arith, m.below g other old, old_below) ];
  }
    where
      its : {g : ℕ} → Some number ≡ Some g → g ≡ number
      its e = sym (let same : number ≡ _ = cc in same)

map_advances : (setup : Setup) (past : Past) (s : State) (now : ℕ) (next : Option GroupSecret) → s.next ≡ next → no_next next ≡ None → HasMap setup past s → HasMap setup (onto now (advancing_to s next).entries past) (advancing_to s next).state
map_advances setup past s now None is none m = absurd (cc)
map_advances setup past s now (Some next) is none m = map_stays setup past s (advancing_to s (Some next)).state now (advancing_to s (Some next)).entries m (sym (ap (newest s.group) is)) (λ g secret was. elim was [
  | inl own ↦ (let clash : None ≡ Some g = own.0 in absurd (cc))
  | inr old ↦ old
])

map_does : (setup : Setup) (past : Past) (now : ℕ) (d : Did) (t : State) (entries : List Entry) → Does d t [] entries → HasMap setup (onto now d.entries past) d.state → HasMap setup (onto now entries past) t
map_does setup past now d t entries does m =
    subst (λ (u : State). HasMap setup (onto now entries past) u) (sym does.state) (subst (λ (es : List Entry). HasMap setup (onto now es past) d.state) (sym does.entries) m)

map_answers : (setup : Setup) (past : Past) (now : ℕ) (s t : State) (call : Call) (answer : Answer) (entries : List Entry) → last_call past ≡ Some call → HasMap setup past s → Answers s call answer entries t → HasMap setup (onto now entries past) t
map_answers setup past now s t (Learn secret) (Succeeds generation) entries last m h = map_does setup past now (learning s secret) t entries h.2 (map_learns setup past s m now secret (ap learn_of last) h.0)
map_answers setup past now s t Advance (Succeeds generation) entries last m h = map_does setup past now (advancing_to s s.next) t entries h.2 (map_advances setup past s now s.next refl h.0 m)
map_answers setup past now s t call answer entries last m h =
    let made = answers_made_beside stays_law stays_begins stays_enters s t call answer entries tt h in
    let d : Did = made.did in
    map_does setup past now d t entries made.does
    (map_stays setup past s d.state now d.entries m (ap (λ (g : GroupSecret). newest g d.state.next) made.made.group ∙ ap (newest s.group) made.made.next) (λ g secret was. learnt_onto now d.entries past g secret made.made.none was))

map_leads : (setup : Setup) (last : ℕ) (past : Past) (log : List Event) (s t : State) → HasMap setup past s → Leads s log t → HasMap setup (past_of last past log) t
map_leads setup last past [] s t m same = subst (HasMap setup past) same m
map_leads setup last past (e ∷ log) s t m (middle, step, rest) =
    let now : ℕ = moment_at last e in
    let noted : State = at_moment s e.moment in
    let before : HasMap setup (begun now e ∷ past) noted = record {
      secrets = m.secrets;
      knows = record { first = m.knows.first; learnt = λ g secret was. m.knows.learnt g secret (unbegun g secret was) };
      first = m.first;
      below = λ g secret was. m.below g secret (unbegun g secret was);
    } in
    map_leads setup now (with_event now e past) log middle t (map_answers setup (begun now e ∷ past) now noted middle e.call e.answer e.entries refl before step) rest
  where
    unbegun : (g : ℕ) (secret : List ℕ) → WasLearnt g secret (begun (moment_at last e) e ∷ past) → WasLearnt g secret past
    unbegun g secret (inl own) = let clash : None ≡ Some g = own.0 in absurd (cc)
    unbegun g secret (inr old) = old

map_fresh : (setup : Setup) → HasMap setup [] (fresh setup)
map_fresh setup = record {
  secrets = insert empty setup.generation setup.secret;
  knows = record { first = get_inserted empty setup.generation setup.secret; learnt = λ g secret none. absurd none };
  first = omega arith;
  below = λ g secret none. absurd none;
}

-- for each log that an end stands for there is a map with all that it was given and learnt
pub secrets_of_log : (setup : Setup) (log : List Event) (s : State) → StandsFor setup log s → (secrets : Secrets) × Knows secrets setup (past_of_log log)
secrets_of_log setup log s stands = let m = map_leads setup 0 [] log (fresh setup) s (map_fresh setup) stands in (m.secrets, m.knows)
