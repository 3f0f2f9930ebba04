-- The entries of an event, judged one after another.
use Rattle.std.proofs.Common.{ℕ, ◌+◌, ◌-◌, ◌<◌, ◌≤◌, ◌≡◌, List, [], ◌∷◌, ◌++◌, length, get_or, take, drop, refl, sym, ap, subst, ◌∙◌, inl, inr, Option, Some, None, arith}
use Rattle.std.proofs.lemmas.List.{take_all}
use Rattle.rtmfp_packet.specs.Whole.{Whole}
use Rattle.endpoint_model.specs.declared.entry.Entry.{Entry}
use Rattle.endpoint_model.specs.Event.{Setup, Event}
use Rattle.endpoint_laws.specs.Past.{Past, with_begun, with_entry}
use Rattle.endpoint_laws.specs.Contexts.{Secrets}
use Rattle.endpoint_laws.specs.Lawful.{Line}
use Rattle.log_digest.specs.Nonces.{NonceSet, AreNonces}
use Rattle.log_births.specs.declared.party.Way.{Way}
use Rattle.log_events.specs.declared.watch.EndWatch.{EndWatch}
use Rattle.log_verdict.specs.declared.verdict.AuditFault.{AuditFault}
use Rattle.log_verdict.specs.declared.verdict.AuditFault.TheVariants.{Secrets as ForSecrets, Unlawful, NotHonest, NotFresh}
use Rattle.log_verdict.specs.declared.verdict.Finding.{Finding}
use Rattle.log_verdict.specs.Checks.{found, AreNew, nonces_at, EntriesFail}
use Rattle.log_entries.specs.declared.scene.Scene.{Scene}
use Rattle.log_entries.specs.Found.{IsFoundOf}
use Rattle.log_entries.specs.Scenes.{IsHere}
use Rattle.log_judging.specs.Entries.{AreJudged, IsGoingOn}

module _ (secrets : Secrets) (number : ℕ) (setup : Setup) (now : ℕ) (e : Event) (past : Past) (stated : List (List ℕ)) (count : ℕ) (rest : List Entry) (entry : Entry) where
  -- An entry that passes, and then the rest.
  one_passes : Line secrets setup now e.call past rest entry → AreNew (nonces_at entry) stated → (w : EndWatch) (n : NonceSet) (f : Option Finding) →
      AreJudged secrets number setup now e.call (with_entry now entry past) (nonces_at entry ++ stated) (count + 1) rest w n f →
      AreJudged secrets number setup now e.call past stated count (entry ∷ rest) w n f
  one_passes line new w n None are = ((line, new, are.0), are.1, are.2)
  one_passes line new w n (Some f) fails = inr (line, inr (new, fails))

  -- One that doesn't.
  one_fails : (fault : AuditFault) → IsFoundOf (Line secrets setup now e.call past rest entry) (AreNew (nonces_at entry) stated) (Some fault) →
      EntriesFail secrets number setup now e.call past stated count (entry ∷ rest) (found number (count + 1) fault)
  one_fails Unlawful is = inl (is, refl)
  one_fails NotFresh is = inr (is.0, inl (is.1, refl))
  one_fails ForSecrets is = absurd is
  one_fails NotHonest is = absurd is

-- The event is judged so far; and what is found of the rest of its entries is found of all.
pub record AreSoFar (secrets : Secrets) (number : ℕ) (setup : Setup) (now : ℕ) (e : Event) (before : Past) (stated0 : List (List ℕ)) (s : Scene) (packet : Option Whole) (entries rest : List Entry)
    (count : ℕ) (w : EndWatch) (way : Option Way) (n : NonceSet) : Type 0 where
  pub past : Past
  pub stated : List (List ℕ)
  pub on : IsGoingOn secrets setup now e before past stated s packet w way n
  pub goes : (v : EndWatch) (m : NonceSet) (f : Option Finding) → AreJudged secrets number setup now e.call past stated count rest v m f →
      AreJudged secrets number setup now e.call (with_begun now e before) stated0 0 entries v m f

-- The same for each event that stands so when it begins.
pub record AllSoFar (secrets : Secrets) (number : ℕ) (s : Scene) (packet : Option Whole) (entries : List Entry) (w0 : EndWatch) (n0 : NonceSet) (rest : List Entry) (count : ℕ) (w : EndWatch)
    (way : Option Way) (n : NonceSet) : Type 0 where
  pub so : (setup : Setup) (now : ℕ) (e : Event) (before : Past) (stated : List (List ℕ)) → IsGoingOn secrets setup now e before (with_begun now e before) stated s packet w0 None n0 →
      AreSoFar secrets number setup now e before stated s packet entries rest count w way n

-- What is found of an entry.
pub record IsFoundThere (secrets : Secrets) (s : Scene) (packet : Option Whole) (w : EndWatch) (way : Option Way) (n : NonceSet) (rest : List Entry) (entry : Entry) (fault : Option AuditFault)
    : Type 0 where
  pub is : (setup : Setup) (now : ℕ) (e : Event) (before past : Past) (stated : List (List ℕ)) → IsGoingOn secrets setup now e before past stated s packet w way n →
      IsFoundOf (Line secrets setup now e.call past rest entry) (AreNew (nonces_at entry) stated) fault

-- It is added.
pub record IsAddedThere (secrets : Secrets) (s : Scene) (packet : Option Whole) (w : EndWatch) (way : Option Way) (n : NonceSet) (entry : Entry) (v : EndWatch) (next : Option Way) (m : NonceSet)
    : Type 0 where
  pub is : (setup : Setup) (now : ℕ) (e : Event) (before past : Past) (stated : List (List ℕ)) → IsGoingOn secrets setup now e before past stated s packet w way n →
      IsHere secrets setup now e before (with_entry now entry past) v next × AreNonces (nonces_at entry ++ stated) m

-- ---- the rest, taken apart

-- all but the first
abbrev pub others : List Entry → List Entry
others rest = take (length rest - 1) (drop 1 rest)

parts_of : (rest : List Entry) (entry : Entry) → 1 ≤ length rest → entry ≡ get_or rest 0 entry → rest ≡ entry ∷ others rest
parts_of [] entry some is = absurd (omega arith)
parts_of (first ∷ more) entry some is = ap (λ (x : Entry). x ∷ more) (sym is) ∙ ap (λ (es : List Entry). entry ∷ es) (sym (take_all (length (first ∷ more) - 1) more (omega arith)))

pub count_stays : (rest : List Entry) (count total : ℕ) → 1 ≤ length rest → count + length rest ≡ total → (count + 1) + length (others rest) ≡ total
count_stays [] count total some e = absurd (omega arith)
count_stays (first ∷ more) count total some e = let same : length (others (first ∷ more)) ≡ length more = ap length (take_all (length (first ∷ more) - 1) more (omega arith)) in omega arith

module _ (secrets : Secrets) (number : ℕ) (s : Scene) (packet : Option Whole) (entries : List Entry) (w0 : EndWatch) (n0 : NonceSet) where
  module _ (rest : List Entry) (entry : Entry) (count : ℕ) (w : EndWatch) (way : Option Way) (n : NonceSet) (some : 1 ≤ length rest) (is : entry ≡ get_or rest 0 entry)
      (all : AllSoFar secrets number s packet entries w0 n0 rest count w way n) (fault : Option AuditFault) (found_there : IsFoundThere secrets s packet w way n (others rest) entry fault) where
    at : AllSoFar secrets number s packet entries w0 n0 (entry ∷ others rest) count w way n
    at = subst (λ (es : List Entry). AllSoFar secrets number s packet entries w0 n0 es count w way n) (parts_of rest entry some is) all

    pub one_more : (v : EndWatch) (next : Option Way) (m : NonceSet) → fault ≡ None → (fault ≡ None → IsAddedThere secrets s packet w way n entry v next m) →
        AllSoFar secrets number s packet entries w0 n0 (others rest) (count + 1) v next m
    one_more v next m none added = record {
      so = λ setup now e before stated0 on.
          let far = at.so setup now e before stated0 on in
          let passes = (subst (IsFoundThere secrets s packet w way n (others rest) entry) none found_there).is setup now e before far.past far.stated far.on in
          let add = (added none).is setup now e before far.past far.stated far.on in record {
            past = with_entry now entry far.past;
            stated = nonces_at entry ++ far.stated;
            on = record { scene_is = far.on.scene_is; reads = far.on.reads; here = add.0; nonces_are = add.1 };
            goes = λ v' m' f are. far.goes v' m' f (one_passes secrets number setup now e far.past far.stated count (others rest) entry passes.0 passes.1 v' m' f are);
          };
    }

    pub it_fails : (why : AuditFault) → fault ≡ Some why →
        (setup : Setup) (now : ℕ) (e : Event) (before : Past) (stated : List (List ℕ)) → IsGoingOn secrets setup now e before (with_begun now e before) stated s packet w0 None n0 →
        EntriesFail secrets number setup now e.call (with_begun now e before) stated 0 entries (found number (count + 1) why)
    it_fails why one setup now e before stated0 on =
        let far = at.so setup now e before stated0 on in
        far.goes w n (Some (found number (count + 1) why))
        (one_fails secrets number setup now e far.past far.stated count (others rest) entry why
        ((subst (IsFoundThere secrets s packet w way n (others rest) entry) one found_there).is setup now e before far.past far.stated far.on))

  pub all_pass : (rest : List Entry) (count : ℕ) (w : EndWatch) (way : Option Way) (n : NonceSet) → length rest < 1 → AllSoFar secrets number s packet entries w0 n0 rest count w way n →
      (setup : Setup) (now : ℕ) (e : Event) (before : Past) (stated : List (List ℕ)) → IsGoingOn secrets setup now e before (with_begun now e before) stated s packet w0 None n0 →
      AreJudged secrets number setup now e.call (with_begun now e before) stated 0 entries w n None
  all_pass [] count w way n none all setup now e before stated0 on =
      let far = all.so setup now e before stated0 on in
      far.goes w n None (tt, far.on.here.watch, far.on.nonces_are)
  all_pass (entry ∷ rest) count w way n none all setup now e before stated0 on = absurd (omega arith)
