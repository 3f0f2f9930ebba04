-- The nonces that entries state are those of the end's facts, and of the history.
use Rattle.std.proofs.Common.{ℕ, List, [], ◌∷◌, ◌++◌, ◌≡◌, refl, sym, ap, subst, ◌∙◌, Option, Some, None, inl, inr, Bool, true, false, not, append_assoc}
use Rattle.std.specs.List.{list_any}
use Rattle.std.specs.Str.{bytes_eq}
use Rattle.glare_core.specs.Steps.{Among}
use Rattle.glare_core.specs.declared.facts.Fact.{Fact}
use Rattle.glare_core.specs.declared.facts.Fact.TheVariants.{Started, Born, Opened, Confirmed, Ended}
use Rattle.endpoint_model.specs.declared.entry.Entry.{Entry}
use Rattle.endpoint_model.specs.Event.{moment_at}
use Rattle.endpoint_model.specs.Views.{fact_in}
use Rattle.endpoint_laws.specs.Past.{Past, nothing_done, fact_and, facts_of, onto, with_begun, with_entry}
use Rattle.endpoint_laws.specs.Lawful.{nonces_of}
use Rattle.endpoint_laws.specs.History.{Happened, History, nonces_in}
use Rattle.log_digest.specs.Nonces.{NonceSet, AreNonces}
use Rattle.log_sent.specs.Nonces.{stated_at, stated_onto, AreNew, NoncesAreStated}

of_stated : (o : Option Fact) (facts : List Fact) → nonces_of (fact_and o facts) ≡ nonces_of (fact_and o []) ++ nonces_of facts
of_stated None facts = refl
of_stated (Some (Started peer n near ni)) facts = refl
of_stated (Some (Born j)) facts = refl
of_stated (Some (Opened j)) facts = refl
of_stated (Some (Confirmed peer near)) facts = refl
of_stated (Some (Ended peer near why)) facts = refl

pub of_entry : (moment : ℕ) (entry : Entry) (past : Past) → nonces_of (facts_of (with_entry moment entry past)) ≡ stated_at entry ++ nonces_of (facts_of past)
of_entry moment entry past = of_stated (fact_in entry) (facts_of past)

of_onto : (moment : ℕ) (entries : List Entry) (past : Past) → nonces_of (facts_of (onto moment entries past)) ≡ stated_onto entries (nonces_of (facts_of past))
of_onto moment [] past = refl
of_onto moment (entry ∷ rest) past = of_onto moment rest (with_entry moment entry past) ∙ ap (stated_onto rest) (of_entry moment entry past)

onto_before : (entries : List Entry) (some more : List (List ℕ)) → stated_onto entries (some ++ more) ≡ stated_onto entries some ++ more
onto_before [] some more = refl
onto_before (entry ∷ rest) some more = ap (stated_onto rest) (sym (append_assoc (stated_at entry) some more)) ∙ onto_before rest (stated_at entry ++ some) more

of_event : (h : Happened) (earlier : History) → nonces_in (h ∷ earlier) ≡ stated_onto h.event.entries (nonces_in earlier)
of_event h earlier =
    ap (λ (some : List (List ℕ)). some ++ nonces_in earlier) (of_onto (moment_at 0 h.event) h.event.entries (with_begun (moment_at 0 h.event) h.event nothing_done))
    ∙ sym (onto_before h.event.entries [] (nonces_in earlier))

onto_more : (done : List Entry) (entry : Entry) (nonces : List (List ℕ)) → stated_onto (done ++ entry ∷ []) nonces ≡ stated_at entry ++ stated_onto done nonces
onto_more [] entry nonces = refl
onto_more (first ∷ done) entry nonces = onto_more done entry (stated_at first ++ nonces)

pub nonces_are_stated : NoncesAreStated
nonces_are_stated = record {
  begins = λ moment e past. refl;
  entry = of_entry;
  event = of_event;
  more = onto_more;
}

-- ---- whether one is new

was_not : (b : Bool) → not b ≡ true → b ≡ true → ⊥
was_not true e f = absurd cc
was_not false e f = absurd cc

is_not : (b : Bool) → (b ≡ true → ⊥) → not b ≡ true
is_not true never = absurd (never refl)
is_not false never = refl

pub one_is_new : (before : List (List ℕ)) (n : NonceSet) (nonce : List ℕ) → AreNonces before n → not (list_any (bytes_eq nonce) n.each) ≡ true → AreNew (nonce ∷ []) before
one_is_new before n nonce are e one (inl is) old = was_not (list_any (bytes_eq nonce) n.each) e (are.there nonce (subst (λ (q : List ℕ). Among q before) is old))
one_is_new before n nonce are e one (inr never) old = never

pub new_is_one : (before : List (List ℕ)) (n : NonceSet) (nonce : List ℕ) → AreNonces before n → AreNew (nonce ∷ []) before → not (list_any (bytes_eq nonce) n.each) ≡ true
new_is_one before n nonce are new = is_not (list_any (bytes_eq nonce) n.each) (λ e. new nonce (inl refl) (are.is nonce e))
