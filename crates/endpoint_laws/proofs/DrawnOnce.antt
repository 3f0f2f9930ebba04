-- Where no nonce was drawn twice, none is stated twice: a search is taken for one attempt at most, which then has its nonce.
use Rattle.std.proofs.Common.{◌≡◌, ℕ, ◌==◌, List, [], ◌∷◌, ◌++◌, Bool, true, false, if◌then◌else◌, drop, Option, Some, None, inl, inr, ◌⊎◌, refl, sym, ap, subst, ◌∙◌, append_assoc}
use Rattle.glare_core.specs.declared.facts.Fact.{Fact}
use Rattle.glare_core.specs.declared.facts.Fact.TheVariants.{Started, Born, Opened, Confirmed, Ended}
use Rattle.glare_core.specs.Steps.{Among}
use Rattle.glare_core.specs.Told.{AllDifferent}
use Rattle.endpoint_model.specs.declared.entry.Entry.{Entry}
use Rattle.endpoint_model.specs.declared.entry.Entry.TheVariants.{Fact as FactEntry, Sought, Unsought}
use Rattle.endpoint_model.specs.Views.{fact_in}
use Rattle.endpoint_model.specs.Event.{Setup, Call, OpenCall, SeekCall, ReceiveCall, open_in, seek_in, receive_in, Event, moment_at}
use Rattle.endpoint_model.proofs.Members.{tested}
use Rattle.endpoint_laws.specs.Past.{Past, OfEntry, Search, IsSearch, DrawsFor, seek_of, last_call, stamped, begun, onto, fact_and, facts_of, last_moment, past_of, with_event}
use Rattle.endpoint_laws.specs.Lawful.{Opens, OpensIn, TakesHello, TakesHelloIn, Line, EntriesLawful, LawfulFrom, IsLawful, nonces_of}
use Rattle.endpoint_laws.specs.History.{Happened, History, log_of, past_at, AreLawful, nonces_in}
use Rattle.endpoint_laws.specs.Draws.{open_draws, seek_draws, draws_in, draws_done, draws_of, drawn_in, WhatIsDrawnOnceIsStatedOnce}
use Rattle.endpoint_laws.proofs.StatedFacts.{past_more, lawful_more}
use Rattle.endpoint_laws.specs.Contexts.{Secrets}

abbrev Nonces : Type 0
Nonces = List (List ℕ)

-- ---- lists that are all different

pub among_left : (x : List ℕ) (xs ys : Nonces) → Among x xs → Among x (xs ++ ys)
among_left x [] ys a = absurd a
among_left x (y ∷ xs) ys (inl is) = inl is
among_left x (y ∷ xs) ys (inr later) = inr (among_left x xs ys later)

pub among_right : (x : List ℕ) (xs ys : Nonces) → Among x ys → Among x (xs ++ ys)
among_right x [] ys a = a
among_right x (y ∷ xs) ys a = inr (among_right x xs ys a)

pub among_either : (x : List ℕ) (xs ys : Nonces) → Among x (xs ++ ys) → Among x xs ⊎ Among x ys
among_either x [] ys a = inr a
among_either x (y ∷ xs) ys (inl is) = inl (inl is)
among_either x (y ∷ xs) ys (inr later) = elim (among_either x xs ys later) [ inl a ↦ inl (inr a) | inr a ↦ inr a ]

pub different_left : (xs ys : Nonces) → AllDifferent (xs ++ ys) → AllDifferent xs
different_left [] ys d = tt
different_left (x ∷ xs) ys d = ((λ a. d.0 (among_left x xs ys a)), different_left xs ys d.1)

pub different_right : (xs ys : Nonces) → AllDifferent (xs ++ ys) → AllDifferent ys
different_right [] ys d = d
different_right (x ∷ xs) ys d = different_right xs ys d.1

pub apart : (x : List ℕ) (xs ys : Nonces) → AllDifferent (xs ++ ys) → Among x xs → Among x ys → ⊥
apart x [] ys d a b = a
apart x (y ∷ xs) ys d (inl is) b = d.0 (subst (λ (z : List ℕ). Among z (xs ++ ys)) is (among_right x xs ys b))
apart x (y ∷ xs) ys d (inr later) b = apart x xs ys d.1 later b

pub different_both : (xs ys : Nonces) → AllDifferent xs → AllDifferent ys → ((x : List ℕ) → Among x xs → Among x ys → ⊥) → AllDifferent (xs ++ ys)
different_both [] ys d e none = e
different_both (x ∷ xs) ys d e none =
    ((λ a. elim (among_either x xs ys a) [ inl here ↦ d.0 here | inr there ↦ none x (inl refl) there ]), different_both xs ys d.1 e (λ z a b. none z (inr a) b))

-- ---- one end

-- What the nonces that an end drew have to do with those that it stated, and with those of its searches.
record Drawn (drawn : Nonces) (past : Past) : Type 0 where
  stated : (x : List ℕ) → Among x (nonces_of (facts_of past)) → Among x drawn
  sought : (near : ℕ) (which : Search) (at : ℕ) → IsSearch near which at past → Among which.ni drawn
  pending : (near : ℕ) (which : Search) (at : ℕ) → IsSearch near which at past → Among which.ni (nonces_of (facts_of past)) → ⊥
  one : (near other : ℕ) (which what : Search) (at when : ℕ) → IsSearch near which at past → IsSearch other what when past → which.ni ≡ what.ni → near ≡ other
  different : AllDifferent (nonces_of (facts_of past))

-- where nothing is stated or sought, and the searches are of those before
still : (drawn : Nonces) (past now : Past) → nonces_of (facts_of now) ≡ nonces_of (facts_of past) → ((near : ℕ) (which : Search) (at : ℕ) → IsSearch near which at now → IsSearch near which at past) → Drawn drawn past → Drawn drawn now
still drawn past now same before d = record {
  stated = λ x a. d.stated x (subst (Among x) same a);
  sought = λ near which at s. d.sought near which at (before near which at s);
  pending = λ near which at s a. d.pending near which at (before near which at s) (subst (Among which.ni) same a);
  one = λ near other which what at when s t e. d.one near other which what at when (before near which at s) (before other what when t) e;
  different = subst AllDifferent (sym same) d.different;
}

-- a nonce is drawn and stated
drawn_and_stated : (x : List ℕ) (drawn : Nonces) (past now : Past) → nonces_of (facts_of now) ≡ x ∷ nonces_of (facts_of past) →
    ((near : ℕ) (which : Search) (at : ℕ) → IsSearch near which at now → IsSearch near which at past) → (Among x drawn → ⊥) → Drawn drawn past → Drawn (x ∷ drawn) now
drawn_and_stated x drawn past now same before new d = record {
  stated = λ z a. elim (subst (Among z) same a) [ inl is ↦ inl is | inr old ↦ inr (d.stated z old) ];
  sought = λ near which at s. inr (d.sought near which at (before near which at s));
  pending = λ near which at s a. elim (subst (Among which.ni) same a) [
    | inl is ↦ new (subst (λ (z : List ℕ). Among z drawn) is (d.sought near which at (before near which at s)))
    | inr old ↦ d.pending near which at (before near which at s) old
  ];
  one = λ near other which what at when s t e. d.one near other which what at when (before near which at s) (before other what when t) e;
  different = subst AllDifferent (sym same) ((λ a. new (d.stated x a)), d.different);
}

-- the nonce of a search is stated, and the search is none any more
sought_and_stated : (x : List ℕ) (near : ℕ) (which : Search) (at : ℕ) (drawn : Nonces) (past now : Past) → which.ni ≡ x → IsSearch near which at past → nonces_of (facts_of now) ≡ x ∷ nonces_of (facts_of past) →
    ((other : ℕ) (what : Search) (when : ℕ) → IsSearch other what when now → (near ≡ other → ⊥) × IsSearch other what when past) → Drawn drawn past → Drawn drawn now
sought_and_stated x near which at drawn past now ni there same before d = record {
  stated = λ z a. elim (subst (Among z) same a) [
    | inl is ↦ subst (λ (y : List ℕ). Among y drawn) (ni ∙ sym is) (d.sought near which at there)
    | inr old ↦ d.stated z old
  ];
  sought = λ other what when s. d.sought other what when (before other what when s).1;
  pending = λ other what when s a. elim (subst (Among what.ni) same a) [
    | inl is ↦ (before other what when s).0 (d.one near other which what at when there (before other what when s).1 (ni ∙ sym is))
    | inr old ↦ d.pending other what when (before other what when s).1 old
  ];
  one = λ a b p q m n s t e. d.one a b p q m n (before a p m s).1 (before b q n t).1 e;
  different = subst AllDifferent (sym same) ((λ a. d.pending near which at there (subst (λ (y : List ℕ). Among y (nonces_of (facts_of past))) (sym ni) a)), d.different);
}

-- a nonce is drawn for a search
drawn_and_sought : (x : List ℕ) (near : ℕ) (drawn : Nonces) (past now : Past) → nonces_of (facts_of now) ≡ nonces_of (facts_of past) →
    ((other : ℕ) (what : Search) (when : ℕ) → IsSearch other what when now → ((near ≡ other) × (what.ni ≡ x)) ⊎ IsSearch other what when past) → (Among x drawn → ⊥) → Drawn drawn past → Drawn (x ∷ drawn) now
drawn_and_sought x near drawn past now same before new d = record {
  stated = λ z a. inr (d.stated z (subst (Among z) same a));
  sought = λ other what when s. elim (before other what when s) [ inl own ↦ inl own.1 | inr old ↦ inr (d.sought other what when old) ];
  pending = λ other what when s a. elim (before other what when s) [
    | inl own ↦ new (d.stated x (subst (λ (z : List ℕ). Among z (nonces_of (facts_of past))) own.1 (subst (Among what.ni) same a)))
    | inr old ↦ d.pending other what when old (subst (Among what.ni) same a)
  ];
  one = λ a b p q m n s t e. both a b p q m n (before a p m s) (before b q n t) e;
  different = subst AllDifferent (sym same) d.different;
}
  where
    both : (a b : ℕ) (p q : Search) (m n : ℕ) → ((near ≡ a) × (p.ni ≡ x)) ⊎ IsSearch a p m past → ((near ≡ b) × (q.ni ≡ x)) ⊎ IsSearch b q n past → p.ni ≡ q.ni → a ≡ b
    both a b p q m n (inl s) (inl t) e = sym s.0 ∙ t.0
    both a b p q m n (inl s) (inr t) e = absurd (new (subst (λ (z : List ℕ). Among z drawn) (sym e ∙ s.1) (d.sought b q n t)))
    both a b p q m n (inr s) (inl t) e = absurd (new (subst (λ (z : List ℕ). Among z drawn) (e ∙ t.1) (d.sought a p m s)))
    both a b p q m n (inr s) (inr t) e = d.one a b p q m n s t e

-- ---- an entry

module _ (secrets : Secrets) (setup : Setup) (now : ℕ) (call : Call) (past : Past) (rest : List Entry) (drawn : Nonces) where
  abbrev After : Entry → Type 0
  After entry = AllDifferent (draws_in call entry ++ drawn) → Drawn drawn past → Drawn (draws_in call entry ++ drawn) (stamped now entry ∷ past)

  -- an attempt
  started : (peer : List ℕ) (n near : ℕ) (ni : List ℕ) → Opens call peer ni ⊎ TakesHello secrets setup past call peer n near ni → After (FactEntry (Started peer n near ni))
  started peer n near ni line new d = by (open_in call) line new
    where
      next : Past
      next = stamped now (FactEntry (Started peer n near ni)) ∷ past

      gone : (other : ℕ) (what : Search) (when : ℕ) → IsSearch other what when next → (near ≡ other → ⊥) × IsSearch other what when past
      gone other what when (inl own) = absurd own.0
      gone other what when (inr old) = (old.1, old.2)

      taken : (o : Option ReceiveCall) → TakesHelloIn secrets setup past o peer n near ni → Drawn drawn next
      taken None hello = absurd hello
      taken (Some r) hello = let answer = hello.2 in sought_and_stated ni near (record { name = drop 16 answer.cert; tag = answer.tag; ni = ni }) answer.at drawn past next refl answer.stands refl gone d

      clashes : (o : Option ReceiveCall) → TakesHelloIn secrets setup past o peer n near ni → (Among ni drawn → ⊥) → ⊥
      clashes None hello none = absurd hello
      clashes (Some r) hello none = let answer = hello.2 in none (d.sought near (record { name = drop 16 answer.cert; tag = answer.tag; ni = ni }) answer.at answer.stands)

      by : (o : Option OpenCall) → OpensIn o peer ni ⊎ TakesHello secrets setup past call peer n near ni → AllDifferent (open_draws o ni ++ drawn) → Drawn (open_draws o ni ++ drawn) next
      by None (inl opens) new = absurd opens
      by None (inr hello) new = taken (receive_in call) hello
      by (Some o) (inl opens) new = drawn_and_stated ni drawn past next refl (λ other what when s. (gone other what when s).1) new.0 d
      by (Some o) (inr hello) new = absurd (clashes (receive_in call) hello new.0)

  -- a search
  sought : (near : ℕ) (name : List ℕ) → last_call past ≡ Some call → After (Sought near name)
  sought near name last new d = by (seek_in call) refl new
    where
      next : Past
      next = stamped now (Sought near name) ∷ past

      by : (o : Option SeekCall) → seek_in call ≡ o → AllDifferent ((seek_draws (Some (record { near = near; name = name })) o ++ []) ++ drawn) → Drawn ((seek_draws (Some (record { near = near; name = name })) o ++ []) ++ drawn) next
      by None is new = still drawn past next refl (λ other what when s. elim s [
        | inl own ↦ absurd (subst (λ (o : Option SeekCall). DrawsFor what o) (ap seek_of last ∙ is) own.0.2)
        | inr old ↦ old.2
      ]) d
      by (Some seek) is new = drawn_and_sought seek.draws.nonce near drawn past next refl (λ other what when s. elim s [
        | inl own ↦ inl (own.0.0, (subst (λ (o : Option SeekCall). DrawsFor what o) (ap seek_of last ∙ is) own.0.2).1)
        | inr old ↦ inr old.2
      ]) new.0 d

  entry_drawn : (entry : Entry) → Line secrets setup now call past rest entry → last_call past ≡ Some call → After entry
  entry_drawn (FactEntry (Started peer n near ni)) line last new d = started peer n near ni (elim line.1 [ inl by_open ↦ inl by_open.0 | inr hello ↦ inr hello ]) new d
  entry_drawn (FactEntry (Born j)) line last new d =
      drawn_and_stated j.nr drawn past (stamped now (FactEntry (Born j)) ∷ past) refl (λ near which at s. elim s [ inl own ↦ absurd own.0 | inr old ↦ old.2 ]) new.0 d
  entry_drawn (FactEntry (Opened j)) line last new d = still drawn past (stamped now (FactEntry (Opened j)) ∷ past) refl (λ other what when s. elim s [ inl own ↦ absurd own.0 | inr old ↦ old.2 ]) d
  entry_drawn (FactEntry (Confirmed peer near)) line last new d = still drawn past (stamped now (FactEntry (Confirmed peer near)) ∷ past) refl (λ other what when s. elim s [ inl own ↦ absurd own.0 | inr old ↦ old.2 ]) d
  entry_drawn (FactEntry (Ended peer near why)) line last new d = still drawn past (stamped now (FactEntry (Ended peer near why)) ∷ past) refl (λ other what when s. elim s [ inl own ↦ absurd own.0 | inr old ↦ old.2 ]) d
  entry_drawn (Sought near name) line last new d = sought near name last new d
  entry_drawn (Unsought near why) line last new d = still drawn past (stamped now (Unsought near why) ∷ past) refl (λ other what when s. elim s [ inl own ↦ absurd own.0 | inr old ↦ old.2 ]) d
  entry_drawn entry line last new d = still drawn past (stamped now entry ∷ past) refl (λ other what when s. elim s [ inl own ↦ absurd own.0 | inr old ↦ old.2 ]) d

-- ---- a log

-- Where what was drawn so far is all different, it is so.
abbrev Kept : Past → Type 0
Kept past = AllDifferent (draws_of past) → Drawn (draws_of past) past

kept_begun : (now : ℕ) (e : Event) (past : Past) → Kept past → Kept (begun now e ∷ past)
kept_begun now e past kept new = still (draws_of past) past (begun now e ∷ past) refl (λ near which at s. elim s [ inl own ↦ absurd own.0 | inr old ↦ old.2 ]) (kept new)

kept_entry : (secrets : Secrets) (setup : Setup) (now : ℕ) (call : Call) (past : Past) (rest : List Entry) (entry : Entry) → Line secrets setup now call past rest entry → last_call past ≡ Some call → Kept past → Kept (stamped now entry ∷ past)
kept_entry secrets setup now call past rest entry line last kept new =
    let same : draws_of (stamped now entry ∷ past) ≡ draws_in call entry ++ draws_of past = ap (λ (c : Option Call). draws_done (OfEntry entry) c ++ draws_of past) last in
    let fresh : AllDifferent (draws_in call entry ++ draws_of past) = subst AllDifferent same new in
    subst (λ (drawn : Nonces). Drawn drawn (stamped now entry ∷ past)) (sym same) (entry_drawn secrets setup now call past rest (draws_of past) entry line last fresh (kept (different_right (draws_in call entry) (draws_of past) fresh)))

kept_entries : (secrets : Secrets) (setup : Setup) (now : ℕ) (call : Call) (past : Past) (entries : List Entry) → EntriesLawful secrets setup now call past entries → last_call past ≡ Some call → Kept past → Kept (onto now entries past)
kept_entries secrets setup now call past [] lawful last kept = kept
kept_entries secrets setup now call past (entry ∷ rest) lawful last kept = kept_entries secrets setup now call (stamped now entry ∷ past) rest lawful.1 last (kept_entry secrets setup now call past rest entry lawful.0 last kept)

kept_log : (secrets : Secrets) (setup : Setup) (last : ℕ) (past : Past) (log : List Event) → LawfulFrom secrets setup last past log → Kept past → Kept (past_of last past log)
kept_log secrets setup last past [] lawful kept = kept
kept_log secrets setup last past (e ∷ log) lawful kept =
    let now : ℕ = moment_at last e in
    kept_log secrets setup now (with_event now e past) log lawful.1 (kept_entries secrets setup now e.call (begun now e ∷ past) e.entries lawful.0 refl (kept_begun now e past kept))

none_drawn : Kept []
none_drawn new = record { stated = λ x a. a; sought = λ near which at s. absurd s; pending = λ near which at s. absurd s; one = λ near other which what at when s. absurd s; different = tt }

drawn_of_log : (secrets : Secrets) (setup : Setup) (log : List Event) → IsLawful secrets setup log → Kept (past_of 0 [] log)
drawn_of_log secrets setup log lawful = kept_log secrets setup 0 [] log lawful none_drawn

-- ---- many ends

-- an event at any moment adds what it adds alone

draws_onto : (m k : ℕ) (entries : List Entry) (past alone : Past) (older : Nonces) → last_call past ≡ last_call alone → draws_of past ≡ draws_of alone ++ older → draws_of (onto m entries past) ≡ draws_of (onto k entries alone) ++ older
draws_onto m k [] past alone older last same = same
draws_onto m k (x ∷ xs) past alone older last same =
    draws_onto m k xs (stamped m x ∷ past) (stamped k x ∷ alone) older last
    (ap (λ (c : Option Call). draws_done (OfEntry x) c ++ draws_of past) last ∙ ap (λ (l : Nonces). draws_done (OfEntry x) (last_call alone) ++ l) same
    ∙ sym (append_assoc (draws_done (OfEntry x) (last_call alone)) (draws_of alone) older))

pub nonces_and : (o : Option Fact) (facts alone : List Fact) (older : Nonces) → nonces_of facts ≡ nonces_of alone ++ older → nonces_of (fact_and o facts) ≡ nonces_of (fact_and o alone) ++ older
nonces_and None facts alone older same = same
nonces_and (Some (Started peer n near ni)) facts alone older same = ap (λ (l : Nonces). ni ∷ l) same
nonces_and (Some (Born j)) facts alone older same = ap (λ (l : Nonces). j.nr ∷ l) same
nonces_and (Some (Opened j)) facts alone older same = same
nonces_and (Some (Confirmed peer near)) facts alone older same = same
nonces_and (Some (Ended peer near why)) facts alone older same = same

pub nonces_onto : (m k : ℕ) (entries : List Entry) (past alone : Past) (older : Nonces) → nonces_of (facts_of past) ≡ nonces_of (facts_of alone) ++ older →
    nonces_of (facts_of (onto m entries past)) ≡ nonces_of (facts_of (onto k entries alone)) ++ older
nonces_onto m k [] past alone older same = same
nonces_onto m k (x ∷ xs) past alone older same = nonces_onto m k xs (stamped m x ∷ past) (stamped k x ∷ alone) older (nonces_and (fact_in x) (facts_of past) (facts_of alone) older same)

abbrev alone_of : Event → Past
alone_of e = with_event (moment_at 0 e) e []

module _ (h : Happened) (earlier : History) (who : ℕ) where
  abbrev log_before : List Event
  log_before = log_of who earlier

  abbrev past_before : Past
  past_before = past_at who earlier

  past_here : (h.who == who) ≡ true → past_at who (h ∷ earlier) ≡ with_event (moment_at (last_moment 0 log_before) h.event) h.event past_before
  past_here is = ap (λ (b : Bool). past_of 0 [] (if b then log_before ++ h.event ∷ [] else log_before)) is ∙ past_more 0 [] log_before h.event

  past_beside : (h.who == who) ≡ false → past_at who (h ∷ earlier) ≡ past_before
  past_beside other = ap (λ (b : Bool). past_of 0 [] (if b then log_before ++ h.event ∷ [] else log_before)) other

  draws_here : (h.who == who) ≡ true → draws_of (past_at who (h ∷ earlier)) ≡ draws_of (alone_of h.event) ++ draws_of past_before
  draws_here is =
      let m : ℕ = moment_at (last_moment 0 log_before) h.event in
      ap draws_of (past_here is) ∙ draws_onto m (moment_at 0 h.event) h.event.entries (begun m h.event ∷ past_before) (begun (moment_at 0 h.event) h.event ∷ []) (draws_of past_before) refl refl

  nonces_here : (h.who == who) ≡ true → nonces_of (facts_of (past_at who (h ∷ earlier))) ≡ nonces_of (facts_of (alone_of h.event)) ++ nonces_of (facts_of past_before)
  nonces_here is =
      let m : ℕ = moment_at (last_moment 0 log_before) h.event in
      ap (λ (p : Past). nonces_of (facts_of p)) (past_here is) ∙ nonces_onto m (moment_at 0 h.event) h.event.entries (begun m h.event ∷ past_before) (begun (moment_at 0 h.event) h.event ∷ []) (nonces_of (facts_of past_before)) refl

-- what an end drew was drawn in the history
drew : (who : ℕ) (history : History) (x : List ℕ) → Among x (draws_of (past_at who history)) → Among x (drawn_in history)
drew who [] x a = absurd a
drew who (h ∷ earlier) x a = elim (tested h.who who) [
  | inl is ↦ elim (among_either x (draws_of (alone_of h.event)) (draws_of (past_at who earlier)) (subst (Among x) (draws_here h earlier who is.1) a)) [
    | inl here ↦ among_left x (draws_of (alone_of h.event)) (drawn_in earlier) here
    | inr old ↦ among_right x (draws_of (alone_of h.event)) (drawn_in earlier) (drew who earlier x old)
  ]
  | inr is ↦ among_right x (draws_of (alone_of h.event)) (drawn_in earlier) (drew who earlier x (subst (λ (p : Past). Among x (draws_of p)) (past_beside h earlier who is.1) a))
]

-- so what each end drew is all different
each_different : (who : ℕ) (history : History) → AllDifferent (drawn_in history) → AllDifferent (draws_of (past_at who history))
each_different who [] d = tt
each_different who (h ∷ earlier) d = elim (tested h.who who) [
  | inl is ↦
      (let own : Nonces = draws_of (alone_of h.event) in
      subst AllDifferent (sym (draws_here h earlier who is.1))
      (different_both own (draws_of (past_at who earlier)) (different_left own (drawn_in earlier) d) (each_different who earlier (different_right own (drawn_in earlier) d))
      (λ x a b. apart x own (drawn_in earlier) d a (drew who earlier x b))))
  | inr is ↦ subst (λ (p : Past). AllDifferent (draws_of p)) (sym (past_beside h earlier who is.1)) (each_different who earlier (different_right (draws_of (alone_of h.event)) (drawn_in earlier) d))
]

-- and no two ends drew the same
drew_apart : (a b : ℕ) (history : History) (x : List ℕ) → (a ≡ b → ⊥) → AllDifferent (drawn_in history) → Among x (draws_of (past_at a history)) → Among x (draws_of (past_at b history)) → ⊥
drew_apart a b [] x ne d p q = p
drew_apart a b (h ∷ earlier) x ne d p q = elim (tested h.who a) [
  | inl is ↦ elim (tested h.who b) [
    | inl same ↦ ne (sym is.0 ∙ same.0)
    | inr other ↦
        (let old : Among x (draws_of (past_at b earlier)) = subst (λ (l : Past). Among x (draws_of l)) (past_beside h earlier b other.1) q in
        first a b is.1 p old (λ mine. drew_apart a b earlier x ne rest mine old))
  ]
  | inr not ↦
      (let before : Among x (draws_of (past_at a earlier)) = subst (λ (l : Past). Among x (draws_of l)) (past_beside h earlier a not.1) p in
      elim (tested h.who b) [
        | inl is ↦ first b a is.1 q before (λ theirs. drew_apart a b earlier x ne rest before theirs)
        | inr other ↦ drew_apart a b earlier x ne rest before (subst (λ (l : Past). Among x (draws_of l)) (past_beside h earlier b other.1) q)
      ])
]
  where
    own : Nonces
    own = draws_of (alone_of h.event)

    rest : AllDifferent (drawn_in earlier)
    rest = different_right own (drawn_in earlier) d

    -- of the end of this event, and another that drew it before
    first : (who other : ℕ) → (h.who == who) ≡ true → Among x (draws_of (past_at who (h ∷ earlier))) → Among x (draws_of (past_at other earlier)) → (Among x (draws_of (past_at who earlier)) → ⊥) → ⊥
    first who other is here before later = elim (among_either x own (draws_of (past_at who earlier)) (subst (Among x) (draws_here h earlier who is) here)) [
      | inl now ↦ apart x own (drawn_in earlier) d now (drew other earlier x before)
      | inr old ↦ later old
    ]

-- what was stated in a history was stated by an end
stated_by : (history : History) (x : List ℕ) → Among x (nonces_in history) → (who : ℕ) × Among x (nonces_of (facts_of (past_at who history)))
stated_by [] x a = absurd a
stated_by (h ∷ earlier) x a = elim (among_either x (nonces_of (facts_of (alone_of h.event))) (nonces_in earlier) a) [
  | inl here ↦ elim (tested h.who h.who) [
    | inl is ↦ (h.who, subst (Among x) (sym (nonces_here h earlier h.who is.1)) (among_left x (nonces_of (facts_of (alone_of h.event))) (nonces_of (facts_of (past_at h.who earlier))) here))
    | inr not ↦ absurd (not.0 refl)
  ]
  | inr old ↦
      (let before = stated_by earlier x old in
      elim (tested h.who before.0) [
        | inl is ↦ (before.0, subst (Among x) (sym (nonces_here h earlier before.0 is.1)) (among_right x (nonces_of (facts_of (alone_of h.event))) (nonces_of (facts_of (past_at before.0 earlier))) before.1))
        | inr not ↦ (before.0, subst (λ (p : Past). Among x (nonces_of (facts_of p))) (sym (past_beside h earlier before.0 not.1)) before.1)
      ])
]

lawful_before : (secrets : Secrets) (ends : ℕ → Setup) (h : Happened) (earlier : History) → AreLawful secrets ends (h ∷ earlier) → AreLawful secrets ends earlier
lawful_before secrets ends h earlier are who = go (h.who == who) (are who)
  where
    go : (b : Bool) → IsLawful secrets (ends who) (if b then log_of who earlier ++ h.event ∷ [] else log_of who earlier) → IsLawful secrets (ends who) (log_of who earlier)
    go true l = (lawful_more secrets (ends who) 0 [] (log_of who earlier) h.event l).before
    go false l = l

pub what_is_drawn_once : WhatIsDrawnOnceIsStatedOnce
what_is_drawn_once secrets ends [] lawful d = tt
what_is_drawn_once secrets ends (h ∷ earlier) lawful d = elim (tested h.who h.who) [
  | inl is ↦
      (let here = of_end h.who in
      let both : AllDifferent (own ++ nonces_of (facts_of (past_at h.who earlier))) = subst AllDifferent (nonces_here h earlier h.who is.1) here.different in
      different_both own (nonces_in earlier) (different_left own (nonces_of (facts_of (past_at h.who earlier))) both)
      (what_is_drawn_once secrets ends earlier (lawful_before secrets ends h earlier lawful) (different_right (draws_of (alone_of h.event)) (drawn_in earlier) d))
      (λ x a b. clash is.1 both x a (stated_by earlier x b)))
  | inr not ↦ absurd (not.0 refl)
]
  where
    own : Nonces
    own = nonces_of (facts_of (alone_of h.event))

    of_end : (who : ℕ) → Drawn (draws_of (past_at who (h ∷ earlier))) (past_at who (h ∷ earlier))
    of_end who = drawn_of_log secrets (ends who) (log_of who (h ∷ earlier)) (lawful who) (each_different who (h ∷ earlier) d)

    clash : (h.who == h.who) ≡ true → AllDifferent (own ++ nonces_of (facts_of (past_at h.who earlier))) → (x : List ℕ) → Among x own → (who : ℕ) × Among x (nonces_of (facts_of (past_at who earlier))) → ⊥
    clash is both x a by = elim (tested h.who by.0) [
      | inl same ↦ apart x own (nonces_of (facts_of (past_at h.who earlier))) both a (subst (λ (who : ℕ). Among x (nonces_of (facts_of (past_at who earlier)))) (sym same.0) by.1)
      | inr other ↦
          drew_apart h.who by.0 (h ∷ earlier) x other.0 d
          ((of_end h.who).stated x (subst (Among x) (sym (nonces_here h earlier h.who is)) (among_left x own (nonces_of (facts_of (past_at h.who earlier))) a)))
          ((of_end by.0).stated x (subst (λ (p : Past). Among x (nonces_of (facts_of p))) (sym (past_beside h earlier by.0 other.1)) by.1))
    ]
