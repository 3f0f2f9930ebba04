-- What the table refuses of a Sought, of an Unsought, and of a Started by the answer to a search.
use Rattle.std.proofs.Common.{ℕ, ◌==◌, ◌≢◌, List, [], ◌∷◌, drop, inl, inr, ◌⊎◌, ◌≡◌, sym, ap, subst, refl, true, false, ◌∙◌, arith}
use Rattle.std.specs.List.{list_any}
use Rattle.sha2.specs.Sha256.{sha256}
use Rattle.identity.specs.Certificates.{IsCertificate}
use Rattle.glare_core.specs.declared.facts.Why.{Why}
use Rattle.glare_core.specs.declared.facts.Why.TheVariants.{Cancelled, Expired, Glare, Override, Unconfirmed, Near, Far, Idle}
use Rattle.endpoint_model.specs.Event.{Call}
use Rattle.endpoint_laws.specs.Contexts.{Secrets}
use Rattle.endpoint_laws.specs.Past.{Past}
use Rattle.endpoint_laws.specs.Lawful.{AnswersSearch, SearchEnds}
use Rattle.endpoint_checks.specs.Brings.{Hello, BringsHello}
use Rattle.endpoint_checks.specs.Searches.{TheTableRefusesSeeks, TheTableRefusesUnseeks, TheTableRefusesSearches, TheTableRefusesHellos}
use Rattle.endpoint_checks.proofs.Brings.{OneHello, only_hello}
use Rattle.endpoint_checks.proofs.Ending.{young}
use Rattle.endpoint_checks.proofs.Opening.{too_short}
use Rattle.endpoint_checks.proofs.Still.{still_answer}

-- ---- beginning

pub seeks_refused : TheTableRefusesSeeks
seeks_refused secrets setup moment candidates draws name near = record {
  in_open = λ peer h. h.0.0.0.by;
  in_unseek = λ id h. h.0.0.0.by;
  in_receive = λ from datagram h. h.0.0.0.by;
  in_tick = λ h. h.0.0.0.by;
  other_name = λ other differ h. differ h.0.0.0.by;
  zero = λ h. h.0.0.0.id.some refl;
  of_search = λ other drawn h. let clash : true ≡ false = h.1.0.0.0.id.unused in cc;
  of_attempt = λ c peer nonce h. let clash : true ≡ false = h.1.0.0.0.id.unused in cc;
  of_born = λ c j e h. let clash = ap (λ (x : ℕ). list_any (λ id. id == 5) (x ∷ [])) (sym e) ∙ h.1.0.0.0.id.unused in cc;
}

-- ---- the search that stands, looked for through what was done

-- no search began here
pub passed : {A B C D : Type 0} → (⊥ × A) ⊎ (B × C × D) → D
passed (inl own) = absurd own.0
passed (inr later) = later.2

-- nor one before this, which ended it, or made it an attempt
gone_by_end : {A B C : Type 0} {x : ℕ} → (⊥ × A) ⊎ ((x ≢ x) × B × C) → ⊥
gone_by_end (inl own) = own.0
gone_by_end (inr old) = old.0 refl

gone_by_start : {A B C : Type 0} {x : ℕ} → (⊥ × A) ⊎ (B × (x ≢ x) × C) → ⊥
gone_by_start (inl own) = own.0
gone_by_start (inr old) = old.1 refl

-- it began here, in the first event
the_one : {A B C D E F : Type 0} → A ⊎ (B × C × ((⊥ × D) ⊎ (E × F × ⊥))) → A
the_one (inl one) = one
the_one (inr old) = absurd (passed old.2)

-- ---- ending

no_end : (call : Call) (near at now : ℕ) (why : Why) → why ≢ Cancelled → why ≢ Expired → SearchEnds call near at now why → ⊥
no_end call near at now Cancelled one other ends = one refl
no_end call near at now Expired one other ends = other refl
no_end call near at now Glare one other ends = ends
no_end call near at now Override one other ends = ends
no_end call near at now Unconfirmed one other ends = ends
no_end call near at now Near one other ends = ends
no_end call near at now Far one other ends = ends
no_end call near at now Idle one other ends = ends

pub unseeks_refused : TheTableRefusesUnseeks
unseeks_refused secrets setup moment candidates drawn draws name = record {
  in_open = λ peer h. h.1.0.0.0.by;
  in_receive = λ from datagram h. h.1.0.0.0.by;
  in_tick = λ h. h.1.0.0.0.by;
  in_cancel = λ n h. h.1.0.0.0.by;
  in_close = λ id h. h.1.0.0.0.by;
  of_another = λ id differ h. differ h.1.0.0.0.by;
  by_unseek = λ at id h. h.1.0.0.0.by.0;
  by_receive = λ at from datagram h. h.1.0.0.0.by.0;
  early = λ h. let line = h.1.0.0.0 in young 0 94999 line.at 95000 (sym (the_one (passed line.stands)).1) line.by.1 (omega arith);
  early_later = λ h. let line = h.1.0.0.0 in young 7 95006 line.at 95000 (sym (the_one (passed line.stands)).1) line.by.1 (omega arith);
  other_end = λ call why one other h. let line = h.1.0.0.0 in no_end call 5 line.at _ why one other line.by;
  other_id = λ call near why differ h. differ (sym (the_one (passed h.1.0.0.0.stands)).0.0);
  of_nothing = λ call near why h. passed h.0.0.0.stands;
  of_attempt = λ c call peer nonce why h. gone_by_start (passed h.1.0.0.0.stands);
  again = λ call why h. gone_by_end (passed h.1.1.0.0.0.stands);
  answered = λ c call peer why h. gone_by_start (passed h.1.1.0.0.0.stands);
  in_time = record {
    which = record { name = name; tag = drawn.tag; ni = drawn.nonce };
    at = 0;
    stands = inl ((refl, refl, (refl, refl)), refl);
    by = (tt, omega arith);
  };
}

-- ---- answers

by_hello : {A B : Type 0} → (⊥ × A) ⊎ B → B
by_hello (inl none) = absurd none.0
by_hello (inr hello) = hello

pub searches_refused : TheTableRefusesSearches
searches_refused secrets setup moment candidates drawn draws name from sent peer = record {
  in_tick = λ h. by_hello h.1.0.0.1;
  no_search = λ near ni h. passed (by_hello h.0.0.1).2.stands;
  over = λ c why h. gone_by_end (passed (by_hello h.1.1.0.0.1).2.stands);
  again = λ c d other h. gone_by_start (passed (passed (passed (by_hello h.1.1.1.0.0.1).2.stands)));
  other_near = λ near differ h. differ (sym (the_one (passed (by_hello h.1.0.0.1).2.stands)).0.0);
  other_nonce = λ ni differ h. differ (the_one (passed (by_hello h.1.0.0.1).2.stands)).0.2.1;
  other_number = λ n differ h. differ h.1.0.0.0.next;
  under_id = λ differ h. let hello = by_hello h.1.0.0.1 in differ hello.2.reads.opens.id;
  short = λ short h. let hello = by_hello h.1.0.0.1 in too_short sent hello.2.reads.opens.opens.0 short;
  unopened = λ none h.
      let hello : AnswersSearch secrets setup.generation _ sent peer 1 5 drawn.nonce = still_answer secrets setup _ sent (λ (g : ℕ). AnswersSearch secrets g _ sent peer 1 5 drawn.nonce) (refl, refl, refl, (refl, refl, refl, tt)) (by_hello h.1.0.0.1) in
      none hello.reads.plain hello.reads.opens;
}

-- what the hello of the datagram says
module _ (secrets : Secrets) (generation : ℕ) (past : Past) (sent peer : List ℕ) (n near : ℕ) (ni : List ℕ) (hello : Hello) (b : BringsHello secrets generation sent hello) (line : AnswersSearch secrets generation past sent peer n near ni) where
  one : OneHello line.tag hello.tag line.cookie hello.cookie line.cert hello.cert
  one = only_hello secrets generation sent hello b line.packet line.reads line.chunk line.among line.tag line.cookie line.cert line.spells

pub hellos_refused : TheTableRefusesHellos
hellos_refused secrets setup moment candidates drawn draws name from sent peer hello b = record {
  other_tag = λ differ h.
      let line : AnswersSearch secrets setup.generation _ sent peer 1 5 drawn.nonce = still_answer secrets setup _ sent (λ (g : ℕ). AnswersSearch secrets g _ sent peer 1 5 drawn.nonce) (refl, refl, refl, (refl, refl, refl, tt)) (by_hello h.1.0.0.1) in
      differ (sym (one secrets setup.generation _ sent peer 1 5 drawn.nonce hello b line).tag_is ∙ (the_one (passed line.stands)).0.2.0);
  other_name = λ differ h.
      let line : AnswersSearch secrets setup.generation _ sent peer 1 5 drawn.nonce = still_answer secrets setup _ sent (λ (g : ℕ). AnswersSearch secrets g _ sent peer 1 5 drawn.nonce) (refl, refl, refl, (refl, refl, refl, tt)) (by_hello h.1.0.0.1) in
      differ (sym ((the_one (passed line.stands)).0.1 ∙ ap (drop 16) (one secrets setup.generation _ sent peer 1 5 drawn.nonce hello b line).cert_is));
  other_peer = λ differ h.
      let line : AnswersSearch secrets setup.generation _ sent peer 1 5 drawn.nonce = still_answer secrets setup _ sent (λ (g : ℕ). AnswersSearch secrets g _ sent peer 1 5 drawn.nonce) (refl, refl, refl, (refl, refl, refl, tt)) (by_hello h.1.0.0.1) in
      differ (line.peer_is ∙ ap sha256 (one secrets setup.generation _ sent peer 1 5 drawn.nonce hello b line).cert_is);
  no_certificate = λ none h.
      let line : AnswersSearch secrets setup.generation _ sent peer 1 5 drawn.nonce = still_answer secrets setup _ sent (λ (g : ℕ). AnswersSearch secrets g _ sent peer 1 5 drawn.nonce) (refl, refl, refl, (refl, refl, refl, tt)) (by_hello h.1.0.0.1) in
      none (subst IsCertificate (one secrets setup.generation _ sent peer 1 5 drawn.nonce hello b line).cert_is line.is_cert);
}
