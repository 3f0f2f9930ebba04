-- What the table refuses of an Opened and of a Confirmed.
use Rattle.std.proofs.Common.{ℕ, ◌≤◌, ◌<◌, List, [], ◌∷◌, length, drop, length-drop, ◌≡◌, refl, sym, ap, subst, ◌∙◌, cond, Option, Some, None, true, false, arith}
use Rattle.std.specs.Prelude.{Bool}
use Rattle.std.specs.Str.{bytes_eq}
use Rattle.crypto_profile.specs.declared.keys.Context.TheVariants.{Startup}
use Rattle.crypto_profile.specs.Hmac.{hmac}
use Rattle.crypto_profile.specs.Keys.{sign_key_of}
use Rattle.rtmfp_packet.specs.Whole.{Whole}
use Rattle.rtmfp_packet.specs.Walk.{Placed}
use Rattle.rtmfp_chunks.specs.Chunk.{RIKeying, Spells}
use Rattle.glare_core.specs.declared.facts.Held.{Held}
use Rattle.glare_core.specs.declared.facts.Held.TheVariants.{Opening, HalfOpen}
use Rattle.glare_core.specs.declared.facts.Joined.{Joined}
use Rattle.glare_core.specs.Standing.{confirmed}
use Rattle.glare_core.specs.Things.{near_of}
use Rattle.endpoint_model.specs.Event.{Setup, Receive}
use Rattle.glare_core.specs.declared.facts.Fact.TheVariants.{Born}
use Rattle.endpoint_model.specs.declared.entry.Entry.TheVariants.{Fact as FactEntry}
use Rattle.endpoint_laws.specs.Past.{begun, stamped}
use Rattle.endpoint_checks.specs.Logs.{doing, says}
use Rattle.endpoint_laws.specs.Contexts.{Secrets, inward, OpensUnder}
use Rattle.std.specs.FinMap.{get}
use Rattle.endpoint_checks.proofs.Still.{still_answer, still_begun}
use Rattle.endpoint_model.specs.Keying.{IsAmong, IsSigned, chunks_of, responder_part}
use Rattle.endpoint_laws.specs.Lawful.{AnswersAttempt, IsLawful}
use Rattle.endpoint_checks.specs.Brings.{Answer, BringsAnswer}
use Rattle.endpoint_checks.specs.Opens.{opened_in, TheTableRefusesOpenings, TheTableRefusesAnswers, TheTableRefusesConfirms}
use Rattle.endpoint_checks.proofs.Logs.{same, other}
use Rattle.endpoint_checks.proofs.Brings.{one_secret, one_packet, one_answer, OneAnswer, only_one, signed_here}

number_in : Option Held → ℕ
number_in (Some (Opening n near ni)) = n
number_in held = 0

nonce_in : Option Held → List ℕ
nonce_in (Some (Opening n near ni)) = ni
nonce_in held = []

near_in : Option Held → ℕ
near_in (Some h) = near_of h
near_in None = 0

session_in : Joined → Option Held → Joined
session_in j (Some (HalfOpen h)) = h
session_in j held = j

-- what is held where one thing was begun is that
is_held : (b : Bool) (x : Held) (o : Option Held) → b ≡ true → cond b (Some x) None ≡ o → Some x ≡ o
is_held true x o e is = is
is_held false x o e is = absurd (cc)

not_held : (b : Bool) (x y : Held) → b ≡ false → cond b (Some x) None ≡ Some y → ⊥
not_held true x y e is = cc
not_held false x y e is = cc

pub too_short : (sent : List ℕ) → 32 ≤ length (drop 4 sent) → length sent < 36 → ⊥
too_short sent long short = omega (arith, length-drop 4 sent, long, short)

pub openings_refused : TheTableRefusesOpenings
unfolding number_in nonce_in near_in
openings_refused secrets setup moment c from sent draws j = record {
  in_open = λ towards candidates h. h.1.0.0.1;
  in_cancel = λ m h. h.1.0.0.1;
  in_close = λ near h. h.1.0.0.1;
  in_tick = λ h. h.1.0.0.1;
  no_attempt = λ h. let clash : None ≡ Some (Opening j.n j.near j.ni) = h.0.0.0 in cc;
  other_number = λ n differ h. differ (ap number_in (is_held (bytes_eq j.peer j.peer) (Opening n j.near j.ni) (Some (Opening j.n j.near j.ni)) (same j.peer j.peer refl) h.1.0.0.0));
  other_id = λ near differ h. differ (ap near_in (is_held (bytes_eq j.peer j.peer) (Opening j.n near j.ni) (Some (Opening j.n j.near j.ni)) (same j.peer j.peer refl) h.1.0.0.0));
  other_nonce = λ ni differ h. differ (ap nonce_in (is_held (bytes_eq j.peer j.peer) (Opening j.n j.near ni) (Some (Opening j.n j.near j.ni)) (same j.peer j.peer refl) h.1.0.0.0));
  other_peer = λ peer differ h. not_held (bytes_eq peer j.peer) (Opening j.n j.near j.ni) (Opening j.n j.near j.ni) (other peer j.peer differ) h.1.0.0.0;
  session_held = λ b e h. let clash = is_held (bytes_eq b.peer j.peer) (HalfOpen b) (Some (Opening j.n j.near j.ni)) (same b.peer j.peer e) h.1.0.0.0 in cc;
  short = λ short h. too_short sent h.1.0.0.1.2.reads.opens.opens.0 short;
  under_another = λ differ h. differ h.1.0.0.1.2.reads.opens.id;
  unopened = λ none h.
      let line : AnswersAttempt secrets setup.generation j sent = still_answer secrets setup _ sent (λ (g : ℕ). AnswersAttempt secrets g j sent) (refl, refl, refl, (refl, refl, refl, tt)) h.1.0.0.1 in
      none line.reads.plain line.reads.opens;
  wide_count = λ wide h. let number = h.1.0.0.1.2.number in omega (arith, number, wide);
}

-- ---- what the keying of the datagram says

module _ (secrets : Secrets) (setup : Setup) (sent : List ℕ) (j : Joined) (a : Answer) (known : get secrets setup.generation ≡ Some setup.secret) (b : BringsAnswer secrets setup.generation j.near sent a) (line : AnswersAttempt secrets setup.generation j sent) where
  same_chunk : line.chunk ≡ b.chunk
  same_chunk =
      only_one line.chunk b.chunk (chunks_of b.packet) b.only
      (subst (λ (p : Whole). IsAmong line.chunk (chunks_of p)) (one_packet secrets (Startup setup.generation) j.near sent line.packet b.packet line.reads b.reads) line.among)

  one : OneAnswer j.far a.near (responder_part j.nr j.k j.peer j.ni) a.part line.sign a.sign
  one =
      one_answer b.chunk.kind b.chunk.payload j.far a.near (responder_part j.nr j.k j.peer j.ni) a.part line.sign a.sign
      (subst (λ (c : Placed). Spells (RIKeying j.far (responder_part j.nr j.k j.peer j.ni) line.sign) c.kind c.payload) same_chunk line.spells) b.spells

  signed_so : a.sign ≡ hmac (sign_key_of setup.secret) a.before
  signed_so =
      signed_here setup.secret b.chunk.payload a.before a.sign line.sign
      (subst (λ (x : List ℕ). IsSigned x b.chunk.payload line.sign) (one_secret secrets setup.generation line.reads.opens.secret setup.secret line.reads.opens.known known)
      (subst (λ (c : Placed). IsSigned line.reads.opens.secret c.payload line.sign) same_chunk line.signed)) one.sign_is b.payload

pub answers_refused : TheTableRefusesAnswers
answers_refused secrets setup moment c from sent draws j a known b = record {
  other_far = λ differ h. let says = one secrets setup sent j a known b (line h) in differ (sym says.near_is);
  other_part = λ differ h. let says = one secrets setup sent j a known b (line h) in differ (sym says.part_is);
  unsigned = λ differ h. differ (signed_so secrets setup sent j a known b (line h));
}
  where
    line : IsLawful secrets setup (opened_in moment c (Receive from sent draws) j) → AnswersAttempt secrets setup.generation j sent
    line h = still_answer secrets setup _ sent (λ (g : ℕ). AnswersAttempt secrets g j sent) (refl, refl, refl, (refl, refl, refl, tt)) h.1.0.0.1

-- ---- confirming

pub confirms_refused : TheTableRefusesConfirms
unfolding near_in session_in
confirms_refused secrets setup moment c from sent draws j = record {
  in_open = λ towards candidates h. h.1.0.0.1.by;
  in_cancel = λ m h. h.1.0.0.1.by;
  in_close = λ near h. h.1.0.0.1.by;
  in_tick = λ h. h.1.0.0.1.by;
  nothing_held = λ h. let line = h.0.0.0 in nothing line.j line.session;
  attempt_held = λ h. let line = h.1.0.0.0 in let clash = is_held (bytes_eq j.peer j.peer) (Opening 1 j.near j.ni) (Some (HalfOpen line.j)) (same j.peer j.peer refl) line.session in cc;
  other_id = λ near differ h. let line = h.1.0.0.0 in differ (line.id ∙ sym (ap near_in (half line.j line.session)));
  again = λ d h. let line = h.1.1.0.0.0 in kept (bytes_eq j.peer j.peer) line.j (same j.peer j.peer refl) line.session;
  short = λ short h. too_short sent h.1.0.0.1.by.opens.opens.0 short;
  under_another = λ differ h. differ h.1.0.0.1.by.opens.id;
  other_form = λ differ h. differ h.1.0.0.1.by.opens.opens.2;
  unopened = λ none h.
      let line = h.1.0.0.1 in
      let is : line.j ≡ j = sym (ap (session_in j) (half line.j line.session)) in
      let first : line.by.generation ≡ setup.generation = still_begun secrets setup (HalfOpen line.j) line.by.generation (stamped 0 (FactEntry (Born j)) ∷ begun 0 (doing 0 c (says (Born j))) ∷ []) line.by.begun (refl, refl, refl, (refl, refl, refl, tt)) in
      none line.by.plain (subst (λ (x : Joined). OpensUnder secrets (inward setup setup.generation (HalfOpen x)) j.near sent line.by.plain) is
      (subst (λ (g : ℕ). OpensUnder secrets (inward setup g (HalfOpen line.j)) j.near sent line.by.plain) first line.by.opens));
}
  where
    nothing : (x : Joined) → None ≡ Some (HalfOpen x) → ⊥
    nothing x e = cc

    half : (x : Joined) → cond (bytes_eq j.peer j.peer) (Some (HalfOpen j)) None ≡ Some (HalfOpen x) → Some (HalfOpen j) ≡ Some (HalfOpen x)
    half x is = is_held (bytes_eq j.peer j.peer) (HalfOpen j) (Some (HalfOpen x)) (same j.peer j.peer refl) is

    kept : (b : Bool) (x : Joined) → b ≡ true → cond b (confirmed (cond b (Some (HalfOpen j)) None)) (cond b (Some (HalfOpen j)) None) ≡ Some (HalfOpen x) → ⊥
    kept true x e is = cc
    kept false x e is = cc
