-- A datagram that was sent, and the tells that it carries: what it reads as was held by its sender, who told it.
use Rattle.std.proofs.Common.{ℕ, suc, ◌<◌, ◌^◌, List, [], ◌∷◌, ◌++◌, length, drop, Ok, Some, ◌≡◌, refl, sym, ap, subst, ◌∙◌, true, false, Bool, arith}
use Rattle.std.specs.Int.{w32, to_be_bytes}
use Rattle.std.proofs.lemmas.List.{drop_at}
use Rattle.sha2.specs.Sha256.{sha256}
use Rattle.sha2.proofs.Facts256.{length-sha256}
use Rattle.crypto_profile.specs.declared.keys.Context.{Context}
use Rattle.crypto_profile.specs.declared.keys.Context.TheVariants.{Startup, Session}
use Rattle.crypto_profile.specs.Keys.{keys_of}
use Rattle.crypto_profile.specs.Opening.{plain_of}
use Rattle.crypto_profile.specs.Sealing.{Opens, sealed_in}
use Rattle.crypto_profile.proofs.Opened.{sealed_opens, opens_by_its_tag}
use Rattle.packet_scramble.specs.Datagram.{datagram, scrambled, sid_of}
use Rattle.packet_scramble.proofs.Scrambling.{has_its_session_id}
use Rattle.rtmfp_packet.specs.Whole.{Whole}
use Rattle.rtmfp_packet.specs.Walk.{Placed}
use Rattle.rtmfp_packet.specs.Reading.{PacketReading}
use Rattle.rtmfp_chunks.specs.Chunk.{IIKeying, RIKeying, Spells}
use Rattle.glare_core.specs.declared.facts.Held.{Held}
use Rattle.glare_core.specs.declared.facts.Held.TheVariants.{Opening, HalfOpen, KeptAsResponder, KeptAsInitiator}
use Rattle.glare_core.specs.declared.facts.Joined.{Joined}
use Rattle.glare_core.specs.Standing.{held}
use Rattle.glare_core.specs.Tells.{Tell, Keying, Answer, Under, Values}
use Rattle.glare_core.specs.Steps.{Step}
use Rattle.glare_core.specs.Told.{WasSent}
use Rattle.endpoint_model.specs.Event.{Setup, own_of, Call}
use Rattle.endpoint_laws.specs.Past.{Past, facts_of}
use Rattle.endpoint_laws.specs.Contexts.{Secrets, generation_of, session_context, outward, OpensUnder, BegunUnder}
use Rattle.endpoint_model.specs.Keying.{chunks_of, IsAmong, initiator_part, responder_part}
use Rattle.endpoint_laws.specs.Lawful.{OutLine}
use Rattle.endpoint_laws.specs.Laws.{AreBytes}
use Rattle.endpoint_laws.proofs.Components.{one_initiator_part, one_responder_part}
use Rattle.endpoint_laws.proofs.HeldTold.{EndTold}
use Rattle.std.specs.FinMap.{get}

-- A datagram went out in this context, of an end that told in these steps what it had done then.
pub record Carried (secrets : Secrets) (sent : List ℕ) (context : Context) (steps : List Step) : Type 0 where
  pub setup : Setup
  pub call : Call
  pub past : Past
  pub line : OutLine secrets setup call past sent context
  -- its attempts are told in the generation of a startup context
  pub attempts : (peer : List ℕ) (n near : ℕ) (ni : List ℕ) (g : ℕ) → held peer (facts_of past) ≡ Some (Opening n near ni) → context ≡ Startup g → WasSent (Keying (own_of setup) peer n ni near g) steps
  pub told : EndTold secrets setup past steps

-- ---- what opens is what was sealed

sealed_behind : (sid : ℕ) (part sent : List ℕ) → sent ≡ datagram sid part → drop 4 sent ≡ part
sealed_behind sid part sent e = ap (drop 4) e ∙ drop_at (to_be_bytes w32 (scrambled sid part)) part 4 refl

one_of : (a b : List ℕ) → Some a ≡ Some b → a ≡ b
one_of a b e = cc

plain_is : (secrets : Secrets) (secret : List ℕ) (context : Context) (sid sid' : ℕ) (number plain plain' sent : List ℕ) → get secrets (generation_of context) ≡ Some secret → length number ≡ 16 → sent ≡ datagram sid (sealed_in secret context sid number plain) →
    OpensUnder secrets context sid' sent plain' → plain' ≡ plain
plain_is secrets secret context sid sid' number plain plain' sent known size e under =
    let same : under.secret ≡ secret = one_of under.secret secret (sym under.known ∙ known) in
    let opens : Opens secret context sid' (drop 4 sent) plain' = subst (λ (s : List ℕ). Opens s context sid' (drop 4 sent) plain') same under.opens in
    ((opens_by_its_tag secret context sid' (drop 4 sent) plain').0 opens).2
    ∙ ap (plain_of (keys_of secret context)) (sealed_behind sid (sealed_in secret context sid number plain) sent e)
    ∙ (sealed_opens (keys_of secret context) sid number plain size).1

-- ---- the session ID

bytes_behind : (xs ys : List ℕ) → AreBytes (xs ++ ys) → AreBytes ys
bytes_behind [] ys all = all
bytes_behind (x ∷ xs) ys all = bytes_behind xs ys (λ k z h. all (suc k) z (omega (arith, h)))

id_is : (sid : ℕ) (part sent : List ℕ) → sid < 2 ^ 32 → AreBytes sent → sent ≡ datagram sid part → sid_of sent ≡ sid
id_is sid part sent small all e =
    ap sid_of e ∙ has_its_session_id sid part small (bytes_behind (to_be_bytes w32 (scrambled sid part)) part (subst AreBytes e all))

-- ---- keyings

keying_same : (a a' b b' : List ℕ) (n n' : ℕ) (ni ni' : List ℕ) (near g g' : ℕ) → a ≡ a' → b ≡ b' → n ≡ n' → ni ≡ ni' → g ≡ g' → Keying a b n ni near g ≡ Keying a' b' n' ni' near g'
keying_same a a' b b' n n' ni ni' near g g' p q r s u = λ i. Keying (p i) (q i) (r i) (s i) near (u i)

answer_same : (i i' : ℕ) (p p' : List ℕ) (r r' : ℕ) (nr nr' : List ℕ) (k k' : ℕ) (ni ni' : List ℕ) (g g' : ℕ) → i ≡ i' → p ≡ p' → r ≡ r' → nr ≡ nr' → k ≡ k' → ni ≡ ni' → g ≡ g' →
    Answer i p r nr k ni g ≡ Answer i' p' r' nr' k' ni' g'
answer_same i i' p p' r r' nr nr' k k' ni ni' g g' a b c d e f u = λ x. Answer (a x) (b x) (c x) (d x) (e x) (f x) (u x)

module _ (secrets : Secrets) (sent : List ℕ) (steps : List Step) (generation : ℕ) (there : Carried secrets sent (Startup generation) steps) (sid : ℕ) (plain : List ℕ) (opens : OpensUnder secrets (Startup generation) sid sent plain) (packet : Whole) (reads : PacketReading plain (Ok packet)) where
  reads_there : PacketReading there.line.plain (Ok packet)
  reads_there =
      subst (λ (b : List ℕ). PacketReading b (Ok packet))
      (plain_is secrets there.line.secret (Startup generation) there.line.sid sid there.line.number there.line.plain plain sent there.line.known there.line.numbered there.line.is opens) reads

  pub keying_carried : (c : Placed) (near : ℕ) (cookie cert ni : List ℕ) (n : ℕ) (own sign : List ℕ) → IsAmong c (chunks_of packet) → Spells (IIKeying near cookie cert (initiator_part ni n own) sign) c.kind c.payload →
      length ni ≡ 16 → n < 2 ^ 64 → WasSent (Keying (sha256 cert) own n ni near generation) steps
  keying_carried c near cookie cert ni n own sign among spells size fits =
      let k = (there.line.keyings packet reads_there).initiators c near cookie cert (initiator_part ni n own) sign among spells in
      let told = there.attempts k.peer k.n near k.ni generation k.is_held refl in
      let sizes = there.told.sized k.peer k.n near k.ni k.is_held in
      let same = one_initiator_part ni k.ni n k.n own k.peer size sizes.1 fits sizes.2 k.values in
      let is : Keying (own_of there.setup) k.peer k.n k.ni near generation ≡ Keying (sha256 cert) own n ni near generation =
      keying_same (own_of there.setup) (sha256 cert) k.peer own k.n n k.ni ni near generation generation (sym (ap sha256 k.own)) (sym same.responder_is) (sym same.n_is) (sym same.ni_is) refl in
      subst (λ (t : Tell). WasSent t steps) is told

  pub answer_carried : (c : Placed) (near : ℕ) (nr : List ℕ) (k : ℕ) (peer ni sign : List ℕ) → IsAmong c (chunks_of packet) → Spells (RIKeying near (responder_part nr k peer ni) sign) c.kind c.payload → AreBytes sent →
      length peer ≡ 32 → length ni ≡ 16 → k < 2 ^ 64 → WasSent (Answer sid peer near nr k ni generation) steps
  answer_carried c near nr k peer ni sign among spells all peer_size ni_size fits =
      let b = (there.line.keyings packet reads_there).responders c near (responder_part nr k peer ni) sign among spells in
      let j : Joined = b.j in
      let told = there.told.born j b.generation b.born in
      let sizes = told.sizes in
      let part : List ℕ = sealed_in there.line.secret (Startup generation) there.line.sid there.line.number there.line.plain in
      let small : there.line.sid < 2 ^ 32 = subst (λ (x : ℕ). x < 2 ^ 32) (sym b.sid_is) sizes.far in
      let id : sid ≡ j.far = sym opens.id ∙ id_is there.line.sid part sent small all there.line.is ∙ b.sid_is in
      let same = one_responder_part nr j.nr k j.k peer (own_of there.setup) ni j.ni sizes.nr fits sizes.k peer_size (length-sha256 there.setup.cert) ni_size sizes.ni b.values in
      let is : Answer j.far (own_of there.setup) j.near j.nr j.k j.ni b.generation ≡ Answer sid peer near nr k ni generation =
      answer_same j.far sid (own_of there.setup) peer j.near near j.nr nr j.k k j.ni ni b.generation generation (sym id) (sym same.responder_is) (sym b.near_is) (sym same.nr_is) (sym same.k_is) (sym same.ni_is) (ap generation_of (sym b.startup)) in
      subst (λ (t : Tell). WasSent t steps) is told.sent

-- ---- a session

values_of : Values → Context → Values
values_of other (Startup generation) = other
values_of other (Session generation ni nr fp_i fp_r sid_i sid_r to_responder) = record { ni = ni; nr = nr; initiator = fp_i; responder = fp_r; near_i = sid_i; near_r = sid_r }

direction_of : Context → Bool
direction_of (Startup generation) = false
direction_of (Session generation ni nr fp_i fp_r sid_i sid_r to_responder) = to_responder

other_way : false ≡ true → ⊥
other_way e = absurd (cc)

initiators : (secrets : Secrets) (setup : Setup) (past : Past) (steps : List Step) (told : EndTold secrets setup past steps) (thing : Held) (generation : ℕ) (v : Values) → BegunUnder secrets setup thing generation past →
    session_context generation v true ≡ outward setup generation thing → WasSent (Under v true generation) steps
unfolding values_of direction_of
initiators secrets setup past steps told (Opening n near ni) generation v begun e = absurd (other_way (sym (ap direction_of e)))
initiators secrets setup past steps told (HalfOpen j) generation v begun e = absurd (other_way (sym (ap direction_of e)))
initiators secrets setup past steps told (KeptAsResponder j) generation v begun e = absurd (other_way (sym (ap direction_of e)))
initiators secrets setup past steps told (KeptAsInitiator j) generation v begun e = subst (λ (x : Values). WasSent (Under x true generation) steps) (sym (ap (values_of v) e)) (told.opened j generation begun)

pub under_carried : (secrets : Secrets) (sent : List ℕ) (generation : ℕ) (v : Values) (steps : List Step) → Carried secrets sent (session_context generation v true) steps → WasSent (Under v true generation) steps
under_carried secrets sent generation v steps there = let s = there.line.session in initiators secrets there.setup there.past steps there.told s.0 generation v s.3 s.4
