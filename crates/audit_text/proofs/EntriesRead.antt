-- The entries of events: what is read is spelled, and what is spelled is read.
use Rattle.std.proofs.Common.{◌≡◌, ℕ, ◌^◌, ◌<◌, Bool, List, ◌∷◌, ◌++◌, Some, None, refl, ap, ◌∙◌, subst}
use Rattle.std.specs.Prelude.{codes, decimal}
use Rattle.hex.specs.Hex.{encode_lower}
use Rattle.crypto_profile.specs.declared.keys.Context.{Context}
use Rattle.crypto_profile.specs.declared.keys.Context.TheVariants.{Startup, Session}
use Rattle.glare_core.specs.declared.facts.Fact.TheVariants.{Started, Born, Opened, Confirmed, Ended}
use Rattle.glare_core.specs.declared.facts.Joined.{Joined}
use Rattle.glare_core.specs.declared.facts.Why.{Why}
use Rattle.identity.specs.ServiceNames.{IsServiceName}
use Rattle.rtmfp_forms.specs.Address.{AddressParts}
use Rattle.rtmfp_text.specs.AddressText.{address_text}
use Rattle.rtmfp_text.specs.Words.{bytes_text}
use Rattle.rtmfp_script.specs.Grammar.{AreBytes, IsPlainAddress}
use Rattle.rtmfp_script.specs.Fields.{address_of, hexadecimal_of, number_below, number_of, split_of}
use Rattle.rtmfp_script.proofs.Splits.{bind_some, some_some, split_joined}
use Rattle.audit_text.specs.declared.line.LogEntry.{LogEntry}
use Rattle.audit_text.specs.declared.line.LogEntry.TheVariants.{Fact as FactEntry, Closed, Sought, Unsought, Learnt, Advanced, Out}
use Rattle.audit_text.specs.Grammar.{IsBytesOf, IsContext, IsEntry, IsJoined, context_text, entry_text, fact_text, joined_text, sender_text, why_text}
use Rattle.audit_text.specs.Fields.{first_by, of_digits, sender_of, service_of, why_of}
use Rattle.audit_text.specs.Readings.{advanced_of, born_of, closed_of, confirmed_of, context_at, context_by, ended_of, entry_by, entry_of, joined_of, learnt_of, opened_of, out_of, session_at, sought_of, started_of, startup_at, unsought_of}
use Rattle.audit_text.proofs.FieldsRead.{IsSaid, IsSpelled, address_first, after, by, bytes_field, first_address, first_nonce, first_number, first_print, first_sender, first_short, follows, no_key, nonce_field, nonce_first, number_field, number_first, print_first, sender_first, service_field, short_field, short_first, why_of-some, why_of-text}

-- ---- facts

started_sound : (rest : List ℕ) (entry : LogEntry) → started_of rest ≡ Some entry → IsSaid entry_text IsEntry (codes "started") rest entry
unfolding started_of entry_text fact_text
started_sound rest entry h =
    let a = bind_some (first_by (of_digits 64) rest) _ entry h in
    let b = bind_some (first_by number_of a.0.1) _ entry a.2 in
    let c = bind_some (first_by (number_below (2 ^ 32)) b.0.1) _ entry b.2 in
    let d = bind_some (of_digits 32 c.0.1) _ entry c.2 in
    let peer = first_print rest a.0 a.1 in
    let n = first_number a.0.1 b.0 b.1 in
    let near = first_short b.0.1 c.0 c.1 in
    let ni = nonce_field.sound c.0.1 d.0 d.1 in
    subst (IsSaid entry_text IsEntry (codes "started") rest) {x = FactEntry (Started a.0.0 b.0.0 c.0.0 d.0)} (some_some _ _ d.2) (record {
      spelled = after (codes "started") rest _ (follows peer (follows n (follows near ni.0)));
      within = (peer.is, n.is, near.is, ni.1);
    })

started_whole : (peer : List ℕ) (n near : ℕ) (ni : List ℕ) → IsBytesOf 32 peer → n < 2 ^ 64 → near < 2 ^ 32 → IsBytesOf 16 ni →
    started_of (encode_lower peer ++ 32 ∷ (decimal n ++ 32 ∷ (decimal near ++ 32 ∷ encode_lower ni))) ≡ Some (FactEntry (Started peer n near ni))
unfolding started_of
started_whole peer n near ni p m i o =
    rw (
      print_first peer (decimal n ++ 32 ∷ (decimal near ++ 32 ∷ encode_lower ni)) p,
      number_first n (decimal near ++ 32 ∷ encode_lower ni) m,
      short_first near (encode_lower ni) i,
      nonce_field.whole ni o,
    ) refl

joined_sound : (rest : List ℕ) (joined : Joined) → joined_of rest ≡ Some joined → IsSpelled joined_text IsJoined rest joined
unfolding joined_of joined_text
joined_sound rest joined h =
    let a = bind_some (first_by (of_digits 64) rest) _ joined h in
    let b = bind_some (first_by number_of a.0.1) _ joined a.2 in
    let c = bind_some (first_by (number_below (2 ^ 32)) b.0.1) _ joined b.2 in
    let d = bind_some (first_by (number_below (2 ^ 32)) c.0.1) _ joined c.2 in
    let e = bind_some (first_by (of_digits 32) d.0.1) _ joined d.2 in
    let f = bind_some (first_by (of_digits 32) e.0.1) _ joined e.2 in
    let g = bind_some (number_of f.0.1) _ joined f.2 in
    let peer = first_print rest a.0 a.1 in
    let n = first_number a.0.1 b.0 b.1 in
    let near = first_short b.0.1 c.0 c.1 in
    let far = first_short c.0.1 d.0 d.1 in
    let ni = first_nonce d.0.1 e.0 e.1 in
    let nr = first_nonce e.0.1 f.0 f.1 in
    let k = number_field.sound f.0.1 g.0 g.1 in
    let read : Joined = record { peer = a.0.0; n = b.0.0; near = c.0.0; far = d.0.0; ni = e.0.0; nr = f.0.0; k = g.0 } in
    subst (IsSpelled joined_text IsJoined rest) {x = read} (some_some read joined g.2) (record {
      spelled = follows peer (follows n (follows near (follows far (follows ni (follows nr k.0)))));
      within = record {
        peer = peer.is;
        n = n.is;
        near = near.is;
        far = far.is;
        ni = ni.is;
        nr = nr.is;
        k = k.1;
      };
    })

joined_whole : (joined : Joined) → IsJoined joined → joined_of (joined_text joined) ≡ Some joined
unfolding joined_of joined_text
joined_whole joined is =
    let k_text : List ℕ = decimal joined.k in
    let nr_text : List ℕ = encode_lower joined.nr ++ 32 ∷ k_text in
    let ni_text : List ℕ = encode_lower joined.ni ++ 32 ∷ nr_text in
    let far_text : List ℕ = decimal joined.far ++ 32 ∷ ni_text in
    let near_text : List ℕ = decimal joined.near ++ 32 ∷ far_text in
    let n_text : List ℕ = decimal joined.n ++ 32 ∷ near_text in
    rw (
      print_first joined.peer n_text is.peer,
      number_first joined.n near_text is.n,
      short_first joined.near far_text is.near,
      short_first joined.far ni_text is.far,
      nonce_first joined.ni nr_text is.ni,
      nonce_first joined.nr k_text is.nr,
      number_field.whole joined.k is.k,
    ) refl

born_sound : (rest : List ℕ) (entry : LogEntry) → born_of rest ≡ Some entry → IsSaid entry_text IsEntry (codes "born") rest entry
unfolding born_of entry_text fact_text
born_sound rest entry h =
    let a = bind_some (joined_of rest) (λ joined. Some (FactEntry (Born joined))) entry h in
    let j = joined_sound rest a.0 a.1 in
    subst (IsSaid entry_text IsEntry (codes "born") rest) {x = FactEntry (Born a.0)} (some_some _ _ a.2) (record { spelled = after (codes "born") rest _ j.spelled; within = j.within })

born_whole : (joined : Joined) → IsJoined joined → born_of (joined_text joined) ≡ Some (FactEntry (Born joined))
unfolding born_of
born_whole joined is = rw (joined_whole joined is) refl

opened_sound : (rest : List ℕ) (entry : LogEntry) → opened_of rest ≡ Some entry → IsSaid entry_text IsEntry (codes "opened") rest entry
unfolding opened_of entry_text fact_text
opened_sound rest entry h =
    let a = bind_some (joined_of rest) (λ joined. Some (FactEntry (Opened joined))) entry h in
    let j = joined_sound rest a.0 a.1 in
    subst (IsSaid entry_text IsEntry (codes "opened") rest) {x = FactEntry (Opened a.0)} (some_some _ _ a.2) (record { spelled = after (codes "opened") rest _ j.spelled; within = j.within })

opened_whole : (joined : Joined) → IsJoined joined → opened_of (joined_text joined) ≡ Some (FactEntry (Opened joined))
unfolding opened_of
opened_whole joined is = rw (joined_whole joined is) refl

confirmed_sound : (rest : List ℕ) (entry : LogEntry) → confirmed_of rest ≡ Some entry → IsSaid entry_text IsEntry (codes "confirmed") rest entry
unfolding confirmed_of entry_text fact_text
confirmed_sound rest entry h =
    let a = bind_some (first_by (of_digits 64) rest) _ entry h in
    let b = bind_some (number_below (2 ^ 32) a.0.1) _ entry a.2 in
    let peer = first_print rest a.0 a.1 in
    let near = short_field.sound a.0.1 b.0 b.1 in
    subst (IsSaid entry_text IsEntry (codes "confirmed") rest) {x = FactEntry (Confirmed a.0.0 b.0)} (some_some _ _ b.2) (record {
      spelled = after (codes "confirmed") rest _ (follows peer near.0);
      within = (peer.is, near.1);
    })

confirmed_whole : (peer : List ℕ) (near : ℕ) → IsBytesOf 32 peer → near < 2 ^ 32 → confirmed_of (encode_lower peer ++ 32 ∷ decimal near) ≡ Some (FactEntry (Confirmed peer near))
unfolding confirmed_of
confirmed_whole peer near p i = rw (print_first peer (decimal near) p, short_field.whole near i) refl

ended_sound : (rest : List ℕ) (entry : LogEntry) → ended_of rest ≡ Some entry → IsSaid entry_text IsEntry (codes "ended") rest entry
unfolding ended_of entry_text fact_text
ended_sound rest entry h =
    let a = bind_some (first_by (of_digits 64) rest) _ entry h in
    let b = bind_some (first_by (number_below (2 ^ 32)) a.0.1) _ entry a.2 in
    let c = bind_some (why_of b.0.1) _ entry b.2 in
    let peer = first_print rest a.0 a.1 in
    let near = first_short a.0.1 b.0 b.1 in
    subst (IsSaid entry_text IsEntry (codes "ended") rest) {x = FactEntry (Ended a.0.0 b.0.0 c.0)} (some_some _ _ c.2) (record {
      spelled = after (codes "ended") rest _ (follows peer (follows near (why_of-some b.0.1 c.0 c.1)));
      within = (peer.is, near.is);
    })

ended_whole : (peer : List ℕ) (near : ℕ) (why : Why) → IsBytesOf 32 peer → near < 2 ^ 32 → ended_of (encode_lower peer ++ 32 ∷ (decimal near ++ 32 ∷ why_text why)) ≡ Some (FactEntry (Ended peer near why))
unfolding ended_of
ended_whole peer near why p i = rw (print_first peer (decimal near ++ 32 ∷ why_text why) p, short_first near (why_text why) i, why_of-text why) refl

-- ---- other entries

closed_sound : (rest : List ℕ) (entry : LogEntry) → closed_of rest ≡ Some entry → IsSaid entry_text IsEntry (codes "closed") rest entry
unfolding closed_of entry_text
closed_sound rest entry h =
    let a = bind_some (number_below (2 ^ 32) rest) (λ near. Some (Closed near)) entry h in
    let n = short_field.sound rest a.0 a.1 in
    subst (IsSaid entry_text IsEntry (codes "closed") rest) {x = Closed a.0} (some_some _ _ a.2) (record { spelled = after (codes "closed") rest _ n.0; within = n.1 })

closed_whole : (near : ℕ) → near < 2 ^ 32 → closed_of (decimal near) ≡ Some (Closed near)
unfolding closed_of
closed_whole near fits = rw (short_field.whole near fits) refl

sought_sound : (rest : List ℕ) (entry : LogEntry) → sought_of rest ≡ Some entry → IsSaid entry_text IsEntry (codes "sought") rest entry
unfolding sought_of entry_text
sought_sound rest entry h =
    let a = bind_some (first_by (number_below (2 ^ 32)) rest) _ entry h in
    let b = bind_some (service_of a.0.1) _ entry a.2 in
    let near = first_short rest a.0 a.1 in
    let name = service_field.sound a.0.1 b.0 b.1 in
    subst (IsSaid entry_text IsEntry (codes "sought") rest) {x = Sought a.0.0 b.0} (some_some _ _ b.2) (record {
      spelled = after (codes "sought") rest _ (follows near name.0);
      within = (near.is, name.1);
    })

sought_whole : (near : ℕ) (name : List ℕ) → near < 2 ^ 32 → IsServiceName name → sought_of (decimal near ++ 32 ∷ encode_lower name) ≡ Some (Sought near name)
unfolding sought_of
sought_whole near name i n = rw (short_first near (encode_lower name) i, service_field.whole name n) refl

unsought_sound : (rest : List ℕ) (entry : LogEntry) → unsought_of rest ≡ Some entry → IsSaid entry_text IsEntry (codes "unsought") rest entry
unfolding unsought_of entry_text
unsought_sound rest entry h =
    let a = bind_some (first_by (number_below (2 ^ 32)) rest) _ entry h in
    let b = bind_some (why_of a.0.1) _ entry a.2 in
    let near = first_short rest a.0 a.1 in
    subst (IsSaid entry_text IsEntry (codes "unsought") rest) {x = Unsought a.0.0 b.0} (some_some _ _ b.2) (record {
      spelled = after (codes "unsought") rest _ (follows near (why_of-some a.0.1 b.0 b.1));
      within = near.is;
    })

unsought_whole : (near : ℕ) (why : Why) → near < 2 ^ 32 → unsought_of (decimal near ++ 32 ∷ why_text why) ≡ Some (Unsought near why)
unfolding unsought_of
unsought_whole near why i = rw (short_first near (why_text why) i, why_of-text why) refl

learnt_sound : (rest : List ℕ) (entry : LogEntry) → learnt_of rest ≡ Some entry → IsSaid entry_text IsEntry (codes "learnt") rest entry
unfolding learnt_of entry_text
learnt_sound rest entry h =
    let a = bind_some (number_of rest) (λ generation. Some (Learnt generation)) entry h in
    let n = number_field.sound rest a.0 a.1 in
    subst (IsSaid entry_text IsEntry (codes "learnt") rest) {x = Learnt a.0} (some_some _ _ a.2) (record { spelled = after (codes "learnt") rest _ n.0; within = n.1 })

learnt_whole : (generation : ℕ) → generation < 2 ^ 64 → learnt_of (decimal generation) ≡ Some (Learnt generation)
unfolding learnt_of
learnt_whole generation fits = rw (number_field.whole generation fits) refl

advanced_sound : (rest : List ℕ) (entry : LogEntry) → advanced_of rest ≡ Some entry → IsSaid entry_text IsEntry (codes "advanced") rest entry
unfolding advanced_of entry_text
advanced_sound rest entry h =
    let a = bind_some (number_of rest) (λ generation. Some (Advanced generation)) entry h in
    let n = number_field.sound rest a.0 a.1 in
    subst (IsSaid entry_text IsEntry (codes "advanced") rest) {x = Advanced a.0} (some_some _ _ a.2) (record { spelled = after (codes "advanced") rest _ n.0; within = n.1 })

advanced_whole : (generation : ℕ) → generation < 2 ^ 64 → advanced_of (decimal generation) ≡ Some (Advanced generation)
unfolding advanced_of
advanced_whole generation fits = rw (number_field.whole generation fits) refl

-- ---- contexts, with what stands behind them

-- a word and what stands behind its space are a context with this behind it
record IsBehind (word rest : List ℕ) (p : Context × List ℕ) : Type 0 where
  spelled : word ++ 32 ∷ rest ≡ context_text p.0 p.1
  within : IsContext p.0

startup_sound : (rest : List ℕ) (p : Context × List ℕ) → startup_at rest ≡ Some p → IsBehind (codes "startup") rest p
unfolding startup_at context_text
startup_sound rest p h =
    let a = bind_some (first_by number_of rest) (λ a. Some (Startup a.0, a.1)) p h in
    let n = first_number rest a.0 a.1 in
    subst (IsBehind (codes "startup") rest) {x = (Startup a.0.0, a.0.1)} (some_some _ _ a.2) (record {
      spelled = after (codes "startup") rest _ (follows n refl);
      within = n.is;
    })

session_sound : (rest : List ℕ) (p : Context × List ℕ) → session_at rest ≡ Some p → IsBehind (codes "session") rest p
unfolding session_at context_text
session_sound rest p h =
    let a = bind_some (first_by number_of rest) _ p h in
    let b = bind_some (first_by (of_digits 32) a.0.1) _ p a.2 in
    let c = bind_some (first_by (of_digits 32) b.0.1) _ p b.2 in
    let d = bind_some (first_by (of_digits 64) c.0.1) _ p c.2 in
    let e = bind_some (first_by (of_digits 64) d.0.1) _ p d.2 in
    let f = bind_some (first_by (number_below (2 ^ 32)) e.0.1) _ p e.2 in
    let g = bind_some (first_by (number_below (2 ^ 32)) f.0.1) _ p f.2 in
    let s = bind_some (first_by sender_of g.0.1) _ p g.2 in
    let generation = first_number rest a.0 a.1 in
    let ni = first_nonce a.0.1 b.0 b.1 in
    let nr = first_nonce b.0.1 c.0 c.1 in
    let fp_i = first_print c.0.1 d.0 d.1 in
    let fp_r = first_print d.0.1 e.0 e.1 in
    let sid_i = first_short e.0.1 f.0 f.1 in
    let sid_r = first_short f.0.1 g.0 g.1 in
    let sender = first_sender g.0.1 s.0 s.1 in
    subst (IsBehind (codes "session") rest) {x = (Session a.0.0 b.0.0 c.0.0 d.0.0 e.0.0 f.0.0 g.0.0 s.0.0, s.0.1)} (some_some _ _ s.2) (record {
      spelled = after (codes "session") rest _
          (follows generation (follows ni (follows nr (follows fp_i (follows fp_r (follows sid_i (follows sid_r (follows sender refl))))))));
      within = (generation.is, ni.is, nr.is, fp_i.is, fp_r.is, sid_i.is, sid_r.is);
    })

is_behind : (word rest : List ℕ) (p : Context × List ℕ) → IsSaid (λ (q : Context × List ℕ). context_text q.0 q.1) (λ (q : Context × List ℕ). IsContext q.0) word rest p → IsBehind word rest p
is_behind word rest p is = record { spelled = is.spelled; within = is.within }

context_said : (word rest : List ℕ) (p : Context × List ℕ) → IsBehind word rest p → IsSaid (λ (q : Context × List ℕ). context_text q.0 q.1) (λ (q : Context × List ℕ). IsContext q.0) word rest p
context_said word rest p is = record { spelled = is.spelled; within = is.within }

context_by_sound : (word rest : List ℕ) (p : Context × List ℕ) → context_by word rest ≡ Some p → IsBehind word rest p
unfolding context_by
context_by_sound word rest p h =
    let text : Context × List ℕ → List ℕ = λ q. context_text q.0 q.1 in
    let good : Context × List ℕ → Type 0 = λ q. IsContext q.0 in
    is_behind word rest p
    (by text good word rest p (codes "startup") (startup_at rest) _ (λ e. context_said (codes "startup") rest p (startup_sound rest p e))
    (by text good word rest p (codes "session") (session_at rest) None (λ e. context_said (codes "session") rest p (session_sound rest p e))
    (no_key text good word rest p)) h)

-- the text is a context with this behind it
record IsInFront (rest : List ℕ) (context : Context) (back : List ℕ) : Type 0 where
  spelled : rest ≡ context_text context back
  within : IsContext context

context_sound : (rest : List ℕ) (p : Context × List ℕ) → context_at rest ≡ Some p → IsInFront rest p.0 p.1
unfolding context_at
context_sound rest p h =
    let a = bind_some (split_of 32 rest) (λ a. context_by a.0 a.1) p h in
    let is = context_by_sound a.0.0 a.0.1 p a.2 in
    record { spelled = split_joined 32 rest a.0 a.1 ∙ is.spelled; within = is.within }

session_whole : (generation : ℕ) (ni nr fp_i fp_r : List ℕ) (sid_i sid_r : ℕ) (to_responder : Bool) (back : List ℕ) →
    generation < 2 ^ 64 → IsBytesOf 16 ni → IsBytesOf 16 nr → IsBytesOf 32 fp_i → IsBytesOf 32 fp_r → sid_i < 2 ^ 32 → sid_r < 2 ^ 32 →
    session_at (decimal generation ++ 32 ∷ (encode_lower ni ++ 32 ∷ (encode_lower nr ++ 32 ∷ (encode_lower fp_i ++ 32 ∷ (encode_lower fp_r ++ 32 ∷ (decimal sid_i ++ 32 ∷ (decimal sid_r ++ 32 ∷ (sender_text to_responder ++ 32 ∷ back))))))))
    ≡ Some (Session generation ni nr fp_i fp_r sid_i sid_r to_responder, back)
unfolding session_at
session_whole generation ni nr fp_i fp_r sid_i sid_r to_responder back g i r pi pr si sr =
    let sender : List ℕ = sender_text to_responder ++ 32 ∷ back in
    let sid_r_text : List ℕ = decimal sid_r ++ 32 ∷ sender in
    let sid_i_text : List ℕ = decimal sid_i ++ 32 ∷ sid_r_text in
    let fp_r_text : List ℕ = encode_lower fp_r ++ 32 ∷ sid_i_text in
    let fp_i_text : List ℕ = encode_lower fp_i ++ 32 ∷ fp_r_text in
    let nr_text : List ℕ = encode_lower nr ++ 32 ∷ fp_i_text in
    let ni_text : List ℕ = encode_lower ni ++ 32 ∷ nr_text in
    rw (
      number_first generation ni_text g,
      nonce_first ni nr_text i,
      nonce_first nr fp_i_text r,
      print_first fp_i fp_r_text pi,
      print_first fp_r sid_i_text pr,
      short_first sid_i sid_r_text si,
      short_first sid_r sender sr,
      sender_first to_responder back,
    ) refl

startup_whole : (generation : ℕ) (back : List ℕ) → generation < 2 ^ 64 → startup_at (decimal generation ++ 32 ∷ back) ≡ Some (Startup generation, back)
unfolding startup_at
startup_whole generation back g = rw (number_first generation back g) refl

context_whole : (context : Context) (back : List ℕ) → IsContext context → context_at (context_text context back) ≡ Some (context, back)
unfolding split_of context_at context_by context_text
context_whole (Startup generation) back w = startup_whole generation back w
context_whole (Session generation ni nr fp_i fp_r sid_i sid_r to_responder) back w =
    session_whole generation ni nr fp_i fp_r sid_i sid_r to_responder back w.0 w.1 w.2 w.3 w.4 w.5 w.6

-- ---- datagrams

out_sound : (rest : List ℕ) (entry : LogEntry) → out_of rest ≡ Some entry → IsSaid entry_text IsEntry (codes "out") rest entry
unfolding out_of entry_text
out_sound rest entry h =
    let a = bind_some (first_by address_of rest) _ entry h in
    let b = bind_some (context_at a.0.1) _ entry a.2 in
    let c = bind_some (hexadecimal_of b.0.1) _ entry b.2 in
    let to = first_address rest a.0 a.1 in
    let context = context_sound a.0.1 b.0 b.1 in
    let datagram = bytes_field.sound b.0.1 c.0 c.1 in
    subst (IsSaid entry_text IsEntry (codes "out") rest) {x = Out a.0.0 c.0 b.0.0} (some_some _ _ c.2) (record {
      spelled = after (codes "out") rest _ (follows to (context.spelled ∙ ap (context_text b.0.0) datagram.0));
      within = (to.is, context.within, datagram.1);
    })

out_whole : (to : AddressParts) (datagram : List ℕ) (context : Context) → IsPlainAddress to → IsContext context → AreBytes datagram →
    out_of (address_text to ++ 32 ∷ context_text context (bytes_text datagram)) ≡ Some (Out to datagram context)
unfolding out_of
out_whole to datagram context t c d =
    rw (
      address_first to (context_text context (bytes_text datagram)) t,
      context_whole context (bytes_text datagram) c,
      bytes_field.whole datagram d,
    ) refl

-- ---- by their word

by_sound : (word rest : List ℕ) (entry : LogEntry) → entry_by word rest ≡ Some entry → IsSaid entry_text IsEntry word rest entry
unfolding entry_by
by_sound word rest entry =
    by entry_text IsEntry word rest entry (codes "started") (started_of rest) _ (started_sound rest entry)
    (by entry_text IsEntry word rest entry (codes "born") (born_of rest) _ (born_sound rest entry)
    (by entry_text IsEntry word rest entry (codes "opened") (opened_of rest) _ (opened_sound rest entry)
    (by entry_text IsEntry word rest entry (codes "confirmed") (confirmed_of rest) _ (confirmed_sound rest entry)
    (by entry_text IsEntry word rest entry (codes "ended") (ended_of rest) _ (ended_sound rest entry)
    (by entry_text IsEntry word rest entry (codes "closed") (closed_of rest) _ (closed_sound rest entry)
    (by entry_text IsEntry word rest entry (codes "sought") (sought_of rest) _ (sought_sound rest entry)
    (by entry_text IsEntry word rest entry (codes "unsought") (unsought_of rest) _ (unsought_sound rest entry)
    (by entry_text IsEntry word rest entry (codes "learnt") (learnt_of rest) _ (learnt_sound rest entry)
    (by entry_text IsEntry word rest entry (codes "advanced") (advanced_of rest) _ (advanced_sound rest entry)
    (by entry_text IsEntry word rest entry (codes "out") (out_of rest) None (out_sound rest entry)
    (no_key entry_text IsEntry word rest entry)))))))))))

pub entry_sound : (rest : List ℕ) (entry : LogEntry) → entry_of rest ≡ Some entry → IsSpelled entry_text IsEntry rest entry
unfolding entry_of
entry_sound rest entry h =
    let a = bind_some (split_of 32 rest) (λ a. entry_by a.0 a.1) entry h in
    let is = by_sound a.0.0 a.0.1 entry a.2 in
    record { spelled = split_joined 32 rest a.0 a.1 ∙ is.spelled; within = is.within }

pub entry_whole : (entry : LogEntry) → IsEntry entry → entry_of (entry_text entry) ≡ Some entry
unfolding split_of entry_of entry_by entry_text fact_text
entry_whole (FactEntry (Started peer n near ni)) w = started_whole peer n near ni w.0 w.1 w.2 w.3
entry_whole (FactEntry (Born joined)) w = born_whole joined w
entry_whole (FactEntry (Opened joined)) w = opened_whole joined w
entry_whole (FactEntry (Confirmed peer near)) w = confirmed_whole peer near w.0 w.1
entry_whole (FactEntry (Ended peer near why)) w = ended_whole peer near why w.0 w.1
entry_whole (Closed near) w = closed_whole near w
entry_whole (Sought near name) w = sought_whole near name w.0 w.1
entry_whole (Unsought near why) w = unsought_whole near why w
entry_whole (Learnt generation) w = learnt_whole generation w
entry_whole (Advanced generation) w = advanced_whole generation w
entry_whole (Out to datagram context) w = out_whole to datagram context w.0 w.1 w.2
