-- What came before a fact: a Started before a Born, a Born before an Opened, an Opened before a Confirmed.
use Rattle.std.proofs.Common.{ℕ, List, [], ◌∷◌, ◌≡◌, inl, inr, length, refl, sym, ap, subst, arith, true, Some, Option, ◌∙◌}
use Rattle.std.proofs.lemmas.Bool.{cases_order}
use Rattle.glare_core.specs.declared.facts.Fact.{Fact}
use Rattle.glare_core.specs.declared.facts.Fact.TheVariants.{Started, Born, Opened, Confirmed, Ended}
use Rattle.glare_core.specs.declared.facts.Held.{Held}
use Rattle.glare_core.specs.declared.facts.Held.TheVariants.{HalfOpen}
use Rattle.glare_core.specs.declared.facts.Joined.{Joined}
use Rattle.glare_core.specs.Tells.{Keying, Answer, Under, Values, as_initiator, as_responder}
use Rattle.glare_core.specs.Steps.{Item, Told, Did, Sends, Step, step, Among, view, holding, IsTail, Happened}
use Rattle.glare_core.specs.Told.{with_nonce, nonces, WasSent}
use Rattle.glare_core.proofs.Tails.{from_view, from_steps, earlier_step, same_step, lift, AreOneFact, one_fact}
use Rattle.glare_core.proofs.Views.{floor_at}
use Rattle.glare_core.proofs.Sound.{IsSound, fits_at, sound_at}
use Rattle.glare_core.proofs.Standings.{opening_is, half_open_is}

-- the end stated this fact
pub record Stated (x : List ℕ) (fact : Fact) (now : List Step) : Type 0 where
  pub g : ℕ
  pub before : List Step
  pub at : Happened x (Did fact g) before now

pub lift_stated : (x : List ℕ) (fact : Fact) (s : Step) (b now : List Step) → IsTail (s ∷ b) now → Stated x fact b → Stated x fact now
lift_stated x fact s b now t h = record { g = h.g; before = h.before; at = lift (step x (Did fact h.g)) s h.before b now h.at t }

-- A Keying that was sent is of an attempt that was started.
pub keying_sent : (i r : List ℕ) (n : ℕ) (ni : List ℕ) (near g : ℕ) (now : List Step) → IsSound now → WasSent (Keying i r n ni near g) now → Stated i (Started r n near ni) now
keying_sent i r n ni near g now sound w =
    let k = Keying i r n ni near g in
    let h = from_steps w.0 (Sends k) now w.1 in
    let fits = fits_at w.0 (Sends k) h.before now sound h.at in
    let last = opening_is w.0 r h.before (sound_at w.0 (Sends k) h.before now sound h.at) n near ni fits.attempt in
    subst (λ q. Stated q (Started r n near ni) now) (sym fits.from)
    (lift_stated w.0 (Started r n near ni) (step w.0 (Sends k)) h.before now h.at (record { g = last.g; before = last.before; at = last.at }))

-- A Born has an earlier Started of its peer.
pub born_started : (y : List ℕ) (j : Joined) (g : ℕ) (b now : List Step) → IsSound now → Happened y (Did (Born j) g) b now → Stated j.peer (Started y j.n j.far j.ni) b
born_started y j g b now sound at =
    let k = Keying j.peer y j.n j.ni j.far g in
    let sound_b = sound_at y (Did (Born j) g) b now sound at in
    let fits = (fits_at y (Did (Born j) g) b now sound at).fits in
    let h = from_view y (Told k) b fits.heard in
    let sent = fits_at y (Told k) h.before b sound_b h.at in
    lift_stated j.peer (Started y j.n j.far j.ni) (step y (Told k)) h.before b h.at
    (keying_sent j.peer y j.n j.ni j.far g h.before (sound_at y (Told k) h.before b sound_b h.at) sent)

more_nonces : (x : List ℕ) (item : Item) (before : List (List ℕ)) → Among x before → Among x (with_nonce item before)
more_nonces x (Told t) before h = h
more_nonces x (Sends t) before h = h
more_nonces x (Did (Started peer n near ni) g) before h = inr h
more_nonces x (Did (Born j) g) before h = inr h
more_nonces x (Did (Opened j) g) before h = h
more_nonces x (Did (Confirmed peer near) g) before h = h
more_nonces x (Did (Ended peer near why) g) before h = h

started_nonce : (x p : List ℕ) (n near : ℕ) (ni : List ℕ) (g : ℕ) (b now : List Step) → Happened x (Did (Started p n near ni) g) b now → Among ni (nonces now)
started_nonce x p n near ni g b [] e = absurd (cc)
started_nonce x p n near ni g b (s ∷ earlier) (inl e) = subst (λ r. Among ni (nonces r)) e (inl refl)
started_nonce x p n near ni g b (s ∷ earlier) (inr t) = more_nonces ni s.item (nonces earlier) (started_nonce x p n near ni g b earlier t)

-- Two Started with one nonce are one step.
pub started_once : (x p : List ℕ) (n near : ℕ) (ni : List ℕ) (g : ℕ) (b : List Step) (x' p' : List ℕ) (n' near' : ℕ) (ni' : List ℕ) (g' : ℕ) (b' now : List Step) →
    IsSound now → Happened x (Did (Started p n near ni) g) b now → Happened x' (Did (Started p' n' near' ni') g') b' now → ni ≡ ni' →
    AreOneFact x (Started p n near ni) g b x' (Started p' n' near' ni') g' b'
started_once x p n near ni g b x' p' n' near' ni' g' b' now sound at at' e =
    let s = step x (Did (Started p n near ni) g) in
    let s' = step x' (Did (Started p' n' near' ni') g') in
    elim (cases_order (length b) (length b')) [
      | inl same ↦ one_fact x (Started p n near ni) g b x' (Started p' n' near' ni') g' b' (same_step s s' b b' now at at' same)
      | inr (inl lt) ↦
          absurd ((fits_at x' (Did (Started p' n' near' ni') g') b' now sound at').fresh
          (subst (λ q. Among q (nonces b')) e (started_nonce x p n near ni g b b' (earlier_step s s' b b' now at at' lt))))
      | inr (inr gt) ↦
          absurd ((fits_at x (Did (Started p n near ni) g) b now sound at).fresh
          (subst (λ q. Among q (nonces b)) (sym e) (started_nonce x' p' n' near' ni' g' b' b (earlier_step s' s b' b now at' at gt))))
    ]

-- Two Borns at an end of one peer and with one number are one step.
pub born_once : (y : List ℕ) (j : Joined) (g : ℕ) (b : List Step) (j' : Joined) (g' : ℕ) (b' now : List Step) → IsSound now →
    Happened y (Did (Born j) g) b now → Happened y (Did (Born j') g') b' now → j.peer ≡ j'.peer → j.n ≡ j'.n →
    AreOneFact y (Born j) g b y (Born j') g' b'
born_once y j g b j' g' b' now sound at at' ep en =
    let s = step y (Did (Born j) g) in
    let s' = step y (Did (Born j') g') in
    elim (cases_order (length b) (length b')) [
      | inl same ↦ one_fact y (Born j) g b y (Born j') g' b' (same_step s s' b b' now at at' same)
      | inr (inl lt) ↦
          absurd (omega (
            arith,
            en,
            (fits_at y (Did (Born j') g') b' now sound at').fits.stands.above,
            floor_at y j'.peer (Born j) g b b' (earlier_step s s' b b' now at at' lt) ep,
          ))
      | inr (inr gt) ↦
          absurd (omega (
            arith,
            en,
            (fits_at y (Did (Born j) g) b now sound at).fits.stands.above,
            floor_at y j.peer (Born j') g' b' b (earlier_step s' s b' b now at' at gt) (sym ep),
          ))
    ]

-- the birth of what an Answer tells
pub record AnswerOf (near_i : ℕ) (r : List ℕ) (near_r : ℕ) (nr : List ℕ) (k : ℕ) (ni : List ℕ) (g : ℕ) (now : List Step) : Type 0 where
  pub t : Joined
  pub early : List Step
  pub born : Happened r (Did (Born t) g) early now
  pub near_i_is : near_i ≡ t.far
  pub near_r_is : near_r ≡ t.near
  pub nr_is : nr ≡ t.nr
  pub k_is : k ≡ t.k
  pub ni_is : ni ≡ t.ni

answer_sent : (near_i : ℕ) (r : List ℕ) (near_r : ℕ) (nr : List ℕ) (k : ℕ) (ni : List ℕ) (g : ℕ) (now : List Step) → IsSound now →
    WasSent (Answer near_i r near_r nr k ni g) now → AnswerOf near_i r near_r nr k ni g now
answer_sent near_i r near_r nr k ni g now sound w =
    let a = Answer near_i r near_r nr k ni g in
    let h = from_steps w.0 (Sends a) now w.1 in
    let fits = fits_at w.0 (Sends a) h.before now sound h.at in
    let b = from_view w.0 (Did (Born fits.j) g) h.before fits.born in
    record {
      t = fits.j;
      early = b.before;
      born = subst (λ q. Happened q (Did (Born fits.j) g) b.before now) (sym fits.from) (lift (step w.0 (Did (Born fits.j) g)) (step w.0 (Sends a)) b.before h.before now b.at h.at);
      near_i_is = fits.near_i_is;
      near_r_is = fits.near_r_is;
      nr_is = fits.nr_is;
      k_is = fits.k_is;
      ni_is = fits.ni_is;
    }

-- the Born of an Opened
pub record BirthOf (x : List ℕ) (s : Joined) (g : ℕ) (before : List Step) : Type 0 where
  pub t : Joined
  pub early : List Step
  pub born : Happened s.peer (Did (Born t) g) early before
  pub peer : t.peer ≡ x
  pub n : t.n ≡ s.n
  pub k : t.k ≡ s.k
  pub ni : t.ni ≡ s.ni
  pub nr : t.nr ≡ s.nr
  pub near : t.near ≡ s.far
  pub far : t.far ≡ s.near

same_n : (p : List ℕ) (n near : ℕ) (ni p' : List ℕ) (n' near' : ℕ) (ni' : List ℕ) → Started p n near ni ≡ Started p' n' near' ni' → n ≡ n'
same_n p n near ni p' n' near' ni' e = cc

-- An Opened has an earlier Born at its peer, with its values.
pub opened_born : (x : List ℕ) (s : Joined) (g : ℕ) (b now : List Step) → IsSound now → Happened x (Did (Opened s) g) b now → BirthOf x s g b
opened_born x s g b now sound at =
    let a = Answer s.near s.peer s.far s.nr s.k s.ni g in
    let sound_b = sound_at x (Did (Opened s) g) b now sound at in
    let fits = (fits_at x (Did (Opened s) g) b now sound at).fits in
    let h = from_view x (Told a) b fits.heard in
    let sent = answer_sent s.near s.peer s.far s.nr s.k s.ni g h.before (sound_at x (Told a) h.before b sound_b h.at) (fits_at x (Told a) h.before b sound_b h.at) in
    let born : Happened s.peer (Did (Born sent.t) g) sent.early b = lift (step s.peer (Did (Born sent.t) g)) (step x (Told a)) sent.early h.before b sent.born h.at in
    let own = opening_is x s.peer b sound_b s.n s.near s.ni fits.stands in
    let start = born_started s.peer sent.t g sent.early b sound_b born in
    let start_at : Happened sent.t.peer (Did (Started s.peer sent.t.n sent.t.far sent.t.ni) start.g) start.before b =
    lift (step sent.t.peer (Did (Started s.peer sent.t.n sent.t.far sent.t.ni) start.g)) (step s.peer (Did (Born sent.t) g)) start.before sent.early b start.at born in
    let same = started_once sent.t.peer s.peer sent.t.n sent.t.far sent.t.ni start.g start.before x s.peer s.n s.near s.ni own.g own.before b sound_b start_at own.at (sym sent.ni_is) in
    record {
      t = sent.t;
      early = sent.early;
      born = born;
      peer = same.who;
      n = same_n _ _ _ _ _ _ _ _ same.fact_is;
      k = sym sent.k_is;
      ni = sym sent.ni_is;
      nr = sym sent.nr_is;
      near = sym sent.near_r_is;
      far = sym sent.near_i_is;
    }

-- the Opened of a Confirmed
pub record OpeningOf (y p : List ℕ) (j : Joined) (before : List Step) : Type 0 where
  pub s : Joined
  pub g : ℕ
  pub early : List Step
  pub opened : Happened p (Did (Opened s) g) early before
  pub values : as_responder y j ≡ as_initiator p s

-- the Opened of what an Under to a responder tells
pub record UnderOf (values : Values) (g : ℕ) (now : List Step) : Type 0 where
  pub who : List ℕ
  pub s : Joined
  pub early : List Step
  pub opened : Happened who (Did (Opened s) g) early now
  pub values_are : values ≡ as_initiator who s

under_sent : (values : Values) (g : ℕ) (now : List Step) → IsSound now → WasSent (Under values true g) now → UnderOf values g now
under_sent values g now sound w =
    let u = Under values true g in
    let h = from_steps w.0 (Sends u) now w.1 in
    let fits = fits_at w.0 (Sends u) h.before now sound h.at in
    let o = from_view w.0 (Did (Opened fits.j) g) h.before fits.opened in
    record {
      who = w.0;
      s = fits.j;
      early = o.before;
      opened = lift (step w.0 (Did (Opened fits.j) g)) (step w.0 (Sends u)) o.before h.before now o.at h.at;
      values_are = fits.values_are;
    }

opening_from : (y p : List ℕ) (j : Joined) (now : List Step) → j.peer ≡ p → (g : ℕ) → UnderOf (as_responder y j) g now → OpeningOf y p j now
opening_from y p j now ep g u =
    let who : u.who ≡ p = sym (ap (λ (v : Values). v.initiator) u.values_are) ∙ ep in
    record {
      s = u.s;
      g = g;
      early = u.early;
      opened = subst (λ q. Happened q (Did (Opened u.s) g) u.early now) who u.opened;
      values = subst (λ q. as_responder y j ≡ as_initiator q u.s) who u.values_are;
    }

same_half_open : (h : Option Held) (i j : Joined) → h ≡ Some (HalfOpen i) → h ≡ Some (HalfOpen j) → i ≡ j
same_half_open h i j p q = cc

-- A Confirmed has an earlier Opened at the peer, with the values of the session.
pub confirmed_opened : (y p : List ℕ) (near g : ℕ) (b now : List Step) (j : Joined) → IsSound now → Happened y (Did (Confirmed p near) g) b now →
    holding y p b ≡ Some (HalfOpen j) → OpeningOf y p j b
confirmed_opened y p near g b now j sound at half =
    let sound_b = sound_at y (Did (Confirmed p near) g) b now sound at in
    let heard = (fits_at y (Did (Confirmed p near) g) b now sound at).fits.heard in
    let e : heard.j ≡ j = same_half_open (holding y p b) heard.j j heard.session half in
    let told : Among (Told (Under (as_responder y j) true heard.generation)) (view y b) = subst (λ i. Among (Told (Under (as_responder y i) true heard.generation)) (view y b)) e heard.told in
    let u = Under (as_responder y j) true heard.generation in
    let h = from_view y (Told u) b told in
    let o = under_sent (as_responder y j) heard.generation h.before (sound_at y (Told u) h.before b sound_b h.at) (fits_at y (Told u) h.before b sound_b h.at) in
    opening_from y p j b (half_open_is y p b sound_b j half).0 heard.generation
    (record {
      who = o.who;
      s = o.s;
      early = o.early;
      opened = lift (step o.who (Did (Opened o.s) heard.generation)) (step y (Told u)) o.early h.before b o.opened h.at;
      values_are = o.values_are;
    })
