-- What is kept of session IDs goes on being that of a log.
use Rattle.std.proofs.Common.{ℕ, List, [], ◌∷◌, ◌≡◌, ◌==◌, inl, inr, refl, sym, ap, subst, Bool, true, false, if◌then◌else◌, Option, Some, None, ◌∙◌}
use Rattle.std.specs.Ordering.{nat_cmp}
use Rattle.std.specs.FinMap.{get, insert, get-empty}
use Rattle.rtmfp_base.proofs.Maps.{get_inserted, get_beside}
use Rattle.crypto_profile.specs.declared.keys.Context.{Context}
use Rattle.crypto_profile.specs.declared.keys.Context.TheVariants.{Startup, Session as InSession}
use Rattle.packet_scramble.specs.Datagram.{sid_of}
use Rattle.rtmfp_forms.specs.Address.{AddressParts}
use Rattle.glare_core.specs.declared.facts.Fact.{Fact}
use Rattle.glare_core.specs.declared.facts.Fact.TheVariants.{Started, Born, Opened, Confirmed, Ended}
use Rattle.glare_core.specs.declared.facts.Held.{Held}
use Rattle.glare_core.specs.declared.facts.Held.TheVariants.{Opening, HalfOpen, KeptAsResponder, KeptAsInitiator}
use Rattle.glare_core.specs.declared.facts.Joined.{Joined}
use Rattle.glare_core.specs.declared.facts.Why.{Why}
use Rattle.glare_core.specs.Standing.{peer_of, after, held, count}
use Rattle.glare_core.specs.Stands.{Stands}
use Rattle.glare_core.specs.Things.{IsSession, near_of}
use Rattle.endpoint_model.specs.Event.{Setup, Call, Event, open_in, seek_in, receive_in}
use Rattle.log_contexts.proofs.CallsTaken.{call_with}
use Rattle.endpoint_model.specs.declared.entry.Entry.{Entry}
use Rattle.endpoint_model.specs.declared.entry.Entry.TheVariants.{Fact as FactEntry, Closed, Sought, Unsought, Moved, Learnt, Advanced, FlowOpened, Queued, Finished, Abandoned, Handed, Discard, Out}
use Rattle.endpoint_model.specs.Views.{fact_in, out_in, sought_in}
use Rattle.endpoint_model.proofs.Members.{tested}
use Rattle.endpoint_laws.specs.Past.{Past, OfEvent, Stamped, Taken, stamped, begun, begins, datagram_in, datagram_of, facts_of, is_in_use, last_call, nothing_done, open_of, opened_tag, seek_of, sought_tag, sought_id, started_id, tag_if, tag_of, taken_and, taken_since, was_gone_through, WasStated, with_begun, with_entry}
use Rattle.endpoint_laws.specs.Contexts.{Secrets, inward, BeganWith, BegunUnder, EventOpenedIn, OpensUnder, StandsUnder}
use Rattle.endpoint_laws.specs.Taken.{inward_mode}
use Rattle.log_digest.specs.Changes.{HasPlace, MayCome}
use Rattle.log_digest.specs.Kept.{Digested}
use Rattle.log_digest.specs.Digest.{IsDigestOf}
use Rattle.log_digest.specs.Hearing.{IsHearingOf, nothing_heard, heard_with, takes}
use Rattle.log_digest.proofs.Stated.{is_thing}
use Rattle.log_digest.proofs.Orderly.{new_born, new_opened}
use Rattle.log_digest.proofs.Hears.{first_hearing, not_heard, passes, passed, heard_more}
use Rattle.log_contexts.specs.declared.threads.Thread.{Thread}
use Rattle.log_contexts.specs.declared.sessions.Session.{Session}
use Rattle.log_contexts.specs.Kept.{KeptContexts, SessionTable, nothing_kept, keying_in, tag_in}
use Rattle.log_contexts.specs.Changes.{added, begun_id, begun_in, begun_in_session, begun_with, heard_by, heard_if, stated, takes_if, with_session, with_start, with_threads}
use Rattle.log_contexts.specs.Contexts.{AreContextsOf, AreKeyingsOf, BeginsIn, HearsThere, IsKeptOf, OpensInNone, OpensThere}
use Rattle.log_contexts.proofs.Standing.{one_stands, stands_in_use, stands_plain, stands_fact, begun_one, begun_plain, begun_confirmed, began_with}
use Rattle.log_contexts.proofs.Keyed.{AreKept, kept_plain, kept_started, kept_sought, kept_keyed, kept_beside, tag_opened, tag_sought, tag_keyed}

none_some : (g : ℕ) → None ≡ Some g → ⊥
none_some g e = absurd cc

none_held : (thing : Held) → None ≡ Some thing → ⊥
none_held thing e = absurd cc

never_used : true ≡ false → ⊥
never_used e = absurd cc

-- ---- an empty log

nothing_stands : (near : ℕ) (thing : Held) → StandsUnder nothing_done near thing → ⊥
nothing_stands near thing (inl h) = none_held thing h.is_held
nothing_stands near thing (inr c) = c.1

pub contexts_first : (secrets : Secrets) (setup : Setup) → AreContextsOf secrets setup nothing_done nothing_kept
contexts_first secrets setup = record {
  opened_is = refl;
  sought_is = refl;
  tag = λ near. sym (ap tag_in (get-empty {X = Thread} nat_cmp near));
  went = λ near generation went. absurd went;
  keying = λ near generation e. absurd (none_some generation (sym (ap keying_in (get-empty {X = Thread} nat_cmp near)) ∙ e));
  session = λ near thing stands is_session. absurd (nothing_stands near thing stands);
}

kept_of : (secrets : Secrets) (setup : Setup) (past : Past) (c : KeptContexts) → AreContextsOf secrets setup past c → AreKept secrets past c.threads
kept_of secrets setup past c are = record { went = are.went; keying = are.keying }

-- ---- one more event

receives : (call : Call) (datagram : List ℕ) → datagram_of (receive_in call) ≡ Some datagram → (opened_tag (open_in call) None ≡ None) × (sought_tag (seek_in call) None ≡ None)
receives call datagram e =
    let is = (call_with call datagram e).1 in
    (ap (λ (c : Call). opened_tag (open_in c) None) is, ap (λ (c : Call). sought_tag (seek_in c) None) is)

through : (b : Bool) (o : Option (List ℕ)) (datagram : List ℕ) → (if b then o else None) ≡ Some datagram → o ≡ Some datagram
through true o datagram e = e
through false o datagram e = absurd cc

module _ (secrets : Secrets) (setup : Setup) (past : Past) (c : KeptContexts) (are : AreContextsOf secrets setup past c) (moment : ℕ) (e : Event) where
  -- what is said of attempts and searches stays
  begun_kept : AreKept secrets (begun moment e ∷ past) c.threads
  begun_kept = kept_plain secrets past c.threads (kept_of secrets setup past c are) (begun moment e) refl refl refl

  -- a session that didn't hear the event's datagram
  unheard : (near : ℕ) (thing : Held) (kept : Option Session) (k : IsKeptOf secrets setup past near thing kept) (o : Option (List ℕ)) → datagram_in (OfEvent e) ≡ o →
      ((datagram plain : List ℕ) → o ≡ Some datagram → OpensUnder secrets (inward setup k.generation thing) near datagram plain → ⊥) → IsKeptOf secrets setup (begun moment e ∷ past) near thing kept
  unheard near thing kept k o is never = record {
    generation = k.generation;
    heard = k.heard;
    kept_is = k.kept_is;
    begun = begun_plain secrets setup thing k.generation past (begun moment e) refl k.begun;
    hearing = subst (λ (given : Option (List ℕ)). IsHearingOf secrets (inward setup k.generation thing) (inward_mode thing) near (taken_and moment given (taken_since near past)) k.heard) (sym is) (go o never);
  }
    where
      go : (given : Option (List ℕ)) → ((datagram plain : List ℕ) → given ≡ Some datagram → OpensUnder secrets (inward setup k.generation thing) near datagram plain → ⊥) →
          IsHearingOf secrets (inward setup k.generation thing) (inward_mode thing) near (taken_and moment given (taken_since near past)) k.heard
      go None apart = k.hearing
      go (Some datagram) apart =
          not_heard secrets (inward setup k.generation thing) (inward_mode thing) near (taken_since near past) k.heard k.hearing (record { moment = moment; datagram = datagram }) (λ plain opens. apart datagram plain refl opens)

  opens_in_none : (near : ℕ) (thing : Held) → StandsUnder past near thing → IsSession thing → (generation : ℕ) → BegunUnder secrets setup thing generation past → (o : Option (List ℕ)) → OpensInNone secrets setup past o →
      (datagram plain : List ℕ) → o ≡ Some datagram → OpensUnder secrets (inward setup generation thing) near datagram plain → ⊥
  opens_in_none near thing stands is_session generation begun None none datagram plain is opens = absurd (let clash : None ≡ Some datagram = is in cc)
  opens_in_none near thing stands is_session generation begun (Some given) none datagram plain is opens =
      let same : datagram ≡ given = (let back : Some given ≡ Some datagram = is in cc) in
      none near thing (record {
        stands = stands;
        is_session = is_session;
        generation = generation;
        begun = begun;
        plain = plain;
        opens = subst (λ (bytes : List ℕ). OpensUnder secrets (inward setup generation thing) near bytes plain) same opens;
      })

  pub contexts_begun : (opened sought : Option (List ℕ)) → opened_tag (open_in e.call) None ≡ opened → sought_tag (seek_in e.call) None ≡ sought → OpensInNone secrets setup past (datagram_in (OfEvent e)) →
      AreContextsOf secrets setup (with_begun moment e past) (begun_with opened sought c)
  contexts_begun opened sought opened_is sought_is none = record {
    opened_is = sym opened_is;
    sought_is = sym sought_is;
    tag = are.tag;
    went = begun_kept.went;
    keying = begun_kept.keying;
    session = λ near thing stands is_session.
        let before = stands_plain past (begun moment e) refl near thing stands in
        let k = are.session near thing before is_session in
        unheard near thing (get c.sessions near) k (datagram_in (OfEvent e)) refl (opens_in_none near thing before is_session k.generation k.begun (datagram_in (OfEvent e)) none);
  }

  -- the session under this session ID hears it
  module _ (last : ℕ) (d : Digested) (is : IsDigestOf last past d) (near : ℕ) (thing : Held) (generation : ℕ) (datagram : List ℕ) (given : datagram_in (OfEvent e) ≡ Some datagram) (count : ℕ) (fits : Bool)
      (there : OpensThere secrets setup past near thing generation datagram count fits) where
    known : IsKeptOf secrets setup past near thing (get c.sessions near)
    known = are.session near thing there.stands there.is_session

    same : known.generation ≡ generation
    same = begun_one secrets setup thing known.generation generation past known.begun there.begun

    kept_there : get c.sessions near ≡ Some (record { generation = generation; hearing = known.heard })
    kept_there = known.kept_is ∙ ap (λ (g : ℕ). Some (record { generation = g; hearing = known.heard })) same

    hearing : IsHearingOf secrets (inward setup generation thing) (inward_mode thing) near (taken_since near past) known.heard
    hearing = subst (λ (g : ℕ). IsHearingOf secrets (inward setup g thing) (inward_mode thing) near (taken_since near past) known.heard) same known.hearing

    abbrev after_it : SessionTable
    after_it = heard_if near count moment fits (get c.sessions near) c.sessions

    left_is : after_it ≡ insert c.sessions near (heard_by count moment fits (record { generation = generation; hearing = known.heard }))
    left_is = ap (λ (o : Option Session). heard_if near count moment fits o c.sessions) kept_there

    hears_here : IsKeptOf secrets setup (begun moment e ∷ past) near thing (get after_it near)
    hears_here = record {
      generation = generation;
      heard = heard_with count moment fits known.heard;
      kept_is = ap (λ (table : SessionTable). get table near) left_is ∙ get_inserted c.sessions near (heard_by count moment fits (record { generation = generation; hearing = known.heard }));
      begun = begun_plain secrets setup thing generation past (begun moment e) refl there.begun;
      hearing = subst (λ (o : Option (List ℕ)). IsHearingOf secrets (inward setup generation thing) (inward_mode thing) near (taken_and moment o (taken_since near past)) (heard_with count moment fits known.heard)) (sym given)
          (heard_more secrets (inward setup generation thing) (inward_mode thing) near (taken_since near past) known.heard hearing datagram count moment fits there.opens);
    }

    hears_beside : (q : ℕ) (other : Held) → StandsUnder past q other → IsSession other → (q ≡ near → ⊥) → IsKeptOf secrets setup (begun moment e ∷ past) q other (get after_it q)
    hears_beside q other stands is_session beside =
        let k = are.session q other stands is_session in
        let stays : get after_it q ≡ get c.sessions q =
        ap (λ (table : SessionTable). get table q) left_is ∙ get_beside c.sessions near (heard_by count moment fits (record { generation = generation; hearing = known.heard })) q beside in
        subst (λ (o : Option Session). IsKeptOf secrets setup (begun moment e ∷ past) q other o) (sym stays)
        (unheard q other (get c.sessions q) k (Some datagram) given (λ bytes plain e opens.
        let is_it : bytes ≡ datagram = (let back : Some datagram ≡ Some bytes = e in cc) in
        beside (sym opens.id ∙ ap sid_of is_it ∙ there.opens.opens.id)))

    pub contexts_heard : AreContextsOf secrets setup (with_begun moment e past) (begun_in_session near count moment fits c)
    contexts_heard =
        let none = receives e.call datagram (through (was_gone_through e.answer) (datagram_of (receive_in e.call)) datagram given) in
        record {
          opened_is = sym none.0;
          sought_is = sym none.1;
          tag = are.tag;
          went = begun_kept.went;
          keying = begun_kept.keying;
          session = λ q other stands is_session.
              let before = stands_plain past (begun moment e) refl q other stands in
              elim (tested q near) [
                | inl at ↦
                    let is_it : other ≡ thing = one_stands last past d is near other thing (subst (λ (n : ℕ). StandsUnder past n other) at.0 before) there.stands in
                    subst (λ (n : ℕ). IsKeptOf secrets setup (begun moment e ∷ past) n other (get after_it n)) (sym at.0)
                    (subst (λ (t : Held). IsKeptOf secrets setup (begun moment e ∷ past) near t (get after_it near)) (sym is_it) hears_here)
                | inr at ↦ hears_beside q other before is_session at.0
              ];
        }

    takes_is : takes_if count fits (get c.sessions near) ≡ takes count fits known.heard
    takes_is = ap (takes_if count fits) kept_there

    pub hears_there : HearsThere secrets setup past moment e near thing generation datagram (begun_in_session near count moment fits c) (takes_if count fits (get c.sessions near))
    hears_there = record {
      log = contexts_heard;
      passes = λ took. passes secrets (inward setup generation thing) (inward_mode thing) near (taken_since near past) known.heard hearing datagram count moment fits there.opens (sym takes_is ∙ took);
      passed = λ p. takes_is ∙ passed secrets (inward setup generation thing) (inward_mode thing) near (taken_since near past) known.heard hearing datagram count moment fits there.opens p;
    }

-- ---- one more entry

began_id : (thing : Held) (fact : Fact) → BeganWith thing fact → (near : ℕ) × (begun_id (Some fact) ≡ Some near)
began_id (Opening n near ni) fact b = absurd b
began_id (HalfOpen j) fact b = (j.near, ap (λ (f : Fact). begun_id (Some f)) b)
began_id (KeptAsResponder j) fact b = (j.near, ap (λ (f : Fact). begun_id (Some f)) b)
began_id (KeptAsInitiator j) fact b = (j.near, ap (λ (f : Fact). begun_id (Some f)) b)

no_begin : (thing : Held) (fact : Fact) → begun_id (Some fact) ≡ None → BeganWith thing fact → ⊥
no_begin thing fact none b = let i = began_id thing fact b in none_some i.0 (sym none ∙ i.1)

began_one : (thing : Held) (f g : Fact) → BeganWith thing f → BeganWith thing g → f ≡ g
began_one (Opening n near ni) f g a b = absurd a
began_one (HalfOpen j) f g a b = a ∙ sym b
began_one (KeptAsResponder j) f g a b = a ∙ sym b
began_one (KeptAsInitiator j) f g a b = a ∙ sym b

tag_plain : (q : ℕ) (a b : Option ℕ) (x y z : Option (List ℕ)) → a ≡ None → b ≡ None → tag_if q a x (tag_if q b y z) ≡ z
tag_plain q a b x y z no_search no_start = ap (λ (o : Option ℕ). tag_if q o x (tag_if q b y z)) no_search ∙ ap (λ (o : Option ℕ). tag_if q o y z) no_start

module _ (secrets : Secrets) (setup : Setup) (own : List ℕ) (last : ℕ) (past : Past) (d : Digested) (is : IsDigestOf last past d) (moment : ℕ) (c : KeptContexts) (are : AreContextsOf secrets setup past c) where
  before : AreKept secrets past c.threads
  before = kept_of secrets setup past c are

  -- a session goes on
  goes_on : (s : Stamped) (near : ℕ) (thing : Held) (kept : Option Session) (k : IsKeptOf secrets setup past near thing kept) → BegunUnder secrets setup thing k.generation (s ∷ past) →
      taken_since near (s ∷ past) ≡ taken_since near past → IsKeptOf secrets setup (s ∷ past) near thing kept
  goes_on s near thing kept k begun taken = record {
    generation = k.generation;
    heard = k.heard;
    kept_is = k.kept_is;
    begun = begun;
    hearing = subst (λ (list : List Taken). IsHearingOf secrets (inward setup k.generation thing) (inward_mode thing) near list k.heard) (sym taken) k.hearing;
  }

  -- where no fact is stated
  session_plain : (entry : Entry) → fact_in entry ≡ None → (near : ℕ) (thing : Held) → StandsUnder (stamped moment entry ∷ past) near thing → IsSession thing →
      IsKeptOf secrets setup (stamped moment entry ∷ past) near thing (get c.sessions near)
  session_plain entry none near thing stands is_session =
      let k = are.session near thing (stands_plain past (stamped moment entry) none near thing stands) is_session in
      goes_on (stamped moment entry) near thing (get c.sessions near) k (begun_plain secrets setup thing k.generation past (stamped moment entry) none k.begun)
      (ap (λ (f : Option Fact). if begins near f then [] else taken_since near past) none)

  entry_plain : (entry : Entry) → fact_in entry ≡ None → sought_in entry ≡ None → out_in entry ≡ None → AreContextsOf secrets setup (with_entry moment entry past) c
  entry_plain entry fact sought out =
      let kept = kept_plain secrets past c.threads before (stamped moment entry) out (ap started_id fact) (ap sought_id sought) in
      record {
        opened_is = are.opened_is;
        sought_is = are.sought_is;
        tag = λ near.
            tag_plain near (sought_id (sought_in entry)) (started_id (fact_in entry)) (sought_tag (seek_of (last_call past)) (tag_of near past)) (opened_tag (open_of (last_call past)) (tag_of near past)) (tag_of near past)
            (ap sought_id sought) (ap started_id fact)
            ∙ are.tag near;
        went = kept.went;
        keying = kept.keying;
        session = session_plain entry fact;
      }

  entry_sought : (near : ℕ) (name : List ℕ) → AreContextsOf secrets setup (with_entry moment (Sought near name) past) (with_threads (with_start near c.sought c.threads) c)
  entry_sought near name =
      let kept = kept_sought secrets past c.threads before (stamped moment (Sought near name)) near c.sought refl refl refl in
      record {
        opened_is = are.opened_is;
        sought_is = are.sought_is;
        tag = λ q. tag_sought c.threads near (seek_of (last_call past)) c.sought (tag_of q past) q are.sought_is (are.tag q);
        went = kept.went;
        keying = kept.keying;
        session = session_plain (Sought near name) refl;
      }

  entry_out : (to : AddressParts) (datagram : List ℕ) (context : Context) (keyings : List ℕ) (opened : Option ℕ) → AreKeyingsOf secrets (out_in (Out to datagram context)) keyings →
      AreContextsOf secrets setup (with_entry moment (Out to datagram context) past) (added (Out to datagram context) keyings opened c)
  entry_out to datagram (Startup current) keyings opened told =
      let kept = kept_keyed secrets past c.threads before (stamped moment (Out to datagram (Startup current))) (record { to = to; datagram = datagram; context = Startup current }) refl refl refl keyings told current refl in
      record {
        opened_is = are.opened_is;
        sought_is = are.sought_is;
        tag = λ q. are.tag q ∙ sym (tag_keyed current keyings c.threads q);
        went = kept.went;
        keying = kept.keying;
        session = session_plain (Out to datagram (Startup current)) refl;
      }
  entry_out to datagram (InSession generation ni nr fp_i fp_r sid_i sid_r to_responder) keyings opened told =
      let context : Context = InSession generation ni nr fp_i fp_r sid_i sid_r to_responder in
      let kept = kept_beside secrets past c.threads before (stamped moment (Out to datagram context)) (record { to = to; datagram = datagram; context = context }) refl refl refl keyings told (λ current e. absurd cc) in
      record {
        opened_is = are.opened_is;
        sought_is = are.sought_is;
        tag = are.tag;
        went = kept.went;
        keying = kept.keying;
        session = session_plain (Out to datagram context) refl;
      }

  -- ---- facts

  -- a session goes on where none begins
  stays_on : (g : Fact) → begun_id (Some g) ≡ None → (near : ℕ) (thing : Held) → begins near (Some g) ≡ false → StandsUnder past near thing → IsSession thing →
      IsKeptOf secrets setup (stamped moment (FactEntry g) ∷ past) near thing (get c.sessions near)
  stays_on g none near thing no_begins stands is_session =
      let k = are.session near thing stands is_session in
      goes_on (stamped moment (FactEntry g)) near thing (get c.sessions near) k (inr (no_begin thing g none, k.begun)) (ap (λ (b : Bool). if b then [] else taken_since near past) no_begins)

  -- a session begins with a fact, in this generation
  module _ (g : Fact) (id generation : ℕ) (opened : EventOpenedIn secrets setup past generation) (begins_is : (q : ℕ) → begins q (Some g) ≡ (id == q)) (again : (at : ℕ) → WasStated at g past → ⊥) where
    fresh : (thing : Held) → BeganWith thing g → IsKeptOf secrets setup (stamped moment (FactEntry g) ∷ past) id thing (get (insert c.sessions id (begun_in generation)) id)
    fresh thing began = record {
      generation = generation;
      heard = nothing_heard;
      kept_is = get_inserted c.sessions id (begun_in generation);
      begun = inl (began, opened);
      hearing = subst (λ (list : List Taken). IsHearingOf secrets (inward setup generation thing) (inward_mode thing) id list nothing_heard) (sym nothing_taken)
          (first_hearing secrets (inward setup generation thing) (inward_mode thing) id);
    }
      where
        same_id : (id == id) ≡ true
        same_id = elim (tested id id) [ inl at ↦ at.1 | inr at ↦ absurd (at.0 refl) ]

        nothing_taken : (if begins id (Some g) then [] else taken_since id past) ≡ []
        nothing_taken = ap (λ (b : Bool). if b then [] else taken_since id past) (begins_is id ∙ same_id)

    beside : (near : ℕ) (thing : Held) → StandsUnder past near thing → IsSession thing → (near ≡ id → ⊥) → IsKeptOf secrets setup (stamped moment (FactEntry g) ∷ past) near thing (get (insert c.sessions id (begun_in generation)) near)
    beside near thing stands is_session other =
        let k = are.session near thing stands is_session in
        let apart : (id == near) ≡ false = elim (tested id near) [ inl at ↦ absurd (other (sym at.0)) | inr at ↦ at.1 ] in
        subst (λ (o : Option Session). IsKeptOf secrets setup (stamped moment (FactEntry g) ∷ past) near thing o) (sym (get_beside c.sessions id (begun_in generation) near other))
        (goes_on (stamped moment (FactEntry g)) near thing (get c.sessions near) k (inr (not_again k.generation k.begun, k.begun)) (ap (λ (b : Bool). if b then [] else taken_since near past) (begins_is near ∙ apart)))
      where
        not_again : (began_in : ℕ) → BegunUnder secrets setup thing began_in past → BeganWith thing g → ⊥
        not_again began_in begun began =
            let w = began_with secrets setup thing began_in past begun in
            again w.1 (subst (λ (f : Fact). WasStated w.1 f past) (began_one thing w.0 g w.2 began) w.3)

    session_begins : (first : Held) → BeganWith first g → near_of first ≡ id → (s : Stands own (count (facts_of past)) (facts_of past) g) → after g (held (peer_of g) (facts_of past)) ≡ Some first →
        ((near : ℕ) (thing : Held) → StandsUnder past near thing → IsSession thing → near ≡ id → ⊥) → (near : ℕ) (thing : Held) → StandsUnder (stamped moment (FactEntry g) ∷ past) near thing → IsSession thing →
        IsKeptOf secrets setup (stamped moment (FactEntry g) ∷ past) near thing (get (insert c.sessions id (begun_in generation)) near)
    session_begins first began at s left free near thing stands is_session = elim (stands_fact own past moment g s near thing stands) [
      | inl old ↦ beside near thing old is_session (free near thing old is_session)
      | inr new ↦
          let it : first ≡ thing = is_thing first thing (sym left ∙ new.0) in
          let there : id ≡ near = sym at ∙ ap near_of it ∙ new.1 in
          subst (λ (n : ℕ). IsKeptOf secrets setup (stamped moment (FactEntry g) ∷ past) n thing (get (insert c.sessions id (begun_in generation)) n)) there
          (subst (λ (t : Held). IsKeptOf secrets setup (stamped moment (FactEntry g) ∷ past) id t (get (insert c.sessions id (begun_in generation)) id)) it (fresh first began))
    ]

  -- what a fact leaves of attempts and searches that doesn't start an attempt
  fact_left : (g : Fact) → started_id (Some g) ≡ None → (sessions : SessionTable) →
      ((near : ℕ) (thing : Held) → StandsUnder (stamped moment (FactEntry g) ∷ past) near thing → IsSession thing → IsKeptOf secrets setup (stamped moment (FactEntry g) ∷ past) near thing (get sessions near)) →
      AreContextsOf secrets setup (with_entry moment (FactEntry g) past) (record { opened = c.opened; sought = c.sought; threads = c.threads; sessions = sessions })
  fact_left g none sessions session =
      let kept = kept_plain secrets past c.threads before (stamped moment (FactEntry g)) refl none refl in
      record {
        opened_is = are.opened_is;
        sought_is = are.sought_is;
        tag = λ near.
            tag_plain near None (started_id (Some g)) (sought_tag (seek_of (last_call past)) (tag_of near past)) (opened_tag (open_of (last_call past)) (tag_of near past)) (tag_of near past) refl none
            ∙ are.tag near;
        went = kept.went;
        keying = kept.keying;
        session = session;
      }

  fact_started : (peer : List ℕ) (n near : ℕ) (ni : List ℕ) → Stands own (count (facts_of past)) (facts_of past) (Started peer n near ni) →
      AreContextsOf secrets setup (with_entry moment (FactEntry (Started peer n near ni)) past) (with_threads (with_start near c.opened c.threads) c)
  fact_started peer n near ni s =
      let kept = kept_started secrets past c.threads before (stamped moment (FactEntry (Started peer n near ni))) near c.opened refl refl refl in
      record {
        opened_is = are.opened_is;
        sought_is = are.sought_is;
        tag = λ q. tag_opened c.threads near (open_of (last_call past)) c.opened (tag_of q past) q are.opened_is (are.tag q);
        went = kept.went;
        keying = kept.keying;
        session = λ q thing stands is_session. elim (stands_fact own past moment (Started peer n near ni) s q thing stands) [
          | inl old ↦ stays_on (Started peer n near ni) refl q thing refl old is_session
          | inr new ↦ absurd (subst IsSession (sym (is_thing (Opening n near ni) thing new.0)) is_session)
        ];
      }

  fact_begins : (g : Fact) (j : Joined) (first : Held) → begun_id (Some g) ≡ Some j.near → started_id (Some g) ≡ None → ((q : ℕ) → begins q (Some g) ≡ (j.near == q)) → ((at : ℕ) → WasStated at g past → ⊥) → BeganWith first g →
      near_of first ≡ j.near → Stands own (count (facts_of past)) (facts_of past) g → after g (held (peer_of g) (facts_of past)) ≡ Some first → ((near : ℕ) (thing : Held) → StandsUnder past near thing → IsSession thing → near ≡ j.near → ⊥) →
      (opened : Option ℕ) → BeginsIn secrets setup past (Some j.near) opened → AreContextsOf secrets setup (with_entry moment (FactEntry g) past) (with_session j.near opened c)
  fact_begins g j first id none begins_is again began at s left free None told = absurd told
  fact_begins g j first id none begins_is again began at s left free (Some generation) told =
      fact_left g none (insert c.sessions j.near (begun_in generation)) (session_begins g j.near generation told begins_is again first began at s left free)

  fact_born : (j : Joined) → Stands own (count (facts_of past)) (facts_of past) (Born j) → HasPlace past (Born j) → (opened : Option ℕ) → BeginsIn secrets setup past (Some j.near) opened →
      AreContextsOf secrets setup (with_entry moment (FactEntry (Born j)) past) (with_session j.near opened c)
  fact_born j s place opened told =
      fact_begins (Born j) j (HalfOpen j) refl refl (λ q. refl) (new_born past is.orderly own moment j s) refl refl s refl
      (λ near thing stands is_session at. never_used (sym (stands_in_use last past d is near thing stands) ∙ ap (λ (n : ℕ). is_in_use n past) at ∙ place)) opened told

  fact_opened : (j : Joined) → Stands own (count (facts_of past)) (facts_of past) (Opened j) → (opened : Option ℕ) → BeginsIn secrets setup past (Some j.near) opened →
      AreContextsOf secrets setup (with_entry moment (FactEntry (Opened j)) past) (with_session j.near opened c)
  fact_opened j s opened told =
      fact_begins (Opened j) j (KeptAsInitiator j) refl refl (λ q. refl) (new_opened past is.orderly own moment j s) refl refl s (ap (after (Opened j)) s)
      (λ near thing stands is_session at.
      let attempt : StandsUnder past j.near (Opening j.n j.near j.ni) = inl (record { peer = j.peer; is_held = s; id = refl }) in
      let it : thing ≡ Opening j.n j.near j.ni = one_stands last past d is j.near thing (Opening j.n j.near j.ni) (subst (λ (n : ℕ). StandsUnder past n thing) at stands) attempt in
      subst IsSession it is_session) opened told

  fact_confirmed : (peer : List ℕ) (near : ℕ) → Stands own (count (facts_of past)) (facts_of past) (Confirmed peer near) → AreContextsOf secrets setup (with_entry moment (FactEntry (Confirmed peer near)) past) c
  fact_confirmed peer near s = fact_left (Confirmed peer near) refl c.sessions (λ q thing stands is_session. elim (stands_fact own past moment (Confirmed peer near) s q thing stands) [
    | inl old ↦ stays_on (Confirmed peer near) refl q thing refl old is_session
    | inr new ↦
        let it : KeptAsResponder s.j ≡ thing = is_thing (KeptAsResponder s.j) thing (sym (ap (after (Confirmed peer near)) s.session) ∙ new.0) in
        let under : StandsUnder past q (HalfOpen s.j) = inl (record { peer = peer; is_held = s.session; id = ap near_of it ∙ new.1 }) in
        let k = are.session q (HalfOpen s.j) under tt in
        subst (λ (t : Held). IsKeptOf secrets setup (stamped moment (FactEntry (Confirmed peer near)) ∷ past) q t (get c.sessions q)) it (record {
          generation = k.generation;
          heard = k.heard;
          kept_is = k.kept_is;
          begun = inr (no_begin (KeptAsResponder s.j) (Confirmed peer near) refl, begun_confirmed secrets setup s.j k.generation past k.begun);
          hearing = k.hearing;
        })
  ])

  fact_ended : (peer : List ℕ) (near : ℕ) (why : Why) → Stands own (count (facts_of past)) (facts_of past) (Ended peer near why) → AreContextsOf secrets setup (with_entry moment (FactEntry (Ended peer near why)) past) c
  fact_ended peer near why s = fact_left (Ended peer near why) refl c.sessions (λ q thing stands is_session. elim (stands_fact own past moment (Ended peer near why) s q thing stands) [
    | inl old ↦ stays_on (Ended peer near why) refl q thing refl old is_session
    | inr new ↦ absurd (none_held thing new.0)
  ])

  entry_fact : (g : Fact) → Stands own (count (facts_of past)) (facts_of past) g → HasPlace past g → (opened : Option ℕ) → BeginsIn secrets setup past (begun_id (Some g)) opened →
      AreContextsOf secrets setup (with_entry moment (FactEntry g) past) (stated g opened c)
  entry_fact (Started peer n near ni) s place opened told = fact_started peer n near ni s
  entry_fact (Born j) s place opened told = fact_born j s place opened told
  entry_fact (Opened j) s place opened told = fact_opened j s opened told
  entry_fact (Confirmed peer near) s place opened told = fact_confirmed peer near s
  entry_fact (Ended peer near why) s place opened told = fact_ended peer near why s

  pub contexts_added : (entry : Entry) (keyings : List ℕ) (opened : Option ℕ) → MayCome own past entry → AreKeyingsOf secrets (out_in entry) keyings → BeginsIn secrets setup past (begun_id (fact_in entry)) opened →
      AreContextsOf secrets setup (with_entry moment entry past) (added entry keyings opened c)
  contexts_added (FactEntry g) keyings opened may told begun = entry_fact g may.0 may.1 opened begun
  contexts_added (Closed near) keyings opened may told begun = entry_plain (Closed near) refl refl refl
  contexts_added (Sought near name) keyings opened may told begun = entry_sought near name
  contexts_added (Unsought near why) keyings opened may told begun = entry_plain (Unsought near why) refl refl refl
  contexts_added (Moved near to) keyings opened may told begun = entry_plain (Moved near to) refl refl refl
  contexts_added (Learnt generation) keyings opened may told begun = entry_plain (Learnt generation) refl refl refl
  contexts_added (Advanced generation) keyings opened may told begun = entry_plain (Advanced generation) refl refl refl
  contexts_added (FlowOpened near flow) keyings opened may told begun = entry_plain (FlowOpened near flow) refl refl refl
  contexts_added (Queued near flow seq message) keyings opened may told begun = entry_plain (Queued near flow seq message) refl refl refl
  contexts_added (Finished near flow seq) keyings opened may told begun = entry_plain (Finished near flow seq) refl refl refl
  contexts_added (Abandoned near flow seq) keyings opened may told begun = entry_plain (Abandoned near flow seq) refl refl refl
  contexts_added (Handed near flow seq message) keyings opened may told begun = entry_plain (Handed near flow seq message) refl refl refl
  contexts_added (Discard place cause) keyings opened may told begun = entry_plain (Discard place cause) refl refl refl
  contexts_added (Out to datagram context) keyings opened may told begun = entry_out to datagram context keyings opened told
