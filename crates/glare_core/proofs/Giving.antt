-- The facts that each call gives are lawful, and the ledger after it stands for them.
use Rattle.std.proofs.Common.{ℕ, List, [], ◌∷◌, ◌≡◌, ◌≢◌, ◌+◌, ◌<◌, ◌≤◌, inl, inr, refl, sym, ap, subst, arith, Bool, true, false, Option, Some, None, ◌∙◌, option_to_list, nat_eq, nat_le, ◌^◌, ◌-◌, ◌⊎◌, is_some, IfSome}
use Rattle.std.specs.Prelude.{if◌then◌else◌, is_none, not, ◌&&◌}
use Rattle.std.proofs.lemmas.Bool.Decides.{nat_tests}
use Rattle.std.specs.Str.{bytes_eq}
use Rattle.identity.specs.Order.{Prevails, is_above}
use Rattle.identity.proofs.Above.{one_above}
use Rattle.glare_core.specs.declared.facts.Why.{Why}
use Rattle.glare_core.specs.declared.facts.Why.TheVariants.{Cancelled, Expired, Unconfirmed, Near, Far, Idle, Glare as ForGlare, Override as ForOverride}
use Rattle.glare_core.specs.declared.facts.Fact.{Fact}
use Rattle.glare_core.specs.declared.facts.Fact.TheVariants.{Started, Born, Opened, Confirmed, Ended}
use Rattle.glare_core.specs.declared.facts.Held.{Held}
use Rattle.glare_core.specs.declared.facts.Held.TheVariants.{Opening, HalfOpen, KeptAsResponder, KeptAsInitiator}
use Rattle.glare_core.specs.declared.answers.StartRefusal.{StartRefusal}
use Rattle.glare_core.specs.declared.answers.StartRefusal.TheVariants.{OwnPrint, AttemptsSpent, PeersFull}
use Rattle.glare_core.specs.declared.answers.HearRefusal.TheVariants.{Stale, Glare, PeersFull as NoRow, SessionsFull}
use Rattle.glare_core.specs.declared.answers.Keying.{Keying}
use Rattle.glare_core.specs.declared.answers.Heard.{Heard}
use Rattle.glare_core.specs.declared.answers.Heard.TheVariants.{Birth}
use Rattle.glare_core.specs.declared.answers.HearRefusal.{HearRefusal}
use Rattle.glare_core.specs.Standing.{starts_in, held, seen, count}
use Rattle.glare_core.specs.Things.{near_of}
use Rattle.glare_core.specs.Stands.{Stands, MakesWay, Ends}
use Rattle.glare_core.specs.Ledger.{PeerRows, row_in, rows_after, rows_after_if, Ledger, new_ledger, held_with, floor_of, row_count, noted, noted_if}
use Rattle.rtmfp_base.specs.Reasons.{where_true, first_that_stands}
use Rattle.glare_core.specs.Calls.{peers_full, start_held, start_refusal, started_fact, again_of, again_or, glare_of, birth_refusal, hear_refusal, way_made, born_fact, heard, heard_facts, heard_noted, opened_fact, confirmed_fact, ended_fact, MayEnd, IsOf}
use Rattle.glare_core.specs.Rows.{IsRoom}
use Rattle.std.specs.FinMap.{len, contains_key}
use Rattle.glare_core.specs.Account.{Fulfils, IsSettled, StandsFor, Gave}
use Rattle.glare_core.proofs.Tails.{same_end}
use Rattle.glare_core.proofs.Accounts.{reads_held, reads_floor, reads_started}

pub stands_new : (own : List ℕ) (max_peers from : ℕ) → StandsFor from (new_ledger own max_peers from) []
stands_new own max_peers from = record { lawful = tt; settled = tt; is = refl }

fulfils_settled : (fact : Fact) (facts : List Fact) → IsSettled facts → Fulfils fact facts
fulfils_settled fact [] settled = tt
fulfils_settled fact (last ∷ earlier) settled = λ waits. absurd (settled waits)

-- A call that gives one fact.
gave_one : (l : Ledger) (fact : Fact) → ¬ (MakesWay fact) → ((from : ℕ) (facts : List Fact) → StandsFor from l facts → Stands l.own (from + count facts) facts fact) → Gave l (fact ∷ []) (noted l fact)
gave_one l fact settled stands from facts s =
    record {
      lawful = (stands from facts s, fulfils_settled fact facts s.settled, s.lawful);
      settled = settled;
      is = ap (λ m. noted m fact) s.is;
    }

pub gave_none : (l : Ledger) → Gave l [] l
gave_none l from facts s = s

-- What follows from there being no refusal.
first_none : {A : Type 0} (x : Option A) (rest : List (Option A)) → first_that_stands (x ∷ rest) ≡ None → (x ≡ None) × (first_that_stands rest ≡ None)
first_none None rest e = (refl, e)
first_none (Some a) rest e = absurd (cc)

test_fails : {A : Type 0} (b : Bool) (a : A) → where_true b a ≡ None → b ≡ false
test_fails true a e = absurd (cc)
test_fails false a e = refl

pub none_held : (h : Option Held) → start_held h ≡ None → h ≡ None
none_held None e = refl
none_held (Some (Opening n near ni)) e = absurd (cc)
none_held (Some (HalfOpen j)) e = absurd (cc)
none_held (Some (KeptAsResponder j)) e = absurd (cc)
none_held (Some (KeptAsInitiator j)) e = absurd (cc)

other_end : (p q : List ℕ) → bytes_eq p q ≡ false → p ≢ q
other_end p q e h = elim (same_end p q) [ inl d ↦ absurd (let e' = d.1 in cc) | inr d ↦ d.0 h ]

-- Started
pub gave_started : (l : Ledger) (peer : List ℕ) (near : ℕ) (ni : List ℕ) → start_refusal l peer ≡ None → Gave l (started_fact l peer near ni ∷ []) (noted l (started_fact l peer near ni))
gave_started l peer near ni none =
    let last : List (Option StartRefusal) = where_true (nat_eq l.started (2 ^ 64 - 1)) AttemptsSpent ∷ where_true (peers_full l peer) (PeersFull (row_count l)) ∷ [] in
    let own = first_none (where_true (bytes_eq peer l.own) OwnPrint) (start_held (held_with l peer) ∷ last) none in
    let free = first_none (start_held (held_with l peer)) last own.1 in
    gave_one l (started_fact l peer near ni) (λ w. w) (λ from facts s. record {
      other = other_end peer l.own (test_fails (bytes_eq peer l.own) OwnPrint own.0);
      free = sym (reads_held from l facts s peer) ∙ none_held (held_with l peer) free.0;
      next = ap (λ n. n + 1) (reads_started from l facts s);
    })

-- Opened, Confirmed and Ended
opened_gave : (l : Ledger) (h : Option Held) (peer nr : List ℕ) (far k : ℕ) → held_with l peer ≡ h → Gave l (option_to_list (opened_fact h peer nr far k)) (noted_if l (opened_fact h peer nr far k))
opened_gave l None peer nr far k is = gave_none l
opened_gave l (Some (Opening n near ni)) peer nr far k is =
    gave_one l (Opened (record { peer = peer; n = n; near = near; far = far; ni = ni; nr = nr; k = k })) (λ w. w) (λ from facts s. sym (reads_held from l facts s peer) ∙ is)
opened_gave l (Some (HalfOpen j)) peer nr far k is = gave_none l
opened_gave l (Some (KeptAsResponder j)) peer nr far k is = gave_none l
opened_gave l (Some (KeptAsInitiator j)) peer nr far k is = gave_none l

pub gave_opened : (l : Ledger) (peer nr : List ℕ) (far k : ℕ) →
    Gave l (option_to_list (opened_fact (held_with l peer) peer nr far k)) (noted_if l (opened_fact (held_with l peer) peer nr far k))
gave_opened l peer nr far k = opened_gave l (held_with l peer) peer nr far k refl

confirmed_gave : (l : Ledger) (h : Option Held) (peer : List ℕ) → held_with l peer ≡ h → Gave l (option_to_list (confirmed_fact h peer)) (noted_if l (confirmed_fact h peer))
confirmed_gave l None peer is = gave_none l
confirmed_gave l (Some (Opening n near ni)) peer is = gave_none l
confirmed_gave l (Some (HalfOpen j)) peer is =
    gave_one l (Confirmed peer j.near) (λ w. w) (λ from facts s. record { j = j; session = sym (reads_held from l facts s peer) ∙ is; id = refl })
confirmed_gave l (Some (KeptAsResponder j)) peer is = gave_none l
confirmed_gave l (Some (KeptAsInitiator j)) peer is = gave_none l

pub gave_confirmed : (l : Ledger) (peer : List ℕ) → Gave l (option_to_list (confirmed_fact (held_with l peer) peer)) (noted_if l (confirmed_fact (held_with l peer) peer))
gave_confirmed l peer = confirmed_gave l (held_with l peer) peer refl

may_end : (own peer : List ℕ) (why : Why) (h : Held) → MayEnd why h → Ends own peer why h
may_end own peer Cancelled h may = may
may_end own peer Expired h may = may
may_end own peer ForGlare h may = absurd may
may_end own peer ForOverride h may = absurd may
may_end own peer Unconfirmed h may = may
may_end own peer Near h may = may
may_end own peer Far h may = may
may_end own peer Idle h may = may

makes_no_way : (why : Why) (h : Held) → MayEnd why h → (why ≡ ForGlare) ⊎ (why ≡ ForOverride) → ⊥
makes_no_way Cancelled h may (inl e) = cc
makes_no_way Cancelled h may (inr e) = cc
makes_no_way Expired h may (inl e) = cc
makes_no_way Expired h may (inr e) = cc
makes_no_way ForGlare h may w = may
makes_no_way ForOverride h may w = may
makes_no_way Unconfirmed h may (inl e) = cc
makes_no_way Unconfirmed h may (inr e) = cc
makes_no_way Near h may (inl e) = cc
makes_no_way Near h may (inr e) = cc
makes_no_way Far h may (inl e) = cc
makes_no_way Far h may (inr e) = cc
makes_no_way Idle h may (inl e) = cc
makes_no_way Idle h may (inr e) = cc

ended_gave : (l : Ledger) (h : Option Held) (peer : List ℕ) (why : Why) → held_with l peer ≡ h → IfSome h (MayEnd why) →
    Gave l (option_to_list (ended_fact h peer why)) (noted_if l (ended_fact h peer why))
ended_gave l None peer why is may = gave_none l
ended_gave l (Some h) peer why is may =
    gave_one l (Ended peer (near_of h) why) (makes_no_way why h may)
    (λ from facts s. record { h = h; thing = sym (reads_held from l facts s peer) ∙ is; id = refl; ends = may_end l.own peer why h may })

pub gave_ended : (l : Ledger) (peer : List ℕ) (why : Why) → IfSome (held_with l peer) (MayEnd why) →
    Gave l (option_to_list (ended_fact (held_with l peer) peer why)) (noted_if l (ended_fact (held_with l peer) peer why))
gave_ended l peer why may = ended_gave l (held_with l peer) peer why refl may

-- What a Keying gives.
above_floor : (n floor : ℕ) → nat_le n floor ≡ false → floor < n
above_floor n floor e = grind (arith, nat_tests)

beaten : (own peer : List ℕ) → own ≢ peer → is_above own peer ≡ false → Prevails peer own
beaten own peer other e = elim (one_above own peer other) [ inl p ↦ absurd (cc) | inr p ↦ p ]

-- what is seen, counted and held after the end of a thing
module _ (peer : List ℕ) (near : ℕ) (why : Why) (facts : List Fact) where
  ended_held : held peer (Ended peer near why ∷ facts) ≡ None
  ended_held = elim (same_end peer peer) [ inl d ↦ rw d.1 refl | inr d ↦ absurd (d.0 refl) ]

  ended_seen : seen peer (Ended peer near why ∷ facts) ≡ seen peer facts
  ended_seen = elim (same_end peer peer) [ inl d ↦ rw d.1 (omega arith) | inr d ↦ absurd (d.0 refl) ]

-- A thing ends for a Born, and the Born comes.
gave_both : (l : Ledger) (keying : Keying) (near : ℕ) (nr : List ℕ) (thing : Held) (why : Why) → held_with l keying.peer ≡ Some thing → floor_of l keying.peer < keying.n →
    Ends l.own keying.peer why thing → (why ≡ ForGlare) ⊎ (why ≡ ForOverride) →
    Gave l (born_fact l keying near nr ∷ Ended keying.peer (near_of thing) why ∷ []) (noted (noted l (Ended keying.peer (near_of thing) why)) (born_fact l keying near nr))
gave_both l keying near nr thing why is above ends way from facts s =
    let end : Fact = Ended keying.peer (near_of thing) why in
    let count_is = reads_started from l facts s in
    record {
      lawful = (
        record {
          above = omega (arith, above, ended_seen keying.peer (near_of thing) why facts, reads_floor from l facts s keying.peer);
          free = ended_held keying.peer (near_of thing) why facts;
          counted = omega (arith, count_is);
        },
        λ w. refl,
        (record { h = thing; thing = sym (reads_held from l facts s keying.peer) ∙ is; id = refl; ends = ends }, fulfils_settled end facts s.settled, s.lawful),
      );
      settled = λ w. w;
      is = ap (λ m. noted (noted m end) (born_fact l keying near nr)) s.is;
    }

gave_birth : (l : Ledger) (keying : Keying) (near : ℕ) (nr : List ℕ) (h : Option Held) → held_with l keying.peer ≡ h → l.own ≢ keying.peer → floor_of l keying.peer < keying.n →
    glare_of l.own keying.peer h ≡ None →
    Gave l (heard_facts (Birth (way_made keying.peer h) (born_fact l keying near nr))) (heard_noted l (Birth (way_made keying.peer h) (born_fact l keying near nr)))
gave_birth l keying near nr None is other above glare =
    gave_one l (born_fact l keying near nr) (λ w. w) (λ from facts s. record {
      above = omega (arith, above, reads_floor from l facts s keying.peer);
      free = sym (reads_held from l facts s keying.peer) ∙ is;
      counted = reads_started from l facts s;
    })
gave_birth l keying near nr (Some (Opening n id ni)) is other above glare =
    gave_both l keying near nr (Opening n id ni) ForGlare is above (tt, beaten l.own keying.peer other (test_fails (is_above l.own keying.peer) (Glare n) glare)) (inl refl)
gave_birth l keying near nr (Some (HalfOpen j)) is other above glare = gave_both l keying near nr (HalfOpen j) ForOverride is above tt (inr refl)
gave_birth l keying near nr (Some (KeptAsResponder j)) is other above glare = gave_both l keying near nr (KeptAsResponder j) ForOverride is above tt (inr refl)
gave_birth l keying near nr (Some (KeptAsInitiator j)) is other above glare = gave_both l keying near nr (KeptAsInitiator j) ForOverride is above tt (inr refl)

gave_if_heard : (l : Ledger) (keying : Keying) (near : ℕ) (nr : List ℕ) (free : Bool) (again : Option ℕ) → l.own ≢ keying.peer →
    (if is_some again then None else birth_refusal l keying free) ≡ None →
    let birth = Birth (way_made keying.peer (held_with l keying.peer)) (born_fact l keying near nr) in
    Gave l (heard_facts (again_or again birth)) (heard_noted l (again_or again birth))
gave_if_heard l keying near nr free (Some id) other none = gave_none l
gave_if_heard l keying near nr free None other none =
    let last : List (Option HearRefusal) =
    where_true (peers_full l keying.peer) (NoRow (row_count l)) ∷ where_true (is_none (held_with l keying.peer) && not free) SessionsFull ∷ [] in
    let stale = first_none (where_true (nat_le keying.n (floor_of l keying.peer)) (Stale (floor_of l keying.peer))) (glare_of l.own keying.peer (held_with l keying.peer) ∷ last) none in
    let glare = first_none (glare_of l.own keying.peer (held_with l keying.peer)) last stale.1 in
    gave_birth l keying near nr (held_with l keying.peer) refl other
    (above_floor keying.n (floor_of l keying.peer) (test_fails (nat_le keying.n (floor_of l keying.peer)) (Stale (floor_of l keying.peer)) stale.0)) glare.0

pub gave_heard : (l : Ledger) (keying : Keying) (near : ℕ) (nr : List ℕ) (free : Bool) → l.own ≢ keying.peer → hear_refusal l keying free ≡ None →
    Gave l (heard_facts (heard l keying near nr)) (heard_noted l (heard l keying near nr))
gave_heard l keying near nr free other none = gave_if_heard l keying near nr free (again_of (held_with l keying.peer) keying) other none

-- what was noted is what the Keying gives
pub gave_as_heard : (old new : Ledger) (keying : Keying) (near : ℕ) (nr : List ℕ) (free : Bool) (answer : Heard) → new ≡ heard_noted old answer → answer ≡ heard old keying near nr →
    old.own ≢ keying.peer → hear_refusal old keying free ≡ None → Gave old (heard_facts answer) new
gave_as_heard old new keying near nr free answer noted_is is other none =
    subst (λ l. Gave old (heard_facts answer) l) (sym noted_is)
    (subst (λ h. Gave old (heard_facts h) (heard_noted old h)) (sym is) (gave_heard old keying near nr free other none))

-- From the fields in which a ledger is kept.
pub same_held : (own : List ℕ) (max_peers started : ℕ) (rows : PeerRows) (old : Ledger) → record { own = own; max_peers = max_peers; started = started; rows = rows } ≡ old →
    (peer : List ℕ) → (row_in rows peer).held ≡ held_with old peer
same_held own max_peers started rows old is peer = ap (λ (l : Ledger). held_with l peer) is

module _ (own : List ℕ) (max_peers started : ℕ) (before after : PeerRows) (old : Ledger) (is : record { own = own; max_peers = max_peers; started = started; rows = before } ≡ old) where
  no_start : (f : Option Fact) (peer : List ℕ) (h : Option Held) → IfSome f (IsOf peer h) →
      noted_if (record { own = own; max_peers = max_peers; started = started; rows = before }) f ≡ record { own = own; max_peers = max_peers; started = started; rows = rows_after_if f before }
  no_start None peer h of = refl
  no_start (Some fact) peer h of =
      let same : started + starts_in fact ≡ started = omega (arith, of.starts_none) in
      ap (λ n. record { own = own; max_peers = max_peers; started = n; rows = rows_after fact before }) same

  -- a call that gives a fact, or none
  pub gave_kept : (f g : Option Fact) (peer : List ℕ) (h : Option Held) → after ≡ rows_after_if f before → IfSome f (IsOf peer h) → f ≡ g → Gave old (option_to_list g) (noted_if old g) →
      Gave old (option_to_list f) (record { own = own; max_peers = max_peers; started = started; rows = after })
  gave_kept f g peer h left of e gave =
      let new : Ledger = record { own = own; max_peers = max_peers; started = started; rows = after } in
      let same : new ≡ noted_if old f =
      ap (λ (rows : PeerRows). record { own = own; max_peers = max_peers; started = started; rows = rows }) left ∙ sym (no_start f peer h of) ∙ ap (λ (l : Ledger). noted_if l f) is in
      subst (λ l. Gave old (option_to_list f) l) (sym same) (subst (λ h. Gave old (option_to_list h) (noted_if old h)) (sym e) gave)

  -- a start
  pub gave_start_kept : (peer : List ℕ) (near : ℕ) (ni : List ℕ) → after ≡ rows_after (Started peer (started + 1) near ni) before → start_refusal old peer ≡ None →
      Gave old (Started peer (started + 1) near ni ∷ []) (record { own = own; max_peers = max_peers; started = started + 1; rows = after })
  gave_start_kept peer near ni left =
      let start : Fact = Started peer (started + 1) near ni in
      subst (λ o. start_refusal o peer ≡ None → Gave o (start ∷ []) (record { own = own; max_peers = max_peers; started = started + 1; rows = after })) is (λ none.
      let l : Ledger = record { own = own; max_peers = max_peers; started = started; rows = before } in
      subst (λ rows. Gave l (start ∷ []) (record { own = own; max_peers = max_peers; started = started + 1; rows = rows })) (sym left) (gave_started l peer near ni none))

  both_noted : (ended : Option Fact) (born : Fact) (peer : List ℕ) (h : Option Held) → IfSome ended (IsOf peer h) → starts_in born ≡ 0 →
      heard_noted (record { own = own; max_peers = max_peers; started = started; rows = before }) (Birth ended born) ≡
      record { own = own; max_peers = max_peers; started = started; rows = rows_after born (rows_after_if ended before) }
  both_noted None born peer h of none =
      let same : started + starts_in born ≡ started = omega (arith, none) in
      ap (λ n. record { own = own; max_peers = max_peers; started = n; rows = rows_after born before }) same
  both_noted (Some end) born peer h of none =
      let same : started + starts_in end + starts_in born ≡ started = omega (arith, none, of.starts_none) in
      ap (λ n. record { own = own; max_peers = max_peers; started = n; rows = rows_after born (rows_after end before) }) same

  -- a birth
  pub birth_noted : (keying : Keying) (near : ℕ) (nr : List ℕ) (ended : Option Fact) (h : Option Held) →
      let born : Fact = Born (record { peer = keying.peer; n = keying.n; near = near; far = keying.far; ni = keying.ni; nr = nr; k = started }) in
      after ≡ rows_after born (rows_after_if ended before) → IfSome ended (IsOf keying.peer h) →
      record { own = own; max_peers = max_peers; started = started; rows = after } ≡ heard_noted old (Birth ended born)
  birth_noted keying near nr ended h left of =
      let born : Fact = Born (record { peer = keying.peer; n = keying.n; near = near; far = keying.far; ni = keying.ni; nr = nr; k = started }) in
      ap (λ (rows : PeerRows). record { own = own; max_peers = max_peers; started = started; rows = rows }) left ∙ sym (both_noted ended born keying.peer h of refl) ∙ ap (λ (o : Ledger). heard_noted o (Birth ended born)) is

  pub birth_is_heard : (keying : Keying) (near : ℕ) (nr : List ℕ) (ended : Option Fact) (h : Option Held) → h ≡ held_with old keying.peer → ended ≡ way_made keying.peer h →
      again_of (held_with old keying.peer) keying ≡ None →
      Birth ended (Born (record { peer = keying.peer; n = keying.n; near = near; far = keying.far; ni = keying.ni; nr = nr; k = started })) ≡ heard old keying near nr
  birth_is_heard keying near nr ended h held_is ended_is fresh =
      (λ i. Birth ((ended_is ∙ ap (way_made keying.peer) held_is) i) (born_fact (is i) keying near nr))
      ∙ sym (ap (λ o. again_or o (Birth (way_made keying.peer (held_with old keying.peer)) (born_fact old keying near nr))) fresh)

-- There is room for the row of a peer that has none.
room_of : (known : Bool) (count max_peers : ℕ) → (not known && nat_eq count max_peers) ≡ false → count ≤ max_peers → IsRoom known count max_peers
room_of true count max_peers full within = tt
room_of false count max_peers full within = grind (arith, nat_tests)

start_full : (l : Ledger) (peer : List ℕ) → start_refusal l peer ≡ None → peers_full l peer ≡ false
start_full l peer none =
    let full : List (Option StartRefusal) = where_true (peers_full l peer) (PeersFull (row_count l)) ∷ [] in
    let spent : List (Option StartRefusal) = where_true (nat_eq l.started (2 ^ 64 - 1)) AttemptsSpent ∷ full in
    let own = first_none (where_true (bytes_eq peer l.own) OwnPrint) (start_held (held_with l peer) ∷ spent) none in
    let free = first_none (start_held (held_with l peer)) spent own.1 in
    let left = first_none (where_true (nat_eq l.started (2 ^ 64 - 1)) AttemptsSpent) full free.1 in
    test_fails (peers_full l peer) (PeersFull (row_count l)) (first_none (where_true (peers_full l peer) (PeersFull (row_count l))) [] left.1).0

birth_full : (l : Ledger) (keying : Keying) (free : Bool) → birth_refusal l keying free ≡ None → peers_full l keying.peer ≡ false
birth_full l keying free none =
    let sessions : List (Option HearRefusal) = where_true (is_none (held_with l keying.peer) && not free) SessionsFull ∷ [] in
    let full : List (Option HearRefusal) = where_true (peers_full l keying.peer) (NoRow (row_count l)) ∷ sessions in
    let stale = first_none (where_true (nat_le keying.n (floor_of l keying.peer)) (Stale (floor_of l keying.peer))) (glare_of l.own keying.peer (held_with l keying.peer) ∷ full) none in
    let glare = first_none (glare_of l.own keying.peer (held_with l keying.peer)) full stale.1 in
    test_fails (peers_full l keying.peer) (NoRow (row_count l)) (first_none (where_true (peers_full l keying.peer) (NoRow (row_count l))) sessions glare.1).0

module _ (own : List ℕ) (max_peers started : ℕ) (rows : PeerRows) (old : Ledger) (is : record { own = own; max_peers = max_peers; started = started; rows = rows } ≡ old) (within : len rows ≤ max_peers) where
  pub start_room : (peer : List ℕ) → start_refusal old peer ≡ None → IsRoom (contains_key rows peer) (len rows) max_peers
  start_room peer =
      subst (λ o. start_refusal o peer ≡ None → IsRoom (contains_key rows peer) (len rows) max_peers) is (λ none.
      room_of (contains_key rows peer) (len rows) max_peers (start_full (record { own = own; max_peers = max_peers; started = started; rows = rows }) peer none) within)

  pub birth_room : (keying : Keying) (free : Bool) → birth_refusal old keying free ≡ None → IsRoom (contains_key rows keying.peer) (len rows) max_peers
  birth_room keying free =
      subst (λ o. birth_refusal o keying free ≡ None → IsRoom (contains_key rows keying.peer) (len rows) max_peers) is (λ none.
      room_of (contains_key rows keying.peer) (len rows) max_peers (birth_full (record { own = own; max_peers = max_peers; started = started; rows = rows }) keying free none) within)
