-- What every event of the exchange keeps.
use Rattle.std.proofs.Common.{◌≡◌, ◌≢◌, ℕ, ◌<◌, ◌≤◌, ◌==◌, nat_le, cond, Bool, true, false, List, [], ◌∷◌, Option, Some, None, refl, ap, sym, ◌∙◌, subst, arith, inl, inr}
use Rattle.std.proofs.lemmas.Bool.{cases_eq, eqb-true, leb-true}
use Rattle.std.proofs.lemmas.Bool.Decides.{nat_tests}
use Rattle.rtmfp_data_chunks.specs.declared.user_data.Part.{Part}
use Rattle.rtmfp_data_chunks.specs.Fragments.{Message, Fragment, Spans, fragment_of, next_number}
use Rattle.rtmfp_data_chunks.specs.Runs.{Chunk, Number, Missing, Held, GivenUp, changed_by, first_change, number_of}
use Rattle.rtmfp_data_chunks.specs.HandsOver.{IsIn}
use Rattle.flow_exchange.specs.Exchange.{Ack, Acknowledges, World, start, Event, Queued, Abandoned, Finished, Sent, Taken, Told, Heard, Handed, after, IsAbandoned, IsSettled, Tells, Fragment_of, Notice, End_of, MaySend, May}
use Rattle.flow_exchange.proofs.Fragments.{Laid, found_still, ends_before, begins_after, same_message}
use Rattle.flow_exchange.proofs.Runs.{HoldsFragments}

-- the number is none of the flow's, is of an abandoned message, or is the end
pub data IsGone (first : ℕ) (queued : List Message) (abandoned : List ℕ) (finish : Option ℕ) (n : ℕ) : Type 0 where
  Outside : n < first → IsGone first queued abandoned finish n
  Of_abandoned : IsAbandoned queued abandoned n → IsGone first queued abandoned finish n
  Of_end : finish ≡ Some n → IsGone first queued abandoned finish n

abbrev pub Gone : World → ℕ → Type 0
Gone w n = IsGone w.first w.queued w.abandoned w.finish n

-- the receiver knows what becomes of the number, or it is gone
pub data IsPassed (w : World) (n : ℕ) : Type 0 where
  Known : number_of w.taken n ≢ Missing → IsPassed w n
  Dropped : Gone w n → IsPassed w n

-- what is true of each chunk that was sent
pub record IsSound (w : World) (c : Chunk) : Type 0 where
  pub holds : c.abandon ≡ false → fragment_of w.queued c.seq ≡ Some (record { part = c.part; bytes = c.bytes })
  pub gives_up : c.abandon ≡ true → IsPassed w c.seq
  pub passes : (n : ℕ) → n ≤ c.forward → IsPassed w n

pub record Kept (w : World) : Type 0 where
  pub one : 1 ≤ w.first
  pub laid : Laid w.first w.queued
  pub end : (n : ℕ) → w.finish ≡ Some n → n ≡ next_number w.first w.queued
  pub held : HoldsFragments w.queued (number_of w.taken)
  pub gone : (n : ℕ) → number_of w.taken n ≡ GivenUp → Gone w n
  pub sound : (c : Chunk) → IsIn c w.sent → IsSound w c
  pub told : (a : Ack) → IsIn a w.told → (n : ℕ) → Acknowledges a n → number_of w.taken n ≢ Missing
  pub heard : (a : Ack) → IsIn a w.heard → IsIn a w.told

-- the first change is final
stays_with : (v x : Number) → v ≢ Missing → first_change v x ≡ v
stays_with Missing x ne = absurd (ne refl)
stays_with (Held p b) x ne = refl
stays_with GivenUp x ne = refl

pub stays : (c : Chunk) (earlier : List Chunk) (n : ℕ) → number_of earlier n ≢ Missing → number_of (c ∷ earlier) n ≡ number_of earlier n
unfolding number_of
stays c earlier n ne = stays_with (number_of earlier n) (changed_by c n) ne

pub still_known : (c : Chunk) (earlier : List Chunk) (n : ℕ) → number_of earlier n ≢ Missing → number_of (c ∷ earlier) n ≢ Missing
still_known c earlier n ne e = ne (sym (stays c earlier n ne) ∙ e)

number_start : (n : ℕ) (p : Part) (b : List ℕ) → number_of [] n ≡ Held p b → ⊥
unfolding number_of
number_start n p b e = elim (cases_eq n 0) [
  | inl z ↦ absurd (grind (arith, nat_tests))
  | inr ne ↦ absurd (grind (arith, nat_tests))
]

gone_start : (n : ℕ) → number_of [] n ≡ GivenUp → n ≡ 0
unfolding number_of
gone_start n e = elim (cases_eq n 0) [
  | inl z ↦ z
  | inr ne ↦ absurd (grind (arith, nat_tests))
]

pub kept_start : (first : ℕ) → 1 ≤ first → Kept (start first)
kept_start first one = record {
  one = one;
  laid = tt;
  end = λ n e. absurd (cc (e));
  held = λ n p b e. absurd (number_start n p b e);
  gone = λ n e. Outside (omega (arith, gone_start n e, one));
  sound = λ c h. absurd h;
  told = λ a h n t. absurd h;
  heard = λ a h. absurd h;
}

gone_queued : (first : ℕ) (m : Message) (qs : List Message) (ab : List ℕ) (f : Option ℕ) (n : ℕ) → IsGone first qs ab f n → IsGone first (m ∷ qs) ab f n
gone_queued first m qs ab f n (Outside lt) = Outside lt
gone_queued first m qs ab f n (Of_abandoned x) = Of_abandoned (record { message = x.message; was_queued = inr x.was_queued; was_abandoned = x.was_abandoned; spans = x.spans })
gone_queued first m qs ab f n (Of_end e) = Of_end e

gone_abandoned : (first : ℕ) (k : ℕ) (qs : List Message) (ab : List ℕ) (f : Option ℕ) (n : ℕ) → IsGone first qs ab f n → IsGone first qs (k ∷ ab) f n
gone_abandoned first k qs ab f n (Outside lt) = Outside lt
gone_abandoned first k qs ab f n (Of_abandoned x) = Of_abandoned (record { message = x.message; was_queued = x.was_queued; was_abandoned = inr x.was_abandoned; spans = x.spans })
gone_abandoned first k qs ab f n (Of_end e) = Of_end e

gone_finished : (first : ℕ) (qs : List Message) (ab : List ℕ) (f g : Option ℕ) (n : ℕ) → f ≡ None → IsGone first qs ab f n → IsGone first qs ab g n
gone_finished first qs ab f g n none (Outside lt) = Outside lt
gone_finished first qs ab f g n none (Of_abandoned x) = Of_abandoned x
gone_finished first qs ab f g n none (Of_end e) = absurd (cc (none, e))

-- a world in which nothing that was known or gone is forgotten
pub record Grows (w v : World) : Type 0 where
  pub known : (n : ℕ) → number_of w.taken n ≢ Missing → number_of v.taken n ≢ Missing
  pub gone : (n : ℕ) → Gone w n → Gone v n
  pub fragments : (n : ℕ) (p : Part) (b : List ℕ) → fragment_of w.queued n ≡ Some (record { part = p; bytes = b }) → fragment_of v.queued n ≡ Some (record { part = p; bytes = b })

passed_grows : (w v : World) (n : ℕ) → Grows w v → IsPassed w n → IsPassed v n
passed_grows w v n g (Known k) = Known (g.known n k)
passed_grows w v n g (Dropped d) = Dropped (g.gone n d)

pub sound_grows : (w v : World) (c : Chunk) → Grows w v → IsSound w c → IsSound v c
sound_grows w v c g s = record {
  holds = λ e. g.fragments c.seq c.part c.bytes (s.holds e);
  gives_up = λ e. passed_grows w v c.seq g (s.gives_up e);
  passes = λ n le. passed_grows w v n g (s.passes n le);
}

-- a message is queued
grows_queued : (w : World) (m : Message) → Kept w → m.number ≡ next_number w.first w.queued → Grows w (after w (Queued m))
grows_queued w m k e = record {
  known = λ n ne. ne;
  gone = λ n g. gone_queued w.first m w.queued w.abandoned w.finish n g;
  fragments = λ n p b f. found_still w.first m w.queued n (record { part = p; bytes = b }) (e, k.laid) f;
}

kept_queued : (w : World) (m : Message) → Kept w → w.finish ≡ None → m.number ≡ next_number w.first w.queued → Kept (after w (Queued m))
kept_queued w m k none e =
    let g = grows_queued w m k e in
    record {
      one = k.one;
      laid = (e, k.laid);
      end = λ n f. absurd (cc (none, f));
      held = λ n p b h. g.fragments n p b (k.held n p b h);
      gone = λ n h. g.gone n (k.gone n h);
      sound = λ c h. sound_grows w (after w (Queued m)) c g (k.sound c h);
      told = k.told;
      heard = k.heard;
    }

-- a message is abandoned
kept_abandoned : (w : World) (j : ℕ) → Kept w → Kept (after w (Abandoned j))
kept_abandoned w j k =
    let g : Grows w (after w (Abandoned j)) = record { known = λ n ne. ne; gone = λ n x. gone_abandoned w.first j w.queued w.abandoned w.finish n x; fragments = λ n p b f. f } in
    record {
      one = k.one;
      laid = k.laid;
      end = k.end;
      held = k.held;
      gone = λ n h. g.gone n (k.gone n h);
      sound = λ c h. sound_grows w (after w (Abandoned j)) c g (k.sound c h);
      told = k.told;
      heard = k.heard;
    }

-- the flow is finished
kept_finished : (w : World) (j : ℕ) → Kept w → w.finish ≡ None → j ≡ next_number w.first w.queued → Kept (after w (Finished j))
kept_finished w j k none e =
    let g : Grows w (after w (Finished j)) = record { known = λ n ne. ne; gone = λ n x. gone_finished w.first w.queued w.abandoned w.finish (Some j) n none x; fragments = λ n p b f. f } in
    record {
      one = k.one;
      laid = k.laid;
      end = λ n f. let same : j ≡ n = cc (f) in sym same ∙ e;
      held = k.held;
      gone = λ n h. g.gone n (k.gone n h);
      sound = λ c h. sound_grows w (after w (Finished j)) c g (k.sound c h);
      told = k.told;
      heard = k.heard;
    }

-- what is settled for the sender is passed
settled_passed : (w : World) (n : ℕ) → Kept w → IsSettled w n → IsPassed w n
settled_passed w n k h = elim h [
  | inl lt ↦ Dropped (Outside lt)
  | inr r ↦ elim r [
    | inl x ↦ Dropped (Of_abandoned x)
    | inr x ↦ Known (k.told x.ack (k.heard x.ack x.was_heard) n x.tells)
  ]
]

sound_sent : (w : World) (c : Chunk) → Kept w → ((n : ℕ) → n ≤ c.forward → IsSettled w n) → Tells w.queued w.finish c → IsSound w c
sound_sent w c k f (Fragment_of a lt e) = record {
  holds = λ x. e;
  gives_up = λ x. absurd (cc (a, x));
  passes = λ n le. settled_passed w n k (f n le);
}
sound_sent w c k f (Notice a e) = record {
  holds = λ x. absurd (cc (a, x));
  gives_up = λ x. settled_passed w c.seq k (f c.seq (omega (arith, e)));
  passes = λ n le. settled_passed w n k (f n le);
}
sound_sent w c k f (End_of a l low e) = record {
  holds = λ x. absurd (cc (a, x));
  gives_up = λ x. Dropped (Of_end e);
  passes = λ n le. settled_passed w n k (f n le);
}

same_grows : (w : World) (c : Chunk) → Grows w (after w (Sent c))
same_grows w c = record { known = λ n ne. ne; gone = λ n g. g; fragments = λ n p b f. f }

-- a chunk is sent
kept_sent : (w : World) (c : Chunk) → Kept w → MaySend w c → Kept (after w (Sent c))
kept_sent w c k may =
    let g = same_grows w c in
    record {
      one = k.one;
      laid = k.laid;
      end = k.end;
      held = k.held;
      gone = k.gone;
      sound =
          λ d h. elim h [
            | inl e ↦ subst (λ (x : Chunk). IsSound (after w (Sent c)) x) (sym e) (sound_grows w (after w (Sent c)) c g (sound_sent w c k may.forward may.tells))
            | inr h ↦ sound_grows w (after w (Sent c)) d g (k.sound d h)
          ];
      told = k.told;
      heard = k.heard;
    }

-- what a chunk changes: a number that was missing, by its own number or by its forward number
pub data Change (c : Chunk) (before now : Number) (n : ℕ) : Type 0 where
  Unchanged : now ≡ before → Change c before now n
  Holds : n ≡ c.seq → c.abandon ≡ false → now ≡ Held c.part c.bytes → Change c before now n
  GivesUp : n ≡ c.seq → c.abandon ≡ true → before ≡ Missing → now ≡ GivenUp → Change c before now n
  Passes : n ≤ c.forward → before ≡ Missing → now ≡ GivenUp → Change c before now n

change_at : (c : Chunk) (n : ℕ) (a b d : Bool) → (n == c.seq) ≡ a → c.abandon ≡ b → nat_le n c.forward ≡ d
    → Change c Missing (cond a (cond b GivenUp (Held c.part c.bytes)) (cond d GivenUp Missing)) n
change_at c n true true d ea eb ed = GivesUp (eqb-true n c.seq ea) eb refl refl
change_at c n true false d ea eb ed = Holds (eqb-true n c.seq ea) eb refl
change_at c n false b true ea eb ed = Passes (leb-true n c.forward ed) refl refl
change_at c n false b false ea eb ed = Unchanged refl

change_with : (c : Chunk) (n : ℕ) (v : Number) → Change c v (first_change v (changed_by c n)) n
change_with c n Missing = change_at c n (n == c.seq) c.abandon (nat_le n c.forward) refl refl refl
change_with c n (Held p b) = Unchanged refl
change_with c n GivenUp = Unchanged refl

pub change : (c : Chunk) (earlier : List Chunk) (n : ℕ) → Change c (number_of earlier n) (number_of (c ∷ earlier) n) n
unfolding number_of
change c earlier n = change_with c n (number_of earlier n)

passed_gone : (w : World) (n : ℕ) → number_of w.taken n ≡ Missing → IsPassed w n → Gone w n
passed_gone w n miss (Known k) = absurd (k miss)
passed_gone w n miss (Dropped d) = d

abbrev fragment : Part → List ℕ → Fragment
fragment p b = record { part = p; bytes = b }

same_fragment : (p q : Part) (b d : List ℕ) → p ≡ q → b ≡ d → fragment p b ≡ fragment q d
same_fragment p q b d e f = cc

taken_held : (w : World) (c : Chunk) → Kept w → IsSound w c → HoldsFragments w.queued (number_of (c ∷ w.taken))
taken_held w c k s n p b h = elim (change c w.taken n) [
  | Unchanged e ↦ k.held n p b (sym e ∙ h)
  | Holds e a is ↦
      let q : Held c.part c.bytes ≡ Held p b = sym is ∙ h in
      let ep : c.part ≡ p = cc in
      let eb : c.bytes ≡ b = cc in
      let f = s.holds a in
      rw e (f ∙ ap (λ x. Some x) (same_fragment c.part p c.bytes b ep eb))
  | GivesUp e a miss is ↦ absurd (cc (is, h))
  | Passes le miss is ↦ absurd (cc (is, h))
]

taken_gone : (w : World) (c : Chunk) → Kept w → IsSound w c → (n : ℕ) → number_of (c ∷ w.taken) n ≡ GivenUp → Gone w n
taken_gone w c k s n h = elim (change c w.taken n) [
  | Unchanged e ↦ k.gone n (sym e ∙ h)
  | Holds e a is ↦ absurd (cc (is, h))
  | GivesUp e a miss is ↦ passed_gone w n miss (subst (λ (x : ℕ). IsPassed w x) (sym e) (s.gives_up a))
  | Passes le miss is ↦ passed_gone w n miss (s.passes n le)
]

grows_taken : (w : World) (c : Chunk) → Grows w (after w (Taken c))
grows_taken w c = record { known = λ n ne. still_known c w.taken n ne; gone = λ n g. g; fragments = λ n p b f. f }

-- a chunk is taken
kept_taken : (w : World) (c : Chunk) → Kept w → IsIn c w.sent → Kept (after w (Taken c))
kept_taken w c k i =
    let s = k.sound c i in
    let g = grows_taken w c in
    record {
      one = k.one;
      laid = k.laid;
      end = k.end;
      held = taken_held w c k s;
      gone = taken_gone w c k s;
      sound = λ d h. sound_grows w (after w (Taken c)) d g (k.sound d h);
      told = λ a h n t. g.known n (k.told a h n t);
      heard = k.heard;
    }

-- an ack is sent
kept_told : (w : World) (a : Ack) → Kept w → ((n : ℕ) → Acknowledges a n → number_of w.taken n ≢ Missing) → Kept (after w (Told a))
kept_told w a k may =
    let g : Grows w (after w (Told a)) = record { known = λ n ne. ne; gone = λ n x. x; fragments = λ n p b f. f } in
    record {
      one = k.one;
      laid = k.laid;
      end = k.end;
      held = k.held;
      gone = k.gone;
      sound = λ c h. sound_grows w (after w (Told a)) c g (k.sound c h);
      told = λ b h n t. elim h [
        | inl e ↦ may n (subst (λ (x : Ack). Acknowledges x n) e t)
        | inr h ↦ k.told b h n t
      ];
      heard = λ b h. inr (k.heard b h);
    }

-- an ack is heard
kept_heard : (w : World) (a : Ack) → Kept w → IsIn a w.told → Kept (after w (Heard a))
kept_heard w a k i =
    let g : Grows w (after w (Heard a)) = record { known = λ n ne. ne; gone = λ n x. x; fragments = λ n p b f. f } in
    record {
      one = k.one;
      laid = k.laid;
      end = k.end;
      held = k.held;
      gone = k.gone;
      sound = λ c h. sound_grows w (after w (Heard a)) c g (k.sound c h);
      told = k.told;
      heard = λ b h. elim h [
        | inl e ↦ subst (λ (x : Ack). IsIn x w.told) (sym e) i
        | inr h ↦ k.heard b h
      ];
    }

-- a message is handed over
kept_handed : (w : World) (m : Message) → Kept w → Kept (after w (Handed m))
kept_handed w m k =
    let g : Grows w (after w (Handed m)) = record { known = λ n ne. ne; gone = λ n x. x; fragments = λ n p b f. f } in
    record {
      one = k.one;
      laid = k.laid;
      end = k.end;
      held = k.held;
      gone = k.gone;
      sound = λ c h. sound_grows w (after w (Handed m)) c g (k.sound c h);
      told = k.told;
      heard = k.heard;
    }

-- every event that may come keeps it
pub kept_step : (arriving : Bool) (w : World) (e : Event) → Kept w → May arriving w e → Kept (after w e)
kept_step arriving w (Queued m) k may = kept_queued w m k may.0 may.1
kept_step arriving w (Abandoned n) k may = kept_abandoned w n k
kept_step arriving w (Finished n) k may = kept_finished w n k may.0 may.1
kept_step arriving w (Sent c) k may = kept_sent w c k may
kept_step arriving w (Taken c) k may = kept_taken w c k may
kept_step arriving w (Told a) k may = kept_told w a k may
kept_step arriving w (Heard a) k may = kept_heard w a k may
kept_step arriving w (Handed m) k may = kept_handed w m k

-- a number that is given up is of an abandoned message, where a queued message spans it
pub gone_is_abandoned : (w : World) (n : ℕ) (m : Message) → Kept w → number_of w.taken n ≡ GivenUp → IsIn m w.queued → Spans m n → IsIn m.number w.abandoned
gone_is_abandoned w n m k e i sp = elim (k.gone n e) [
  | Outside lt ↦ absurd (omega (arith, lt, sp.0, begins_after w.first w.queued m k.laid i))
  | Of_abandoned x ↦
      let same : x.message ≡ m = same_message w.first w.queued x.message m n k.laid x.was_queued i x.spans sp in
      subst (λ (y : Message). IsIn y.number w.abandoned) same x.was_abandoned
  | Of_end f ↦ absurd (omega (arith, k.end n f, sp.1, ends_before w.first w.queued m k.laid i))
]
