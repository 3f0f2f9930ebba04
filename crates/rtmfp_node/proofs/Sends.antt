-- Sends and their lines, one after another.
use Rattle.std.proofs.Common.{◌≡◌, ◌≢◌, inl, inr, ℕ, ◌+◌, ◌<◌, suc, Bool, true, false, List, [], ◌∷◌, ◌++◌, take, drop, length, refl, sym, ap, ◌∙◌, append_assoc, append-nil, length-append, subst, Option, Some, None, get_or, add-one, arith}
use Rattle.std.proofs.Math.Seq.{take-suc}
use Rattle.std.proofs.lemmas.List.{take-append-drop}
use Rattle.crypto_profile.specs.declared.keys.Context.{Context}
use Rattle.rtmfp_forms.specs.Address.{AddressParts}
use Rattle.rtmfp_host.specs.Faults.{Rose}
use Rattle.rtmfp_host.specs.Linking.{Line, Calls}
use Rattle.rtmfp_host.specs.Seen.{SinkSeen}
use Rattle.rtmfp_host.specs.Writing.{Appends}
use Rattle.rtmfp_host.specs.declared.link.LinkCall.{LinkCall}
use Rattle.rtmfp_host.specs.declared.link.LinkCall.TheVariants.{Send}
use Rattle.endpoint_model.specs.declared.entry.Entry.{Entry}
use Rattle.endpoint_model.specs.declared.entry.Entry.TheVariants.{Out}
use Rattle.endpoint_model.specs.Views.{Sending, out_in}
use Rattle.rtmfp_report.specs.EntryText.{counted_after, counted_out, sent_after}
use Rattle.rtmfp_node.specs.declared.served.Served.{Served}
use Rattle.rtmfp_node.specs.declared.served.Served.TheVariants.{Done, Memory, LinkFault, SinkFault, EntropyFault}
use Rattle.rtmfp_node.specs.Outside.{Counted, Outside, PassesOn, Stays}
use Rattle.rtmfp_node.specs.declared.sending.Front.{Front}
use Rattle.rtmfp_node.specs.Report.{unsent_line, unsent_text}
use Rattle.rtmfp_node.proofs.Acts.{sent_after_more}
use Rattle.rtmfp_node.specs.Turn.{AreSends, outs_by, outs_in}
use Rattle.rtmfp_node.specs.Cut.{LinesSoFar}
use Rattle.rtmfp_node.specs.Acting.{CallsAll, CountedAt, EmitEnds, EmittedSome, LostEnds, PassOn, PassedAt, SendEnds, SentAll, SentSome}

-- ---- texts

pub appends_none : (o : Option (List ℕ)) → Appends o o []
appends_none None = tt
appends_none (Some xs) = sym (append-nil xs)

pub appends_more : (a b c : Option (List ℕ)) (x y : List ℕ) → Appends a b x → Appends b c y → Appends a c (x ++ y)
appends_more a b None x y p q = tt
appends_more a None (Some c) x y p q = absurd q
appends_more None (Some b) (Some c) x y p q = absurd p
appends_more (Some a) (Some b) (Some c) x y p q = q ∙ ap (λ s. s ++ y) p ∙ append_assoc a x y

pub appends_as : (a b : Option (List ℕ)) (x y : List ℕ) → x ≡ y → Appends a b x → Appends a b y
appends_as a b x y e p = subst (Appends a b) e p

-- and nothing more
pub appends_still : (a b c : Option (List ℕ)) (x : List ℕ) → Appends a b x → Appends b c [] → Appends a c x
appends_still a b c x p q = appends_as a c (x ++ []) x (append-nil x) (appends_more a b c x [] p q)

pub take_all : (xs : List ℕ) → take (length xs) xs ≡ xs
take_all [] = refl
take_all (x ∷ xs) = ap (λ ys. x ∷ ys) (take_all xs)

take_behind : (xs ys : List ℕ) (k : ℕ) → take (length xs + k) (xs ++ ys) ≡ xs ++ take k ys
take_behind [] ys k = let same : 0 + k ≡ k = omega arith in ap (λ n. take n ys) same
take_behind (x ∷ xs) ys k =
    let same : suc (length xs) + k ≡ suc (length xs + k) = omega arith in
    ap (λ n. take n (x ∷ (xs ++ ys))) same ∙ ap (λ zs. x ∷ zs) (take_behind xs ys k)

-- ---- calls

pub calls_none : (o : Option Line) → CallsAll o o []
calls_none None = tt
calls_none (Some line) = ap (λ (xs : List LinkCall). record { left = line.left; calls = xs }) (sym (append-nil line.calls))

calls_one : (a b : Option Line) (call : LinkCall) → Calls a b call → CallsAll a b (call ∷ [])
calls_one a None call p = tt
calls_one None (Some b) call p = absurd p
calls_one (Some a) (Some b) call p = p

calls_more : (a b c : Option Line) (xs ys : List LinkCall) → CallsAll a b xs → CallsAll b c ys → CallsAll a c (xs ++ ys)
calls_more a b None xs ys p q = tt
calls_more a None (Some c) xs ys p q = absurd q
calls_more None (Some b) (Some c) xs ys p q = absurd p
calls_more (Some a) (Some b) (Some c) xs ys p q =
    q
    ∙ ap (λ (l : Line). record { left = l.left; calls = l.calls ++ ys }) p
    ∙ ap (λ (zs : List LinkCall). record { left = a.left; calls = zs }) (append_assoc a.calls xs ys)

-- ---- sends

pub outs_in_more : (es fs : List Entry) → outs_in (es ++ fs) ≡ outs_in es ++ outs_in fs
outs_in_more [] fs = refl
outs_in_more (e ∷ es) fs = ap (λ xs. outs_by (out_in e) ++ xs) (outs_in_more es fs) ∙ sym (append_assoc (outs_by (out_in e)) (outs_in es) (outs_in fs))

are_sends_more : (os ps : List Sending) (xs ys : List LinkCall) → AreSends os xs → AreSends ps ys → AreSends (os ++ ps) (xs ++ ys)
are_sends_more [] ps xs ys p q = subst (λ zs. AreSends ps (zs ++ ys)) (sym p) q
are_sends_more (o ∷ os) ps xs ys p q = (p.0, p.1 ++ ys, ap (λ zs. zs ++ ys) p.2, are_sends_more os ps p.1 ys p.3 q)

counted_outs : ℕ → List Sending → ℕ
counted_outs count [] = count
counted_outs count (o ∷ os) = counted_outs (count + 1) os

counted_out_of : (o : Option Sending) (count : ℕ) (os : List Sending) → counted_outs count (outs_by o ++ os) ≡ counted_outs (counted_out count o) os
unfolding counted_outs
counted_out_of None count os = refl
counted_out_of (Some out) count os = refl

sent_outs : (count : ℕ) (es : List Entry) → counted_outs count (outs_in es) ≡ sent_after count es
unfolding counted_outs
sent_outs count [] = refl
sent_outs count (e ∷ es) = counted_out_of (out_in e) count (outs_in es) ∙ sent_outs (counted_after count e) es

unsent_one : (done : Bool) (front : Front) (count : ℕ) (o : Sending) (xs ys : List LinkCall) (rest : List ℕ) →
    unsent_text front (count + 1) (xs ++ ys) ≡ unsent_text front (count + 1) xs ++ rest →
    unsent_text front count (Send o.to o.datagram done ∷ (xs ++ ys)) ≡ unsent_text front count (Send o.to o.datagram done ∷ xs) ++ rest
unsent_one true front count o xs ys rest e = e
unsent_one false front count o xs ys rest e =
    ap (λ zs. unsent_line front (count + 1) ++ zs) e ∙ sym (append_assoc (unsent_line front (count + 1)) (unsent_text front (count + 1) xs) rest)

unsent_more : (os : List Sending) (front : Front) (count : ℕ) (xs ys : List LinkCall) → AreSends os xs →
    unsent_text front count (xs ++ ys) ≡ unsent_text front count xs ++ unsent_text front (counted_outs count os) ys
unfolding counted_outs
unsent_more [] front count xs ys h = subst (λ zs. unsent_text front count (zs ++ ys) ≡ unsent_text front count zs ++ unsent_text front count ys) (sym h) refl
unsent_more (o ∷ os) front count xs ys h =
    let after = unsent_text front (counted_outs (count + 1) os) ys in
    subst (λ zs. unsent_text front count (zs ++ ys) ≡ unsent_text front count zs ++ after) (sym h.2)
    (unsent_one h.0 front count o h.1 ys after (unsent_more os front (count + 1) h.1 ys h.3))

unsent_then : (es : List Entry) (front : Front) (count : ℕ) (xs ys : List LinkCall) → AreSends (outs_in es) xs →
    unsent_text front count (xs ++ ys) ≡ unsent_text front count xs ++ unsent_text front (sent_after count es) ys
unsent_then es front count xs ys h =
    unsent_more (outs_in es) front count xs ys h
    ∙ ap (λ k. unsent_text front count xs ++ unsent_text front k ys) (sent_outs count es)

-- nothing goes out by an entry
pub no_out : (front : Front) (count : ℕ) (e : Entry) (l : Option Line) (t : Option (List ℕ)) → out_in e ≡ None → SentAll front count (e ∷ []) l l t t
no_out front count e l t none = record {
  sends = [];
  sent = subst (λ o. AreSends (outs_by o ++ []) []) (sym none) refl;
  calls = calls_none l;
  text = appends_none t;
}

sent_more : (front : Front) (count : ℕ) (es fs : List Entry) (l m n : Option Line) (t u v : Option (List ℕ)) → SentAll front count es l m t u → SentAll front (sent_after count es) fs m n u v →
    SentAll front count (es ++ fs) l n t v
sent_more front count es fs l m n t u v p q = record {
  sends = p.sends ++ q.sends;
  sent = subst (λ os. AreSends os (p.sends ++ q.sends)) (sym (outs_in_more es fs)) (are_sends_more (outs_in es) (outs_in fs) p.sends q.sends p.sent q.sent);
  calls = calls_more l m n p.sends q.sends p.calls q.calls;
  text =
      appends_as t v (unsent_text front count p.sends ++ unsent_text front (sent_after count es) q.sends) (unsent_text front count (p.sends ++ q.sends))
      (sym (unsent_then es front count p.sends q.sends p.sent))
      (appends_more t u v (unsent_text front count p.sends) (unsent_text front (sent_after count es) q.sends) p.text q.text);
}

-- the lines so far, behind those of sends that were made before
lines_more : (front : Front) (count : ℕ) (es : List Entry) (xs ys : List LinkCall) (lines : List ℕ) → AreSends (outs_in es) xs → LinesSoFar front (sent_after count es) ys lines →
    LinesSoFar front count (xs ++ ys) (unsent_text front count xs ++ lines)
lines_more front count es xs ys lines sent h =
    let first = unsent_text front count xs in
    let second = unsent_text front (sent_after count es) ys in
    let earlier = unsent_text front (sent_after count es) h.earlier in
    let sum : length (unsent_text front count (xs ++ h.earlier)) ≡ length first + length earlier = ap length (unsent_then es front count xs h.earlier sent) ∙ length-append first earlier in
    let whole = h.whole in record {
      earlier = xs ++ h.earlier;
      last = h.last;
      all = ap (λ zs. xs ++ zs) h.all ∙ sym (append_assoc xs h.earlier h.last);
      one = h.one;
      k = length first + h.k;
      part = ap (λ zs. first ++ zs) h.part ∙ sym (take_behind first second h.k) ∙ ap (take (length first + h.k)) (sym (unsent_then es front count xs ys sent));
      whole = omega (arith, sum, whole);
    }

some_more : (front : Front) (count : ℕ) (es fs : List Entry) (l m n : Option Line) (t u v : Option (List ℕ)) → SentAll front count es l m t u → SentSome front (sent_after count es) fs m n u v →
    SentSome front count (es ++ fs) l n t v
some_more front count es fs l m n t u v p q =
    let first = unsent_text front count p.sends in record {
      sends = p.sends ++ q.sends;
      sent = (
        outs_in es ++ q.sent.0,
        q.sent.1,
        outs_in_more es fs ∙ ap (λ os. outs_in es ++ os) q.sent.2 ∙ sym (append_assoc (outs_in es) q.sent.0 q.sent.1),
        are_sends_more (outs_in es) q.sent.0 p.sends q.sends p.sent q.sent.3,
      );
      calls = calls_more l m n p.sends q.sends p.calls q.calls;
      lines = first ++ q.lines;
      so_far = lines_more front count es p.sends q.sends q.lines p.sent q.so_far;
      text = appends_more t u v first q.lines p.text q.text;
    }

some_wider : (front : Front) (count : ℕ) (es fs : List Entry) (l m : Option Line) (t u : Option (List ℕ)) → SentSome front count es l m t u → SentSome front count (es ++ fs) l m t u
some_wider front count es fs l m t u p = record {
  sends = p.sends;
  sent = (
    p.sent.0,
    p.sent.1 ++ outs_in fs,
    outs_in_more es fs ∙ ap (λ os. os ++ outs_in fs) p.sent.2 ∙ append_assoc p.sent.0 p.sent.1 (outs_in fs),
    p.sent.3,
  );
  calls = p.calls;
  lines = p.lines;
  so_far = p.so_far;
  text = p.text;
}

-- some entries, and then others, all of which were sent, or not
pub ends_more : (r : Served) (front : Front) (count : ℕ) (es fs : List Entry) (l m n : Option Line) (t u v : Option (List ℕ)) → SentAll front count es l m t u → SendEnds r front (sent_after count es) fs m n u v →
    SendEnds r front count (es ++ fs) l n t v
ends_more Done front count es fs l m n t u v p q = sent_more front count es fs l m n t u v p q
ends_more Memory front count es fs l m n t u v p q = some_more front count es fs l m n t u v p q
ends_more SinkFault front count es fs l m n t u v p q = some_more front count es fs l m n t u v p q
ends_more LinkFault front count es fs l m n t u v p q = absurd q
ends_more EntropyFault front count es fs l m n t u v p q = absurd q

pub ends_wider : (r : Served) (front : Front) (count : ℕ) (es fs : List Entry) (l m : Option Line) (t u : Option (List ℕ)) → r ≢ Done → SendEnds r front count es l m t u → SendEnds r front count (es ++ fs) l m t u
ends_wider Done front count es fs l m t u other p = absurd (other refl)
ends_wider Memory front count es fs l m t u other p = some_wider front count es fs l m t u p
ends_wider SinkFault front count es fs l m t u other p = some_wider front count es fs l m t u p
ends_wider LinkFault front count es fs l m t u other p = absurd p
ends_wider EntropyFault front count es fs l m t u other p = absurd p

pub sent_all : (front : Front) (count : ℕ) (es : List Entry) (l m : Option Line) (t u : Option (List ℕ)) (r : Served) → r ≡ Done → SendEnds r front count es l m t u → SentAll front count es l m t u
sent_all front count es l m t u r is p = subst (λ (k : Served). SendEnds k front count es l m t u) is p

-- ---- one entry more of a list

take_more : (es : List Entry) (i : ℕ) (e : Entry) → i < length es → e ≡ get_or es i e → take (i + 1) es ≡ take i es ++ e ∷ []
take_more es i e within is = ap (λ k. take k es) (add-one i) ∙ take-suc es i e within ∙ ap (λ x. take i es ++ x ∷ []) (sym is)

pub sent_next : (r : Served) (front : Front) (count k : ℕ) (es : List Entry) (i : ℕ) (e : Entry) (l m n : Option Line) (t u v : Option (List ℕ)) → i < length es → e ≡ get_or es i e →
    k ≡ sent_after count (take i es) → r ≡ Done → SentAll front count (take i es) l m t u → SendEnds r front k (e ∷ []) m n u v → SentAll front count (take (i + 1) es) l n t v
sent_next r front count k es i e l m n t u v within is counted done p q =
    let last = sent_all front k (e ∷ []) m n u v r done q in
    subst (λ (xs : List Entry). SentAll front count xs l n t v) (sym (take_more es i e within is))
    (sent_more front count (take i es) (e ∷ []) l m n t u v p (subst (λ j. SentAll front j (e ∷ []) m n u v) counted last))

pub counted_next : (count k j : ℕ) (es : List Entry) (i : ℕ) (e : Entry) → i < length es → e ≡ get_or es i e → k ≡ sent_after count (take i es) → j ≡ sent_after k (e ∷ []) → j ≡ sent_after count (take (i + 1) es)
counted_next count k j es i e within is before now =
    now ∙ ap (λ n. sent_after n (e ∷ [])) before ∙ sym (sent_after_more count (take i es) (e ∷ [])) ∙ ap (sent_after count) (sym (take_more es i e within is))

pub stopped_next : (r : Served) (front : Front) (count k : ℕ) (es : List Entry) (i : ℕ) (e : Entry) (l m n : Option Line) (t u v : Option (List ℕ)) → i < length es → e ≡ get_or es i e →
    k ≡ sent_after count (take i es) → r ≢ Done → SentAll front count (take i es) l m t u → SendEnds r front k (e ∷ []) m n u v → SendEnds r front count es l n t v
stopped_next r front count k es i e l m n t u v within is counted other p q =
    let last = subst (λ j. SendEnds r front j (e ∷ []) m n u v) counted q in
    subst (λ (xs : List Entry). SendEnds r front count xs l n t v) (take-append-drop (i + 1) es)
    (ends_wider r front count (take (i + 1) es) (drop (i + 1) es) l n t v other
    (subst (λ (xs : List Entry). SendEnds r front count xs l n t v) (sym (take_more es i e within is)) (ends_more r front count (take i es) (e ∷ []) l m n t u v p last)))

pub both_sent : (r q : Served) (front : Front) (count k : ℕ) (es fs : List Entry) (l m n : Option Line) (t u v : Option (List ℕ)) → r ≡ Done → SendEnds r front count es l m t u → k ≡ sent_after count es →
    SendEnds q front k fs m n u v → SendEnds q front count (es ++ fs) l n t v
both_sent r q front count k es fs l m n t u v done one counted two =
    ends_more q front count es fs l m n t u v (sent_all front count es l m t u r done one) (subst (λ j. SendEnds q front j fs m n u v) counted two)

-- ---- one send

pub send_done : (front : Front) (count : ℕ) (to : AddressParts) (datagram : List ℕ) (context : Context) (l m : Option Line) (t : Option (List ℕ)) → Calls l m (Send to datagram true) →
    SentAll front count (Out to datagram context ∷ []) l m t t
send_done front count to datagram context l m t called = record {
  sends = Send to datagram true ∷ [];
  sent = (true, [], refl, refl);
  calls = calls_one l m (Send to datagram true) called;
  text = appends_none t;
}

lost_whole : (front : Front) (count : ℕ) (to : AddressParts) (datagram : List ℕ) (context : Context) (l m : Option Line) (t u : Option (List ℕ)) → Calls l m (Send to datagram false) →
    Appends t u (unsent_line front (count + 1)) → SentAll front count (Out to datagram context ∷ []) l m t u
lost_whole front count to datagram context l m t u called wrote = record {
  sends = Send to datagram false ∷ [];
  sent = (false, [], refl, refl);
  calls = calls_one l m (Send to datagram false) called;
  text = appends_as t u (unsent_line front (count + 1)) (unsent_line front (count + 1) ++ []) (sym (append-nil (unsent_line front (count + 1)))) wrote;
}

-- a send, and a part of its line where it is lost
pub send_some : (front : Front) (count : ℕ) (to : AddressParts) (datagram : List ℕ) (context : Context) (done : Bool) (l m : Option Line) (t u : Option (List ℕ)) (k : ℕ) → Calls l m (Send to datagram done) →
    Appends t u (take k (unsent_text front count (Send to datagram done ∷ []))) → SentSome front count (Out to datagram context ∷ []) l m t u
send_some front count to datagram context done l m t u k called wrote = record {
  sends = Send to datagram done ∷ [];
  sent = (outs_in (Out to datagram context ∷ []), [], refl, (done, [], refl, refl));
  calls = calls_one l m (Send to datagram done) called;
  lines = take k (unsent_text front count (Send to datagram done ∷ []));
  so_far = record { earlier = []; last = Send to datagram done ∷ []; all = refl; one = omega arith; k = k; part = refl; whole = omega arith };
  text = wrote;
}

pub send_lost : (r : Served) (front : Front) (count : ℕ) (to : AddressParts) (datagram : List ℕ) (context : Context) (l m : Option Line) (t u : Option (List ℕ)) → Calls l m (Send to datagram false) →
    LostEnds r (unsent_line front (count + 1)) t u → SendEnds r front count (Out to datagram context ∷ []) l m t u
send_lost Done front count to datagram context l m t u called lost = lost_whole front count to datagram context l m t u called lost
send_lost Memory front count to datagram context l m t u called lost = send_some front count to datagram context false l m t u 0 called lost
send_lost SinkFault front count to datagram context l m t u called lost =
    send_some front count to datagram context false l m t u lost.0 called
    (appends_as t u (take lost.0 (unsent_line front (count + 1))) (take lost.0 (unsent_line front (count + 1) ++ [])) (ap (take lost.0) (sym (append-nil (unsent_line front (count + 1))))) lost.1)
send_lost LinkFault front count to datagram context l m t u called lost = absurd lost
send_lost EntropyFault front count to datagram context l m t u called lost = absurd lost

-- ---- the report, and then the sends

pub report_cut : (front : Front) (count : ℕ) (report : List ℕ) (es : List Entry) (l : Option Line) (t u : Option (List ℕ)) (k : ℕ) → Appends t u (take k report) → EmittedSome front count report es l l t u
report_cut front count report es l t u k wrote = record {
  sends = [];
  sent = ([], outs_in es, refl, refl);
  calls = calls_none l;
  part = take k report;
  is_part = inl (refl, k, refl);
  text = wrote;
}

all_lines : (front : Front) (count : ℕ) (sends : List LinkCall) → LinesSoFar front count sends (unsent_text front count sends)
all_lines front count sends = record {
  earlier = sends;
  last = [];
  all = sym (append-nil sends);
  one = omega arith;
  k = length (unsent_text front count sends);
  part = sym (take_all (unsent_text front count sends));
  whole = omega arith;
}

all_but_passed : (front : Front) (count : ℕ) (report : List ℕ) (es : List Entry) (l m : Option Line) (t u v w : Option (List ℕ)) → Appends t u report → SentAll front count es l m u v → Appends v w [] →
    EmittedSome front count report es l m t w
all_but_passed front count report es l m t u v w wrote all still =
    let lines = unsent_text front count all.sends in record {
      sends = all.sends;
      sent = (outs_in es, [], sym (append-nil (outs_in es)), all.sent);
      calls = all.calls;
      part = report ++ lines;
      is_part = inr (lines, all_lines front count all.sends, refl);
      text = appends_still t v w (report ++ lines) (appends_more t u v report lines wrote all.text) still;
    }

some_passed : (front : Front) (count : ℕ) (report : List ℕ) (es : List Entry) (l m : Option Line) (t u v w : Option (List ℕ)) → Appends t u report → SentSome front count es l m u v → Appends v w [] →
    EmittedSome front count report es l m t w
some_passed front count report es l m t u v w wrote some still =
    record {
      sends = some.sends;
      sent = some.sent;
      calls = some.calls;
      part = report ++ some.lines;
      is_part = inr (some.lines, some.so_far, refl);
      text = appends_still t v w (report ++ some.lines) (appends_more t u v report some.lines wrote some.text) still;
    }

as_served : (served : Served) (front : Front) (count : ℕ) (report : List ℕ) (es : List Entry) (l m : Option Line) (t u v w : Option (List ℕ)) → Appends t u report → SendEnds served front count es l m u v → Appends v w [] →
    EmitEnds served front count report es l m t w
as_served Done front count report es l m t u v w wrote all still = record {
  sends = all.sends;
  sent = all.sent;
  calls = all.calls;
  text =
      appends_still t v w (report ++ unsent_text front count all.sends) (appends_more t u v report (unsent_text front count all.sends) wrote all.text) still;
}
as_served Memory front count report es l m t u v w wrote some still = some_passed front count report es l m t u v w wrote some still
as_served SinkFault front count report es l m t u v w wrote some still = some_passed front count report es l m t u v w wrote some still
as_served LinkFault front count report es l m t u v w wrote none still = absurd none
as_served EntropyFault front count report es l m t u v w wrote none still = absurd none

as_fault : (served : Served) (front : Front) (count : ℕ) (report : List ℕ) (es : List Entry) (l m : Option Line) (t u v w : Option (List ℕ)) → Appends t u report → SendEnds served front count es l m u v → Appends v w [] →
    EmittedSome front count report es l m t w
as_fault Done front count report es l m t u v w wrote all still = all_but_passed front count report es l m t u v w wrote all still
as_fault Memory front count report es l m t u v w wrote some still = some_passed front count report es l m t u v w wrote some still
as_fault SinkFault front count report es l m t u v w wrote some still = some_passed front count report es l m t u v w wrote some still
as_fault LinkFault front count report es l m t u v w wrote none still = absurd none
as_fault EntropyFault front count report es l m t u v w wrote none still = absurd none

pub emitted : (served result : Served) (front : Front) (count : ℕ) (report : List ℕ) (es : List Entry) (l m : Option Line) (t u : Option (List ℕ)) (x y : SinkSeen) → Appends t u report →
    SendEnds served front count es l m u x.written → Appends x.written y.written [] → PassOn served result x y → EmitEnds result front count report es l m t y.written
emitted served result front count report es l m t u x y wrote sent still (inl stays) =
    subst (λ (r : Served). EmitEnds r front count report es l m t y.written) (sym stays.0) (as_served served front count report es l m t u x.written y.written wrote sent still)
emitted served result front count report es l m t u x y wrote sent still (inr failed) =
    subst (λ (r : Served). EmitEnds r front count report es l m t y.written) (sym failed.0) (as_fault served front count report es l m t u x.written y.written wrote sent still)

-- ---- counts, and what is passed on

rose_again : (a b c : ℕ) → Rose a b → Rose b c → Rose a c
rose_again a b c p q = omega (arith, p, q)

pub counted_then : (served result : Served) (faults : ℕ) (x y : SinkSeen) → CountedAt served faults x.faults → PassOn served result x y → CountedAt result faults y.faults
counted_then served result faults x y counted (inl stays) =
    subst (λ (r : Served). CountedAt r faults y.faults) (sym stays.0) (subst (λ k. CountedAt served faults k) (sym stays.1) counted)
counted_then Done result faults x y counted (inr failed) =
    subst (λ (r : Served). CountedAt r faults y.faults) (sym failed.0) (subst (λ k. Rose k y.faults) counted failed.1)
counted_then Memory result faults x y counted (inr failed) =
    subst (λ (r : Served). CountedAt r faults y.faults) (sym failed.0) (subst (λ k. Rose k y.faults) counted failed.1)
counted_then LinkFault result faults x y counted (inr failed) =
    subst (λ (r : Served). CountedAt r faults y.faults) (sym failed.0) (subst (λ k. Rose k y.faults) counted failed.1)
counted_then EntropyFault result faults x y counted (inr failed) =
    subst (λ (r : Served). CountedAt r faults y.faults) (sym failed.0) (subst (λ k. Rose k y.faults) counted failed.1)
counted_then SinkFault result faults x y counted (inr failed) =
    subst (λ (r : Served). CountedAt r faults y.faults) (sym failed.0) (rose_again faults x.faults y.faults counted failed.1)

pub passed_then : (served result : Served) (x y : SinkSeen) → PassOn served result x y → PassedAt result y
passed_then served result x y (inl stays) = subst (λ (r : Served). PassedAt r y) (sym stays.0) stays.2
passed_then served result x y (inr failed) = subst (λ (r : Served). PassedAt r y) (sym failed.0) tt

pub emit_as : (r : Served) (front other : Front) (count k : ℕ) (report text : List ℕ) (heard out es fs : List Entry) (l m : Option Line) (t u : Option (List ℕ)) → front ≡ other → count ≡ k → report ≡ text → heard ≡ es → out ≡ fs →
    EmitEnds r front count report (heard ++ out) l m t u → EmitEnds r other k text (es ++ fs) l m t u
emit_as r front other count k report text heard out es fs l m t u zero one two three four ends =
    subst (λ (x : Front). EmitEnds r x k text (es ++ fs) l m t u) zero
    (subst (λ (x : List Entry). EmitEnds r front k text (es ++ x) l m t u) four
    (subst (λ (x : List Entry). EmitEnds r front k text (x ++ out) l m t u) three
    (subst (λ x. EmitEnds r front k x (heard ++ out) l m t u) two
    (subst (λ x. EmitEnds r front x report (heard ++ out) l m t u) one ends))))

-- an end of the sends is none of the other objects
pub counted_all : (r : Served) (front : Front) (count : ℕ) (report : List ℕ) (es : List Entry) (l m : Option Line) (t u : Option (List ℕ)) (a b : Outside) → EmitEnds r front count report es l m t u →
    Stays a.link.faults b.link.faults → Stays a.entropy.faults b.entropy.faults → CountedAt r a.sink.faults b.sink.faults → Counted r a b
counted_all Done front count report es l m t u a b ends link entropy sink = record { link = link; entropy = entropy; sink = sink }
counted_all Memory front count report es l m t u a b ends link entropy sink = record { link = link; entropy = entropy; sink = sink }
counted_all SinkFault front count report es l m t u a b ends link entropy sink = record { link = link; entropy = entropy; sink = sink }
counted_all LinkFault front count report es l m t u a b ends link entropy sink = absurd ends
counted_all EntropyFault front count report es l m t u a b ends link entropy sink = absurd ends

pub passes_all : (r : Served) (a b : Outside) → PassedAt r b.sink → PassesOn r a b
passes_all Done a b passed = λ before. passed
passes_all Memory a b passed = λ before. passed
passes_all LinkFault a b passed = λ before. passed
passes_all EntropyFault a b passed = λ before. passed
passes_all SinkFault a b passed = tt
