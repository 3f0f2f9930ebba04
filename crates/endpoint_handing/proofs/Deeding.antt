-- A history with one deed of an end more, and what it changes of the flows that are kept.
use Rattle.std.proofs.Common.{◌≡◌, ℕ, ◌==◌, cond, List, [], ◌∷◌, Bool, true, false}
use Rattle.std.proofs.Common.{Option, Some, None, inl, inr, refl, sym, ap, ◌∙◌}
use Rattle.flow_recv.specs.Receiver.{Receiver}
use Rattle.flow_history.specs.Flow.{Opened, Touch, Goes, Beside, BySender, ByReceiver}
use Rattle.flow_history.specs.Flow.{SendingBegins, TakingBegins}
use Rattle.flow_history.specs.Flow.{sending_after, sending_at, taking_after, taking_at}
use Rattle.flow_history.specs.Deeds.{Context, back, same, Name, name, Piece, Deed, Begins, Out}
use Rattle.flow_history.specs.Deeds.{done}
use Rattle.flow_history.specs.Deeds.{History, data_of, acks_of, touch_of, steps_of}
use Rattle.flow_history.specs.Run.{OpensAs}
use Rattle.flow_history.proofs.Keeps.{tested}
use Rattle.flow_history.proofs.Names.{number_self, same_is, same_self, same_back, back_back}
use Rattle.endpoint_handing.proofs.Kept.{FlowsKept, Grows}

-- ---- other ends

other_stays : {K : Type 0} (t : Bool) (x y : Option K) → t ≡ false → cond t x y ≡ y
other_stays true x y e = absurd cc
other_stays false x y e = refl

another : (a b : ℕ) → (b ≡ a → ⊥) → (a == b) ≡ false
another a b ne = elim (tested a b) [ inl d ↦ absurd (ne (sym d.0)) | inr d ↦ d.1 ]

pub grows_by : (who : ℕ) (deed : Deed) (h : History) → Grows who h (done who deed ∷ h)
grows_by who deed h = record {
  sends = λ n other ne. other_stays (who == other)
      (sending_after (sending_at (steps_of n h) other) (touch_of n deed))
      (sending_at (steps_of n h) other) (another who other ne);
  takes = λ n other ne. other_stays (who == other)
      (taking_after (taking_at (steps_of n h) other) (touch_of n deed))
      (taking_at (steps_of n h) other) (another who other ne);
  sent = λ c pieces w. inr w;
  came = λ other c piece w. inr w;
  given = λ n x w. inr w;
  told = λ n a w. inr w;
  split = λ c id size packet w. inr w;
  others = λ other c id ne w. elim w [ inl e ↦ absurd (ne (sym e.0)) | inr before ↦ before ];
  ordered = λ b n o. o.1;
}

-- ---- its own

pub sends_now : (who : ℕ) (deed : Deed) (h : History) (n : Name) →
    sending_at (steps_of n (done who deed ∷ h)) who
    ≡ sending_after (sending_at (steps_of n h) who) (touch_of n deed)
sends_now who deed h n =
    ap (λ (t : Bool). cond t (sending_after (sending_at (steps_of n h) who) (touch_of n deed))
    (sending_at (steps_of n h) who)) (number_self who)

pub takes_now : (who : ℕ) (deed : Deed) (h : History) (n : Name) →
    taking_at (steps_of n (done who deed ∷ h)) who
    ≡ taking_after (taking_at (steps_of n h) who) (touch_of n deed)
takes_now who deed h n =
    ap (λ (t : Bool). cond t (taking_after (taking_at (steps_of n h) who) (touch_of n deed))
    (taking_at (steps_of n h) who)) (number_self who)

-- what a deed leaves as it is stays kept
pub record Leaves_be (deed : Deed) (c : Context) : Type 0 where
  pub sends : (f : ℕ) (k : Option (Option Opened)) → sending_after k (touch_of (name c f) deed) ≡ k
  pub takes : (f : ℕ) (k : Option (Option Receiver)) →
      taking_after k (touch_of (name (back c) f) deed) ≡ k

pub kept_by : (who : ℕ) (c : Context) (flows : _) (deed : Deed) (h : History) → Leaves_be deed c →
    FlowsKept who c flows h → FlowsKept who c flows (done who deed ∷ h)
kept_by who c flows deed h be k = record {
  kept = k.kept;
  shows = k.shows;
  sends = λ f. sends_now who deed h (name c f) ∙ be.sends f (sending_at (steps_of (name c f) h) who) ∙ k.sends f;
  takes = λ f. takes_now who deed h (name (back c) f) ∙ be.takes f (taking_at (steps_of (name (back c) f) h) who) ∙ k.takes f;
}

-- and what another end does stays beside
pub kept_beside : (who other : ℕ) (c : Context) (flows : _) (h after : History) → (other ≡ who → ⊥) →
    Grows who h after → FlowsKept other c flows h → FlowsKept other c flows after
kept_beside who other c flows h after ne grows k = record {
  kept = k.kept;
  shows = k.shows;
  sends = λ f. grows.sends (name c f) other ne ∙ k.sends f;
  takes = λ f. grows.takes (name (back c) f) other ne ∙ k.takes f;
}

-- ---- a datagram that goes out

abbrev going : Bool → Bool → Touch → Touch → Touch
going a b there here = cond a there (cond b here Beside)

out_sends : (a b : Bool) (x y : _) (u v : _) (k : Option (Option Opened)) → sending_after k (going a b (Goes x u) (Goes y v)) ≡ k
out_sends true b x y u v k = refl
out_sends false true x y u v k = refl
out_sends false false x y u v k = refl

out_takes : (a b : Bool) (x y : _) (u v : _) (k : Option (Option Receiver)) → taking_after k (going a b (Goes x u) (Goes y v)) ≡ k
out_takes true b x y u v k = refl
out_takes false true x y u v k = refl
out_takes false false x y u v k = refl

pub out_leaves_be : (d : Context) (pieces : List Piece) (c : Context) → Leaves_be (Out d pieces) c
out_leaves_be d pieces c = record {
  sends = λ f k. out_sends (same d c) (same (back d) c) (data_of f pieces) [] [] (acks_of f pieces) k;
  takes = λ f k. out_takes (same d (back c)) (same (back d) (back c)) (data_of f pieces) [] [] (acks_of f pieces) k;
}

-- ---- a session that begins

pub not_same : (c d : Context) → (c ≡ d → ⊥) → same c d ≡ false
not_same c d ne = by (same c d) refl
  where
    by : (b : Bool) → same c d ≡ b → b ≡ false
    by true e = absurd (ne (same_is c d e))
    by false e = refl

pub backs_apart : (c d : Context) → (c ≡ d → ⊥) → back c ≡ back d → ⊥
backs_apart c d ne e = ne (sym (back_back c) ∙ ap back e ∙ back_back d)

begins_sends : (a b : Bool) (k : Option (Option Opened)) → a ≡ false → sending_after k (going a b (BySender SendingBegins) (ByReceiver TakingBegins)) ≡ k
begins_sends true b k e = absurd cc
begins_sends false true k e = refl
begins_sends false false k e = refl

begins_takes : (a b : Bool) (k : Option (Option Receiver)) → b ≡ false → taking_after k (going a b (BySender SendingBegins) (ByReceiver TakingBegins)) ≡ k
begins_takes true b k e = refl
begins_takes false true k e = absurd cc
begins_takes false false k e = refl

pub begins_leaves_be : (d c : Context) → (d ≡ c → ⊥) → Leaves_be (Begins d) c
begins_leaves_be d c ne = record {
  sends = λ f k. begins_sends (same d c) (same (back d) c) k (not_same d c ne);
  takes = λ f k. begins_takes (same d (back c)) (same (back d) (back c)) k (not_same (back d) (back c) (backs_apart d c ne));
}

begun_sends : (a b : Bool) (k : Option (Option Opened)) → a ≡ true → sending_after k (going a b (BySender SendingBegins) (ByReceiver TakingBegins)) ≡ Some None
begun_sends true b k e = refl
begun_sends false b k e = absurd cc

begun_takes : (a b : Bool) (k : Option (Option Receiver)) → a ≡ false → b ≡ true → taking_after k (going a b (BySender SendingBegins) (ByReceiver TakingBegins)) ≡ Some None
begun_takes true b k e f = absurd cc
begun_takes false true k e f = refl
begun_takes false false k e f = absurd cc

apart_from_back : (c : Context) → same c (back c) ≡ false
apart_from_back c = ap (λ (d : Context). same d (back c)) (sym (back_back c)) ∙ same_back (back c)

pub begun_now : (who : ℕ) (c : Context) (h : History) (f : ℕ) →
    (sending_at (steps_of (name c f) (done who (Begins c) ∷ h)) who ≡ Some None)
    × (taking_at (steps_of (name (back c) f) (done who (Begins c) ∷ h)) who ≡ Some None)
begun_now who c h f = (
  sends_now who (Begins c) h (name c f) ∙ begun_sends (same c c) (same (back c) c) _ (same_self c),
  takes_now who (Begins c) h (name (back c) f) ∙ begun_takes (same c (back c)) (same (back c) (back c)) _ (apart_from_back c) (same_self (back c)),
)

-- ---- neither opens a flow

out_opens : (x y : Bool) (b : Bool) (p q : _) (u v : _) → OpensAs b (going x y (Goes p u) (Goes q v))
out_opens true y b p q u v = tt
out_opens false true b p q u v = tt
out_opens false false b p q u v = tt

pub out_orders : (b : Bool) (n : Name) (c : Context) (pieces : List Piece) → OpensAs b (touch_of n (Out c pieces))
out_orders b n c pieces = out_opens (same c n.context) (same (back c) n.context) b (data_of n.flow pieces) [] [] (acks_of n.flow pieces)

begins_opens : (x y : Bool) (b : Bool) → OpensAs b (going x y (BySender SendingBegins) (ByReceiver TakingBegins))
begins_opens true y b = tt
begins_opens false true b = tt
begins_opens false false b = tt

pub begins_orders : (b : Bool) (n : Name) (c : Context) → OpensAs b (touch_of n (Begins c))
begins_orders b n c = begins_opens (same c n.context) (same (back c) n.context) b
