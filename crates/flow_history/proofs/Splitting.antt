-- Packets that are split: which end split them, and what of them comes.
use Rattle.std.proofs.Common.{◌≡◌, ℕ, ◌==◌, cond, Bool, true, false, List, [], ◌∷◌, Option, Some}
use Rattle.std.proofs.Common.{None, refl, sym, ap, subst, ◌∙◌, inl, inr, ◌⊎◌}
use Rattle.rtmfp_fragments.specs.Pieces.{PieceParts, pieces_of}
use Rattle.rtmfp_data_chunks.specs.HandsOver.{IsIn}
use Rattle.flow_history.specs.Flow.{Opened, SendingBegins, SendingEnds, Opens, Acts, Touch, BySender}
use Rattle.flow_history.specs.Flow.{ByReceiver, Goes, Beside, sending_after, sending_at}
use Rattle.flow_history.specs.Run.{BeginsSending}
use Rattle.flow_history.specs.Deeds.{Context, name, Piece, Part, Deed, Begins, Leaves, OpensFlow}
use Rattle.flow_history.specs.Deeds.{ActsOn, MakesFlow, TakesFrom, HandsOn, AcksOn, In, Out, Splits}
use Rattle.flow_history.specs.Deeds.{Done, History, touch_of, steps_of}
use Rattle.flow_history.specs.Lawful.{BeginsIn, HasBegun, HasBegunAt, SplitsAs, WasSplit, SplitsUnder}
use Rattle.flow_history.specs.Lawful.{WasSplitBy, HasPart, CameIn, MayDo, IsLawful, SendsOut, WasSent}
use Rattle.flow_history.specs.Lawful.{IsHonest}
use Rattle.flow_history.specs.Events.{onto}
use Rattle.flow_history.proofs.Keeps.{tested}
use Rattle.flow_history.proofs.Projected.{sending_begun_at, came_sent}

-- ---- the deed itself

is_begins : (c : Context) (d : Deed) → BeginsIn c d → d ≡ Begins c
is_begins c (Begins c') e = ap (λ (x : Context). Begins x) e
is_begins c (Leaves c') e = absurd e
is_begins c (OpensFlow n b) e = absurd e
is_begins c (ActsOn n act) e = absurd e
is_begins c (MakesFlow n b) e = absurd e
is_begins c (TakesFrom n x') e = absurd e
is_begins c (HandsOn n) e = absurd e
is_begins c (AcksOn n pairs) e = absurd e
is_begins c (In c' pieces') e = absurd e
is_begins c (Out c' pieces') e = absurd e
is_begins c (Splits c' id' size' packet') e = absurd e

is_splits : (c : Context) (id size : ℕ) (packet : List ℕ) (d : Deed) →
    SplitsAs c id size packet d → d ≡ Splits c id size packet
is_splits c id size packet (Begins c') e = absurd e
is_splits c id size packet (Leaves c') e = absurd e
is_splits c id size packet (OpensFlow n b) e = absurd e
is_splits c id size packet (ActsOn n act) e = absurd e
is_splits c id size packet (MakesFlow n b) e = absurd e
is_splits c id size packet (TakesFrom n x') e = absurd e
is_splits c id size packet (HandsOn n) e = absurd e
is_splits c id size packet (AcksOn n pairs) e = absurd e
is_splits c id size packet (In c' pieces') e = absurd e
is_splits c id size packet (Out c' pieces') e = absurd e
is_splits c id size packet (Splits c' id' size' packet') e = λ j. Splits (e.0 j) (e.1 j) (e.2 j) (e.3 j)

is_out : (c : Context) (pieces : List Piece) (d : Deed) → SendsOut c pieces d → d ≡ Out c pieces
is_out c pieces (Begins c') e = absurd e
is_out c pieces (Leaves c') e = absurd e
is_out c pieces (OpensFlow n b) e = absurd e
is_out c pieces (ActsOn n act) e = absurd e
is_out c pieces (MakesFlow n b) e = absurd e
is_out c pieces (TakesFrom n x') e = absurd e
is_out c pieces (HandsOn n) e = absurd e
is_out c pieces (AcksOn n pairs) e = absurd e
is_out c pieces (In c' pieces') e = absurd e
is_out c pieces (Out c' pieces') e = λ j. Out (e.0 j) (e.1 j)
is_out c pieces (Splits c' id' size' packet') e = absurd e

splits_under : (c : Context) (id size : ℕ) (packet : List ℕ) (d : Deed) →
    SplitsAs c id size packet d → SplitsUnder c id d
splits_under c id size packet d e =
    subst (λ (x : Deed). SplitsUnder c id x) (sym (is_splits c id size packet d e)) (refl, refl)

-- ---- an end that begins to send in a context is the only one

pub begun_by : (who : ℕ) (c : Context) (h : History) → HasBegunAt who c h → HasBegun c h
begun_by who c [] b = b
begun_by who c (d ∷ h) (inl b) = inl b.1
begun_by who c (d ∷ h) (inr b) = inr (begun_by who c h b)

begins_anew : (who : ℕ) (c : Context) (h : History) (d : Deed) → MayDo h who d → BeginsIn c d →
    HasBegun c h → ⊥
begins_anew who c h d may b =
    subst (λ (x : Deed). MayDo h who x) (is_begins c d b) may

pub begun_at_once : (a b : ℕ) (c : Context) (h : History) → IsLawful h → HasBegunAt a c h →
    HasBegunAt b c h → a ≡ b
begun_at_once a b c [] lawful i j = absurd i
begun_at_once a b c (d ∷ h) lawful (inl i) (inl j) = sym i.0 ∙ j.0
begun_at_once a b c (d ∷ h) lawful (inl i) (inr j) =
    absurd (begins_anew d.who c h d.deed lawful.0 i.1 (begun_by b c h j))
begun_at_once a b c (d ∷ h) lawful (inr i) (inl j) =
    absurd (begins_anew d.who c h d.deed lawful.0 j.1 (begun_by a c h i))
begun_at_once a b c (d ∷ h) lawful (inr i) (inr j) = begun_at_once a b c h lawful.1 i j

-- ---- what a session keeps, it began to

sending_more : (kept : Option (Option Opened)) (t : Touch) (k : Option Opened) →
    sending_after kept t ≡ Some k → BeginsSending t ⊎ ((x : Option Opened) × (kept ≡ Some x))
sending_more kept (BySender SendingBegins) k e = inl tt
sending_more kept (BySender SendingEnds) k e = absurd cc
sending_more None (BySender (Opens b)) k e = absurd cc
sending_more (Some x) (BySender (Opens b)) k e = inr (x, refl)
sending_more None (BySender (Acts act)) k e = absurd cc
sending_more (Some x) (BySender (Acts act)) k e = inr (x, refl)
sending_more kept (ByReceiver t) k e = inr (k, e)
sending_more kept (Goes chunks acks) k e = inr (k, e)
sending_more kept Beside k e = inr (k, e)

-- what a deed of this end, or of another, leaves of it
after_test : {K : Type 0} (t b : Bool) (new old : Option K) (x : K) → t ≡ b →
    cond t new old ≡ Some x → cond b new old ≡ Some x
after_test t b new old x e f = subst (λ (a : Bool). cond a new old ≡ Some x) e f

pub sending_begun : (who f : ℕ) (c : Context) (h : History) (k : Option Opened) →
    sending_at (steps_of (name c f) h) who ≡ Some k → HasBegunAt who c h
sending_begun who f c [] k e = absurd cc
sending_begun who f c (d ∷ h) k e =
    let old : Option (Option Opened) = sending_at (steps_of (name c f) h) who in
    let t : Touch = touch_of (name c f) d.deed in
    elim (tested d.who who) [
      | inl same ↦ elim (sending_more old t k
          (after_test (d.who == who) true (sending_after old t) old k same.1 e)) [
            | inl begins ↦ inl (same.0, sending_begun_at (name c f) d.deed begins)
            | inr before ↦ inr (sending_begun who f c h before.0 before.1)
          ]
      | inr apart ↦ inr (sending_begun who f c h k
          (after_test (d.who == who) false (sending_after old t) old k apart.1 e))
    ]

-- ---- who splits sends in the context

splits_begun : (who : ℕ) (c : Context) (id size : ℕ) (packet : List ℕ) (h : History) (d : Deed) →
    MayDo h who d → SplitsAs c id size packet d → MayDo h who (Splits c id size packet)
splits_begun who c id size packet h d may e =
    subst (λ (x : Deed). MayDo h who x) (is_splits c id size packet d e) may

pub split_begun : (c : Context) (id size : ℕ) (packet : List ℕ) (h : History) → IsLawful h →
    WasSplit c id size packet h → HasBegun c h
split_begun c id size packet [] lawful w = absurd w
split_begun c id size packet (d ∷ h) lawful (inl e) =
    inr (begun_by d.who c h (splits_begun d.who c id size packet h d.deed lawful.0 e).0)
split_begun c id size packet (d ∷ h) lawful (inr w) =
    inr (split_begun c id size packet h lawful.1 w)

begins_no_split : (c : Context) (id size : ℕ) (packet : List ℕ) (d : Deed) → BeginsIn c d →
    SplitsAs c id size packet d → ⊥
begins_no_split c id size packet d b e =
    subst (λ (x : Deed). SplitsAs c id size packet x) (is_begins c d b) e

pub split_mine : (who : ℕ) (c : Context) (id size : ℕ) (packet : List ℕ) (h : History) →
    IsLawful h → HasBegunAt who c h → WasSplit c id size packet h → WasSplitBy who c id h
split_mine who c id size packet [] lawful b w = absurd w
split_mine who c id size packet (d ∷ h) lawful (inl b) (inl e) =
    absurd (begins_no_split c id size packet d.deed b.1 e)
split_mine who c id size packet (d ∷ h) lawful (inl b) (inr w) =
    absurd (begins_anew d.who c h d.deed lawful.0 b.1 (split_begun c id size packet h lawful.1 w))
split_mine who c id size packet (d ∷ h) lawful (inr b) (inl e) = inl (
  begun_at_once d.who who c h lawful.1
      (splits_begun d.who c id size packet h d.deed lawful.0 e).0 b,
  splits_under c id size packet d.deed e,
)
split_mine who c id size packet (d ∷ h) lawful (inr b) (inr w) =
    inr (split_mine who c id size packet h lawful.1 b w)

-- ---- an ID is given once

one_deed : (c : Context) (id size size' : ℕ) (packet packet' : List ℕ) →
    Splits c id size packet ≡ Splits c id size' packet' → (size ≡ size') × (packet ≡ packet')
one_deed c id size size' packet packet' e = (cc, cc)

pub an_id_is_given_once : (h : History) (c : Context) (id size size' : ℕ)
    (packet packet' : List ℕ) → IsLawful h → WasSplit c id size packet h →
    WasSplit c id size' packet' h → (size ≡ size') × (packet ≡ packet')
an_id_is_given_once [] c id s t p q lawful v w = absurd v
an_id_is_given_once (d ∷ h) c id s t p q lawful (inl e) (inl f) =
    one_deed c id s t p q (sym (is_splits c id s p d.deed e) ∙ is_splits c id t q d.deed f)
an_id_is_given_once (d ∷ h) c id s t p q lawful (inl e) (inr w) =
    absurd ((splits_begun d.who c id s p h d.deed lawful.0 e).1 t q w)
an_id_is_given_once (d ∷ h) c id s t p q lawful (inr v) (inl f) =
    absurd ((splits_begun d.who c id t q h d.deed lawful.0 f).1 s p v)
an_id_is_given_once (d ∷ h) c id s t p q lawful (inr v) (inr w) =
    an_id_is_given_once h c id s t p q lawful.1 v w

-- ---- what goes out, and what comes

pub part_kept : (c : Context) (id : ℕ) (x : PieceParts) (d : Done) (h : History) →
    HasPart c id x h → HasPart c id x (d ∷ h)
part_kept c id x d h k = (k.0, k.1, inr k.2, k.3)

part_at : (who : ℕ) (c : Context) (id : ℕ) (x : PieceParts) (pieces : List Piece) (h : History)
    (d : Deed) → MayDo h who d → SendsOut c pieces d → IsIn (Part id x) pieces → HasPart c id x h
part_at who c id x pieces h d may o i =
    let out : MayDo h who (Out c pieces) =
    subst (λ (y : Deed). MayDo h who y) (is_out c pieces d o) may in
    out.2 id x i

pub sent_split : (c : Context) (id : ℕ) (x : PieceParts) (pieces : List Piece) (h : History) →
    IsLawful h → WasSent c pieces h → IsIn (Part id x) pieces → HasPart c id x h
sent_split c id x pieces [] lawful o i = absurd o
sent_split c id x pieces (d ∷ h) lawful (inl o) i =
    part_kept c id x d h (part_at d.who c id x pieces h d.deed lawful.0 o i)
sent_split c id x pieces (d ∷ h) lawful (inr o) i =
    part_kept c id x d h (sent_split c id x pieces h lawful.1 o i)

pub what_comes_was_split : (h : History) (who : ℕ) (c : Context) (id : ℕ) (x : PieceParts) →
    IsLawful h → IsHonest h → CameIn who c (Part id x) h → HasPart c id x h
what_comes_was_split h who c id x lawful honest i =
    let k = came_sent who c (Part id x) h honest i in
    sent_split c id x k.pieces h lawful k.sent k.among

-- ---- what deeds leave of it

abbrev pub IsNoSplit : Deed → Type 0
IsNoSplit (Splits c id size packet) = ⊥
IsNoSplit deed = Unit {0}

abbrev pub HaveNoSplit : List Deed → Type 0
HaveNoSplit [] = Unit {0}
HaveNoSplit (d ∷ deeds) = IsNoSplit d × HaveNoSplit deeds

no_split_as : (c : Context) (id size : ℕ) (packet : List ℕ) (d : Deed) → IsNoSplit d →
    SplitsAs c id size packet d → ⊥
no_split_as c id size packet d none e =
    subst (λ (x : Deed). IsNoSplit x) (is_splits c id size packet d e) none

is_under : (c : Context) (id : ℕ) (d : Deed) → SplitsUnder c id d → IsNoSplit d → ⊥
is_under c id (Begins c') e none = absurd e
is_under c id (Leaves c') e none = absurd e
is_under c id (OpensFlow n b) e none = absurd e
is_under c id (ActsOn n act) e none = absurd e
is_under c id (MakesFlow n b) e none = absurd e
is_under c id (TakesFrom n x') e none = absurd e
is_under c id (HandsOn n) e none = absurd e
is_under c id (AcksOn n pairs) e none = absurd e
is_under c id (In c' pieces') e none = absurd e
is_under c id (Out c' pieces') e none = absurd e
is_under c id (Splits c' id' size' packet') e none = none

-- kept by all deeds
pub split_kept : (who : ℕ) (deeds : List Deed) (c : Context) (id size : ℕ) (packet : List ℕ)
    (h : History) → WasSplit c id size packet h → WasSplit c id size packet (onto who deeds h)
split_kept who [] c id size packet h w = w
split_kept who (d ∷ deeds) c id size packet h w =
    split_kept who deeds c id size packet (record { who = who; deed = d } ∷ h) (inr w)

pub split_by_kept : (who end : ℕ) (deeds : List Deed) (c : Context) (id : ℕ) (h : History) →
    WasSplitBy end c id h → WasSplitBy end c id (onto who deeds h)
split_by_kept who end [] c id h w = w
split_by_kept who end (d ∷ deeds) c id h w =
    split_by_kept who end deeds c id (record { who = who; deed = d } ∷ h) (inr w)

-- and so before deeds that split nothing
step_no_split : (c : Context) (id size : ℕ) (packet : List ℕ) (d : Done) (h : History) →
    IsNoSplit d.deed → WasSplit c id size packet (d ∷ h) → WasSplit c id size packet h
step_no_split c id size packet d h none (inl e) =
    absurd (no_split_as c id size packet d.deed none e)
step_no_split c id size packet d h none (inr w) = w

pub split_before : (who : ℕ) (deeds : List Deed) (c : Context) (id size : ℕ) (packet : List ℕ)
    (h : History) → HaveNoSplit deeds → WasSplit c id size packet (onto who deeds h) →
    WasSplit c id size packet h
split_before who [] c id size packet h none w = w
split_before who (d ∷ deeds) c id size packet h none w =
    let one : Done = record { who = who; deed = d } in
    step_no_split c id size packet one h none.0
    (split_before who deeds c id size packet (one ∷ h) none.1 w)

step_not_by : (end : ℕ) (c : Context) (id : ℕ) (d : Done) (h : History) → IsNoSplit d.deed →
    WasSplitBy end c id (d ∷ h) → WasSplitBy end c id h
step_not_by end c id d h none (inl e) = absurd (is_under c id d.deed e.1 none)
step_not_by end c id d h none (inr w) = w

pub split_by_before : (who end : ℕ) (deeds : List Deed) (c : Context) (id : ℕ) (h : History) →
    HaveNoSplit deeds → WasSplitBy end c id (onto who deeds h) → WasSplitBy end c id h
split_by_before who end [] c id h none w = w
split_by_before who end (d ∷ deeds) c id h none w =
    let one : Done = record { who = who; deed = d } in
    step_not_by end c id one h none.0 (split_by_before who end deeds c id (one ∷ h) none.1 w)
