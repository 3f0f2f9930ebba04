-- Which datagram a line loses, and that the end which sent it is there.
use Rattle.std.proofs.Common.{◌≡◌, ℕ, ◌+◌, ◌-◌, ◌<◌, ◌≤◌, ◌==◌, Bool, true, false, if◌then◌else◌, List, [], ◌∷◌, ◌++◌, length, Option, Some, None, inl, inr, refl, sym, ap, ◌∙◌, subst, arith}
use Rattle.std.specs.List.{AllByRecursion}
use Rattle.std.proofs.lemmas.List.{length-append}
use Rattle.rtmfp_forms.specs.Address.{AddressParts}
use Rattle.rtmfp_text.specs.declared.names.Named.{Named}
use Rattle.rtmfp_script.specs.declared.line.ScriptLine.{ScriptLine}
use Rattle.rtmfp_script.specs.declared.line.ScriptLine.TheVariants as says
use Rattle.rtmfp_script.specs.Grammar.{IsLineOf, IsSkipped}
use Rattle.endpoint_model.specs.declared.entry.Entry.{Entry}
use Rattle.endpoint_model.specs.Views.{Sending, out_in}
use Rattle.translators.specs.Translator.{new_translator}
use Rattle.end_places.specs.declared.carried.Carried.{Carried}
use Rattle.end_places.specs.declared.carried.Carried.TheVariants.{Arrives, Lost as IsLost}
use Rattle.end_places.specs.Carrying.{carried_of, after_carry}
use Rattle.end_places.specs.Seen.{PlacesSeen, is_bad_place, is_bad_translator, with_place, with_translator}
use Rattle.rendezvous_world.specs.declared.journal.JournalLine.{JournalLine}
use Rattle.rendezvous_world.specs.declared.step.Step.{Step}
use Rattle.rendezvous_world.specs.declared.step.StepFault.{StepFault}
use Rattle.rendezvous_world.specs.declared.step.StepFault.TheVariants.{BadStep, NoEnd}
use Rattle.rendezvous_world.specs.Datagrams.{nth}
use Rattle.rendezvous_world.specs.Faults.{is_missing}
use Rattle.rendezvous_world.specs.Seen.{Seen}
use Rattle.rendezvous_world.specs.Sent.{Sent, sent_among, sent_in, with_sent}
use Rattle.placed_world.specs.declared.step.PlacedStep.{PlacedStep}
use Rattle.placed_world.specs.declared.step.PlacedStep.TheVariants.{Translator, Place, Carry, World}
use Rattle.placed_world.specs.declared.step.LostLine.{LostLine}
use Rattle.placed_world.specs.Seen.{PlacedSeen}
use Rattle.placed_world.specs.Stepping.{Outcome, Refuses, Changes, Loses, carried_to, carry_by, comes_to}
use Rattle.rtmfp_play.specs.Play.{aim_step, behind_said, bring_step, call_step, names_of, number_of, place_by, placed_said, step_by, step_by_both}
use Rattle.rtmfp_play.specs.Laws.{Adds, IsLostOn, LosesNone}
use Rattle.rtmfp_play.proofs.OneText.{not_both, one_said, same_some}
use Rattle.rtmfp_play.proofs.Placing.{AreSamePlaced, comes_same}

-- ---- what comes to a loss

-- the datagram with this number, of its sender
pub record IsOfSent (o : Option Sent) (number : ℕ) (told : LostLine) : Type 0 where
  pub which : told.number ≡ number
  pub sent : Sent
  pub is_sent : o ≡ Some sent
  pub by : told.end ≡ sent.by

carried_lost : (number : ℕ) (sent : Sent) (left places : PlacesSeen) (o : Option Carried) (told : LostLine) → carried_to number sent.by left o ≡ Loses places told → IsOfSent (Some sent) number told
carried_lost number sent left places None told e = absurd (cc)
carried_lost number sent left places (Some (IsLost lost)) told e =
    let same : told ≡ record { end = sent.by; number = number; lost = lost } = cc in
    record { which = ap (λ (l : LostLine). l.number) same; sent = sent; is_sent = refl; by = ap (λ (l : LostLine). l.end) same }
carried_lost number sent left places (Some (Arrives end from)) told e = absurd (cc)

carry_lost : (p : PlacesSeen) (number : ℕ) (o : Option Sent) (places : PlacesSeen) (told : LostLine) → carry_by p number o ≡ Loses places told → IsOfSent o number told
carry_lost p number None places told e = absurd (cc)
carry_lost p number (Some sent) places told e = carried_lost number sent (after_carry p sent.by sent.to) places (carried_of p sent.by sent.to) told e

-- what is refused, or else comes to another thing, loses nothing
refused_or : (b : Bool) (fault : StepFault) (o : Outcome) (places : PlacesSeen) (told : LostLine) → (o ≡ Loses places told → ⊥) → (if b then Refuses fault else o) ≡ Loses places told → ⊥
refused_or true fault o places told other e = cc
refused_or false fault o places told other e = other e

changes_lose_none : (new places : PlacesSeen) (told : LostLine) → Changes new ≡ Loses places told → ⊥
changes_lose_none new places told e = cc

-- a carry alone loses a datagram, the one with its number
only_carry : (w : PlacedSeen) (step : PlacedStep) (places : PlacesSeen) (told : LostLine) → comes_to w step ≡ Loses places told → step ≡ Carry told.number
only_carry w (Translator name mapping filter host first) places told e =
    let new : PlacesSeen = with_translator w.places name (new_translator mapping filter host first) in
    absurd (refused_or (is_bad_translator w.places name host first) BadStep (Changes new) places told (changes_lose_none new places told) e)
only_carry w (Place end at behind) places told e =
    let new : PlacesSeen = with_place w.places end at behind in
    let bad : Bool = is_bad_place w.places end at behind in
    absurd (refused_or (is_missing w.world end) NoEnd (if bad then Refuses BadStep else Changes new) places told
    (refused_or bad BadStep (Changes new) places told (changes_lose_none new places told)) e)
only_carry w (Carry number) places told e =
    let that : IsOfSent (nth (sent_in w.world.lines) number) number told = carry_lost w.places number (nth (sent_in w.world.lines) number) places told e in
    ap Carry (sym that.which)
only_carry w (World step) places told e = absurd (cc)

-- ---- the line that says it

by_one : (o : Option ℕ) (step : ℕ → Step) (number : ℕ) → step_by o step ≡ Some (Carry number) → ⊥
by_one None step number e = cc
by_one (Some end) step number e = cc

by_both : (o p : Option ℕ) (step : ℕ → ℕ → Step) (number : ℕ) → step_by_both o p step ≡ Some (Carry number) → ⊥
by_both None p step number e = cc
by_both (Some end) None step number e = cc
by_both (Some end) (Some peer) step number e = cc

by_place : (o : Option ℕ) (at : AddressParts) (behind : Option (Option ℕ)) (number : ℕ) → place_by o at behind ≡ Some (Carry number) → ⊥
by_place None at behind number e = cc
by_place (Some end) at None number e = cc
by_place (Some end) at (Some behind) number e = cc

only_line : (w : PlacedSeen) (said : ScriptLine) (number : ℕ) → placed_said w said ≡ Some (Carry number) → said ≡ says.Carry number
only_line w (says.End name peers sessions cert) number e = absurd (cc)
only_line w (says.At moment) number e = absurd (cc)
only_line w (says.Call name does) number e = absurd (by_one (number_of (names_of w.world) name) (λ end. call_step end does) number e)
only_line w (says.Towards name peer addresses does) number e =
    absurd (by_both (number_of (names_of w.world) name) (number_of (names_of w.world) peer) (λ end other. aim_step end other addresses does) number e)
only_line w (says.Bring name from what) number e = absurd (by_one (number_of (names_of w.world) name) (λ end. bring_step end from what) number e)
only_line w (says.Translator name mapping filter host first) number e = absurd (cc)
only_line w (says.Place name at behind) number e = absurd (by_place (number_of (names_of w.world) name) at (behind_said w.places.translators behind) number e)
only_line w (says.Carry other) number e =
    let same : ◌≡◌ {A = PlacedStep} (Carry other) (Carry number) = same_some (Carry other) (Carry number) e in
    let number_is : other ≡ number = cc in
    ap says.Carry number_is

-- ---- a line that loses a datagram

-- what a line says comes to the loss that stands on it
says_loss : (w : PlacedSeen) (line : List ℕ) (said : ScriptLine) (step : PlacedStep) (told : LostLine) → IsLineOf line said → placed_said w said ≡ Some step → (is : IsLostOn w line told) → comes_to w step ≡ Loses is.places told
says_loss w line said step told is_line is_step is =
    let same : said ≡ says.Carry told.number = one_said line said (says.Carry told.number) is_line is.is_line in
    let carry : step ≡ Carry told.number = same_some step (Carry told.number) (sym is_step ∙ ap (λ (x : ScriptLine). placed_said w x) same) in
    ap (λ (x : PlacedStep). comes_to w x) carry ∙ is.comes

-- and a loss that it comes to stands on it
loss_said : (w : PlacedSeen) (line : List ℕ) (said : ScriptLine) (step : PlacedStep) (places : PlacesSeen) (told : LostLine) → IsLineOf line said → placed_said w said ≡ Some step → comes_to w step ≡ Loses places told → IsLostOn w line told
loss_said w line said step places told is_line is_step e =
    let carry : step ≡ Carry told.number = only_carry w step places told e in
    let same : said ≡ says.Carry told.number = only_line w said told.number (is_step ∙ ap (λ (x : PlacedStep). Some x) carry) in
    record {
      is_line = subst (λ (x : ScriptLine). IsLineOf line x) same is_line;
      places = places;
      comes = sym (ap (λ (x : PlacedStep). comes_to w x) carry) ∙ e;
    }

-- A line that comes to this loses a datagram where that is a loss, and only there.
pub record ComesTo (w : PlacedSeen) (line : List ℕ) (o : Outcome) : Type 0 where
  pub where_lost : (told : LostLine) (is : IsLostOn w line told) → o ≡ Loses is.places told
  pub is_lost : (places : PlacesSeen) (told : LostLine) → o ≡ Loses places told → IsLostOn w line told

pub line_comes : (w : PlacedSeen) (line : List ℕ) (said : ScriptLine) (step : PlacedStep) → IsLineOf line said → placed_said w said ≡ Some step → ComesTo w line (comes_to w step)
line_comes w line said step is_line is_step = record {
  where_lost = λ told is. says_loss w line said step told is_line is_step is;
  is_lost = λ places told e. loss_said w line said step places told is_line is_step e;
}

pub skipped_none : (w : PlacedSeen) (line : List ℕ) → IsSkipped line → LosesNone w line
skipped_none w line skipped told is = not_both line (says.Carry told.number) skipped is.is_line

-- it loses one at most
pub one_loss : (w : PlacedSeen) (line : List ℕ) (a b : LostLine) → IsLostOn w line a → IsLostOn w line b → a ≡ b
one_loss w line a b is_a is_b =
    let that : comes_to w (Carry a.number) ≡ Loses is_b.places b = says_loss w line (says.Carry a.number) (Carry a.number) b is_a.is_line refl is_b in
    let same : Loses is_a.places a ≡ Loses is_b.places b = sym is_a.comes ∙ that in
    cc

-- and the same one in worlds that are the same
pub same_loss : (w v : PlacedSeen) (line : List ℕ) (told : LostLine) → AreSamePlaced w v → IsLostOn v line told → IsLostOn w line told
same_loss w v line told same is = record {
  is_line = is.is_line;
  places = is.places;
  comes = comes_same w v (Carry told.number) same ∙ is.comes;
}

-- ---- its sender is there

-- the senders are below this number
abbrev AreBy : ℕ → List Sent → Type 0
AreBy count xs = AllByRecursion (λ (s : Sent). s.by < count) xs

with_by : (by count : ℕ) (o : Option Sending) (mid later : List Sent) → by < count → AreBy count (mid ++ later) → AreBy count (with_sent by o mid ++ later)
with_by by count None mid later lt all = all
with_by by count (Some out) mid later lt all = (lt, all)

among_by : (by count : ℕ) (entries : List Entry) (later : List Sent) → by < count → AreBy count later → AreBy count (sent_among by entries ++ later)
among_by by count [] later lt all = all
among_by by count (entry ∷ rest) later lt all = with_by by count (out_in entry) (sent_among by rest) later lt (among_by by count rest later lt all)

-- the ends that lines of a journal call are below this number
abbrev pub AreOf : ℕ → List JournalLine → Type 0
AreOf count lines = AllByRecursion (λ (l : JournalLine). l.end < count) lines

sent_by : (count : ℕ) (lines : List JournalLine) → AreOf count lines → AreBy count (sent_in lines)
sent_by count [] all = tt
sent_by count (line ∷ lines) all = among_by line.end count line.out.entries (sent_in lines) all.0 (sent_by count lines all.1)

by_step : (count : ℕ) (a b : Bool) (x sent : Sent) (o : Option Sent) → (if a then None else if b then Some x else o) ≡ Some sent → x.by < count → (o ≡ Some sent → sent.by < count) → sent.by < count
by_step count true b x sent o e lt more = absurd (cc)
by_step count false true x sent o e lt more = let same : x ≡ sent = cc in subst (λ (s : Sent). s.by < count) same lt
by_step count false false x sent o e lt more = more e

nth_by : (count : ℕ) (xs : List Sent) (number : ℕ) (sent : Sent) → AreBy count xs → nth xs number ≡ Some sent → sent.by < count
nth_by count [] number sent all e = absurd (cc)
nth_by count (x ∷ xs) number sent all e = by_step count (number == 0) (number == 1) x sent (nth xs (number - 1)) e all.0 (λ f. nth_by count xs (number - 1) sent all.1 f)

pub lost_below : (w : PlacedSeen) (line : List ℕ) (told : LostLine) (count : ℕ) → IsLostOn w line told → AreOf count w.world.lines → told.end < count
lost_below w line told count is all =
    let found : Option Sent = nth (sent_in w.world.lines) told.number in
    let that : IsOfSent found told.number told = carry_lost w.places told.number found is.places told is.comes in
    let below : that.sent.by < count = nth_by count (sent_in w.world.lines) told.number that.sent (sent_by count w.world.lines all) that.is_sent in
    subst (λ (k : ℕ). k < count) (sym that.by) below

-- ---- the ends that a journal calls are there

of_more : (less more : ℕ) (lines : List JournalLine) → less ≤ more → AreOf less lines → AreOf more lines
of_more less more [] le all = tt
of_more less more (line ∷ lines) le all = (let lt : line.end < less = all.0 in omega arith, of_more less more lines le all.1)

of_push : (count : ℕ) (lines : List JournalLine) (line : JournalLine) → AreOf count lines → line.end < count → AreOf count (lines ++ line ∷ [])
of_push count [] line all lt = (lt, tt)
of_push count (x ∷ lines) line all lt = (all.0, of_push count lines line all.1 lt)

abbrev pub AreThere : Seen → Type 0
AreThere w = AreOf (length (names_of w)) w.lines

pub adds_there : (w : PlacedSeen) (n : ℕ) (line : List ℕ) (t : PlacedSeen) (text : List ℕ) → Adds w n line t text → AreThere w.world → AreThere t.world
adds_there w n line t text adds all =
    let grown : length (names_of t.world) ≡ length (names_of w.world) + length adds.ends = ap (λ (l : List Named). length l) adds.names ∙ length-append (names_of w.world) adds.ends in
    let kept : AreOf (length (names_of t.world)) w.world.lines = of_more (length (names_of w.world)) (length (names_of t.world)) w.world.lines (omega (arith, grown)) all in
    let P : List JournalLine → Type 0 = λ l. AreOf (length (names_of t.world)) l in
    elim adds.lines [
      | inl none ↦ subst P (sym none.lines) kept
      | inr some ↦ (elim some [
        | inl one ↦ subst P (sym one.lines) (of_push (length (names_of t.world)) w.world.lines one.added kept one.there)
        | inr loss ↦ subst P (sym loss.lines) kept
      ])
    ]
