-- The history that a journal tells, line by line.
use Rattle.std.proofs.Common.{◌≡◌, ◌≢◌, ℕ, ◌<◌, ◌≤◌, List, [], ◌∷◌, ◌++◌, Bool, if◌then◌else◌, inl, inr, ◌⊎◌, refl, sym, ap, subst, ◌∙◌, arith}
use Rattle.std.specs.List.{AllByRecursion}
use Rattle.endpoint_model.specs.Event.{Setup, own_of, Call, AddRow, Open as OpenCall, Event}
use Rattle.endpoint_laws.specs.Contexts.{Secrets}
use Rattle.endpoint_laws.specs.History.{Happened, History, log_of, past_at, IsHonestCall, IsHonest, TakesPart}
use Rattle.rendezvous_world.specs.declared.journal.JournalLine.{JournalLine}
use Rattle.rendezvous_world.specs.Deed.{Opens, Redirects, Deed, Calls, deed_of}
use Rattle.rendezvous_world.specs.Draws.{two_numbers, draws_of}
use Rattle.rendezvous_world.specs.Seen.{EndSeen, print_at, setup_at}
use Rattle.rendezvous_world.specs.History.{bytes_or_none, peer_of, call_by, given_by, happened, after_lines, moment_given, answer_of}
use Rattle.rendezvous_world.specs.Sound.{AreBelow}
use Rattle.rendezvous_world.specs.Kept.{HasPeerIn, IsLineIn, Rise, HasNumber, IsOfLine}
use Rattle.rendezvous_world.proofs.Ends.{tested}

-- ---- ends that were given the same tell the same

abbrev pub SameSetups : ℕ → List EndSeen → List EndSeen → Type 0
SameSetups count ends later = (who : ℕ) → who < count → setup_at later who ≡ setup_at ends who

module _ (count : ℕ) (ends later : List EndSeen) (same : SameSetups count ends later) where
  same_call : (number generation : ℕ) (bytes : List ℕ) (deed : Deed) → HasPeerIn count deed →
      call_by (given_by (print_at later (peer_of deed)) generation deed) number bytes deed ≡ call_by (given_by (print_at ends (peer_of deed)) generation deed) number bytes deed
  same_call number generation bytes (Calls end (Opens peer list)) has = ap (λ (setup : Setup). OpenCall (own_of setup) list (draws_of number)) (same peer has)
  same_call number generation bytes (Calls end (Redirects peer list)) has = ap (λ (setup : Setup). AddRow (own_of setup) list) (same peer has)
  same_call number generation bytes deed has = refl

  pub same_happened : (line : JournalLine) → IsLineIn count line → happened later line ≡ happened ends line
  same_happened line is =
      ap (λ (call : Call). record {
        who = line.end;
        event = record { moment = moment_given line.moment (deed_of line.step); call = call; answer = answer_of line.step line.refused line.stopped line.out.entries; entries = line.out.entries };
      }) (same_call line.line line.generation (bytes_or_none line.datagram) (deed_of line.step) is.peer)

  pub same_lines : (lines : List JournalLine) (earlier : History) → AllByRecursion (IsLineIn count) lines → after_lines later lines earlier ≡ after_lines ends lines earlier
  same_lines [] earlier are = refl
  same_lines (line ∷ lines) earlier are =
      same_lines lines (happened later line ∷ earlier) are.1 ∙ ap (λ (h : Happened). after_lines ends lines (h ∷ earlier)) (same_happened line are.0)

-- ---- one more line

pub one_more_line : (ends : List EndSeen) (lines : List JournalLine) (line : JournalLine) (earlier : History) →
    after_lines ends (lines ++ line ∷ []) earlier ≡ happened ends line ∷ after_lines ends lines earlier
one_more_line ends [] line earlier = refl
one_more_line ends (first ∷ lines) line earlier = one_more_line ends lines line (happened ends first ∷ earlier)

pub all_more : (P : JournalLine → Type 0) (lines : List JournalLine) (line : JournalLine) → AllByRecursion P lines → P line → AllByRecursion P (lines ++ line ∷ [])
all_more P [] line all here = (here, tt)
all_more P (first ∷ lines) line all here = (all.0, all_more P lines line all.1 here)

pub all_mapped : (P Q : JournalLine → Type 0) (lines : List JournalLine) → ((line : JournalLine) → P line → Q line) → AllByRecursion P lines → AllByRecursion Q lines
all_mapped P Q [] f all = tt
all_mapped P Q (line ∷ lines) f all = (f line all.0, all_mapped P Q lines f all.1)

pub rise_more : (lines : List JournalLine) (line : JournalLine) → Rise lines → AreBelow lines line.line → Rise (lines ++ line ∷ [])
rise_more [] line rise below = (tt, tt)
rise_more (first ∷ lines) line rise below = (all_more (λ (later : JournalLine). first.line < later.line) lines line rise.0 below.0, rise_more lines line rise.1 below.1)

-- lines that are below a number are below the numbers above it
pub below_more : (lines : List JournalLine) (number more : ℕ) → AreBelow lines number → number ≤ more → AreBelow lines more
below_more lines number more below le = all_mapped (λ (line : JournalLine). line.line < number) (λ (line : JournalLine). line.line < more) lines (λ line lt. omega arith) below

number_stays : (lines : List JournalLine) (line : JournalLine) (number : ℕ) → HasNumber number lines → HasNumber number (lines ++ line ∷ [])
number_stays [] line number h = absurd h
number_stays (first ∷ lines) line number (inl is) = inl is
number_stays (first ∷ lines) line number (inr h) = inr (number_stays lines line number h)

number_new : (lines : List JournalLine) (line : JournalLine) → HasNumber line.line (lines ++ line ∷ [])
number_new [] line = inl refl
number_new (first ∷ lines) line = inr (number_new lines line)

pub of_line_stays : (nonce : List ℕ) (lines : List JournalLine) (line : JournalLine) → IsOfLine nonce lines → IsOfLine nonce (lines ++ line ∷ [])
of_line_stays nonce lines line is = record { number = is.number; there = number_stays lines line is.number is.there; is = is.is }

pub of_line_new : (nonce : List ℕ) (lines : List JournalLine) (line : JournalLine) → nonce ≡ two_numbers 0 line.line → IsOfLine nonce (lines ++ line ∷ [])
of_line_new nonce lines line is = record { number = line.line; there = number_new lines line; is = is }

pub number_below : (lines : List JournalLine) (number bound : ℕ) → AreBelow lines bound → HasNumber number lines → number < bound
number_below [] number bound below h = absurd h
number_below (line ∷ lines) number bound below (inl is) = let lt : line.line < bound = below.0 in omega arith
number_below (line ∷ lines) number bound below (inr h) = number_below lines number bound below.1 h

-- ---- who takes part

takes_part : (count : ℕ) (ends : List EndSeen) (lines : List JournalLine) (earlier : History) (who : ℕ) → AllByRecursion (IsLineIn count) lines → TakesPart who (after_lines ends lines earlier) →
    (who < count) ⊎ TakesPart who earlier
takes_part count ends [] earlier who are h = inr h
takes_part count ends (line ∷ lines) earlier who are h = elim (takes_part count ends lines (happened ends line ∷ earlier) who are.1 h) [
  | inl below ↦ inl below
  | inr (inl is) ↦ inl (let lt : line.end < count = are.0.end in omega arith)
  | inr (inr rest) ↦ inr rest
]

-- only an end that is there
pub takes_part_below : (count : ℕ) (ends : List EndSeen) (lines : List JournalLine) (who : ℕ) → AllByRecursion (IsLineIn count) lines → TakesPart who (after_lines ends lines []) → who < count
takes_part_below count ends lines who are h = elim (takes_part count ends lines [] who are h) [ inl below ↦ below | inr none ↦ absurd none ]

-- ---- logs

abbrev log_if : Bool → ℕ → Happened → History → List Event
log_if b who h earlier = if b then log_of who earlier ++ h.event ∷ [] else log_of who earlier

pub log_same : (who : ℕ) (h : Happened) (earlier : History) → h.who ≡ who → log_of who (h ∷ earlier) ≡ log_of who earlier ++ h.event ∷ []
log_same who h earlier is = elim (tested h.who who) [
  | inl hit ↦ ap (λ (b : Bool). log_if b who h earlier) hit.1
  | inr miss ↦ absurd (miss.0 is)
]

pub log_other : (who : ℕ) (h : Happened) (earlier : History) → h.who ≢ who → log_of who (h ∷ earlier) ≡ log_of who earlier
log_other who h earlier other = elim (tested h.who who) [
  | inl hit ↦ absurd (other hit.0)
  | inr miss ↦ ap (λ (b : Bool). log_if b who h earlier) miss.1
]

pub log_absent : (who : ℕ) (history : History) → (TakesPart who history → ⊥) → log_of who history ≡ []
log_absent who [] absent = refl
log_absent who (h ∷ earlier) absent = log_other who h earlier (λ is. absent (inl (sym is))) ∙ log_absent who earlier (λ later. absent (inr later))

-- ---- honest by what its ends were given

pub honest_same : (secrets : Secrets) (f g : ℕ → Setup) (history : History) → ((who : ℕ) → TakesPart who history → g who ≡ f who) → IsHonest secrets f history → IsHonest secrets g history
honest_same secrets f g [] same honest = tt
honest_same secrets f g (h ∷ earlier) same honest = (
  subst (λ (setup : Setup). IsHonestCall secrets setup (past_at h.who earlier) earlier h.event.call) (sym (same h.who (inl refl))) honest.0,
  honest_same secrets f g earlier (λ who later. same who (inr later)) honest.1,
)
