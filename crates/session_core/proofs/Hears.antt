-- What a session hears, by the whole list of the numbers that it took, and what opens in it.
use Rattle.std.proofs.Common.{◌≡◌, ◌↔◌, ℕ, List, Bool, true, false, ◌&&◌, if◌then◌else◌, length, take, drop, replicate, Option, Some, None, refl, sym, ap, ◌∙◌, arith, length-take, length-drop}
use Rattle.std.specs.Bool.{IsTrue}
use Rattle.std.specs.Option.{is_none}
use Rattle.std.proofs.lemmas.Slice.Eq.{bytes_eq-Decides}
use Rattle.crypto_profile.specs.declared.sealing.SealFault.{SealFault}
use Rattle.crypto_profile.specs.Keys.{Keys}
use Rattle.crypto_profile.specs.Window.{window_answer, window_after, window_of}
use Rattle.crypto_profile.specs.Taken.{answer, taken_after}
use Rattle.crypto_profile.specs.Opening.{open_refusal, plain_of}
use Rattle.crypto_profile.specs.Sealing.{number_of}
use Rattle.crypto_profile.proofs.WindowLaws.{window_stands}
use Rattle.crypto_profile.proofs.Opened.{opened_was_sealed, sealed_opens}
use Rattle.session_core.specs.Session.{SessionState}
use Rattle.session_core.specs.Hearing.{answered, count_of, HearsByTaken, is_new, is_session_number, opens_in, OpensBy, OpensSomePlain, OpensThisPlain, unheard_by}

window_hearing : (b : Bool) (s : SessionState) (taken : List ℕ) (n : ℕ) → window_after s.window n ≡ window_of (taken_after taken n) → s.window ≡ window_of taken
    → (if b then (record s { window = window_after s.window n }) else s).window ≡ window_of (if b then taken_after taken n else taken)
window_hearing true s taken n after now = after
window_hearing false s taken n after now = now

pub hears_by_taken : HearsByTaken
hears_by_taken s taken part e =
    let n : ℕ = count_of part in
    let answers : window_answer s.window n ≡ answer taken n = ap (λ w. window_answer w n) e ∙ (window_stands taken n).0 in
    let after : window_after s.window n ≡ window_of (taken_after taken n) = ap (λ w. window_after w n) e ∙ (window_stands taken n).1 in (
      ap (λ r. answered (unheard_by (opens_in s part) (is_new r) part) part) answers,
      window_hearing (opens_in s part) s taken n after e,
    )

-- ---- opening

both_true : (refusal : Option SealFault) (zeros : Bool) → (is_none refusal && zeros) ≡ true → (refusal ≡ None) × (zeros ≡ true)
both_true None true h = (refl, refl)
both_true None false h = absurd (cc)
both_true (Some why) zeros h = absurd (cc)

true_both : (refusal : Option SealFault) (zeros : Bool) → refusal ≡ None → zeros ≡ true → (is_none refusal && zeros) ≡ true
true_both refusal zeros p q = ap (λ r. is_none r && zeros) p ∙ q

-- what was sealed by these keys opens by them, and gives this plain packet
by_its_tag : (keys : Keys) (sid : ℕ) (part plain : List ℕ) → OpensBy keys sid part plain → (open_refusal keys sid part ≡ None) × (plain ≡ plain_of keys part)
by_its_tag keys sid part plain opens =
    let size : length (number_of part) ≡ 16 = omega (arith, opens.0, length-take 16 (drop 16 part), length-drop 16 part) in
    let told = sealed_opens keys sid (number_of part) plain size in (
      ap (open_refusal keys sid) opens.1 ∙ told.0,
      sym (ap (plain_of keys) opens.1 ∙ told.1),
    )

pub opens_some_plain : OpensSomePlain
opens_some_plain s part =
    let number : List ℕ = number_of part in
    let refusal : Option SealFault = open_refusal s.inward s.joined.near part in
    let zeros = bytes_eq-Decides (take 8 number) (replicate 8 0) in (
      (λ h.
          let test = both_true refusal (is_session_number number) h in
          let was = opened_was_sealed s.inward s.joined.near part test.0 in
          (plain_of s.inward part, (was.0, was.1, zeros.0 test.1))),
      (λ found. true_both refusal (is_session_number number) (by_its_tag s.inward s.joined.near part found.0 found.1).0 (zeros.1 found.1.2)),
    )

pub opens_this_plain : OpensThisPlain
opens_this_plain s part plain opens = (by_its_tag s.inward s.joined.near part plain opens).1

-- an answer that is the test says exactly that
pub opens_exactly : (s : SessionState) (part : List ℕ) (answer : Bool) → answer ≡ opens_in s part
    → IsTrue answer ↔ ((plain : List ℕ) × OpensBy s.inward s.joined.near part plain)
opens_exactly s part answer e =
    ((λ h. (opens_some_plain s part).0 (sym e ∙ h)), (λ found. e ∙ (opens_some_plain s part).1 found))
