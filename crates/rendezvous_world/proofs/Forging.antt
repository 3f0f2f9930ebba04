-- A datagram that isn't forged was sent, where it opens.
use Rattle.std.proofs.Common.{◌≡◌, ℕ, zero, suc, List, [], ◌∷◌, ◌++◌, slice_get, Bool, true, false, not, ◌&&◌, ◌||◌, Option, Some, None, inl, inr, ◌⊎◌, refl, sym, ap, ◌∙◌}
use Rattle.std.specs.Str.{bytes_eq}
use Rattle.std.specs.List.{list_any}
use Rattle.std.proofs.lemmas.Slice.Eq.{bytes_eq-Decides}
use Rattle.crypto_profile.specs.declared.keys.Context.{Context}
use Rattle.crypto_profile.specs.Keys.{same_context}
use Rattle.crypto_profile.proofs.Contexts.{same_context_is}
use Rattle.endpoint_model.specs.declared.entry.Entry.{Entry}
use Rattle.endpoint_model.specs.Views.{Sending, out_in}
use Rattle.endpoint_laws.specs.History.{History, IsOut, HasOut, WasSent}
use Rattle.endpoint_laws.specs.OpensIn.{opens_in}
use Rattle.rendezvous_world.specs.declared.journal.JournalLine.{JournalLine}
use Rattle.rendezvous_world.specs.Seen.{EndSeen}
use Rattle.rendezvous_world.specs.Sent.{Sent, sent_among, sent_from, sent_in, with_sent}
use Rattle.rendezvous_world.specs.History.{happened, after_lines}
use Rattle.rendezvous_world.specs.Faults.{is_sent, is_unsent_in, is_forged_at}
use Rattle.rendezvous_world.proofs.Ends.{at_suc}

-- ---- what two tests say

and_is : (a b : Bool) → (a && b) ≡ true → (a ≡ true) × (b ≡ true)
and_is true b e = (refl, e)
and_is false b e = absurd (cc)

same_bytes : (x y : List ℕ) → bytes_eq x y ≡ true → x ≡ y
same_bytes x y e = (bytes_eq-Decides x y).0 e

-- ---- among what was sent

module _ (bytes : List ℕ) (context : Context) where
  out_is : (by : ℕ) (out : Sending) → is_sent bytes context (sent_from by out) ≡ true → IsOut bytes context (Some out)
  out_is by out e =
      let both = and_is (bytes_eq out.datagram bytes) (same_context out.context context) e in
      (same_bytes out.datagram bytes both.0, same_context_is out.context context both.1)

  or_either : (a b : Bool) → (a || b) ≡ true → (a ≡ true) ⊎ (b ≡ true)
  or_either true b e = inl refl
  or_either false b e = inr e

  here_or_later : (by : ℕ) (o : Option Sending) (later rest : List Sent) → list_any (is_sent bytes context) (with_sent by o later ++ rest) ≡ true →
      IsOut bytes context o ⊎ (list_any (is_sent bytes context) (later ++ rest) ≡ true)
  here_or_later by None later rest e = inr e
  here_or_later by (Some out) later rest e =
      elim (or_either (is_sent bytes context (sent_from by out)) (list_any (is_sent bytes context) (later ++ rest)) e) [
        | inl here ↦ inl (out_is by out here)
        | inr behind ↦ inr behind
      ]

  among_entries : (by : ℕ) (entries : List Entry) (rest : List Sent) → list_any (is_sent bytes context) (sent_among by entries ++ rest) ≡ true → HasOut bytes context entries ⊎ (list_any (is_sent bytes context) rest ≡ true)
  among_entries by [] rest e = inr e
  among_entries by (entry ∷ entries) rest e =
      elim (here_or_later by (out_in entry) (sent_among by entries) rest e) [
        | inl here ↦ inl (inl here)
        | inr behind ↦ (elim (among_entries by entries rest behind) [ inl h ↦ inl (inr h) | inr h ↦ inr h ])
      ]

  sent_before : (ends : List EndSeen) (lines : List JournalLine) (earlier : History) → WasSent bytes context earlier → WasSent bytes context (after_lines ends lines earlier)
  sent_before ends [] earlier h = h
  sent_before ends (line ∷ lines) earlier h = sent_before ends lines (happened ends line ∷ earlier) (inr h)

  sent_by_lines : (ends : List EndSeen) (lines : List JournalLine) (earlier : History) → list_any (is_sent bytes context) (sent_in lines) ≡ true → WasSent bytes context (after_lines ends lines earlier)
  sent_by_lines ends [] earlier e = absurd (cc)
  sent_by_lines ends (line ∷ lines) earlier e = elim (among_entries line.end line.out.entries (sent_in lines) e) [
    | inl here ↦ sent_before ends lines (happened ends line ∷ earlier) (inl here)
    | inr later ↦ sent_by_lines ends lines (happened ends line ∷ earlier) later
  ]

  not_false : (b : Bool) → not b ≡ false → b ≡ true
  not_false true e = refl
  not_false false e = absurd (cc)

  unsent_not : (o : Option Context) (sent : List Sent) → o ≡ Some context → is_unsent_in o bytes sent ≡ false → list_any (is_sent bytes context) sent ≡ true
  unsent_not o sent is e = not_false (list_any (is_sent bytes context) sent) (sym (ap (λ (x : Option Context). is_unsent_in x bytes sent) is) ∙ e)

-- the test of the end with this number
pub forged_there : (ends : List EndSeen) (who : ℕ) (end : EndSeen) (bytes : List ℕ) (sent : List Sent) → slice_get ends who ≡ Some end → is_forged_at ends who bytes sent ≡ is_unsent_in (opens_in end.state bytes) bytes sent
forged_there [] who end bytes sent e = absurd (cc)
forged_there (x ∷ ends) zero end bytes sent e = let same : x ≡ end = cc in ap (λ (y : EndSeen). is_unsent_in (opens_in y.state bytes) bytes sent) same
forged_there (x ∷ ends) (suc who) end bytes sent e =
    at_suc who (is_unsent_in (opens_in x.state bytes) bytes sent) (λ (n : ℕ). is_forged_at ends n bytes sent) ∙ forged_there ends who end bytes sent e

-- where it opens in a context, it was sent in that context
pub was_sent : (ends all : List EndSeen) (who : ℕ) (end : EndSeen) (bytes : List ℕ) (lines : List JournalLine) (context : Context) → slice_get ends who ≡ Some end →
    is_forged_at ends who bytes (sent_in lines) ≡ false → opens_in end.state bytes ≡ Some context → WasSent bytes context (after_lines all lines [])
was_sent ends all who end bytes lines context there unforged opens =
    sent_by_lines bytes context all lines [] (unsent_not bytes context (opens_in end.state bytes) (sent_in lines) opens (sym (forged_there ends who end bytes (sent_in lines) there) ∙ unforged))
