-- A step that is refused as forged would break that the history is honest.
use Rattle.std.proofs.Common.{◌≡◌, ℕ, List, [], ◌∷◌, ◌++◌, slice_get, Bool, true, false, not, ◌&&◌, ◌||◌, Option, Some, None, inl, inr, ◌⊎◌, refl, sym, ap, ◌∙◌, subst}
use Rattle.std.specs.Str.{bytes_eq}
use Rattle.std.specs.List.{list_any}
use Rattle.std.proofs.lemmas.Slice.Eq.{bytes_eq-Decides}
use Rattle.crypto_profile.specs.declared.keys.Context.{Context}
use Rattle.crypto_profile.specs.declared.keys.Context.TheVariants.{Startup}
use Rattle.crypto_profile.specs.Keys.{same_context}
use Rattle.crypto_profile.proofs.Contexts.{same_itself}
use Rattle.endpoint_model.specs.declared.entry.Entry.{Entry}
use Rattle.endpoint_model.specs.Views.{Sending, out_in}
use Rattle.endpoint_model.specs.declared.config.Draws.{Draws}
use Rattle.rtmfp_forms.specs.Address.{AddressParts}
use Rattle.endpoint_model.specs.Event.{Setup, Receive}
use Rattle.endpoint_laws.specs.History.{History, IsOut, HasOut, WasSent, IsHonestCall, past_at, log_of}
use Rattle.endpoint_laws.specs.OpensIn.{opens_in, OpensAt}
use Rattle.endpoint_laws.proofs.Opened.{opens_in_told}
use Rattle.rendezvous_world.specs.declared.journal.JournalLine.{JournalLine}
use Rattle.rendezvous_world.specs.Seen.{group_secrets, EndSeen, Seen, setup_at}
use Rattle.rendezvous_world.specs.Sent.{Sent, sent_among, sent_from, sent_in, with_sent}
use Rattle.rendezvous_world.specs.History.{happened, after_lines, history_of}
use Rattle.rendezvous_world.specs.Faults.{is_sent, is_unsent_in}
use Rattle.rendezvous_world.specs.Sound.{StandsUpTo}
use Rattle.rendezvous_world.specs.Kept.{IsWorld}
use Rattle.rendezvous_world.proofs.Ends.{setup_is}
use Rattle.rendezvous_world.proofs.Forging.{forged_there}
use Rattle.rendezvous_world.specs.Laws.{EveryForgedDatagramIsDishonest}
use Rattle.rendezvous_world.proofs.Noting.{opens_noted}

same_list : (x : List ℕ) → bytes_eq x x ≡ true
same_list x = (bytes_eq-Decides x x).1 refl

module _ (bytes : List ℕ) (context : Context) where
  sent_itself : (by : ℕ) (out : Sending) → IsOut bytes context (Some out) → is_sent bytes context (sent_from by out) ≡ true
  sent_itself by out (e, f) =
      ap (λ (x : List ℕ). bytes_eq x bytes && same_context out.context context) e
      ∙ ap (λ (c : Context). bytes_eq bytes bytes && same_context c context) f
      ∙ ap (λ (b : Bool). b && same_context context context) (same_list bytes) ∙ same_itself context

  or_first : (a b : Bool) → a ≡ true → (a || b) ≡ true
  or_first a b e = cc

  or_second : (a b : Bool) → b ≡ true → (a || b) ≡ true
  or_second true b e = refl
  or_second false b e = e

  -- an entry that is this datagram
  sent_here : (by : ℕ) (o : Option Sending) (later rest : List Sent) → IsOut bytes context o → list_any (is_sent bytes context) (with_sent by o later ++ rest) ≡ true
  sent_here by None later rest h = absurd h
  sent_here by (Some out) later rest h =
      or_first (is_sent bytes context (sent_from by out)) (list_any (is_sent bytes context) (later ++ rest)) (sent_itself by out h)

  -- an entry before it
  sent_later : (by : ℕ) (o : Option Sending) (later rest : List Sent) → list_any (is_sent bytes context) (later ++ rest) ≡ true → list_any (is_sent bytes context) (with_sent by o later ++ rest) ≡ true
  sent_later by None later rest e = e
  sent_later by (Some out) later rest e =
      or_second (is_sent bytes context (sent_from by out)) (list_any (is_sent bytes context) (later ++ rest)) e

  in_entries : (by : ℕ) (entries : List Entry) (rest : List Sent) → HasOut bytes context entries → list_any (is_sent bytes context) (sent_among by entries ++ rest) ≡ true
  in_entries by [] rest h = absurd h
  in_entries by (entry ∷ entries) rest (inl h) = sent_here by (out_in entry) (sent_among by entries) rest h
  in_entries by (entry ∷ entries) rest (inr h) = sent_later by (out_in entry) (sent_among by entries) rest (in_entries by entries rest h)

  past_entries : (by : ℕ) (entries : List Entry) (rest : List Sent) → list_any (is_sent bytes context) rest ≡ true → list_any (is_sent bytes context) (sent_among by entries ++ rest) ≡ true
  past_entries by [] rest e = e
  past_entries by (entry ∷ entries) rest e = sent_later by (out_in entry) (sent_among by entries) rest (past_entries by entries rest e)

  in_lines : (ends : List EndSeen) (lines : List JournalLine) (earlier : History) → WasSent bytes context (after_lines ends lines earlier) → WasSent bytes context earlier ⊎ (list_any (is_sent bytes context) (sent_in lines) ≡ true)
  in_lines ends [] earlier h = inl h
  in_lines ends (line ∷ lines) earlier h = elim (in_lines ends lines (happened ends line ∷ earlier) h) [
    | inl early ↦ (elim early [
      | inl here ↦ inr (in_entries line.end line.out.entries (sent_in lines) here)
      | inr before ↦ inl before
    ])
    | inr later ↦ inr (past_entries line.end line.out.entries (sent_in lines) later)
  ]

  not_true : (b : Bool) → not b ≡ true → b ≡ true → ⊥
  not_true true e f = absurd (cc)
  not_true false e f = absurd (cc)

  unsent_context : (o : Option Context) (sent : List Sent) → is_unsent_in o bytes sent ≡ true → (c : Context) × (o ≡ Some c)
  unsent_context None sent e = absurd (cc)
  unsent_context (Some c) sent e = (c, refl)

module _ (w : Seen) (is : IsWorld w) where
  -- The datagram opens at the end, and none with its bytes was sent in that context: a history in which it comes next isn't honest.
  pub dishonest : (who : ℕ) (end : EndSeen) (bytes : List ℕ) (from : AddressParts) (draws : Draws) → slice_get w.ends who ≡ Some end →
      is_unsent_in (opens_in end.state bytes) bytes (sent_in w.lines) ≡ true →
      IsHonestCall group_secrets (setup_at w.ends who) (past_at who (history_of w)) (history_of w) (Receive from bytes draws) → ⊥
  dishonest who end bytes from draws there unsent honest =
      let stands : StandsUpTo w.moment end.setup (log_of who (history_of w)) end.state = is.stand who end there in
      let found = unsent_context bytes (Startup 0) (opens_in end.state bytes) (sent_in w.lines) unsent in
      let opens : opens_in stands.told bytes ≡ Some found.0 = sym (opens_noted end.state stands.told stands.noted bytes stands.state) ∙ found.1 in
      let at : OpensAt group_secrets end.setup (past_at who (history_of w)) bytes found.0 =
      opens_in_told group_secrets end.setup (log_of who (history_of w)) stands.told bytes (is.known who end there) (is.given who end there) (is.calls who) stands.stands found.0 opens in
      let ours : IsHonestCall group_secrets end.setup (past_at who (history_of w)) (history_of w) (Receive from bytes draws) =
      subst (λ (setup : Setup). IsHonestCall group_secrets setup (past_at who (history_of w)) (history_of w) (Receive from bytes draws)) (setup_is w.ends who end there) honest in
      let was : WasSent bytes found.0 (history_of w) = ours at.contexts found.0 at.plain at.named at.opens in
      let none : not (list_any (is_sent bytes found.0) (sent_in w.lines)) ≡ true =
      sym (ap (λ (o : Option Context). is_unsent_in o bytes (sent_in w.lines)) found.1) ∙ unsent in
      elim (in_lines bytes found.0 w.ends w.lines [] was) [
        | inl never ↦ never
        | inr sent ↦ not_true bytes found.0 (list_any (is_sent bytes found.0) (sent_in w.lines)) none sent
      ]

pub every_forged_datagram_is_dishonest : EveryForgedDatagramIsDishonest
every_forged_datagram_is_dishonest w who end bytes from draws is there forged =
    dishonest w is who end bytes from draws there (sym (forged_there w.ends who end bytes (sent_in w.lines) there) ∙ forged)
