-- What went out, with one more event.
use Rattle.std.proofs.Common.{ℕ, List, [], ◌∷◌, ◌≡◌, ◌⊎◌, inl, inr, refl, sym, ap, Bool, true, false, cond, ◌||◌, Option, Some, None, ◌∙◌}
use Rattle.rtmfp_forms.specs.Address.{AddressParts}
use Rattle.crypto_profile.specs.declared.keys.Context.{Context}
use Rattle.endpoint_model.specs.declared.entry.Entry.{Entry}
use Rattle.endpoint_model.specs.declared.entry.Entry.TheVariants.{Out}
use Rattle.endpoint_model.specs.Views.{Sending, out_in}
use Rattle.endpoint_model.specs.Event.{Event}
use Rattle.endpoint_laws.specs.History.{History, IsOut, HasOut}
use Rattle.log_sent.specs.Pieces.{Sealed, is_same_sealed, has_sealed, HasOneMore}
use Rattle.log_sent.specs.Same.{same_decides}
use Rattle.log_sent.specs.Sent.{is_sent_by, is_sent_among, HasWhatGoesOut, IsSentOf}

-- What the rest sends and what is there already is what all of them send and what was there before.
pub record IsToCome (rest : List Entry) (now : List Sealed) (entries : List Entry) (old : List Sealed) : Type 0 where
  pub has : (q : Sealed) → (is_sent_among rest q || has_sealed now q) ≡ (is_sent_among entries q || has_sealed old q)

pub none_to_come : (rest entries : List Entry) (now old : List Sealed) → rest ≡ [] → IsToCome rest now entries old → HasWhatGoesOut entries old now
none_to_come rest entries now old none is = record { has = λ q. ap (λ (es : List Entry). is_sent_among es q || has_sealed now q) (sym none) ∙ is.has q }

moved : (s a b : Bool) → (a || cond s true b) ≡ ((s || a) || b)
moved true true b = refl
moved true false b = refl
moved false a b = refl

-- an entry that sends something, which is put in
pub sends_one : (rest more entries : List Entry) (entry : Entry) (to : AddressParts) (datagram : List ℕ) (context : Context) (now new old : List Sealed) → rest ≡ entry ∷ more → entry ≡ Out to datagram context →
    HasOneMore (record { datagram = datagram; context = context }) now new → IsToCome rest now entries old → IsToCome more new entries old
sends_one rest more entries entry to datagram context now new old parts out one is = record {
  has = λ q.
      let s : Sealed = record { datagram = datagram; context = context } in
      ap (λ (b : Bool). is_sent_among more q || b) (one.has q)
      ∙ moved (is_same_sealed s q) (is_sent_among more q) (has_sealed now q)
      ∙ ap (λ (e : Entry). (is_sent_by q (out_in e) || is_sent_among more q) || has_sealed now q) (sym out)
      ∙ ap (λ (es : List Entry). is_sent_among es q || has_sealed now q) (sym parts) ∙ is.has q;
}

-- ---- the same of what the definitions say

either : (a b : Bool) → (a || b) ≡ true → (a ≡ true) ⊎ (b ≡ true)
either true b e = inl refl
either false b e = inr e

first_holds : (a b : Bool) → a ≡ true → (a || b) ≡ true
first_holds true b e = refl
first_holds false b e = absurd cc

second_holds : (a b : Bool) → b ≡ true → (a || b) ≡ true
second_holds true b e = refl
second_holds false b e = e

is_out : (datagram : List ℕ) (context : Context) (o : Option Sending) → is_sent_by (record { datagram = datagram; context = context }) o ≡ true → IsOut datagram context o
is_out datagram context None e = absurd cc
is_out datagram context (Some out) e =
    let same = (same_decides (record { datagram = out.datagram; context = out.context }) (record { datagram = datagram; context = context })).0 e in
    (ap (λ (s : Sealed). s.datagram) same, ap (λ (s : Sealed). s.context) same)

out_is : (datagram : List ℕ) (context : Context) (o : Option Sending) → IsOut datagram context o → is_sent_by (record { datagram = datagram; context = context }) o ≡ true
out_is datagram context None w = absurd w
out_is datagram context (Some out) w =
    (same_decides (record { datagram = out.datagram; context = out.context }) (record { datagram = datagram; context = context })).1 (λ i. record { datagram = w.0 i; context = w.1 i })

has_out : (datagram : List ℕ) (context : Context) (entries : List Entry) → is_sent_among entries (record { datagram = datagram; context = context }) ≡ true → HasOut datagram context entries
has_out datagram context [] e = absurd cc
has_out datagram context (entry ∷ rest) e =
    elim (either (is_sent_by (record { datagram = datagram; context = context }) (out_in entry)) (is_sent_among rest (record { datagram = datagram; context = context })) e) [
      | inl here ↦ inl (is_out datagram context (out_in entry) here)
      | inr later ↦ inr (has_out datagram context rest later)
    ]

out_among : (datagram : List ℕ) (context : Context) (entries : List Entry) → HasOut datagram context entries → is_sent_among entries (record { datagram = datagram; context = context }) ≡ true
out_among datagram context [] w = absurd w
out_among datagram context (entry ∷ rest) (inl here) =
    first_holds (is_sent_by (record { datagram = datagram; context = context }) (out_in entry)) (is_sent_among rest (record { datagram = datagram; context = context })) (out_is datagram context (out_in entry) here)
out_among datagram context (entry ∷ rest) (inr later) =
    second_holds (is_sent_by (record { datagram = datagram; context = context }) (out_in entry)) (is_sent_among rest (record { datagram = datagram; context = context })) (out_among datagram context rest later)

pub none_sent : (sent : List Sealed) → sent ≡ [] → IsSentOf [] sent
none_sent sent none = record {
  there = λ datagram context w. absurd w;
  is = λ datagram context e. absurd (let clash : false ≡ true = ap (λ (all : List Sealed). has_sealed all (record { datagram = datagram; context = context })) (sym none) ∙ e in cc);
}

pub one_more_event : (who : ℕ) (e : Event) (history : History) (old new : List Sealed) → IsSentOf history old → HasWhatGoesOut e.entries old new → IsSentOf (record { who = who; event = e } ∷ history) new
one_more_event who e history old new is more = record {
  there = λ datagram context w.
      let q : Sealed = record { datagram = datagram; context = context } in
      more.has q ∙ elim w [
        | inl now ↦ first_holds (is_sent_among e.entries q) (has_sealed old q) (out_among datagram context e.entries now)
        | inr before ↦ second_holds (is_sent_among e.entries q) (has_sealed old q) (is.there datagram context before)
      ];
  is = λ datagram context f.
      let q : Sealed = record { datagram = datagram; context = context } in
      elim (either (is_sent_among e.entries q) (has_sealed old q) (sym (more.has q) ∙ f)) [
        | inl now ↦ inl (has_out datagram context e.entries now)
        | inr before ↦ inr (is.is datagram context before)
      ];
}
