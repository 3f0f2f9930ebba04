-- Which datagrams went out so far, at all ends of a history.
use Rattle.std.specs.Prelude.{ℕ, List, ◌≡◌, Bool, true, false, ◌||◌, Option, Some, None}
use Rattle.std.specs.List.{list_any}
use Rattle.crypto_profile.specs.declared.keys.Context.{Context}
use Rattle.endpoint_model.specs.declared.entry.Entry.{Entry}
use Rattle.endpoint_model.specs.Views.{Sending, out_in}
use Rattle.endpoint_laws.specs.History.{History, WasSent}
use Rattle.log_sent.specs.Pieces.{Sealed, is_same_sealed, has_sealed}

-- whether it is what an entry sends, if it sends anything
abbrev pub is_sent_by : Sealed → Option Sending → Bool
is_sent_by q None = false
is_sent_by q (Some out) =
    is_same_sealed (record { datagram = out.datagram; context = out.context }) q

-- whether one of the entries sends it
abbrev pub is_sent_among : List Entry → Sealed → Bool
is_sent_among entries q = list_any (λ entry. is_sent_by q (out_in entry)) entries

-- They are those before and what these entries send.
pub record HasWhatGoesOut (entries : List Entry) (old new : List Sealed) : Type 0 where
  pub has : (q : Sealed) → has_sealed new q ≡ (is_sent_among entries q || has_sealed old q)

-- They are the datagrams that went out so far, each in its context.
pub record IsSentOf (history : History) (sent : List Sealed) : Type 0 where
  pub there : (datagram : List ℕ) (context : Context) → WasSent datagram context history →
      has_sealed sent (record { datagram = datagram; context = context }) ≡ true
  pub is : (datagram : List ℕ) (context : Context) →
      has_sealed sent (record { datagram = datagram; context = context }) ≡ true →
      WasSent datagram context history
