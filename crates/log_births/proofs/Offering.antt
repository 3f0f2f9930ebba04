-- What a datagram offers is found, and what is found is offered.
use Rattle.std.proofs.Common.{ℕ, ◌≡◌, Bool, true, false, List, Option, Some, None, refl, sym, ap, subst, ◌∙◌}
use Rattle.crypto_profile.specs.Keys.{sign_key_of}
use Rattle.rtmfp_forms.specs.Address.{AddressParts}
use Rattle.rtmfp_packet.specs.declared.head.Mode.{Mode}
use Rattle.rtmfp_packet.specs.declared.head.Mode.TheVariants.{Initiator, Responder, Startup as StartupMode}
use Rattle.rtmfp_packet.specs.Whole.{Whole}
use Rattle.startup_packets.specs.Packets.{is_signed_by}
use Rattle.std.specs.FinMap.{get}
use Rattle.endpoint_model.specs.Event.{Setup, receive_in}
use Rattle.endpoint_laws.specs.Past.{Past}
use Rattle.endpoint_laws.specs.Contexts.{Secrets}
use Rattle.log_values.specs.declared.log.LoggedCall.{LoggedCall}
use Rattle.log_values.specs.declared.log.LoggedCall.TheVariants.{Open as OpenCall, Seek as SeekCall, Cancel as CancelCall, Unseek as UnseekCall, Close as CloseCall, Learn as LearnCall, Advance as AdvanceCall, Receive, Tick as TickCall, Other as OtherCall}
use Rattle.log_values.specs.Events.{call_of}
use Rattle.endpoint_model.specs.Keying.{chunks_of}
use Rattle.endpoint_laws.specs.Admissible.{Offer}
use Rattle.endpoint_laws.proofs.Spelled.{initiator_signed}
use Rattle.log_packets.specs.declared.fields.InitiatorKeying.{InitiatorKeying}
use Rattle.log_packets.specs.Asked.{InitiatorFields, IsFirstFound, IsFirstKeying, Tells, initiator_shown}
use Rattle.log_facts.proofs.Answering.{not_so, not_some}
use Rattle.log_births.specs.declared.party.Party.{Party}
use Rattle.log_births.specs.Offers.{IsCertFor, IsCurrent, IsOffered, Makes, Offers, SpellsKeying, is_named, is_startup}
use Rattle.log_births.proofs.Tests.{is_signed_then}

one_of : {A : Type 0} (a b : A) → Some a ≡ Some b → a ≡ b
one_of a b e = cc

module _ (p : Party) (from : AddressParts) (now : ℕ) (secret : List ℕ) (o : Offer) where
  -- ---- one keying

  module _ (payload : List ℕ) (k : InitiatorFields) where
    pub makes_is : (named cert cookie it : Bool) → named ≡ is_named p.own.now o k → named ≡ true → Tells (IsCertFor p.cert.now o.peer k.cert) cert → cert ≡ true →
        Tells (IsCurrent p.cookies.now k.cookie from now) cookie → cookie ≡ true → it ≡ is_signed_by (sign_key_of secret) payload k.sign → SpellsKeying payload k → Tells (Makes p from now secret payload o k) it
    makes_is named cert cookie it is e of f current g test spells = record {
      yes = λ y. record { named = sym is ∙ e; of = of.yes f; cookie = current.yes g; signed = initiator_signed secret payload k.near k.cookie k.cert k.part k.sign spells (sym test ∙ y) };
      no = λ m. test ∙ is_signed_then secret payload k.sign m.signed;
    }

  -- ---- the first keying of a packet

  startup_only : (mode : Mode) → is_startup mode ≡ true → mode ≡ StartupMode
  startup_only Initiator e = absurd cc
  startup_only Responder e = absurd cc
  startup_only StartupMode e = refl

  module _ (packet : Whole) where
    module _ (found : Option InitiatorKeying) (first : IsFirstFound (chunks_of packet) found) where
      pub no_keying : found ≡ None → Tells (Offers p from now o secret packet) false
      no_keying none = not_so _ (λ m. let k = first.no m.payload m.fields m.first in not_some found k.0 none k.1)

      module _ (k : InitiatorKeying) (some : found ≡ Some k) where
        spelled : (f : IsFirstKeying (chunks_of packet) k.payload.now (initiator_shown k)) → SpellsKeying k.payload.now (initiator_shown k)
        spelled f = subst (λ (b : List ℕ). SpellsKeying b (initiator_shown k)) f.payload_is (refl, f.spells.1)

        pub offers_is : (startup it : Bool) → startup ≡ is_startup packet.head.mode → startup ≡ true → (SpellsKeying k.payload.now (initiator_shown k) → Tells (Makes p from now secret k.payload.now o (initiator_shown k)) it) →
            Tells (Offers p from now o secret packet) it
        offers_is startup it is e makes =
            let f = first.yes k some in
            let t = makes (spelled f) in
            record {
              yes = λ y. record { mode = startup_only packet.head.mode (sym is ∙ e); payload = k.payload.now; fields = initiator_shown k; first = f; makes = t.yes y };
              no = λ m.
                  let other = first.no m.payload m.fields m.first in
                  let same : other.0 ≡ k = one_of other.0 k (sym other.1 ∙ some) in
                  let payloads : m.payload ≡ k.payload.now = sym other.2 ∙ ap (λ (x : InitiatorKeying). x.payload.now) same in
                  let fields : m.fields ≡ initiator_shown k = sym other.3 ∙ ap initiator_shown same in
                  t.no (subst (λ (f : InitiatorFields). Makes p from now secret k.payload.now o f) fields (subst (λ (b : List ℕ). Makes p from now secret b o m.fields) payloads m.makes));
            }

-- under the secret of the generation in which the datagram opens
pub offers_by : (secrets : Secrets) (p : Party) (from : AddressParts) (now : ℕ) (o : Offer) (g : ℕ) (under : List ℕ) (whole : Whole) (it : Bool) → get secrets g ≡ Some under → Tells (Offers p from now o under whole) it →
    (secret : List ℕ) → get secrets g ≡ Some secret → Tells (Offers p from now o secret whole) it
offers_by secrets p from now o g under whole it known t secret is =
    subst (λ (s : List ℕ). Tells (Offers p from now o s whole) it) (one_of under secret (sym known ∙ is)) t

-- a call that is given no datagram offers nothing
pub none_given : (secrets : Secrets) (setup : Setup) (past : Past) (p : Party) (now : ℕ) (o : Offer) (nonce : List ℕ) (call : LoggedCall) →
    ((from : AddressParts) (datagram : List ℕ) → call ≡ Receive from datagram → ⊥) → Tells (IsOffered secrets setup past p now o (receive_in (call_of nonce call))) false
none_given secrets setup past p now o nonce (Receive from datagram) none = absurd (none from datagram refl)
none_given secrets setup past p now o nonce (OpenCall peer tag) none = not_so _ (λ e. e)
none_given secrets setup past p now o nonce (SeekCall name tag) none = not_so _ (λ e. e)
none_given secrets setup past p now o nonce (CancelCall n) none = not_so _ (λ e. e)
none_given secrets setup past p now o nonce (UnseekCall near) none = not_so _ (λ e. e)
none_given secrets setup past p now o nonce (CloseCall near) none = not_so _ (λ e. e)
none_given secrets setup past p now o nonce (LearnCall secret) none = not_so _ (λ e. e)
none_given secrets setup past p now o nonce AdvanceCall none = not_so _ (λ e. e)
none_given secrets setup past p now o nonce TickCall none = not_so _ (λ e. e)
none_given secrets setup past p now o nonce OtherCall none = not_so _ (λ e. e)
