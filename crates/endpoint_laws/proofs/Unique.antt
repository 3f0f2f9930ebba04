-- The generation in which a datagram opens outside of sessions is one number, in whatever log.
use Rattle.std.proofs.Common.{ℕ, List, [], ◌∷◌, ◌≡◌, inl, inr, sym, ap, subst, ◌∙◌, Option, Some, None}
use Rattle.crypto_profile.specs.declared.keys.Context.{Context}
use Rattle.crypto_profile.specs.declared.keys.Context.TheVariants.{Startup}
use Rattle.packet_scramble.specs.Datagram.{sid_of}
use Rattle.endpoint_model.specs.Views.{Sending}
use Rattle.endpoint_model.specs.Event.{Setup, ReceiveCall}
use Rattle.endpoint_laws.specs.Past.{Past, out_done, before_event, last_call, receive_of}
use Rattle.endpoint_laws.specs.Contexts.{Secrets, generation_of, OpensUnder, OpensFirst, IsKeying, KeyingWent, IsAttemptIn, StartupContextsOf, OpensInStartup, CallOpensIn, EventOpenedIn}

pub opens_first_one : (secrets : Secrets) (contexts : List Context) (sid : ℕ) (datagram : List ℕ) (c d : Context) (p q : List ℕ) → OpensFirst secrets contexts sid datagram c p → OpensFirst secrets contexts sid datagram d q → c ≡ d
opens_first_one secrets [] sid datagram c d p q a b = absurd a
opens_first_one secrets (first ∷ later) sid datagram c d p q (inl a) (inl b) = sym a.0 ∙ b.0
opens_first_one secrets (first ∷ later) sid datagram c d p q (inl a) (inr b) = absurd (b.0 p (subst (λ (k : Context). OpensUnder secrets k sid datagram p) (sym a.0) a.1))
opens_first_one secrets (first ∷ later) sid datagram c d p q (inr a) (inl b) = absurd (a.0 q (subst (λ (k : Context). OpensUnder secrets k sid datagram q) (sym b.0) b.1))
opens_first_one secrets (first ∷ later) sid datagram c d p q (inr a) (inr b) = opens_first_one secrets later sid datagram c d p q a.1 b.1

sent_one : (secrets : Secrets) (near g h : ℕ) (o : Option Sending) → IsKeying secrets near g o → IsKeying secrets near h o → g ≡ h
sent_one secrets near g h None a b = absurd a
sent_one secrets near g h (Some sent) a b = ap generation_of (sym a.context ∙ b.context)

pub keying_one : (secrets : Secrets) (near g h : ℕ) (past : Past) → KeyingWent secrets near g past → KeyingWent secrets near h past → g ≡ h
keying_one secrets near g h [] a b = absurd a
keying_one secrets near g h (s ∷ earlier) (inl a) (inl b) = sent_one secrets near g h (out_done s.what) a b
keying_one secrets near g h (s ∷ earlier) (inl a) (inr b) = absurd (b.0 g a)
keying_one secrets near g h (s ∷ earlier) (inr a) (inl b) = absurd (a.0 h b)
keying_one secrets near g h (s ∷ earlier) (inr a) (inr b) = keying_one secrets near g h earlier a.3 b.3

pub attempt_one : (secrets : Secrets) (setup : Setup) (near g h : ℕ) (past : Past) → IsAttemptIn secrets setup near g past → IsAttemptIn secrets setup near h past → g ≡ h
attempt_one secrets setup near g h past (inl a) (inl b) = keying_one secrets near g h past a b
attempt_one secrets setup near g h past (inl a) (inr b) = absurd (b.0 g a)
attempt_one secrets setup near g h past (inr a) (inl b) = absurd (a.0 h b)
attempt_one secrets setup near g h past (inr a) (inr b) = a.1 ∙ sym b.1

pub contexts_one : (secrets : Secrets) (setup : Setup) (past : Past) (sid : ℕ) (cs ds : List Context) → StartupContextsOf secrets setup past sid cs → StartupContextsOf secrets setup past sid ds → cs ≡ ds
contexts_one secrets setup past sid cs ds (inl a) (inl b) = a.1 ∙ sym b.1
contexts_one secrets setup past sid cs ds (inl a) (inr b) = absurd (b.0 a.0)
contexts_one secrets setup past sid cs ds (inr a) (inl b) = absurd (a.0 b.0)
contexts_one secrets setup past sid cs ds (inr a) (inr b) = a.2.2 ∙ ap (λ (g : ℕ). Startup g ∷ []) (attempt_one secrets setup sid a.2.0 b.2.0 past a.2.1 b.2.1) ∙ sym b.2.2

pub opened_one : (secrets : Secrets) (setup : Setup) (past : Past) (datagram : List ℕ) (g h : ℕ) → OpensInStartup secrets setup past datagram g → OpensInStartup secrets setup past datagram h → g ≡ h
opened_one secrets setup past datagram g h a b =
    let same : a.contexts ≡ b.contexts = contexts_one secrets setup past (sid_of datagram) a.contexts b.contexts a.named b.named in
    ap generation_of (opens_first_one secrets b.contexts (sid_of datagram) datagram (Startup g) (Startup h) a.plain b.plain
    (subst (λ (cs : List Context). OpensFirst secrets cs (sid_of datagram) datagram (Startup g) a.plain) same a.opens) b.opens)

pub call_one : (secrets : Secrets) (setup : Setup) (past : Past) (o : Option ReceiveCall) (g h : ℕ) → CallOpensIn secrets setup past o g → CallOpensIn secrets setup past o h → g ≡ h
call_one secrets setup past None g h a b = absurd a
call_one secrets setup past (Some r) g h a b = opened_one secrets setup past r.datagram g h a b

pub event_one : (secrets : Secrets) (setup : Setup) (past : Past) (g h : ℕ) → EventOpenedIn secrets setup past g → EventOpenedIn secrets setup past h → g ≡ h
event_one secrets setup past g h a b = call_one secrets setup (before_event past) (receive_of (last_call past)) g h a b
