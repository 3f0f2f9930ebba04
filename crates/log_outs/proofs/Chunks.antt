-- Whether keyings may go out, chunk by chunk.
use Rattle.std.specs.Prelude.{IfSome}
use Rattle.std.proofs.Common.{ℕ, ◌≡◌, Bool, true, false, not, List, [], ◌∷◌, Option, Some, None, Result, Ok, inl, inr, refl, sym, ap, subst, ◌∙◌}
use Rattle.std.specs.Option.{option_map}
use Rattle.crypto_profile.specs.declared.keys.Context.{Context}
use Rattle.rtmfp_packet.specs.Walk.{Placed}
use Rattle.rtmfp_packet.specs.Whole.{Whole}
use Rattle.rtmfp_packet.specs.Reading.{PacketReading}
use Rattle.rtmfp_packet.specs.declared.head.PacketFault.{PacketFault}
use Rattle.endpoint_model.specs.Keying.{IsAmong, chunks_of}
use Rattle.log_packets.specs.declared.fields.InitiatorKeying.{InitiatorKeying}
use Rattle.log_packets.specs.declared.fields.ResponderKeying.{ResponderKeying}
use Rattle.log_packets.specs.Asked.{Tells, SaysInitiator, SaysResponder, ResponderFields, initiator_shown, responder_shown}
use Rattle.log_packets.proofs.Chunks.{only_true}
use Rattle.log_packets.proofs.Asking.{for_some}
use Rattle.log_outs.specs.declared.sender.Sender.{Sender}
use Rattle.log_outs.specs.declared.sender.Cause.{Cause}
use Rattle.log_outs.specs.Answers.{TellsUnder}
use Rattle.log_outs.specs.Keyings.{IsGreeting, Welcomes, InitiatorMay, InitiatorsMay, responder_may, RespondersMay, ChunkMay, Each, fields_i, fields_r}
use Rattle.log_outs.specs.Sessions.{is_in_session}
use Rattle.log_outs.specs.Numbers.{is_new}
use Rattle.log_outs.specs.Outs.{KeyingsMay, MayGoOut}

one_of : {A : Type 0} (a b : A) → Some a ≡ Some b → a ≡ b
one_of a b e = cc

no_some : {A B : Type 0} (f : A → B) (o : Option A) (b : B) → o ≡ None → option_map f o ≡ Some b → ⊥
no_some f None b e m = absurd cc
no_some f (Some a) b e m = absurd cc

pub not_false : (b : Bool) → not b ≡ false → b ≡ true
not_false true e = refl
not_false false e = absurd cc

pub not_true : (b : Bool) → not b ≡ true → b ≡ false
not_true true e = absurd cc
not_true false e = refl

same_ok : (a b : Whole) → ◌≡◌ {A = Result Whole PacketFault} (Ok a) (Ok b) → a ≡ b
same_ok a b e = cc

-- ---- one chunk

module _ (s : Sender) (context : Context) (c : Placed) where
  module _ (sid : ℕ) (o : Option ResponderKeying) (says : SaysResponder c.kind c.payload (option_map responder_shown o)) where
    pub one_responder : (k : ResponderKeying) (it : Bool) → o ≡ Some k → TellsUnder sid (λ id. responder_may s context id (responder_shown k) ≡ true) it → TellsUnder sid (λ id. RespondersMay s context id c) it
    one_responder k it some tells = record {
      yes = λ e near part sign spells. subst (λ (f : ResponderFields). responder_may s context sid f ≡ true)
          (one_of (responder_shown k) (fields_r near part sign) (sym (ap (option_map responder_shown) some) ∙ says.no (fields_r near part sign) spells)) (tells.yes e);
      no = λ id low may. tells.no id low (may k.near k.part.now k.sign.now (says.yes (responder_shown k) (ap (option_map responder_shown) some)));
    }

    pub no_responder : o ≡ None → TellsUnder sid (λ id. RespondersMay s context id c) true
    no_responder none = record {
      yes = λ e near part sign spells. absurd (no_some responder_shown o (fields_r near part sign) none (says.no (fields_r near part sign) spells));
      no = λ id low may. refl;
    }

  module _ (why : Cause) (o : Option InitiatorKeying) (says : SaysInitiator c.kind c.payload (option_map initiator_shown o)) where
    pub one_initiator : (k : InitiatorKeying) (it : Bool) → o ≡ Some k → Tells (InitiatorMay s why context (initiator_shown k)) it → Tells (InitiatorsMay s why context c) it
    one_initiator k it some tells = record {
      yes = λ e near cookie cert part sign spells. subst (InitiatorMay s why context)
          (one_of (initiator_shown k) (fields_i near cookie cert part sign) (sym (ap (option_map initiator_shown) some) ∙ says.no (fields_i near cookie cert part sign) spells)) (tells.yes e);
      no = λ may. tells.no (may k.near k.cookie.now k.cert.now k.part.now k.sign.now (says.yes (initiator_shown k) (ap (option_map initiator_shown) some)));
    }

    pub no_initiator : o ≡ None → Tells (InitiatorsMay s why context c) true
    no_initiator none = record {
      yes = λ e near cookie cert part sign spells. absurd (no_some initiator_shown o (fields_i near cookie cert part sign) none (says.no (fields_i near cookie cert part sign) spells));
      no = λ may. refl;
    }

  pub both_may : (why : Cause) (sid : ℕ) (i r : Bool) → Tells (InitiatorsMay s why context c) i → i ≡ true → TellsUnder sid (λ id. RespondersMay s context id c) r → TellsUnder sid (λ id. ChunkMay s why context id c) r
  both_may why sid i r initiators e responders = record {
    yes = λ t. record { initiators = initiators.yes e; responders = responders.yes t };
    no = λ id low may. responders.no id low may.responders;
  }

-- ---- all of them

module _ (sid : ℕ) (IsSo : ℕ → Placed → Type 0) where
  -- All are so where the rest is, as far as was gone.
  pub record SoFar (all rest : List Placed) : Type 0 where
    pub on : (id : ℕ) → Each (IsSo id) all → Each (IsSo id) rest
    pub back : Each (IsSo sid) rest → Each (IsSo sid) all

  pub at_first : (all : List Placed) → SoFar all all
  at_first all = record { on = λ id each. each; back = λ each. each }

  module _ (all old rest : List Placed) (c : Placed) (it : Bool) (so_far : SoFar all old) (steps : old ≡ c ∷ rest) (tells : TellsUnder sid (λ id. IsSo id c) it) where
    pub one_more : it ≡ true → SoFar all rest
    one_more e = record {
      on = λ id each d among. so_far.on id each d (subst (IsAmong d) (sym steps) (inr among));
      back = λ each. so_far.back (subst (Each (IsSo sid)) (sym steps) (λ d among. elim among [
        | inl here ↦ subst (IsSo sid) (sym here) (tells.yes e)
        | inr later ↦ each d later
      ]));
    }

    pub not_one : it ≡ false → TellsUnder sid (λ id. Each (IsSo id) all) false
    not_one e = record {
      yes = λ t. only_true false refl t;
      no = λ id low each. only_true it e (tells.no id low (so_far.on id each c (subst (IsAmong c) (sym steps) (inl refl))));
    }

  pub all_are : (all old : List Placed) → SoFar all old → old ≡ [] → TellsUnder sid (λ id. Each (IsSo id) all) true
  all_are all old so_far gone = record {
    yes = λ e. so_far.back (subst (Each (IsSo sid)) (sym gone) (λ d among. absurd among));
    no = λ id low each. refl;
  }

  pub same_chunks : (cs ds : List Placed) (it : Bool) → cs ≡ ds → TellsUnder sid (λ id. Each (IsSo id) cs) it → TellsUnder sid (λ id. Each (IsSo id) ds) it
  same_chunks cs ds it e t = subst (λ (l : List Placed). TellsUnder sid (λ id. Each (IsSo id) l) it) e t

-- ---- of a packet

module _ (s : Sender) (why : Cause) (plain : List ℕ) (context : Context) (sid : ℕ) (o : Option Whole) (only : (packet : Whole) → PacketReading plain (Ok packet) → o ≡ Some packet) where
  pub of_packet : (p : Whole) (it : Bool) → o ≡ Some p → IfSome o (λ packet. PacketReading plain (Ok packet)) → TellsUnder sid (λ id. Each (ChunkMay s why context id) (chunks_of p)) it → TellsUnder sid (KeyingsMay s why plain context) it
  of_packet p it some reads tells = record {
    yes = λ e packet is. subst (λ (q : Whole). Each (ChunkMay s why context sid) (chunks_of q)) (one_of p packet (sym some ∙ only packet is)) (tells.yes e);
    no = λ id low may. tells.no id low (may p (for_some (λ (q : Whole). PacketReading plain (Ok q)) o p reads some));
  }

  pub of_none : o ≡ None → TellsUnder sid (KeyingsMay s why plain context) true
  of_none none = record {
    yes = λ e packet is. absurd (let clash : None ≡ Some packet = sym none ∙ only packet is in cc);
    no = λ id low may. refl;
  }

-- ---- the hello of the event

pub greeting : (tag peer plain : List ℕ) (r : Result Whole PacketFault) → PacketReading plain r → ((other : Result Whole PacketFault) → PacketReading plain other → other ≡ r) → (p : Whole) → r ≡ Ok p → (it : Bool) →
    Tells (Welcomes tag peer p) it → Tells (IsGreeting tag peer plain) it
greeting tag peer plain r reads only p is it tells = record {
  yes = λ e. record { packet = p; reads = subst (PacketReading plain) is reads; welcomes = tells.yes e };
  no = λ g. tells.no (subst (Welcomes tag peer) (same_ok g.packet p (only (Ok g.packet) g.reads ∙ is)) g.welcomes);
}

-- ---- all that is asked

pub all_may : (s : Sender) (why : Cause) (plain : List ℕ) (context : Context) (number : List ℕ) (sid : ℕ) (it : Bool) → is_new s.numbers.now s.nonces.now context number ≡ true → is_in_session s.own.now s.digest.now s.contexts.now context sid ≡ true →
    TellsUnder sid (KeyingsMay s why plain context) it → TellsUnder sid (MayGoOut s why plain context number) it
all_may s why plain context number sid it once session tells = record {
  yes = λ e. record { once = once; session = session; keyings = tells.yes e };
  no = λ id low may. tells.no id low may.keyings;
}
