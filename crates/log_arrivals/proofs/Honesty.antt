-- Whether what an end is given was sent, by the context in which it opens.
use Rattle.std.proofs.Common.{ℕ, ◌≡◌, Bool, true, List, Option, Some, None, refl, sym, subst, ◌∙◌}
use Rattle.crypto_profile.specs.declared.keys.Context.{Context}
use Rattle.packet_scramble.specs.Datagram.{sid_of}
use Rattle.endpoint_model.specs.Event.{Setup, ReceiveCall}
use Rattle.endpoint_laws.specs.Past.{Past}
use Rattle.endpoint_laws.specs.Contexts.{Secrets, ContextsOf, OpensFirst}
use Rattle.endpoint_laws.specs.History.{History, WasSent, IsHonestReceive}
use Rattle.log_packets.specs.Asked.{Tells}
use Rattle.log_packets.proofs.Opens.{one_of}
use Rattle.log_arrivals.specs.Arrived.{IsContextOf}

module _ (secrets : Secrets) (setup : Setup) (past : Past) (earlier : History) where
  -- the same of these bytes
  abbrev AreHonest : List ℕ → Type 0
  AreHonest bytes = (contexts : List Context) (context : Context) (plain : List ℕ) → ContextsOf secrets setup past (sid_of bytes) contexts →
      OpensFirst secrets contexts (sid_of bytes) bytes context plain → WasSent bytes context earlier

  of_bytes : (r : ReceiveCall) (bytes : List ℕ) (it : Bool) → r.datagram ≡ bytes → Tells (AreHonest bytes) it → Tells (IsHonestReceive secrets setup past earlier (Some r)) it
  of_bytes r bytes it e tells = subst (λ (b : List ℕ). Tells (AreHonest b) it) (sym e) tells

  pub honest_somewhere : (r : ReceiveCall) (bytes : List ℕ) (found : Option Context) (context : Context) (it : Bool) → r.datagram ≡ bytes → IsContextOf secrets setup past bytes found → found ≡ Some context →
      (it ≡ true → WasSent bytes context earlier) → (WasSent bytes context earlier → it ≡ true) → Tells (IsHonestReceive secrets setup past earlier (Some r)) it
  honest_somewhere r bytes found context it same is e sent was = of_bytes r bytes it same (record {
    yes = λ t contexts other plain cs o.
        subst (λ (c : Context). WasSent bytes c earlier) (one_of context other (sym e ∙ is.there contexts other plain cs o)) (sent t);
    no = λ honest. let x = is.is context e in was (honest x.0 context x.1 x.2 x.3);
  })

  pub honest_nowhere : (r : ReceiveCall) (bytes : List ℕ) (found : Option Context) → r.datagram ≡ bytes → IsContextOf secrets setup past bytes found → found ≡ None → Tells (IsHonestReceive secrets setup past earlier (Some r)) true
  honest_nowhere r bytes found same is e = of_bytes r bytes true same (record {
    yes = λ t contexts other plain cs o. absurd (let clash : None ≡ Some other = sym e ∙ is.there contexts other plain cs o in cc);
    no = λ honest. refl;
  })
