-- What a session is given with a datagram that opens in it.
use Rattle.std.proofs.Common.{ℕ, ◌≡◌, Bool, List, Some, Ok, sym, ap, subst, ◌∙◌}
use Rattle.crypto_profile.specs.declared.keys.Context.{Context}
use Rattle.packet_scramble.specs.Datagram.{sid_of}
use Rattle.rtmfp_packet.specs.Reading.{PacketReading}
use Rattle.glare_core.specs.declared.facts.Held.{Held}
use Rattle.endpoint_model.specs.Event.{Setup}
use Rattle.endpoint_laws.specs.Past.{Past}
use Rattle.endpoint_laws.specs.Contexts.{Secrets, OpensUnder, StandsUnder, inward}
use Rattle.endpoint_laws.specs.Taken.{count_in, inward_mode}
use Rattle.endpoint_laws.specs.Lawful.{OpensInSession}
use Rattle.log_packets.specs.Opening.{sid_in}
use Rattle.log_contexts.specs.declared.taking.Taking.TheVariants.{Session as InThing}
use Rattle.log_contexts.specs.Contexts.{OpensInNone, OpensThere}
use Rattle.log_arrivals.specs.declared.arrival.Arrival.TheVariants.{Session as InSession}
use Rattle.log_arrivals.specs.declared.arrived.Arrived.{Arrived}
use Rattle.log_arrivals.specs.Arrived.{HasMode, IsArrived}
use Rattle.log_arrivals.proofs.Arriving.{id_is, opens_long}

same_thing : (a b : Held) (g h : ℕ) → InThing a g ≡ InThing b h → a ≡ b
same_thing a b g h e = cc

same_generation : (a b : Held) (g h : ℕ) → InThing a g ≡ InThing b h → g ≡ h
same_generation a b g h e = cc

module _ (secrets : Secrets) (setup : Setup) (past : Past) (datagram plain : List ℕ) (a : Arrived) (is : IsArrived secrets setup past datagram plain a) where
  -- where it opens in no session
  pub not_in : (a.arrival ≡ InSession → ⊥) → OpensInNone secrets setup past (Some datagram)
  not_in never near thing at = never (is.arrival.goes_on near thing at).0

  pub not_taken : ((thing : Held) (generation : ℕ) → a.taking ≡ InThing thing generation → ⊥) → OpensInNone secrets setup past (Some datagram)
  not_taken never near thing at =
      let long : sid_in datagram ≡ Some near = opens_long secrets (inward setup at.generation thing) near datagram at.plain at.opens ∙ ap (λ (n : ℕ). Some n) at.opens.id in
      never thing at.generation ((is.taking near long).session thing at.generation at.stands at.is_session at.begun)

  module _ (near : ℕ) (thing : Held) (generation : ℕ) (here : a.arrival ≡ InSession) (taken : a.taking ≡ InThing thing generation) (long : sid_in datagram ≡ Some near) where
    -- It opens in the session, whose values these are.
    its_opening : OpensUnder secrets (inward setup generation thing) near datagram plain
    its_opening =
        let s = is.arrival.session here in
        let at = s.1.at in
        let id : sid_of datagram ≡ near = id_is datagram near long in
        let it : InThing thing generation ≡ InThing s.0 at.generation = sym taken ∙ (is.taking near long).session s.0 at.generation (subst (λ (n : ℕ). StandsUnder past n s.0) id at.stands) at.is_session at.begun in
        let contexts : inward setup at.generation s.0 ≡ inward setup generation thing =
        (λ i. inward setup (sym (same_generation thing s.0 generation at.generation it) i) (sym (same_thing thing s.0 generation at.generation it) i)) in
        subst (λ (p : List ℕ). OpensUnder secrets (inward setup generation thing) near datagram p) s.1.plain_is
        (subst (λ (c : Context). OpensUnder secrets c near datagram at.plain) contexts
        (subst (λ (n : ℕ). OpensUnder secrets (inward setup at.generation s.0) n datagram at.plain) id at.opens))

    pub opens_there : (count : ℕ) (fits : Bool) → count ≡ count_in datagram → HasMode plain (inward_mode thing) fits → OpensThere secrets setup past near thing generation datagram count fits
    opens_there count fits counts has =
        let stood = (is.taking near long).inside thing generation taken in
        record {
          stands = stood.0;
          is_session = stood.1;
          begun = stood.2;
          opens = record {
            plain = plain;
            opens = its_opening;
            count_is = sym counts;
            reads = λ e. let h = has.yes e in (h.0, record { plain = plain; opens = its_opening; reads = h.1 }, h.2);
            fits_where = λ packet reads mode.
                let at : OpensInSession secrets setup past near thing datagram = record { stands = stood.0; is_session = stood.1; generation = generation; begun = stood.2; plain = reads.plain; opens = reads.opens } in
                let same : reads.plain ≡ plain = (is.arrival.goes_on near thing at).2 in
                has.no packet (subst (λ (p : List ℕ). PacketReading p (Ok packet)) same reads.reads) mode;
          };
        }
