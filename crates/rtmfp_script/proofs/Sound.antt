-- What was read of a line is what it says.
use Rattle.std.proofs.Common.{◌≡◌, ℕ, ◌^◌, ◌<◌, ◌≤◌, true, List, [], ◌∷◌, ◌++◌, length, map, Option, Some, None, refl, sym, ap, ◌∙◌, subst, arith, inl, inr}
use Rattle.std.specs.Prelude.{codes, decimal, nat_le, if◌then◌else◌}
use Rattle.std.specs.Str.{bytes_eq}
use Rattle.std.proofs.lemmas.Bool.{cases_Bool, leb-true}
use Rattle.std.proofs.lemmas.Slice.Eq.{bytes_eq-Decides}
use Rattle.rtmfp_forms.specs.Address.{AddressParts}
use Rattle.rtmfp_text.specs.AddressText.{address_text}
use Rattle.rtmfp_text.specs.Words.{bytes_text, number_text}
use Rattle.identity.specs.ServiceNames.{IsServiceName}
use Rattle.rtmfp_script.specs.declared.line.ScriptLine.{ScriptLine}
use Rattle.rtmfp_script.specs.declared.line.ScriptLine.TheVariants.{Call, Towards, Translator}
use Rattle.rtmfp_script.specs.declared.line.CallLine.TheVariants.{Seek, Unseek, Flow, Queue, Abandon, Finish}
use Rattle.rtmfp_script.specs.declared.line.AimLine.TheVariants.{Redirect, Open}
use Rattle.rtmfp_script.specs.declared.content.Content.{Content}
use Rattle.rtmfp_script.specs.Grammar.{IsName, IsPlainAddress, IsBytesUpTo, EachIsPlainAddress, AreBytes, IsBelow, IsContent, IsWithin, IsLineOf, content_text, word_for, line_text, words_text, line_limit}
use Rattle.rtmfp_script.specs.Fields.{split_of, name_of, cert_of, number_of, number_below, bytes_of, hexadecimal_of, service_of, limit_by, content_of, rule_of, v4_of, address_of, addresses_of, either, ◌>>=◌}
use Rattle.rtmfp_script.specs.Lines.{end_of, introduce_of, narrow_of, row_said, redirect_of, at_of, open_of, open_to, seek_for, seek_of, cancel_of, unseek_of, close_of, answers_of, session_at, flow_in, flow_of, queue_in, queue_of, abandon_of, finish_of, learn_of, advance_of, tick_of, deliver_of, bent_of, bytes_at, inject_of, forge_of, translator_of, place_of, carry_of, word_of, step_of}
use Rattle.rtmfp_script.proofs.Splits.{some_some, bind_some, split_joined}
use Rattle.rtmfp_script.proofs.Numbers.{number_of-some, number_below-some}
use Rattle.rtmfp_script.proofs.Digits.{bytes_of-some, hexadecimal_of-some}
use Rattle.rtmfp_script.proofs.NamesRead.{rejoin, name_of-some, cert_of-some}
use Rattle.rtmfp_script.proofs.Addresses.{address_of-some, v4_of-is_host}
use Rattle.rtmfp_script.proofs.AddressesRead.{addresses_of-some}
use Rattle.rtmfp_script.proofs.PlacesRead.{rule_of-some, place_at-some}
use Rattle.rtmfp_script.proofs.Services.{service_of-some}
use Rattle.rtmfp_script.proofs.Contents.{limit_by-some, answers_of-some, content_of-some}

-- a word, and what stands behind its space, say this
pub record IsSaid (word rest : List ℕ) (said : ScriptLine) : Type 0 where
  pub text : word ++ 32 ∷ rest ≡ line_text said
  pub within : IsWithin said

-- the word in front
after : (word rest behind : List ℕ) → rest ≡ behind → word ++ 32 ∷ rest ≡ word ++ 32 ∷ behind
after word rest behind e = ap (λ xs. word ++ 32 ∷ xs) e

end_sound : (rest : List ℕ) (said : ScriptLine) → end_of rest ≡ Some said → IsSaid (codes "end") rest said
unfolding end_of
end_sound rest said h =
    let a = bind_some (split_of 32 rest) _ said h in
    let b = bind_some (split_of 32 a.0.1) _ said a.2 in
    let c = bind_some (split_of 32 b.0.1) _ said b.2 in
    let name = bind_some (name_of a.0.0) _ said c.2 in
    let peers = bind_some (number_below (2 ^ 32) b.0.0) _ said name.2 in
    let sessions = bind_some (number_below (2 ^ 32) c.0.0) _ said peers.2 in
    let cert = bind_some (cert_of c.0.1) _ said sessions.2 in
    let n = name_of-some a.0.0 name.0 name.1 in
    let p = number_below-some (2 ^ 32) b.0.0 peers.0 peers.1 in
    let s = number_below-some (2 ^ 32) c.0.0 sessions.0 sessions.1 in
    let t = cert_of-some c.0.1 cert.0 cert.1 in
    subst (IsSaid (codes "end") rest) (some_some _ _ cert.2) (record {
      text = after (codes "end") rest _
          (rejoin 32 rest a.0.0 a.0.1 _ _ (split_joined 32 rest a.0 a.1) n.0
          (rejoin 32 a.0.1 b.0.0 b.0.1 _ _ (split_joined 32 a.0.1 b.0 b.1) p.0
          (rejoin 32 b.0.1 c.0.0 c.0.1 _ _ (split_joined 32 b.0.1 c.0 c.1) s.0 t.0)));
      within = (n.1, p.1, s.1, t.1);
    })

introduce_sound : (rest : List ℕ) (said : ScriptLine) → introduce_of rest ≡ Some said → IsSaid (codes "introduce") rest said
unfolding introduce_of
introduce_sound rest said h =
    let name = bind_some (name_of rest) _ said h in
    let n = name_of-some rest name.0 name.1 in
    subst (IsSaid (codes "introduce") rest) (some_some _ _ name.2) (record { text = after (codes "introduce") rest _ n.0; within = n.1 })

narrow_sound : (rest : List ℕ) (said : ScriptLine) → narrow_of rest ≡ Some said → IsSaid (codes "narrow") rest said
unfolding narrow_of
narrow_sound rest said h =
    let a = bind_some (split_of 32 rest) _ said h in
    let name = bind_some (name_of a.0.0) _ said a.2 in
    let limit = bind_some (number_below (2 ^ 16) a.0.1) _ said name.2 in
    let n = name_of-some a.0.0 name.0 name.1 in
    let m = number_below-some (2 ^ 16) a.0.1 limit.0 limit.1 in
    subst (IsSaid (codes "narrow") rest) (some_some _ _ limit.2) (record {
      text = after (codes "narrow") rest _ (rejoin 32 rest a.0.0 a.0.1 _ _ (split_joined 32 rest a.0 a.1) n.0 m.0);
      within = (n.1, m.1);
    })

at_sound : (rest : List ℕ) (said : ScriptLine) → at_of rest ≡ Some said → IsSaid (codes "at") rest said
unfolding at_of
at_sound rest said h =
    let moment = bind_some (number_of rest) _ said h in
    let m = number_of-some rest moment.0 moment.1 in
    subst (IsSaid (codes "at") rest) (some_some _ _ moment.2) (record { text = after (codes "at") rest _ m.0; within = m.1 })

cancel_sound : (rest : List ℕ) (said : ScriptLine) → cancel_of rest ≡ Some said → IsSaid (codes "cancel") rest said
unfolding cancel_of
cancel_sound rest said h =
    let a = bind_some (split_of 32 rest) _ said h in
    let name = bind_some (name_of a.0.0) _ said a.2 in
    let number = bind_some (number_of a.0.1) _ said name.2 in
    let n = name_of-some a.0.0 name.0 name.1 in
    let m = number_of-some a.0.1 number.0 number.1 in
    subst (IsSaid (codes "cancel") rest) (some_some _ _ number.2) (record {
      text = after (codes "cancel") rest _ (rejoin 32 rest a.0.0 a.0.1 _ _ (split_joined 32 rest a.0 a.1) n.0 m.0);
      within = (n.1, m.1);
    })

close_sound : (rest : List ℕ) (said : ScriptLine) → close_of rest ≡ Some said → IsSaid (codes "close") rest said
unfolding close_of
close_sound rest said h =
    let a = bind_some (split_of 32 rest) _ said h in
    let name = bind_some (name_of a.0.0) _ said a.2 in
    let near = bind_some (number_below (2 ^ 32) a.0.1) _ said name.2 in
    let n = name_of-some a.0.0 name.0 name.1 in
    let m = number_below-some (2 ^ 32) a.0.1 near.0 near.1 in
    subst (IsSaid (codes "close") rest) (some_some _ _ near.2) (record {
      text = after (codes "close") rest _ (rejoin 32 rest a.0.0 a.0.1 _ _ (split_joined 32 rest a.0 a.1) n.0 m.0);
      within = (n.1, m.1);
    })

learn_sound : (rest : List ℕ) (said : ScriptLine) → learn_of rest ≡ Some said → IsSaid (codes "learn") rest said
unfolding learn_of
learn_sound rest said h =
    let name = bind_some (name_of rest) _ said h in
    let n = name_of-some rest name.0 name.1 in
    subst (IsSaid (codes "learn") rest) (some_some _ _ name.2) (record { text = after (codes "learn") rest _ n.0; within = n.1 })

advance_sound : (rest : List ℕ) (said : ScriptLine) → advance_of rest ≡ Some said → IsSaid (codes "advance") rest said
unfolding advance_of
advance_sound rest said h =
    let name = bind_some (name_of rest) _ said h in
    let n = name_of-some rest name.0 name.1 in
    subst (IsSaid (codes "advance") rest) (some_some _ _ name.2) (record { text = after (codes "advance") rest _ n.0; within = n.1 })

tick_sound : (rest : List ℕ) (said : ScriptLine) → tick_of rest ≡ Some said → IsSaid (codes "tick") rest said
unfolding tick_of
tick_sound rest said h =
    let name = bind_some (name_of rest) _ said h in
    let n = name_of-some rest name.0 name.1 in
    subst (IsSaid (codes "tick") rest) (some_some _ _ name.2) (record { text = after (codes "tick") rest _ n.0; within = n.1 })

deliver_sound : (rest : List ℕ) (said : ScriptLine) → deliver_of rest ≡ Some said → IsSaid (codes "deliver") rest said
unfolding deliver_of
deliver_sound rest said h =
    let a = bind_some (split_of 32 rest) _ said h in
    let b = bind_some (split_of 32 a.0.1) _ said a.2 in
    let number = bind_some (number_of a.0.0) _ said b.2 in
    let name = bind_some (name_of b.0.0) _ said number.2 in
    let from = bind_some (address_of b.0.1) _ said name.2 in
    let m = number_of-some a.0.0 number.0 number.1 in
    let n = name_of-some b.0.0 name.0 name.1 in
    let f = address_of-some b.0.1 from.0 from.1 in
    subst (IsSaid (codes "deliver") rest) (some_some _ _ from.2) (record {
      text = after (codes "deliver") rest _
          (rejoin 32 rest a.0.0 a.0.1 _ _ (split_joined 32 rest a.0 a.1) m.0
          (rejoin 32 a.0.1 b.0.0 b.0.1 _ _ (split_joined 32 a.0.1 b.0 b.1) n.0 f.0));
      within = (m.1, n.1, f.1);
    })

bent_sound : (rest : List ℕ) (said : ScriptLine) → bent_of rest ≡ Some said → IsSaid (codes "bent") rest said
unfolding bent_of
bent_sound rest said h =
    let a = bind_some (split_of 32 rest) _ said h in
    let b = bind_some (split_of 32 a.0.1) _ said a.2 in
    let c = bind_some (split_of 32 b.0.1) _ said b.2 in
    let number = bind_some (number_of a.0.0) _ said c.2 in
    let place = bind_some (number_of b.0.0) _ said number.2 in
    let name = bind_some (name_of c.0.0) _ said place.2 in
    let from = bind_some (address_of c.0.1) _ said name.2 in
    let m = number_of-some a.0.0 number.0 number.1 in
    let p = number_of-some b.0.0 place.0 place.1 in
    let n = name_of-some c.0.0 name.0 name.1 in
    let f = address_of-some c.0.1 from.0 from.1 in
    subst (IsSaid (codes "bent") rest) (some_some _ _ from.2) (record {
      text = after (codes "bent") rest _
          (rejoin 32 rest a.0.0 a.0.1 _ _ (split_joined 32 rest a.0 a.1) m.0
          (rejoin 32 a.0.1 b.0.0 b.0.1 _ _ (split_joined 32 a.0.1 b.0 b.1) p.0
          (rejoin 32 b.0.1 c.0.0 c.0.1 _ _ (split_joined 32 b.0.1 c.0 c.1) n.0 f.0)));
      within = (m.1, p.1, n.1, f.1);
    })

-- an end, an address and bytes
record AreBytesAt (most : ℕ) (rest name : List ℕ) (from : AddressParts) (bytes : List ℕ) : Type 0 where
  text : rest ≡ name ++ 32 ∷ (address_text from ++ 32 ∷ bytes_text bytes)
  name_is : IsName name
  from_is : IsPlainAddress from
  bytes_are : IsBytesUpTo most bytes

bytes_at_sound : (most : ℕ) (rest : List ℕ) (d : List ℕ × AddressParts × List ℕ) → bytes_at most rest ≡ Some d → AreBytesAt most rest d.0 d.1 d.2
unfolding bytes_at
bytes_at_sound most rest d h =
    let a = bind_some (split_of 32 rest) _ d h in
    let b = bind_some (split_of 32 a.0.1) _ d a.2 in
    let name = bind_some (name_of a.0.0) _ d b.2 in
    let from = bind_some (address_of b.0.0) _ d name.2 in
    let bytes = bind_some (bytes_of most b.0.1) _ d from.2 in
    let n = name_of-some a.0.0 name.0 name.1 in
    let f = address_of-some b.0.0 from.0 from.1 in
    let x = bytes_of-some most b.0.1 bytes.0 bytes.1 in
    subst (λ (p : List ℕ × AddressParts × List ℕ). AreBytesAt most rest p.0 p.1 p.2) (some_some _ _ bytes.2) (record {
      text =
          rejoin 32 rest a.0.0 a.0.1 _ _ (split_joined 32 rest a.0 a.1) n.0
          (rejoin 32 a.0.1 b.0.0 b.0.1 _ _ (split_joined 32 a.0.1 b.0 b.1) f.0 x.0);
      name_is = n.1;
      from_is = f.1;
      bytes_are = x.1;
    })

inject_sound : (rest : List ℕ) (said : ScriptLine) → inject_of rest ≡ Some said → IsSaid (codes "inject") rest said
unfolding inject_of
inject_sound rest said h =
    let d = bind_some (bytes_at 2048 rest) _ said h in
    let i = bytes_at_sound 2048 rest d.0 d.1 in
    subst (IsSaid (codes "inject") rest) (some_some _ _ d.2) (record { text = after (codes "inject") rest _ i.text; within = (i.name_is, i.from_is, i.bytes_are) })

forge_sound : (rest : List ℕ) (said : ScriptLine) → forge_of rest ≡ Some said → IsSaid (codes "forge") rest said
unfolding forge_of
forge_sound rest said h =
    let d = bind_some (bytes_at 1164 rest) _ said h in
    let i = bytes_at_sound 1164 rest d.0 d.1 in
    subst (IsSaid (codes "forge") rest) (some_some _ _ d.2) (record { text = after (codes "forge") rest _ i.text; within = (i.name_is, i.from_is, i.bytes_are) })

-- ---- open

-- a peer, and the addresses behind it
record IsPeer (name rest : List ℕ) (said : ScriptLine) : Type 0 where
  peer : List ℕ
  candidates : List AddressParts
  is : Towards name peer candidates Open ≡ said
  text : rest ≡ words_text (peer ∷ map address_text candidates)
  peer_is : IsName peer
  few : length candidates ≤ 32
  good : EachIsPlainAddress candidates

peer_by : (name rest : List ℕ) (said : ScriptLine) (o : Option (List ℕ × List ℕ)) → split_of 32 rest ≡ o →
    either (name_of rest >>= λ peer. Some (Towards name peer [] Open)) (λ parts. name_of parts.0 >>= λ peer. addresses_of parts.1 >>= λ candidates. Some (Towards name peer candidates Open)) o ≡ Some said → IsPeer name rest said
peer_by name rest said None cut h =
    let peer = bind_some (name_of rest) (λ peer. Some (Towards name peer [] Open)) said h in
    let p = name_of-some rest peer.0 peer.1 in
    record { peer = peer.0; candidates = []; is = some_some _ _ peer.2; text = p.0; peer_is = p.1; few = omega arith; good = tt }
peer_by name rest said (Some parts) cut h =
    let peer = bind_some (name_of parts.0) (λ peer. addresses_of parts.1 >>= λ candidates. Some (Towards name peer candidates Open)) said h in
    let candidates = bind_some (addresses_of parts.1) (λ candidates. Some (Towards name peer.0 candidates Open)) said peer.2 in
    let p = name_of-some parts.0 peer.0 peer.1 in
    let l = addresses_of-some parts.1 candidates.0 candidates.1 in
    record {
      peer = peer.0;
      candidates = candidates.0;
      is = some_some _ _ candidates.2;
      text = rejoin 32 rest parts.0 parts.1 peer.0 parts.1 (split_joined 32 rest parts cut) p.0 refl ∙ sym (l.text_is peer.0);
      peer_is = p.1;
      few = l.few;
      good = l.good;
    }

peer_sound : (name rest : List ℕ) (said : ScriptLine) → open_to name rest ≡ Some said → IsPeer name rest said
unfolding open_to
peer_sound name rest said h = peer_by name rest said (split_of 32 rest) refl h

open_sound : (rest : List ℕ) (said : ScriptLine) → open_of rest ≡ Some said → IsSaid (codes "open") rest said
unfolding open_of
open_sound rest said h =
    let a = bind_some (split_of 32 rest) _ said h in
    let name = bind_some (name_of a.0.0) _ said a.2 in
    let n = name_of-some a.0.0 name.0 name.1 in
    let p = peer_sound name.0 a.0.1 said name.2 in
    subst (IsSaid (codes "open") rest) p.is (record {
      text = after (codes "open") rest _ (rejoin 32 rest a.0.0 a.0.1 _ _ (split_joined 32 rest a.0 a.1) n.0 p.text);
      within = (n.1, p.peer_is, p.few, p.good);
    })

-- ---- searches

-- a service, and the addresses behind it
record IsService (name rest : List ℕ) (said : ScriptLine) : Type 0 where
  service : List ℕ
  addresses : List AddressParts
  is : Call name (Seek service addresses) ≡ said
  text : rest ≡ words_text (bytes_text service ∷ map address_text addresses)
  service_is : IsServiceName service
  few : length addresses ≤ 32
  good : EachIsPlainAddress addresses

service_by : (name rest : List ℕ) (said : ScriptLine) (o : Option (List ℕ × List ℕ)) → split_of 32 rest ≡ o →
    either (service_of rest >>= λ service. Some (Call name (Seek service []))) (λ parts. service_of parts.0 >>= λ service. addresses_of parts.1 >>= λ addresses. Some (Call name (Seek service addresses))) o ≡ Some said → IsService name rest said
service_by name rest said None cut h =
    let service = bind_some (service_of rest) (λ service. Some (Call name (Seek service []))) said h in
    let s = service_of-some rest service.0 service.1 in
    record { service = service.0; addresses = []; is = some_some (Call name (Seek service.0 [])) said service.2; text = s.0; service_is = s.1; few = omega arith; good = tt }
service_by name rest said (Some parts) cut h =
    let service = bind_some (service_of parts.0) (λ service. addresses_of parts.1 >>= λ addresses. Some (Call name (Seek service addresses))) said h in
    let addresses = bind_some (addresses_of parts.1) (λ addresses. Some (Call name (Seek service.0 addresses))) said service.2 in
    let s = service_of-some parts.0 service.0 service.1 in
    let l = addresses_of-some parts.1 addresses.0 addresses.1 in
    record {
      service = service.0;
      addresses = addresses.0;
      is = some_some (Call name (Seek service.0 addresses.0)) said addresses.2;
      text = rejoin 32 rest parts.0 parts.1 (bytes_text service.0) parts.1 (split_joined 32 rest parts cut) s.0 refl ∙ sym (l.text_is (bytes_text service.0));
      service_is = s.1;
      few = l.few;
      good = l.good;
    }

service_sound : (name rest : List ℕ) (said : ScriptLine) → seek_for name rest ≡ Some said → IsService name rest said
unfolding seek_for
service_sound name rest said h = service_by name rest said (split_of 32 rest) refl h

seek_sound : (rest : List ℕ) (said : ScriptLine) → seek_of rest ≡ Some said → IsSaid (codes "seek") rest said
unfolding seek_of
seek_sound rest said h =
    let a = bind_some (split_of 32 rest) _ said h in
    let name = bind_some (name_of a.0.0) _ said a.2 in
    let n = name_of-some a.0.0 name.0 name.1 in
    let p = service_sound name.0 a.0.1 said name.2 in
    subst (IsSaid (codes "seek") rest) {x = Call name.0 (Seek p.service p.addresses)} p.is (record {
      text = after (codes "seek") rest _ (rejoin 32 rest a.0.0 a.0.1 _ _ (split_joined 32 rest a.0 a.1) n.0 p.text);
      within = (n.1, p.service_is, p.few, p.good);
    })

unseek_sound : (rest : List ℕ) (said : ScriptLine) → unseek_of rest ≡ Some said → IsSaid (codes "unseek") rest said
unfolding unseek_of
unseek_sound rest said h =
    let a = bind_some (split_of 32 rest) _ said h in
    let name = bind_some (name_of a.0.0) _ said a.2 in
    let near = bind_some (number_below (2 ^ 32) a.0.1) _ said name.2 in
    let n = name_of-some a.0.0 name.0 name.1 in
    let m = number_below-some (2 ^ 32) a.0.1 near.0 near.1 in
    subst (IsSaid (codes "unseek") rest) {x = Call name.0 (Unseek near.0)} (some_some _ _ near.2) (record {
      text = after (codes "unseek") rest _ (rejoin 32 rest a.0.0 a.0.1 _ _ (split_joined 32 rest a.0 a.1) n.0 m.0);
      within = (n.1, m.1);
    })

-- ---- redirect

-- a row that is said has these addresses, 16 at most
row_is : (name peer : List ℕ) (addresses : List AddressParts) (said : ScriptLine) → row_said name peer addresses ≡ Some said → (Towards name peer addresses Redirect ≡ said) × (length addresses ≤ 16)
row_is name peer addresses said h = elim (cases_Bool (nat_le (length addresses) 16)) [
  | inl few ↦ (some_some _ _ (rw few at h), leb-true _ _ few)
  | inr many ↦ absurd (let none : None ≡ Some said = rw many at h in cc)
]

-- there is one address at least
some_address : (text : List ℕ) (addresses : List AddressParts) → ((front : List ℕ) → words_text (front ∷ map address_text addresses) ≡ front ++ 32 ∷ text) → 1 ≤ length addresses
some_address text [] is = let clash : [] ≡ 32 ∷ text = is [] in absurd (cc)
some_address text (first ∷ more) is = omega arith

redirect_sound : (rest : List ℕ) (said : ScriptLine) → redirect_of rest ≡ Some said → IsSaid (codes "redirect") rest said
unfolding redirect_of
redirect_sound rest said h =
    let a = bind_some (split_of 32 rest) _ said h in
    let b = bind_some (split_of 32 a.0.1) _ said a.2 in
    let name = bind_some (name_of a.0.0) _ said b.2 in
    let peer = bind_some (name_of b.0.0) _ said name.2 in
    let addresses = bind_some (addresses_of b.0.1) _ said peer.2 in
    let n = name_of-some a.0.0 name.0 name.1 in
    let p = name_of-some b.0.0 peer.0 peer.1 in
    let l = addresses_of-some b.0.1 addresses.0 addresses.1 in
    let row = row_is name.0 peer.0 addresses.0 said addresses.2 in
    subst (IsSaid (codes "redirect") rest) row.0 (record {
      text = after (codes "redirect") rest _
          (rejoin 32 rest a.0.0 a.0.1 _ _ (split_joined 32 rest a.0 a.1) n.0
          (rejoin 32 a.0.1 b.0.0 b.0.1 peer.0 b.0.1 (split_joined 32 a.0.1 b.0 b.1) p.0 refl ∙ sym (l.text_is peer.0)));
      within = (n.1, p.1, some_address b.0.1 addresses.0 l.text_is, row.1, l.good);
    })

-- ---- flows

-- an end, a session ID, and what stands behind them
record IsSession (rest name : List ℕ) (near : ℕ) (behind : List ℕ) : Type 0 where
  text : (said : List ℕ) → behind ≡ said → rest ≡ name ++ 32 ∷ (decimal near ++ 32 ∷ said)
  name_is : IsName name
  near_fits : near < 2 ^ 32

session_at_sound : (rest : List ℕ) (s : List ℕ × ℕ × List ℕ) → session_at rest ≡ Some s → IsSession rest s.0 s.1 s.2
unfolding session_at
session_at_sound rest s h =
    let a = bind_some (split_of 32 rest) _ s h in
    let b = bind_some (split_of 32 a.0.1) _ s a.2 in
    let name = bind_some (name_of a.0.0) _ s b.2 in
    let near = bind_some (number_below (2 ^ 32) b.0.0) _ s name.2 in
    let n = name_of-some a.0.0 name.0 name.1 in
    let i = number_below-some (2 ^ 32) b.0.0 near.0 near.1 in
    subst (λ (p : List ℕ × ℕ × List ℕ). IsSession rest p.0 p.1 p.2) (some_some _ _ near.2) (record {
      text = λ said is.
          rejoin 32 rest a.0.0 a.0.1 _ _ (split_joined 32 rest a.0 a.1) n.0
          (rejoin 32 a.0.1 b.0.0 b.0.1 _ _ (split_joined 32 a.0.1 b.0 b.1) i.0 is);
      name_is = n.1;
      near_fits = i.1;
    })

-- what opens a flow
record IsFlow (name : List ℕ) (near : ℕ) (rest : List ℕ) (said : ScriptLine) : Type 0 where
  priority : ℕ
  metadata : List ℕ
  answers : Option ℕ
  is : Call name (Flow near priority metadata answers) ≡ said
  text : rest ≡ decimal priority ++ 32 ∷ words_text (bytes_text metadata ∷ word_for answers)
  small : priority < 256
  bytes : AreBytes metadata
  below : IsBelow (2 ^ 64) answers

flow_in_sound : (name : List ℕ) (near : ℕ) (rest : List ℕ) (said : ScriptLine) → flow_in name near rest ≡ Some said → IsFlow name near rest said
unfolding flow_in
flow_in_sound name near rest said h =
    let a = bind_some (split_of 32 rest) _ said h in
    let priority = bind_some (number_below 256 a.0.0) _ said a.2 in
    let b = bind_some (answers_of a.0.1) _ said priority.2 in
    let metadata = bind_some (hexadecimal_of b.0.0) _ said b.2 in
    let p = number_below-some 256 a.0.0 priority.0 priority.1 in
    let t = answers_of-some a.0.1 b.0 b.1 in
    let m = hexadecimal_of-some b.0.0 metadata.0 metadata.1 in
    record {
      priority = priority.0;
      metadata = metadata.0;
      answers = b.0.1;
      is = some_some (Call name (Flow near priority.0 metadata.0 b.0.1)) said metadata.2;
      text = rejoin 32 rest a.0.0 a.0.1 _ _ (split_joined 32 rest a.0 a.1) p.0 (t.text ∙ ap (λ (w : List ℕ). words_text (w ∷ word_for b.0.1)) m.0);
      small = p.1;
      bytes = m.1;
      below = t.below;
    }

flow_sound : (rest : List ℕ) (said : ScriptLine) → flow_of rest ≡ Some said → IsSaid (codes "flow") rest said
unfolding flow_of
flow_sound rest said h =
    let s = bind_some (session_at rest) _ said h in
    let i = session_at_sound rest s.0 s.1 in
    let f = flow_in_sound s.0.0 s.0.1 s.0.2 said s.2 in
    subst (IsSaid (codes "flow") rest) {x = Call s.0.0 (Flow s.0.1 f.priority f.metadata f.answers)} f.is (record {
      text = after (codes "flow") rest _ (i.text _ f.text);
      within = (i.name_is, i.near_fits, f.small, f.bytes, f.below);
    })

-- what stands behind the session of a message
abbrev queue_rest : ℕ → Option ℕ → Option ℕ → Content → List ℕ
queue_rest flow deadline resends content = decimal flow ++ 32 ∷ (number_text deadline ++ 32 ∷ (number_text resends ++ 32 ∷ content_text content))

-- what queues a message
record IsQueue (name : List ℕ) (near : ℕ) (rest : List ℕ) (said : ScriptLine) : Type 0 where
  flow : ℕ
  deadline : Option ℕ
  resends : Option ℕ
  content : Content
  is : Call name (Queue near flow deadline resends content) ≡ said
  text : rest ≡ queue_rest flow deadline resends content
  flow_fits : flow < 2 ^ 64
  deadline_fits : IsBelow (2 ^ 64) deadline
  resends_fit : IsBelow (2 ^ 32) resends
  content_is : IsContent content

queue_in_sound : (name : List ℕ) (near : ℕ) (rest : List ℕ) (said : ScriptLine) → queue_in name near rest ≡ Some said → IsQueue name near rest said
unfolding queue_in
queue_in_sound name near rest said h =
    let a = bind_some (split_of 32 rest) _ said h in
    let b = bind_some (split_of 32 a.0.1) _ said a.2 in
    let c = bind_some (split_of 32 b.0.1) _ said b.2 in
    let flow = bind_some (number_of a.0.0) _ said c.2 in
    let deadline = bind_some (limit_by number_of b.0.0) _ said flow.2 in
    let resends = bind_some (limit_by (number_below (2 ^ 32)) c.0.0) _ said deadline.2 in
    let content = bind_some (content_of c.0.1) _ said resends.2 in
    let f = number_of-some a.0.0 flow.0 flow.1 in
    let d = limit_by-some number_of (2 ^ 64) b.0.0 deadline.0 number_of-some deadline.1 in
    let r = limit_by-some (number_below (2 ^ 32)) (2 ^ 32) c.0.0 resends.0 (number_below-some (2 ^ 32)) resends.1 in
    let x = content_of-some c.0.1 content.0 content.1 in
    record {
      flow = flow.0;
      deadline = deadline.0;
      resends = resends.0;
      content = content.0;
      is = some_some (Call name (Queue near flow.0 deadline.0 resends.0 content.0)) said content.2;
      text =
          rejoin 32 rest a.0.0 a.0.1 _ _ (split_joined 32 rest a.0 a.1) f.0
          (rejoin 32 a.0.1 b.0.0 b.0.1 _ _ (split_joined 32 a.0.1 b.0 b.1) d.0
          (rejoin 32 b.0.1 c.0.0 c.0.1 _ _ (split_joined 32 b.0.1 c.0 c.1) r.0 x.0));
      flow_fits = f.1;
      deadline_fits = d.1;
      resends_fit = r.1;
      content_is = x.1;
    }

queue_sound : (rest : List ℕ) (said : ScriptLine) → queue_of rest ≡ Some said → IsSaid (codes "queue") rest said
unfolding queue_of
queue_sound rest said h =
    let s = bind_some (session_at rest) _ said h in
    let i = session_at_sound rest s.0 s.1 in
    let q = queue_in_sound s.0.0 s.0.1 s.0.2 said s.2 in
    subst (IsSaid (codes "queue") rest) {x = Call s.0.0 (Queue s.0.1 q.flow q.deadline q.resends q.content)} q.is (record {
      text = after (codes "queue") rest _ (i.text (queue_rest q.flow q.deadline q.resends q.content) q.text);
      within = (i.name_is, i.near_fits, q.flow_fits, q.deadline_fits, q.resends_fit, q.content_is);
    })

abandon_sound : (rest : List ℕ) (said : ScriptLine) → abandon_of rest ≡ Some said → IsSaid (codes "abandon") rest said
unfolding abandon_of
abandon_sound rest said h =
    let a = bind_some (split_of 32 rest) _ said h in
    let b = bind_some (split_of 32 a.0.1) _ said a.2 in
    let c = bind_some (split_of 32 b.0.1) _ said b.2 in
    let name = bind_some (name_of a.0.0) _ said c.2 in
    let near = bind_some (number_below (2 ^ 32) b.0.0) _ said name.2 in
    let flow = bind_some (number_of c.0.0) _ said near.2 in
    let seq = bind_some (number_of c.0.1) _ said flow.2 in
    let n = name_of-some a.0.0 name.0 name.1 in
    let i = number_below-some (2 ^ 32) b.0.0 near.0 near.1 in
    let f = number_of-some c.0.0 flow.0 flow.1 in
    let s = number_of-some c.0.1 seq.0 seq.1 in
    subst (IsSaid (codes "abandon") rest) {x = Call name.0 (Abandon near.0 flow.0 seq.0)} (some_some _ _ seq.2) (record {
      text = after (codes "abandon") rest _
          (rejoin 32 rest a.0.0 a.0.1 _ _ (split_joined 32 rest a.0 a.1) n.0
          (rejoin 32 a.0.1 b.0.0 b.0.1 _ _ (split_joined 32 a.0.1 b.0 b.1) i.0
          (rejoin 32 b.0.1 c.0.0 c.0.1 _ _ (split_joined 32 b.0.1 c.0 c.1) f.0 s.0)));
      within = (n.1, i.1, f.1, s.1);
    })

finish_sound : (rest : List ℕ) (said : ScriptLine) → finish_of rest ≡ Some said → IsSaid (codes "finish") rest said
unfolding finish_of
finish_sound rest said h =
    let a = bind_some (split_of 32 rest) _ said h in
    let b = bind_some (split_of 32 a.0.1) _ said a.2 in
    let name = bind_some (name_of a.0.0) _ said b.2 in
    let near = bind_some (number_below (2 ^ 32) b.0.0) _ said name.2 in
    let flow = bind_some (number_of b.0.1) _ said near.2 in
    let n = name_of-some a.0.0 name.0 name.1 in
    let i = number_below-some (2 ^ 32) b.0.0 near.0 near.1 in
    let f = number_of-some b.0.1 flow.0 flow.1 in
    subst (IsSaid (codes "finish") rest) {x = Call name.0 (Finish near.0 flow.0)} (some_some _ _ flow.2) (record {
      text = after (codes "finish") rest _
          (rejoin 32 rest a.0.0 a.0.1 _ _ (split_joined 32 rest a.0 a.1) n.0
          (rejoin 32 a.0.1 b.0.0 b.0.1 _ _ (split_joined 32 a.0.1 b.0 b.1) i.0 f.0));
      within = (n.1, i.1, f.1);
    })

-- ---- places

translator_sound : (rest : List ℕ) (said : ScriptLine) → translator_of rest ≡ Some said → IsSaid (codes "translator") rest said
unfolding translator_of
translator_sound rest said h =
    let a = bind_some (split_of 32 rest) _ said h in
    let b = bind_some (split_of 32 a.0.1) _ said a.2 in
    let c = bind_some (split_of 32 b.0.1) _ said b.2 in
    let d = bind_some (split_of 32 c.0.1) _ said c.2 in
    let name = bind_some (name_of a.0.0) _ said d.2 in
    let mapping = bind_some (rule_of b.0.0) _ said name.2 in
    let filter = bind_some (rule_of c.0.0) _ said mapping.2 in
    let host = bind_some (v4_of d.0.0) _ said filter.2 in
    let first = bind_some (number_below (2 ^ 16) d.0.1) _ said host.2 in
    let n = name_of-some a.0.0 name.0 name.1 in
    let v = v4_of-is_host d.0.0 host.0 host.1 in
    let p = number_below-some (2 ^ 16) d.0.1 first.0 first.1 in
    subst (IsSaid (codes "translator") rest) {x = Translator name.0 mapping.0 filter.0 host.0 first.0} (some_some _ _ first.2) (record {
      text = after (codes "translator") rest _
          (rejoin 32 rest a.0.0 a.0.1 _ _ (split_joined 32 rest a.0 a.1) n.0
          (rejoin 32 a.0.1 b.0.0 b.0.1 _ _ (split_joined 32 a.0.1 b.0 b.1) (rule_of-some b.0.0 mapping.0 mapping.1)
          (rejoin 32 b.0.1 c.0.0 c.0.1 _ _ (split_joined 32 b.0.1 c.0 c.1) (rule_of-some c.0.0 filter.0 filter.1)
          (rejoin 32 c.0.1 d.0.0 d.0.1 _ _ (split_joined 32 c.0.1 d.0 d.1) v.0 p.0))));
      within = (n.1, v.1, p.1);
    })

place_sound : (rest : List ℕ) (said : ScriptLine) → place_of rest ≡ Some said → IsSaid (codes "place") rest said
unfolding place_of
place_sound rest said h =
    let a = bind_some (split_of 32 rest) _ said h in
    let name = bind_some (name_of a.0.0) _ said a.2 in
    let n = name_of-some a.0.0 name.0 name.1 in
    let p = place_at-some name.0 a.0.1 said name.2 in
    subst (IsSaid (codes "place") rest) p.is (record {
      text = after (codes "place") rest _ (rejoin 32 rest a.0.0 a.0.1 _ _ (split_joined 32 rest a.0 a.1) n.0 p.text);
      within = (n.1, p.at_is, p.behind_is);
    })

carry_sound : (rest : List ℕ) (said : ScriptLine) → carry_of rest ≡ Some said → IsSaid (codes "carry") rest said
unfolding carry_of
carry_sound rest said h =
    let number = bind_some (number_of rest) _ said h in
    let m = number_of-some rest number.0 number.1 in
    subst (IsSaid (codes "carry") rest) (some_some _ _ number.2) (record { text = after (codes "carry") rest _ m.0; within = m.1 })

-- ---- by the first word

-- the word is this one, or another
is_word : (word key : List ℕ) → bytes_eq word key ≡ true → word ≡ key
is_word word key h = grind (arith, bytes_eq-Decides)

-- one key more
by : (word rest : List ℕ) (said : ScriptLine) (key : List ℕ) (here other : Option ScriptLine) → (here ≡ Some said → IsSaid key rest said) → (other ≡ Some said → IsSaid word rest said) →
    (if bytes_eq word key then here else other) ≡ Some said → IsSaid word rest said
by word rest said key here other sound later h = elim (cases_Bool (bytes_eq word key)) [
  | inl is ↦ subst (λ (w : List ℕ). IsSaid w rest said) (sym (is_word word key is)) (sound (rw is at h))
  | inr not ↦ later (rw not at h)
]

pub word_sound : (word rest : List ℕ) (said : ScriptLine) → word_of word rest ≡ Some said → IsSaid word rest said
unfolding word_of
word_sound word rest said =
    by word rest said (codes "end") (end_of rest) _ (end_sound rest said)
    (by word rest said (codes "introduce") (introduce_of rest) _ (introduce_sound rest said)
    (by word rest said (codes "narrow") (narrow_of rest) _ (narrow_sound rest said)
    (by word rest said (codes "redirect") (redirect_of rest) _ (redirect_sound rest said)
    (by word rest said (codes "at") (at_of rest) _ (at_sound rest said)
    (by word rest said (codes "open") (open_of rest) _ (open_sound rest said)
    (by word rest said (codes "seek") (seek_of rest) _ (seek_sound rest said)
    (by word rest said (codes "cancel") (cancel_of rest) _ (cancel_sound rest said)
    (by word rest said (codes "unseek") (unseek_of rest) _ (unseek_sound rest said)
    (by word rest said (codes "close") (close_of rest) _ (close_sound rest said)
    (by word rest said (codes "flow") (flow_of rest) _ (flow_sound rest said)
    (by word rest said (codes "queue") (queue_of rest) _ (queue_sound rest said)
    (by word rest said (codes "abandon") (abandon_of rest) _ (abandon_sound rest said)
    (by word rest said (codes "finish") (finish_of rest) _ (finish_sound rest said)
    (by word rest said (codes "learn") (learn_of rest) _ (learn_sound rest said)
    (by word rest said (codes "advance") (advance_of rest) _ (advance_sound rest said)
    (by word rest said (codes "tick") (tick_of rest) _ (tick_sound rest said)
    (by word rest said (codes "deliver") (deliver_of rest) _ (deliver_sound rest said)
    (by word rest said (codes "bent") (bent_of rest) _ (bent_sound rest said)
    (by word rest said (codes "inject") (inject_of rest) _ (inject_sound rest said)
    (by word rest said (codes "forge") (forge_of rest) _ (forge_sound rest said)
    (by word rest said (codes "translator") (translator_of rest) _ (translator_sound rest said)
    (by word rest said (codes "place") (place_of rest) _ (place_sound rest said)
    (by word rest said (codes "carry") (carry_of rest) None (carry_sound rest said) (λ h. absurd (cc h)))))))))))))))))))))))))

pub step_sound : (line : List ℕ) (said : ScriptLine) → step_of line ≡ Some said → IsLineOf line said
unfolding step_of
step_sound line said h = elim (cases_Bool (nat_le (length line) line_limit)) [
  | inl fits ↦
      let a = bind_some (split_of 32 line) (λ a. word_of a.0 a.1) said (rw fits at h) in
      let is = word_sound a.0.0 a.0.1 said a.2 in
      record { text = split_joined 32 line a.0 a.1 ∙ is.text; within = is.within; fits = leb-true _ _ fits }
  | inr long ↦ absurd (let none : None ≡ Some said = rw long at h in cc)
]
