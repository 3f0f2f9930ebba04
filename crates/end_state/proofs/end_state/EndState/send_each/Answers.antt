use Rattle.std.proofs.Common.{ℕ, ◌≡◌, ◌≤◌, ◌+◌, List, ◌++◌, ◌∷◌, [], length, take, Option, Some, None, Vec, Global, refl, sym, ap, ◌∙◌, subst, arith, length-append}
use Rattle.std.specs.Prelude.{option_to_list}
use Rattle.std.proofs.lemmas.List.{append-nil, take_more}
use Rattle.std.proofs.lemmas.List.Elements.{All-pop}
use Rattle.rtmfp_forms.specs.Address.{AddressParts}
use Rattle.crypto_profile.specs.Keys.{startup_keys_of}
use Rattle.endpoint_model.specs.declared.entry.Entry.{Entry}
use Rattle.endpoint_model.specs.Added.{Added}
use Rattle.endpoint_model.specs.State.{State, Did, Done}
use Rattle.endpoint_model.specs.Sending.{sent_each, sent_startup}
use Rattle.endpoint_model.proofs.Steps.{joined, each_more}
use Rattle.end_state.specs.Steps.{Gives}
use Rattle.end_state.proofs.end_state.EndState.send_each.Goals as goal

popped : {A : Type 0} (xs ys : List A) (r : Option A) (x : A) → xs ≡ ys ++ option_to_list r → r ≡ Some x → length xs ≡ length ys + 1
popped xs ys r x e is = ap length (e ∙ ap (λ o. ys ++ option_to_list o) is) ∙ length-append ys (x ∷ [])

-- one packet in the current generation
abbrev hello_sent : State → AddressParts → List ℕ → Did
hello_sent s to plain = sent_startup s s.group.generation (startup_keys_of s.group) to 0 plain

-- one address more
each_so : (s t u : State) (plain : List ℕ) (places : List AddressParts) (i : ℕ) (to : AddressParts) (before between after : Added) → take (i + 1) places ≡ take i places ++ to ∷ [] →
    Done (sent_each s plain (take i places)) t before between → Done (hello_sent t to plain) u between after → Done (sent_each s plain (take (i + 1) places)) u before after
each_so s t u plain places i to before between after taken so_far one =
    subst (λ d. Done d u before after) (sym (ap (sent_each s plain) taken ∙ each_more s plain (take i places) to))
    (joined (sent_each s plain (take i places)) (λ x. hello_sent x to plain) t u before between after so_far one)

-- a packet that is added, and one that isn't there
added_so : (d : Did) (t : State) (r : Option Entry) (entry : Entry) (before after : Added) → Gives d t r → r ≡ Some entry →
    after.entries ≡ before.entries ++ entry ∷ [] → before.free ≤ after.free + 1 → after.room ≡ before.room → Done d t before after
added_so d t r entry before after gives is added free room =
    let one : d.entries ≡ entry ∷ [] = gives.entries ∙ ap option_to_list is in
    record {
      state = gives.state;
      entries = added ∙ ap (λ xs. before.entries ++ xs) (sym one);
      free = omega (arith, free, ap length one);
      room = room;
    }

none_so : (d : Did) (t : State) (r : Option Entry) (out : Added) → Gives d t r → r ≡ None → Done d t out out
none_so d t r out gives is = record {
  state = gives.state;
  entries = sym (append-nil out.entries) ∙ ap (λ xs. out.entries ++ xs) (sym (gives.entries ∙ ap option_to_list is));
  free = omega arith;
  room = refl;
}

pub loop-to-preserved : goal.loop-to-preserved
loop-to-preserved c =
    let taken = take_more c.args.addresses.now c.loop-to.to-index c.to-item.result c.loop-to-test.true ∙ ap (λ to. take c.loop-to.to-index c.args.addresses.now ++ to ∷ []) (sym c.to-item.is) in
    let once = added_so (hello_sent c.loop-to.self c.to-item.result c.args.plain.now) c.seal_hello.new.self c.seal_hello.result c.in-Some-seal_hello.entry c.loop-to.out c.add.new.self
    c.seal_hello.ensures c.in-Some-seal_hello.is c.add.ensures.entries c.add.ensures.free c.add.ensures.room in
    record {
      done =
          each_so c.args.self.now c.loop-to.self c.seal_hello.new.self c.args.plain.now c.args.addresses.now c.loop-to.to-index c.to-item.result c.args.out.now c.loop-to.out c.add.new.self taken
          c.loop-to.invariant.done once;
      each = (All-pop (λ (bytes : Vec ℕ Global). length bytes.items ≡ 1200) c.loop-to.blanks.items c.pop.new.self.items c.pop.result c.pop.ensures.items c.loop-to.invariant.each).0;
      enough = omega (arith, c.loop-to.invariant.enough, popped c.loop-to.blanks.items c.pop.new.self.items c.pop.result c.in-Some.blank c.pop.ensures.items c.in-Some.is);
      room = omega (arith, c.loop-to.invariant.room, c.add.ensures.free);
    }

pub loop-to-preserved-in_default-seal_hello : goal.loop-to-preserved-in_default-seal_hello
loop-to-preserved-in_default-seal_hello c =
    let taken = take_more c.args.addresses.now c.loop-to.to-index c.to-item.result c.loop-to-test.true ∙ ap (λ to. take c.loop-to.to-index c.args.addresses.now ++ to ∷ []) (sym c.to-item.is) in
    let once = none_so (hello_sent c.loop-to.self c.to-item.result c.args.plain.now) c.seal_hello.new.self c.seal_hello.result c.loop-to.out
    c.seal_hello.ensures c.in_default-seal_hello.is in
    record {
      done =
          each_so c.args.self.now c.loop-to.self c.seal_hello.new.self c.args.plain.now c.args.addresses.now c.loop-to.to-index c.to-item.result c.args.out.now c.loop-to.out c.loop-to.out taken
          c.loop-to.invariant.done once;
      each = (All-pop (λ (bytes : Vec ℕ Global). length bytes.items ≡ 1200) c.loop-to.blanks.items c.pop.new.self.items c.pop.result c.pop.ensures.items c.loop-to.invariant.each).0;
      enough = omega (arith, c.loop-to.invariant.enough, popped c.loop-to.blanks.items c.pop.new.self.items c.pop.result c.in-Some.blank c.pop.ensures.items c.in-Some.is);
      room = omega (arith, c.loop-to.invariant.room);
    }
