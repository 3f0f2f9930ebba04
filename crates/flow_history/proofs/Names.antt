-- Names of flows and contexts, and when the tests say that two are the same.
use Rattle.std.proofs.Common.{◌≡◌, ℕ, ◌==◌, ◌&&◌, not, List, Bool, true, false, refl, sym, ap, ◌∙◌}
use Rattle.std.proofs.Common.{inl, inr}
use Rattle.std.specs.Str.{bytes_eq}
use Rattle.glare_core.specs.Tells.{Values}
use Rattle.glare_core.proofs.Tails.{same_end}
use Rattle.flow_history.specs.Deeds.{Context, back, Name, name, same_way, same_values, same}
use Rattle.flow_history.specs.Deeds.{same_name}
use Rattle.flow_history.proofs.Keeps.{tested}

both : (a b : Bool) → (a && b) ≡ true → (a ≡ true) × (b ≡ true)
both true b e = (refl, e)
both false b e = absurd cc

number_is : (a b : ℕ) → (a == b) ≡ true → a ≡ b
number_is a b e =
    elim (tested a b) [ inl d ↦ d.0 | inr d ↦ absurd (let q : true ≡ false = sym e ∙ d.1 in cc) ]

pub number_self : (a : ℕ) → (a == a) ≡ true
number_self a = elim (tested a a) [ inl d ↦ d.1 | inr d ↦ absurd (d.0 refl) ]

pub number_same : (a b : ℕ) → (a == b) ≡ true → a ≡ b
number_same a b e = number_is a b e

way_is : (a b : Bool) → same_way a b ≡ true → a ≡ b
way_is true true e = refl
way_is true false e = absurd cc
way_is false true e = absurd cc
way_is false false e = refl

way_self : (a : Bool) → same_way a a ≡ true
way_self true = refl
way_self false = refl

way_back : (a : Bool) → same_way (not a) a ≡ false
way_back true = refl
way_back false = refl

not_not : (a : Bool) → not (not a) ≡ a
not_not true = refl
not_not false = refl

bytes_is : (x y : List ℕ) → bytes_eq x y ≡ true → x ≡ y
bytes_is x y e =
    elim (same_end x y) [ inl d ↦ d.0 | inr d ↦ absurd (let q : true ≡ false = sym e ∙ d.1 in cc) ]

bytes_self : (x : List ℕ) → bytes_eq x x ≡ true
bytes_self x = elim (same_end x x) [ inl d ↦ d.1 | inr d ↦ absurd (d.0 refl) ]

and_self : (a b : Bool) → a ≡ true → b ≡ true → (a && b) ≡ true
and_self true b e f = f
and_self false b e f = absurd cc

session_is : (v w : Values) → same_values v w ≡ true → v ≡ w
session_is v w e =
    let a = both (bytes_eq v.ni w.ni) _ e in
    let b = both (bytes_eq v.nr w.nr) _ a.1 in
    let c = both (bytes_eq v.initiator w.initiator) _ b.1 in
    let d = both (bytes_eq v.responder w.responder) _ c.1 in
    let f = both (v.near_i == w.near_i) (v.near_r == w.near_r) d.1 in
    let ni = bytes_is v.ni w.ni a.0 in
    let nr = bytes_is v.nr w.nr b.0 in
    let initiator = bytes_is v.initiator w.initiator c.0 in
    let responder = bytes_is v.responder w.responder d.0 in
    let near_i = number_is v.near_i w.near_i f.0 in
    let near_r = number_is v.near_r w.near_r f.1 in
    λ i. record {
      ni = ni i;
      nr = nr i;
      initiator = initiator i;
      responder = responder i;
      near_i =
          near_i i;
      near_r = near_r i;
    }

session_self : (v : Values) → same_values v v ≡ true
session_self v =
    and_self (bytes_eq v.ni v.ni) _ (bytes_self v.ni)
    (
    and_self (bytes_eq v.nr v.nr) _ (bytes_self v.nr)
    (
    and_self (bytes_eq v.initiator v.initiator) _ (bytes_self v.initiator)
    (and_self (bytes_eq v.responder v.responder) _ (bytes_self v.responder)
    (and_self (v.near_i == v.near_i) (v.near_r == v.near_r) (number_self v.near_i)
    (number_self v.near_r)))
    )
    )

abbrev context : Values → Bool → Context
context s w = record { session = s; to_responder = w }

pub same_is : (c d : Context) → same c d ≡ true → c ≡ d
same_is c d e =
    let k = both (same_values c.session d.session) (same_way c.to_responder d.to_responder) e in
    ap (λ s. context s c.to_responder) (session_is c.session d.session k.0)
    ∙ ap (λ w. context d.session w) (way_is c.to_responder d.to_responder k.1)

pub same_self : (c : Context) → same c c ≡ true
same_self c = ap (λ b. b && same_way c.to_responder c.to_responder) (session_self c.session)
    ∙ way_self c.to_responder

pub same_back : (c : Context) → same (back c) c ≡ false
same_back c = ap (λ b. b && same_way (not c.to_responder) c.to_responder) (session_self c.session)
    ∙ way_back c.to_responder

pub back_back : (c : Context) → back (back c) ≡ c
back_back c = ap (λ w. context c.session w) (not_not c.to_responder)

pub name_is : (m n : Name) → same_name m n ≡ true → m ≡ n
name_is m n e =
    let k = both (m.flow == n.flow) (same m.context n.context) e in
    ap (λ c. name c m.flow) (same_is m.context n.context k.1)
    ∙ ap (λ f. name n.context f) (number_is m.flow n.flow k.0)
